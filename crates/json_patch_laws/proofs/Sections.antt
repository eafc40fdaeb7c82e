-- A list of operations below a pointer changes nothing elsewhere.
use Rattle.json_patch_laws.proofs.Common.{◌≡◌, List, [], ◌∷◌, ◌++◌, Option, Some, None, refl, sym, ap, ◌∙◌, subst}
use Rattle.json_patch_laws.proofs.Common.{Data, Pointer, IsPrefix, IsProperPrefix, IsDocument, Segment, look}
use Rattle.json_patch_laws.proofs.Common.{Resolves, StandsAt, HasTarget, IsAdded, Operation, add, remove, replace, move}
use Rattle.json_patch_laws.proofs.Common.{copy, test, AreWhole, Leaves, Accepts, IsReplaced, IsWithin, AreWithin, pointee}
use Rattle.json_patch_operation.specs.Shared.{KeepsElsewhere}
use Rattle.json_patch_laws.proofs.Locality.{runs_alike}
use Rattle.json_patch_edit.proofs.Locations.{found_resolves, resolves_found, split_is}
use Rattle.json_patch_laws.proofs.SharedTokens.{no_proper, proper_front}

-- ---- where an accepted operation is below a pointer, this leads somewhere

begin_resolves : (d : Data) (S R : Pointer) (L : List Segment) (c : Data) → Resolves d (S ++ R) L c → (b : Data) × StandsAt d S b
begin_resolves d [] R L c h = (d, ([], refl))
begin_resolves d (t ∷ S) R [] c h = absurd h
begin_resolves d (t ∷ S) R (s ∷ L) c h = let i : (b : Data) × StandsAt h.0 S b = begin_resolves h.0 S R L c h.3 in (i.0, (s ∷ i.1.0, (h.0, h.1, h.2, i.1.1)))

prefix_resolves : (d : Data) (S P : Pointer) (L : List Segment) (c : Data) → IsPrefix S P → Resolves d P L c → (b : Data) × StandsAt d S b
prefix_resolves d S P L c p h = begin_resolves d S p.0 L c (subst (λ Q. Resolves d Q L c) p.1 h)

below_resolves : (d : Data) (S P : Pointer) (L : List Segment) (c : Data) → IsProperPrefix S P → Resolves d P L c → (b : Data) × StandsAt d S b
below_resolves d S P L c p h = prefix_resolves d S P L c (p.0 ∷ p.1, p.2) h

below_added : (d : Data) (S P : Pointer) (v e : Data) → IsProperPrefix S P → IsAdded d P v e → (b : Data) × StandsAt d S b
below_added d S [] v e p h = absurd (no_proper S p)
below_added d S (t ∷ P) v e p h =
    let target : HasTarget d (t ∷ P) h.0 h.1 = h.2 in
    let front = (split_is t P target.front target.last target.whole).0 in
    prefix_resolves d S target.front h.0 target.parent (subst (IsPrefix S) (sym front) (proper_front S t P p)) target.resolves

leads_somewhere : (d : Data) (S : Pointer) (op : Operation) (e : Data) → IsWithin S op → Leaves d op e → (b : Data) × StandsAt d S b
leads_somewhere d S (add P v) e w h = below_added d S P v e w h
leads_somewhere d S (remove P) e w h = below_resolves d S P _ h.2 w h.3
leads_somewhere d S (replace P v) e w h = below_resolves d S P h.0 h.1 w h.2
leads_somewhere d S (move F P) e w h = below_resolves d S F h.1.2.0 h.1.0 w.0 h.1.2.1
leads_somewhere d S (copy F P) e w h = below_resolves d S F h.1.0 h.0 w.0 h.1.1
leads_somewhere d S (test P v) e w h = below_resolves d S P h.0.0 v w h.0.1

-- ---- what is elsewhere

unless_it_leads : (d : Data) (S : Pointer) (ops : List Operation) (x : Data) → pointee d S ≡ None → AreWithin S ops → Accepts d ops x → d ≡ x
unless_it_leads d S [] x none w h = h
unless_it_leads d S (op ∷ ops) x none w h =
    let b : (c : Data) × StandsAt d S c = leads_somewhere d S op h.0 w.0 h.1 in
    let some : Some b.0 ≡ None = sym (resolves_found d S b.1.0 b.0 b.1.1) ∙ none in cc

by_what_stands : (d : Data) (S : Pointer) (ops : List Operation) (x : Data) (o : Option Data) → pointee d S ≡ o → IsDocument d → AreWhole ops → AreWithin S ops → Accepts d ops x → KeepsElsewhere S d x
by_what_stands d S ops x None is hd hw w h X beside = ap (λ e. look e X) (sym (unless_it_leads d S ops x is w h))
by_what_stands d S ops x (Some b) is hd hw w h X beside =
    let run = (runs_alike d S b ops hd hw (found_resolves d S b is) w x).0 h in
    let replaced : IsReplaced d S run.0 x = run.2 in
    replaced.4.elsewhere X (λ R at. beside replaced.0 R replaced.1 replaced.2 at)

pub elsewhere_kept : (d : Data) (S : Pointer) (ops : List Operation) (x : Data) → IsDocument d → AreWhole ops → AreWithin S ops → Accepts d ops x → KeepsElsewhere S d x
elsewhere_kept d S ops x hd hw w h = by_what_stands d S ops x (pointee d S) refl hd hw w h
