-- What a filter has, and from what a pointer that finds no slot taken diverges.
use Rattle.json_patch_apart.proofs.Common.{◌≡◌, ◌↔◌, ℕ, zero, suc, List, [], ◌∷◌, ◌++◌, take, drop, subst, sym, ap, ◌∙◌}
use Rattle.json_patch_apart.proofs.Common.{Option, Bool, true, false, Pointer, IsPrefix, Operation, PatchOperation}
use Rattle.json_patch_apart.proofs.Common.{operation_of, operations}
use Rattle.std.proofs.Common.{◌+◌, ◌<◌, ◌≤◌, get_or, length, refl}
use lib.ListN.{replicate}
use Rattle.std.proofs.lemmas.List.{drop_all, drop_more}
use Rattle.std.specs.List.{AllByRecursion}
use Rattle.json_patch_apart.specs.Apart.{AllDiverge, AreApart, Diverge, DivergesFrom, IsApart, IsApartFrom, changed_by}
use Rattle.json_patch_apart.specs.Apart.{read_by}
use Rattle.json_patch_apart.specs.Filters.{Along, Has, HasAll, KeepsTaken, KeepsSlots, slot_after, slot_from}
use Rattle.json_patch_apart.proofs.Divergence.{all_back}
use Rattle.json_patch_apart.specs.Footprints.{IsFootprint, listed}
use Rattle.json_patch_apart.specs.declared.apart.Footprint.{Footprint}
use Rattle.json_patch_apart.specs.declared.filter.Filter.{Filter}
use Rattle.jsonptr.specs.declared.pointer.Pointer as declared

here : (b : Bool) (slots : List Bool) (h : ℕ) (P : Pointer) → Along b slots h P → get_or slots h false ≡ b
here b slots h [] a = a
here b slots h (t ∷ P) a = a.0

-- what begins the pointer has a slot on its way
on_the_way : (b : Bool) (slots : List Bool) (h : ℕ) (A R : Pointer) → Along b slots h (A ++ R) → get_or slots (slot_from h A) false ≡ b
on_the_way b slots h [] R a = here b slots h R a
on_the_way b slots h (t ∷ A) R a = on_the_way b slots (slot_after h t) A R a.1

begins : (b : Bool) (slots : List Bool) (A P : Pointer) → IsPrefix A P → Along b slots 0 P → get_or slots (slot_from 0 A) false ≡ b
begins b slots A P i a = on_the_way b slots 0 A i.0 (subst (Along b slots 0) i.1 a)

pub diverges : (f : Filter) (P Q : Pointer) → Along false f.whole 0 P → get_or f.begun (slot_from 0 P) false ≡ false → Has f Q → Diverge Q P
diverges f P Q free none has = (
  λ i. (let free : get_or f.whole (slot_from 0 Q) false ≡ false = begins false f.whole Q P i free in let taken = has.whole in cc),
  λ i. (let taken : get_or f.begun (slot_from 0 P) false ≡ true = begins true f.begun P Q i has.begun in cc),
)

-- ---- slots of which none is taken

none_taken : (n i : ℕ) → get_or (replicate n false) i false ≡ false
none_taken zero i = refl
none_taken (suc n) zero = refl
none_taken (suc n) (suc i) = none_taken n i

pub holds_none : (n : ℕ) (f : Filter) → f.whole ≡ replicate n false → (P : Pointer) → Has f P → ⊥
holds_none n f is P has =
    let none : get_or f.whole (slot_from 0 P) false ≡ false = ap (λ l. get_or l (slot_from 0 P) false) is ∙ none_taken n (slot_from 0 P) in
    let taken = has.whole in
    cc

-- ---- slots that stay taken

pub kept_itself : (slots : List Bool) → KeepsTaken slots slots
kept_itself slots i at = at

pub kept_on : (f g h : Filter) → KeepsSlots f g → KeepsSlots g h → KeepsSlots f h
kept_on f g h k l = (λ i at. l.0 i (k.0 i at), λ i at. l.1 i (k.1 i at))

pub along_kept : (old new : List Bool) (h : ℕ) (P : Pointer) → KeepsTaken old new → Along true old h P → Along true new h P
along_kept old new h [] k a = k h a
along_kept old new h (t ∷ P) k a = (k h a.0, along_kept old new (slot_after h t) P k a.1)

pub has_kept : (f g : Filter) (P : Pointer) → KeepsSlots f g → Has f P → Has g P
has_kept f g P k has = record { begun = along_kept f.begun g.begun 0 P k.0 has.begun; whole = k.1 (slot_from 0 P) has.whole }

pub all_kept : (f g : Filter) (Ps : List Pointer) → KeepsSlots f g → AllByRecursion (Has f) Ps → AllByRecursion (Has g) Ps
all_kept f g [] k has = tt
all_kept f g (P ∷ Ps) k has = (has_kept f g P k has.0, all_kept f g Ps k has.1)

pub op_kept : (f g : Filter) (op : Operation) → KeepsSlots f g → HasAll f op → HasAll g op
op_kept f g op k has = (all_kept f g (changed_by op) k has.0, all_kept f g (read_by op) k has.1)

pub one_left : (f : Filter) (ops : List PatchOperation) (n : ℕ) (op : PatchOperation) → n < length ops → op ≡ get_or ops n op → HasAll f (operation_of op) → AllByRecursion (HasAll f) (operations (drop (n + 1) ops))
    → AllByRecursion (HasAll f) (operations (drop n ops))
one_left f ops n op lt is has rest = subst (λ l. AllByRecursion (HasAll f) (operations l)) (sym (drop_more ops n op lt ∙ ap (λ x. x ∷ drop (n + 1) ops) (sym is))) (has, rest)

pub none_left : (f : Filter) (ops : List PatchOperation) (n : ℕ) → length ops ≤ n → AllByRecursion (HasAll f) (operations (drop n ops))
none_left f ops n past = subst (λ l. AllByRecursion (HasAll f) (operations l)) (sym (drop_all n ops past)) tt

pub all_joined : (H : Pointer → Type 0) (Ps Qs : List Pointer) → AllByRecursion H Ps → AllByRecursion H Qs → AllByRecursion H (Ps ++ Qs)
all_joined H [] Qs h g = g
all_joined H (P ∷ Ps) Qs h g = (h.0, all_joined H Ps Qs h.1 g)

-- ---- operations whose pointers find no slot taken

all_diverge : (f : Filter) (Qs Ps : List Pointer) → ((Q : Pointer) → Has f Q → DivergesFrom Q Ps) → AllByRecursion (Has f) Qs → AllDiverge Qs Ps
all_diverge f [] Ps free has = tt
all_diverge f (Q ∷ Qs) Ps free has = (free Q has.0, all_diverge f Qs Ps free has.1)

clear_apart : (f : Filter) (x y : Operation) → ((Q : Pointer) → Has f Q → DivergesFrom Q (changed_by x)) → ((Q : Pointer) → Has f Q → DivergesFrom Q (read_by x)) → HasAll f y → IsApart x y
clear_apart f x y changed read has = record {
  changes = all_back (changed_by y) (changed_by x) (all_diverge f (changed_by y) (changed_by x) changed has.0);
  first = all_back (read_by y) (changed_by x) (all_diverge f (read_by y) (changed_by x) changed has.1);
  second = all_diverge f (changed_by y) (read_by x) read has.0;
}

clear_from : (f : Filter) (x : Operation) (ys : List Operation) → ((Q : Pointer) → Has f Q → DivergesFrom Q (changed_by x)) → ((Q : Pointer) → Has f Q → DivergesFrom Q (read_by x)) → AllByRecursion (HasAll f) ys
    → IsApartFrom x ys
clear_from f x [] changed read has = tt
clear_from f x (y ∷ ys) changed read has = (clear_apart f x y changed read has.0, clear_from f x ys changed read has.1)

abbrev IsClear : Filter → Option declared.Pointer → Type 0
IsClear f p = (Q : Pointer) → Has f Q → DivergesFrom Q (listed p)

pub told_apart : (f : Filter) (p : Footprint) (x : Operation) → IsFootprint p x → IsClear f p.source → IsClear f p.target → IsClear f p.read → (ys : List Operation) → AllByRecursion (HasAll f) ys → IsApartFrom x ys
told_apart f p x is source target read ys has =
    clear_from f x ys (λ Q h. subst (DivergesFrom Q) (sym is.0) (all_joined (Diverge Q) (listed p.source) (listed p.target) (source Q h) (target Q h)))
    (λ Q h. subst (DivergesFrom Q) (sym is.1) (read Q h)) has

-- ---- a list cut in two

one_cut : (x : Operation) (n : ℕ) (ys : List PatchOperation) → IsApartFrom x (operations ys) ↔ (IsApartFrom x (operations (take n ys)) × IsApartFrom x (operations (drop n ys)))
one_cut x zero ys = (λ h. (tt, h), λ h. h.1)
one_cut x (suc n) [] = (λ h. (tt, tt), λ h. tt)
one_cut x (suc n) (y ∷ ys) = let c = one_cut x n ys in (λ h. ((h.0, (c.0 h.1).0), (c.0 h.1).1), λ h. (h.0.0, c.1 (h.0.1, h.1)))

pub apart_cut : (xs : List Operation) (n : ℕ) (ys : List PatchOperation) → AreApart xs (operations ys) ↔ (AreApart xs (operations (take n ys)) × AreApart xs (operations (drop n ys)))
apart_cut [] n ys = (λ h. (tt, tt), λ h. tt)
apart_cut (x ∷ xs) n ys =
    let c = apart_cut xs n ys in let o = one_cut x n ys in
    (λ h. (((o.0 h.0).0, (c.0 h.1).0), ((o.0 h.0).1, (c.0 h.1).1)), λ h. (o.1 (h.0.0, h.1.0), c.1 (h.0.1, h.1.1)))
