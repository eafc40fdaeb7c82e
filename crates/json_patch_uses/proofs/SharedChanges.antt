-- Changes that lead from one version of a shared document to another.
use Rattle.std.proofs.Common.{◌≡◌, ◌+◌, ◌<◌, ◌≤◌, ℕ, zero, suc, List, [], ◌∷◌, ◌++◌, drop, length, length-append, refl}
use Rattle.std.proofs.Common.{sym, ap, ◌∙◌, subst, arith, get_or}
use Rattle.std.proofs.Math.Logic.{∥∥₁_elim, ∥∥₁_map}
use Rattle.std.proofs.lemmas.List.{drop_more, drop-append-le}
use Rattle.std.specs.List.{AllWithin, HoldsAt}
use Rattle.std.specs.Prelude.{◌↔◌, slice_index_or}
use Rattle.serde_json.specs.Data.{Data}
use Rattle.json_patch.specs.Apart.{AreApart}
use Rattle.json_patch.specs.Document.{IsDocument}
use Rattle.json_patch.specs.Inverse.{IsInverse}
use Rattle.json_patch.specs.Operation.{Operation, AreWhole}
use Rattle.json_patch.specs.Run.{Accepts, IsAccepted, RefusesAt}
use Rattle.json_patch.specs.PatchErrorKind.{PatchErrorKind}
use Rattle.json_patch_uses.specs.History.{Lead, LeadFromADocument, joined, patch_of, undo_of}
use Rattle.json_patch_uses.specs.SharedDocuments.{AreKept, CollidesAt, IsMade, IsVersion, document_of, since, version_of}
use Rattle.json_patch_uses.specs.declared.history.Change.{Change}
use Rattle.json_patch_uses.specs.declared.shared.SharedDocument.{SharedDocument}

-- ---- the changes since a version, joined

abbrev pub ApartJoined : Type 0
ApartJoined = (xs ys zs : List Operation) → AreApart xs ys → AreApart xs zs → AreApart xs (ys ++ zs)

pub apart_since : ApartJoined → (ops : List Operation) → AreApart ops [] → (cs : List Change) (k : ℕ) → AllWithin (λ c. AreApart ops (patch_of c)) cs k (length cs) → AreApart ops (joined (drop k cs))
apart_since law ops none [] zero h = none
apart_since law ops none [] (suc k) h = none
apart_since law ops none (c ∷ cs) zero h =
    law ops (patch_of c) (joined cs) (h 0 c (omega arith) (omega arith)) (apart_since law ops none cs zero (λ j d le lt. h (suc j) d (omega arith) (omega (arith, lt))))
apart_since law ops none (c ∷ cs) (suc k) h = apart_since law ops none cs k (λ j d le lt. h (suc j) d (omega (arith, le)) (omega (arith, lt)))

both_whole : (xs ys : List Operation) → AreWhole xs → AreWhole ys → AreWhole (xs ++ ys)
both_whole [] ys h g = g
both_whole (x ∷ xs) ys h g = (h.0, both_whole xs ys h.1 g)

pub joined_whole : (cs : List Change) → AreWhole (joined cs)
joined_whole [] = tt
joined_whole (c ∷ cs) = both_whole (patch_of c) (joined cs) c.patch_whole (joined_whole cs)

abbrev pub Joined : Type 0
Joined = (d : Data) (xs ys : List Operation) (e : Data) → Accepts d (xs ++ ys) e ↔ ((m : Data) × Accepts d xs m × Accepts m ys e)

pub lead_accepts : Joined → (cs : List Change) (d e : Data) → Lead d cs e → Accepts d (joined cs) e
lead_accepts law [] d e h = h
lead_accepts law (c ∷ cs) d e h = (law d (patch_of c) (joined cs) e).1 (h.0, h.1, lead_accepts law cs h.0 e h.3)

-- ---- each version

abbrev pub KeepsDocuments : Type 0
KeepsDocuments = (d : Data) (ops : List Operation) (e : Data) → IsDocument d → AreWhole ops → Accepts d ops e → IsDocument e

on_the_way : KeepsDocuments → (cs : List Change) (k : ℕ) (d e : Data) → k ≤ length cs → IsDocument d → Lead d cs e → (m : Data) × IsDocument m × Lead m (drop k cs) e
on_the_way law [] zero d e le document l = (d, document, l)
on_the_way law [] (suc k) d e le document l = absurd (omega (arith, le))
on_the_way law (c ∷ cs) zero d e le document l = (d, document, l)
on_the_way law (c ∷ cs) (suc k) d e le document l = on_the_way law cs k l.0 e (omega (arith, le)) (law d (patch_of c) l.0 document c.patch_whole l.1) l.3

pub each_is_there : KeepsDocuments → (s : SharedDocument) (k : ℕ) → k ≤ version_of s → ∥ ((d : Data) × IsVersion s k d) ∥₁
each_is_there law s k le = ∥∥₁_map s.opened (λ o.
    (let v = on_the_way law s.changes.items k o.0 (document_of s) le o.1 o.2 in (
      v.0,
      record {
        document = v.1;
        counted = le;
        leads = v.2;
      },
    )))

none_past : (cs : List Change) (k : ℕ) → length cs ≤ k → joined (drop k cs) ≡ []
none_past [] zero le = refl
none_past [] (suc k) le = refl
none_past (c ∷ cs) zero le = absurd (omega (arith, le))
none_past (c ∷ cs) (suc k) le = none_past cs k (omega (arith, le))

pub none_since : (s : SharedDocument) (k : ℕ) → version_of s ≤ k → since s k ≡ []
none_since s k le = none_past s.changes.items k le

-- ---- a change below others, taken back

abbrev pub UndoKeeps : Type 0
UndoKeeps = (d : Data) (xs ys I : List Operation) (m e : Data) → IsDocument d → AreWhole xs → AreWhole ys → AreApart xs ys → IsInverse d xs I → Accepts d xs m → Accepts m ys e
    → (n : Data) × Accepts d ys n × IsAccepted e I n

pub taken_back : Joined → UndoKeeps → (s : SharedDocument) (k : ℕ) (c : Change) → k < length s.changes.items → c ≡ get_or s.changes.items k c → AreApart (patch_of c) (since s (k + 1)) → (d : Data) → IsVersion s k d
    → (n : Data) × Accepts d (since s (k + 1)) n × IsAccepted (document_of s) (undo_of c) n
taken_back law keeps s k c lt is a d v =
    let rest : List Change = drop (k + 1) s.changes.items in
    let now : drop k s.changes.items ≡ c ∷ rest = drop_more s.changes.items k c lt ∙ ap (λ x. x ∷ rest) (sym is) in
    let l : Lead d (c ∷ rest) (document_of s) = subst (λ cs. Lead d cs (document_of s)) now v.leads in
    keeps d (patch_of c) (joined rest) (undo_of c) l.0 (document_of s) v.document c.patch_whole (joined_whole rest) a l.2 l.1 (lead_accepts law rest l.0 (document_of s) l.3)

pub never_refused : KeepsDocuments → Joined → UndoKeeps → (s : SharedDocument) (k : ℕ) (c : Change) → k < length s.changes.items → c ≡ get_or s.changes.items k c → AreApart (patch_of c) (since s (k + 1))
    → (n : ℕ) (kind : PatchErrorKind) → RefusesAt (document_of s) (undo_of c) n kind → ⊥
never_refused documents law keeps s k c lt is a n kind refuses =
    ∥∥₁_elim (each_is_there documents s k (omega (arith, lt))) (λ p q. absurd p) (λ v. (taken_back law keeps s k c lt is a v.0 v.1).2.nowhere n kind refuses)

-- ---- a change more

pub made_by : (d e : Data) (ops : List Operation) (old cs new : List Change) (x : Change) → cs ≡ old → new ≡ cs ++ x ∷ [] → patch_of x ≡ ops → Accepts d ops e → IsInverse d ops (undo_of x)
    → (y : Change) × (new ≡ old ++ y ∷ []) × (patch_of y ≡ ops) × Accepts d ops e × IsInverse d ops (undo_of y)
made_by d e ops old cs new x same is named accepted inverse = (x, is ∙ ap (λ l. l ++ x ∷ []) same, named, accepted, inverse)

lead_more : (cs : List Change) (c : Change) (d m e : Data) → Lead d cs m → Accepts m (patch_of c) e → IsInverse m (patch_of c) (undo_of c) → Lead d (cs ++ c ∷ []) e
lead_more [] c d m e h accepted inverse = subst (λ x. Lead x (c ∷ []) e) (sym h) (e, accepted, inverse, refl)
lead_more (b ∷ cs) c d m e h accepted inverse = (h.0, h.1, h.2, lead_more cs c h.0 m e h.3 accepted inverse)

pub leads_on : (d e : Data) (ops : List Operation) (old new : List Change) → LeadFromADocument old d
    → (x : Change) × (new ≡ old ++ x ∷ []) × (patch_of x ≡ ops) × Accepts d ops e × IsInverse d ops (undo_of x) → LeadFromADocument new e
leads_on d e ops old new opened m = ∥∥₁_map opened (λ o. (
  o.0,
  o.1,
  subst (λ cs. Lead o.0 cs e) (sym m.1) (lead_more old m.0 o.0 d e o.2
      (subst (λ os. Accepts d os e) (sym m.2) m.3) (subst (λ os. IsInverse d os (undo_of m.0)) (sym m.2) m.4)),
))

pub change_keeps : (s t : SharedDocument) (ops : List Operation) (k : ℕ) (d : Data) → IsMade s ops t → IsVersion s k d → IsVersion t k d
change_keeps s t ops k d m v =
    let longer : length t.changes.items ≡ length s.changes.items + 1 = ap length m.1 ∙ length-append s.changes.items (m.0 ∷ []) in
    let left : drop k t.changes.items ≡ drop k s.changes.items ++ m.0 ∷ [] = ap (drop k) m.1 ∙ drop-append-le k s.changes.items (m.0 ∷ []) v.counted in
    record {
      document = v.document;
      counted = omega (arith, v.counted, longer);
      leads = subst (λ l. Lead d l (document_of t)) (sym left) (lead_more (drop k s.changes.items) m.0 d (document_of s) (document_of t) v.leads
          (subst (λ os. Accepts (document_of s) os (document_of t)) (sym m.2) m.3) (subst (λ os. IsInverse (document_of s) os (undo_of m.0)) (sym m.2) m.4));
    }

pub refusal_keeps : (s t : SharedDocument) (k : ℕ) (d : Data) → AreKept s t → IsVersion s k d → IsVersion t k d
refusal_keeps s t k d same v = record {
  document = v.document;
  counted = subst (λ l. k ≤ length l) (sym same.1) v.counted;
  leads = subst (λ l. Lead d (drop k l) (document_of t)) (sym same.1) (subst (Lead d (drop k s.changes.items)) (sym same.0) v.leads);
}

-- ---- the newest change

some_change : (cs : List Change) → 0 < length cs → Change
some_change [] some = absurd (omega (arith, some))
some_change (c ∷ cs) some = c

pub newest_meets_none : (s : SharedDocument) (k v : ℕ) → version_of s ≡ k + 1 → HoldsAt (λ c. CollidesAt s (k + 1) (patch_of c) v) s.changes.items k → ⊥
newest_meets_none s k v last collides =
    let at : CollidesAt s (k + 1) (patch_of (slice_index_or s.changes.items k _)) v = collides (some_change s.changes.items (omega (arith, last))) in
    omega (arith, at.since, at.made, last)
