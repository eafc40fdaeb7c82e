-- Lists with a test before each removal and replacement.
use Rattle.std.proofs.Common.{◌≡◌, IsSome, is_some, true, ◌*◌, ◌<◌, ◌≤◌, List, [], ◌∷◌, ◌++◌, length, Option, Some, None, Ok, refl, sym, ap, ◌∙◌, arith, subst, append_assoc, append-nil, option_map, option_to_list}
use Rattle.std.proofs.lemmas.List.{length-append, length-map, map-append}
use Rattle.std.specs.Prelude.{◌↔◌}
use Rattle.serde_json.specs.Data.{Data}
use Rattle.jsonptr.specs.Text.{Pointer}
use Rattle.json_patch.specs.ChangeComputed.{pointee}
use Rattle.json_patch.specs.Document.{IsDocument}
use Rattle.json_patch.specs.Inverse.{ArePlain, IsBlock, IsInverse}
use Rattle.json_patch.specs.Operation.{Operation, AreWhole, IsWholeOp, operation_of, operations, add, remove, replace, move, copy, test}
use Rattle.json_patch.specs.PatchOperation.{PatchOperation}
use Rattle.json_patch.specs.Resolve.{StandsAt}
use Rattle.json_patch.specs.Run.{Accepts, IsAccepted}
use Rattle.json_patch.specs.Step.{Leaves}
use Rattle.json_patch_diff.specs.Guarded.{AcceptsBeside, AgreesAt, Guards, IsGuarded}
use Rattle.json_patch_diff.specs.Steps.{AreChanges, IsChange, takes, tests_of}
use Rattle.json_patch_diff.proofs.Results.{KeepsDocuments, RunEnds, StepLeft, only_end}

-- ---- lists

no_end : {X : Type 0} (xs : List X) (x : X) → xs ++ x ∷ [] ≡ [] → ⊥
no_end [] x is = cc
no_end (y ∷ xs) x is = cc

-- two lists with one more at the end
ends_alike : {X : Type 0} (xs ys : List X) (x y : X) → xs ++ x ∷ [] ≡ ys ++ y ∷ [] → (xs ≡ ys) × (x ≡ y)
ends_alike [] [] x y is = let e : x ≡ y = cc in (refl, e)
ends_alike [] (z ∷ ys) x y is = let e : [] ≡ ys ++ y ∷ [] = cc in absurd (no_end ys y (sym e))
ends_alike (z ∷ xs) [] x y is = let e : xs ++ x ∷ [] ≡ [] = cc in absurd (no_end xs x e)
ends_alike (z ∷ xs) (u ∷ ys) x y is =
    let first : z ≡ u = cc in
    let rest : xs ++ x ∷ [] ≡ ys ++ y ∷ [] = cc in
    let more = ends_alike xs ys x y rest in
    (ap (λ w. w ∷ xs) first ∙ ap (λ ws. u ∷ ws) more.0, more.1)

-- ---- one change and what undoes it

-- what undoes the change, and the tests that it gives
record Undone (d : Data) (op : Operation) (B : List Operation) : Type 0 where
  by : Operation
  block : B ≡ by ∷ []
  guards : Guards d op (tests_of (takes op) (Some by))

undone : (d : Data) (op : Operation) (B : List Operation) → IsChange op → IsBlock d op B → Undone d op B
undone d (add P v) B h b = record { by = b.0; block = b.2; guards = refl }
undone d (remove P) B h b = record { by = add P b.0; block = b.2; guards = (b.0, b.1, refl) }
undone d (replace P v) B h b = record { by = replace P b.0; block = b.2; guards = (b.0, b.1, refl) }
undone d (move F P) B h b = absurd h
undone d (copy F P) B h b = absurd h
undone d (test P v) B h b = absurd h

-- ---- the loop: what is left, and what is done

pub record Along (d : Data) (all rest undo done : List Operation) : Type 0 where
  pub now : Data
  pub changes : AreChanges rest
  pub inverse : IsInverse now rest undo
  pub guarded : (hs : List Operation) → IsGuarded now rest hs → IsGuarded d all (done ++ hs)

pub starts : (d : Data) (all undo : List Operation) → AreChanges all → IsInverse d all undo → Along d all all undo []
starts d all undo h inverse = record { now = d; changes = h; inverse = inverse; guarded = λ hs g. g }

pub ended : (d : Data) (all undo done : List Operation) → Along d all [] undo done → IsGuarded d all done
ended d all undo done a = subst (IsGuarded d all) (append-nil done) (a.guarded [] refl)

last_is : (all us : List PatchOperation) (o : Option PatchOperation) (J : List Operation) (u : Operation) → all ≡ us ++ option_to_list o → (IsSome o ↔ (0 < length all)) → operations all ≡ J ++ u ∷ [] → (operations us ≡ J) × (option_map operation_of o ≡ Some u)
last_is all us (Some x) J u is some ends =
    let split : operations us ++ operation_of x ∷ [] ≡ J ++ u ∷ [] = sym (map-append operation_of us (x ∷ [])) ∙ ap operations (sym is) ∙ ends in
    let both = ends_alike (operations us) J (operation_of x) u split in
    (both.0, ap Some both.1)
last_is all us None J u is some ends =
    let count : length (operations all) ≡ length (J ++ u ∷ []) = ap length ends in
    let more = length-append J (u ∷ []) in
    let same : length (operations all) ≡ length all = length-map all operation_of in
    let bad : is_some {T = PatchOperation} None ≡ true = some.1 (omega arith) in cc

pub next : (d : Data) (all rest done news : List Operation) (op : Operation) (before us : List PatchOperation) (o : Option PatchOperation) → before ≡ us ++ option_to_list o → (IsSome o ↔ (0 < length before))
    → news ≡ (done ++ tests_of (takes op) (option_map operation_of o)) ++ op ∷ [] → Along d all (op ∷ rest) (operations before) done → Along d all rest (operations us) news
next d all rest done news op before us o is some pushed a =
    let step = a.inverse in
    let one = undone a.now op step.2 a.changes.0 step.5 in
    let last = last_is before us o step.1 one.by is some (step.6 ∙ ap (λ B. step.1 ++ B) one.block) in
    let G = tests_of (takes op) (Some one.by) in
    let all_pushed : news ≡ (done ++ G) ++ op ∷ [] = pushed ∙ ap (λ x. (done ++ tests_of (takes op) x) ++ op ∷ []) last.1 in
    record {
      now = step.0;
      changes = a.changes.1;
      inverse = subst (IsInverse step.0 rest) (sym last.0) step.4;
      guarded = λ hs g. subst (IsGuarded d all) (sym (ap (λ x. x ++ hs) all_pushed ∙ append_assoc (done ++ G) (op ∷ []) hs ∙ append_assoc done G (op ∷ hs))) (a.guarded (G ++ op ∷ hs) (step.0, G, hs, one.guards, step.3, g, refl));
    }

-- ---- what a guarded list is

plain_runs : (d : Data) (ops : List Operation) → ArePlain d ops → (e : Data) × Accepts d ops e
plain_runs d [] h = (d, refl)
plain_runs d (op ∷ ops) h = let rest = plain_runs h.0 ops h.3 in (rest.0, (h.0, h.2, rest.1))

pub plain_accepted : RunEnds → (d : Data) (ops : List Operation) → IsDocument d → AreWhole ops → ArePlain d ops → (e : Data) × IsAccepted d ops e
plain_accepted ends d ops hd h plain = let run = plain_runs d ops plain in (run.0, only_end d ops run.0 run.1 (ends d ops hd h))

pub plain_changes : (d : Data) (ops : List Operation) → ArePlain d ops → AreChanges ops
plain_changes d [] h = tt
plain_changes d (add P v ∷ ops) h = (tt, plain_changes h.0 ops h.3)
plain_changes d (remove P ∷ ops) h = (tt, plain_changes h.0 ops h.3)
plain_changes d (replace P v ∷ ops) h = (tt, plain_changes h.0 ops h.3)
plain_changes d (move F P ∷ ops) h = absurd h.1
plain_changes d (copy F P ∷ ops) h = absurd h.1
plain_changes d (test P v ∷ ops) h = absurd h.1

tests_accepted : (d : Data) (op : Operation) (G hs : List Operation) (e : Data) → Guards d op G → Accepts d (op ∷ hs) e → Accepts d (G ++ op ∷ hs) e
tests_accepted d (add P v) G hs e g h = subst (λ x. Accepts d (x ++ add P v ∷ hs) e) (sym g) h
tests_accepted d (remove P) G hs e g h = subst (λ x. Accepts d (x ++ remove P ∷ hs) e) (sym g.2) (d, (g.1, refl), h)
tests_accepted d (replace P v) G hs e g h = subst (λ x. Accepts d (x ++ replace P v ∷ hs) e) (sym g.2) (d, (g.1, refl), h)
tests_accepted d (move F P) G hs e g h = absurd g
tests_accepted d (copy F P) G hs e g h = absurd g
tests_accepted d (test P v) G hs e g h = absurd g

-- both lists end alike
both_end : (d : Data) (ops gs : List Operation) → IsGuarded d ops gs → (e : Data) × Accepts d ops e × Accepts d gs e
both_end d [] gs h = (d, refl, subst (λ x. Accepts d x d) (sym h) refl)
both_end d (op ∷ ops) gs h =
    let rest = both_end h.0 ops h.2 h.5 in
    (rest.0, (h.0, h.4, rest.1), subst (λ x. Accepts d x rest.0) (sym h.6) (tests_accepted d op h.1 h.2 rest.0 h.3 (h.0, h.4, rest.2)))

-- what stands in a document is one
pub stands_document : KeepsDocuments → (d : Data) (P : Pointer) (w : Data) → IsDocument d → StandsAt d P w → IsDocument w
stands_document keeps d P w hd stands = keeps d (copy P [] ∷ []) w hd (tt, tt) (w, (w, stands, refl), refl)

whole_joined : (xs ys : List Operation) → AreWhole xs → AreWhole ys → AreWhole (xs ++ ys)
whole_joined [] ys h g = g
whole_joined (x ∷ xs) ys h g = (h.0, whole_joined xs ys h.1 g)

guards_whole : KeepsDocuments → (d : Data) (op : Operation) (G : List Operation) → IsDocument d → Guards d op G → AreWhole G
guards_whole keeps d (add P v) G hd g = subst AreWhole (sym g) tt
guards_whole keeps d (remove P) G hd g = subst AreWhole (sym g.2) (stands_document keeps d P g.0 hd g.1, tt)
guards_whole keeps d (replace P v) G hd g = subst AreWhole (sym g.2) (stands_document keeps d P g.0 hd g.1, tt)
guards_whole keeps d (move F P) G hd g = absurd g
guards_whole keeps d (copy F P) G hd g = absurd g
guards_whole keeps d (test P v) G hd g = absurd g

left_document : KeepsDocuments → (d : Data) (op : Operation) (m : Data) → IsDocument d → IsWholeOp op → Leaves d op m → IsDocument m
left_document keeps d op m hd hop leaves = keeps d (op ∷ []) m hd (hop, tt) (m, leaves, refl)

pub guarded_whole : KeepsDocuments → (d : Data) (ops gs : List Operation) → IsDocument d → AreWhole ops → IsGuarded d ops gs → AreWhole gs
guarded_whole keeps d [] gs hd h g = subst AreWhole (sym g) tt
guarded_whole keeps d (op ∷ ops) gs hd h g =
    let rest = guarded_whole keeps g.0 ops g.2 (left_document keeps d op g.0 hd h.0 g.4) h.1 g.5 in
    subst AreWhole (sym g.6) (whole_joined g.1 (op ∷ g.2) (guards_whole keeps d op g.1 hd g.3) (h.0, rest))

pub guarded_leads : KeepsDocuments → RunEnds → (d : Data) (ops gs : List Operation) (e : Data) → IsDocument d → AreWhole ops → IsGuarded d ops gs → IsAccepted d ops e → IsAccepted d gs e
guarded_leads keeps ends d ops gs e hd h g a =
    let both = both_end d ops gs g in
    let same : both.0 ≡ e = a.end both.0 both.1 in
    let whole = guarded_whole keeps d ops gs hd h g in
    only_end d gs e (subst (Accepts d gs) same both.2) (ends d gs hd whole)

guards_few : (d : Data) (op : Operation) (G : List Operation) → Guards d op G → length G ≤ 1
guards_few d (add P v) G g = let e : length G ≡ 0 = ap length g in omega arith
guards_few d (remove P) G g = let e : length G ≡ 1 = ap length g.2 in omega arith
guards_few d (replace P v) G g = let e : length G ≡ 1 = ap length g.2 in omega arith
guards_few d (move F P) G g = absurd g
guards_few d (copy F P) G g = absurd g
guards_few d (test P v) G g = absurd g

pub guarded_few : (d : Data) (ops gs : List Operation) → IsGuarded d ops gs → length gs ≤ 2 * length ops
guarded_few d [] gs g = let e : length gs ≡ 0 = ap length g in omega arith
guarded_few d (op ∷ ops) gs g =
    let rest = guarded_few g.0 ops g.2 g.5 in
    let one = guards_few d op g.1 g.3 in
    let e : length gs ≡ length (g.1 ++ op ∷ g.2) = ap length g.6 in
    let sum = length-append g.1 (op ∷ g.2) in
    omega arith

-- there is no operation where there is no change
ends_there : (xs : List Operation) (op : Operation) (ys : List Operation) → xs ++ op ∷ ys ≡ [] → ⊥
ends_there [] op ys is = cc
ends_there (x ∷ xs) op ys is = cc

pub guarded_nothing : (d : Data) (ops gs : List Operation) → IsGuarded d ops gs → (gs ≡ []) ↔ (ops ≡ [])
guarded_nothing d [] gs g = (λ is. refl, λ is. g)
guarded_nothing d (op ∷ ops) gs g = (λ is. absurd (ends_there g.1 op g.2 (sym g.6 ∙ is)), λ is. absurd (let bad : ⊥ = cc in bad))

-- ---- on another document

abbrev pub Found : Type 0
Found = (d : Data) (P : Pointer) (c : Data) → StandsAt d P c ↔ (pointee d P ≡ Some c)

one_stands : Found → (d : Data) (P : Pointer) (v w : Data) → StandsAt d P v → StandsAt d P w → v ≡ w
one_stands found d P v w h g =
    let some : Some v ≡ Some w = sym ((found d P v).0 h) ∙ (found d P w).0 g in cc

one_left : StepLeft → (d : Data) (op : Operation) (m n : Data) → IsDocument d → IsWholeOp op → Leaves d op m → Leaves d op n → m ≡ n
one_left left d op m n hd h g k =
    let same : Ok m ≡ Ok n = sym ((left d op hd h m).0 g) ∙ (left d op hd h n).0 k in cc

agreed : (d x : Data) (op : Operation) (G hs : List Operation) (e : Data) → Guards d op G → Accepts x (G ++ op ∷ hs) e → AgreesAt d x op × Accepts x (op ∷ hs) e
agreed d x (add P v) G hs e g h = (tt, subst (λ y. Accepts x (y ++ add P v ∷ hs) e) g h)
agreed d x (remove P) G hs e g h =
    let run = subst (λ y. Accepts x (y ++ remove P ∷ hs) e) g.2 h in
    ((g.0, g.1, run.1.0), subst (λ y. Accepts y (remove P ∷ hs) e) run.1.1 run.2)
agreed d x (replace P v) G hs e g h =
    let run = subst (λ y. Accepts x (y ++ replace P v ∷ hs) e) g.2 h in
    ((g.0, g.1, run.1.0), subst (λ y. Accepts y (replace P v ∷ hs) e) run.1.1 run.2)
agreed d x (move F P) G hs e g h = absurd g
agreed d x (copy F P) G hs e g h = absurd g
agreed d x (test P v) G hs e g h = absurd g

pub beside : (d x : Data) (ops gs : List Operation) (e : Data) → IsGuarded d ops gs → Accepts x gs e → AcceptsBeside d x ops e
beside d x [] gs e g h = subst (λ y. Accepts x y e) g h
beside d x (op ∷ ops) gs e g h =
    let both = agreed d x op g.1 g.2 e g.3 (subst (λ y. Accepts x y e) g.6 h) in
    (g.0, both.1.0, both.0, g.4, both.1.1, beside g.0 both.1.0 ops g.2 e g.5 both.1.2)

tested : Found → (d x : Data) (op : Operation) (G hs : List Operation) (e : Data) → Guards d op G → AgreesAt d x op → Accepts x (op ∷ hs) e → Accepts x (G ++ op ∷ hs) e
tested found d x (add P v) G hs e g a h = subst (λ y. Accepts x (y ++ add P v ∷ hs) e) (sym g) h
tested found d x (remove P) G hs e g a h =
    let same : a.0 ≡ g.0 = one_stands found d P a.0 g.0 a.1 g.1 in
    subst (λ y. Accepts x (y ++ remove P ∷ hs) e) (sym g.2) (x, (subst (StandsAt x P) same a.2, refl), h)
tested found d x (replace P v) G hs e g a h =
    let same : a.0 ≡ g.0 = one_stands found d P a.0 g.0 a.1 g.1 in
    subst (λ y. Accepts x (y ++ replace P v ∷ hs) e) (sym g.2) (x, (subst (StandsAt x P) same a.2, refl), h)
tested found d x (move F P) G hs e g a h = absurd g
tested found d x (copy F P) G hs e g a h = absurd g
tested found d x (test P v) G hs e g a h = absurd g

pub accepts_beside : Found → StepLeft → KeepsDocuments → (d x : Data) (ops gs : List Operation) (e : Data) → IsDocument d → AreWhole ops → IsGuarded d ops gs → AcceptsBeside d x ops e → Accepts x gs e
accepts_beside found left keeps d x [] gs e hd h g b = subst (λ y. Accepts x y e) (sym g) b
accepts_beside found left keeps d x (op ∷ ops) gs e hd h g b =
    let same : b.0 ≡ g.0 = one_left left d op b.0 g.0 hd h.0 b.3 g.4 in
    let rest = accepts_beside found left keeps g.0 b.1 ops g.2 e (left_document keeps d op g.0 hd h.0 g.4) h.1 g.5 (subst (λ m. AcceptsBeside m b.1 ops e) same b.5) in
    subst (λ y. Accepts x y e) (sym g.6) (tested found d x op g.1 g.2 e g.3 b.2 (b.1, b.4, rest))
