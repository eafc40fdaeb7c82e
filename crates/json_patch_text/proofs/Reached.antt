-- A run over the operations of a patch's text, one step at a time.
use Rattle.std.proofs.Common.{◌≡◌, ◌<◌, ◌+◌, ℕ, zero, suc, List, [], ◌∷◌, length, take, get_or, Some, option_map, Ok, Err, refl, sym, ap, ◌∙◌, subst, add-one, arith}
use Rattle.std.specs.Prelude.{slice_get}
use Rattle.std.proofs.lemmas.Option.{none-some, same_Some}
use Rattle.json.specs.Json.{Json}
use Rattle.json_patch_operation.specs.declared.error.PatchErrorKind.{PatchErrorKind}
use Rattle.json_patch_text.specs.Made.{AreMadeIn, IsLeft, IsMadeIn, IsStopped}
use Rattle.json_patch_text.specs.Operations.{TreeOperation, add, remove, replace, move, copy, test, path_of}
use Rattle.json_patch_text.specs.Reached.{IsReached, Reaches}
use Rattle.json_patch_text.specs.Run.{AcceptsText, AcceptsTree, RefusesTreeAt}
use Rattle.json_patch_text.specs.Step.{ComesTo}
use Rattle.json_patch_text.specs.Stopped.{IsRunFault, Reports}
use Rattle.json_patch_text.specs.TextOperations.{AreWrittenAs, IsWrittenAs, place_of}
use Rattle.json_patch_text.specs.declared.fault.PatchTextFault.{PatchTextFault}
use Rattle.json_patch_text.specs.declared.fault.PatchTextFault.TheVariants.{Document, Patch, Unreadable, Refused, TooDeep, Memory}
use Rattle.json_patch_text.specs.declared.fault.StepFault.{StepFault}
use Rattle.json_patch_text.specs.declared.operation.TextOperation.{TextOperation}
use Rattle.json_patch_text.specs.declared.operation.TextOperation.TheVariants.{Add, Remove, Replace, Move, Copy, Test}
use Rattle.json_patch_text.proofs.Runs.{accepts_next, refuses_here, refuses_next}
use Rattle.json_reading.specs.Trees.{data_of}
use Rattle.json_lexemes.specs.Spelled.{IsShallowText, Says}

-- o is the operation at k
abbrev pub IsAt : List TextOperation → ℕ → TextOperation → Type 0
IsAt os k o = o ≡ get_or os k o

-- ---- trees

reaches_more : (i m n : Json) (ops : List TreeOperation) (k : ℕ) (op : TreeOperation) → slice_get ops k ≡ Some op → Reaches i (take k ops) m → ComesTo m op (Ok n) → Reaches i (take (suc k) ops) n
reaches_more i m n [] k op at h s = absurd (none-some op at)
reaches_more i m n (x ∷ ops) zero op at h s = (n, subst (λ y. ComesTo i y (Ok n)) (sym (same_Some x op at)) (subst (λ j. ComesTo j op (Ok n)) (sym h) s), refl)
reaches_more i m n (x ∷ ops) (suc k) op at h s = (h.0, h.1, reaches_more h.0 m n ops k op at h.2 s)

reaches_accepts : (i j : Json) (ops : List TreeOperation) → Reaches i ops j → AcceptsTree i ops j
reaches_accepts i j [] h = λ r. ap (data_of r) h
reaches_accepts i j (op ∷ ops) h = accepts_next i h.0 j op ops h.1 (reaches_accepts h.0 j ops h.2)

refuses_at : (i m : Json) (ops : List TreeOperation) (k : ℕ) (op : TreeOperation) (kind : PatchErrorKind) → slice_get ops k ≡ Some op → Reaches i (take k ops) m → ComesTo m op (Err kind) → RefusesTreeAt i ops k kind
refuses_at i m [] k op kind at h s = absurd (none-some op at)
refuses_at i m (x ∷ ops) zero op kind at h s = refuses_here i x ops kind (subst (λ y. ComesTo i y (Err kind)) (sym (same_Some x op at)) (subst (λ j. ComesTo j op (Err kind)) (sym h) s))
refuses_at i m (x ∷ ops) (suc k) op kind at h s = refuses_next i h.0 x ops k kind h.1 (refuses_at h.0 m ops k op kind at h.2 s)

reaches_all : (i j : Json) (os : List TextOperation) (ops : List TreeOperation) (k : ℕ) → AreWrittenAs os ops → length os ≡ k → Reaches i (take k ops) j → Reaches i ops j
reaches_all i j [] [] k w e h = subst (λ n. Reaches i (take n []) j) (sym e) h
reaches_all i j (o ∷ os) (op ∷ ops) zero w e h = absurd (omega arith)
reaches_all i j (o ∷ os) (op ∷ ops) (suc k) w e h = (h.0, h.1, reaches_all h.0 j os ops k w.1 (omega arith) h.2)
reaches_all i j os ops k w e h = absurd w

-- ---- bytes

made_more : (text left new : List ℕ) (os : List TextOperation) (k : ℕ) (o : TextOperation) → k < length os → IsAt os k o → AreMadeIn text (take k os) left → IsMadeIn left o new → AreMadeIn text (take (suc k) os) new
made_more text left new [] k o less at h s = absurd (omega arith)
made_more text left new (x ∷ os) zero o less at h s = (new, subst (λ y. IsMadeIn text y new) at (subst (λ t. IsMadeIn t o new) h s), refl)
made_more text left new (x ∷ os) (suc k) o less at h s = (h.0, h.1, made_more h.0 left new os k o (omega arith) at h.2 s)

-- ---- the operation at k

pub written_at : (os : List TextOperation) (ops : List TreeOperation) (k : ℕ) (o : TextOperation) → k < length os → IsAt os k o → AreWrittenAs os ops → (op : TreeOperation) × (slice_get ops k ≡ Some op) × IsWrittenAs o op
written_at [] [] k o less at w = absurd (omega arith)
written_at (x ∷ os) (op ∷ ops) zero o less at w = (op, refl, subst (λ y. IsWrittenAs y op) (sym at) w.0)
written_at (x ∷ os) (op ∷ ops) (suc k) o less at w = written_at os ops k o (omega arith) at w.1
written_at os ops k o less at w = absurd w

place_is : (o : TextOperation) (op : TreeOperation) → IsWrittenAs o op → place_of o ≡ path_of op
place_is (Add P s) (add Q w) h = h.0
place_is (Remove P) (remove Q) h = h
place_is (Replace P s) (replace Q w) h = h.0
place_is (Move F P) (move G Q) h = h.1
place_is (Copy F P) (copy G Q) h = h.1
place_is (Test P s) (test Q w) h = h.0
place_is o op h = absurd h

-- ---- the states of a run

pub reached_first : (text new : List ℕ) (os : List TextOperation) → new ≡ text → IsReached text os 0 new
reached_first text new os e = record {
  made = e;
  tree = λ i ops said w. (i, subst (λ t. Says t i) (sym e) said, refl);
}

pub reached_more : (text left new : List ℕ) (os : List TextOperation) (k : ℕ) (o : TextOperation) → k < length os → IsAt os k o → IsReached text os k left → IsMadeIn left o new → ((i : Json) (op : TreeOperation) → Says left i → IsWrittenAs o op → IsLeft new i op)
    → IsReached text os (k + 1) new
reached_more text left new os k o less at r made comes = subst (λ n. IsReached text os n new) (sym (add-one k)) record {
  made = made_more text left new os k o less at r.made made;
  tree = λ i ops said w.
      let (m, m_said, reaches) = r.tree i ops said w in
      let (op, here, is) = written_at os ops k o less at w in
      let (n, n_said, step_comes) = comes m op m_said is in
      (n, n_said, reaches_more i m n ops k op here reaches step_comes);
}

pub accepted_first : (text new : List ℕ) (os : List TextOperation) (ops : List TreeOperation) (k : ℕ) → (j : Json) × IsShallowText text j → IsReached text os k new → AreWrittenAs os ops → AcceptsText text (take k ops) new
accepted_first text new os ops k (i, s) r w =
    let (m, said, reaches) = r.tree i ops s.0 w in
    (i, m, s.0, said, reaches_accepts i m (take k ops) reaches)

pub all_accepted : (text new : List ℕ) (os : List TextOperation) (ops : List TreeOperation) (k : ℕ) → length os ≡ k → (j : Json) × IsShallowText text j → IsReached text os k new → AreWrittenAs os ops → AcceptsText text ops new
all_accepted text new os ops k e (i, s) r w =
    let (m, said, reaches) = r.tree i ops s.0 w in
    (i, m, s.0, said, reaches_accepts i m ops (reaches_all i m os ops k w e reaches))

-- ---- its faults

pub reported_fault : (text left : List ℕ) (os : List TextOperation) (ops : List TreeOperation) (k : ℕ) (o : TextOperation) (f : StepFault) (r : PatchTextFault) → (j : Json) × IsShallowText text j → k < length os → IsAt os k o → IsReached text os k left
    → ((i : Json) (op : TreeOperation) → Says left i → IsWrittenAs o op → IsStopped i op f) → Reports f k (place_of o) r → AreWrittenAs os ops → IsRunFault text os ops r
reported_fault text left os ops k o f (Document g) a less at r stops e w = absurd e
reported_fault text left os ops k o f (Patch g) a less at r stops e w = absurd e
reported_fault text left os ops k o f (Unreadable g) a less at r stops e w = absurd e
reported_fault text left os ops k o f (Refused g) (i, s) less at r stops (is, number, path) w =
    let (m, said, reaches) = r.tree i ops s.0 w in
    let (op, here, written) = written_at os ops k o less at w in
    let refused : ComesTo m op (Err g.kind) = subst (IsStopped m op) is (stops m op said written) in
    let at_k : RefusesTreeAt i ops k g.kind = refuses_at i m ops k op g.kind here reaches refused in
    let named : option_map path_of (slice_get ops k) ≡ Some g.path = ap (option_map path_of) here ∙ ap Some (sym (place_is o op written)) ∙ ap Some (sym path) in
    ((i, s.0, subst (λ n. RefusesTreeAt i ops n g.kind) (sym number) at_k), subst (λ n. option_map path_of (slice_get ops n) ≡ Some g.path) (sym number) named)
reported_fault text left os ops k o f (TooDeep n) a less at r stops e w = absurd e
reported_fault text left os ops k o f (Memory m) a less at r stops e w = tt
