-- Laws of limits: what an operation makes says one tree, so it nests one way; and one that is over isn't refused.
use Rattle.std.proofs.Common.{◌≡◌, ◌<◌, ◌≤◌, ◌+◌, ◌⊎◌, inl, inr, ⊎_elim, ℕ, zero, suc, List, [], ◌∷◌, length, take, Some, refl, sym, ap, ◌∙◌, subst, arith}
use Rattle.std.specs.Prelude.{slice_get}
use Rattle.std.proofs.lemmas.Bool.{cases_lt}
use Rattle.std.proofs.lemmas.Option.{none-some, same_Some}
use Rattle.json.specs.Json.{Json}
use Rattle.jsonptr.specs.Text.{Pointer}
use Rattle.serde_json.specs.Data.{Data}
use Rattle.json_patch_laws.specs.Run.{RefusesAt}
use Rattle.json_patch_limits.specs.declared.limits.LimitKind.{LimitKind}
use Rattle.json_patch_limits.specs.declared.limits.LimitKind.TheVariants as limit
use Rattle.json_patch_limits.specs.declared.limits.Limits.{Limits}
use Rattle.json_patch_operation.specs.declared.error.PatchErrorKind.{PatchErrorKind}
use Rattle.json_patch_text.specs.Made.{AreMadeIn, IsMadeIn}
use Rattle.json_patch_text.specs.Operations.{TreeOperation, all_under}
use Rattle.json_patch_text.specs.Run.{RefusesTextAt}
use Rattle.json_patch_text.specs.Within.{AreMadeAtCost, AreMadeWithin, IsTextOver, IsTextOverAt, IsTextWithin}
use Rattle.json_patch_text.specs.declared.operation.TextOperation.{TextOperation}
use Rattle.json_patch_text.specs.declared.operation.TextOperation.TheVariants.{Add, Remove, Replace, Move, Copy, Test}
use Rattle.json_patch_text.proofs.Agree.{removed_tree}
use Rattle.json_patch_text.proofs.Bounded.{last_within, within_made}
use Rattle.json_patch_text.proofs.Made.{add_left}
use Rattle.json_patch_text.proofs.Runs.{not_refused}
use Rattle.json_reading.specs.Reading.{Reading}
use Rattle.json_reading.specs.Trees.{data_of}
use Rattle.json_text.specs.Added.{IsAdded}
use Rattle.json_lexemes.specs.Skipped.{nesting}
use Rattle.json_text.specs.Pointed.{IsWrittenAt, put_at, tree_at}
use Rattle.json_text.specs.Removed.{IsRemoved}
use Rattle.json_lexemes.specs.Spelled.{Says}
use Rattle.json_lexemes.proofs.Nests.{nests, one_tree}

-- ---- one tree

-- both texts say it
abbrev Alike : List ℕ → List ℕ → Type 0
Alike t u = (j : Json) × Says t j × Says u j

adds_alike : (t u s r n m : List ℕ) (P : Pointer) (i w : Json) → Says t i → Says u i → Says s w → Says r w → IsAdded t P s n → IsAdded u P r m → Alike n m
adds_alike t u s r n m P i w a b v q x y =
    let (j, j_is, j_said) = add_left t s n P i w a v x in
    let (k, k_is, k_said) = add_left u r m P i w b q y in
    (j, j_said, subst (Says m) (same_Some k j (sym k_is ∙ j_is)) k_said)

removes_alike : (t u n m : List ℕ) (P : Pointer) (i : Json) → Says t i → Says u i → IsRemoved t P n → IsRemoved u P m → Alike n m
removes_alike t u n m P i a b x y =
    let (j, j_is, j_said, j_less) = removed_tree t P n i a x in
    let (k, k_is, k_said, k_less) = removed_tree u P m i b y in
    (j, j_said, subst (Says m) (same_Some k j (sym k_is ∙ j_is)) k_said)

-- what stands at one pointer
written_alike : (t u s r : List ℕ) (P : Pointer) (i j k : Json) → Says t i → Says u i → Says t j → Says u k → IsWrittenAt t j P s → IsWrittenAt u k P r → Alike s r
written_alike t u s r P i j k a b c d (before, behind, whole, (v, v_at, v_stands)) (front, back, all, (w, w_at, w_stands)) =
    let e : j ≡ k = one_tree t j i c a ∙ sym (one_tree u k i d b) in
    let same : w ≡ v = same_Some w v (sym w_at ∙ sym (ap (tree_at P) e) ∙ v_at) in
    (v, v_stands.says, subst (Says r) same w_stands.says)

one_made : (o : TextOperation) (t u n m : List ℕ) → Alike t u → IsMadeIn t o n → IsMadeIn u o m → Alike n m
one_made (Add P s) t u n m (i, a, b) x y = adds_alike t u s.now s.now n m P i x.wanted a b x.value_says.0 x.value_says.0 x y
one_made (Remove P) t u n m (i, a, b) x y = removes_alike t u n m P i a b x y
one_made (Replace P s) t u n m (i, a, b) x y =
    let e : y.tree ≡ x.tree = one_tree u y.tree i y.says.0 b ∙ sym (one_tree t x.tree i x.says.0 a) in
    let v : y.wanted ≡ x.wanted = one_tree s.now y.wanted x.wanted y.value_says.0 x.value_says.0 in
    (put_at P x.wanted x.tree, x.after, subst (λ w. Says m (put_at P w x.tree)) v (subst (λ j. Says m (put_at P y.wanted j)) e y.after))
one_made (Move F P) t u n m (i, a, b) (j, s, less, c, s_at, s_cut, s_put) (k, r, rest, d, r_at, r_cut, r_put) =
    let (w, s_said, r_said) = written_alike t u s r F i j k a b c d s_at r_at in
    let (e, less_said, rest_said) = removes_alike t u less rest F i a b s_cut r_cut in
    adds_alike less rest s r n m P e w less_said rest_said s_said r_said s_put r_put
one_made (Copy F P) t u n m (i, a, b) (j, s, c, s_at, s_put) (k, r, d, r_at, r_put) =
    let (w, s_said, r_said) = written_alike t u s r F i j k a b c d s_at r_at in
    adds_alike t u s r n m P i w a b s_said r_said s_put r_put
one_made (Test P s) t u n m (i, a, b) x y = (i, subst (λ z. Says z i) (sym x) a, subst (λ z. Says z i) (sym y) b)

all_made : (os : List TextOperation) (t u n m : List ℕ) → Alike t u → AreMadeIn t os n → AreMadeIn u os m → Alike n m
all_made [] t u n m (i, a, b) x y = (i, subst (λ z. Says z i) (sym x) a, subst (λ z. Says z i) (sym y) b)
all_made (o ∷ os) t u n m alike (next, x, xs) (other, y, ys) = all_made os next other n m (one_made o t u next other alike x y) xs ys

-- ---- too deep

pub made_at : (text left new : List ℕ) (os : List TextOperation) (k : ℕ) (o : TextOperation) → slice_get os k ≡ Some o → AreMadeIn text (take k os) left → IsMadeIn left o new → AreMadeIn text (take (suc k) os) new
made_at text left new [] k o at h s = absurd (none-some o at)
made_at text left new (x ∷ os) zero o at h s = (new, subst (λ y. IsMadeIn text y new) (sym (same_Some x o at)) (subst (λ t. IsMadeIn t o new) h s), refl)
made_at text left new (x ∷ os) (suc k) o at (next, m, rest) s = (next, m, made_at next left new os k o at rest s)

-- of what is made within the limits, the first k operations are
front_within : (l : Limits) (most : ℕ) (text new : List ℕ) (os : List TextOperation) (n k m : ℕ) → k ≤ n → AreMadeAtCost l most text (take n os) new m → (left : List ℕ) × (fewer : ℕ) × AreMadeAtCost l most text (take k os) left fewer
front_within l most text new [] zero zero m e h = (new, m, h)
front_within l most text new [] (suc n) zero m e h = (text, 0, (h.0, refl, refl))
front_within l most text new [] (suc n) (suc k) m e h = (new, m, h)
front_within l most text new [] zero (suc k) m e h = absurd (omega arith)
front_within l most text new (o ∷ os) zero zero m e h = (new, m, h)
front_within l most text new (o ∷ os) (suc n) zero m e h = (text, 0, (h.0, refl, refl))
front_within l most text new (o ∷ os) (suc n) (suc k) m e (w, (next, a, rest, made, copied, further, sum)) =
    let (left, fewer, front) = front_within l most next new os n k rest (omega arith) further in
    (left, a + fewer, (w, (next, a, fewer, made, copied, front, refl)))
front_within l most text new (o ∷ os) zero (suc k) m e h = absurd (omega arith)

-- after an operation that leaves too deep a text nothing is made within
not_after : (l : Limits) (most : ℕ) (text left : List ℕ) (os : List TextOperation) (ops : List TreeOperation) (k m n : ℕ) → IsTextOverAt l most text os ops k limit.TooDeep → AreMadeWithin l most text (take n os) left m → suc k ≤ n → ⊥
not_after l most text left os ops k m n h made less =
    let (i, j, said, after, accepts) = h.accepted in
    let (o, at, step, copied) = h.made in
    let (x, fewer, to_x) = front_within l most text left os n (suc k) m less made.0 in
    let here = made_at text h.left h.new os k o at (within_made l most text (take k os) h.left h.n h.before.0) step in
    let (b, x_says, new_says) = all_made (take (suc k) os) text text x h.new (i, said, said) (within_made l most text (take (suc k) os) x fewer to_x) here in
    let e : nesting x ≡ nesting h.new = nests x b x_says ∙ sym (nests h.new b new_says) in
    let shallow : nesting x ≤ l.depth = (last_within l most text (take (suc k) os) x fewer to_x).0 in
    let deep : l.depth < nesting h.new = h.over in
    absurd (omega arith)

pub deep_last : (l : Limits) (most : ℕ) (text left : List ℕ) (os : List TextOperation) (ops : List TreeOperation) (k m n : ℕ) → IsTextOverAt l most text os ops k limit.TooDeep → AreMadeWithin l most text (take n os) left m → n ≤ k
deep_last l most text left os ops k m n h made = ⊎_elim (λ more. absurd (not_after l most text left os ops k m n h made (omega arith))) (λ less. less) (cases_lt k n)

-- ---- not refused

refused_front : (r : Reading) (d : Data) (ops : List TreeOperation) (n k : ℕ) (kind : PatchErrorKind) → n < k → RefusesAt d (all_under r ops) n kind → RefusesAt d (all_under r (take k ops)) n kind
refused_front r d [] n k kind less h = absurd h
refused_front r d (op ∷ ops) n zero kind less h = absurd (omega arith)
refused_front r d (op ∷ ops) zero (suc k) kind less h = h
refused_front r d (op ∷ ops) (suc n) (suc k) kind less (m, leaves, rest) = (m, leaves, refused_front r m ops n k kind (omega arith) rest)

over_refused : (l : Limits) (most : ℕ) (text : List ℕ) (os : List TextOperation) (ops : List TreeOperation) (k n : ℕ) (kind : LimitKind) (other : PatchErrorKind) → IsTextOverAt l most text os ops k kind → RefusesTextAt text ops n other → n < suc k → ⊥
over_refused l most text os ops k n kind other h (a, a_said, (before, (r, refused))) less =
    let (i, j, said, after, accepts) = h.accepted in
    let here : RefusesAt (data_of r i) (all_under r ops) n other = subst (λ x. RefusesAt (data_of r x) (all_under r ops) n other) (one_tree text a i a_said said) refused in
    not_refused i j (take (suc k) ops) n other r accepts (refused_front r (data_of r i) ops n (suc k) other less here)

pub over_accepted : (l : Limits) (most : ℕ) (text : List ℕ) (os : List TextOperation) (ops : List TreeOperation) (k n : ℕ) (kind : LimitKind) (other : PatchErrorKind) → IsTextOverAt l most text os ops k kind → RefusesTextAt text ops n other → k < n
over_accepted l most text os ops k n kind other h r = ⊎_elim (λ more. more) (λ less. absurd (over_refused l most text os ops k n kind other h r (omega arith))) (cases_lt k n)

-- ---- within, or over in one way

pub within_or_over : (l : Limits) (most n : ℕ) (text : List ℕ) → (IsTextWithin l most text × (n ≤ most)) ⊎ ((kind : LimitKind) × IsTextOver l most text n kind)
within_or_over l most n text =
    ⊎_elim (λ deep. inr (limit.TooDeep, deep)) (λ shallow. ⊎_elim (λ long. inr (limit.TooMuch, (shallow, inl long))) (λ short. ⊎_elim (λ many. inr (limit.TooMuch, (shallow, inr many))) (λ few. inl ((shallow, short), few)) (cases_lt most n)) (cases_lt most (length text)))
    (cases_lt l.depth (nesting text))

pub over_alone : (l : Limits) (most n : ℕ) (text : List ℕ) (kind : LimitKind) → IsTextOver l most text n kind → IsTextWithin l most text → n ≤ most → ⊥
over_alone l most n text limit.TooDeep h w few = let deep : l.depth < nesting text = h in let shallow = w.0 in absurd (omega arith)
over_alone l most n text limit.TooMuch (low, inl long) w few = let short = w.1 in absurd (omega arith)
over_alone l most n text limit.TooMuch (low, inr many) w few = absurd (omega arith)

pub one_kind : (l : Limits) (most n : ℕ) (text : List ℕ) (kind other : LimitKind) → IsTextOver l most text n kind → IsTextOver l most text n other → other ≡ kind
one_kind l most n text limit.TooDeep limit.TooDeep h w = refl
one_kind l most n text limit.TooMuch limit.TooMuch h w = refl
one_kind l most n text limit.TooDeep limit.TooMuch h w = let deep : l.depth < nesting text = h in let shallow = w.0 in absurd (omega arith)
one_kind l most n text limit.TooMuch limit.TooDeep h w = let deep : l.depth < nesting text = w in let shallow = h.0 in absurd (omega arith)
