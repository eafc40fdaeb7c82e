-- Patches that put nothing deep leave no deep text.
use Rattle.std.proofs.Common.{◌≡◌, ◌<◌, ◌≤◌, ◌+◌, ℕ, zero, suc, List, [], ◌∷◌, length, take, max, refl, sym, ap, subst, arith}
use Rattle.json.specs.Json.{max_depth}
use Rattle.json.specs.Tree.{depth}
use Rattle.json_lexemes.specs.Skipped.{nesting}
use Rattle.json_lexemes.proofs.Nests.{nests}
use Rattle.json_patch_limits.specs.declared.limits.LimitError.{LimitError}
use Rattle.json_patch_limits.specs.declared.limits.LimitKind.{LimitKind}
use Rattle.json_patch_limits.specs.declared.limits.LimitKind.TheVariants as limit
use Rattle.json_patch_limits.specs.declared.limits.Limits.{Limits}
use Rattle.json_patch_text.specs.Made.{AreMadeIn, IsMadeIn}
use Rattle.json_patch_text.specs.Operations.{TreeOperation, add, remove, replace, move, copy, test, SaysOperations}
use Rattle.json_patch_text.specs.Patched.{IsPatchTextFault}
use Rattle.json_patch_text.specs.Shallow.{AllPutWithin, IsNeverTooDeep, KeepsWithin, PutsWithin}
use Rattle.json_patch_text.specs.TextOperations.{AreWrittenAs, IsWrittenAs}
use Rattle.json_patch_text.specs.Within.{NamesFirstOver, IsTextOverAt, most_bytes}
use Rattle.json_patch_text.specs.declared.fault.PatchTextFault.TheVariants.{TooDeep}
use Rattle.json_patch_text.specs.declared.operation.TextOperation.{TextOperation}
use Rattle.json_patch_text.specs.declared.operation.TextOperation.TheVariants.{Add, Remove, Replace, Move, Copy, Test}
use Rattle.json_patch_text.proofs.Bounded.{within_made}
use Rattle.json_patch_text.proofs.Limits.{made_at}
use Rattle.json_patch_text.proofs.Patches.{one_patch}
use Rattle.json_text.proofs.Deeper.{added_nests, removed_nests, replaced_nests}

-- ---- a text patched by operations that put nothing deep nests no deeper

step_within : (n : ℕ) (o : TextOperation) (op : TreeOperation) (text next : List ℕ) → IsWrittenAs o op → PutsWithin n op → IsMadeIn text o next → nesting text ≤ n → nesting next ≤ n
step_within n (Add P s) (add Q w) text next (same, ((says, low), tight)) fit made h =
    let a : nesting next ≤ max (nesting text) (length P + nesting s.now) = added_nests text s.now next P made in
    let b : nesting s.now ≡ depth w = nests s.now w says in
    let c : length P ≡ length Q = ap length same in
    let f : length Q + depth w ≤ n = fit in
    omega (arith, a, b, c, f, h)
step_within n (Remove P) (remove Q) text next same fit made h = let a = removed_nests text next P made in omega (arith, a, h)
step_within n (Replace P s) (replace Q w) text next (same, ((says, low), tight)) fit made h =
    let a : nesting next ≤ max (nesting text) (length P + nesting s.now) = replaced_nests text s.now next P made in
    let b : nesting s.now ≡ depth w = nests s.now w says in
    let c : length P ≡ length Q = ap length same in
    let f : length Q + depth w ≤ n = fit in
    omega (arith, a, b, c, f, h)
step_within n (Move F P) (move G Q) text next written fit made h = absurd fit
step_within n (Copy F P) (copy G Q) text next written fit made h = absurd fit
step_within n (Test P s) (test Q w) text next written fit made h = let a = ap nesting made in omega (arith, a, h)
step_within n o op text next written fit made h = absurd written

steps_within : (n : ℕ) (os : List TextOperation) (ops : List TreeOperation) (k : ℕ) (text left : List ℕ) → AreWrittenAs os ops → AllPutWithin n ops → AreMadeIn text (take k os) left → nesting text ≤ n → nesting left ≤ n
steps_within n [] [] zero text left written fit made h = let e = ap nesting made in omega (arith, e, h)
steps_within n [] [] (suc k) text left written fit made h = let e = ap nesting made in omega (arith, e, h)
steps_within n (o ∷ os) (op ∷ ops) zero text left written fit made h = let e = ap nesting made in omega (arith, e, h)
steps_within n (o ∷ os) (op ∷ ops) (suc k) text left written fit (next, m, rest) h = steps_within n os ops k next left written.1 fit.1 rest (step_within n o op text next written.0 fit.0 m h)
steps_within n os ops k text left written fit made h = absurd written

keeps_within : (n : ℕ) (text patch : List ℕ) (ops : List TreeOperation) → SaysOperations patch ops → AllPutWithin n ops → nesting text ≤ n → KeepsWithin n text patch
keeps_within n text patch ops says fit low os k left (others, also, written, places) made =
    steps_within n os others k text left written (subst (AllPutWithin n) (sym (one_patch patch ops others says also)) fit) made low

puts_more : (n m : ℕ) (op : TreeOperation) → n ≤ m → PutsWithin n op → PutsWithin m op
puts_more n m (add P w) le h = let low : length P + depth w ≤ n = h in omega (arith, le, low)
puts_more n m (remove P) le h = tt
puts_more n m (replace P w) le h = let low : length P + depth w ≤ n = h in omega (arith, le, low)
puts_more n m (move F P) le h = absurd h
puts_more n m (copy F P) le h = absurd h
puts_more n m (test P w) le h = tt

pub puts_within_more : (n m : ℕ) (ops : List TreeOperation) → n ≤ m → AllPutWithin n ops → AllPutWithin m ops
puts_within_more n m [] le h = tt
puts_within_more n m (op ∷ ops) le h = (puts_more n m op le h.0, puts_within_more n m ops le h.1)

-- ---- so it is never too deep

over_by_size : (n : ℕ) (text patch : List ℕ) → KeepsWithin n text patch → (l : Limits) (e : LimitError) → n ≤ l.depth → NamesFirstOver l text patch e → e.kind ≡ limit.TooMuch
over_by_size n text patch keeps l e le (os, ops, says, written, in_patch, over) = by e.kind refl over
  where
    by : (kind : LimitKind) → e.kind ≡ kind → IsTextOverAt l (most_bytes l text patch) text os ops e.operation kind → e.kind ≡ limit.TooMuch
    by limit.TooMuch is over = is
    by limit.TooDeep is over =
        let (o, at, step, copied) = over.made in
        let made = made_at text over.left over.new os e.operation o at (within_made l (most_bytes l text patch) text (take e.operation os) over.left over.n over.before.0) step in
        let low : nesting over.new ≤ n = keeps os (suc e.operation) over.new (ops, says, written, in_patch) made in
        let deep : l.depth < nesting over.new = over.over in
        absurd (omega (arith, low, deep, le))

pub never_kept : (n : ℕ) (text patch : List ℕ) → KeepsWithin n text patch → n ≤ max_depth → IsNeverTooDeep n text patch
never_kept n text patch keeps le = (at_no_operation, over_by_size n text patch keeps)
  where
    at_no_operation : (k : ℕ) → IsPatchTextFault text patch (TooDeep k) → ⊥
    at_no_operation k (os, texts, less, (left, made, deep)) = let low : nesting left ≤ n = keeps os k left texts made in absurd (omega (arith, low, deep, le))

pub never_too_deep : (n : ℕ) (text patch : List ℕ) (ops : List TreeOperation) → SaysOperations patch ops → AllPutWithin n ops → nesting text ≤ n → n ≤ max_depth → IsNeverTooDeep n text patch
never_too_deep n text patch ops says fit low le = never_kept n text patch (keeps_within n text patch ops says fit low) le
