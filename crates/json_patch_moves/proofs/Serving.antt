-- Patches with moves: what one that serves is, beside the plain one.
use Rattle.std.proofs.Common.{◌≡◌, ◌<◌, ◌≤◌, ℕ, zero, suc, List, [], ◌∷◌, false, inl, inr, refl, arith}
use Rattle.std.proofs.lemmas.Bool.{cases_lt}
use Rattle.serde_json.specs.Data.{Data, depth}
use Rattle.json_patch.specs.Inverse.{ArePlain, IsPlain}
use Rattle.json_patch.specs.LimitKind.{LimitKind}
use Rattle.json_patch.specs.LimitKind.TheVariants.{TooDeep, TooMuch}
use Rattle.json_patch.specs.Limits.{Limits}
use Rattle.json_patch.specs.Operation.{Operation, add, remove, replace, move, copy, test, parts_of}
use Rattle.json_patch.specs.OverLimits.{AreShallow, IsNeverOver, IsOverAt, copied_by, left_of, levels_of, reach_of}
use Rattle.json_patch.specs.Run.{Accepts}
use Rattle.json_patch.specs.Step.{Leaves}
use Rattle.json_patch_diff.specs.Size.{text_size}
use Rattle.json_patch_moves.specs.Moving.{AreMoving, IsMoving}
use Rattle.json_patch_moves.specs.Trial.{Serves}

-- ---- the plain patch

one_moving : (d : Data) (op : Operation) → IsPlain d op → IsMoving op
one_moving d (add P v) h = tt
one_moving d (remove P) h = tt
one_moving d (replace P v) h = tt
one_moving d (move F P) h = tt
one_moving d (copy F P) h = h
one_moving d (test P v) h = h

pub plain_moving : (d : Data) (ops : List Operation) → ArePlain d ops → AreMoving ops
plain_moving d [] h = tt
plain_moving d (op ∷ ops) h = (one_moving d op h.1, plain_moving h.0 ops h.3)

-- ---- within limits

none_copied : (d : Data) (op : Operation) → IsMoving op → copied_by false d op ≡ 0
none_copied d (add P v) h = refl
none_copied d (remove P) h = refl
none_copied d (replace P v) h = refl
none_copied d (move F P) h = refl
none_copied d (copy F P) h = absurd h
none_copied d (test P v) h = absurd h

not_above : (a b : ℕ) → (b < a → ⊥) → a ≤ b
not_above a b h = elim (cases_lt b a) [
  | inl lt ↦ absurd (h lt)
  | inr le ↦ le
]

-- the first operation reaches no deeper than the limit, and the others are never over
first_low : (l : Limits) (d : Data) (op : Operation) (ops : List Operation) → IsNeverOver l d (op ∷ ops) → reach_of d op ≤ l.depth
first_low l d op ops never = not_above (reach_of d op) l.depth (λ lt. never zero TooDeep lt)

rest_under : (l : Limits) (d : Data) (op : Operation) (ops : List Operation) (m : Data) → IsMoving op → IsNeverOver l d (op ∷ ops) → Leaves d op m → IsNeverOver (left_of false l d op) m ops
rest_under l d op ops m h never leaves k kind over =
    let none = none_copied d op h in
    never (suc k) kind ((first_low l d op ops never, omega arith), (m, leaves, over))

-- so what is never over some limits is never over others that let go as deep
over_less : (s l : Limits) (d : Data) (ops : List Operation) → AreMoving ops → s.depth ≤ l.depth → IsNeverOver s d ops → (k : ℕ) (kind : LimitKind) → IsOverAt l d ops k kind → ⊥
over_less s l d [] h le never k kind over = over
over_less s l d (op ∷ ops) h le never zero TooDeep over = let low = first_low s d op ops never in absurd (omega arith)
over_less s l d (op ∷ ops) h le never zero TooMuch over = let none = none_copied d op h.0 in let more = over.1 in absurd (omega arith)
over_less s l d (op ∷ ops) h le never (suc k) kind over =
    over_less (left_of false s d op) (left_of false l d op) over.1.0 ops h.1 le (rest_under s d op ops over.1.0 h.0 never over.1.1) k kind over.1.2

pub never_less : (s l : Limits) (d : Data) (ops : List Operation) → AreMoving ops → s.depth ≤ l.depth → IsNeverOver s d ops → IsNeverOver l d ops
never_less s l d ops h le never k kind over = over_less s l d ops h le never k kind over

-- what is put no deeper than a limit has no more levels
levels_low : (d : Data) (op : Operation) (b : ℕ) → IsMoving op → reach_of d op ≤ b → levels_of (parts_of op).value ≤ b
levels_low d (add P v) b h le = omega arith
levels_low d (remove P) b h le = omega arith
levels_low d (replace P v) b h le = omega arith
levels_low d (move F P) b h le = omega arith
levels_low d (copy F P) b h le = absurd h
levels_low d (test P v) b h le = absurd h

pub all_low : (l : Limits) (d : Data) (ops : List Operation) (e : Data) (b : ℕ) → l.depth ≤ b → AreMoving ops → IsNeverOver l d ops → Accepts d ops e → AreShallow b ops
all_low l d [] e b le h never run = tt
all_low l d (op ∷ ops) e b le h never run =
    let low = first_low l d op ops never in
    (levels_low d op b h.0 (omega arith), all_low (left_of false l d op) run.0 ops e b le h.1 (rest_under l d op ops run.0 h.0 never run.1) run.2)

-- ---- what one that serves is

-- no longer than what the plain one is no longer than
pub serves_least : (d e : Data) (ops plain others : List Operation) → Serves d e ops plain → text_size plain ≤ text_size others → text_size ops ≤ text_size others
serves_least d e ops plain others s le = let short = s.short in omega (arith, short, le)

pub serves_shallow : (d e : Data) (ops plain : List Operation) → Serves d e ops plain → AreShallow (depth e) ops
serves_shallow d e ops plain s = all_low s.low d ops e (depth e) s.shallow s.moving s.under s.accepts

pub serves_under : (d e : Data) (ops plain : List Operation) (l : Limits) → Serves d e ops plain → depth e ≤ l.depth → IsNeverOver l d ops
serves_under d e ops plain l s le = never_less s.low l d ops s.moving (let low = s.shallow in omega arith) s.under
