-- Operations with their values as they are written in the text of a patch.
use Rattle.std.specs.Prelude.{◌≡◌, List, [], ◌∷◌, ⊤, ℕ, Some, codes, slice_get}
use Rattle.json.specs.Json.{Json}
use Rattle.jsonptr.specs.Places.{decimal_token}
use Rattle.jsonptr.specs.Text.{Pointer}
use Rattle.json_text.specs.Pointed.{IsTight, IsWrittenAt}
use Rattle.json_lexemes.specs.Spelled.{IsShallowText, Says}
use Rattle.json_patch_operation.specs.Operation as document
use Rattle.json_patch_operation.specs.Operation.{Operation}
use Rattle.json_patch_text.specs.Operations.{TreeOperation, add, remove, replace, move, copy, test}
use Rattle.json_patch_text.specs.declared.operation.TextOperation.{TextOperation}
use Rattle.json_patch_text.specs.declared.operation.TextOperation.TheVariants.{Add, Remove, Replace, Move, Copy, Test}

-- a value's text, without the whitespace around it
abbrev pub IsValueText : List ℕ → Json → Type 0
IsValueText s w = IsShallowText s w × IsTight s

abbrev pub IsWrittenAs : TextOperation → TreeOperation → Type 0
IsWrittenAs (Add P s) (add Q w) = (P ≡ Q) × IsValueText s.now w
IsWrittenAs (Remove P) (remove Q) = P ≡ Q
IsWrittenAs (Replace P s) (replace Q w) = (P ≡ Q) × IsValueText s.now w
IsWrittenAs (Move F P) (move G Q) = (F ≡ G) × (P ≡ Q)
IsWrittenAs (Copy F P) (copy G Q) = (F ≡ G) × (P ≡ Q)
IsWrittenAs (Test P s) (test Q w) = (P ≡ Q) × IsValueText s.now w
IsWrittenAs o op = ⊥

abbrev pub AreWrittenAs : List TextOperation → List TreeOperation → Type 0
AreWrittenAs [] [] = ⊤
AreWrittenAs (o ∷ os) (op ∷ ops) = IsWrittenAs o op × AreWrittenAs os ops
AreWrittenAs os ops = ⊥

-- the operation's value, if it has one, is what the patch's text, which says p, has at P, as it is written there
abbrev pub HasValueAt : List ℕ → Json → Pointer → TextOperation → Type 0
HasValueAt patch p P (Add Q s) = IsWrittenAt patch p P s.now
HasValueAt patch p P (Remove Q) = ⊤
HasValueAt patch p P (Replace Q s) = IsWrittenAt patch p P s.now
HasValueAt patch p P (Move F Q) = ⊤
HasValueAt patch p P (Copy F Q) = ⊤
HasValueAt patch p P (Test Q s) = IsWrittenAt patch p P s.now

-- the value of the operation at each k is what the patch's text, which says p, has at the tokens k and `value`
abbrev pub HaveValuesIn : List ℕ → Json → List TextOperation → Type 0
HaveValuesIn patch p os = (k : ℕ) (o : TextOperation) → slice_get os k ≡ Some o → HasValueAt patch p (decimal_token k ∷ codes "value" ∷ []) o

-- the values of the operations are written so in the patch's text
abbrev pub AreWrittenIn : List ℕ → List TextOperation → Type 0
AreWrittenIn patch os = (p : Json) × Says patch p × HaveValuesIn patch p os

-- ---- for private clauses

-- an operation with this text of its value, if it has one
abbrev pub IsTexted : Operation → List ℕ → TextOperation → Type 0
IsTexted (document.add P v) s (Add Q t) = (Q ≡ P) × (t.now ≡ s)
IsTexted (document.remove P) s (Remove Q) = Q ≡ P
IsTexted (document.replace P v) s (Replace Q t) = (Q ≡ P) × (t.now ≡ s)
IsTexted (document.move F P) s (Move G Q) = (G ≡ F) × (Q ≡ P)
IsTexted (document.copy F P) s (Copy G Q) = (G ≡ F) × (Q ≡ P)
IsTexted (document.test P v) s (Test Q t) = (Q ≡ P) × (t.now ≡ s)
IsTexted op s o = ⊥

-- its `path`
abbrev pub place_of : TextOperation → Pointer
place_of (Add P s) = P
place_of (Remove P) = P
place_of (Replace P s) = P
place_of (Move F P) = P
place_of (Copy F P) = P
place_of (Test P s) = P
