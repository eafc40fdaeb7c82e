-- Lists with a test before each removal and replacement, so that they are refused on other documents (RFC 6902, section 4.6).
use Rattle.std.specs.Prelude.{◌≡◌, List, [], ◌∷◌, ◌++◌}
use Rattle.serde_json.specs.Data.{Data}
use Rattle.json_patch.specs.Operation.{Operation, add, remove, replace, move, copy, test}
use Rattle.json_patch.specs.Resolve.{StandsAt}
use Rattle.json_patch.specs.Step.{Leaves}

-- G is a test of what op removes or replaces on d, or nothing where it adds
abbrev pub Guards : Data → Operation → List Operation → Type 0
Guards d (add P v) G = G ≡ []
Guards d (remove P) G = (w : Data) × StandsAt d P w × (G ≡ test P w ∷ [])
Guards d (replace P v) G = (w : Data) × StandsAt d P w × (G ≡ test P w ∷ [])
Guards d (move F P) G = ⊥
Guards d (copy F P) G = ⊥
Guards d (test P v) G = ⊥

-- gs are the operations, each that removes or replaces something directly after a test of what stands there in the run on d
abbrev pub IsGuarded : Data → List Operation → List Operation → Type 0
IsGuarded d [] gs = gs ≡ []
IsGuarded d (op ∷ ops) gs = (m : Data) × (G hs : List Operation) × Guards d op G × Leaves d op m × IsGuarded m ops hs × (gs ≡ G ++ op ∷ hs)

-- where op removes or replaces something, x has what d has
abbrev pub AgreesAt : Data → Data → Operation → Type 0
AgreesAt d x (add P v) = Unit {0}
AgreesAt d x (remove P) = (w : Data) × StandsAt d P w × StandsAt x P w
AgreesAt d x (replace P v) = (w : Data) × StandsAt d P w × StandsAt x P w
AgreesAt d x (move F P) = Unit {0}
AgreesAt d x (copy F P) = Unit {0}
AgreesAt d x (test P v) = Unit {0}

-- the run on d beside that on x, which ends in e: where an operation removes or replaces something, both documents have the same there
abbrev pub AcceptsBeside : Data → Data → List Operation → Data → Type 0
AcceptsBeside d x [] e = x ≡ e
AcceptsBeside d x (op ∷ ops) e = (m n : Data) × AgreesAt d x op × Leaves d op m × Leaves x op n × AcceptsBeside m n ops e
