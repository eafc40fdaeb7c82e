use Rattle.std.proofs.Common.{◌≡◌, ◌↔◌, ◌++◌, ◌∷◌, ◌∙◌, [], Bool, IsTrue, false, not, refl, rules, sym}
use Rattle.std.proofs.lemmas.List.{append_cancel_left}
use Rattle.jsonptr.specs.Pointers.{tokens_of}
use Rattle.jsonptr.specs.Text.{IsProperPrefix, Pointer}
use Rattle.json_patch_operation.proofs.within.is_inside.Goals as goal

-- b tells whether nothing of P is left after F
inside : (b : Bool) (F P R : Pointer) → P ≡ F ++ R → (IsTrue b ↔ (R ≡ [])) → IsTrue (not b) ↔ IsProperPrefix F P
inside false F P (t ∷ R) is h = (λ yes. (t, R, is), λ p. refl)
inside b F P R is h = search (rules, append_cancel_left)

pub returns-in-Some : goal.returns-in-Some
returns-in-Some c = inside c.is_root.result (tokens_of c.args.from) (tokens_of c.args.path) (tokens_of c.in-Some.rest) c.in-Some.ensures.rest c.is_root.ensures
