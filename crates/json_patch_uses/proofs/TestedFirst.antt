-- A list of operations that begins with a test.
use Rattle.std.proofs.Common.{◌≡◌, ◌<◌, ◌-◌, ℕ, zero, suc, List, ◌∷◌, Some, option_map, slice_get, sym, ◌∙◌, subst}
use Rattle.std.proofs.Common.{arith}
use Rattle.std.specs.Prelude.{◌↔◌}
use Rattle.serde_json.specs.Data.{Data}
use Rattle.json_patch.specs.ChangeComputed.{pointee}
use Rattle.json_patch.specs.Operation.{Operation, test, path_of}
use Rattle.json_patch.specs.Refusal.{NamesFirst}
use Rattle.json_patch.specs.Resolve.{StandsAt}
use Rattle.json_patch.specs.Run.{RefusesAt}
use Rattle.json_patch.specs.PatchError.{PatchError}
use Rattle.json_patch.specs.PatchErrorKind.{PatchErrorKind}
use Rattle.json_patch.specs.PatchErrorKind.TheVariants.{TestFailed, InvalidFromPointer, InvalidPointer}
use Rattle.json_patch.specs.PatchErrorKind.TheVariants.{CannotMoveInsideItself}

abbrev pub Law : Type 0
Law = (d : Data) (P : List (List ℕ)) (c : Data) → StandsAt d P c ↔ (pointee d P ≡ Some c)

module _ (law : Law) (d : Data) (P : List (List ℕ)) (v : Data) (ops : List Operation) where
  other : (k : ℕ) (kind : PatchErrorKind) → RefusesAt d (test P v ∷ ops) k kind → k ≡ 0 → StandsAt d P v → ⊥
  other zero TestFailed h z at =
      let one : Some h.0 ≡ Some v = sym ((law d P h.0).0 h.1) ∙ (law d P v).0 at in h.2 cc
  other zero InvalidPointer h z at = h v at
  other zero InvalidFromPointer h z at = h
  other zero CannotMoveInsideItself h z at = h
  other (suc k) kind h z at = absurd (omega (arith, z))

  later : (k : ℕ) (kind : PatchErrorKind) (path : List (List ℕ)) → RefusesAt d (test P v ∷ ops) k kind
      → option_map path_of (slice_get (test P v ∷ ops) k) ≡ Some path → 0 < k
      → StandsAt d P v × (RefusesAt d ops (k - 1) kind × (option_map path_of (slice_get ops (k - 1)) ≡ Some path))
  later zero kind path h named some = absurd (omega (arith, some))
  later (suc k) kind path h named some =
      let before : suc k - 1 ≡ k = omega arith in (
        h.1.0,
        subst (λ j. RefusesAt d ops j kind × (option_map path_of (slice_get ops j) ≡ Some path)) (sym before)
            (subst (λ m. RefusesAt m ops k kind) h.1.1 h.2, named),
      )

  pub refused_first : (L : List Operation) (e : PatchError) → L ≡ test P v ∷ ops → NamesFirst d L e → e.operation ≡ 0 → StandsAt d P v → ⊥
  refused_first L e is h z = let first : NamesFirst d (test P v ∷ ops) e = subst (λ os. NamesFirst d os e) is h in other e.operation e.kind first.0 z

  pub refused_later : (L : List Operation) (e : PatchError) → L ≡ test P v ∷ ops → NamesFirst d L e → 0 < e.operation
      → StandsAt d P v × (RefusesAt d ops (e.operation - 1) e.kind × (option_map path_of (slice_get ops (e.operation - 1)) ≡ Some e.path))
  refused_later L e is h some = let first : NamesFirst d (test P v ∷ ops) e = subst (λ os. NamesFirst d os e) is h in later e.operation e.kind e.path first.0 first.1 some
