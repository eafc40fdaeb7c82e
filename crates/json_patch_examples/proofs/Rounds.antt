-- A change, back and on.
use Rattle.std.proofs.Common.{◌≡◌, [], ◌∷◌, true, false, length, refl, ap, ◌∙◌, subst, arith}
use Rattle.std.specs.Prelude.{◌++◌, List}
use Rattle.serde_json.specs.Data.{Data}
use Rattle.json_patch.specs.Operation.{Operation}
use Rattle.json_patch.specs.Run.{Accepts}
use Rattle.json_patch_editor.specs.Commands.{Command, apply, undo, redo, Reply, accepted, moved, Replies, RepliesInTurn}
use Rattle.json_patch_editor.specs.Versions.{Versions, initial, after_apply, after_undo, after_redo}

abbrev pub OneMore : Type 0
OneMore = (vs ms ws : Versions) (cs : List Command) (rs : List Reply) (c : Command) (r : Reply)
    → RepliesInTurn vs cs rs ms → Replies ms c r ws → RepliesInTurn vs (cs ++ c ∷ []) (rs ++ r ∷ []) ws

module _ (one_more : OneMore) (d : Data) (ops : List Operation) where
  pub rounds : (v0 v1 v2 v3 v4 : Versions) → v0 ≡ initial 2 d → Accepts v0.here ops v1.here → v1 ≡ after_apply v1.here v0
      → v2 ≡ after_undo v1 → v3 ≡ after_undo v2 → v4 ≡ after_redo v3
      → RepliesInTurn (initial 2 d) (apply ops ∷ undo ∷ undo ∷ redo ∷ []) (accepted ∷ moved true ∷ moved false ∷ moved true ∷ []) v4
  rounds v0 v1 v2 v3 v4 is0 from0 to1 is2 is3 is4 =
      let acc : Accepts d ops v1.here = subst (λ v. Accepts v.here ops v1.here) is0 from0 in
      let is1 : v1 ≡ after_apply v1.here (initial 2 d) = to1 ∙ ap (after_apply v1.here) is0 in
      let to2 : v2 ≡ after_undo (after_apply v1.here (initial 2 d)) = is2 ∙ ap after_undo is1 in
      let to3 : v3 ≡ after_undo (after_undo (after_apply v1.here (initial 2 d))) = is3 ∙ ap after_undo to2 in
      let n1 : length v1.before ≡ 1 = ap (λ v. length v.before) is1 in
      let n2 : length v2.before ≡ 0 = ap (λ v. length v.before) to2 in
      let n3 : length v3.after ≡ 1 = ap (λ v. length v.after) to3 in
      let s1 : RepliesInTurn (initial 2 d) (apply ops ∷ []) (accepted ∷ []) v1 = one_more (initial 2 d) (initial 2 d) v1 [] [] (apply ops) accepted refl (acc, is1) in
      let s2 : RepliesInTurn (initial 2 d) (apply ops ∷ undo ∷ []) (accepted ∷ moved true ∷ []) v2
      = one_more (initial 2 d) v1 v2 (apply ops ∷ []) (accepted ∷ []) undo (moved true) s1 (((λ h. omega (arith, n1)), λ h. refl), is2) in
      let s3 : RepliesInTurn (initial 2 d) (apply ops ∷ undo ∷ undo ∷ []) (accepted ∷ moved true ∷ moved false ∷ []) v3
      = one_more (initial 2 d) v2 v3 (apply ops ∷ undo ∷ []) (accepted ∷ moved true ∷ []) undo (moved false) s2 (((λ h. cc), λ h. absurd (omega (arith, h, n2))), is3) in
      one_more (initial 2 d) v3 v4 (apply ops ∷ undo ∷ undo ∷ []) (accepted ∷ moved true ∷ moved false ∷ []) redo (moved true) s3 (((λ h. omega (arith, n3)), λ h. refl), is4)
