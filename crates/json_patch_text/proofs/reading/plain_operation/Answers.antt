use Rattle.std.proofs.Common.{codes, refl}
use Rattle.json_patch_text.specs.Operations.{copy, move, remove}
use Rattle.json_patch_text.specs.Outline.{its_op, its_path, its_value, bytes_in}
use Rattle.json_patch_text.proofs.Outlines.{from_and_path, is_named, points, some_weaker}
use Rattle.json_patch_text.proofs.reading.plain_operation.Goals as goal

pub returns-in-remove : goal.returns-in-remove
returns-in-remove c = λ t j f. (
  remove c.in-Some-2.path,
  (is_named j (c.in-Some.ensures t (codes "op") j (f its_op)) c.in-remove.is, (points (bytes_in c.args.fields.path) c.in_ok-path.field-0 c.in-Some-2.path c.in-Some-2.is c.in_ok-path.ensures t (codes "path") j (f its_path), tt)),
  refl,
  tt,
)

pub returns-in-Some-3 : goal.returns-in-Some-3
returns-in-Some-3 c = λ t j f. (
  move c.in-Some-3.from c.in-Some-2.path,
  (is_named j (c.in-Some.ensures t (codes "op") j (f its_op)) c.in-move.is, from_and_path t j c.args.fields _ _ c.in-Some-3.from c.in-Some-2.path f c.in-Some-3.is c.in_ok-from-in-move.ensures c.in-Some-2.is c.in_ok-path.ensures),
  (refl, refl),
  tt,
)

pub returns-in-Some-4 : goal.returns-in-Some-4
returns-in-Some-4 c = λ t j f. (
  copy c.in-Some-4.from c.in-Some-2.path,
  (is_named j (c.in-Some.ensures t (codes "op") j (f its_op)) c.in-copy.is, from_and_path t j c.args.fields _ _ c.in-Some-4.from c.in-Some-2.path f c.in-Some-4.is c.in_ok-from-in-copy.ensures c.in-Some-2.is c.in_ok-path.ensures),
  (refl, refl),
  tt,
)

pub returns-in_default-name : goal.returns-in_default-name
returns-in_default-name c =
    some_weaker c.with_value.result c.with_value.ensures
    (λ o h. λ t j f. h t j (c.in-Some.ensures t (codes "op") j (f its_op)) (points (bytes_in c.args.fields.path) c.in_ok-path.field-0 c.in-Some-2.path c.in-Some-2.is c.in_ok-path.ensures t (codes "path") j (f its_path)) (f its_value))
