use Rattle.json_patch_operation.proofs.Common.{◌≡◌, [], ◌++◌, ap, rules, refl, is_ok, character_text, IsUtf8-past_char}
use Rattle.json_patch_operation.proofs.Common.{has_written_append, has_written_of_eq, chars_rest}
use Rattle.json_patch_operation.proofs.Texts.{escaped_more, quoted_end}
use Rattle.json_patch_operation.proofs.printing.write_text.Goals as goal

pub loop-character-init : goal.loop-character-init
loop-character-init g c =
    let same : chars_rest c.into_iter-character-iterator.result ≡ c.args.text.now = search rules in
    (rw same c.utf8.text, λ plain. ([], search rules, rw same refl))

pub loop-character-preserved : goal.loop-character-preserved
loop-character-preserved g c =
    let (text, so_far) = c.loop-character.invariant in
    let step = c.in-Some.ensures.steps.0 in (
      IsUtf8-past_char _ _ c.in-Some.character text step,
      λ plain.
          let (done, wrote, whole) = so_far plain in
          let one = c.write_character.ensures wrote.plain (ap is_ok c.in_ok-write_character.was) in (
            done ++ character_text c.in-Some.character,
            has_written_append _ _ _ _ _ _ wrote one,
            escaped_more done _ _ _ c.in-Some.character text step whole,
          ),
    )

pub returns : goal.returns
returns g c plain ok =
    let opened = c.write_str.ensures.writes plain (ap is_ok c.in_ok-write_str.was) in
    let (done, wrote, whole) = c.loop-character.invariant.1 opened.plain in
    let closed = c.write_str-2.ensures.writes wrote.plain ok in
    has_written_of_eq _ _ _ _ _ (quoted_end done _ _ c.in-None.ensures.steps.0.0 whole) (has_written_append _ _ _ _ _ _ (has_written_append _ _ _ _ _ _ opened wrote) closed)
