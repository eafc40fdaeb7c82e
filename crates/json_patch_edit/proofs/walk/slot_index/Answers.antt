use Rattle.json_patch_edit.proofs.Common.{rules, token_of}
use Rattle.json_patch_edit.proofs.Containers.{refused, slot_outside, slot_within}
use Rattle.json_patch_edit.proofs.walk.slot_index.Goals as goal

pub returns-in_err-for_len_incl : goal.returns-in_err-for_len_incl
returns-in_err-for_len_incl c = search (rules, refused, slot_outside)

pub returns : goal.returns
returns c =
    slot_within (token_of c.args.token) c.in_ok-to_index.field-0 c.args.len c.in_ok-for_len_incl.field-0 c.in_ok-to_index.ensures.index c.in_ok-for_len_incl.ensures.place c.in_ok-for_len_incl.ensures.within
