use Rattle.json_patch_edit.proofs.Common.{◌≡◌, get_member, members_view, token_of}
use Rattle.json_patch_edit.proofs.walk.member_of.Given as goal

abbrev pub invariant-loop-key : goal.invariant-loop-key
invariant-loop-key l = get_member (token_of l.token) (members_view l.members.entries) ≡ get_member (token_of l.token) (members_view l.key-iterator)
