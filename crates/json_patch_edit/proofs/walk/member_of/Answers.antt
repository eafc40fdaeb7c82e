use Rattle.json_patch_edit.proofs.Common.{◌≡◌, string_bytes, sym, ap, ◌∙◌, true≢false, rules, get_member, members_view}
use Rattle.json_patch_edit.proofs.Common.{Entry, member_here, member_later, view_of_ref, view-lookup, token_of}
use Rattle.json_patch_edit.proofs.walk.member_of.Goals as goal

pub returns-then-is_key : goal.returns-then-is_key
returns-then-is_key c = search (rules, view_of_ref c.get.result, view-lookup c.encoded-name.result.now c.args.members.now.entries)

pub loop-key-preserved : goal.loop-key-preserved
loop-key-preserved c =
    let e : Entry = (c.in-Some.key.now, c.in-Some.member.now) in
    let name : c.as_str.result.now ≡ string_bytes e.0 = c.as_str.ensures.value in
    c.loop-key.invariant ∙ ap (λ es. get_member (token_of c.args.token) (members_view es)) c.in-Some.ensures.steps
    ∙ member_later (token_of c.args.token) e _ (λ same. true≢false (sym (c.is_key-in-loop-key.ensures.1 (same ∙ sym name)) ∙ c.if-is_key-2.false))

pub returns-then-is_key-2 : goal.returns-then-is_key-2
returns-then-is_key-2 c =
    let e : Entry = (c.in-Some.key.now, c.in-Some.member.now) in
    let name : c.as_str.result.now ≡ string_bytes e.0 = c.as_str.ensures.value in
    sym (c.loop-key.invariant ∙ ap (λ es. get_member (token_of c.args.token) (members_view es)) c.in-Some.ensures.steps
    ∙ member_here (token_of c.args.token) e _ (c.is_key-in-loop-key.ensures.0 c.if-is_key-2.true ∙ name))
