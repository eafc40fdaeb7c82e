use Rattle.json_patch_merge.proofs.Common.{rules, view}
use Rattle.std.proofs.Common.{option_map, unwrap_or}
use Rattle.json_merge_diff.proofs.Walks.{goes_on, adds, missing, has_it, lacks_it, either, either_document}
use Rattle.json_merge_diff.proofs.alone.first_alone.Goals as goal

pub loop-name-preserved-then-not-contains_key : goal.loop-name-preserved-then-not-contains_key
loop-name-preserved-then-not-contains_key c ho hi =
    let w = c.loop-name.invariant ho hi in
    let is = either c.args.instead c.in-Some.value c.unwrap_or-kept.result (view c.in_ok-clone-2.field-0) c.unwrap_or-kept.ensures (search rules) in
    adds (c.in-Some.name.now, c.in-Some.value.now) c.loop-name.alone.entries c.insert.new.self.entries c.in_ok-clone.field-0 c.in_ok-clone-2.field-0 c.in-Some.ensures.steps w (search rules) (search rules)
    (λ hq. either_document c.args.instead c.in-Some.value _ is hi hq)
    (λ found. has_it (unwrap_or (option_map (λ v. view v.now) c.args.instead)) _ _ _ _ is found (missing c.as_str.result.now _ c.args.second.now.entries c.contains_key.result c.as_str.ensures.value c.contains_key.ensures c.if-not-contains_key.true))

pub loop-name-preserved : goal.loop-name-preserved
loop-name-preserved c ho hi =
    goes_on (c.in-Some.name.now, c.in-Some.value.now) c.in-Some.ensures.steps (c.loop-name.invariant ho hi)
    (λ found. lacks_it (unwrap_or (option_map (λ v. view v.now) c.args.instead)) c.as_str.result.now _ c.args.second.now.entries c.contains_key.result _ _ c.as_str.ensures.value c.contains_key.ensures c.if-not-contains_key.false found)
