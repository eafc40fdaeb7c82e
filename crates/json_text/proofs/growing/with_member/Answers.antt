use Rattle.std.proofs.Common.{◌++◌, [], ◌∷◌, true, sym, ap, ◌∙◌, subst}
use Rattle.std.specs.String.{string_bytes}
use Rattle.json_text.specs.Added.{IsPutInto}
use Rattle.json_text.specs.Owned.{in_whole}
use Rattle.json_text.specs.Rows.{AreInOrder, IsInside, IsMemberAhead}
use Rattle.json_lexemes.specs.Spelled.{Says}
use Rattle.json_text.proofs.Rows.Added.{at_end, at_start, if_grown, last_member, same_last}
use Rattle.json_text.proofs.growing.with_member.Goals as goal

pub returns-in_default : goal.returns-in_default
returns-in_default c =
    let t = c.args.own.text.now in
    let k = c.args.name.now in
    let ahead = c.as_str.ensures.value ∙ c.in_ok-push_str.ensures.bytes ∙ ap (λ s. s ++ (58 ∷ [])) c.in_ok-ahead.ensures in
    if_grown c.put_in.result string_bytes (in_whole c.args.own) _ (λ v. Says t v) (λ v grown. IsPutInto t v k c.args.value.now grown) c.put_in.ensures
    (at_start t k c.args.value.now c.as_str.result.now c.args.start c.requires.row (λ cs h. c.in_default.ensures.last cs (subst (λ x. IsInside x true cs c.args.start) (sym c.as_bytes-bytes.ensures.value) h)) ahead c.requires.within)

pub label-requires-clause-member : goal.label-requires-clause-member
label-requires-clause-member c =
    last_member c.args.own.text.now c.in-Some.number c.in-Some.last c.args.start c.requires.row (same_last _ c.args.own.text.now true c.in-Some.number c.in-Some.last c.args.start c.as_bytes-bytes.ensures.value c.in-Some.ensures.last)

pub returns : goal.returns
returns c =
    let t = c.args.own.text.now in
    let k = c.args.name.now in
    let r = c.in-Some.last in
    let ahead = c.as_str-2.result.now in
    if_grown c.put_in-2.result string_bytes (in_whole c.args.own) _ (λ v. Says t v) (λ v grown. IsPutInto t v k c.args.value.now grown) c.put_in-2.ensures
    (at_end t k c.args.value.now ahead c.args.start c.in-Some.number r c.requires.row (same_last _ t true c.in-Some.number r c.args.start c.as_bytes-bytes.ensures.value c.in-Some.ensures.last)
    (subst (λ x. AreInOrder x r.part) c.as_bytes-bytes.ensures.value c.in-Some.ensures.order.1) (subst (IsMemberAhead t r k) (sym c.as_str-2.ensures.value) c.in_ok-ahead-2.ensures) c.requires.new)

pub last_part-requires : goal.last_part-requires
last_part-requires c = c.first.ensures.ahead true
