use Rattle.std.proofs.Common.{◌<◌, ◌^◌, ◌∙◌, arith, sym}
use Rattle.std.proofs.lemmas.Bool.{false≢true}
use Rattle.std.proofs.lemmas.Result.{IfOk-weaker}
use Rattle.json_patch_text.proofs.Undone.{place_kept, place_settled}
use Rattle.json_patch_text.proofs.undo.settled.Goals as goal
use Rattle.jsonptr.specs.PlaceLaws.{token_is_decimal}
use Rattle.jsonptr.specs.Pointers.{token_of, tokens_of}

pub returns-clause-place : goal.returns-clause-place
returns-clause-place c =
    let small : c.in_ok-count.count < 2 ^ 64 = omega arith in
    IfOk-weaker c.with_last.result _ _
    (λ place h i F l js said e at. place_settled i (tokens_of c.args.path) c.in_ok-place.place place F (tokens_of c.in-Some.parent) l (token_of c.in-Some.last) c.as_str.result.now js c.in_ok-count.count c.in_ok-place.ensures e c.in-Some.ensures.last (c.is_key.ensures.0 c.if-not-is_key.false)
    (c.as_str.ensures.value ∙ c.in_ok-number.ensures.ok ∙ sym (token_is_decimal c.in_ok-count.count small)) at (λ there. c.in_ok-count.ensures.count i js said there) h)
    c.with_last.ensures

pub returns-then-not-is_key-clause-place : goal.returns-then-not-is_key-clause-place
returns-then-not-is_key-clause-place c i F l js said e at =
    place_kept (tokens_of c.args.path) c.in_ok-place.place F (tokens_of c.in-Some.parent) l (token_of c.in-Some.last) js c.in_ok-place.ensures e c.in-Some.ensures.last (λ g. false≢true (sym c.if-not-is_key.true ∙ c.is_key.ensures.1 g))
