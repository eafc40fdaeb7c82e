use Rattle.std.proofs.Common.{◌≡◌, ◌-◌, List, ℕ, subst, arith}
use Rattle.std.specs.Bool.{Decides}
use Rattle.json.specs.Json.{string}
use Rattle.json_text.specs.Listing.{IsTextOf}
use Rattle.json_pieces.proofs.Naming.{named_here, none_behind, not_here}
use Rattle.json_pieces.proofs.seams.last_in.Goals as goal

pub loop-i-init : goal.loop-i-init
loop-i-init c = record {
  within = omega arith;
  none = λ cs h. none_behind c.args.seams.now cs _ c.args.name.now h (omega arith);
}

pub returns-then-is_name_text-clause-number : goal.returns-then-is_name_text-clause-number
returns-then-is_name_text-clause-number c = λ cs h.
    let d = subst (λ u. (l : List ℕ) → IsTextOf u (string l) → Decides c.is_name_text.result (l ≡ c.args.name.now)) c.as_str.ensures c.is_name_text.ensures in
    named_here c.args.seams.now cs (c.loop-i.i - 1) c.loop-i.i c.args.name.now c.index-seams-i.result c.is_name_text.result h (omega (arith, c.loop-i.invariant.within, c.loop-i-test.true)) (omega (arith, c.loop-i-test.true)) c.index-seams-i.is d (c.loop-i.invariant.none cs h) c.if-is_name_text.true

pub loop-i-preserved : goal.loop-i-preserved
loop-i-preserved c = record {
  within = omega (arith, c.loop-i.invariant.within);
  none = λ cs h.
      let d = subst (λ u. (l : List ℕ) → IsTextOf u (string l) → Decides c.is_name_text.result (l ≡ c.args.name.now)) c.as_str.ensures c.is_name_text.ensures in
      not_here c.args.seams.now cs (c.loop-i.i - 1) c.loop-i.i c.args.name.now c.index-seams-i.result c.is_name_text.result h (omega (arith, c.loop-i.invariant.within, c.loop-i-test.true)) (omega (arith, c.loop-i-test.true)) c.index-seams-i.is d (c.loop-i.invariant.none cs h) c.if-is_name_text.false;
}
