use Rattle.std.proofs.Common.{◌≡◌, ◌<◌, ◌+◌, ◌-◌, ◌∙◌, List, None, Some, arith, ap, length, subst, sym, take}
use Rattle.std.proofs.lemmas.List.{take_all}
use Rattle.json_text.specs.Rows.{Child, last_named}
use Rattle.json_pieces.specs.Nodes.{AreNames}
use Rattle.long_vec.specs.Blocks.{items_in}
use Rattle.json_pieces.proofs.Naming.{before_block, last_from, last_there, none_behind}
use Rattle.json_pieces.proofs.seams.scanned.Goals as goal

pub loop-i-init : goal.loop-i-init
loop-i-init c =
    let bs = c.args.blocks.now in
    record {
      within = omega arith;
      before = sym c.requires ∙ ap (λ l. length (items_in l)) (sym (take_all (length bs) bs (omega arith)));
      none = λ cs h. none_behind (items_in bs) cs c.args.count c.args.name.now h (omega (arith, c.requires));
    }

pub overflow_sub-before : goal.overflow_sub-before
overflow_sub-before c =
    let bs = c.args.blocks.now in
    let next : c.loop-i.i ≡ c.loop-i.i - 1 + 1 = omega (arith, c.loop-i-test.true) in
    let at = before_block bs (c.loop-i.i - 1) c.loop-i.before c.index-blocks-i.result c.args.name.now (omega (arith, c.loop-i.invariant.within, c.loop-i-test.true)) c.index-blocks-i.is (c.loop-i.invariant.before ∙ ap (λ n. length (items_in (take n bs))) next) in
    omega (arith, at, c.len-before.ensures)

pub returns-in-Some : goal.returns-in-Some
returns-in-Some c = λ cs h.
    let bs = c.args.blocks.now in
    let next : c.loop-i.i ≡ c.loop-i.i - 1 + 1 = omega (arith, c.loop-i-test.true) in
    let there : (cs : List Child) → AreNames c.index-blocks-i.result.items cs → Some c.in-Some.number ≡ last_named c.args.name.now cs = λ ds k. sym c.in-Some.is ∙ c.last_in.ensures.number ds (subst (λ l. AreNames l ds) (sym c.as_slice.ensures.value) k) in
    last_there bs (c.loop-i.i - 1) c.loop-i.before c.index-blocks-i.result c.args.name.now (omega (arith, c.loop-i.invariant.within, c.loop-i-test.true)) c.index-blocks-i.is (c.loop-i.invariant.before ∙ ap (λ n. length (items_in (take n bs))) next) (c.loop-i.before - c.len-before.result) c.in-Some.number cs (ap (λ n. c.loop-i.before - n) c.len-before.ensures) h c.loop-i.invariant.none there

pub loop-i-preserved : goal.loop-i-preserved
loop-i-preserved c =
    let bs = c.args.blocks.now in
    let b = c.index-blocks-i.result in
    let next : c.loop-i.i ≡ c.loop-i.i - 1 + 1 = omega (arith, c.loop-i-test.true) in
    let block : c.loop-i.i - 1 < length bs = omega (arith, c.loop-i.invariant.within, c.loop-i-test.true) in
    let behind = c.loop-i.invariant.before ∙ ap (λ n. length (items_in (take n bs))) next in
    let at = before_block bs (c.loop-i.i - 1) c.loop-i.before b c.args.name.now block c.index-blocks-i.is behind in
    let there : (cs : List Child) → AreNames b.items cs → None ≡ last_named c.args.name.now cs = λ ds k. sym c.in_default.is ∙ c.last_in.ensures.number ds (subst (λ l. AreNames l ds) (sym c.as_slice.ensures.value) k) in
    record {
      within = omega (arith, c.loop-i.invariant.within);
      before = omega (arith, at, c.len-before.ensures);
      none = λ cs h. last_from bs (c.loop-i.i - 1) c.loop-i.before b c.args.name.now block c.index-blocks-i.is behind (c.loop-i.before - c.len-before.result) cs None (ap (λ n. c.loop-i.before - n) c.len-before.ensures) h c.loop-i.invariant.none there;
    }
