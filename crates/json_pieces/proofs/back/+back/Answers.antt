use Rattle.std.proofs.Common.{◌≡◌, ◌∙◌, ◌<◌, ap, arith, length, refl, rules, subst, sym}
use Rattle.std.specs.Box.{with_value}
use Rattle.std.proofs.lemmas.List.{length-set}
use Rattle.long_vec.specs.Items.{capacity_of, items_of}
use Rattle.json_pieces.specs.Backs.{AreBack, IsBackAt}
use Rattle.json_pieces.specs.Held.{held}
use Rattle.json_pieces.specs.declared.node.Node.{the_lemmas}
use Rattle.json_pieces.proofs.Backs.{along_rest, below_child, below_made, below_of, below_within, in_row, no_level, no_levels, not_empty, rest_count, through}
use Rattle.json_pieces.proofs.Levels.{held_closed}
use Rattle.json_pieces.proofs.Walks.{put_back}
use Rattle.json_pieces.proofs.back.+back.Goals as goal

pub back_at-back_by-requires : goal.back_at-back_by-requires
back_at-back_by-requires t c =
    let none = no_levels c.args.place.now (sym c.is_empty.ensures ∙ c.if-is_empty.true) in
    (c.requires.0, subst (λ ls. IsBackAt ls c.args.steps.items (held c.args.node.now) c.requires.0) none c.requires.1)

pub back_at-returns-then-is_empty : goal.back_at-returns-then-is_empty
back_at-returns-then-is_empty t c = λ p h.
    let none = no_levels c.args.place.now (sym c.is_empty.ensures ∙ c.if-is_empty.true) in
    c.back_by.ensures p (subst (λ ls. IsBackAt ls c.args.steps.items (held c.args.node.now) p) none h)

pub back_at-unreachable-requires : goal.back_at-unreachable-requires
back_at-unreachable-requires t c =
    let some : 0 < length c.args.place.now = not_empty c.args.place.now (sym c.is_empty.ensures ∙ c.if-is_empty.false) in
    no_level c.in-Closed.field-0 _ _ _ _ (ap held c.in-Closed.is ∙ held_closed c.in-Closed.field-0) (below_of c.args.place.now (record { number = 0; length = 0 }) (AreBack c.args.steps.items) _ _ some c.requires.1)

pub back_at-back_below-requires : goal.back_at-back_below-requires
back_at-back_below-requires t c =
    let some : 0 < length c.args.place.now = not_empty c.args.place.now (sym c.is_empty.ensures ∙ c.if-is_empty.false) in
    (omega (arith, c.decreases), (some, in_row (IsBackAt c.args.place.now c.args.steps.items) c.args.node.now c.in-Open.row c.deref_mut.result.now c.in-Open.is (c.deref_mut.ensures.value ∙ ap (λ b. b.value) c.in-Open.row-is) c.requires))

pub back_at-returns : goal.back_at-returns
back_at-returns t c =
    through (IsBackAt c.args.place.now c.args.steps.items) c.args.node.now _ c.in-Open.row (with_value c.in-Open.row c.back_below.new.row) c.deref_mut.result.now c.in-Open.is (search (rules, the_lemmas)) (c.deref_mut.ensures.value ∙ ap (λ b. b.value) c.in-Open.row-is) c.back_below.ensures

pub back_below-exchange-value-requires : goal.back_below-exchange-value-requires
back_below-exchange-value-requires t c =
    let b = below_of c.args.place.now (record { number = 0; length = 0 }) (AreBack c.args.steps.items) _ _ c.requires.some c.requires.can.1 in
    below_within c.args.row.now _ _ _ b

pub back_below-exchange-requires : goal.back_below-exchange-requires
back_below-exchange-requires t c =
    let r = c.args.row.now in
    let b = below_of c.args.place.now (record { number = 0; length = 0 }) (AreBack c.args.steps.items) _ _ c.requires.some c.requires.can.1 in
    let same : length (items_of c.exchange-value.new.self) ≡ length (items_of r.values) = ap length c.exchange-value.ensures.items ∙ length-set (items_of r.values) _ _ in
    let within = below_within r _ _ _ b in
    omega (arith, within, same)

pub back_below-back_at-requires : goal.back_below-back_at-requires
back_below-back_at-requires t c =
    let r = c.args.row.now in
    let b = below_of c.args.place.now (record { number = 0; length = 0 }) (AreBack c.args.steps.items) _ _ c.requires.some c.requires.can.1 in
    let child = below_child r _ _ _ b c.exchange-value.result c.exchange-value.ensures.value in
    (omega (arith, c.decreases, rest_count c.args.place.now c.requires.some), (b.y, along_rest c.args.place.now (AreBack c.args.steps.items) _ _ b.y child b.inside))

pub back_below-returns : goal.back_below-returns
back_below-returns t c = λ p h.
    let r = c.args.row.now in
    let b = below_of c.args.place.now (record { number = 0; length = 0 }) (AreBack c.args.steps.items) _ p c.requires.some h in
    let child = below_child r _ _ _ b c.exchange-value.result c.exchange-value.ensures.value in
    let made = c.back_at.ensures b.y (along_rest c.args.place.now (AreBack c.args.steps.items) _ _ b.y child b.inside) in
    let w = c.back_at.new.node in
    below_made r _ _ _ b r.named _ _ (capacity_of c.exchange.new.self) r.hollow (items_of r.seams.all) (items_of c.exchange.new.self) w refl refl refl (c.exchange.ensures.capacity ∙ c.exchange-value.ensures.capacity) refl refl (put_back (items_of r.values) _ _ _ _ w c.exchange-value.ensures.items c.exchange.ensures.items) made
