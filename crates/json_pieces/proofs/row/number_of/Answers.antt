use Rattle.std.proofs.Common.{subst}
use Rattle.json_text.specs.Cuts.{AllSuit}
use Rattle.long_vec.specs.Items.{items_of}
use Rattle.json_pieces.proofs.Lists.{pieces_in}
use Rattle.json_pieces.proofs.Naming.{by_element, by_name, named_within, names_are, none_counted, suits_count}
use Rattle.json_pieces.proofs.row.number_of.Goals as goal

pub returns-then-row-clause-number : goal.returns-then-row-clause-number
returns-then-row-clause-number c = λ cs h.
    let r = c.args.row.now in
    let suit = subst (λ b. AllSuit b cs (pieces_in (items_of r.seams.all) (items_of r.values))) c.if-row.true h in
    let names = names_are (items_of r.seams.all) (items_of r.values) cs c.requires.sound.1 suit in
    by_name r.named c.args.name.now cs c.last_named.result c.if-row.true (c.last_named.ensures cs names)

pub returns-then-row-clause-within : goal.returns-then-row-clause-within
returns-then-row-clause-within c =
    let r = c.args.row.now in
    let cs = c.requires.sound.0.cs in
    let suit = subst (λ b. AllSuit b cs (pieces_in (items_of r.seams.all) (items_of r.values))) c.if-row.true c.requires.sound.0.suit in
    let names = names_are (items_of r.seams.all) (items_of r.values) cs c.requires.sound.1 suit in
    named_within c.args.name.now cs c.last_named.result _ (c.last_named.ensures cs names) (suits_count r.named (items_of r.seams.all) (items_of r.values) cs c.requires.sound.1 c.requires.sound.0.suit)

pub returns-else-row-clause-number : goal.returns-else-row-clause-number
returns-else-row-clause-number c = λ cs h.
    let r = c.args.row.now in
    by_element r.named c.args.name.now cs c.element_number.result c.if-row.false c.element_number.ensures.place
    (none_counted c.args.name.now cs c.element_number.result _ _ c.count.ensures c.element_number.ensures.none (suits_count r.named (items_of r.seams.all) (items_of r.values) cs c.requires.sound.1 h))
