use Rattle.std.proofs.Common.{◌∙◌, ap, arith, length, map, refl, rules, subst, sym}
use Rattle.json_text.specs.Cuts.{row_text}
use Rattle.json_pieces.specs.Nodes.{IsSound, parts_of, row_view, text_bytes, view, wide}
use Rattle.json_pieces.proofs.Lists.{pieces_in}
use Rattle.std.specs.Box.{with_value}
use Rattle.jsonptr.specs.Pointers.{token_of, tokens_left}
use Rattle.long_vec.specs.Items.{capacity_of, items_of}
use Rattle.json_pieces.specs.Held.{held, row_held}
use Rattle.json_pieces.specs.Looks.{Looks}
use Rattle.json_pieces.specs.declared.node.Node.{the_lemmas}
use Rattle.json_pieces.specs.declared.node.Node.TheVariants.{Open}
use Rattle.json_pieces.proofs.Looks.{looked_below, none_looked, still_sound}
use Rattle.json_pieces.proofs.Opened.{opened_itself, opened_through, opened_trans}
use Rattle.json_pieces.proofs.Stepped.{value_opened}
use Rattle.json_pieces.proofs.Walks.{number_found, number_none, number_within, open_sound, open_text, open_whole, put_back, row_made_at, set_same, value_whole}
use Rattle.json_pieces.proofs.shape.+looking.Goals as goal

pub shape_in-returns-in_default-clause-looks : goal.shape_in-returns-in_default-clause-looks
shape_in-returns-in_default-clause-looks t c = none_looked (token_of c.args.token) (tokens_left c.args.rest) c.args.row.now c.requires.sound (number_none c.args.row.now (token_of c.args.token) _ c.in_default.is c.in_ok-number.ensures.number)

pub shape_in-shape_at-found-requires : goal.shape_in-shape_at-found-requires
shape_in-shape_at-found-requires t c = (omega (arith, c.decreases), value_whole c.args.row.now c.in-Some.number _ c.requires.sound (number_within c.args.row.now _ _ c.in-Some.is c.in_ok-number.ensures.within) c.exchange-value.ensures.value)

pub shape_in-returns-clause-sound : goal.shape_in-returns-clause-sound
shape_in-returns-clause-sound t c =
    let r = c.args.row.now in
    let n = c.in-Some.number in
    let w = c.shape_at-found.new.node in
    let left = put_back (items_of r.values) _ _ n _ w c.exchange-value.ensures.items c.exchange.ensures.items in
    subst (λ l. IsSound (wide r.named r.length (text_bytes r.hollow) (parts_of (items_of r.seams.all) (map view l)))) (sym left)
    (still_sound r n c.exchange-value.result w (tokens_left c.args.rest) c.requires.sound (number_within c.args.row.now _ _ c.in-Some.is c.in_ok-number.ensures.within) c.exchange-value.ensures.value c.shape_at-found.ensures.whole c.shape_at-found.ensures.text)

pub shape_in-returns-clause-text : goal.shape_in-returns-clause-text
shape_in-returns-clause-text t c =
    let r = c.args.row.now in
    let n = c.in-Some.number in
    let w = c.shape_at-found.new.node in
    let left = put_back (items_of r.values) _ _ n _ w c.exchange-value.ensures.items c.exchange.ensures.items in
    ap (λ l. row_text r.named (text_bytes r.hollow) (pieces_in (items_of r.seams.all) l)) left ∙ set_same r n c.exchange-value.result w c.requires.sound (number_within c.args.row.now _ _ c.in-Some.is c.in_ok-number.ensures.within) c.exchange-value.ensures.value c.shape_at-found.ensures.text

pub shape_in-returns-clause-looks : goal.shape_in-returns-clause-looks
shape_in-returns-clause-looks t c =
    looked_below c.args.row.now c.in-Some.number c.exchange-value.result c.shape_at-found.new.node (tokens_left c.args.rest) c.requires.sound (number_within c.args.row.now _ _ c.in-Some.is c.in_ok-number.ensures.within) c.exchange-value.ensures.value c.shape_at-found.result (token_of c.args.token) (number_found c.args.row.now (token_of c.args.token) _ _ c.in-Some.is c.in_ok-number.ensures.number) c.shape_at-found.ensures.looks

pub shape_open-shape_in-requires : goal.shape_open-shape_in-requires
shape_open-shape_in-requires t c = (omega (arith, c.decreases, ap length c.in-Some.ensures.steps), subst (λ r. IsSound (row_view r)) (sym (c.deref_mut.ensures.value ∙ ap (λ b. b.value) c.in-Open.row-is)) (open_sound c.open.new.node c.in-Open.row c.in-Open.is c.in_ok-open.ensures.whole))

pub shape_open-returns-in-Open-clause-whole : goal.shape_open-returns-in-Open-clause-whole
shape_open-returns-in-Open-clause-whole t c = open_whole _ (with_value c.in-Open.row c.shape_in.new.row) (search (rules, the_lemmas)) c.shape_in.ensures.sound

pub shape_open-returns-in-Open-clause-text : goal.shape_open-returns-in-Open-clause-text
shape_open-returns-in-Open-clause-text t c =
    open_text c.args.node.now c.open.new.node _ c.deref_mut.result.now c.in-Open.row (with_value c.in-Open.row c.shape_in.new.row) c.in_ok-open.ensures.text (c.deref_mut.ensures.value ∙ ap (λ b. b.value) c.in-Open.row-is) c.in-Open.is (search (rules, the_lemmas)) c.shape_in.ensures.text

pub shape_open-returns-in-Open-clause-looks : goal.shape_open-returns-in-Open-clause-looks
shape_open-returns-in-Open-clause-looks t c =
    row_made_at c.shape_in.result (λ P found text j new. Looks j P found) c.args.node.now c.open.new.node (Open (with_value c.in-Open.row c.shape_in.new.row)) c.deref_mut.result.now c.in-Open.row (with_value c.in-Open.row c.shape_in.new.row) _ _ c.in-Some.ensures.steps c.in_ok-open.ensures.text (c.deref_mut.ensures.value ∙ ap (λ b. b.value) c.in-Open.row-is) c.in-Open.is refl c.shape_in.ensures.looks

pub shape_open-returns-in_default-clause-finer : goal.shape_open-returns-in_default-clause-finer
shape_open-returns-in_default-clause-finer t c = opened_itself (held c.args.node.now)

pub shape_open-returns-in-Open-clause-finer : goal.shape_open-returns-in-Open-clause-finer
shape_open-returns-in-Open-clause-finer t c =
    opened_trans (held c.args.node.now) (held c.open.new.node) _ c.in_ok-open.ensures.finer
    (opened_through c.open.new.node _ c.in-Open.row (with_value c.in-Open.row c.shape_in.new.row) c.deref_mut.result.now c.in-Open.is (search (rules, the_lemmas)) (c.deref_mut.ensures.value ∙ ap (λ b. b.value) c.in-Open.row-is) c.shape_in.ensures.finer)

pub shape_in-returns-in_err-number-clause-finer : goal.shape_in-returns-in_err-number-clause-finer
shape_in-returns-in_err-number-clause-finer t c = opened_itself (row_held c.args.row.now)

pub shape_in-returns-in_default-clause-finer : goal.shape_in-returns-in_default-clause-finer
shape_in-returns-in_default-clause-finer t c = opened_itself (row_held c.args.row.now)

pub shape_in-returns-clause-finer : goal.shape_in-returns-clause-finer
shape_in-returns-clause-finer t c =
    let r = c.args.row.now in
    let n = c.in-Some.number in
    let w = c.shape_at-found.new.node in
    let left = put_back (items_of r.values) _ _ n _ w c.exchange-value.ensures.items c.exchange.ensures.items in
    value_opened r n c.exchange-value.result w (number_within c.args.row.now _ _ c.in-Some.is c.in_ok-number.ensures.within) c.exchange-value.ensures.value (items_of c.exchange.new.self) r.length (capacity_of c.exchange.new.self) left (c.exchange.ensures.capacity ∙ c.exchange-value.ensures.capacity) refl c.shape_at-found.ensures.finer

-- a small value stays as it is

pub shape_at-returns-in-Some-clause-finer : goal.shape_at-returns-in-Some-clause-finer
shape_at-returns-in-Some-clause-finer t c = opened_itself (held c.args.node.now)
