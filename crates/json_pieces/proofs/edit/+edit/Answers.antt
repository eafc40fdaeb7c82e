use Rattle.std.proofs.Common.{None, ◌+◌, ◌-◌, ◌∷◌, ◌≡◌, length, map, refl, sym, ap, ◌∙◌, subst, arith, rules}
use Rattle.std.proofs.lemmas.Result.{IfOk-weaker, on_err_weaker}
use Rattle.std.specs.Box.{with_value}
use Rattle.std.specs.Prelude.{IfOk, IfSome}
use Rattle.std.specs.String.{string_bytes}
use Rattle.json.specs.Json.{Json}
use Rattle.json_lexemes.specs.Spelled.{Says}
use Rattle.jsonptr.specs.Pointers.{token_of, tokens_left}
use Rattle.long_vec.specs.Items.{capacity_of, items_of}
use Rattle.json_pieces.specs.Edits.{Exchanges, Makes}
use Rattle.json_pieces.specs.Held.{held, row_held}
use Rattle.json_pieces.specs.Logged.{IsLed}
use Rattle.json_pieces.specs.Nodes.{IsSound, IsWhole, parts_of, row_view, text_bytes, tree_text, view, wide}
use Rattle.json_pieces.specs.declared.node.Node.{the_lemmas}
use Rattle.json_pieces.specs.declared.node.Node.TheVariants.{Closed, Open}
use Rattle.json_pieces.specs.declared.text.Text.TheVariants.{Made}
use Rattle.json_text.specs.Cuts.{row_text}
use Rattle.json_text.specs.Listing.{IsTextOf}
use Rattle.json_pieces.proofs.Levels.{closed_text}
use Rattle.json_pieces.proofs.Lifts.{lift_makes}
use Rattle.json_pieces.proofs.Lists.{pieces_in}
use Rattle.json_pieces.proofs.Opened.{opened_itself, opened_text}
use Rattle.json_pieces.proofs.Stepped.{both_through, led_after, led_below, led_none, stepped_led}
use Rattle.json_pieces.proofs.Walks.{copied_made, exchanged_made, none_made, nowhere, number_found, number_none, number_within, one_value, open_grown, open_room, open_sound, open_text, open_whole, put_back, row_made_at, set_is_sound, set_makes, set_same, value_low, value_whole}
use Rattle.json_pieces.proofs.edit.+edit.Goals as goal
use Rattle.json_pieces.proofs.edit.+edit.Goals.{edit_copied-then-not-is_text+in_ok-put_text, edit_copied-else-not-is_text}

pub edit_in-returns-in_default-clause-makes : goal.edit_in-returns-in_default-clause-makes
edit_in-returns-in_default-clause-makes t c =
    none_made c.args.edit (token_of c.args.token) (tokens_left c.args.rest) c.args.row.now c.requires.sound (number_none c.args.row.now (token_of c.args.token) _ c.in_default.is c.in_ok-number.ensures.number)

pub edit_in-len-old-requires : goal.edit_in-len-old-requires
edit_in-len-old-requires t c = (value_whole c.args.row.now c.in-Some.number c.at.result.now c.requires.sound (number_within c.args.row.now _ _ c.in-Some.is c.in_ok-number.ensures.within) c.at.ensures).0

pub edit_in-edit_at-done-requires : goal.edit_in-edit_at-done-requires
edit_in-edit_at-done-requires t c =
    let r = c.args.row.now in
    let v = c.exchange-value.result in
    let within = number_within c.args.row.now _ _ c.in-Some.is c.in_ok-number.ensures.within in
    let low = value_low r c.in-Some.number (length (tree_text (view v))) v c.requires.sound within c.exchange-value.ensures.value refl in
    (omega (arith, c.decreases), (value_whole r c.in-Some.number v c.requires.sound within c.exchange-value.ensures.value, (c.requires.ready, (ap (λ v. v.items) c.enter.ensures.steps ∙ c.requires.steps, omega (arith, low, c.requires.room, ap (λ m. m.room) c.enter.ensures.means)))))

pub edit_in-overflow_sub-row : goal.edit_in-overflow_sub-row
edit_in-overflow_sub-row t c = value_low c.args.row.now c.in-Some.number c.len-old.result c.at.result.now c.requires.sound (number_within c.args.row.now _ _ c.in-Some.is c.in_ok-number.ensures.within) c.at.ensures c.len-old.ensures

pub edit_in-returns-clause-sound : goal.edit_in-returns-clause-sound
edit_in-returns-clause-sound t c =
    let r = c.args.row.now in
    let vs = items_of r.values in
    let n = c.in-Some.number in
    let w = c.edit_at-done.new.node in
    let k = r.length - c.len-old.result + c.len-new.result in
    let within = number_within c.args.row.now _ _ c.in-Some.is c.in_ok-number.ensures.within in
    let low = value_low r n c.len-old.result c.at.result.now c.requires.sound within c.at.ensures c.len-old.ensures in
    let left = put_back vs _ _ n _ w c.exchange-value.ensures.items c.exchange.ensures.items in
    subst (λ l. IsSound (wide r.named k (text_bytes r.hollow) (parts_of (items_of r.seams.all) (map view l)))) (sym left)
    (set_is_sound r n c.at.result.now w c.requires.sound within c.at.ensures k c.edit_at-done.ensures.whole (omega (arith, low, c.len-old.ensures, c.len-new.ensures)))

pub edit_in-returns-clause-grown : goal.edit_in-returns-clause-grown
edit_in-returns-clause-grown t c =
    let r = c.args.row.now in
    let n = c.in-Some.number in
    let within = number_within c.args.row.now _ _ c.in-Some.is c.in_ok-number.ensures.within in
    let low = value_low r n c.len-old.result c.at.result.now c.requires.sound within c.at.ensures c.len-old.ensures in
    let same : length (tree_text (view c.at.result.now)) ≡ length (tree_text (view c.exchange-value.result)) = ap (λ v. length (tree_text (view v))) (one_value (items_of r.values) n c.at.result.now c.exchange-value.result within c.at.ensures c.exchange-value.ensures.value) in
    omega (arith, low, same, c.len-old.ensures, c.len-new.ensures, c.edit_at-done.ensures.grown, ap (λ m. m.room) c.enter.ensures.means)

pub edit_in-returns-clause-unchanged : goal.edit_in-returns-clause-unchanged
edit_in-returns-clause-unchanged t c =
    let r = c.args.row.now in
    let n = c.in-Some.number in
    let w = c.edit_at-done.new.node in
    let left = put_back (items_of r.values) _ _ n _ w c.exchange-value.ensures.items c.exchange.ensures.items in
    on_err_weaker c.edit_at-done.result (λ same. ap (λ l. row_text r.named (text_bytes r.hollow) (pieces_in (items_of r.seams.all) l)) left ∙ set_same r n c.exchange-value.result w c.requires.sound (number_within c.args.row.now _ _ c.in-Some.is c.in_ok-number.ensures.within) c.exchange-value.ensures.value same) c.edit_at-done.ensures.unchanged

pub edit_in-returns-clause-makes : goal.edit_in-returns-clause-makes
edit_in-returns-clause-makes t c =
    let r = c.args.row.now in
    let n = c.in-Some.number in
    let w = c.edit_at-done.new.node in
    let t = token_of c.args.token in
    let P = tokens_left c.args.rest in
    let left = put_back (items_of r.values) _ _ n _ w c.exchange-value.ensures.items c.exchange.ensures.items in
    IfOk-weaker c.edit_at-done.result _ _
    (λ found made.
    subst (λ l. (j : Json) → Says (tree_text (row_view r)) j → Makes c.args.edit (tree_text (row_view r)) j (t ∷ P) (row_text r.named (text_bytes r.hollow) (pieces_in (items_of r.seams.all) l)) found) (sym left)
    (set_makes r n c.exchange-value.result w c.requires.sound (number_within c.args.row.now _ _ c.in-Some.is c.in_ok-number.ensures.within) c.exchange-value.ensures.value (λ text j new. Makes c.args.edit text j P new found) (λ text j new. Makes c.args.edit text j (t ∷ P) new found) t (number_found c.args.row.now (token_of c.args.token) _ _ c.in-Some.is c.in_ok-number.ensures.number) (λ cs s. lift_makes r.named (text_bytes r.hollow) t n cs _ _ c.args.edit P found s) made)) c.edit_at-done.ensures.makes

pub edit_open-returns-in_default-clause-makes : goal.edit_open-returns-in_default-clause-makes
edit_open-returns-in_default-clause-makes t c =
    subst (λ P. IfOk c.apply.result (λ found. (j : Json) → Says (tree_text (view c.args.node.now)) j → Makes c.args.edit (tree_text (view c.args.node.now)) j P (tree_text (view c.apply.new.node)) found)) (sym c.in_default.ensures.steps.0) c.apply.ensures.makes

pub edit_open-edit_in-requires : goal.edit_open-edit_in-requires
edit_open-edit_in-requires t c =
    let copied = c.deref_mut.ensures.value ∙ ap (λ b. b.value) c.in-Open.row-is in
    let sound = subst (λ r. IsSound (row_view r)) (sym copied) (open_sound c.open.new.node c.in-Open.row c.in-Open.is c.in_ok-open.ensures.whole) in
    (omega (arith, c.decreases, ap length c.in-Some.ensures.steps), (sound, (c.requires.ready, (c.requires.steps, open_room c.args.node.now c.open.new.node (Open c.in-Open.row) c.deref_mut.result.now c.in-Open.row c.in-Open.row c.in_ok-open.ensures.text copied c.in-Open.is refl c.args.work.now.means.room sound c.requires.room))))

pub edit_open-returns-in-Closed-clause-makes : goal.edit_open-returns-in-Closed-clause-makes
edit_open-returns-in-Closed-clause-makes t c = λ j says.
    subst (λ P. Makes c.args.edit (tree_text (view c.args.node.now)) j P (tree_text (view c.open.new.node)) None) (sym c.in-Some.ensures.steps)
    (nowhere c.args.edit c.args.node.now c.open.new.node c.in-Closed.field-0 _ _ c.in_ok-open.ensures.text c.in-Closed.is c.in_ok-open.ensures.opened j says)

pub edit_open-returns-clause-whole : goal.edit_open-returns-clause-whole
edit_open-returns-clause-whole t c = open_whole _ (with_value c.in-Open.row c.edit_in.new.row) (search (rules, the_lemmas)) c.edit_in.ensures.sound

pub edit_open-returns-clause-grown : goal.edit_open-returns-clause-grown
edit_open-returns-clause-grown t c =
    open_grown c.args.node.now c.open.new.node _ c.deref_mut.result.now c.in-Open.row (with_value c.in-Open.row c.edit_in.new.row) c.in_ok-open.ensures.text (c.deref_mut.ensures.value ∙ ap (λ b. b.value) c.in-Open.row-is) c.in-Open.is (search (rules, the_lemmas)) c.args.work.now.means.room
    (subst (λ r. IsSound (row_view r)) (sym (c.deref_mut.ensures.value ∙ ap (λ b. b.value) c.in-Open.row-is)) (open_sound c.open.new.node c.in-Open.row c.in-Open.is c.in_ok-open.ensures.whole)) c.edit_in.ensures.sound c.edit_in.ensures.grown

pub edit_open-returns-clause-unchanged : goal.edit_open-returns-clause-unchanged
edit_open-returns-clause-unchanged t c =
    on_err_weaker c.edit_in.result (open_text c.args.node.now c.open.new.node _ c.deref_mut.result.now c.in-Open.row (with_value c.in-Open.row c.edit_in.new.row) c.in_ok-open.ensures.text (c.deref_mut.ensures.value ∙ ap (λ b. b.value) c.in-Open.row-is) c.in-Open.is (search (rules, the_lemmas))) c.edit_in.ensures.unchanged

pub edit_open-returns-clause-makes : goal.edit_open-returns-clause-makes
edit_open-returns-clause-makes t c =
    row_made_at c.edit_in.result (λ P found text j new. Makes c.args.edit text j P new found) c.args.node.now c.open.new.node _ c.deref_mut.result.now c.in-Open.row (with_value c.in-Open.row c.edit_in.new.row) _ _ c.in-Some.ensures.steps c.in_ok-open.ensures.text (c.deref_mut.ensures.value ∙ ap (λ b. b.value) c.in-Open.row-is) c.in-Open.is (search (rules, the_lemmas)) c.edit_in.ensures.makes

-- ---- the way and the steps back

pub edit_open-returns-in_default-clause-led : goal.edit_open-returns-in_default-clause-led
edit_open-returns-in_default-clause-led t c = λ on. stepped_led c.apply.new.work.steps.items c.args.work.now.place.items c.apply.new.work.place.items (held c.args.node.now) (held c.apply.new.node) (ap (λ v. v.items) c.apply.ensures.place) (c.apply.ensures.led on)

pub edit_open-returns-clause-led : goal.edit_open-returns-clause-led
edit_open-returns-clause-led t c = λ on.
    let steps = c.edit_in.new.work.steps.items in
    let olds = c.args.work.now.place.items in
    let news = c.edit_in.new.work.place.items in
    led_after steps olds news (held c.args.node.now) (held c.open.new.node) _ c.in_ok-open.ensures.finer
    (both_through (IsLed steps olds news) c.open.new.node _ c.in-Open.row (with_value c.in-Open.row c.edit_in.new.row) c.deref_mut.result.now c.in-Open.is (search (rules, the_lemmas)) (c.deref_mut.ensures.value ∙ ap (λ b. b.value) c.in-Open.row-is) (c.edit_in.ensures.led on))

pub edit_in-returns-in_err-number-clause-led : goal.edit_in-returns-in_err-number-clause-led
edit_in-returns-in_err-number-clause-led t c = λ on. led_none c.args.work.now.steps.items c.args.work.now.place.items c.args.work.now.place.items (row_held c.args.row.now) (row_held c.args.row.now) c.requires.steps (opened_itself (row_held c.args.row.now))

pub edit_in-returns-in_default-clause-led : goal.edit_in-returns-in_default-clause-led
edit_in-returns-in_default-clause-led t c = λ on. led_none c.args.work.now.steps.items c.args.work.now.place.items c.args.work.now.place.items (row_held c.args.row.now) (row_held c.args.row.now) c.requires.steps (opened_itself (row_held c.args.row.now))

pub edit_in-returns-in_err-enter-clause-led : goal.edit_in-returns-in_err-enter-clause-led
edit_in-returns-in_err-enter-clause-led t c = λ on. led_none c.enter.new.self.steps.items c.args.work.now.place.items c.enter.new.self.place.items (row_held c.args.row.now) (row_held c.args.row.now) (ap (λ v. v.items) c.enter.ensures.steps ∙ c.requires.steps) (opened_itself (row_held c.args.row.now))

pub edit_in-returns-clause-led : goal.edit_in-returns-clause-led
edit_in-returns-clause-led t c = λ on.
    let r = c.args.row.now in
    let n = c.in-Some.number in
    let v = c.exchange-value.result in
    let w = c.edit_at-done.new.node in
    let within = number_within c.args.row.now _ _ c.in-Some.is c.in_ok-number.ensures.within in
    let low = value_low r n c.len-old.result c.at.result.now c.requires.sound within c.at.ensures c.len-old.ensures in
    let one : length (tree_text (view c.at.result.now)) ≡ length (tree_text (view v)) = ap (λ x. length (tree_text (view x))) (one_value (items_of r.values) n c.at.result.now v within c.at.ensures c.exchange-value.ensures.value) in
    let left = put_back (items_of r.values) _ _ n _ w c.exchange-value.ensures.items c.exchange.ensures.items in
    led_below r n v w within c.exchange-value.ensures.value c.edit_at-done.new.work.steps.items c.args.work.now.place.items c.enter.new.self.place.items c.edit_at-done.new.work.place.items (items_of c.exchange.new.self) (r.length - c.len-old.result + c.len-new.result) (capacity_of c.exchange.new.self) left (c.exchange.ensures.capacity ∙ c.exchange-value.ensures.capacity) (c.in_ok-enter.ensures.place on)
    (λ o. omega (arith, low, one, ap length (opened_text (held v) (held w) o), c.len-old.ensures, c.len-new.ensures)) (c.edit_at-done.ensures.led (c.enter.ensures.logged ∙ on))

-- ---- a small value

pub edit_small-returns-in_err-own-in-Read-clause-led : goal.edit_small-returns-in_err-own-in-Read-clause-led
edit_small-returns-in_err-own-in-Read-clause-led t c = λ on. led_none c.args.work.now.steps.items c.args.work.now.place.items c.args.work.now.place.items (held c.args.node.now) (held c.args.node.now) c.requires.steps (opened_itself (held c.args.node.now))

pub edit_small-returns-in_default-2-clause-led : goal.edit_small-returns-in_default-2-clause-led
edit_small-returns-in_default-2-clause-led t c = λ on. led_none c.args.work.now.steps.items c.args.work.now.place.items c.args.work.now.place.items (held c.args.node.now) (held c.args.node.now) c.requires.steps (opened_itself (held c.args.node.now))

pub edit_small-returns-in_err-from_str-in-Read-clause-led : goal.edit_small-returns-in_err-from_str-in-Read-clause-led
edit_small-returns-in_err-from_str-in-Read-clause-led t c = λ on. led_none c.args.work.now.steps.items c.args.work.now.place.items c.args.work.now.place.items (held c.args.node.now) (held c.args.node.now) c.requires.steps (opened_itself (held c.args.node.now))

pub edit_small-returns-in_ok-from_str-in-Read-clause-led : goal.edit_small-returns-in_ok-from_str-in-Read-clause-led
edit_small-returns-in_ok-from_str-in-Read-clause-led t c = λ on. led_none c.args.work.now.steps.items c.args.work.now.place.items c.args.work.now.place.items (held c.args.node.now) (held c.args.node.now) c.requires.steps (opened_itself (held c.args.node.now))

pub edit_small-returns-in_err-new-in-Put-clause-led : goal.edit_small-returns-in_err-new-in-Put-clause-led
edit_small-returns-in_err-new-in-Put-clause-led t c = λ on. led_none c.args.work.now.steps.items c.args.work.now.place.items c.args.work.now.place.items (held c.args.node.now) (held c.args.node.now) c.requires.steps (opened_itself (held c.args.node.now))

pub edit_small-returns-in_default-3-clause-led : goal.edit_small-returns-in_default-3-clause-led
edit_small-returns-in_default-3-clause-led t c = λ on. led_none c.args.work.now.steps.items c.args.work.now.place.items c.args.work.now.place.items (held c.args.node.now) (held c.args.node.now) c.requires.steps (opened_itself (held c.args.node.now))

pub edit_small-returns-in_err-put_text-in-Put-clause-led : goal.edit_small-returns-in_err-put_text-in-Put-clause-led
edit_small-returns-in_err-put_text-in-Put-clause-led t c = λ on. stepped_led c.put_text.new.work.steps.items c.args.work.now.place.items c.put_text.new.work.place.items (held c.args.node.now) (held c.put_text.new.node) (ap (λ v. v.items) c.put_text.ensures.place) (c.put_text.ensures.led on)

pub edit_small-returns-in_ok-put_text-in-Put-clause-led : goal.edit_small-returns-in_ok-put_text-in-Put-clause-led
edit_small-returns-in_ok-put_text-in-Put-clause-led t c = λ on. stepped_led c.put_text.new.work.steps.items c.args.work.now.place.items c.put_text.new.work.place.items (held c.args.node.now) (held c.put_text.new.node) (ap (λ v. v.items) c.put_text.ensures.place) (c.put_text.ensures.led on)

pub edit_small-returns-in_ok-from_str-in-Read-clause-makes : goal.edit_small-returns-in_ok-from_str-in-Read-clause-makes
edit_small-returns-in_ok-from_str-in-Read-clause-makes t c = λ j says.
    let same = c.in-Some.ensures in
    let whole = rw c.in-Some-2.is at c.in_ok-own-in-Read.ensures.whole in
    let stands = rw c.in-Some-2.is at (c.in_ok-own-in-Read.ensures.stands j (subst (λ s. Says s j) (sym same) says)) in
    let copy = Made c.in_ok-from_str-in-Read.field-0 in
    copied_made (tree_text (view c.args.node.now)) c.in-Some-2.field-0-0.now c.in-Some-2.own.now c.in-Some-2.field-0-2.now (Closed copy) c.args.edit (tokens_left c.args.path) j (sym same ∙ whole) stands c.in-Read.is (closed_text copy ∙ c.in_ok-from_str-in-Read.ensures.ok)

pub edit_small-returns-in_ok-put_text-in-Put-clause-makes : goal.edit_small-returns-in_ok-put_text-in-Put-clause-makes
edit_small-returns-in_ok-put_text-in-Put-clause-makes t c = λ j says.
    let P = tokens_left c.args.path in
    let put = tree_text (view c.in-Put.value) in
    let new = c.put_text.new.node in
    let same = c.in-Some.ensures in
    let there : Exchanges c.in-Some.text.now j P put (string_bytes c.in-Some-3.new) = rw c.in-Some-3.is at (c.in_ok-new-in-Put.ensures.exchanges j (subst (λ s. Says s j) (sym same) says)) in
    let left : Exchanges c.in-Some.text.now j P put (tree_text (view new)) = subst (Exchanges c.in-Some.text.now j P put) (sym c.in_ok-put_text-in-Put.ensures.text) there in
    exchanged_made (tree_text (view c.args.node.now)) (tree_text (view new)) c.in-Put.value _ c.args.edit P j c.in-Put.is (subst (λ s. Exchanges s j P put (tree_text (view new))) same left)

-- ---- the same in pieces

pub edit_copied-returns-in_err-text-clause-led : goal.edit_copied-returns-in_err-text-clause-led
edit_copied-returns-in_err-text-clause-led t c = λ on. led_none c.args.work.now.steps.items c.args.work.now.place.items c.args.work.now.place.items (held c.args.node.now) (held c.args.node.now) c.requires.steps (opened_itself (held c.args.node.now))

pub edit_copied-returns-in_err-left-clause-led : goal.edit_copied-returns-in_err-left-clause-led
edit_copied-returns-in_err-left-clause-led t c = λ on. led_none c.args.work.now.steps.items c.args.work.now.place.items c.args.work.now.place.items (held c.args.node.now) (held c.args.node.now) c.requires.steps (opened_itself (held c.args.node.now))

pub edit_copied-returns-in_default-clause-led : goal.edit_copied-returns-in_default-clause-led
edit_copied-returns-in_default-clause-led t c = λ on. led_none c.args.work.now.steps.items c.args.work.now.place.items c.args.work.now.place.items (held c.args.node.now) (held c.args.node.now) c.requires.steps (opened_itself (held c.args.node.now))

pub edit_copied-returns-in_err-put_text-clause-led : goal.edit_copied-returns-in_err-put_text-clause-led
edit_copied-returns-in_err-put_text-clause-led t c = λ on.
    stepped_led c.put_text.new.work.steps.items c.args.work.now.place.items c.put_text.new.work.place.items (held c.args.node.now) (held c.put_text.new.node) (ap (λ v. v.items) c.put_text.ensures.place) (c.put_text.ensures.led on)

pub edit_copied-returns-clause-whole : goal.edit_copied-returns-clause-whole
edit_copied-returns-clause-whole t c =
    let said = subst (λ o. IfSome o (λ made. (j : Json) × IsTextOf (string_bytes made.0) j)) c.in-Some.is c.in_ok-left.ensures.text in
    elim c.if-not-is_text.branch [
      | edit_copied-then-not-is_text+in_ok-put_text w ↦ subst (λ n. IsWhole (view n)) (sym w.node-is) (w.in_ok-put_text.ensures.sound, subst (λ s. (j : Json) × IsTextOf s j) (sym w.in_ok-put_text.ensures.text) said)
      | edit_copied-else-not-is_text w ↦ subst (λ n. IsWhole (view n)) (sym w.node-is) c.requires.whole
    ]

pub edit_copied-returns-clause-led : goal.edit_copied-returns-clause-led
edit_copied-returns-clause-led t c = λ on.
    let olds = c.args.work.now.place.items in
    let old = held c.args.node.now in
    elim c.if-not-is_text.branch [
      | edit_copied-then-not-is_text+in_ok-put_text w ↦ subst (λ n. IsLed c.if-not-is_text.work.steps.items olds c.if-not-is_text.work.place.items old (held n)) (sym w.node-is)
          (subst (λ k. IsLed k.steps.items olds k.place.items old (held w.put_text.new.node)) (sym w.work-is) (stepped_led w.put_text.new.work.steps.items olds w.put_text.new.work.place.items old (held w.put_text.new.node) (ap (λ v. v.items) w.put_text.ensures.place) (w.put_text.ensures.led on)))
      | edit_copied-else-not-is_text w ↦ subst (λ n. IsLed c.if-not-is_text.work.steps.items olds c.if-not-is_text.work.place.items old (held n)) (sym w.node-is)
          (subst (λ k. IsLed k.steps.items olds k.place.items old old) (sym w.work-is) (led_none c.args.work.now.steps.items olds olds old old c.requires.steps (opened_itself old)))
    ]
