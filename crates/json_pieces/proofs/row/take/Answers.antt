use Rattle.std.proofs.Common.{◌≡◌, ◌<◌, ◌++◌, ◌∷◌, [], length, true, ap, refl, subst, sym, ◌∙◌, arith}
use Rattle.json_text.specs.Pointed.{IsWrittenAt}
use Rattle.json_pieces.specs.Backs.{AreBack}
use Rattle.json_pieces.specs.Held.{row_held}
use Rattle.json_pieces.specs.Logged.{AreInRow, IsCopyOf}
use Rattle.long_vec.specs.Items.{items_of}
use Rattle.json_pieces.specs.Nodes.{IsSound, row_pieces, row_view, text_bytes, tree_text}
use Rattle.json_pieces.proofs.Lists.{pieces_are, value_sound}
use Rattle.json_pieces.proofs.Rows.Takes.{all_steps, element_taken, first_step, next_step, none_named, nothing_taken, some_named, value_written}
use Rattle.json_pieces.proofs.Opened.{opened_same}
use Rattle.json_pieces.proofs.Stepped.{back_more, failed, held_length, held_view, in_row_more, stepped_by, stepped_none, stepped_one, stepped_opened}
use Rattle.json_pieces.proofs.Walks.{one_value}
use Rattle.json_pieces.proofs.row.take.Goals as goal

pub returns-in_default-clause-taken : goal.returns-in_default-clause-taken
returns-in_default-clause-taken c =
    let r = c.args.row.now in
    nothing_taken r.named r.length (text_bytes r.hollow) (row_pieces r) c.args.name.now c.requires.sound.0 (none_named r.named (row_pieces r) c.args.name.now c.number_of.result c.in_default.is c.number_of.ensures.number)

pub returns-then-not-row-clause-taken : goal.returns-then-not-row-clause-taken
returns-then-not-row-clause-taken c =
    let r = c.args.row.now in
    let s = c.take_part-step.new.row in
    let n = c.in-Some.number in
    let e = c.take_part-step.ensures in
    let within : n < length (row_pieces r) = omega (arith, c.in-Some.ensures.within, pieces_are (items_of r.seams.all) (items_of r.values) c.requires.sound.1) in
    element_taken r.named s.named r.length s.length (text_bytes r.hollow) (text_bytes s.hollow) (row_pieces r) (row_pieces s) n c.args.name.now e.named c.if-not-row.true c.requires.sound.0 e.sound.0 e.pieces e.some
    (some_named r.named (row_pieces r) c.args.name.now c.number_of.result n c.in-Some.is c.number_of.ensures.number) within

pub loop-number-init : goal.loop-number-init
loop-number-init c =
    let r = c.args.row.now in
    let s = c.take_part-step.new.row in
    let n = c.in-Some.number in
    let e = c.take_part-step.ensures in
    let within : n < length (row_pieces r) = omega (arith, c.in-Some.ensures.within, pieces_are (items_of r.seams.all) (items_of r.values) c.requires.sound.1) in
    record {
      named = c.if-not-row.false;
      sound = e.sound;
      shorter = e.shorter;
      less = first_step r.named s.named r.length s.length (text_bytes r.hollow) (text_bytes s.hollow) (row_pieces r) (row_pieces s) n c.args.name.now e.named c.requires.sound.0 e.sound.0 e.pieces e.some
          (some_named r.named (row_pieces r) c.args.name.now c.number_of.result n c.in-Some.is c.number_of.ensures.number) within;
      value = let moves = c.take_part-step.ensures.value in c.moved-value.ensures.sound moves.0 moves.1 (value_sound (items_of r.seams.all) (items_of r.values) n moves.0 c.requires.sound.1 c.in-Some.ensures.within moves.2);
      written = λ j says.
          let moves = c.take_part-step.ensures.value in
          let same = one_value (items_of r.values) n c.at.result.now moves.0 c.in-Some.ensures.within c.at.ensures moves.2 in
          subst (IsWrittenAt (tree_text (row_view r)) j (c.args.name.now ∷ [])) (sym (c.moved-value.ensures.text moves.0 moves.1 (subst (IsCopyOf c.in_ok-copy.copy) same c.in_ok-copy.ensures.copy)))
          (value_written r n c.args.name.now moves.0 c.requires.sound (some_named r.named (row_pieces r) c.args.name.now c.number_of.result n c.in-Some.is c.number_of.ensures.number) c.in-Some.ensures.within moves.2 j says);
      logged = c.moved-value.ensures.logged ∙ c.ready.ensures.logged;
      place = c.moved-value.ensures.place ∙ c.ready.ensures.place;
      back = λ on.
          let step = c.take_part-step.result in
          let is = c.moved-value.ensures.steps (c.ready.ensures.logged ∙ on) ∙ ap (λ l. l ++ step ∷ []) (c.ready.ensures.steps ∙ c.requires.steps) in
          (subst (λ l. AreBack l (row_held s) (row_held r)) (sym is) (row_held s, refl, e.back), subst AreInRow (sym is) (e.inner, tt));
    }

pub loop-number-preserved : goal.loop-number-preserved
loop-number-preserved c =
    let r = c.args.row.now in
    let s = c.loop-number.row in
    let u = c.take_part-step-in-Some-number_of.new.row in
    let n = c.in-Some-number_of.number in
    let i = c.loop-number.invariant in
    let e = c.take_part-step-in-Some-number_of.ensures in
    let step = c.take_part-step-in-Some-number_of.result in
    let ready = c.ready-in-Some-number_of.ensures in
    let object : r.named ≡ true = sym c.take_part-step.ensures.named ∙ c.if-not-row.false in
    let within : n < length (row_pieces s) = omega (arith, c.in-Some-number_of.ensures.within, pieces_are (items_of s.seams.all) (items_of s.values) i.sound.1) in
    record {
      named = e.named ∙ i.named;
      sound = e.sound;
      shorter = omega (arith, e.shorter, i.shorter);
      less = next_step r.named s.named u.named r.length s.length u.length (text_bytes r.hollow) (text_bytes s.hollow) (text_bytes u.hollow) (row_pieces r) (row_pieces s) (row_pieces u) n c.args.name.now object e.named c.requires.sound.0 i.less i.sound.0 e.sound.0 e.pieces e.some
          (some_named s.named (row_pieces s) c.args.name.now c.number_of-in-loop-number.result n c.in-Some-number_of.is c.number_of-in-loop-number.ensures.number) within;
      value = i.value;
      written = i.written;
      logged = c.keep.ensures.logged ∙ ready.logged ∙ i.logged;
      place = c.keep.ensures.place ∙ ready.place ∙ i.place;
      back = λ on.
          let is = c.keep.ensures.steps (ready.logged ∙ i.logged ∙ on) ∙ ap (λ l. l ++ step ∷ []) ready.steps in
          let back = i.back on in (
            subst (λ l. AreBack l (row_held u) (row_held r)) (sym is) (back_more c.loop-number.work.steps.items step (row_held u) (row_held s) (row_held r) e.back back.0),
            subst AreInRow (sym is) (in_row_more c.loop-number.work.steps.items step back.1 e.inner),
          );
    }

pub returns-clause-taken : goal.returns-clause-taken
returns-clause-taken c =
    let r = c.args.row.now in
    let s = c.loop-number.row in
    let i = c.loop-number.invariant in
    let object : r.named ≡ true = sym c.take_part-step.ensures.named ∙ c.if-not-row.false in
    all_steps r.named s.named r.length (text_bytes r.hollow) (text_bytes s.hollow) (row_pieces r) (row_pieces s) c.args.name.now object i.named c.requires.sound.0 i.less
    (none_named s.named (row_pieces s) c.args.name.now c.number_of-in-loop-number.result c.in_default-number_of.is c.number_of-in-loop-number.ensures.number)

-- what was taken, moved or copied
pub returns-then-not-row-clause-value : goal.returns-then-not-row-clause-value
returns-then-not-row-clause-value c =
    let r = c.args.row.now in
    let moves = c.take_part-step.ensures.value in
    c.moved-value.ensures.sound moves.0 moves.1 (value_sound (items_of r.seams.all) (items_of r.values) c.in-Some.number moves.0 c.requires.sound.1 c.in-Some.ensures.within moves.2)

pub returns-then-not-row-clause-written : goal.returns-then-not-row-clause-written
returns-then-not-row-clause-written c = λ j says.
    let r = c.args.row.now in
    let n = c.in-Some.number in
    let moves = c.take_part-step.ensures.value in
    let same = one_value (items_of r.values) n c.at.result.now moves.0 c.in-Some.ensures.within c.at.ensures moves.2 in
    let copy = subst (IsCopyOf c.in_ok-copy.copy) same c.in_ok-copy.ensures.copy in
    subst (IsWrittenAt (tree_text (row_view r)) j (c.args.name.now ∷ [])) (sym (c.moved-value.ensures.text moves.0 moves.1 copy))
    (value_written r n c.args.name.now moves.0 c.requires.sound (some_named r.named (row_pieces r) c.args.name.now c.number_of.result n c.in-Some.is c.number_of.ensures.number) c.in-Some.ensures.within moves.2 j says)

-- ---- the steps

pub copied-requires : goal.copied-requires
copied-requires c =
    let r = c.args.row.now in
    value_sound (items_of r.seams.all) (items_of r.values) c.in-Some.number c.at.result.now c.requires.sound.1 c.in-Some.ensures.within c.at.ensures

pub returns-in_default-clause-led : goal.returns-in_default-clause-led
returns-in_default-clause-led c = λ on. stepped_none c.args.work.now.steps.items (row_held c.args.row.now) c.requires.steps

pub returns-in_err-copy-clause-led : goal.returns-in_err-copy-clause-led
returns-in_err-copy-clause-led c = λ on. stepped_none c.args.work.now.steps.items (row_held c.args.row.now) c.requires.steps

pub returns-in_err-ready-clause-led : goal.returns-in_err-ready-clause-led
returns-in_err-ready-clause-led c = λ on. stepped_none c.ready.new.self.steps.items (row_held c.args.row.now) (c.ready.ensures.steps ∙ c.requires.steps)

pub returns-then-not-row-clause-led : goal.returns-then-not-row-clause-led
returns-then-not-row-clause-led c = λ on.
    let step = c.take_part-step.result in
    stepped_one c.moved-value.new.work.steps.items step (row_held c.args.row.now) (row_held c.take_part-step.new.row) (c.moved-value.ensures.steps (c.ready.ensures.logged ∙ on) ∙ ap (λ l. l ++ step ∷ []) (c.ready.ensures.steps ∙ c.requires.steps)) c.take_part-step.ensures.back

pub back_in_row-requires : goal.back_in_row-requires
back_in_row-requires c =
    let i = c.loop-number.invariant in
    let ready = c.ready-in-Some-number_of.ensures in
    let back = i.back (sym i.logged ∙ failed c.ready-in-Some-number_of.result (sym c.is_err.ensures.value ∙ c.if-is_err.true) ready.failed) in
    record { can = (row_held c.args.row.now, subst (λ l. AreBack l (row_held c.loop-number.row) (row_held c.args.row.now)) (sym ready.steps) back.0); inner = subst AreInRow (sym ready.steps) back.1 }

-- out of memory: the row as it was
pub returns-then-is_err-clause-sound : goal.returns-then-is_err-clause-sound
returns-then-is_err-clause-sound c =
    let i = c.loop-number.invariant in
    let ready = c.ready-in-Some-number_of.ensures in
    let back = i.back (sym i.logged ∙ failed c.ready-in-Some-number_of.result (sym c.is_err.ensures.value ∙ c.if-is_err.true) ready.failed) in
    let same = c.back_in_row.ensures.back (row_held c.args.row.now) (subst (λ l. AreBack l (row_held c.loop-number.row) (row_held c.args.row.now)) (sym ready.steps) back.0) in
    subst IsSound (sym (held_view c.args.row.now c.back_in_row.new.row same)) c.requires.sound

pub returns-then-is_err-clause-unchanged : goal.returns-then-is_err-clause-unchanged
returns-then-is_err-clause-unchanged c =
    let i = c.loop-number.invariant in
    let ready = c.ready-in-Some-number_of.ensures in
    let back = i.back (sym i.logged ∙ failed c.ready-in-Some-number_of.result (sym c.is_err.ensures.value ∙ c.if-is_err.true) ready.failed) in
    let same = c.back_in_row.ensures.back (row_held c.args.row.now) (subst (λ l. AreBack l (row_held c.loop-number.row) (row_held c.args.row.now)) (sym ready.steps) back.0) in
    held_view c.args.row.now c.back_in_row.new.row same

pub returns-then-is_err-clause-shorter : goal.returns-then-is_err-clause-shorter
returns-then-is_err-clause-shorter c =
    let i = c.loop-number.invariant in
    let ready = c.ready-in-Some-number_of.ensures in
    let back = i.back (sym i.logged ∙ failed c.ready-in-Some-number_of.result (sym c.is_err.ensures.value ∙ c.if-is_err.true) ready.failed) in
    let same = c.back_in_row.ensures.back (row_held c.args.row.now) (subst (λ l. AreBack l (row_held c.loop-number.row) (row_held c.args.row.now)) (sym ready.steps) back.0) in
    omega (arith, held_length c.args.row.now c.back_in_row.new.row same)

pub returns-then-is_err-clause-led : goal.returns-then-is_err-clause-led
returns-then-is_err-clause-led c = λ on.
    let i = c.loop-number.invariant in
    let ready = c.ready-in-Some-number_of.ensures in
    let back = i.back on in
    let same = c.back_in_row.ensures.back (row_held c.args.row.now) (subst (λ l. AreBack l (row_held c.loop-number.row) (row_held c.args.row.now)) (sym ready.steps) back.0) in
    stepped_opened c.back_in_row.new.steps.items (row_held c.args.row.now) (row_held c.back_in_row.new.row) c.back_in_row.ensures.none (opened_same (row_held c.args.row.now) (row_held c.back_in_row.new.row) same)

pub returns-clause-led : goal.returns-clause-led
returns-clause-led c = λ on. stepped_by c.loop-number.work.steps.items (row_held c.args.row.now) (row_held c.loop-number.row) (c.loop-number.invariant.back on).0

pub returns-clause-place : goal.returns-clause-place
returns-clause-place c = c.loop-number.invariant.place
