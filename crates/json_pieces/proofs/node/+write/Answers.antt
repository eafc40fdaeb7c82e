use Rattle.std.proofs.Common.{ap, sym, subst, ◌∙◌, ◌∷◌, [], refl, arith, rules, ◌++◌, ◌<◌, append_assoc}
use Rattle.std.proofs.lemmas.Result.{on_ok_weaker}
use Rattle.std.specs.String.{string_bytes}
use Rattle.json_pieces.specs.Nodes.{IsSound, mark_before, row_view}
use Rattle.json_pieces.specs.declared.node.Node.{size-Node, the_lemmas}
use Rattle.long_vec.specs.Items.{items_of}
use Rattle.long_vec.specs.Walks.{left}
use Rattle.json_pieces.proofs.Levels.{row_sound}
use Rattle.json_pieces.proofs.Lists.{hollow_written, one_written, row_written}
use Rattle.json_pieces.proofs.Sizes.{smaller}
use Rattle.json_pieces.proofs.node.+write.Goals as goal

pub write-write_row-requires : goal.write-write_row-requires
write-write_row-requires t c = (search (rules, the_lemmas), subst (λ r. IsSound (row_view r)) (sym c.deref.ensures) (row_sound c.args.node.now c.in-Open.row c.in-Open.is c.requires.sound))

pub write_row-returns-then-count-eq0 : goal.write_row-returns-then-count-eq0
write_row-returns-then-count-eq0 t c =
    let r = c.args.row.now in
    on_ok_weaker c.write_hollow.result (hollow_written r.named _ _ _ (items_of r.seams.all) (items_of r.values) (omega (arith, c.if-count-eq0.true, c.count.ensures))) c.write_hollow.ensures

pub write_row-write-requires : goal.write_row-write-requires
write_row-write-requires t c =
    let (before, is) = c.loop-seam.invariant.before in
    let v = c.in-Some.value.now in
    (subst (λ n. size-Node v < n) c.decreases (smaller c.args.row.now v before (left c.next.new.self.values) (ap (λ l. before ++ l) (sym c.in-Some.ensures.value) ∙ is)), c.in-Some.ensures.sound)

pub write_row-loop-seam-preserved : goal.write_row-loop-seam-preserved
write_row-loop-seam-preserved t c =
    let (before, is) = c.loop-seam.invariant.before in
    let r = c.args.row.now in
    let v = c.in-Some.value.now in
    let rest = left c.next.new.self.values in
    record {
      before = (before ++ v ∷ [], append_assoc before (v ∷ []) rest ∙ ap (λ l. before ++ l) (sym c.in-Some.ensures.value) ∙ is);
      sound = c.in-Some.ensures.others;
      so_far = one_written (mark_before r.named c.loop-seam.first) 44 (left c.loop-seam.parts.seams) (left c.next.new.self.seams) (left c.loop-seam.parts.values) rest c.in-Some.seam.now v _ (string_bytes c.loop-seam.out) (string_bytes c.push_str.new.self) (string_bytes c.write_lead.new.out) (string_bytes c.write.new.out) _ c.in-Some.ensures refl
          c.loop-seam.invariant.so_far (c.in_ok-push_str.ensures.bytes ∙ ap (λ x. string_bytes c.loop-seam.out ++ x) c.mark.ensures) c.in_ok-write_lead.ensures c.in_ok-write.ensures c.in_ok-append_to.ensures;
    }

pub write_row-returns : goal.write_row-returns
write_row-returns t c =
    let r = c.args.row.now in
    on_ok_weaker c.push_str-2.result (λ e. row_written r.named (mark_before r.named c.loop-seam.first) _ (string_bytes c.args.out.now) (string_bytes c.loop-seam.out) _ (items_of r.seams.all) (left c.loop-seam.parts.seams) (items_of r.values) (left c.loop-seam.parts.values) c.requires.sound.1
    (omega (arith, c.if-count-eq0.false, c.count.ensures)) c.in_default.ensures c.loop-seam.invariant.so_far e) (search (rules, c.push_str-2.ensures.bytes, c.closing.ensures))
