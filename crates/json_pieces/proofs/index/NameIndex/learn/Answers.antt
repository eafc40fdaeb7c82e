use Rattle.std.proofs.Common.{◌≡◌, ◌∙◌, ap, arith, string_bytes, sym, Some}
use Rattle.std.specs.BTreeMap.{get_by_text}
use Rattle.std.proofs.lemmas.Map.Text.{btree_map_updates_text}
use Rattle.json_pieces.specs.Marks.{key_of}
use Rattle.json_pieces.specs.declared.index.NameIndex.{NameIndex}
use Rattle.json_pieces.proofs.Marks.{index_learnt, is_set}
use Rattle.json_pieces.proofs.index.NameIndex.learn.Goals as goal
use Rattle.json_pieces.proofs.index.NameIndex.learn.Goals.{in-Some-known, in-None}

pub returns : goal.returns
returns c =
    let x = c.args.self.now in
    let n = string_bytes c.args.name in
    let new : NameIndex = record { latest = c.insert.new.self; marks = c.push.new.self; next = c.in-Some.next; lost = x.lost } in
    let is : c.match-known.earlier ≡ key_of c.in-Ok.known =
    elim c.match-known.branch [
      | in-Some-known w ↦ w.earlier-is ∙ sym (ap key_of w.in-Some-known.is)
      | in-None w ↦ w.earlier-is ∙ sym (ap key_of w.in-None.is)
    ] in
    index_learnt x new n c.match-known.earlier c.in_ok-push.ensures.items (is ∙ ap key_of c.in-Ok.ensures.old)
    (λ k. is_set (get_by_text x.latest k) (get_by_text c.insert.new.self k) _ (Some x.next) (btree_map_updates_text n x.latest c.insert.new.self _ c.in-Ok.ensures.updates k)) (omega (arith, c.in-Some.ensures))
