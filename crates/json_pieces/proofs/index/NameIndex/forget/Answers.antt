use Rattle.std.proofs.Common.{◌≡◌, ◌∙◌, ap, refl, rules, sym, Some}
use Rattle.std.specs.BTreeMap.{get_by_text}
use Rattle.std.proofs.lemmas.Map.Text.{btree_map_updates_text}
use Rattle.json_pieces.specs.Marks.{key_of}
use Rattle.json_pieces.specs.declared.index.NameIndex.{NameIndex}
use Rattle.json_pieces.proofs.Marks.{index_without, is_same, is_set, known}
use Rattle.json_pieces.proofs.index.NameIndex.forget.Goals as goal

pub returns : goal.returns
returns c = λ done.
    let x = c.args.self.now in
    let n = c.args.name.now in
    let m = c.remove-mark.result in
    let latest = c.get_mut.follows.lender m.earlier in
    let new : NameIndex = record { latest = latest; marks = c.remove-mark.new.self; next = x.next; lost = c.saturating_add-self.result } in
    let last : known x n ≡ Some m.key = ap key_of (sym c.in-Some.ensures.value) ∙ is_same c.in-Some.latest.now m.key c.if-ne.ensures in
    index_without x new n c.args.number m c.requires c.remove-mark.ensures.value c.remove-mark.ensures.items last
    (λ k. is_set (get_by_text x.latest k) (get_by_text latest k) _ m.earlier (btree_map_updates_text n x.latest latest (Some m.earlier) ((c.get_mut.follows.holds m.earlier).3 (search rules)) k)) refl
