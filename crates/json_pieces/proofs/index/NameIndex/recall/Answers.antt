use Rattle.std.proofs.Common.{◌≡◌, ◌<◌, ◌∙◌, ap, arith, refl, rules, sym, ℕ, Some}
use Rattle.std.specs.BTreeMap.{get_by_text}
use Rattle.std.proofs.lemmas.Map.Text.{btree_map_updates_text}
use Rattle.std.proofs.lemmas.Option.{same_Some}
use Rattle.json_pieces.specs.Marks.{key_of}
use Rattle.json_pieces.specs.declared.index.Mark.{Mark}
use Rattle.json_pieces.specs.declared.index.NameIndex.{NameIndex}
use Rattle.json_pieces.proofs.Marks.{index_with, is_set, known}
use Rattle.json_pieces.proofs.index.NameIndex.recall.Goals as goal
use Rattle.json_pieces.proofs.index.NameIndex.recall.Goals.{in-Some-earlier+else-other-key, in_default-earlier}

pub returns : goal.returns
returns c = λ done.
    let x = c.args.self.now in
    let n = c.args.name.now in
    let key = c.in-Some.key in
    let m : Mark = record { key = key; earlier = c.match-earlier.earlier } in
    let latest = c.get_mut.follows.lender (Some key) in
    let new : NameIndex = record { latest = latest; marks = c.put.new.self; next = x.next; lost = c.saturating_sub-self.result } in
    let was : known x n ≡ c.in-Some-get_mut.latest.now = ap key_of (sym c.in-Some-get_mut.ensures.value) in
    let it : c.match-earlier.earlier ≡ c.in-Some-get_mut.latest.now =
    elim c.match-earlier.branch [
      | in-Some-earlier+else-other-key w ↦ w.earlier-is ∙ sym w.in-Some-earlier.is
      | in_default-earlier w ↦ w.earlier-is
    ] in
    let gone : (b : ℕ) → known x n ≡ Some b → b < key = λ b e.
    elim c.match-earlier.branch [
      | in-Some-earlier+else-other-key w ↦ (let same = same_Some w.in-Some-earlier.other b (sym w.in-Some-earlier.is ∙ sym was ∙ e) in omega (arith, w.if-other-key.false, same))
      | in_default-earlier w ↦ absurd (w.in_default-earlier.not-Some b (sym was ∙ e))
    ] in
    index_with x new n c.args.number m (omega (arith, c.requires.count, c.requires.within)) c.in-Some.ensures c.put.ensures.items (it ∙ sym was) gone
    (λ k. is_set (get_by_text x.latest k) (get_by_text latest k) _ (Some key) (btree_map_updates_text n x.latest latest (Some (Some key)) ((c.get_mut.follows.holds (Some key)).3 (search rules)) k)) refl
