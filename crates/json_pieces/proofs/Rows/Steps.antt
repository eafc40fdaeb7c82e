-- One step of the code on a row, with what it keeps.
use Rattle.std.proofs.Common.{◌≡◌, ℕ, ◌+◌, ◌<◌, Bool, List, [], length, get_or, refl, sym, ap, ◌∙◌, subst, arith}
use Rattle.std.specs.List.{remove}
use Rattle.std.specs.Prelude.{slice_set}
use Rattle.json_text.specs.Cuts.{AllSuit, IsWhitespace, row_text}
use Rattle.json_pieces.specs.Exchanges.{with_trail, with_whitespace}
use Rattle.json_pieces.specs.Lengths.{seam_length}
use Rattle.json_pieces.specs.Nodes.{IsRow, tree_text, view}
use Rattle.json_pieces.specs.PieceLists.{taken}
use Rattle.json_pieces.specs.declared.node.Node.{Node}
use Rattle.json_pieces.specs.declared.seams.Seam.{Seam}
use Rattle.json_pieces.specs.declared.text.Text.{Text}
use Rattle.json_pieces.proofs.Lists.{AreSoundIn, pieces_are, pieces_in}
use Rattle.json_pieces.proofs.Rows.Answers.{AreOfSome, taken_of_some}
use Rattle.json_pieces.proofs.Rows.Lengths.{take_last_size, take_next_size}
use Rattle.json_pieces.proofs.Rows.Stands.{whitespace_nil}
use Rattle.json_pieces.proofs.Rows.Moves.{remove_sound, seam_sound, take_alone, take_last, take_next}

-- a row that is kept by its seams and its values
abbrev pub IsKept : Bool → ℕ → List ℕ → List Seam → List Node → Type 0
IsKept b m hollow ss vs = IsRow b m hollow (pieces_in ss vs) × AreSoundIn ss vs

kept_by : (b : Bool) (m k : ℕ) (hollow hollow2 : List ℕ) (ss ss2 : List Seam) (vs vs2 : List Node) (n : ℕ) → IsKept b m hollow ss vs → n < length vs → IsWhitespace hollow2 → pieces_in ss2 vs2 ≡ taken n (pieces_in ss vs) → AreSoundIn ss2 vs2
    → k ≡ length (row_text b hollow2 (taken n (pieces_in ss vs))) → IsKept b k hollow2 ss2 vs2
kept_by b m k hollow hollow2 ss ss2 vs vs2 n (r, h) l e is sound size =
    let some : AreOfSome b (taken n (pieces_in ss vs)) = taken_of_some b (pieces_in ss vs) n (r.cs, r.suit) (omega (arith, l, pieces_are ss vs h)) in
    (record { cs = some.0; suit = subst (AllSuit b some.0) (sym is) some.1; whitespace = e; size = size ∙ ap (λ ps. length (row_text b hollow2 ps)) (sym is) }, sound)

-- some are left
some_left : (ss : List Seam) (vs : List Node) → AreSoundIn ss vs → 0 < length vs → pieces_in ss vs ≡ [] → ⊥
some_left ss vs h l e = absurd (omega (arith, pieces_are ss vs h, l, ap length e))

-- what is known where s and v of number n are out, and t now has this number
pub record IsOut (ss ss1 : List Seam) (vs vs1 : List Node) (n : ℕ) (s t : Seam) (v : Node) (at : ℕ) : Type 0 where
  pub seams : ss1 ≡ remove ss n
  pub values : vs1 ≡ remove vs n
  pub seam : s ≡ get_or ss n s
  pub value : v ≡ get_or vs n v
  pub other : t ≡ get_or ss1 at t

module _ (b : Bool) (m : ℕ) (hollow : List ℕ) (ss ss1 : List Seam) (vs vs1 : List Node) (n : ℕ) (s t : Seam) (v : Node) (x y : Text) where
  pub next_pieces : IsKept b m hollow ss vs → n + 1 < length vs → IsOut ss ss1 vs vs1 n s t v n → x ≡ s.whitespace → pieces_in (slice_set ss1 n (with_whitespace x t)) vs1 ≡ taken n (pieces_in ss vs)
  next_pieces (r, h) l o e =
      subst (λ a. pieces_in (slice_set a n (with_whitespace x t)) vs1 ≡ taken n (pieces_in ss vs)) (sym o.seams)
      (subst (λ c. pieces_in (slice_set (remove ss n) n (with_whitespace x t)) c ≡ taken n (pieces_in ss vs)) (sym o.values)
      (subst (λ z. pieces_in (slice_set (remove ss n) n (with_whitespace z t)) (remove vs n) ≡ taken n (pieces_in ss vs)) (sym e)
      (take_next ss vs n s t (with_whitespace s.whitespace t) h (omega (arith, l)) o.seam (o.other ∙ ap (λ a. get_or a n t) o.seams) (λ u. refl))))

  pub next_size : IsKept b m hollow ss vs → n + 1 < length vs → IsOut ss ss1 vs vs1 n s t v n → y ≡ t.whitespace → m ≡ length (row_text b hollow (taken n (pieces_in ss vs))) + (seam_length (with_whitespace y s) + length (tree_text (view v)) + 1)
  next_size (r, h) l o f =
      let size = take_next_size b hollow hollow ss vs n s t v h (omega (arith, l)) o.seam (o.other ∙ ap (λ a. get_or a n t) o.seams) o.value in
      r.size ∙ size ∙ ap (λ z. length (row_text b hollow (taken n (pieces_in ss vs))) + (seam_length (with_whitespace z s) + length (tree_text (view v)) + 1)) (sym f)

  pub next_sound : IsKept b m hollow ss vs → n + 1 < length vs → (o : IsOut ss ss1 vs vs1 n s t v n) → AreSoundIn (slice_set ss1 n (with_whitespace x t)) vs1
  next_sound (r, h) l o = subst (λ a. AreSoundIn (slice_set a n (with_whitespace x t)) vs1) (sym o.seams) (subst (λ c. AreSoundIn (slice_set (remove ss n) n (with_whitespace x t)) c) (sym o.values) (seam_sound (remove ss n) (remove vs n) n (with_whitespace x t) (remove_sound ss vs n h)))

  pub next_kept : (k : ℕ) → IsKept b m hollow ss vs → n + 1 < length vs → IsOut ss ss1 vs vs1 n s t v n → x ≡ s.whitespace → y ≡ t.whitespace → k + (seam_length (with_whitespace y s) + length (tree_text (view v)) + 1) ≡ m → IsKept b k hollow (slice_set ss1 n (with_whitespace x t)) vs1
  next_kept k (r, h) l o e f z =
      let size = next_size (r, h) l o f in
      kept_by b m k hollow hollow ss (slice_set ss1 n (with_whitespace x t)) vs vs1 n (r, h) (omega (arith, l)) r.whitespace (next_pieces (r, h) l o e) (next_sound (r, h) l o) (omega (arith, z, size))

  pub next_some : {A : Type 0} → IsKept b m hollow ss vs → n + 1 < length vs → IsOut ss ss1 vs vs1 n s t v n → x ≡ s.whitespace → 0 < length vs1 → taken n (pieces_in ss vs) ≡ [] → A
  next_some (r, h) l o e some z = absurd (some_left (slice_set ss1 n (with_whitespace x t)) vs1 (next_sound (r, h) l o) some (next_pieces (r, h) l o e ∙ z))

  -- the last, behind the one of number at
  pub last_pieces : (at : ℕ) → n ≡ at + 1 → IsKept b m hollow ss vs → length vs ≡ n + 1 → IsOut ss ss1 vs vs1 n s t v at → x ≡ s.trail → pieces_in (slice_set ss1 at (with_trail x t)) vs1 ≡ taken n (pieces_in ss vs)
  last_pieces at is (r, h) l o e =
      subst (λ a. pieces_in (slice_set a at (with_trail x t)) vs1 ≡ taken n (pieces_in ss vs)) (sym o.seams)
      (subst (λ c. pieces_in (slice_set (remove ss n) at (with_trail x t)) c ≡ taken n (pieces_in ss vs)) (sym o.values)
      (subst (λ z. pieces_in (slice_set (remove ss n) at (with_trail z t)) (remove vs n) ≡ taken n (pieces_in ss vs)) (sym e)
      (take_last ss vs n at s t (with_trail s.trail t) is h l o.seam (o.other ∙ ap (λ a. get_or a at t) o.seams) (λ u. refl))))

  pub last_size : (at : ℕ) → n ≡ at + 1 → IsKept b m hollow ss vs → length vs ≡ n + 1 → IsOut ss ss1 vs vs1 n s t v at → y ≡ t.trail → m ≡ length (row_text b hollow (taken n (pieces_in ss vs))) + (seam_length (with_trail y s) + length (tree_text (view v)) + 1)
  last_size at is (r, h) l o f =
      let size = take_last_size b hollow hollow ss vs n at s t v is h l o.seam (o.other ∙ ap (λ a. get_or a at t) o.seams) o.value in
      r.size ∙ size ∙ ap (λ z. length (row_text b hollow (taken n (pieces_in ss vs))) + (seam_length (with_trail z s) + length (tree_text (view v)) + 1)) (sym f)

  pub last_sound : (at : ℕ) → IsKept b m hollow ss vs → (o : IsOut ss ss1 vs vs1 n s t v at) → AreSoundIn (slice_set ss1 at (with_trail x t)) vs1
  last_sound at (r, h) o = subst (λ a. AreSoundIn (slice_set a at (with_trail x t)) vs1) (sym o.seams) (subst (λ c. AreSoundIn (slice_set (remove ss n) at (with_trail x t)) c) (sym o.values) (seam_sound (remove ss n) (remove vs n) at (with_trail x t) (remove_sound ss vs n h)))

  pub last_kept : (k at : ℕ) → n ≡ at + 1 → IsKept b m hollow ss vs → length vs ≡ n + 1 → IsOut ss ss1 vs vs1 n s t v at → x ≡ s.trail → y ≡ t.trail → k + (seam_length (with_trail y s) + length (tree_text (view v)) + 1) ≡ m → IsKept b k hollow (slice_set ss1 at (with_trail x t)) vs1
  last_kept k at is (r, h) l o e f z =
      let size = last_size at is (r, h) l o f in
      kept_by b m k hollow hollow ss (slice_set ss1 at (with_trail x t)) vs vs1 n (r, h) (omega (arith, l)) r.whitespace (last_pieces at is (r, h) l o e) (last_sound at (r, h) o) (omega (arith, z, size))

  pub last_some : {A : Type 0} (at : ℕ) → n ≡ at + 1 → IsKept b m hollow ss vs → length vs ≡ n + 1 → IsOut ss ss1 vs vs1 n s t v at → x ≡ s.trail → 0 < length vs1 → taken n (pieces_in ss vs) ≡ [] → A
  last_some at is (r, h) l o e some z = absurd (some_left (slice_set ss1 at (with_trail x t)) vs1 (last_sound at (r, h) o) some (last_pieces at is (r, h) l o e ∙ z))

-- the only one
pub alone_pieces : (ss ss1 : List Seam) (vs vs1 : List Node) → AreSoundIn ss vs → length vs ≡ 1 → ss1 ≡ remove ss 0 → vs1 ≡ remove vs 0 → pieces_in ss1 vs1 ≡ taken 0 (pieces_in ss vs)
alone_pieces ss ss1 vs vs1 h l e f =
    let r = take_alone ss vs h l in
    ap (λ a. pieces_in a vs1) e ∙ ap (λ c. pieces_in (remove ss 0) c) f ∙ r.0 ∙ sym r.1

pub alone_kept : (b : Bool) (m : ℕ) (hollow : List ℕ) (ss ss1 : List Seam) (vs vs1 : List Node) → IsKept b m hollow ss vs → length vs ≡ 1 → ss1 ≡ remove ss 0 → vs1 ≡ remove vs 0 → IsKept b 2 [] ss1 vs1
alone_kept b m hollow ss ss1 vs vs1 (r, h) l e f =
    let sound : AreSoundIn ss1 vs1 = subst (λ a. AreSoundIn a vs1) (sym e) (subst (AreSoundIn (remove ss 0)) (sym f) (remove_sound ss vs 0 h)) in
    kept_by b m 2 hollow [] ss ss1 vs vs1 0 (r, h) (omega (arith, l)) whitespace_nil (alone_pieces ss ss1 vs vs1 h l e f) sound (ap (λ ps. length (row_text b [] ps)) (sym (take_alone ss vs h l).1))
