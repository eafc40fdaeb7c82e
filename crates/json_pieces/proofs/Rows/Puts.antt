-- One value put into a row, with what is kept.
use Rattle.std.proofs.Common.{◌≡◌, ◌⊎◌, ℕ, ◌+◌, ◌<◌, ◌≤◌, Bool, true, false, List, [], length, get_or, refl, sym, ap, ◌∙◌, subst, inl, inr, arith}
use Rattle.std.proofs.lemmas.Bool.{cases_eq}
use Rattle.std.proofs.lemmas.List.{get_or_default}
use Rattle.std.specs.List.{insert}
use Rattle.std.specs.Prelude.{slice_set}
use Rattle.json.specs.Json.{Json}
use Rattle.json.specs.Print.{quoted}
use Rattle.json_text.specs.Cuts.{AllSuit, IsWhitespace, Piece, row_text}
use Rattle.json_text.specs.Listing.{IsTextOf}
use Rattle.json_text.specs.Styled.{colons_like, whitespace_like}
use Rattle.json_pieces.specs.Lengths.{HasGained, HasLost, seam_length}
use Rattle.json_pieces.specs.Nodes.{IsSound, IsWhole, piece_with, text_bytes, tree_text, view}
use Rattle.json_pieces.specs.PieceLists.{element_between, element_pushed, element_put, member_alone, member_like, member_pushed, with_value}
use Rattle.json_pieces.specs.declared.node.Node.{Node}
use Rattle.json_pieces.specs.declared.seams.Seam.{Seam}
use Rattle.json_pieces.specs.declared.text.Text.{Text}
use Rattle.json_pieces.proofs.Lists.{AreSoundIn, pieces_are, pieces_in, seams_are, set_pieces, set_sound, value_there}
use Rattle.json_pieces.proofs.Rows.Answers.{AreOfSome, element_of_some, member_of_some, put_of_some, value_of_some}
use Rattle.json_pieces.proofs.Rows.Lengths.{first_element_size, first_member_size, push_element_size, push_member_size, put_first_size, put_own_size}
use Rattle.json_pieces.proofs.Rows.Moves.{HasWhitespace, insert_sound, put_element_first, put_element_own, push_element_first, push_element_more, push_member_first, push_member_more, seam_sound}
use Rattle.json_pieces.proofs.Rows.Steps.{IsKept}
use Rattle.json_pieces.proofs.Rows.Numbers.{put_size, value_at, value_fits}

pub kept_pieces : (b : Bool) (m : ℕ) (hollow : List ℕ) (ss : List Seam) (vs : List Node) (qs : List Piece) → AreOfSome b qs → pieces_in ss vs ≡ qs → AreSoundIn ss vs → IsWhitespace hollow → m ≡ length (row_text b hollow qs) → IsKept b m hollow ss vs
kept_pieces b m hollow ss vs qs (cs, h) is sound whitespace size = (record { cs = cs; suit = subst (AllSuit b cs) (sym is) h; whitespace = whitespace; size = size ∙ ap (λ ps. length (row_text b hollow ps)) (sym is) }, sound)

-- ---- in the place of another

pub old_fits : (b : Bool) (m : ℕ) (hollow : List ℕ) (ss : List Seam) (vs : List Node) (n : ℕ) (v : Node) → IsKept b m hollow ss vs → n < length vs → v ≡ get_or vs n v → length (tree_text (view v)) ≤ m
old_fits b m hollow ss vs n v (r, h) l e = subst (λ y. length y ≤ m) (value_there ss vs n v h l e) (value_fits b hollow n m (pieces_in ss vs) (omega (arith, l, pieces_are ss vs h)) r.size)

pub value_kept : (b : Bool) (m k : ℕ) (hollow : List ℕ) (ss : List Seam) (vs : List Node) (n : ℕ) (v w : Node) → IsKept b m hollow ss vs → n < length vs → v ≡ get_or vs n v → IsWhole (view w) → k + length (tree_text (view v)) ≡ m + length (tree_text (view w)) → IsKept b k hollow ss (slice_set vs n w)
value_kept b m k hollow ss vs n v w (r, h) l e (sound, (j, text)) size =
    let ps = pieces_in ss vs in
    let x = tree_text (view w) in
    let within : n < length ps = omega (arith, l, pieces_are ss vs h) in
    let old : length (value_at n ps) ≡ length (tree_text (view v)) = ap length (value_there ss vs n v h l e) in
    let new : k ≡ length (row_text b hollow (with_value n x ps)) = put_size b hollow n m k ps x within r.size (omega (arith, size, old)) in
    kept_pieces b k hollow ss (slice_set vs n w) (with_value n x ps) (value_of_some b ps n x j (r.cs, r.suit) within text) (set_pieces ss vs n w) (set_sound ss vs n w h sound) r.whitespace new

-- ---- in an empty row

pub next_member_pieces : (ss ts : List Seam) (vs : List Node) (m n : ℕ) (s : Seam) (v : Node) (trail : Text) (hollow name : List ℕ) → m ≡ n + 1 → AreSoundIn ss vs → length vs ≡ m → (o : HasLost ss n trail ts) → ((x u : List ℕ) → piece_with s u ≡ member_like (piece_with o.seam x) name u)
    → pieces_in (insert ts m s) (insert vs m v) ≡ member_pushed hollow name (tree_text (view v)) (pieces_in ss vs)
next_member_pieces ss ts vs m n s v trail hollow name is h l o k =
    ap (λ y. pieces_in (insert y m s) (insert vs m v)) o.left
    ∙ push_member_more ss vs m n s o.seam _ v hollow name is h l o.is (λ u. ap (λ y. record { whitespace = text_bytes o.seam.whitespace; name = text_bytes o.seam.name; colons = text_bytes o.seam.colons; value = u; trail = y }) o.empty) k

pub next_element_pieces : (ss ts : List Seam) (vs : List Node) (m n : ℕ) (s : Seam) (v : Node) (trail : Text) (hollow : List ℕ) → m ≡ n + 1 → AreSoundIn ss vs → length vs ≡ m → (o : HasLost ss n trail ts) → ((u : List ℕ) → piece_with s u ≡ element_between (whitespace_like (text_bytes o.seam.whitespace)) u (text_bytes o.seam.trail))
    → pieces_in (insert ts m s) (insert vs m v) ≡ element_pushed hollow (tree_text (view v)) (pieces_in ss vs)
next_element_pieces ss ts vs m n s v trail hollow is h l o k =
    ap (λ y. pieces_in (insert y m s) (insert vs m v)) o.left
    ∙ push_element_more ss vs m n s o.seam _ v hollow is h l o.is (λ u. ap (λ y. record { whitespace = text_bytes o.seam.whitespace; name = text_bytes o.seam.name; colons = text_bytes o.seam.colons; value = u; trail = y }) o.empty) k

lost_sound : (ss ts : List Seam) (vs : List Node) (n m : ℕ) (s : Seam) (v : Node) (trail : Text) → AreSoundIn ss vs → IsSound (view v) → HasLost ss n trail ts → AreSoundIn (insert ts m s) (insert vs m v)
lost_sound ss ts vs n m s v trail h k o = insert_sound ts vs m s v (subst (λ y. AreSoundIn y vs) (sym o.left) (seam_sound ss vs n _ h)) k

-- what goes into the row is some of these pieces
-- ---- the same by what the code knows

abbrev pub Lengthens : ℕ → ℕ → Seam → List ℕ → ℕ → Type 0
Lengthens k m s u commas = k ≡ m + (seam_length s + length u + commas)

module _ (b d : Bool) (m i k : ℕ) (hollow hollow2 : List ℕ) (ss ss1 ss2 : List Seam) (vs vs1 vs2 : List Node) (s : Seam) (v : Node) (good : IsSound (view v)) where
  pub first_member_put : (name : List ℕ) → IsKept b m hollow ss vs → length vs ≡ 0 → ss1 ≡ ss → vs1 ≡ vs → ss2 ≡ insert ss1 0 s → vs2 ≡ insert vs1 0 v → ((u : List ℕ) → piece_with s u ≡ member_alone hollow name u) → pieces_in ss2 vs2 ≡ member_pushed hollow name (tree_text (view v)) (pieces_in ss vs)
  first_member_put name h l e f g q a =
      ap (λ y. pieces_in y vs2) (g ∙ ap (λ y. insert y 0 s) e) ∙ ap (λ y. pieces_in (insert ss 0 s) y) (q ∙ ap (λ y. insert y 0 v) f) ∙ push_member_first ss vs s v hollow name h.1 l a

  pub first_element_put : IsKept b m hollow ss vs → length vs ≡ 0 → ss1 ≡ ss → vs1 ≡ vs → ss2 ≡ insert ss1 0 s → vs2 ≡ insert vs1 0 v → ((u : List ℕ) → piece_with s u ≡ element_between [] u hollow) → pieces_in ss2 vs2 ≡ element_pushed hollow (tree_text (view v)) (pieces_in ss vs)
  first_element_put h l e f g q a =
      ap (λ y. pieces_in y vs2) (g ∙ ap (λ y. insert y 0 s) e) ∙ ap (λ y. pieces_in (insert ss 0 s) y) (q ∙ ap (λ y. insert y 0 v) f) ∙ push_element_first ss vs s v hollow h.1 l a

  first_sound : AreSoundIn ss vs → ss1 ≡ ss → vs1 ≡ vs → ss2 ≡ insert ss1 0 s → vs2 ≡ insert vs1 0 v → AreSoundIn ss2 vs2
  first_sound h e f g q =
      subst (λ y. AreSoundIn y vs2) (sym (g ∙ ap (λ y. insert y 0 s) e)) (subst (AreSoundIn (insert ss 0 s)) (sym (q ∙ ap (λ y. insert y 0 v) f)) (insert_sound ss vs 0 s v h good))

  pub first_member_kept : (k2 : List ℕ) (w : Json) → b ≡ true → d ≡ b → IsKept b m hollow ss vs → length vs ≡ 0 → ss1 ≡ ss → vs1 ≡ vs → ss2 ≡ insert ss1 0 s → vs2 ≡ insert vs1 0 v → ((u : List ℕ) → piece_with s u ≡ member_alone hollow (quoted k2) u)
      → IsWhitespace hollow2 → IsTextOf (tree_text (view v)) w → i + length hollow ≡ m → Lengthens k i s (tree_text (view v)) 0 → IsKept d k hollow2 ss2 vs2
  first_member_kept k2 w y z (r, h) l e f g q a whitespace text size grown =
      let ps = pieces_in ss vs in
      let u = tree_text (view v) in
      let some : AreOfSome true (member_pushed hollow (quoted k2) u ps) = member_of_some hollow k2 u w ps (r.cs, subst (λ c. AllSuit c r.cs ps) y r.suit) r.whitespace text in
      let old : m ≡ length (row_text true hollow ps) = r.size ∙ ap (λ c. length (row_text c hollow ps)) y in
      let long : seam_length s ≡ length (quoted k2) + 1 + length hollow = omega (arith, ap (λ p. length p.whitespace) (a []), ap (λ p. length p.name) (a []), ap (λ p. length p.colons) (a []), ap (λ p. length p.trail) (a [])) in
      let new : k ≡ length (row_text true hollow2 (member_pushed hollow (quoted k2) u ps)) = omega (arith, grown, size, old, long, first_member_size hollow hollow2 (quoted k2) u ss vs l) in
      subst (λ c. IsKept c k hollow2 ss2 vs2) (sym (z ∙ y)) (kept_pieces true k hollow2 ss2 vs2 (member_pushed hollow (quoted k2) u ps) some (first_member_put (quoted k2) (r, h) l e f g q a) (first_sound h e f g q) whitespace new)

  pub first_element_kept : (w : Json) → b ≡ false → d ≡ b → IsKept b m hollow ss vs → length vs ≡ 0 → ss1 ≡ ss → vs1 ≡ vs → ss2 ≡ insert ss1 0 s → vs2 ≡ insert vs1 0 v → ((u : List ℕ) → piece_with s u ≡ element_between [] u hollow)
      → IsWhitespace hollow2 → IsTextOf (tree_text (view v)) w → i + length hollow ≡ m → Lengthens k i s (tree_text (view v)) 0 → IsKept d k hollow2 ss2 vs2
  first_element_kept w y z (r, h) l e f g q a whitespace text size grown =
      let ps = pieces_in ss vs in
      let u = tree_text (view v) in
      let some : AreOfSome false (element_pushed hollow u ps) = element_of_some hollow u w ps (r.cs, subst (λ c. AllSuit c r.cs ps) y r.suit) r.whitespace text in
      let old : m ≡ length (row_text false hollow ps) = r.size ∙ ap (λ c. length (row_text c hollow ps)) y in
      let long : seam_length s ≡ length hollow = omega (arith, ap (λ p. length p.whitespace) (a []), ap (λ p. length p.name) (a []), ap (λ p. length p.colons) (a []), ap (λ p. length p.trail) (a [])) in
      let new : k ≡ length (row_text false hollow2 (element_pushed hollow u ps)) = omega (arith, grown, size, old, long, first_element_size hollow hollow2 u ss vs l) in
      subst (λ c. IsKept c k hollow2 ss2 vs2) (sym (z ∙ y)) (kept_pieces false k hollow2 ss2 vs2 (element_pushed hollow u ps) some (first_element_put (r, h) l e f g q a) (first_sound h e f g q) whitespace new)

  -- behind the last, of number n; trail is what was behind it
  pub next_member_put : (n at : ℕ) (trail : Text) (name : List ℕ) → at ≡ n + 1 → IsKept b m hollow ss vs → length vs ≡ at → (o : HasLost ss n trail ss1) → vs1 ≡ vs → ss2 ≡ insert ss1 at s → vs2 ≡ insert vs1 at v → ((x u : List ℕ) → piece_with s u ≡ member_like (piece_with o.seam x) name u)
      → pieces_in ss2 vs2 ≡ member_pushed hollow name (tree_text (view v)) (pieces_in ss vs)
  next_member_put n at trail name is h l o f g q a =
      ap (λ y. pieces_in y vs2) g ∙ ap (λ y. pieces_in (insert ss1 at s) y) (q ∙ ap (λ y. insert y at v) f) ∙ next_member_pieces ss ss1 vs at n s v trail hollow name is h.1 l o a

  pub next_element_put : (n at : ℕ) (trail : Text) → at ≡ n + 1 → IsKept b m hollow ss vs → length vs ≡ at → (o : HasLost ss n trail ss1) → vs1 ≡ vs → ss2 ≡ insert ss1 at s → vs2 ≡ insert vs1 at v → ((u : List ℕ) → piece_with s u ≡ element_between (whitespace_like (text_bytes o.seam.whitespace)) u (text_bytes o.seam.trail))
      → pieces_in ss2 vs2 ≡ element_pushed hollow (tree_text (view v)) (pieces_in ss vs)
  next_element_put n at trail is h l o f g q a =
      ap (λ y. pieces_in y vs2) g ∙ ap (λ y. pieces_in (insert ss1 at s) y) (q ∙ ap (λ y. insert y at v) f) ∙ next_element_pieces ss ss1 vs at n s v trail hollow is h.1 l o a

  next_sound : (n at : ℕ) (trail : Text) → AreSoundIn ss vs → HasLost ss n trail ss1 → vs1 ≡ vs → ss2 ≡ insert ss1 at s → vs2 ≡ insert vs1 at v → AreSoundIn ss2 vs2
  next_sound n at trail h o f g q = subst (λ y. AreSoundIn y vs2) (sym g) (subst (AreSoundIn (insert ss1 at s)) (sym (q ∙ ap (λ y. insert y at v) f)) (lost_sound ss ss1 vs n at s v trail h good o))

  pub next_member_kept : (n at : ℕ) (trail : Text) (k2 : List ℕ) (w : Json) → b ≡ true → d ≡ b → at ≡ n + 1 → IsKept b m hollow ss vs → length vs ≡ at → (o : HasLost ss n trail ss1) → vs1 ≡ vs → ss2 ≡ insert ss1 at s → vs2 ≡ insert vs1 at v
      → ((x u : List ℕ) → piece_with s u ≡ member_like (piece_with o.seam x) (quoted k2) u) → IsWhitespace hollow2 → IsTextOf (tree_text (view v)) w → i + length (text_bytes trail) ≡ m → Lengthens k i s (tree_text (view v)) 1 → IsKept d k hollow2 ss2 vs2
  next_member_kept n at trail k2 w y z is (r, h) l o f g q a whitespace text size grown =
      let ps = pieces_in ss vs in
      let u = tree_text (view v) in
      let some : AreOfSome true (member_pushed hollow (quoted k2) u ps) = member_of_some hollow k2 u w ps (r.cs, subst (λ c. AllSuit c r.cs ps) y r.suit) r.whitespace text in
      let old : m ≡ length (row_text true hollow ps) = r.size ∙ ap (λ c. length (row_text c hollow ps)) y in
      let long : seam_length s ≡ length (whitespace_like (text_bytes o.seam.whitespace)) + length (quoted k2) + length (colons_like (text_bytes o.seam.colons)) + length (text_bytes o.seam.trail) = omega (arith, ap (λ p. length p.whitespace) (a [] []), ap (λ p. length p.name) (a [] []), ap (λ p. length p.colons) (a [] []), ap (λ p. length p.trail) (a [] [])) in
      let new : k ≡ length (row_text true hollow2 (member_pushed hollow (quoted k2) u ps)) = omega (arith, grown, size, old, long, ap (λ x. length (text_bytes x)) o.trail_is, push_member_size hollow hollow2 (quoted k2) u ss vs at n o.seam is h l o.is) in
      subst (λ c. IsKept c k hollow2 ss2 vs2) (sym (z ∙ y)) (kept_pieces true k hollow2 ss2 vs2 (member_pushed hollow (quoted k2) u ps) some (next_member_put n at trail (quoted k2) is (r, h) l o f g q a) (next_sound n at trail h o f g q) whitespace new)

  pub next_element_kept : (n at : ℕ) (trail : Text) (w : Json) → b ≡ false → d ≡ b → at ≡ n + 1 → IsKept b m hollow ss vs → length vs ≡ at → (o : HasLost ss n trail ss1) → vs1 ≡ vs → ss2 ≡ insert ss1 at s → vs2 ≡ insert vs1 at v
      → ((u : List ℕ) → piece_with s u ≡ element_between (whitespace_like (text_bytes o.seam.whitespace)) u (text_bytes o.seam.trail)) → IsWhitespace hollow2 → IsTextOf (tree_text (view v)) w → i + length (text_bytes trail) ≡ m → Lengthens k i s (tree_text (view v)) 1 → IsKept d k hollow2 ss2 vs2
  next_element_kept n at trail w y z is (r, h) l o f g q a whitespace text size grown =
      let ps = pieces_in ss vs in
      let u = tree_text (view v) in
      let some : AreOfSome false (element_pushed hollow u ps) = element_of_some hollow u w ps (r.cs, subst (λ c. AllSuit c r.cs ps) y r.suit) r.whitespace text in
      let old : m ≡ length (row_text false hollow ps) = r.size ∙ ap (λ c. length (row_text c hollow ps)) y in
      let long : seam_length s ≡ length (whitespace_like (text_bytes o.seam.whitespace)) + length (text_bytes o.seam.trail) = omega (arith, ap (λ p. length p.whitespace) (a []), ap (λ p. length p.name) (a []), ap (λ p. length p.colons) (a []), ap (λ p. length p.trail) (a [])) in
      let new : k ≡ length (row_text false hollow2 (element_pushed hollow u ps)) = omega (arith, grown, size, old, long, ap (λ x. length (text_bytes x)) o.trail_is, push_element_size hollow hollow2 u ss vs at n o.seam is h l o.is) in
      subst (λ c. IsKept c k hollow2 ss2 vs2) (sym (z ∙ y)) (kept_pieces false k hollow2 ss2 vs2 (element_pushed hollow u ps) some (next_element_put n at trail is (r, h) l o f g q a) (next_sound n at trail h o f g q) whitespace new)

-- ---- the seams of the code

pub same_seam : (ss : List Seam) (n : ℕ) (s t : Seam) → n < length ss → s ≡ get_or ss n s → t ≡ get_or ss n t → t ≡ s
same_seam ss n s t l e f = f ∙ get_or_default ss n t s l ∙ sym e

abbrev pub piece_of_parts : List ℕ → List ℕ → List ℕ → List ℕ → List ℕ → Piece
piece_of_parts a c e u g = record { whitespace = a; name = c; colons = e; value = u; trail = g }

pub same_piece : (a b c d e f g h u : List ℕ) → a ≡ b → c ≡ d → e ≡ f → g ≡ h → piece_of_parts a c e u g ≡ piece_of_parts b d f u h
same_piece a b c d e f g h u i j k l = ap (λ x. piece_of_parts x c e u g) i ∙ ap (λ x. piece_of_parts b x e u g) j ∙ ap (λ x. piece_of_parts b d x u g) k ∙ ap (λ x. piece_of_parts b d f u x) l

pub like_member : (s o t t2 : Seam) (name : List ℕ) → t ≡ o → t2 ≡ o → text_bytes s.whitespace ≡ whitespace_like (text_bytes t.whitespace) → text_bytes s.name ≡ name → text_bytes s.colons ≡ colons_like (text_bytes t2.colons) → s.trail ≡ o.trail → (x u : List ℕ) → piece_with s u ≡ member_like (piece_with o x) name u
like_member s o t t2 name e f a b c d x u = same_piece (text_bytes s.whitespace) (whitespace_like (text_bytes o.whitespace)) (text_bytes s.name) name (text_bytes s.colons) (colons_like (text_bytes o.colons)) (text_bytes s.trail) (text_bytes o.trail) u (a ∙ ap (λ y. whitespace_like (text_bytes y.whitespace)) e) b (c ∙ ap (λ y. colons_like (text_bytes y.colons)) f) (ap text_bytes d)

-- ---- an element before another

-- x is the seam whose whitespace comes before the element of number n
pub record IsLike (ss : List Seam) (count n : ℕ) (like : ℕ) (x : Seam) : Type 0 where
  pub is : x ≡ get_or ss like x
  pub within : like < count
  pub first : n ≡ 0 → 1 < count → like ≡ 1
  pub own : (n ≡ 0 → count ≡ 1) → like ≡ n

module _ (b d : Bool) (m i k : ℕ) (hollow hollow2 : List ℕ) (ss ss1 ss2 : List Seam) (vs vs1 vs2 : List Node) (s : Seam) (v : Node) (good : IsSound (view v)) (n like : ℕ) (x : Seam) (old : Text) where
  -- what the pieces become, and how long they are
  abbrev Before : Type 0
  Before = (pieces_in ss2 vs2 ≡ element_put n (tree_text (view v)) (pieces_in ss vs)) × (length (row_text false hollow2 (element_put n (tree_text (view v)) (pieces_in ss vs))) ≡ length (row_text false hollow (pieces_in ss vs)) + (length (whitespace_like (text_bytes x.whitespace)) + length (tree_text (view v)) + 1))

  before_by : IsKept b m hollow ss vs → n < length vs → IsLike ss (length vs) n like x → (o : HasGained ss n (whitespace_like (text_bytes x.whitespace)) old ss1) → vs1 ≡ vs → ss2 ≡ insert ss1 n s → vs2 ≡ insert vs1 n v → ((u : List ℕ) → piece_with s u ≡ element_between (text_bytes o.seam.whitespace) u []) → (n ≡ 0) ⊎ (n ≡ 0 → ⊥) → (length vs ≡ 1) ⊎ (length vs ≡ 1 → ⊥) → Before
  before_by (r, h) l z o f g q a c1 c2 = by_number c1 c2
    where
      there : n < length ss
      there = omega (arith, seams_are ss vs h, l)

      outer : pieces_in ss2 vs2 ≡ pieces_in (insert (slice_set ss n (record { whitespace = o.given; name = o.seam.name; colons = o.seam.colons; trail = o.seam.trail })) n s) (insert vs n v)
      outer = ap (λ y. pieces_in y vs2) (g ∙ ap (λ y. insert y n s) o.left) ∙ ap (λ y. pieces_in (insert (slice_set ss n (record { whitespace = o.given; name = o.seam.name; colons = o.seam.colons; trail = o.seam.trail })) n s) y) (q ∙ ap (λ y. insert y n v) f)

      given : (bytes : List ℕ) → whitespace_like (text_bytes x.whitespace) ≡ bytes → HasWhitespace bytes o.seam (record { whitespace = o.given; name = o.seam.name; colons = o.seam.colons; trail = o.seam.trail })
      given bytes e u = ap (λ y. piece_of_parts y (text_bytes o.seam.name) (text_bytes o.seam.colons) u (text_bytes o.seam.trail)) (o.has ∙ e)

      own_case : (n ≡ 0 → length vs ≡ 1) → Before
      own_case one =
          let at : like ≡ n = z.own one in
          let same : o.seam ≡ x = same_seam ss n x o.seam there (z.is ∙ ap (λ y. get_or ss y x) at) o.is in
          let whitespace : text_bytes x.whitespace ≡ text_bytes o.seam.whitespace = ap (λ y. text_bytes y.whitespace) (sym same) in (
            outer ∙ put_element_own ss vs n s o.seam _ v h l one o.is (given (whitespace_like (text_bytes o.seam.whitespace)) (ap whitespace_like whitespace)) a,
            put_own_size hollow hollow2 (tree_text (view v)) ss vs n o.seam h l one o.is ∙ ap (λ y. length (row_text false hollow (pieces_in ss vs)) + (length (whitespace_like y) + length (tree_text (view v)) + 1)) (sym whitespace),
          )

      first_case : n ≡ 0 → 1 < length vs → Before
      first_case e more =
          let at : like ≡ 1 = z.first e more in
          let seat : x ≡ get_or ss 1 x = z.is ∙ ap (λ y. get_or ss y x) at in
          let zero_seam : o.seam ≡ get_or ss 0 o.seam = o.is ∙ ap (λ y. get_or ss y o.seam) e in
          let moved : pieces_in (insert (slice_set ss n (record { whitespace = o.given; name = o.seam.name; colons = o.seam.colons; trail = o.seam.trail })) n s) (insert vs n v) ≡ element_put n (tree_text (view v)) (pieces_in ss vs) =
          subst (λ y. pieces_in (insert (slice_set ss y (record { whitespace = o.given; name = o.seam.name; colons = o.seam.colons; trail = o.seam.trail })) y s) (insert vs y v) ≡ element_put y (tree_text (view v)) (pieces_in ss vs)) (sym e)
          (put_element_first ss vs s o.seam x _ v h more zero_seam seat (given (whitespace_like (text_bytes x.whitespace)) refl) a) in (
            outer ∙ moved,
            ap (λ y. length (row_text false hollow2 (element_put y (tree_text (view v)) (pieces_in ss vs)))) e ∙ put_first_size hollow hollow2 (tree_text (view v)) ss vs x h more seat,
          )

      by_number : (n ≡ 0) ⊎ (n ≡ 0 → ⊥) → (length vs ≡ 1) ⊎ (length vs ≡ 1 → ⊥) → Before
      by_number (inr other) c = own_case (λ e. absurd (other e))
      by_number (inl e) (inl one) = own_case (λ y. one)
      by_number (inl e) (inr other) = first_case e (several (length vs) (omega (arith, l)) other)
        where
          several : (y : ℕ) → 0 < y → (y ≡ 1 → ⊥) → 1 < y
          several y p q = grind arith

  before_put : IsKept b m hollow ss vs → n < length vs → IsLike ss (length vs) n like x → (o : HasGained ss n (whitespace_like (text_bytes x.whitespace)) old ss1) → vs1 ≡ vs → ss2 ≡ insert ss1 n s → vs2 ≡ insert vs1 n v → ((u : List ℕ) → piece_with s u ≡ element_between (text_bytes o.seam.whitespace) u []) → Before
  before_put h l z o f g q a = before_by h l z o f g q a (cases_eq n 0) (cases_eq (length vs) 1)

  pub element_before_put : IsKept b m hollow ss vs → n < length vs → IsLike ss (length vs) n like x → (o : HasGained ss n (whitespace_like (text_bytes x.whitespace)) old ss1) → vs1 ≡ vs → ss2 ≡ insert ss1 n s → vs2 ≡ insert vs1 n v → ((u : List ℕ) → piece_with s u ≡ element_between (text_bytes o.seam.whitespace) u []) → pieces_in ss2 vs2 ≡ element_put n (tree_text (view v)) (pieces_in ss vs)
  element_before_put h l z o f g q a = (before_put h l z o f g q a).0

  pub element_before_kept : (w : Json) → b ≡ false → d ≡ b → IsKept b m hollow ss vs → n < length vs → IsLike ss (length vs) n like x → (o : HasGained ss n (whitespace_like (text_bytes x.whitespace)) old ss1) → vs1 ≡ vs → ss2 ≡ insert ss1 n s → vs2 ≡ insert vs1 n v → ((u : List ℕ) → piece_with s u ≡ element_between (text_bytes o.seam.whitespace) u [])
      → IsWhitespace hollow2 → IsTextOf (tree_text (view v)) w → i + length (text_bytes old) ≡ m + length (whitespace_like (text_bytes x.whitespace)) → Lengthens k i s (tree_text (view v)) 1 → IsKept d k hollow2 ss2 vs2
  element_before_kept w y e (r, h) l z o f g q a whitespace text size grown =
      let ps = pieces_in ss vs in
      let u = tree_text (view v) in
      let p = before_put (r, h) l z o f g q a in
      let some : AreOfSome false (element_put n u ps) = put_of_some u w ps n (r.cs, subst (λ c. AllSuit c r.cs ps) y r.suit) (omega (arith, l, pieces_are ss vs h)) text in
      let whole : m ≡ length (row_text false hollow ps) = r.size ∙ ap (λ c. length (row_text c hollow ps)) y in
      let long : seam_length s ≡ length (text_bytes o.seam.whitespace) = omega (arith, ap (λ p. length p.whitespace) (a []), ap (λ p. length p.name) (a []), ap (λ p. length p.colons) (a []), ap (λ p. length p.trail) (a [])) in
      let new : k ≡ length (row_text false hollow2 (element_put n u ps)) = omega (arith, grown, size, whole, long, ap (λ t. length (text_bytes t)) o.whitespace_is, p.1) in
      let sound : AreSoundIn ss2 vs2 = subst (λ c. AreSoundIn c vs2) (sym g) (subst (AreSoundIn (insert ss1 n s)) (sym (q ∙ ap (λ c. insert c n v) f)) (insert_sound ss1 vs n s v (subst (λ c. AreSoundIn c vs) (sym o.left) (seam_sound ss vs n _ h)) good)) in
      subst (λ c. IsKept c k hollow2 ss2 vs2) (sym (e ∙ y)) (kept_pieces false k hollow2 ss2 vs2 (element_put n u ps) some p.0 sound whitespace new)
