-- What a part leaves that is put into a row with whitespace from a slot.
use Rattle.std.proofs.Common.{◌≡◌, ℕ, ◌+◌, ◌-◌, ◌<◌, ◌≤◌, true, false, List, [], ◌∷◌, length, get_or, refl, sym, ap, ◌∙◌, subst, arith}
use Rattle.json.specs.Print.{quoted}
use Rattle.json_text.specs.Cuts.{IsWhitespace}
use Rattle.json_text.specs.Styled.{colons_like, whitespace_like}
use Rattle.long_vec.specs.Items.{items_of}
use Rattle.json_pieces.specs.Lengths.{HasGained, HasLost, seam_length}
use Rattle.json_pieces.specs.Nodes.{IsSound, IsWhole, piece_with, row_pieces, row_view, text_bytes, tree_text, view}
use Rattle.json_pieces.specs.PieceLists.{element_between, element_pushed, element_put, member_like, member_pushed}
use Rattle.json_pieces.specs.Slots.{IsPut}
use Rattle.json_pieces.specs.declared.node.Node.{Node}
use Rattle.json_pieces.specs.declared.node.Row.{Row}
use Rattle.json_pieces.specs.declared.row.Slot.TheVariants.{Hollow, Whitespace, Trail}
use Rattle.json_pieces.specs.declared.seams.Seam.{Seam}
use Rattle.json_pieces.proofs.Rows.Lengths.{hollow_fits, its_whitespace_fits, last_trail_fits}
use Rattle.json_pieces.proofs.Rows.Puts.{IsLike, element_before_kept, element_before_put, first_element_kept, first_element_put, first_member_kept, first_member_put, like_member, next_element_kept, next_element_put, next_member_kept, next_member_put, same_piece, same_seam}
use Rattle.json_pieces.proofs.Rows.Stands.{whitespace_nil}

-- the texts of a seam
pub record HasTexts (s : Seam) (whitespace name colons : List ℕ) : Type 0 where
  pub whitespace_is : text_bytes s.whitespace ≡ whitespace
  pub name_is : text_bytes s.name ≡ name
  pub colons_is : text_bytes s.colons ≡ colons
  pub trail_is : text_bytes s.trail ≡ []

module _ (r p : Row) (given : Seam) (v : Node) (sound : IsSound (row_view r)) (value : IsWhole (view v)) where
  -- ---- in an empty row

  module _ (put : IsPut Hollow 0 r given v p) (empty : length (items_of r.values) ≡ 0) where
    alone : (name colons : List ℕ) → HasTexts given [] name colons → (u : List ℕ) → piece_with put.seam u ≡ record { whitespace = []; name = name; colons = colons; value = u; trail = text_bytes r.hollow }
    alone name colons t u = ap (λ s. piece_with s u) put.swapped.0 ∙ same_piece (text_bytes given.whitespace) [] (text_bytes given.name) name (text_bytes given.colons) colons (text_bytes r.hollow) (text_bytes r.hollow) u t.whitespace_is t.name_is t.colons_is refl

    bare : text_bytes given.trail ≡ [] → IsWhitespace (text_bytes p.hollow)
    bare e = subst IsWhitespace (sym (ap text_bytes put.swapped.1 ∙ e)) whitespace_nil

    fits : length (text_bytes r.hollow) ≤ r.length
    fits = let low = hollow_fits r.named (text_bytes r.hollow) (items_of r.seams.all) (items_of r.values) empty in omega (arith, sound.0.size, low)

    long : text_bytes given.trail ≡ [] → seam_length put.seam ≡ seam_length given + length (text_bytes r.hollow)
    long e = omega (arith, ap seam_length put.swapped.0, ap length e)

    pub first_member_pieces : (name : List ℕ) → HasTexts given [] name (58 ∷ []) → row_pieces p ≡ member_pushed (text_bytes r.hollow) name (tree_text (view v)) (row_pieces r)
    first_member_pieces name t =
        first_member_put r.named p.named r.length 0 p.length (text_bytes r.hollow) (text_bytes p.hollow) (items_of r.seams.all) put.seams (items_of p.seams.all) (items_of r.values) (items_of r.values) (items_of p.values) put.seam v value.0 name sound empty put.swapped.2 refl put.seams_are put.values_are (alone name (58 ∷ []) t)

    pub first_member_sound : (name : List ℕ) → r.named ≡ true → HasTexts given [] (quoted name) (58 ∷ []) → IsSound (row_view p)
    first_member_sound name object t =
        first_member_kept r.named p.named r.length (r.length - length (text_bytes r.hollow)) p.length (text_bytes r.hollow) (text_bytes p.hollow) (items_of r.seams.all) put.seams (items_of p.seams.all) (items_of r.values) (items_of r.values) (items_of p.values) put.seam v value.0 name value.1.0 object put.named sound empty put.swapped.2 refl put.seams_are put.values_are (alone (quoted name) (58 ∷ []) t) (bare t.trail_is) value.1.1 (omega (arith, fits)) (omega (arith, fits, long t.trail_is, put.grown))

    pub first_element_pieces : HasTexts given [] [] [] → row_pieces p ≡ element_pushed (text_bytes r.hollow) (tree_text (view v)) (row_pieces r)
    first_element_pieces t =
        first_element_put r.named p.named r.length 0 p.length (text_bytes r.hollow) (text_bytes p.hollow) (items_of r.seams.all) put.seams (items_of p.seams.all) (items_of r.values) (items_of r.values) (items_of p.values) put.seam v value.0 sound empty put.swapped.2 refl put.seams_are put.values_are (alone [] [] t)

    pub first_element_sound : r.named ≡ false → HasTexts given [] [] [] → IsSound (row_view p)
    first_element_sound array t =
        first_element_kept r.named p.named r.length (r.length - length (text_bytes r.hollow)) p.length (text_bytes r.hollow) (text_bytes p.hollow) (items_of r.seams.all) put.seams (items_of p.seams.all) (items_of r.values) (items_of r.values) (items_of p.values) put.seam v value.0 value.1.0 array put.named sound empty put.swapped.2 refl put.seams_are put.values_are (alone [] [] t) (bare t.trail_is) value.1.1 (omega (arith, fits)) (omega (arith, fits, long t.trail_is, put.grown))

  -- ---- behind the last, of number n

  module _ (n at : ℕ) (put : IsPut (Trail n) at r given v p) (is : at ≡ n + 1) (count : length (items_of r.values) ≡ at) (x : Seam) (last : x ≡ get_or (items_of r.seams.all) n x) (within : n < length (items_of r.seams.all)) (none : text_bytes given.trail ≡ []) where
    lost : HasLost (items_of r.seams.all) n put.seam.trail put.seams
    lost = let h = put.swapped.2 in record { seam = h.seam; is = h.is; trail_is = h.taken_is; none = given.trail; empty = none; left = h.left }

    same : x ≡ lost.seam
    same = same_seam (items_of r.seams.all) n lost.seam x within lost.is last

    behind_hollow : IsWhitespace (text_bytes p.hollow)
    behind_hollow = subst IsWhitespace (sym (ap text_bytes put.swapped.1)) sound.0.whitespace

    trail_low : length (text_bytes put.seam.trail) ≤ r.length
    trail_low = let low = last_trail_fits r.named (text_bytes r.hollow) (items_of r.seams.all) (items_of r.values) n lost.seam sound.1 (omega (arith, is, count)) lost.is in omega (arith, sound.0.size, low, ap (λ t. length (text_bytes t)) lost.trail_is)

    longer : seam_length put.seam ≡ seam_length given + length (text_bytes put.seam.trail)
    longer = omega (arith, ap seam_length put.swapped.0, ap length none)

    next_seam : (name colons : List ℕ) → HasTexts given (whitespace_like (text_bytes x.whitespace)) name colons → (y u : List ℕ) → colons ≡ colons_like (text_bytes x.colons) → piece_with put.seam u ≡ member_like (piece_with lost.seam y) name u
    next_seam name colons t y u e =
        like_member put.seam lost.seam x x name same same (ap (λ s. text_bytes s.whitespace) put.swapped.0 ∙ t.whitespace_is) (ap (λ s. text_bytes s.name) put.swapped.0 ∙ t.name_is) (ap (λ s. text_bytes s.colons) put.swapped.0 ∙ t.colons_is ∙ e) lost.trail_is y u

    pub next_member_pieces : (name : List ℕ) → HasTexts given (whitespace_like (text_bytes x.whitespace)) name (colons_like (text_bytes x.colons)) → row_pieces p ≡ member_pushed (text_bytes r.hollow) name (tree_text (view v)) (row_pieces r)
    next_member_pieces name t =
        next_member_put r.named p.named r.length 0 p.length (text_bytes r.hollow) (text_bytes p.hollow) (items_of r.seams.all) put.seams (items_of p.seams.all) (items_of r.values) (items_of r.values) (items_of p.values) put.seam v value.0 n at put.seam.trail name is sound count lost refl put.seams_are put.values_are (λ y u. next_seam name _ t y u refl)

    pub next_member_sound : (name : List ℕ) → r.named ≡ true → HasTexts given (whitespace_like (text_bytes x.whitespace)) (quoted name) (colons_like (text_bytes x.colons)) → IsSound (row_view p)
    next_member_sound name object t =
        next_member_kept r.named p.named r.length (r.length - length (text_bytes put.seam.trail)) p.length (text_bytes r.hollow) (text_bytes p.hollow) (items_of r.seams.all) put.seams (items_of p.seams.all) (items_of r.values) (items_of r.values) (items_of p.values) put.seam v value.0 n at put.seam.trail name value.1.0 object put.named is sound count lost refl put.seams_are put.values_are (λ y u. next_seam (quoted name) _ t y u refl) behind_hollow value.1.1 (omega (arith, trail_low)) (omega (arith, trail_low, longer, put.grown))

    next_between : HasTexts given (whitespace_like (text_bytes x.whitespace)) [] [] → (u : List ℕ) → piece_with put.seam u ≡ element_between (whitespace_like (text_bytes lost.seam.whitespace)) u (text_bytes lost.seam.trail)
    next_between t u =
        same_piece (text_bytes put.seam.whitespace) (whitespace_like (text_bytes lost.seam.whitespace)) (text_bytes put.seam.name) [] (text_bytes put.seam.colons) [] (text_bytes put.seam.trail) (text_bytes lost.seam.trail) u
        (ap (λ s. text_bytes s.whitespace) put.swapped.0 ∙ t.whitespace_is ∙ ap (λ s. whitespace_like (text_bytes s.whitespace)) same) (ap (λ s. text_bytes s.name) put.swapped.0 ∙ t.name_is) (ap (λ s. text_bytes s.colons) put.swapped.0 ∙ t.colons_is) (ap text_bytes lost.trail_is)

    pub next_element_pieces : HasTexts given (whitespace_like (text_bytes x.whitespace)) [] [] → row_pieces p ≡ element_pushed (text_bytes r.hollow) (tree_text (view v)) (row_pieces r)
    next_element_pieces t =
        next_element_put r.named p.named r.length 0 p.length (text_bytes r.hollow) (text_bytes p.hollow) (items_of r.seams.all) put.seams (items_of p.seams.all) (items_of r.values) (items_of r.values) (items_of p.values) put.seam v value.0 n at put.seam.trail is sound count lost refl put.seams_are put.values_are (next_between t)

    pub next_element_sound : r.named ≡ false → HasTexts given (whitespace_like (text_bytes x.whitespace)) [] [] → IsSound (row_view p)
    next_element_sound array t =
        next_element_kept r.named p.named r.length (r.length - length (text_bytes put.seam.trail)) p.length (text_bytes r.hollow) (text_bytes p.hollow) (items_of r.seams.all) put.seams (items_of p.seams.all) (items_of r.values) (items_of r.values) (items_of p.values) put.seam v value.0 n at put.seam.trail value.1.0 array put.named is sound count lost refl put.seams_are put.values_are (next_between t) behind_hollow value.1.1 (omega (arith, trail_low)) (omega (arith, trail_low, longer, put.grown))

  -- ---- before the element of number n

  module _ (n like : ℕ) (x : Seam) (put : IsPut (Whitespace n) n r given v p) (within : n < length (items_of r.values)) (z : IsLike (items_of r.seams.all) (length (items_of r.values)) n like x) (t : HasTexts given (whitespace_like (text_bytes x.whitespace)) [] []) where
    gained : HasGained (items_of r.seams.all) n (whitespace_like (text_bytes x.whitespace)) put.seam.whitespace put.seams
    gained = let h = put.swapped.2 in record { seam = h.seam; is = h.is; whitespace_is = h.taken_is; given = given.whitespace; has = t.whitespace_is; left = h.left }

    before_hollow : IsWhitespace (text_bytes p.hollow)
    before_hollow = subst IsWhitespace (sym (ap text_bytes put.swapped.1)) sound.0.whitespace

    before_low : length (text_bytes put.seam.whitespace) ≤ r.length
    before_low = let low = its_whitespace_fits r.named (text_bytes r.hollow) (items_of r.seams.all) (items_of r.values) n gained.seam sound.1 within gained.is in omega (arith, sound.0.size, low, ap (λ w. length (text_bytes w)) gained.whitespace_is)

    other : seam_length put.seam + length (whitespace_like (text_bytes x.whitespace)) ≡ seam_length given + length (text_bytes put.seam.whitespace)
    other = omega (arith, ap seam_length put.swapped.0, ap length t.whitespace_is)

    between : (u : List ℕ) → piece_with put.seam u ≡ element_between (text_bytes gained.seam.whitespace) u []
    between u =
        same_piece (text_bytes put.seam.whitespace) (text_bytes gained.seam.whitespace) (text_bytes put.seam.name) [] (text_bytes put.seam.colons) [] (text_bytes put.seam.trail) [] u
        (ap text_bytes gained.whitespace_is) (ap (λ s. text_bytes s.name) put.swapped.0 ∙ t.name_is) (ap (λ s. text_bytes s.colons) put.swapped.0 ∙ t.colons_is) (ap (λ s. text_bytes s.trail) put.swapped.0 ∙ t.trail_is)

    pub element_before_pieces : row_pieces p ≡ element_put n (tree_text (view v)) (row_pieces r)
    element_before_pieces =
        element_before_put r.named p.named r.length 0 p.length (text_bytes r.hollow) (text_bytes p.hollow) (items_of r.seams.all) put.seams (items_of p.seams.all) (items_of r.values) (items_of r.values) (items_of p.values) put.seam v value.0 n like x put.seam.whitespace sound within z gained refl put.seams_are put.values_are between

    pub element_before_sound : r.named ≡ false → IsSound (row_view p)
    element_before_sound array =
        let y = whitespace_like (text_bytes x.whitespace) in
        element_before_kept r.named p.named r.length (r.length + length y - length (text_bytes put.seam.whitespace)) p.length (text_bytes r.hollow) (text_bytes p.hollow) (items_of r.seams.all) put.seams (items_of p.seams.all) (items_of r.values) (items_of r.values) (items_of p.values) put.seam v value.0 n like x put.seam.whitespace value.1.0 array put.named sound within z gained refl put.seams_are put.values_are between before_hollow value.1.1 (omega (arith, before_low)) (omega (arith, before_low, other, put.grown))
