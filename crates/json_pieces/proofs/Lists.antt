-- The seams and the values of a row, by number.
use Rattle.std.proofs.Common.{◌≡◌, ℕ, zero, suc, ◌<◌, Bool, List, [], ◌∷◌, ◌++◌, length, get_or, map, Option, Some, None, refl, sym, ap, ap₂, ◌∙◌, subst, arith, append_assoc, append-nil}
use Rattle.std.specs.Prelude.{MatchOption, slice_set}
use Rattle.std.proofs.lemmas.Option.{none-some}
use Rattle.json_text.specs.Cuts.{Piece, closes, opens, piece_text, pieces_text, row_text}
pub use Rattle.json_pieces.specs.Nodes.{AreSoundIn}
use Rattle.json_pieces.specs.Nodes.{AreSound, IsFirstPart, IsSound, Tree, lead_of, text_bytes, parts_of, piece_with, pieces, tree_text, view}
use Rattle.json_pieces.specs.declared.node.Node.{Node}
use Rattle.json_pieces.specs.declared.seams.Seam.{Seam}
use Rattle.json_pieces.specs.PieceLists.{with_value}
use Rattle.json_pieces.proofs.Rows.Numbers.{value_at}

pub seams_count : (ss : List Seam) (ts : List Tree) → AreSound (parts_of ss ts) → length ss ≡ length ts
seams_count [] [] h = refl
seams_count [] (t ∷ ts) h = absurd h
seams_count (s ∷ ss) [] h = absurd h
seams_count (s ∷ ss) (t ∷ ts) h = ap suc (seams_count ss ts h.1)

pub parts_count : (ss : List Seam) (ts : List Tree) → AreSound (parts_of ss ts) → length (pieces (parts_of ss ts)) ≡ length ts
parts_count [] [] h = refl
parts_count [] (t ∷ ts) h = absurd h
parts_count (s ∷ ss) [] h = absurd h
parts_count (s ∷ ss) (t ∷ ts) h = ap suc (parts_count ss ts h.1)

pub count_views : (vs : List Node) → length (map view vs) ≡ length vs
count_views [] = refl
count_views (v ∷ vs) = ap suc (count_views vs)

abbrev pub pieces_in : List Seam → List Node → List Piece
pieces_in ss vs = pieces (parts_of ss (map view vs))

pub seams_are : (ss : List Seam) (vs : List Node) → AreSoundIn ss vs → length ss ≡ length vs
seams_are ss vs h = seams_count ss (map view vs) h ∙ count_views vs

pub pieces_are : (ss : List Seam) (vs : List Node) → AreSoundIn ss vs → length (pieces_in ss vs) ≡ length vs
pieces_are ss vs h = parts_count ss (map view vs) h ∙ count_views vs

-- with no seam there is no value
pub none_left : (ss : List Seam) (vs : List Node) → ss ≡ [] → AreSoundIn ss vs → vs ≡ []
none_left ss [] e h = refl
none_left ss (v ∷ vs) e h = absurd (omega (arith, seams_are ss (v ∷ vs) h, ap length e))

pub none_said : {T A : Type 0} (P : T → Type 0) (o : Option T) → o ≡ None → A → MatchOption o A P
none_said P None e a = a
none_said P (Some x) e a = absurd (none-some x (sym e))

pub value_sound : (ss : List Seam) (vs : List Node) (i : ℕ) (v : Node) → AreSoundIn ss vs → i < length vs → v ≡ get_or vs i v → IsSound (view v)
value_sound [] [] i v h l f = absurd (omega (arith, l))
value_sound [] (w ∷ vs) i v h l f = absurd h
value_sound (t ∷ ss) [] i v h l f = absurd h
value_sound (t ∷ ss) (w ∷ vs) zero v h l f = subst (λ x. IsSound (view x)) (sym f) h.0
value_sound (t ∷ ss) (w ∷ vs) (suc i) v h l f = value_sound ss vs i v h.1 (omega (arith, l)) f

pub value_there : (ss : List Seam) (vs : List Node) (i : ℕ) (v : Node) → AreSoundIn ss vs → i < length vs → v ≡ get_or vs i v → value_at i (pieces_in ss vs) ≡ tree_text (view v)
value_there [] [] i v h l f = absurd (omega (arith, l))
value_there [] (w ∷ vs) i v h l f = absurd h
value_there (t ∷ ss) [] i v h l f = absurd h
value_there (t ∷ ss) (w ∷ vs) zero v h l f = ap (λ x. tree_text (view x)) (sym f)
value_there (t ∷ ss) (w ∷ vs) (suc i) v h l f = value_there ss vs i v h.1 (omega (arith, l)) f

-- ---- another value

pub set_pieces : (ss : List Seam) (vs : List Node) (i : ℕ) (v : Node) → pieces_in ss (slice_set vs i v) ≡ with_value i (tree_text (view v)) (pieces_in ss vs)
set_pieces [] [] i v = refl
set_pieces [] (w ∷ vs) zero v = refl
set_pieces [] (w ∷ vs) (suc i) v = refl
set_pieces (t ∷ ss) [] i v = refl
set_pieces (t ∷ ss) (w ∷ vs) zero v = refl
set_pieces (t ∷ ss) (w ∷ vs) (suc i) v = ap (λ l. piece_with t (tree_text (view w)) ∷ l) (set_pieces ss vs i v)

pub set_sound : (ss : List Seam) (vs : List Node) (i : ℕ) (v : Node) → AreSoundIn ss vs → IsSound (view v) → AreSoundIn ss (slice_set vs i v)
set_sound [] [] i v h k = tt
set_sound [] (w ∷ vs) i v h k = absurd h
set_sound (t ∷ ss) [] i v h k = absurd h
set_sound (t ∷ ss) (w ∷ vs) zero v h k = (k, h.1)
set_sound (t ∷ ss) (w ∷ vs) (suc i) v h k = (h.0, set_sound ss vs i v h.1 k)

-- ---- a row is written

pub no_pieces : (ss : List Seam) (vs : List Node) → length vs ≡ 0 → pieces_in ss vs ≡ []
no_pieces [] [] e = refl
no_pieces (s ∷ ss) [] e = refl
no_pieces ss (v ∷ vs) e = absurd (omega (arith, e))

pub hollow_written : (b : Bool) (hollow new old : List ℕ) (ss : List Seam) (vs : List Node) → length vs ≡ 0 → new ≡ old ++ row_text b hollow [] → new ≡ old ++ row_text b hollow (pieces_in ss vs)
hollow_written b hollow new old ss vs e h = h ∙ ap (λ ps. old ++ row_text b hollow ps) (sym (no_pieces ss vs e))

-- the first of the parts that are left is written: its mark, its lead, its value and its trail
pub one_written : (x y : ℕ) (ss rest : List Seam) (vs behind : List Node) (s : Seam) (v : Node) (whole out m a c new : List ℕ) → IsFirstPart ss vs s v rest behind → y ≡ 44
    → out ++ pieces_text x (pieces_in ss vs) ≡ whole → m ≡ out ++ (x ∷ []) → a ≡ m ++ lead_of s → c ≡ a ++ tree_text (view v) → new ≡ c ++ text_bytes s.trail
    → new ++ pieces_text y (pieces_in rest behind) ≡ whole
one_written x y ss rest vs behind s v whole out m a c new f comma o p q r t =
    let lead = lead_of s in
    let value = tree_text (view v) in
    let trail = text_bytes s.trail in
    let later = pieces_text y (pieces_in rest behind) in
    ap (λ z. z ++ later) (t ∙ ap (λ z. z ++ trail) (r ∙ ap (λ z. z ++ value) (q ∙ ap (λ z. z ++ lead) p)))
    ∙ append_assoc ((((out ++ (x ∷ [])) ++ lead) ++ value)) trail later ∙ append_assoc ((out ++ (x ∷ [])) ++ lead) value (trail ++ later) ∙ append_assoc (out ++ (x ∷ [])) lead (value ++ (trail ++ later)) ∙ append_assoc out (x ∷ []) (lead ++ (value ++ (trail ++ later)))
    ∙ ap (λ z. out ++ (x ∷ z)) (lead_first s value later ∙ ap (λ n. piece_text (piece_with s value) ++ pieces_text n (pieces_in rest behind)) comma)
    ∙ ap (λ ps. out ++ pieces_text x ps) (sym (ap₂ pieces_in f.seam f.value)) ∙ o
  where
    lead_first : (s : Seam) (value later : List ℕ) → lead_of s ++ (value ++ (text_bytes s.trail ++ later)) ≡ piece_text (piece_with s value) ++ later
    lead_first s value later =
        append_assoc (text_bytes s.whitespace) (text_bytes s.name ++ text_bytes s.colons) (value ++ (text_bytes s.trail ++ later))
        ∙ ap (λ y. text_bytes s.whitespace ++ y) (append_assoc (text_bytes s.name) (text_bytes s.colons) (value ++ (text_bytes s.trail ++ later)))
        ∙ sym (append_assoc (text_bytes s.whitespace) _ later ∙ ap (λ y. text_bytes s.whitespace ++ y) (append_assoc (text_bytes s.name) _ later ∙ ap (λ y. text_bytes s.name ++ y) (append_assoc (text_bytes s.colons) _ later ∙ ap (λ y. text_bytes s.colons ++ y) (append_assoc value (text_bytes s.trail) later))))

pub row_written : (b : Bool) (x : ℕ) (hollow old out new : List ℕ) (ss left : List Seam) (vs behind : List Node) → AreSoundIn ss vs → 0 < length vs → behind ≡ [] → out ++ pieces_text x (pieces_in left behind) ≡ old ++ pieces_text (opens b) (pieces_in ss vs) → new ≡ out ++ (closes b ∷ []) → new ≡ old ++ row_text b hollow (pieces_in ss vs)
row_written b x hollow old out new ss left vs behind h some none o p =
    let all : out ≡ old ++ pieces_text (opens b) (pieces_in ss vs) = sym (append-nil out) ∙ ap (λ ps. out ++ pieces_text x ps) (sym (no_pieces left behind (ap length none))) ∙ o in
    p ∙ ap (λ y. y ++ (closes b ∷ [])) all
    ∙ append_assoc old (pieces_text (opens b) (pieces_in ss vs)) (closes b ∷ []) ∙ ap (λ y. old ++ y) (some_row b hollow (pieces_in ss vs) (omega (arith, some, pieces_are ss vs h)))
  where
    some_row : (b : Bool) (hollow : List ℕ) (ps : List Piece) → 0 < length ps → pieces_text (opens b) ps ++ (closes b ∷ []) ≡ row_text b hollow ps
    some_row b hollow [] l = absurd (omega (arith, l))
    some_row b hollow (p ∷ ps) l = refl
