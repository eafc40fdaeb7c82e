-- A text is opened: its parts, one after another.
use Rattle.std.proofs.Common.{◌≡◌, ◌≢◌, Box, Global, inl, ℕ, ◌<◌, ◌≤◌, Bool, true, false, List, [], ◌∷◌, ◌++◌, length, drop, Some, None, refl, sym, ap, ap₂, ◌∙◌, subst, arith, append_assoc, append-nil}
use Rattle.std.specs.Prelude.{IfSome, MatchOption}
use Rattle.std.specs.Str.{IsUtf8, IsCharBoundary}
use Rattle.std.proofs.lemmas.List.{get_or_default}
use Rattle.std.proofs.lemmas.Str.{IsCharBoundary-after_ascii}
use Rattle.json.specs.Json.{Json, null, boolean, number, string, array, object, Items, no_items, item, Members, no_members, member}
use Rattle.json.specs.Lex.{between, lex, operator_lexeme}
use Rattle.json.specs.Word.{is_operator, is_space}
use Rattle.json_text.specs.Cuts.{AllSuit, ClosesAt, CutsFirst, GoesOn, IsBehindMark, IsWhitespace, Piece, closes, opens, piece_of, piece_text, pieces_text, row_text}
use Rattle.json_text.specs.Listing.{IsTextOf, shape_of}
use Rattle.json_lexemes.specs.Places.{left_at, mode_at}
use Rattle.json_text.specs.Rows.{Child, elements_in, inside, members_in, opening, tree_in}
use Rattle.json_text.specs.declared.listing.Shape.{Shape}
use Rattle.json_text.specs.declared.listing.Shape.TheVariants.{Object, Array, String as StringShape, Atom}
use Rattle.json_text.specs.declared.cuts.Cut.{Cut}
use Rattle.json_text.proofs.Whitespace.{lexemes_behind}
use Rattle.json_lexemes.proofs.FirstBytes.{operator_by_kind}
use Rattle.json_text.proofs.Rows.Trees.{spelled_in}
use Rattle.json_lexemes.proofs.Steps.{drop_step, operator_end, operator_left}
use Rattle.long_vec.specs.Items.{items_of}
use Rattle.json_pieces.specs.Nodes.{IsRow, IsRowOf, IsSound, piece_with, row_view, text_bytes, tree_of, tree_text, view}
use Rattle.json_pieces.specs.declared.node.Node.{Node}
use Rattle.json_pieces.specs.declared.node.Node.TheVariants.{Closed, Open}
use Rattle.json_pieces.specs.declared.text.Text.{Text}
use Rattle.json_pieces.specs.declared.node.Row.{Row}
use Rattle.json_pieces.specs.declared.seams.Seam.{Seam}
use Rattle.json_pieces.proofs.Levels.{closed_text, held_open, row_tree, view_closed}
use Rattle.json_pieces.proofs.Lists.{AreSoundIn, pieces_in}

-- ---- the bracket

opening_is : (b : Bool) → opening b ≡ operator_lexeme (opens b)
opening_is true = refl
opening_is false = refl

opens_operator : (b : Bool) → is_operator (opens b) ≡ true
opens_operator true = refl
opens_operator false = refl

opens_ascii : (b : Bool) → opens b < 128
opens_ascii true = omega arith
opens_ascii false = omega arith

pub record Opens (t : List ℕ) (b : Bool) (cs : List Child) : Type 0 where
  pub some : 1 ≤ length t
  pub is : t ≡ opens b ∷ drop 1 t
  pub left : left_at t 1 ≡ inside b cs
  pub begins : mode_at t 1 ≡ between
  pub boundary : IsUtf8 t → IsCharBoundary t 1

pub opens_with : (t : List ℕ) (b : Bool) (cs : List Child) → IsTextOf t (tree_in b cs) → Opens t b cs
unfolding lexemes_behind
opens_with t b cs h =
    let left : left_at t 0 ≡ operator_lexeme (opens b) ∷ inside b cs = h.0 ∙ spelled_in b cs ∙ ap (λ l. l ∷ inside b cs) (opening_is b) in
    let at = operator_by_kind t 0 (opens b) (inside b cs) (λ n. ap is_space (get_or_default t 0 0 32 n) ∙ h.1.0) (opens_operator b) left in
    record {
      some = omega (arith, at.0);
      is = drop_step t 0 at.0 ∙ ap (λ x. x ∷ drop 1 t) at.1;
      left = ap lexemes_behind (sym (operator_left t 0 (opens b) at.0 at.1 (opens_operator b)) ∙ left);
      begins = operator_end t 0 at.0 (ap is_operator at.1 ∙ opens_operator b) (inl refl);
      boundary = λ u. IsCharBoundary-after_ascii t 0 u at.0 (subst (λ x. x < 128) (sym at.1) (opens_ascii b));
    }

-- ---- one more at the end

pub after_mark : ℕ → List Piece → ℕ
after_mark x [] = x
after_mark x (p ∷ ps) = 44

one_behind : (x : ℕ) (ps : List Piece) (p : Piece) → pieces_text x (ps ++ (p ∷ [])) ≡ pieces_text x ps ++ (after_mark x ps ∷ piece_text p)
unfolding after_mark
one_behind x [] p = ap (λ l. x ∷ l) (append-nil (piece_text p))
one_behind x (q ∷ []) p = ap (λ l. x ∷ (piece_text q ++ l)) (one_behind 44 [] p) ∙ ap (λ l. x ∷ l) (sym (ap (λ l. l ++ (44 ∷ piece_text p)) (append-nil (piece_text q))))
one_behind x (q ∷ r ∷ ps) p = ap (λ l. x ∷ (piece_text q ++ l)) (one_behind 44 (r ∷ ps) p) ∙ ap (λ l. x ∷ l) (sym (append_assoc (piece_text q) (pieces_text 44 (r ∷ ps)) (44 ∷ piece_text p)))

some_mark : (x : ℕ) (ps : List Piece) (p : Piece) → after_mark x (ps ++ (p ∷ [])) ≡ 44
unfolding after_mark
some_mark x [] p = refl
some_mark x (q ∷ ps) p = refl

some_row : (b : Bool) (hollow : List ℕ) (ps : List Piece) (p : Piece) → row_text b hollow (ps ++ (p ∷ [])) ≡ pieces_text (opens b) (ps ++ (p ∷ [])) ++ (closes b ∷ [])
some_row b hollow [] p = refl
some_row b hollow (q ∷ ps) p = refl

-- the parts so far, and those that are left from a place on
pub record SoFar (t : List ℕ) (b : Bool) (cs : List Child) (ps : List Piece) (from : ℕ) : Type 0 where
  pub whole : t ≡ pieces_text (opens b) ps ++ (after_mark (opens b) ps ∷ drop from t)
  pub more : List Child
  pub left : left_at t from ≡ inside b more
  pub begins : mode_at t from ≡ between
  pub suit : (es : List Piece) → AllSuit b more es → AllSuit b cs (ps ++ es)
  pub later : (ps ≢ []) → more ≢ []

pub none_yet : (t : List ℕ) (b : Bool) (cs : List Child) → Opens t b cs → SoFar t b cs [] 1
unfolding after_mark
none_yet t b cs o = record { whole = o.is; more = cs; left = o.left; begins = o.begins; suit = λ es h. h; later = λ n. absurd (n refl) }

module _ (t : List ℕ) (b : Bool) (cs : List Child) (ps : List Piece) (from : ℕ) (c : Cut) (s : SoFar t b cs ps from) (f : CutsFirst t b s.more from c) where
  suits_more : (es : List Piece) → AllSuit b f.more es → AllSuit b cs ((ps ++ (piece_of c ∷ [])) ++ es)
  suits_more es h = subst (AllSuit b cs) (sym (append_assoc ps (piece_of c ∷ []) es)) (s.suit (piece_of c ∷ es) (subst (λ ds. AllSuit b ds (piece_of c ∷ es)) (sym f.is) (f.suits, h)))

  grown : (rest : List ℕ) → drop from t ≡ piece_text (piece_of c) ++ rest → t ≡ pieces_text (opens b) (ps ++ (piece_of c ∷ [])) ++ rest
  grown rest e =
      s.whole ∙ ap (λ l. pieces_text (opens b) ps ++ (after_mark (opens b) ps ∷ l)) e ∙ sym (append_assoc (pieces_text (opens b) ps) (after_mark (opens b) ps ∷ piece_text (piece_of c)) rest)
      ∙ ap (λ l. l ++ rest) (sym (one_behind (opens b) ps (piece_of c)))

pub goes_on : (t : List ℕ) (b : Bool) (cs : List Child) (ps : List Piece) (from g : ℕ) (c : Cut) → (s : SoFar t b cs ps from) → (f : CutsFirst t b s.more from c) → c.next ≡ Some g → SoFar t b cs (ps ++ (piece_of c ∷ [])) g
goes_on t b cs ps from g c s f e =
    let n = subst (λ o. MatchOption o ((f.more ≡ []) × (drop from t ≡ piece_text (piece_of c) ++ (closes b ∷ []))) (λ g. (drop from t ≡ piece_text (piece_of c) ++ (44 ∷ drop g t)) × (left_at t g ≡ inside b f.more) × (mode_at t g ≡ between) × (f.more ≢ []))) e f.next in
    record {
      whole = grown t b cs ps from c s f (44 ∷ drop g t) n.0 ∙ ap (λ m. pieces_text (opens b) (ps ++ (piece_of c ∷ [])) ++ (m ∷ drop g t)) (sym (some_mark (opens b) ps (piece_of c)));
      more = f.more;
      left = n.1;
      begins = n.2;
      suit = suits_more t b cs ps from c s f;
      later = λ _. n.3;
    }

-- the whole text in parts
pub record InParts (t : List ℕ) (b : Bool) (cs : List Child) (hollow : List ℕ) (ps : List Piece) : Type 0 where
  pub is : row_text b hollow ps ≡ t
  pub suit : AllSuit b cs ps
  pub whitespace : IsWhitespace hollow

pub ends : (t : List ℕ) (b : Bool) (cs : List Child) (hollow : List ℕ) (ps : List Piece) (from : ℕ) (c : Cut) → (s : SoFar t b cs ps from) → (f : CutsFirst t b s.more from c) → c.next ≡ None → IsWhitespace hollow → InParts t b cs hollow (ps ++ (piece_of c ∷ []))
ends t b cs hollow ps from c s f e whitespace =
    let n = subst (λ o. MatchOption o ((f.more ≡ []) × (drop from t ≡ piece_text (piece_of c) ++ (closes b ∷ []))) (λ g. (drop from t ≡ piece_text (piece_of c) ++ (44 ∷ drop g t)) × (left_at t g ≡ inside b f.more) × (mode_at t g ≡ between) × (f.more ≢ []))) e f.next in
    record {
      is = some_row b hollow ps (piece_of c) ∙ sym (grown t b cs ps from c s f (closes b ∷ []) n.1);
      suit = subst (AllSuit b cs) (append-nil (ps ++ (piece_of c ∷ []))) (suits_more t b cs ps from c s f [] (subst (λ ds. AllSuit b ds []) (sym n.0) tt));
      whitespace = whitespace;
    }

-- only before the first no other comes
pub none_there : (t : List ℕ) (b : Bool) (cs : List Child) (hollow : List ℕ) (ps : List Piece) (from : ℕ) → (s : SoFar t b cs ps from) → s.more ≡ [] → ClosesAt t b from hollow → InParts t b cs hollow ps
unfolding after_mark
none_there t b cs hollow [] from s e h = record {
  is = sym (s.whole ∙ ap (λ l. opens b ∷ l) h.0);
  suit = s.suit [] (subst (λ ds. AllSuit b ds []) (sym e) tt);
  whitespace = h.1;
}
none_there t b cs hollow (p ∷ ps) from s e h = absurd (s.later (λ n. absurd (omega (arith, ap length n))) e)

-- ---- the seams and the values

pub push_pieces : (ss : List Seam) (vs : List Node) (s : Seam) (v : Node) → AreSoundIn ss vs → pieces_in (ss ++ (s ∷ [])) (vs ++ (v ∷ [])) ≡ pieces_in ss vs ++ (piece_with s (tree_text (view v)) ∷ [])
push_pieces [] [] s v h = refl
push_pieces [] (w ∷ vs) s v h = absurd h
push_pieces (t ∷ ss) [] s v h = absurd h
push_pieces (t ∷ ss) (w ∷ vs) s v h = ap (λ l. piece_with t (tree_text (view w)) ∷ l) (push_pieces ss vs s v h.1)

pub push_sound : (ss : List Seam) (vs : List Node) (s : Seam) (v : Node) → AreSoundIn ss vs → IsSound (view v) → AreSoundIn (ss ++ (s ∷ [])) (vs ++ (v ∷ []))
push_sound [] [] s v h k = (k, tt)
push_sound [] (w ∷ vs) s v h k = absurd h
push_sound (t ∷ ss) [] s v h k = absurd h
push_sound (t ∷ ss) (w ∷ vs) s v h k = (h.0, push_sound ss vs s v h.1 k)

pub row_of_parts : (t : List ℕ) (b : Bool) (cs : List Child) (hollow : List ℕ) (n : ℕ) (ss : List Seam) (vs : List Node) → InParts t b cs hollow (pieces_in ss vs) → AreSoundIn ss vs → n ≡ length t → (IsRow b n hollow (pieces_in ss vs) × AreSoundIn ss vs) × (row_text b hollow (pieces_in ss vs) ≡ t)
row_of_parts t b cs hollow n ss vs p h e = ((record { cs = cs; suit = p.suit; whitespace = p.whitespace; size = e ∙ ap length (sym p.is) }, h), p.is)

pub empty_whitespace : IsWhitespace []
unfolding lex
empty_whitespace = (refl, refl)

pub starts : (ss : List Seam) (vs : List Node) → ss ≡ [] → vs ≡ [] → AreSoundIn ss vs × (pieces_in ss vs ≡ [])
starts [] [] e f = (tt, refl)
starts [] (v ∷ vs) e f = absurd (omega (arith, ap length f))
starts (s ∷ ss) vs e f = absurd (omega (arith, ap length e))

pub pushed : (ss new_seams : List Seam) (vs new_values : List Node) (s : Seam) (v : Node) (c : Cut) → new_seams ≡ ss ++ (s ∷ []) → new_values ≡ vs ++ (v ∷ []) → AreSoundIn ss vs → IsSound (view v) → tree_text (view v) ≡ c.value.now → piece_with s c.value.now ≡ piece_of c
    → AreSoundIn new_seams new_values × (pieces_in new_seams new_values ≡ pieces_in ss vs ++ (piece_of c ∷ []))
pushed ss new_seams vs new_values s v c e f h value seen is =
    let sound : AreSoundIn (ss ++ (s ∷ [])) (vs ++ (v ∷ [])) = push_sound ss vs s v h value in (
      subst (λ x. AreSoundIn x new_values) (sym e) (subst (λ x. AreSoundIn (ss ++ (s ∷ [])) x) (sym f) sound),
      ap₂ pieces_in e f ∙ push_pieces ss vs s v h ∙ ap (λ x. pieces_in ss vs ++ (piece_with s x ∷ [])) seen ∙ ap (λ x. pieces_in ss vs ++ (x ∷ [])) is,
    )

pub behind_mark : (t : List ℕ) (b : Bool) (cs : List Child) (ps : List Piece) (from : ℕ) → IsTextOf t (tree_in b cs) → (s : SoFar t b cs ps from) → IsBehindMark t b s.more from
behind_mark t b cs ps from h s = ((tree_in b cs, h.0), h.1, s.left, s.begins)

-- the row that is handed out
pub row_made : (t : List ℕ) (b : Bool) (cs : List Child) (hollow : List ℕ) (ss : List Seam) (vs : List Node) (r : Row) → InParts t b cs hollow (pieces_in ss vs) → AreSoundIn ss vs → r.named ≡ b → r.length ≡ length t → text_bytes r.hollow ≡ hollow → (items_of r.seams.all) ≡ ss → (items_of r.values) ≡ vs → IsRowOf t r
row_made t b cs hollow ss vs r p h named size whitespace seams values =
    let parts : pieces_in (items_of r.seams.all) (items_of r.values) ≡ pieces_in ss vs = ap₂ pieces_in seams values in
    let sound : AreSoundIn (items_of r.seams.all) (items_of r.values) = subst (λ x. AreSoundIn x (items_of r.values)) (sym seams) (subst (λ x. AreSoundIn ss x) (sym values) h) in
    let here : InParts t r.named cs (text_bytes r.hollow) (pieces_in (items_of r.seams.all) (items_of r.values)) =
    subst (λ x. InParts t x cs (text_bytes r.hollow) (pieces_in (items_of r.seams.all) (items_of r.values))) (sym named) (subst (λ x. InParts t b cs x (pieces_in (items_of r.seams.all) (items_of r.values))) (sym whitespace) (subst (InParts t b cs hollow) (sym parts) p)) in
    row_of_parts t r.named cs (text_bytes r.hollow) r.length (items_of r.seams.all) (items_of r.values) here sound size

-- ---- from cut to cut, however the parts are kept

-- these parts are all that stands before from
pub record AreCut (t : List ℕ) (b : Bool) (ss : List Seam) (vs : List Node) (from : ℕ) : Type 0 where
  pub low : from ≤ length t
  pub boundary : IsCharBoundary t from
  pub sound : AreSoundIn ss vs
  pub so_far : (cs : List Child) → IsTextOf t (tree_in b cs) → SoFar t b cs (pieces_in ss vs) from

pub cut_first : (t : List ℕ) (b : Bool) (ss : List Seam) (vs : List Node) → IsUtf8 t → (cs : List Child) × IsTextOf t (tree_in b cs) → ss ≡ [] → vs ≡ [] → AreCut t b ss vs 1
cut_first t b ss vs u (cs, h) e f =
    let o = opens_with t b cs h in
    let none = starts ss vs e f in
    record {
      low = o.some;
      boundary = o.boundary u;
      sound = none.0;
      so_far = λ ds k. subst (λ ps. SoFar t b ds ps 1) (sym none.1) (none_yet t b ds (opens_with t b ds k));
    }

-- the part of a cut comes behind the others
pub record IsPushed (ss new_seams : List Seam) (vs new_values : List Node) (s : Seam) (v : Node) (c : Cut) : Type 0 where
  pub seams : new_seams ≡ ss ++ (s ∷ [])
  pub values : new_values ≡ vs ++ (v ∷ [])
  pub sound : IsSound (view v)
  pub seen : tree_text (view v) ≡ c.value.now
  pub is : piece_with s c.value.now ≡ piece_of c

module _ (t : List ℕ) (b : Bool) (ss new_seams : List Seam) (vs new_values : List Node) (from : ℕ) (s : Seam) (v : Node) (c : Cut) (a : AreCut t b ss vs from) (first : (cs : List Child) → IsBehindMark t b cs from → CutsFirst t b cs from c) (p : IsPushed ss new_seams vs new_values s v c) where
  one_more : AreSoundIn new_seams new_values × (pieces_in new_seams new_values ≡ pieces_in ss vs ++ (piece_of c ∷ []))
  one_more = pushed ss new_seams vs new_values s v c p.seams p.values a.sound p.sound p.seen p.is

  pub cut_next : (g : ℕ) → GoesOn t from c → c.next ≡ Some g → AreCut t b new_seams new_values g
  cut_next g goes e =
      let next = subst (λ o. IfSome o (λ g. (from < g) × (g ≤ length t) × IsCharBoundary t g)) e goes in
      record {
        low = next.1;
        boundary = next.2;
        sound = one_more.0;
        so_far = λ cs h.
            let before = a.so_far cs h in
            subst (λ ps. SoFar t b cs ps g) (sym one_more.1) (goes_on t b cs _ from g c before (first before.more (behind_mark t b cs _ from h before)) e);
      }

  pub cut_last : (r : Row) → (cs : List Child) × IsTextOf t (tree_in b cs) → c.next ≡ None → r.named ≡ b → r.length ≡ length t → text_bytes r.hollow ≡ [] → items_of r.seams.all ≡ new_seams → items_of r.values ≡ new_values → IsRowOf t r
  cut_last r (cs, h) e named size hollow seams values =
      let before = a.so_far cs h in
      let parts = ends t b cs [] _ from c before (first before.more (behind_mark t b cs _ from h before)) e empty_whitespace in
      row_made t b cs [] new_seams new_values r (subst (InParts t b cs []) (sym one_more.1) parts) one_more.0 named size hollow seams values

pub cut_none : (t : List ℕ) (b : Bool) (ss : List Seam) (vs : List Node) (from : ℕ) (hollow : List ℕ) (r : Row) → AreCut t b ss vs from → (cs : List Child) × IsTextOf t (tree_in b cs) → ((cs : List Child) → IsBehindMark t b cs from → cs ≡ []) → ((b : Bool) → IsBehindMark t b [] from → ClosesAt t b from hollow)
    → r.named ≡ b → r.length ≡ length t → text_bytes r.hollow ≡ hollow → items_of r.seams.all ≡ ss → items_of r.values ≡ vs → IsRowOf t r
cut_none t b ss vs from hollow r a (cs, h) none closes_at named size whitespace seams values =
    let before = a.so_far cs h in
    let behind = behind_mark t b cs _ from h before in
    let is = none before.more behind in
    row_made t b cs hollow ss vs r (none_there t b cs hollow _ from before is (closes_at b (subst (λ m. IsBehindMark t b m from) is behind))) a.sound named size whitespace seams values

-- ---- what is opened

members_children : Members → List Child
members_children no_members = []
members_children (member k j ms) = (k, j) ∷ members_children ms

members_back : (ms : Members) → members_in (members_children ms) ≡ ms
unfolding members_children
members_back no_members = refl
members_back (member k j ms) = ap (member k j) (members_back ms)

elements_children : Items → List Child
elements_children no_items = []
elements_children (item j js) = ([], j) ∷ elements_children js

elements_back : (js : Items) → elements_in (elements_children js) ≡ js
unfolding elements_children
elements_back no_items = refl
elements_back (item j js) = ap (item j) (elements_back js)

shape_number : Shape → ℕ
shape_number Object = 0
shape_number Array = 1
shape_number StringShape = 2
shape_number Atom = 3

pub as_object : (j : Json) (s : Shape) → s ≡ shape_of j → s ≡ Object → (cs : List Child) × (j ≡ tree_in true cs)
unfolding shape_number
as_object null s e f = let never : 3 ≡ 0 = ap shape_number (sym e ∙ f) in absurd (omega (arith, never))
as_object (boolean b) s e f = let never : 3 ≡ 0 = ap shape_number (sym e ∙ f) in absurd (omega (arith, never))
as_object (number n) s e f = let never : 3 ≡ 0 = ap shape_number (sym e ∙ f) in absurd (omega (arith, never))
as_object (string k) s e f = let never : 2 ≡ 0 = ap shape_number (sym e ∙ f) in absurd (omega (arith, never))
as_object (array js) s e f = let never : 1 ≡ 0 = ap shape_number (sym e ∙ f) in absurd (omega (arith, never))
as_object (object ms) s e f = (members_children ms, ap object (sym (members_back ms)))

pub as_array : (j : Json) (s : Shape) → s ≡ shape_of j → s ≡ Array → (cs : List Child) × (j ≡ tree_in false cs)
unfolding shape_number
as_array null s e f = let never : 3 ≡ 1 = ap shape_number (sym e ∙ f) in absurd (omega (arith, never))
as_array (boolean b) s e f = let never : 3 ≡ 1 = ap shape_number (sym e ∙ f) in absurd (omega (arith, never))
as_array (number n) s e f = let never : 3 ≡ 1 = ap shape_number (sym e ∙ f) in absurd (omega (arith, never))
as_array (string k) s e f = let never : 2 ≡ 1 = ap shape_number (sym e ∙ f) in absurd (omega (arith, never))
as_array (object ms) s e f = let never : 0 ≡ 1 = ap shape_number (sym e ∙ f) in absurd (omega (arith, never))
as_array (array js) s e f = (elements_children js, ap array (sym (elements_back js)))

pub row_text_of : (t : List ℕ) (b : Bool) (j : Json) → IsTextOf t j → (cs : List Child) × (j ≡ tree_in b cs) → (cs : List Child) × IsTextOf t (tree_in b cs)
row_text_of t b j h (cs, e) = (cs, subst (IsTextOf t) e h)

-- a value that stays closed
pub closed_value : (s : Text) (text : List ℕ) → text_bytes s ≡ text → IsSound (view (Closed s)) × (tree_text (view (Closed s)) ≡ text)
closed_value s text e = (subst IsSound (sym (view_closed s)) tt, closed_text s ∙ e)

-- and one that is opened
pub opened_value : (b : Box Row Global) (r : Row) (text : List ℕ) → b.value ≡ r → IsRowOf text r → IsSound (view (Open b)) × (tree_text (view (Open b)) ≡ text)
opened_value b r text e h =
    let tree : view (Open b) ≡ row_view r = ap tree_of (held_open b) ∙ row_tree b.value ∙ ap row_view e in
    (subst IsSound (sym tree) h.0, ap tree_text tree ∙ h.1)

-- the text of the first that is cut
pub cut_text : (t : List ℕ) (b : Bool) (from : ℕ) (c : Cut) (ss : List Seam) (vs : List Node) → AreCut t b ss vs from → (cs : List Child) × IsTextOf t (tree_in b cs) → ((cs : List Child) → IsBehindMark t b cs from → CutsFirst t b cs from c) → (j : Json) × IsTextOf c.value.now j
cut_text t b from c ss vs a (cs, h) first =
    let before = a.so_far cs h in
    let f = first before.more (behind_mark t b cs _ from h before) in
    (f.child.1, f.suits.value)
