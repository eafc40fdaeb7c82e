-- What is made of a row's text, whatever tree it says.
use Rattle.std.proofs.Common.{◌≡◌, ℕ, ◌<◌, Bool, true, false, List, [], ◌∷◌, ◌++◌, length, take, drop, Some, None, sym, ap, ◌∙◌, subst}
use Rattle.json.specs.Json.{Json}
use Rattle.json_text.specs.Added.{IsPutInto}
use Rattle.json_text.specs.Changed.{slot_in}
use Rattle.json_text.specs.Cuts.{AllSuit, IsWhitespace, Piece, row_text}
use Rattle.json_text.specs.Less.{IsNumberOf, IsObject, IsWithout}
use Rattle.json_text.specs.Listing.{IsTextOf}
use Rattle.json_text.specs.Pointed.{child}
use Rattle.json_text.specs.Rows.{Child, tree_in}
use Rattle.json_lexemes.specs.Spelled.{Says}
use Rattle.json_lexemes.proofs.Nests.{one_tree}
use Rattle.json.specs.Print.{quoted}
use Rattle.json_pieces.specs.PieceLists.{element_pushed, element_put, member_pushed, taken, with_value}
use Rattle.json_pieces.proofs.Rows.Before.{element_before_into, element_before_suits}
use Rattle.json_pieces.proofs.Rows.Parts.{child_there, suits_length}
use Rattle.json_pieces.proofs.Rows.Put.{element_behind_suits, element_put_into, member_put_into, member_suits}
use Rattle.json_pieces.proofs.Rows.Says.{row_says}
use Rattle.json_pieces.proofs.Rows.Stands.{exchanged_suits}
use Rattle.json_pieces.proofs.Rows.Taken.{IsLessRow, all_taken, first_taken, next_taken, one_taken, taken_suits}

-- ---- the pieces of some children

-- the pieces are still those of some children
abbrev pub AreOfSome : Bool → List Piece → Type 0
AreOfSome b ps = (cs : List Child) × AllSuit b cs ps

pub value_of_some : (b : Bool) (ps : List Piece) (n : ℕ) (s : List ℕ) (w : Json) → AreOfSome b ps → n < length ps → IsTextOf s w → AreOfSome b (with_value n s ps)
value_of_some b ps n s w (cs, h) l e = let r = child_there b cs ps n h l in (take n cs ++ ((r.child.0, w) ∷ r.more), exchanged_suits b cs ps n r.child r.more s w h r.is e)

pub taken_of_some : (b : Bool) (ps : List Piece) (n : ℕ) → AreOfSome b ps → n < length ps → AreOfSome b (taken n ps)
taken_of_some b ps n (cs, h) l = let r = child_there b cs ps n h l in (take n cs ++ r.more, taken_suits b cs ps n r.child r.more h r.is)

pub member_of_some : (hollow k s : List ℕ) (w : Json) (ps : List Piece) → AreOfSome true ps → IsWhitespace hollow → IsTextOf s w → AreOfSome true (member_pushed hollow (quoted k) s ps)
member_of_some hollow k s w ps (cs, h) e f = (cs ++ ((k, w) ∷ []), member_suits hollow k s w cs ps h e f)

pub element_of_some : (hollow s : List ℕ) (w : Json) (ps : List Piece) → AreOfSome false ps → IsWhitespace hollow → IsTextOf s w → AreOfSome false (element_pushed hollow s ps)
element_of_some hollow s w ps (cs, h) e f = (cs ++ (([], w) ∷ []), element_behind_suits hollow s w cs ps h e f)

pub put_of_some : (s : List ℕ) (w : Json) (ps : List Piece) (n : ℕ) → AreOfSome false ps → n < length ps → IsTextOf s w → AreOfSome false (element_put n s ps)
put_of_some s w ps n (cs, h) l f = let r = child_there false cs ps n h l in (take n cs ++ (([], w) ∷ drop n cs), element_before_suits s w cs ps n r.child r.more h r.is f)

-- ---- taken out

pub first_less_row : (b : Bool) (hollow hollow2 : List ℕ) (cs : List Child) (ps : List Piece) (n : ℕ) (t : List ℕ) → AllSuit b cs ps → IsWhitespace hollow → IsNumberOf b cs t n → n < length ps → (taken n ps ≡ [] → hollow2 ≡ []) → IsWhitespace hollow2
    → (j : Json) → Says (row_text b hollow ps) j → IsLessRow (row_text b hollow ps) j t b hollow2 (taken n ps)
first_less_row b hollow hollow2 cs ps n t h e at l none whitespace j says =
    let r = child_there b cs ps n h l in
    subst (λ v. IsLessRow (row_text b hollow ps) v t b hollow2 (taken n ps)) (one_tree (row_text b hollow ps) (tree_in b cs) j (row_says b hollow cs ps h e) says) (first_taken b hollow hollow2 cs ps n r.child r.more t h e at r.is none whitespace)

pub next_less_row : (text : List ℕ) (v : Json) (t : List ℕ) (b : Bool) (hollow hollow2 : List ℕ) (ps : List Piece) (n : ℕ) → IsObject v → (r : IsLessRow text v t b hollow ps) → IsNumberOf b r.children t n → n < length ps → (taken n ps ≡ [] → hollow2 ≡ []) → IsWhitespace hollow2
    → IsLessRow text v t b hollow2 (taken n ps)
next_less_row text v t b hollow hollow2 ps n y r at l none whitespace = let c = child_there b r.children ps n r.suits l in next_taken text v t b hollow hollow2 ps n c.child c.more y r at c.is none whitespace

is_object : (cs : List Child) (j : Json) → tree_in true cs ≡ j → IsObject j
is_object cs j e = subst IsObject e tt

not_object : (cs : List Child) (j : Json) → tree_in false cs ≡ j → IsObject j → ⊥
not_object cs j e y = subst IsObject (sym e) y

pub row_object : (hollow : List ℕ) (cs : List Child) (ps : List Piece) → AllSuit true cs ps → IsWhitespace hollow → (j : Json) → Says (row_text true hollow ps) j → IsObject j
row_object hollow cs ps h e j says = is_object cs j (one_tree (row_text true hollow ps) (tree_in true cs) j (row_says true hollow cs ps h e) says)

pub row_no_object : (hollow : List ℕ) (cs : List Child) (ps : List Piece) → AllSuit false cs ps → IsWhitespace hollow → (j : Json) → Says (row_text false hollow ps) j → IsObject j → ⊥
row_no_object hollow cs ps h e j says = not_object cs j (one_tree (row_text false hollow ps) (tree_in false cs) j (row_says false hollow cs ps h e) says)

-- an element
pub element_gone : (hollow hollow2 : List ℕ) (cs : List Child) (ps : List Piece) (n : ℕ) (t : List ℕ) → AllSuit false cs ps → IsWhitespace hollow → IsNumberOf false cs t n → n < length ps → (taken n ps ≡ [] → hollow2 ≡ []) → IsWhitespace hollow2
    → (j : Json) → Says (row_text false hollow ps) j → IsWithout (row_text false hollow ps) j t (row_text false hollow2 (taken n ps))
element_gone hollow hollow2 cs ps n t h e at l none whitespace j says =
    one_taken (row_text false hollow ps) j t false hollow2 (taken n ps) (row_no_object hollow cs ps h e j says) (first_less_row false hollow hollow2 cs ps n t h e at l none whitespace j says)

-- all members of a name
pub members_gone : (text : List ℕ) (j : Json) (t hollow : List ℕ) (ps : List Piece) → IsObject j → (r : IsLessRow text j t true hollow ps) → child t (tree_in true r.children) ≡ None → IsWithout text j t (row_text true hollow ps)
members_gone text j t hollow ps y r none = all_taken text j t true hollow ps y r none

-- ---- put in

pub member_comes : (hollow hollow2 k put : List ℕ) (cs : List Child) (ps : List Piece) → AllSuit true cs ps → IsWhitespace hollow → child k (tree_in true cs) ≡ None → (j : Json) → Says (row_text true hollow ps) j → IsPutInto (row_text true hollow ps) j k put (row_text true hollow2 (member_pushed hollow (quoted k) put ps))
member_comes hollow hollow2 k put cs ps h e none j says =
    subst (λ v. IsPutInto (row_text true hollow ps) v k put (row_text true hollow2 (member_pushed hollow (quoted k) put ps))) (one_tree (row_text true hollow ps) (tree_in true cs) j (row_says true hollow cs ps h e) says) (member_put_into hollow hollow2 k put cs ps h e none)

pub element_comes_last : (hollow hollow2 k put : List ℕ) (cs : List Child) (ps : List Piece) (n : ℕ) → AllSuit false cs ps → IsWhitespace hollow → slot_in k (length ps) ≡ Some n → n ≡ length ps → (j : Json) → Says (row_text false hollow ps) j → IsPutInto (row_text false hollow ps) j k put (row_text false hollow2 (element_pushed hollow put ps))
element_comes_last hollow hollow2 k put cs ps n h e slot last j says =
    let count = suits_length false cs ps h in
    let there : slot_in k (length cs) ≡ Some (length cs) = ap (slot_in k) count ∙ slot ∙ ap Some (last ∙ sym count) in
    subst (λ v. IsPutInto (row_text false hollow ps) v k put (row_text false hollow2 (element_pushed hollow put ps))) (one_tree (row_text false hollow ps) (tree_in false cs) j (row_says false hollow cs ps h e) says) (element_put_into hollow hollow2 k put cs ps h e there)

pub element_comes_before : (hollow hollow2 k put : List ℕ) (cs : List Child) (ps : List Piece) (n : ℕ) → AllSuit false cs ps → IsWhitespace hollow → slot_in k (length ps) ≡ Some n → n < length ps → (j : Json) → Says (row_text false hollow ps) j → IsPutInto (row_text false hollow ps) j k put (row_text false hollow2 (element_put n put ps))
element_comes_before hollow hollow2 k put cs ps n h e slot l j says =
    let r = child_there false cs ps n h l in
    subst (λ v. IsPutInto (row_text false hollow ps) v k put (row_text false hollow2 (element_put n put ps))) (one_tree (row_text false hollow ps) (tree_in false cs) j (row_says false hollow cs ps h e) says)
    (element_before_into hollow hollow2 k put cs ps n r.child r.more h (ap (slot_in k) (suits_length false cs ps h) ∙ slot) r.is)
