-- All that a token names taken out of a row, step by step.
use Rattle.std.proofs.Common.{◌≡◌, ℕ, ◌<◌, Bool, true, false, List, [], ◌∷◌, ◌++◌, length, get_or, option_and_then, Some, None, Option, refl, sym, ap, subst, arith}
use Rattle.std.specs.Prelude.{MatchOption}
use Rattle.json.specs.Json.{Json}
use Rattle.json_text.specs.Cuts.{AllSuit, IsWhitespace, Piece, row_text}
use Rattle.json_text.specs.Less.{IsNumberOf, IsObject, IsWithout}
use Rattle.json_text.specs.Pointed.{child, tree_at, IsWrittenAt}
use Rattle.json_text.specs.Rows.{Child, tree_in}
use Rattle.json_lexemes.specs.Spelled.{Says}
use Rattle.json_lexemes.proofs.Nests.{one_tree}
use Rattle.json_text.proofs.Along.{put_step}
use Rattle.long_vec.specs.Items.{items_of}
use Rattle.json_pieces.specs.Edits.{TakesOut}
use Rattle.json_pieces.specs.Nodes.{IsRow, IsSound, row_pieces, row_view, text_bytes, tree_text, view}
use Rattle.json_pieces.specs.declared.node.Node.{Node}
use Rattle.json_pieces.specs.declared.node.Row.{Row}
use Rattle.json_pieces.specs.PieceLists.{taken}
use Rattle.json_pieces.proofs.Rows.Answers.{element_gone, first_less_row, members_gone, next_less_row, row_object}
use Rattle.json_pieces.proofs.Lists.{pieces_are, value_there}
use Rattle.json_pieces.proofs.Rows.Numbers.{Stands, stands, value_at}
use Rattle.json_pieces.proofs.Rows.Says.{row_says}
use Rattle.json_pieces.proofs.Rows.Taken.{IsLessRow}

-- t names the child of number n, whatever the children are
abbrev pub Names : Bool → List Piece → List ℕ → ℕ → Type 0
Names b ps t n = (cs : List Child) → AllSuit b cs ps → IsNumberOf b cs t n

abbrev pub NamesNone : Bool → List Piece → List ℕ → Type 0
NamesNone b ps t = (cs : List Child) → AllSuit b cs ps → child t (tree_in b cs) ≡ None

-- what number_of found
pub some_named : (b : Bool) (ps : List Piece) (t : List ℕ) (o : Option ℕ) (n : ℕ) → o ≡ Some n → ((cs : List Child) → AllSuit b cs ps → MatchOption o (child t (tree_in b cs) ≡ None) (IsNumberOf b cs t)) → Names b ps t n
some_named b ps t o n e f cs h = subst (λ x. MatchOption x (child t (tree_in b cs) ≡ None) (IsNumberOf b cs t)) e (f cs h)

pub none_named : (b : Bool) (ps : List Piece) (t : List ℕ) (o : Option ℕ) → o ≡ None → ((cs : List Child) → AllSuit b cs ps → MatchOption o (child t (tree_in b cs) ≡ None) (IsNumberOf b cs t)) → NamesNone b ps t
none_named b ps t o e f cs h = subst (λ x. MatchOption x (child t (tree_in b cs) ≡ None) (IsNumberOf b cs t)) e (f cs h)

pub nothing_taken : (b : Bool) (m : ℕ) (hollow : List ℕ) (ps : List Piece) (t : List ℕ) → IsRow b m hollow ps → NamesNone b ps t → (j : Json) → Says (row_text b hollow ps) j → TakesOut (row_text b hollow ps) j t (row_text b hollow ps) false
nothing_taken b m hollow ps t r none j says = (refl, subst (λ v. child t v ≡ None) (one_tree (row_text b hollow ps) (tree_in b r.cs) j (row_says b hollow r.cs ps r.suit r.whitespace) says) (none r.cs r.suit))

pub element_taken : (b d : Bool) (m k : ℕ) (hollow hollow2 : List ℕ) (ps qs : List Piece) (n : ℕ) (t : List ℕ) → d ≡ b → d ≡ false → IsRow b m hollow ps → IsRow d k hollow2 qs → qs ≡ taken n ps → (taken n ps ≡ [] → hollow2 ≡ []) → Names b ps t n → n < length ps
    → (j : Json) → Says (row_text b hollow ps) j → TakesOut (row_text b hollow ps) j t (row_text d hollow2 qs) true
element_taken true d m k hollow hollow2 ps qs n t e f r s is some names l = cc
element_taken false true m k hollow hollow2 ps qs n t e f r s is some names l = cc
element_taken false false m k hollow hollow2 ps qs n t e f r s is some names l = λ j says.
    subst (λ x. IsWithout (row_text false hollow ps) j t (row_text false hollow2 x)) (sym is) (element_gone hollow hollow2 r.cs ps n t r.suit r.whitespace (names r.cs r.suit) l some s.whitespace j says)

-- ---- members

-- the row d, hollow2, qs is the text of the row b, hollow, ps with some cut out
abbrev pub IsLessOf : Bool → List ℕ → List Piece → List ℕ → Bool → List ℕ → List Piece → Type 0
IsLessOf b hollow ps t d hollow2 qs = (j : Json) → Says (row_text b hollow ps) j → IsLessRow (row_text b hollow ps) j t d hollow2 qs

pub first_step : (b d : Bool) (m k : ℕ) (hollow hollow2 : List ℕ) (ps qs : List Piece) (n : ℕ) (t : List ℕ) → d ≡ b → IsRow b m hollow ps → IsRow d k hollow2 qs → qs ≡ taken n ps → (taken n ps ≡ [] → hollow2 ≡ []) → Names b ps t n → n < length ps
    → IsLessOf b hollow ps t d hollow2 qs
first_step b d m k hollow hollow2 ps qs n t e r s is some names l j says =
    subst (λ c. IsLessRow (row_text b hollow ps) j t c hollow2 qs) (sym e)
    (subst (λ x. IsLessRow (row_text b hollow ps) j t b hollow2 x) (sym is) (first_less_row b hollow hollow2 r.cs ps n t r.suit r.whitespace (names r.cs r.suit) l some s.whitespace j says))

pub next_step : (b d e : Bool) (m k i : ℕ) (hollow hollow2 hollow3 : List ℕ) (ps qs us : List Piece) (n : ℕ) (t : List ℕ) → b ≡ true → e ≡ d → IsRow b m hollow ps → IsLessOf b hollow ps t d hollow2 qs → IsRow d k hollow2 qs → IsRow e i hollow3 us → us ≡ taken n qs → (taken n qs ≡ [] → hollow3 ≡ [])
    → Names d qs t n → n < length qs → IsLessOf b hollow ps t e hollow3 us
next_step false d e m k i hollow hollow2 hollow3 ps qs us n t y z r less s u is some names l = cc
next_step true d e m k i hollow hollow2 hollow3 ps qs us n t y z r less s u is some names l = λ j says.
    let a = less j says in
    let object : IsObject j = row_object hollow r.cs ps r.suit r.whitespace j says in
    subst (λ c. IsLessRow (row_text true hollow ps) j t c hollow3 us) (sym z)
    (subst (λ x. IsLessRow (row_text true hollow ps) j t d hollow3 x) (sym is) (next_less_row (row_text true hollow ps) j t d hollow2 hollow3 qs n object a (names a.children a.suits) l some u.whitespace))

pub all_steps : (b d : Bool) (m : ℕ) (hollow hollow2 : List ℕ) (ps qs : List Piece) (t : List ℕ) → b ≡ true → d ≡ true → IsRow b m hollow ps → IsLessOf b hollow ps t d hollow2 qs → NamesNone d qs t → (j : Json) → Says (row_text b hollow ps) j → TakesOut (row_text b hollow ps) j t (row_text d hollow2 qs) true
all_steps false d m hollow hollow2 ps qs t y z r less none = cc
all_steps true false m hollow hollow2 ps qs t y z r less none = cc
all_steps true true m hollow hollow2 ps qs t y z r less none = λ j says.
    let a = less j says in
    members_gone (row_text true hollow ps) j t hollow2 qs (row_object hollow r.cs ps r.suit r.whitespace j says) a (none a.children a.suits)

-- ---- the value

part_written : (b : Bool) (hollow t : List ℕ) (n : ℕ) (cs : List Child) (ps : List Piece) → AllSuit b cs ps → IsWhitespace hollow → n < length ps → IsNumberOf b cs t n → (j : Json) → Says (row_text b hollow ps) j → IsWrittenAt (row_text b hollow ps) j (t ∷ []) (value_at n ps)
part_written b hollow t n cs ps h k l number j says =
    let s : Stands b t n cs ps = stands b t n cs ps h l number in
    subst (λ i. IsWrittenAt (row_text b hollow ps) i (t ∷ []) (value_at n ps)) (one_tree (row_text b hollow ps) (tree_in b cs) j (row_says b hollow cs ps h k) says) (
      s.split.before,
      s.split.behind,
      s.split.whole hollow,
      (
        s.child_tree,
        ap (option_and_then (tree_at [])) s.is,
        record {
          says = s.stretch.says;
          tight = s.stretch.tight;
          alone = λ new w e. subst (Says (s.split.before ++ (new ++ s.split.behind))) (sym (put_step t [] w (tree_in b cs) s.child_tree s.is)) (s.stretch.alone new w e);
        },
      ),
    )

-- that of the number that t names is written where t leads
pub value_written : (r : Row) (n : ℕ) (t : List ℕ) (v : Node) → IsSound (row_view r) → Names r.named (row_pieces r) t n → n < length (items_of r.values) → v ≡ get_or (items_of r.values) n v → (j : Json) → Says (tree_text (row_view r)) j → IsWrittenAt (tree_text (row_view r)) j (t ∷ []) (tree_text (view v))
value_written r n t v h names l e j says =
    subst (IsWrittenAt (tree_text (row_view r)) j (t ∷ [])) (value_there (items_of r.seams.all) (items_of r.values) n v h.1 l e)
    (part_written r.named (text_bytes r.hollow) t n h.0.cs (row_pieces r) h.0.suit h.0.whitespace (omega (arith, l, pieces_are (items_of r.seams.all) (items_of r.values) h.1)) (names h.0.cs h.0.suit) j says)
