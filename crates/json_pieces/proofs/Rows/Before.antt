-- A row with an element more before one of its elements.
use Rattle.std.proofs.Common.{◌≡◌, inl, inr, ℕ, zero, suc, Bool, true, false, List, [], ◌∷◌, ◌++◌, length, take, drop, Some, refl, sym, ap, ◌∙◌, subst, arith, append_assoc, append-nil, length-append}
use Rattle.json.specs.Json.{Json}
use Rattle.json.specs.Lex.{comma, token, between, lex}
use Rattle.json.specs.Token as tokens
use Rattle.json_text.specs.Added.{HasOne, HasSecond, IsBeforeElement, IsPutInto, IsStyled}
use Rattle.json_text.specs.Changed.{slot_in}
use Rattle.json_text.specs.Cuts.{AllSuit, IsWhitespace, Piece, Suits, piece_text, pieces_text, row_text}
use Rattle.json_text.specs.Listing.{IsTextOf}
use Rattle.json_text.specs.Removed.{IsTightFront}
use Rattle.json_text.specs.Rows.{Child, tree_in}
use Rattle.json_text.specs.Styled.{whitespace_like}
use Rattle.json_lexemes.specs.Spelled.{spelled, Says}
use Rattle.json_lexemes.proofs.Counted.{some_lexeme}
use Rattle.json_text.proofs.Rows.Grows.{new_element}
use Rattle.json_text.proofs.Rows.Leads.{comma_lead, leads, no_lead}
use Rattle.json_text.proofs.Rows.Styles.{by_whitespace}
use Rattle.json_lexemes.proofs.Steps.{follows}
use Rattle.json_pieces.specs.PieceLists.{element_between, element_put, element_put_by, led, neighbour_whitespace}
use Rattle.json_pieces.proofs.Rows.Parts.{hold_append, joined, no_cons, part_of, rest_text, row_split, suit_append, up_to}
use Rattle.json_pieces.proofs.Rows.Says.{AllHold, Holds, all_hold, comma_lex, holds, more_lexes, opens_lex, others_to, piece_lexes, row_holds, tight_end, tight_front, whitespace_lead}
use Rattle.json_pieces.proofs.Rows.Stands.{whitespace_nil}
use Rattle.json_pieces.proofs.Rows.Taken.{label_front, last_behind, lead_lex}
use Rattle.json_pieces.proofs.Rows.Put.{bare_element, element_suits, mark_end}

-- ---- the text

-- what begins with the element p
abbrev from_element : Piece → List Piece → List ℕ
from_element p post = p.name ++ (p.colons ++ (p.value ++ (p.trail ++ rest_text false post)))

old_text : (hollow : List ℕ) (pre : List Piece) (p : Piece) (post : List Piece) → row_text false hollow (pre ++ (p ∷ post)) ≡ (up_to 91 pre ++ p.whitespace) ++ from_element p post
old_text hollow pre p post = row_split false hollow pre p post ∙ simp append_assoc

new_text : (hollow like s : List ℕ) (pre : List Piece) (p : Piece) (post : List Piece) → row_text false hollow (pre ++ (element_between p.whitespace s [] ∷ led like p ∷ post)) ≡ (up_to 91 pre ++ p.whitespace) ++ ([] ++ (s ++ ((44 ∷ like) ++ from_element p post)))
new_text hollow like s pre p post = row_split false hollow pre (element_between p.whitespace s []) (led like p ∷ post) ∙ simp (append_assoc, append-nil)

-- ---- the style

-- behind an element the bracket is not the last lexeme
some_front : (cs : List Child) (c : Child) (o : Piece) (pre : List Piece) (whitespace : List ℕ) → Holds false c o → AllHold false cs pre → IsWhitespace whitespace → lex between (up_to 91 (o ∷ pre) ++ whitespace) ≡ token tokens.begin_array ∷ [] → ⊥
some_front cs c o pre whitespace h k e is =
    let behind : List ℕ = pieces_text 44 pre ++ (44 ∷ whitespace) in
    let split : up_to 91 (o ∷ pre) ++ whitespace ≡ 91 ∷ (piece_text o ++ behind) = simp append_assoc in
    let first : lex between (44 ∷ whitespace) ≡ comma ∷ [] = comma_lex whitespace ∙ ap (λ l. comma ∷ l) e.0 in
    let more : lex between behind ≡ others_to false cs (comma ∷ []) = more_lexes false cs pre (44 ∷ whitespace) k (ap follows first) ∙ ap (others_to false cs) first in
    let whole : lex between (91 ∷ (piece_text o ++ behind)) ≡ token tokens.begin_array ∷ (spelled c.1 ++ others_to false cs (comma ∷ [])) =
    opens_lex false (piece_text o ++ behind) ∙ ap (λ l. token tokens.begin_array ∷ l) (piece_lexes false c o behind h (ap follows more ∙ comma_follows cs) ∙ ap (λ l. spelled c.1 ++ l) more) in
    absurd (omega (arith, ap length (sym whole ∙ sym (ap (lex between) split) ∙ is), some_lexeme c.1, length-append (spelled c.1) (others_to false cs (comma ∷ []))))
  where
    comma_follows : (ds : List Child) → follows (others_to false ds (comma ∷ [])) ≡ true
    comma_follows [] = refl
    comma_follows (d ∷ ds) = refl

element_front : (c : Child) (p : Piece) (post : List Piece) → Suits false c p → IsTightFront (from_element p post)
element_front c p post s = label_front false c.0 p.name p.colons (p.value ++ (p.trail ++ rest_text false post)) s.label (tight_front p.value (p.trail ++ rest_text false post) s.value.1.0)

first_front : (whitespace : List ℕ) → IsWhitespace whitespace → lex between (up_to 91 [] ++ whitespace) ≡ token tokens.begin_array ∷ []
first_front whitespace e = opens_lex false whitespace ∙ ap (λ l. token tokens.begin_array ∷ l) e.0

before_style : (cs : List Child) (c : Child) (ds : List Child) (pre : List Piece) (p : Piece) (post : List Piece) → AllSuit false cs pre → Suits false c p → AllSuit false ds post → IsBeforeElement (up_to 91 pre ++ p.whitespace) (44 ∷ whitespace_like (neighbour_whitespace pre p post)) (from_element p post)
before_style cs c [] [] p (q ∷ post) h s k = absurd k
before_style cs c (d ∷ ds) [] p (q ∷ post) h s k =
    let second : HasSecond (from_element p (q ∷ post)) q.whitespace = record {
      value = p.value;
      gap = p.trail ++ (44 ∷ []);
      rest = from_element q post;
      is = bare_element p (p.value ++ (p.trail ++ rest_text false (q ∷ post))) s.label ∙ simp append_assoc;
      says = (c.1, s.value.0);
      comes = (tight_end p.trail (44 ∷ []) refl, lead_lex (p.trail ++ (44 ∷ [])) (comma ∷ []) (leads p.trail (44 ∷ []) [] (comma ∷ []) (whitespace_lead p.trail s.trail) (comma_lead [] [] no_lead)));
      tight = (k.0.whitespace.0, element_front d q post k.0);
    } in
    (q.whitespace, refl, element_front c p (q ∷ post) s, inl (first_front p.whitespace s.whitespace, second))
before_style cs c ds [] p [] h s k =
    let one : HasOne (from_element p []) = record {
      value = p.value;
      rest = p.trail ++ (93 ∷ []);
      is = bare_element p (p.value ++ (p.trail ++ (93 ∷ []))) s.label;
      says = (c.1, s.value.0);
      last = last_behind false p.trail s.trail;
    } in
    (p.whitespace, refl, element_front c p [] s, inr (up_to 91 [], refl, mark_end false [], s.whitespace.0, λ e. one))
before_style [] c ds (o ∷ pre) p post h s k = absurd h
before_style (d ∷ cs) c ds (o ∷ pre) p post h s k =
    (p.whitespace, refl, element_front c p post s, inr (up_to 91 (o ∷ pre), refl, mark_end false (o ∷ pre), s.whitespace.0, λ e. absurd (some_front cs d o pre p.whitespace (holds h.0) (all_hold false cs pre h.1) s.whitespace e)))

styled_before : (k : List ℕ) (cs : List Child) (n : ℕ) (c : Child) (more : List Child) (front trail back : List ℕ) → drop n cs ≡ c ∷ more → IsBeforeElement front trail back → IsStyled k (tree_in false cs) front [] trail back
styled_before k [] zero c more front trail back e s = absurd (no_cons c more e)
styled_before k [] (suc n) c more front trail back e s = absurd (no_cons c more e)
styled_before k (d ∷ cs) n c more front trail back e s = inr (refl, s)

-- ---- the pieces

near_whitespace : (c : Child) (ds : List Child) (pre : List Piece) (p : Piece) (post : List Piece) → Suits false c p → AllSuit false ds post → IsWhitespace (neighbour_whitespace pre p post)
near_whitespace c ds [] p [] s k = s.whitespace
near_whitespace c [] [] p (q ∷ post) s k = absurd k
near_whitespace c (d ∷ ds) [] p (q ∷ post) s k = k.0.whitespace
near_whitespace c ds (o ∷ pre) p post s k = s.whitespace

led_suits : {b : Bool} {c : Child} {p : Piece} (whitespace : List ℕ) → IsWhitespace whitespace → Suits b c p → Suits b c (led whitespace p)
led_suits whitespace e s = record { whitespace = e; label = s.label; value = s.value; trail = s.trail }

pub element_before_suits : (s : List ℕ) (w : Json) (cs : List Child) (ps : List Piece) (n : ℕ) (c : Child) (more : List Child) → AllSuit false cs ps → drop n cs ≡ c ∷ more → IsTextOf s w → AllSuit false (take n cs ++ (([], w) ∷ drop n cs)) (element_put n s ps)
element_before_suits s w cs ps n c more h e f =
    let r = part_of false cs ps n c more h e in
    let near = neighbour_whitespace (take n ps) r.piece r.rest in
    let like = whitespace_like near in
    subst (λ l. AllSuit false (take n cs ++ (([], w) ∷ l)) (element_put n s ps)) (sym e)
    (subst (λ l. AllSuit false (take n cs ++ (([], w) ∷ c ∷ more)) (element_put_by s (take n ps) l)) (sym r.is)
    (suit_append false (take n cs) (([], w) ∷ c ∷ more) (take n ps) (element_between r.piece.whitespace s [] ∷ led like r.piece ∷ r.rest) r.before
    (element_suits r.piece.whitespace s [] w r.suits.whitespace whitespace_nil f, (led_suits like (by_whitespace IsWhitespace near (near_whitespace c more (take n ps) r.piece r.rest r.suits r.behind) whitespace_nil) r.suits, r.behind))))

-- ---- put in

-- with any text of a value in the new piece
before_says : (cs : List Child) (c : Child) (ds : List Child) (pre : List Piece) (p : Piece) (post : List Piece) (s : List ℕ) (w : Json) → AllSuit false cs pre → Suits false c p → AllSuit false ds post → Says s w
    → Says ((up_to 91 pre ++ p.whitespace) ++ ([] ++ (s ++ ((44 ∷ whitespace_like (neighbour_whitespace pre p post)) ++ from_element p post)))) (tree_in false (cs ++ (([], w) ∷ c ∷ ds)))
before_says cs c ds pre p post s w h u k says =
    let near = neighbour_whitespace pre p post in
    let like = whitespace_like near in
    let element : Holds false ([], w) (element_between p.whitespace s []) = record { whitespace = u.whitespace; label = (refl, refl); value = says; trail = whitespace_nil } in
    let old : Holds false c (led like p) = holds (led_suits like (by_whitespace IsWhitespace near (near_whitespace c ds pre p post u k) whitespace_nil) u) in
    subst (λ x. Says x (tree_in false (cs ++ (([], w) ∷ c ∷ ds)))) (new_text [] like s pre p post)
    (row_holds false [] (cs ++ (([], w) ∷ c ∷ ds)) (pre ++ (element_between p.whitespace s [] ∷ led like p ∷ post)) (hold_append false cs (([], w) ∷ c ∷ ds) pre (element_between p.whitespace s [] ∷ led like p ∷ post) (all_hold false cs pre h) (element, (old, all_hold false ds post k))) whitespace_nil)

pub element_before_into : (hollow hollow2 k put : List ℕ) (cs : List Child) (ps : List Piece) (n : ℕ) (c : Child) (more : List Child) → AllSuit false cs ps → slot_in k (length cs) ≡ Some n → drop n cs ≡ c ∷ more
    → IsPutInto (row_text false hollow ps) (tree_in false cs) k put (row_text false hollow2 (element_put n put ps))
element_before_into hollow hollow2 k put cs ps n c more h slot e =
    let r = part_of false cs ps n c more h e in
    let pre = take n ps in
    let p = r.piece in
    let like = whitespace_like (neighbour_whitespace pre p r.rest) in
    let is : element_put n put ps ≡ pre ++ (element_between p.whitespace put [] ∷ led like p ∷ r.rest) = ap (element_put_by put pre) r.is in
    record {
      front = up_to 91 pre ++ p.whitespace;
      back = from_element p r.rest;
      whole = ap (row_text false hollow) (joined n ps p r.rest r.is) ∙ old_text hollow pre p r.rest;
      ahead = [];
      trail = 44 ∷ like;
      styled = styled_before k cs n c more (up_to 91 pre ++ p.whitespace) (44 ∷ like) (from_element p r.rest) e (before_style (take n cs) c more pre p r.rest r.before r.suits r.behind);
      put_in = ap (row_text false hollow2) is ∙ new_text hollow2 like put pre p r.rest;
      alone = λ new w x. (
        tree_in false (take n cs ++ (([], w) ∷ drop n cs)),
        new_element k w cs n slot,
        subst (λ l. Says ((up_to 91 pre ++ p.whitespace) ++ ([] ++ (new ++ ((44 ∷ like) ++ from_element p r.rest)))) (tree_in false (take n cs ++ (([], w) ∷ l)))) (sym e) (before_says (take n cs) c more pre p r.rest new w r.before r.suits r.behind x),
      );
    }

-- ---- a member that stands
