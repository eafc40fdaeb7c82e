-- A row with one more piece.
use Rattle.std.proofs.Common.{◌≡◌, inl, ℕ, Bool, true, false, List, [], ◌∷◌, ◌++◌, length, Some, None, refl, sym, ap, ap₂, ◌∙◌, subst, arith, append_assoc, append-nil}
use Rattle.std.proofs.Math.Seq.{take-length}
use Rattle.std.proofs.lemmas.List.{drop_all}
use Rattle.json.specs.Json.{Json, string}
use Rattle.json.specs.Lex.{colon, token, between, lex}
use Rattle.json.specs.Print.{escape, quoted}
use Rattle.json.specs.Token as tokens
use Rattle.json_text.specs.Added.{EndsWithElement, EndsWithMember, IsBehindElement, IsBehindMember, IsPutInto, IsStyled}
use Rattle.json_text.specs.Changed.{add_child, slot_in}
use Rattle.json_text.specs.Cuts.{AllSuit, IsLabel, IsWhitespace, Piece, Suits, closes, opens, pieces_text, row_text}
use Rattle.json_lexemes.specs.Lexing.{after}
use Rattle.json_text.specs.Listing.{IsTextOf}
use Rattle.json_text.specs.Pointed.{child}
use Rattle.json_text.specs.Removed.{IsTightEnd}
use Rattle.json_text.specs.Rows.{Child, tree_in}
use Rattle.json_text.specs.Styled.{colons_like, whitespace_like}
use Rattle.json_lexemes.specs.Spelled.{Says}
use Rattle.json_text.proofs.Whitespace.{name_between}
use Rattle.json_text.proofs.Rows.Grows.{new_element, new_member}
use Rattle.json_text.proofs.Rows.Leads.{quoted_lead}
use Rattle.json_text.proofs.Rows.Styles.{by_colons, by_whitespace}
use Rattle.json_pieces.specs.PieceLists.{element_between, element_pushed, member_alone, member_like, member_pushed, trailed}
use Rattle.json_pieces.proofs.Rows.Parts.{HasLast, has_last, hold_append, row_split, up_to}
use Rattle.json_pieces.proofs.Rows.Says.{Holds, all_hold, holds, opens_end, row_holds, tight_end}
use Rattle.json_pieces.proofs.Rows.Stands.{whitespace_nil}
use Rattle.json_pieces.proofs.Rows.Taken.{last_behind, lead_lex}

-- ---- a name as it is written

pub quoted_text : (k : List ℕ) → IsTextOf (quoted k) (string k)
quoted_text k = (lead_lex (quoted k) (token (tokens.string k) ∷ []) (quoted_lead k), (refl, tight_end (34 ∷ escape k) (34 ∷ []) refl))

quoted_label : (k colons : List ℕ) → lex between colons ≡ colon ∷ [] → after between colons ≡ between → IsLabel true k (quoted k) colons
quoted_label k colons e f = (quoted_text k, name_between (quoted k) k (quoted_text k).0, e, f)

pub new_label : (k : List ℕ) → IsLabel true k (quoted k) (58 ∷ [])
unfolding lex
new_label k = quoted_label k (58 ∷ []) refl refl

-- ---- the pieces behind the last

trail_off : {b : Bool} {c : Child} {p : Piece} → Suits b c p → Suits b c (trailed [] p)
trail_off s = record { whitespace = s.whitespace; label = s.label; value = s.value; trail = whitespace_nil }

like_whitespace : {b : Bool} {c : Child} (p : Piece) → Suits b c p → IsWhitespace (whitespace_like p.whitespace)
like_whitespace p h = by_whitespace IsWhitespace p.whitespace h.whitespace whitespace_nil

like_label : {c : Child} (p : Piece) (k : List ℕ) → Suits true c p → IsLabel true k (quoted k) (colons_like p.colons)
like_label p k h = by_colons (IsLabel true k (quoted k)) p.colons (quoted_label k p.colons h.label.2 h.label.3) (new_label k)

like_suits : {c : Child} (p : Piece) (k s : List ℕ) (w : Json) → Suits true c p → IsTextOf s w → Suits true (k, w) (member_like p (quoted k) s)
like_suits p k s w h e = record { whitespace = like_whitespace p h; label = like_label p k h; value = e; trail = h.trail }

alone_suits : (k s hollow : List ℕ) (w : Json) → IsWhitespace hollow → IsTextOf s w → Suits true (k, w) (member_alone hollow (quoted k) s)
alone_suits k s hollow w h e = record { whitespace = whitespace_nil; label = new_label k; value = e; trail = h }

pub element_suits : (whitespace s trail : List ℕ) (w : Json) → IsWhitespace whitespace → IsWhitespace trail → IsTextOf s w → Suits false ([], w) (element_between whitespace s trail)
element_suits whitespace s trail w h k e = record { whitespace = h; label = (refl, refl); value = e; trail = k }

pub member_suits : (hollow k s : List ℕ) (w : Json) (cs : List Child) (ps : List Piece) → AllSuit true cs ps → IsWhitespace hollow → IsTextOf s w → AllSuit true (cs ++ ((k, w) ∷ [])) (member_pushed hollow (quoted k) s ps)
member_suits hollow k s w [] [] h e f = (alone_suits k s hollow w e f, tt)
member_suits hollow k s w [] (p ∷ ps) h e f = absurd h
member_suits hollow k s w (c ∷ cs) [] h e f = absurd h
member_suits hollow k s w (c ∷ []) (p ∷ []) h e f = (trail_off h.0, (like_suits p k s w h.0 f, tt))
member_suits hollow k s w (c ∷ []) (p ∷ q ∷ ps) h e f = absurd h.1
member_suits hollow k s w (c ∷ d ∷ cs) (p ∷ []) h e f = absurd h.1
member_suits hollow k s w (c ∷ d ∷ cs) (p ∷ q ∷ ps) h e f = (h.0, member_suits hollow k s w (d ∷ cs) (q ∷ ps) h.1 e f)

pub element_behind_suits : (hollow s : List ℕ) (w : Json) (cs : List Child) (ps : List Piece) → AllSuit false cs ps → IsWhitespace hollow → IsTextOf s w → AllSuit false (cs ++ (([], w) ∷ [])) (element_pushed hollow s ps)
element_behind_suits hollow s w [] [] h e f = (element_suits [] s hollow w whitespace_nil e f, tt)
element_behind_suits hollow s w [] (p ∷ ps) h e f = absurd h
element_behind_suits hollow s w (c ∷ cs) [] h e f = absurd h
element_behind_suits hollow s w (c ∷ []) (p ∷ []) h e f = (trail_off h.0, (element_suits (whitespace_like p.whitespace) s p.trail w (like_whitespace p h.0) h.0.trail f, tt))
element_behind_suits hollow s w (c ∷ []) (p ∷ q ∷ ps) h e f = absurd h.1
element_behind_suits hollow s w (c ∷ d ∷ cs) (p ∷ []) h e f = absurd h.1
element_behind_suits hollow s w (c ∷ d ∷ cs) (p ∷ q ∷ ps) h e f = (h.0, element_behind_suits hollow s w (d ∷ cs) (q ∷ ps) h.1 e f)

pub member_set : (hollow name s : List ℕ) (front : List Piece) (o : Piece) → member_pushed hollow name s (front ++ (o ∷ [])) ≡ front ++ (trailed [] o ∷ member_like o name s ∷ [])
member_set hollow name s [] o = refl
member_set hollow name s (q ∷ []) o = refl
member_set hollow name s (q ∷ r ∷ front) o = ap (λ l. q ∷ l) (member_set hollow name s (r ∷ front) o)

pub element_set : (hollow s : List ℕ) (front : List Piece) (o : Piece) → element_pushed hollow s (front ++ (o ∷ [])) ≡ front ++ (trailed [] o ∷ element_between (whitespace_like o.whitespace) s o.trail ∷ [])
element_set hollow s [] o = refl
element_set hollow s (q ∷ []) o = refl
element_set hollow s (q ∷ r ∷ front) o = ap (λ l. q ∷ l) (element_set hollow s (r ∷ front) o)

-- ---- the text behind the last

-- up to the end of the last value
abbrev up_to_value : Bool → List Piece → Piece → List ℕ
up_to_value b front o = up_to (opens b) front ++ (o.whitespace ++ (o.name ++ (o.colons ++ o.value)))

old_text : (b : Bool) (hollow : List ℕ) (front : List Piece) (o : Piece) → row_text b hollow (front ++ (o ∷ [])) ≡ up_to_value b front o ++ (o.trail ++ (closes b ∷ []))
old_text b hollow front o = row_split b hollow front o [] ∙ simp append_assoc

member_text : (hollow name s : List ℕ) (front : List Piece) (o : Piece) → row_text true hollow (front ++ (trailed [] o ∷ member_like o name s ∷ [])) ≡ up_to_value true front o ++ ((44 ∷ (whitespace_like o.whitespace ++ (name ++ colons_like o.colons))) ++ (s ++ ([] ++ (o.trail ++ (125 ∷ [])))))
member_text hollow name s front o = row_split true hollow front (trailed [] o) (member_like o name s ∷ []) ∙ simp (append_assoc, append-nil)

element_text : (hollow s : List ℕ) (front : List Piece) (o : Piece) → row_text false hollow (front ++ (trailed [] o ∷ element_between (whitespace_like o.whitespace) s o.trail ∷ [])) ≡ up_to_value false front o ++ ((44 ∷ whitespace_like o.whitespace) ++ (s ++ ([] ++ (o.trail ++ (93 ∷ [])))))
element_text hollow s front o = row_split false hollow front (trailed [] o) (element_between (whitespace_like o.whitespace) s o.trail ∷ []) ∙ simp (append_assoc, append-nil)

pub mark_end : (b : Bool) (pre : List Piece) → IsTightEnd (up_to (opens b) pre)
mark_end b [] = opens_end b
mark_end b (p ∷ pre) = tight_end (pieces_text (opens b) (p ∷ pre)) (44 ∷ []) refl

member_styled : (k : List ℕ) (cs : List Child) (d : Child) (front ahead trail back : List ℕ) → IsBehindMember k front ahead trail back → IsStyled k (tree_in true (cs ++ (d ∷ []))) front ahead trail back
member_styled k [] d front ahead trail back s = s
member_styled k (c ∷ cs) d front ahead trail back s = s

element_styled : (k : List ℕ) (cs : List Child) (d : Child) (front ahead trail back : List ℕ) → IsBehindElement front ahead trail back → IsStyled k (tree_in false (cs ++ (d ∷ []))) front ahead trail back
element_styled k [] d front ahead trail back s = inl s
element_styled k (c ∷ cs) d front ahead trail back s = inl s

-- with any text of a value in the new piece
pushed_says : (b : Bool) (cs : List Child) (d e : Child) (front : List Piece) (o p : Piece) (text : List ℕ) → AllSuit b cs front → Suits b d o → Holds b e p → row_text b [] (front ++ (trailed [] o ∷ p ∷ [])) ≡ text → Says text (tree_in b ((cs ++ (d ∷ [])) ++ (e ∷ [])))
pushed_says b cs d e front o p text h u k is =
    subst (λ x. Says x (tree_in b ((cs ++ (d ∷ [])) ++ (e ∷ [])))) is
    (subst (λ l. Says (row_text b [] (front ++ (trailed [] o ∷ p ∷ []))) (tree_in b l)) (sym (append_assoc cs (d ∷ []) (e ∷ [])))
    (row_holds b [] (cs ++ (d ∷ e ∷ [])) (front ++ (trailed [] o ∷ p ∷ [])) (hold_append b cs (d ∷ e ∷ []) front (trailed [] o ∷ p ∷ []) (all_hold b cs front h) (holds (trail_off u), (k, tt))) whitespace_nil))

member_into : (hollow hollow2 k put : List ℕ) (cs : List Child) (d : Child) (front : List Piece) (o : Piece) → AllSuit true cs front → Suits true d o → child k (tree_in true (cs ++ (d ∷ []))) ≡ None
    → IsPutInto (row_text true hollow (front ++ (o ∷ []))) (tree_in true (cs ++ (d ∷ []))) k put (row_text true hollow2 (front ++ (trailed [] o ∷ member_like o (quoted k) put ∷ [])))
member_into hollow hollow2 k put cs d front o h u none =
    let ends : EndsWithMember (up_to_value true front o) o.whitespace o.colons = record {
      lead = up_to (opens true) front;
      name = o.name;
      value = o.value;
      is = refl;
      tight = (mark_end true front, u.whitespace.0);
      named = (u.label.0.1, (d.0, u.label.0.0));
      colon = u.label.2;
      says = (u.value.1, (d.1, u.value.0));
    } in
    record {
      front = up_to_value true front o;
      back = o.trail ++ (125 ∷ []);
      whole = old_text true hollow front o;
      ahead = 44 ∷ (whitespace_like o.whitespace ++ (quoted k ++ colons_like o.colons));
      trail = [];
      styled = member_styled k cs d (up_to_value true front o) (44 ∷ (whitespace_like o.whitespace ++ (quoted k ++ colons_like o.colons))) [] (o.trail ++ (125 ∷ [])) (o.whitespace, o.colons, ends, refl, refl, last_behind true o.trail u.trail);
      put_in = member_text hollow2 (quoted k) put front o;
      alone = λ new w x. (
        tree_in true ((cs ++ (d ∷ [])) ++ ((k, w) ∷ [])),
        new_member k w (cs ++ (d ∷ [])) none,
        pushed_says true cs d (k, w) front o (member_like o (quoted k) new) _ h u (record { whitespace = like_whitespace o u; label = like_label o k u; value = x; trail = u.trail }) (member_text [] (quoted k) new front o),
      );
    }

pub all_elements : (k : List ℕ) (w : Json) (cs : List Child) → slot_in k (length cs) ≡ Some (length cs) → add_child k w (tree_in false cs) ≡ Some (tree_in false (cs ++ (([], w) ∷ [])))
all_elements k w cs slot = new_element k w cs (length cs) slot ∙ ap₂ (λ x y. Some (tree_in false (x ++ (([], w) ∷ y)))) (take-length cs) (drop_all (length cs) cs (omega arith))

pub bare_element : (p : Piece) (s : List ℕ) → IsLabel false [] p.name p.colons → p.name ++ (p.colons ++ s) ≡ s
bare_element p s h = ap₂ (λ x y. x ++ (y ++ s)) h.0 h.1

element_into : (hollow hollow2 k put : List ℕ) (cs : List Child) (d : Child) (front : List Piece) (o : Piece) → AllSuit false cs front → Suits false d o → slot_in k (length (cs ++ (d ∷ []))) ≡ Some (length (cs ++ (d ∷ [])))
    → IsPutInto (row_text false hollow (front ++ (o ∷ []))) (tree_in false (cs ++ (d ∷ []))) k put (row_text false hollow2 (front ++ (trailed [] o ∷ element_between (whitespace_like o.whitespace) put o.trail ∷ [])))
element_into hollow hollow2 k put cs d front o h u slot =
    let ends : EndsWithElement (up_to_value false front o) o.whitespace = record {
      lead = up_to (opens false) front;
      value = o.value;
      is = ap (λ x. up_to (opens false) front ++ (o.whitespace ++ x)) (bare_element o o.value u.label);
      tight = (mark_end false front, u.whitespace.0);
      says = (u.value.1, (d.1, u.value.0));
    } in
    record {
      front = up_to_value false front o;
      back = o.trail ++ (93 ∷ []);
      whole = old_text false hollow front o;
      ahead = 44 ∷ whitespace_like o.whitespace;
      trail = [];
      styled = element_styled k cs d (up_to_value false front o) (44 ∷ whitespace_like o.whitespace) [] (o.trail ++ (93 ∷ [])) (o.whitespace, ends, refl, refl, last_behind false o.trail u.trail);
      put_in = element_text hollow2 put front o;
      alone = λ new w x. (
        tree_in false ((cs ++ (d ∷ [])) ++ (([], w) ∷ [])),
        all_elements k w (cs ++ (d ∷ [])) slot,
        pushed_says false cs d ([], w) front o (element_between (whitespace_like o.whitespace) new o.trail) _ h u (record { whitespace = like_whitespace o u; label = (refl, refl); value = x; trail = u.trail }) (element_text [] new front o),
      );
    }

-- ---- in an empty row

first_member_text : (hollow hollow2 k s : List ℕ) → row_text true hollow2 (member_alone hollow (quoted k) s ∷ []) ≡ (123 ∷ []) ++ ((quoted k ++ (58 ∷ [])) ++ (s ++ ([] ++ (hollow ++ (125 ∷ [])))))
first_member_text hollow hollow2 k s = simp (append_assoc, append-nil)

first_element_text : (hollow hollow2 s : List ℕ) → row_text false hollow2 (element_between [] s hollow ∷ []) ≡ (91 ∷ []) ++ ([] ++ (s ++ ([] ++ (hollow ++ (93 ∷ [])))))
first_element_text hollow hollow2 s = simp append_assoc

first_member_into : (hollow hollow2 k put : List ℕ) → IsWhitespace hollow → IsPutInto (row_text true hollow []) (tree_in true []) k put (row_text true hollow2 (member_alone hollow (quoted k) put ∷ []))
first_member_into hollow hollow2 k put h = record {
  front = 123 ∷ [];
  back = hollow ++ (125 ∷ []);
  whole = refl;
  ahead = quoted k ++ (58 ∷ []);
  trail = [];
  styled = (refl, refl, refl);
  put_in = first_member_text hollow hollow2 k put;
  alone = λ new w x. (
    tree_in true ((k, w) ∷ []),
    new_member k w [] refl,
    subst (λ y. Says y (tree_in true ((k, w) ∷ []))) (first_member_text hollow [] k new)
        (row_holds true [] ((k, w) ∷ []) (member_alone hollow (quoted k) new ∷ []) (record { whitespace = whitespace_nil; label = new_label k; value = x; trail = h }, tt) whitespace_nil),
  );
}

first_element_into : (hollow hollow2 k put : List ℕ) → IsWhitespace hollow → slot_in k 0 ≡ Some 0 → IsPutInto (row_text false hollow []) (tree_in false []) k put (row_text false hollow2 (element_between [] put hollow ∷ []))
first_element_into hollow hollow2 k put h slot = record {
  front = 91 ∷ [];
  back = hollow ++ (93 ∷ []);
  whole = refl;
  ahead = [];
  trail = [];
  styled = (refl, refl, refl);
  put_in = first_element_text hollow hollow2 put;
  alone = λ new w x. (
    tree_in false (([], w) ∷ []),
    all_elements k w [] slot,
    subst (λ y. Says y (tree_in false (([], w) ∷ []))) (first_element_text hollow [] new)
        (row_holds false [] (([], w) ∷ []) (element_between [] new hollow ∷ []) (record { whitespace = whitespace_nil; label = (refl, refl); value = x; trail = h }, tt) whitespace_nil),
  );
}

-- ---- behind the last, or alone

pub member_put_into : (hollow hollow2 k put : List ℕ) (cs : List Child) (ps : List Piece) → AllSuit true cs ps → IsWhitespace hollow → child k (tree_in true cs) ≡ None → IsPutInto (row_text true hollow ps) (tree_in true cs) k put (row_text true hollow2 (member_pushed hollow (quoted k) put ps))
member_put_into hollow hollow2 k put [] [] h e none = first_member_into hollow hollow2 k put e
member_put_into hollow hollow2 k put [] (p ∷ ps) h e none = absurd h
member_put_into hollow hollow2 k put (c ∷ cs) [] h e none = absurd h
member_put_into hollow hollow2 k put (c ∷ cs) (p ∷ ps) h e none = by_last (has_last true c cs p ps h)
  where
    by_last : HasLast true (c ∷ cs) (p ∷ ps) → IsPutInto (row_text true hollow (p ∷ ps)) (tree_in true (c ∷ cs)) k put (row_text true hollow2 (member_pushed hollow (quoted k) put (p ∷ ps)))
    by_last r =
        let into = member_into hollow hollow2 k put r.children r.child r.front r.last r.before r.suits (ap (λ l. child k (tree_in true l)) (sym r.are) ∙ none) in
        let new : member_pushed hollow (quoted k) put (p ∷ ps) ≡ r.front ++ (trailed [] r.last ∷ member_like r.last (quoted k) put ∷ []) = ap (member_pushed hollow (quoted k) put) r.is ∙ member_set hollow (quoted k) put r.front r.last in
        subst (λ l. IsPutInto (row_text true hollow l) (tree_in true (c ∷ cs)) k put (row_text true hollow2 (member_pushed hollow (quoted k) put (p ∷ ps)))) (sym r.is)
        (subst (λ l. IsPutInto (row_text true hollow (r.front ++ (r.last ∷ []))) (tree_in true l) k put (row_text true hollow2 (member_pushed hollow (quoted k) put (p ∷ ps)))) (sym r.are)
        (subst (λ l. IsPutInto (row_text true hollow (r.front ++ (r.last ∷ []))) (tree_in true (r.children ++ (r.child ∷ []))) k put (row_text true hollow2 l)) (sym new) into))

pub element_put_into : (hollow hollow2 k put : List ℕ) (cs : List Child) (ps : List Piece) → AllSuit false cs ps → IsWhitespace hollow → slot_in k (length cs) ≡ Some (length cs) → IsPutInto (row_text false hollow ps) (tree_in false cs) k put (row_text false hollow2 (element_pushed hollow put ps))
element_put_into hollow hollow2 k put [] [] h e slot = first_element_into hollow hollow2 k put e slot
element_put_into hollow hollow2 k put [] (p ∷ ps) h e slot = absurd h
element_put_into hollow hollow2 k put (c ∷ cs) [] h e slot = absurd h
element_put_into hollow hollow2 k put (c ∷ cs) (p ∷ ps) h e slot = by_last (has_last false c cs p ps h)
  where
    by_last : HasLast false (c ∷ cs) (p ∷ ps) → IsPutInto (row_text false hollow (p ∷ ps)) (tree_in false (c ∷ cs)) k put (row_text false hollow2 (element_pushed hollow put (p ∷ ps)))
    by_last r =
        let into = element_into hollow hollow2 k put r.children r.child r.front r.last r.before r.suits (subst (λ l. slot_in k (length l) ≡ Some (length l)) r.are slot) in
        let new : element_pushed hollow put (p ∷ ps) ≡ r.front ++ (trailed [] r.last ∷ element_between (whitespace_like r.last.whitespace) put r.last.trail ∷ []) = ap (element_pushed hollow put) r.is ∙ element_set hollow put r.front r.last in
        subst (λ l. IsPutInto (row_text false hollow l) (tree_in false (c ∷ cs)) k put (row_text false hollow2 (element_pushed hollow put (p ∷ ps)))) (sym r.is)
        (subst (λ l. IsPutInto (row_text false hollow (r.front ++ (r.last ∷ []))) (tree_in false l) k put (row_text false hollow2 (element_pushed hollow put (p ∷ ps)))) (sym r.are)
        (subst (λ l. IsPutInto (row_text false hollow (r.front ++ (r.last ∷ []))) (tree_in false (r.children ++ (r.child ∷ []))) k put (row_text false hollow2 l)) (sym new) into))
