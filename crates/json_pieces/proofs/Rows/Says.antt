-- What the text of a row says.
use Rattle.std.proofs.Common.{◌≡◌, ℕ, suc, ◌-◌, ◌<◌, Bool, true, false, List, [], ◌∷◌, ◌++◌, length, get_or, refl, sym, ap, ap₂, ◌∙◌, subst, arith, append_assoc, append-nil, length-append}
use Rattle.std.proofs.lemmas.Bool.{true≢false}
use Rattle.std.specs.Prelude.{⊤}
use Rattle.json.specs.Lex.{Lexeme, token, comma, colon, between, lex}
use Rattle.json.specs.Token as t
use Rattle.json.specs.Word.{is_space}
use Rattle.json_text.specs.Cuts.{AllSuit, IsLabel, IsWhitespace, Piece, Suits, closes, opens, piece_text, pieces_text, row_text}
use Rattle.json_lexemes.specs.Lexing.{after, Fits}
use Rattle.json_text.specs.Listing.{IsTextOf}
use Rattle.json_text.specs.Pointed.{IsTight}
use Rattle.json_text.specs.Removed.{IsTightEnd, IsTightFront}
use Rattle.json_text.specs.Rows.{Child, closing, inside, naming, opening, others, tree_in}
use Rattle.json_lexemes.specs.Spelled.{spelled, Says}
use Rattle.json_text.proofs.Rows.Leads.{Lead, leads, no_lead, value_before}
use Rattle.json_text.proofs.Rows.Trees.{spelled_in}
use Rattle.json_lexemes.proofs.Steps.{follows}
use Rattle.json_text.proofs.Stretches.{lex-join}

-- ---- texts that are tight

pub tight_front : (v r : List ℕ) → IsTightFront v → IsTightFront (v ++ r)
tight_front [] r e = absurd (true≢false e)
tight_front (x ∷ v) r e = e

end_some : (v : List ℕ) → IsTightEnd v → 0 < length v
end_some [] e = absurd (true≢false e)
end_some (x ∷ v) e = omega arith

further_end : (x : ℕ) (v : List ℕ) → IsTightEnd v → IsTightEnd (x ∷ v)
further_end x v e =
    let some : 0 < length v = end_some v e in
    let place : length (x ∷ v) - 1 ≡ suc (length v - 1) = omega (arith, some) in
    ap (λ n. is_space (get_or (x ∷ v) n 32)) place ∙ e

pub tight_end : (s v : List ℕ) → IsTightEnd v → IsTightEnd (s ++ v)
tight_end [] v e = e
tight_end (x ∷ s) v e = further_end x (s ++ v) (tight_end s v e)

nearer_end : (x : ℕ) (v : List ℕ) → 0 < length v → IsTightEnd (x ∷ v) → IsTightEnd v
nearer_end x v some e =
    let place : length (x ∷ v) - 1 ≡ suc (length v - 1) = omega (arith, some) in
    sym (ap (λ n. is_space (get_or (x ∷ v) n 32)) place) ∙ e

end_behind : (s v : List ℕ) → 0 < length v → IsTightEnd (s ++ v) → IsTightEnd v
end_behind [] v some e = e
end_behind (x ∷ s) v some e = end_behind s v some (nearer_end x (s ++ v) (omega (arith, some, length-append s v)) e)

-- it stays so with another text in the place of a stretch
pub tight_around : (before own behind put : List ℕ) → IsTight (before ++ (own ++ behind)) → IsTight put → IsTight (before ++ (put ++ behind))
tight_around before own behind put (front, end) (put_front, put_end) = (by_before before front, by_behind behind end)
  where
    by_before : (a : List ℕ) → IsTightFront (a ++ (own ++ behind)) → IsTightFront (a ++ (put ++ behind))
    by_before [] e = tight_front put behind put_front
    by_before (x ∷ a) e = e

    by_behind : (b : List ℕ) → IsTightEnd (before ++ (own ++ b)) → IsTightEnd (before ++ (put ++ b))
    by_behind [] e = tight_end before (put ++ []) (subst IsTightEnd (sym (append-nil put)) put_end)
    by_behind (y ∷ b) e =
        let last : IsTightEnd (y ∷ b) = end_behind (before ++ own) (y ∷ b) (omega arith) (subst IsTightEnd (sym (append_assoc before own (y ∷ b))) e) in
        tight_end before (put ++ (y ∷ b)) (tight_end put (y ∷ b) last)

-- ---- a piece whose value may have whitespace around it

pub record Holds (b : Bool) (c : Child) (p : Piece) : Type 0 where
  pub whitespace : IsWhitespace p.whitespace
  pub label : IsLabel b c.0 p.name p.colons
  pub value : Says p.value c.1
  pub trail : IsWhitespace p.trail

abbrev pub AllHold : Bool → List Child → List Piece → Type 0
AllHold b [] [] = ⊤
AllHold b [] (p ∷ ps) = ⊥
AllHold b (c ∷ cs) [] = ⊥
AllHold b (c ∷ cs) (p ∷ ps) = Holds b c p × AllHold b cs ps

pub holds : {b : Bool} {c : Child} {p : Piece} → Suits b c p → Holds b c p
holds s = record { whitespace = s.whitespace; label = s.label; value = s.value.0; trail = s.trail }

pub all_hold : (b : Bool) (cs : List Child) (ps : List Piece) → AllSuit b cs ps → AllHold b cs ps
all_hold b [] [] h = tt
all_hold b [] (p ∷ ps) h = absurd h
all_hold b (c ∷ cs) [] h = absurd h
all_hold b (c ∷ cs) (p ∷ ps) h = (holds h.0, all_hold b cs ps h.1)

-- ---- its lexemes

pub closed_lead : (s : List ℕ) (L : List Lexeme) → lex between s ≡ L → after between s ≡ between → Lead s L
closed_lead s L e m = record { lexed = λ r. lex-join s r (subst (λ n. Fits n r) (sym m) tt) ∙ ap (λ l. l ++ lex between r) e }

pub whitespace_lead : (s : List ℕ) → IsWhitespace s → Lead s []
whitespace_lead s h = closed_lead s [] h.0 h.1

pub label_lead : (b : Bool) (k name colons : List ℕ) → IsLabel b k name colons → Lead (name ++ colons) (naming b k)
label_lead true k name colons h = leads name colons (token (t.string k) ∷ []) (colon ∷ []) (closed_lead name _ h.0.0 h.1) (closed_lead colons _ h.2 h.3)
label_lead false k name colons h = let e : name ++ colons ≡ [] = ap₂ (λ x y. x ++ y) h.0 h.1 in subst (λ s. Lead s []) (sym e) no_lead

pub front_lead : (b : Bool) (c : Child) (p : Piece) → Holds b c p → Lead (p.whitespace ++ (p.name ++ p.colons)) (naming b c.0)
front_lead b c p h = leads p.whitespace (p.name ++ p.colons) [] (naming b c.0) (whitespace_lead p.whitespace h.whitespace) (label_lead b c.0 p.name p.colons h.label)

-- the value apart
pub value_apart : (p : Piece) (r : List ℕ) → piece_text p ++ r ≡ (p.whitespace ++ (p.name ++ p.colons)) ++ (p.value ++ (p.trail ++ r))
value_apart p r = simp append_assoc

pub piece_lexes : (b : Bool) (c : Child) (p : Piece) (r : List ℕ) → Holds b c p → follows (lex between r) ≡ true → lex between (piece_text p ++ r) ≡ naming b c.0 ++ (spelled c.1 ++ lex between r)
piece_lexes b c p r h f =
    let behind : lex between (p.trail ++ r) ≡ lex between r = (whitespace_lead p.trail h.trail).lexed r in
    ap (lex between) (value_apart p r) ∙ (front_lead b c p h).lexed (p.value ++ (p.trail ++ r))
    ∙ ap (λ l. naming b c.0 ++ l) (value_before p.value c.1 (p.trail ++ r) h.value (ap follows behind ∙ f) ∙ ap (λ l. spelled c.1 ++ l) behind)

-- ---- the lexemes of a row

-- behind a child, and then these
abbrev pub others_to : Bool → List Child → List Lexeme → List Lexeme
others_to b [] ls = ls
others_to b (c ∷ cs) ls = comma ∷ (naming b c.0 ++ (spelled c.1 ++ others_to b cs ls))

pub others_end : (b : Bool) (cs : List Child) → others_to b cs (closing b ∷ []) ≡ others b cs
others_end b [] = refl
others_end b (c ∷ cs) = ap (λ l. comma ∷ (naming b c.0 ++ (spelled c.1 ++ l))) (others_end b cs)

others_follow : (b : Bool) (cs : List Child) (ls : List Lexeme) → follows ls ≡ true → follows (others_to b cs ls) ≡ true
others_follow b [] ls f = f
others_follow b (c ∷ cs) ls f = refl

pub comma_lex : (s : List ℕ) → lex between (44 ∷ s) ≡ comma ∷ lex between s
unfolding lex
comma_lex s = refl

pub opens_lex : (b : Bool) (s : List ℕ) → lex between (opens b ∷ s) ≡ opening b ∷ lex between s
unfolding lex
opens_lex true s = refl
opens_lex false s = refl

pub closes_lex : (b : Bool) → lex between (closes b ∷ []) ≡ closing b ∷ []
unfolding lex
closes_lex true = refl
closes_lex false = refl

pub closes_follow : (b : Bool) → follows (lex between (closes b ∷ [])) ≡ true
closes_follow true = ap follows (closes_lex true)
closes_follow false = ap follows (closes_lex false)

pub more_lexes : (b : Bool) (cs : List Child) (ps : List Piece) (r : List ℕ) → AllHold b cs ps → follows (lex between r) ≡ true → lex between (pieces_text 44 ps ++ r) ≡ others_to b cs (lex between r)
more_lexes b [] [] r h f = refl
more_lexes b [] (p ∷ ps) r h f = absurd h
more_lexes b (c ∷ cs) [] r h f = absurd h
more_lexes b (c ∷ cs) (p ∷ ps) r h f =
    let rest = more_lexes b cs ps r h.1 f in
    comma_lex ((piece_text p ++ pieces_text 44 ps) ++ r)
    ∙ ap (λ l. comma ∷ l) (ap (lex between) (append_assoc (piece_text p) (pieces_text 44 ps) r)
    ∙ piece_lexes b c p (pieces_text 44 ps ++ r) h.0 (ap follows rest ∙ others_follow b cs (lex between r) f) ∙ ap (λ l. naming b c.0 ++ (spelled c.1 ++ l)) rest)

-- up to the bracket that closes
pub to_end : (b : Bool) (cs : List Child) (ps : List Piece) → AllHold b cs ps → lex between (pieces_text 44 ps ++ (closes b ∷ [])) ≡ others b cs
to_end b cs ps h = more_lexes b cs ps (closes b ∷ []) h (closes_follow b) ∙ ap (others_to b cs) (closes_lex b) ∙ others_end b cs

pub others_end_follow : (b : Bool) (cs : List Child) → follows (others b cs) ≡ true
others_end_follow true [] = refl
others_end_follow false [] = refl
others_end_follow true (c ∷ cs) = refl
others_end_follow false (c ∷ cs) = refl

-- behind the opening bracket
pub first_lexes : (b : Bool) (c : Child) (cs : List Child) (p : Piece) (ps : List Piece) → Holds b c p → AllHold b cs ps → lex between (piece_text p ++ (pieces_text 44 ps ++ (closes b ∷ []))) ≡ inside b (c ∷ cs)
first_lexes b c cs p ps h hs =
    let rest = to_end b cs ps hs in
    piece_lexes b c p (pieces_text 44 ps ++ (closes b ∷ [])) h (ap follows rest ∙ others_end_follow b cs) ∙ ap (λ l. naming b c.0 ++ (spelled c.1 ++ l)) rest

pub row_holds : (b : Bool) (hollow : List ℕ) (cs : List Child) (ps : List Piece) → AllHold b cs ps → IsWhitespace hollow → Says (row_text b hollow ps) (tree_in b cs)
row_holds b hollow [] [] h e =
    opens_lex b (hollow ++ (closes b ∷ [])) ∙ ap (λ l. opening b ∷ l) ((whitespace_lead hollow e).lexed (closes b ∷ []) ∙ closes_lex b) ∙ sym (spelled_in b [])
row_holds b hollow [] (p ∷ ps) h e = absurd h
row_holds b hollow (c ∷ cs) [] h e = absurd h
row_holds b hollow (c ∷ cs) (p ∷ ps) h e =
    opens_lex b ((piece_text p ++ pieces_text 44 ps) ++ (closes b ∷ []))
    ∙ ap (λ l. opening b ∷ l) (ap (lex between) (append_assoc (piece_text p) (pieces_text 44 ps) (closes b ∷ [])) ∙ first_lexes b c cs p ps h.0 h.1) ∙ sym (spelled_in b (c ∷ cs))

-- ---- a row of texts with no whitespace around them

pub row_says : (b : Bool) (hollow : List ℕ) (cs : List Child) (ps : List Piece) → AllSuit b cs ps → IsWhitespace hollow → Says (row_text b hollow ps) (tree_in b cs)
row_says b hollow cs ps h e = row_holds b hollow cs ps (all_hold b cs ps h) e

pub opens_end : (b : Bool) → IsTightEnd (opens b ∷ [])
opens_end true = refl
opens_end false = refl

pub closes_tight : (b : Bool) (s : List ℕ) → IsTightFront (closes b ∷ s)
closes_tight true s = refl
closes_tight false s = refl

pub opens_tight : (b : Bool) (s : List ℕ) → IsTightFront (opens b ∷ s)
opens_tight true s = refl
opens_tight false s = refl

pub closes_end : (b : Bool) → IsTightEnd (closes b ∷ [])
closes_end true = refl
closes_end false = refl

row_tight : (b : Bool) (hollow : List ℕ) (ps : List Piece) → IsTight (row_text b hollow ps)
row_tight b hollow [] = (opens_tight b (hollow ++ (closes b ∷ [])), tight_end (opens b ∷ hollow) (closes b ∷ []) (closes_end b))
row_tight b hollow (p ∷ ps) = (opens_tight b ((piece_text p ++ pieces_text 44 ps) ++ (closes b ∷ [])), tight_end (pieces_text (opens b) (p ∷ ps)) (closes b ∷ []) (closes_end b))

pub row_is : (b : Bool) (hollow : List ℕ) (cs : List Child) (ps : List Piece) → AllSuit b cs ps → IsWhitespace hollow → IsTextOf (row_text b hollow ps) (tree_in b cs)
row_is b hollow cs ps h e = (row_says b hollow cs ps h e, row_tight b hollow ps)
