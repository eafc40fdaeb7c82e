-- A member or an element, cut from its text.
use Rattle.std.proofs.Common.{◌≡◌, ◌≢◌, inl, ℕ, ◌+◌, ◌-◌, ◌<◌, ◌≤◌, Bool, true, false, List, [], ◌∷◌, ◌++◌, length, take, drop, get_or, Option, Some, None, refl, sym, ap, ◌∙◌, subst, arith, append_assoc, take-append-drop}
use Rattle.std.specs.Prelude.{IfSome, MatchOption}
use Rattle.std.specs.Str.{IsUtf8, IsCharBoundary}
use Rattle.std.specs.Bool.{Decides}
use Rattle.std.proofs.lemmas.List.{get_or_default}
use Rattle.std.proofs.lemmas.Option.{same_Some}
use Rattle.std.proofs.lemmas.Str.{IsCharBoundary-after_ascii}
use Rattle.json.specs.Json.{Json, string}
use Rattle.json.specs.Lex.{Lexeme, between, colon, comma}
use Rattle.json.specs.Text.{content, plain}
use Rattle.json.specs.Word.{is_operator, is_space}
use Rattle.json_text.specs.Cuts.{ClosesAt, CutsFirst, IsLabel, IsWhitespace, Piece, Suits, closes, piece_of, piece_text}
use Rattle.json_lexemes.specs.Found.{IsCut}
use Rattle.json_text.specs.Listing.{IsTextOf, NamesAt}
use Rattle.json_lexemes.specs.Places.{IsEnd, left_at, mode_at}
use Rattle.json_text.specs.Pointed.{IsTight}
use Rattle.json_text.specs.Rows.{AreInOrder, ArePlaces, Child, IsPart, IsSolid, closing, inside, others, slice}
use Rattle.json_lexemes.specs.Spelled.{Says, spelled}
use Rattle.json_text.specs.declared.cuts.Cut.{Cut}
use Rattle.json_text.specs.declared.parts.Part.{Part}
use Rattle.json_lexemes.specs.declared.span.Span.{Span}
use Rattle.json_text.proofs.Whitespace.{is_whitespace, closing_last, lexemes_behind, name_between}
use Rattle.json_lexemes.proofs.FirstBytes.{byte_by_kind, kind, operator_by_kind}
use Rattle.json_lexemes.proofs.Members.{quote_left, same_string}
use Rattle.json_lexemes.proofs.Steps.{drop_step, operator_end, operator_left}
use Rattle.json_text.proofs.Stretches.{mode_between, two_parts}
use Rattle.json_text.proofs.Rows.Splices.{empty_slice, ordered, slice_lexes}
use Rattle.json_text.proofs.Rows.Texts.{name_of, text_of}

pub in_three : (t a b d : List ℕ) (i k : ℕ) → i ≤ k → a ≡ slice t 0 i → b ≡ slice t i k → d ≡ drop k t → t ≡ a ++ (b ++ d)
in_three t a b d i k h e f g =
    let size : i - 0 ≡ i = omega arith in
    sym (take-append-drop i t) ∙ ap (λ x. take i t ++ x) (sym (two_parts t i k h)) ∙ ap (λ x. x ++ (slice t i k ++ drop k t)) (sym (e ∙ ap (λ n. take n t) size)) ∙ ap (λ x. a ++ (x ++ drop k t)) (sym f) ∙ ap (λ x. a ++ (b ++ x)) (sym g)

-- ---- the places of a cut

pub name_before : (t : List ℕ) (b : Bool) (cs : List Child) (start : ℕ) (p : Part) (name : Span) → IsPart t b cs p → ArePlaces t p → (b ≡ false → p.value.start ≡ start) → name.start ≡ start → NamesAt t b cs name → IsCut t name → name.end ≤ length t → name.end ≤ p.value.start
name_before t b cs start p name h places element is names cut fits = by_kind b refl (subst (λ m. NamesAt t b m name) h.is names)
  where
    by_kind : (d : Bool) → b ≡ d → NamesAt t d (h.child ∷ h.more) name → name.end ≤ p.value.start
    by_kind false e n = omega (arith, n, is, element e)
    by_kind true e n =
        let more : length (left_at t p.value.start) < length (left_at t name.end) =
        omega (arith, ap length h.value, ap length n.1, ap (λ d. length (spelled h.child.1 ++ others d h.more)) e) in
        let less : name.end < p.value.start = ordered t p.value.start name.end (inl places.cut.begins) cut.ends fits more in
        omega (arith, less)

label_is : (t : List ℕ) (b : Bool) (k : List ℕ) (v : Json) (more : List Child) (start ne vs : ℕ) (name : Span) (j : Json) → Says t j → mode_at t start ≡ between → name.start ≡ start → name.end ≡ ne → NamesAt t b ((k, v) ∷ more) name → IsCut t name
    → start ≤ ne → ne ≤ vs → vs ≤ length t → (b ≡ false → vs ≡ start) → mode_at t vs ≡ between → left_at t vs ≡ spelled v ++ others b more → IsLabel b k (slice t start ne) (slice t ne vs)
label_is t false k v more start ne vs name j says mode is end names cut low mid high element begins left =
    (empty_slice t start ne (sym end ∙ names ∙ is), empty_slice t ne vs (element refl ∙ sym (sym end ∙ names ∙ is)))
label_is t true k v more start ne vs name j says mode is end names cut low mid high element begins left =
    let text : IsTextOf (slice t start ne) (string k) =
    subst (λ x. IsTextOf (slice t x ne) (string k)) is (subst (λ x. IsTextOf (slice t name.start x) (string k)) end (name_of t j true (k, v) more name says cut names (omega (arith, is, end, low)) (omega (arith, end, mid, high)))) in
    let here : mode_at t ne ≡ between = mode_between t start ne low mode ∙ name_between (slice t start ne) k text.0 in
    let ends : IsEnd t ne = subst (IsEnd t) end cut.ends in
    let behind : left_at t ne ≡ (colon ∷ []) ++ left_at t vs = ap (left_at t) (sym end) ∙ names.1 ∙ ap (λ l. colon ∷ l) (sym left) in
    (text, name_between (slice t start ne) k text.0, slice_lexes t ne vs (colon ∷ []) ends (inl begins) behind mid high, sym (mode_between t ne vs mid here) ∙ begins)

pub five : (a b c d e r : List ℕ) → a ++ (b ++ (c ++ (d ++ (e ++ r)))) ≡ (a ++ (b ++ (c ++ (d ++ e)))) ++ r
five a b c d e r =
    ap (λ x. a ++ (b ++ (c ++ x))) (sym (append_assoc d e r)) ∙ ap (λ x. a ++ (b ++ x)) (sym (append_assoc c (d ++ e) r)) ∙ ap (λ x. a ++ x) (sym (append_assoc b (c ++ (d ++ e)) r)) ∙ sym (append_assoc a (b ++ (c ++ (d ++ e))) r)

-- six places in their order
in_parts : (t : List ℕ) (i s n v e k : ℕ) → i ≤ s → s ≤ n → n ≤ v → v ≤ e → e ≤ k
    → drop i t ≡ (slice t i s ++ (slice t s n ++ (slice t n v ++ (slice t v e ++ slice t e k)))) ++ drop k t
in_parts t i s n v e k a b c d f =
    sym (two_parts t i s a) ∙ ap (λ x. slice t i s ++ x) (sym (two_parts t s n b)) ∙ ap (λ x. slice t i s ++ (slice t s n ++ x)) (sym (two_parts t n v c))
    ∙ ap (λ x. slice t i s ++ (slice t s n ++ (slice t n v ++ x))) (sym (two_parts t v e d)) ∙ ap (λ x. slice t i s ++ (slice t s n ++ (slice t n v ++ (slice t v e ++ x)))) (sym (two_parts t e k f))
    ∙ five (slice t i s) (slice t s n) (slice t n v) (slice t v e) (slice t e k) (drop k t)

-- the pieces are these slices
pub record HasParts (t : List ℕ) (i s n v e k : ℕ) (p : Piece) : Type 0 where
  pub whitespace : p.whitespace ≡ slice t i s
  pub name : p.name ≡ slice t s n
  pub colons : p.colons ≡ slice t n v
  pub value : p.value ≡ slice t v e
  pub trail : p.trail ≡ slice t e k

abbrev sliced : List ℕ → ℕ → ℕ → ℕ → ℕ → ℕ → ℕ → Piece
sliced t i s n v e k = record { whitespace = slice t i s; name = slice t s n; colons = slice t n v; value = slice t v e; trail = slice t e k }

parts_are : (t : List ℕ) (i s n v e k : ℕ) (p : Piece) → HasParts t i s n v e k p → sliced t i s n v e k ≡ p
parts_are t i s n v e k p h = λ x. record { whitespace = (sym h.whitespace) x; name = (sym h.name) x; colons = (sym h.colons) x; value = (sym h.value) x; trail = (sym h.trail) x }

-- behind the comma, where one comes
abbrev pub NextIs : Option ℕ → Option ℕ → ℕ → Type 0
NextIs None o k = o ≡ None
NextIs (Some g) o k = o ≡ Some (k + 1)

module _ (t : List ℕ) (b : Bool) (cs : List Child) (from start k : ℕ) (p : Part) (name : Span) (j : Json) where
  -- what is known at the places of a cut
  pub record AreFound : Type 0 where
    pub says : Says t j
    pub ends_tight : IsTight t
    pub low : from ≤ start
    pub begins : mode_at t from ≡ between
    pub starts : mode_at t start ≡ between
    pub same : left_at t start ≡ left_at t from
    pub part : IsPart t b cs p
    pub places : ArePlaces t p
    pub order : AreInOrder t p
    pub element : b ≡ false → p.value.start ≡ start
    pub name_is : name.start ≡ start
    pub name_low : start ≤ name.end
    pub name_fits : name.end ≤ length t
    pub names : NamesAt t b cs name
    pub name_cut : IsCut t name
    pub high : p.value.end ≤ k
    pub fits : k ≤ length t
    pub left : left_at t k ≡ left_at t p.value.end
    pub ends : IsEnd t p.value.end → IsEnd t k
    pub solid : IsSolid t k

comma_is_not_closing : (b : Bool) {ls ms : List Lexeme} → comma ∷ ls ≡ closing b ∷ ms → ⊥
comma_is_not_closing true e = let never : 44 ≡ 125 = ap kind e in absurd (omega (arith, never))
comma_is_not_closing false e = let never : 44 ≡ 93 = ap kind e in absurd (omega (arith, never))

pub first_cut : (t : List ℕ) (b : Bool) (cs : List Child) (from start k : ℕ) (p : Part) (name : Span) (j : Json) → AreFound t b cs from start k p name j → (c : Cut) → HasParts t from start name.end p.value.start p.value.end k (piece_of c) → NextIs p.next c.next k → CutsFirst t b cs from c
unfolding lexemes_behind
first_cut t b cs from start k p name j a c h next =
    let q = a.part in
    let v = p.value in
    let mid : name.end ≤ v.start = name_before t b cs start p name q a.places a.element a.name_is a.names a.name_cut a.name_fits in
    let are : sliced t from start name.end v.start v.end k ≡ piece_of c = parts_are t from start name.end v.start v.end k (piece_of c) h in
    let names : NamesAt t b (q.child ∷ q.more) name = subst (λ m. NamesAt t b m name) q.is a.names in
    let suits : Suits b q.child (sliced t from start name.end v.start v.end k) = record {
      whitespace = is_whitespace (slice t from start) (slice_lexes t from start [] (inl a.begins) (inl a.starts) (sym a.same) a.low (omega (arith, a.name_low, a.name_fits)));
      label = label_is t b q.child.0 q.child.1 q.more start name.end v.start name j a.says a.starts a.name_is refl names a.name_cut a.name_low mid (omega (arith, a.order.value, a.order.fits)) a.element a.places.cut.begins q.value;
      value = text_of t j q.child.1 (others b q.more) v a.says a.places.cut q.value q.behind a.order.value a.order.fits;
      trail = is_whitespace (slice t v.end k) (slice_lexes t v.end k [] a.places.cut.ends (a.ends a.places.cut.ends) (sym a.left) a.high a.fits);
    } in
    let whole : drop from t ≡ piece_text (piece_of c) ++ drop k t =
    in_parts t from start name.end v.start v.end k a.low a.name_low mid a.order.value a.high ∙ ap (λ x. piece_text x ++ drop k t) are in
    record {
      child = q.child;
      more = q.more;
      is = q.is;
      suits = subst (Suits b q.child) are suits;
      next = by_next p.next c.next q.next next whole;
    }
  where
    by_next : (o r : Option ℕ) → MatchOption o (a.part.more ≡ []) (λ g. (left_at t g ≡ inside b a.part.more) × (others b a.part.more ≡ comma ∷ inside b a.part.more)) → NextIs o r k → drop from t ≡ piece_text (piece_of c) ++ drop k t
        → MatchOption r ((a.part.more ≡ []) × (drop from t ≡ piece_text (piece_of c) ++ (closes b ∷ []))) (λ g. (drop from t ≡ piece_text (piece_of c) ++ (44 ∷ drop g t)) × (left_at t g ≡ inside b a.part.more) × (mode_at t g ≡ between) × (a.part.more ≢ []))
    by_next None r e is whole =
        let left : left_at t k ≡ closing b ∷ [] = a.left ∙ a.part.behind ∙ ap (others b) e in
        subst (λ x. MatchOption x ((a.part.more ≡ []) × (drop from t ≡ piece_text (piece_of c) ++ (closes b ∷ []))) (λ g. (drop from t ≡ piece_text (piece_of c) ++ (44 ∷ drop g t)) × (left_at t g ≡ inside b a.part.more) × (mode_at t g ≡ between) × (a.part.more ≢ []))) (sym is)
        (e, whole ∙ ap (λ l. piece_text (piece_of c) ++ l) (closing_last b t k a.solid a.ends_tight.1 left))
    by_next (Some g) r e is whole =
        let left : left_at t k ≡ comma ∷ inside b a.part.more = a.left ∙ a.part.behind ∙ e.1 in
        let at = operator_by_kind t k 44 (inside b a.part.more) a.solid refl left in
        let behind : drop k t ≡ 44 ∷ drop (k + 1) t = drop_step t k at.0 ∙ ap (λ x. x ∷ drop (k + 1) t) at.1 in
        let more : left_at t (k + 1) ≡ inside b a.part.more = ap lexemes_behind (sym (operator_left t k 44 at.0 at.1 refl) ∙ left) in
        let mode : mode_at t (k + 1) ≡ between = operator_end t k at.0 (ap is_operator at.1) (a.ends a.places.cut.ends) in
        subst (λ x. MatchOption x ((a.part.more ≡ []) × (drop from t ≡ piece_text (piece_of c) ++ (closes b ∷ []))) (λ g. (drop from t ≡ piece_text (piece_of c) ++ (44 ∷ drop g t)) × (left_at t g ≡ inside b a.part.more) × (mode_at t g ≡ between) × (a.part.more ≢ []))) (sym is)
        (whole ∙ ap (λ l. piece_text (piece_of c) ++ l) behind, more, mode, λ none. comma_is_not_closing b (sym e.1 ∙ ap (others b) none))

-- no child is left: whitespace, and the bracket
pub closes_there : (t : List ℕ) (b : Bool) (from start : ℕ) → IsTight t → from ≤ start → start ≤ length t → mode_at t from ≡ between → mode_at t start ≡ between → left_at t start ≡ left_at t from → IsSolid t start → left_at t from ≡ closing b ∷ [] → ClosesAt t b from (slice t from start)
closes_there t b from start tight low high begins starts same solid left =
    let last : drop start t ≡ closes b ∷ [] = closing_last b t start solid tight.1 (same ∙ left) in (
      sym (two_parts t from start low) ∙ ap (λ l. slice t from start ++ l) last,
      is_whitespace (slice t from start) (slice_lexes t from start [] (inl begins) (inl starts) (sym same) low high),
    )

-- the next one's place, where it has one
pub next_place : (t : List ℕ) (b : Bool) (cs : List Child) (from start k : ℕ) (p : Part) (name : Span) (j : Json) → AreFound t b cs from start k p name j → IsUtf8 t → (o : Option ℕ) → NextIs p.next o k → IfSome o (λ g. (from < g) × (g ≤ length t) × IsCharBoundary t g)
next_place t b cs from start k p name j a text o next = by_next p.next a.part.next next
  where
    by_next : (q : Option ℕ) → MatchOption q (a.part.more ≡ []) (λ g. (left_at t g ≡ inside b a.part.more) × (others b a.part.more ≡ comma ∷ inside b a.part.more)) → NextIs q o k → IfSome o (λ g. (from < g) × (g ≤ length t) × IsCharBoundary t g)
    by_next None e is = subst (λ x. IfSome x (λ g. (from < g) × (g ≤ length t) × IsCharBoundary t g)) (sym is) tt
    by_next (Some g) e is =
        let left : left_at t k ≡ comma ∷ inside b a.part.more = a.left ∙ a.part.behind ∙ e.1 in
        let at = operator_by_kind t k 44 (inside b a.part.more) a.solid refl left in
        let mid : name.end ≤ p.value.start = name_before t b cs start p name a.part a.places a.element a.name_is a.names a.name_cut a.name_fits in
        let ascii : get_or t k 0 < 128 = omega (arith, at.1) in
        subst (λ x. IfSome x (λ g. (from < g) × (g ≤ length t) × IsCharBoundary t g)) (sym is)
        (omega (arith, a.low, a.name_low, mid, a.order.value, a.high), omega (arith, at.0), IsCharBoundary-after_ascii t k text at.0 ascii)

-- for the code, which cuts a copy
pub copied : (x t u : List ℕ) (i k : ℕ) → t ≡ u → x ≡ slice u i k → x ≡ slice t i k
copied x t u i k e h = h ∙ ap (λ l. slice l i k) (sym e)

-- ---- a name

-- what a name's text stands for
pub name_content : (s k : List ℕ) → IsTextOf s (string k) → content plain (drop 1 s) ≡ Some k
name_content s k h =
    let at = byte_by_kind s 0 34 (λ n. ap is_space (get_or_default s 0 0 32 n) ∙ h.1.0) (ap kind h.0) (λ z. absurd (omega (arith, z))) in
    (same_string (content plain (drop 1 s)) k _ [] (sym (quote_left s 0 at.0 at.1) ∙ h.0)).0

pub named_by : (s copy k name : List ℕ) (is : Bool) → IsTextOf s (string k) → copy ≡ name → Decides is (content plain (drop 1 s) ≡ Some copy) → Decides is (k ≡ name)
named_by s copy k name is h e d =
    (λ t. same_Some k copy (sym (name_content s k h) ∙ d.0 t) ∙ e, λ t. d.1 (name_content s k h ∙ ap Some (t ∙ sym e)))

-- ---- the whitespace around a text

pub whitespace_around : (t copy a d : List ℕ) (i k : ℕ) → copy ≡ t → i ≤ length copy → left_at copy i ≡ left_at copy 0 → mode_at copy i ≡ between → left_at copy k ≡ [] → a ≡ slice t 0 i → d ≡ drop k t → IsWhitespace a × IsWhitespace d
whitespace_around t copy a d i k e high same begins ends f g =
    let first : IsWhitespace (slice copy 0 i) = is_whitespace (slice copy 0 i) (slice_lexes copy 0 i [] (inl refl) (inl begins) (sym same) (omega arith) high) in
    (subst IsWhitespace (sym (f ∙ ap (λ x. slice x 0 i) (sym e))) first, subst IsWhitespace (sym (g ∙ ap (drop k) (sym e))) (is_whitespace (drop k copy) ends))
