-- A row without one of its pieces.
use Rattle.std.proofs.Common.{◌≡◌, inl, inr, ℕ, suc, Bool, true, false, List, [], ◌∷◌, ◌++◌, take, drop, None, refl, sym, ap, ap₂, ◌∙◌, subst, append_assoc, append-nil}
use Rattle.json.specs.Json.{Json}
use Rattle.json.specs.Lex.{Lexeme, comma, between, lex}
use Rattle.json_text.specs.Cuts.{AllSuit, IsLabel, IsWhitespace, Piece, Suits, closes, opens, row_text}
use Rattle.json_text.specs.Less.{IsLess, IsLessText, IsNumberOf, IsObject, IsWithout}
use Rattle.json_text.specs.Pointed.{child, StandsBetween}
use Rattle.json_text.specs.Removed.{AreCutOut, IsCutOut, IsPiece, IsTightFront}
use Rattle.json_text.specs.Rows.{Child, naming, tree_in}
use Rattle.json_lexemes.proofs.Nests.{one_tree}
use Rattle.json_text.proofs.Rows.Cuts.{is_naming, no_comma}
use Rattle.json_text.proofs.Rows.Leads.{comma_lead, Lead, leads}
use Rattle.json_text.proofs.Rows.Less.{chosen}
use Rattle.json_text.proofs.Rows.Objects.{all_gone, first_less, next_less, one_gone}
use Rattle.json_pieces.specs.PieceLists.{led, taken, taken_by, taken_from, trailed, with_last_trail}
use Rattle.json_pieces.proofs.Rows.Parts.{HasLast, has_last, joined, part_of, rest_text, row_split, suit_append, trail_set, up_to, up_to_next}
use Rattle.json_pieces.proofs.Rows.Says.{closes_lex, closes_tight, front_lead, holds, label_lead, opens_end, row_says, tight_end, tight_front, whitespace_lead}
use Rattle.json_pieces.proofs.Rows.Stands.{before_value, behind_value, part_stands, value_split}

pub lead_lex : (s : List ℕ) (L : List Lexeme) → Lead s L → lex between s ≡ L
unfolding lex
lead_lex s L h = ap (lex between) (sym (append-nil s)) ∙ h.lexed [] ∙ append-nil L

-- a piece begins with its name or its value
pub label_front : (b : Bool) (k name colons s : List ℕ) → IsLabel b k name colons → IsTightFront s → IsTightFront (name ++ (colons ++ s))
label_front true k name colons s h e = tight_front name (colons ++ s) h.0.1.0
label_front false k name colons s h e = subst IsTightFront (sym (ap₂ (λ x y. x ++ (y ++ s)) h.0 h.1)) e

-- behind the last no comma comes
pub last_behind : (b : Bool) (s : List ℕ) → IsWhitespace s → (ls : List Lexeme) → lex between (s ++ (closes b ∷ [])) ≡ comma ∷ ls → ⊥
last_behind b s h ls e = no_comma b ls (sym (closes_lex b) ∙ sym ((whitespace_lead s h).lexed (closes b ∷ [])) ∙ e)

-- ---- the text

-- a piece that is cut out with the value
cut_by : (b : Bool) (hollow : List ℕ) (pre : List Piece) (p : Piece) (post : List Piece) (v : Json) (t before front back behind new : List ℕ) → before_value b pre p ≡ before ++ front → behind_value b p post ≡ back ++ behind
    → StandsBetween (before_value b pre p) p.value (behind_value b p post) v (t ∷ []) → IsPiece before front p.value back behind → new ≡ before ++ behind → IsCutOut (row_text b hollow (pre ++ (p ∷ post))) v t new
cut_by b hollow pre p post v t before front back behind new e f stands piece cut = record {
  before = before;
  front = front;
  value = p.value;
  back = back;
  behind = behind;
  whole = value_split b hollow pre p post ∙ ap₂ (λ x y. x ++ (p.value ++ y)) e f ∙ append_assoc before front (p.value ++ (back ++ behind));
  stood = subst (λ x. StandsBetween x p.value (back ++ behind) v (t ∷ [])) e (subst (λ y. StandsBetween (before_value b pre p) p.value y v (t ∷ [])) f stands);
  piece = piece;
  cut = cut;
}

cut_up_to_next : (b : Bool) (hollow hollow2 : List ℕ) (c d : Child) (pre : List Piece) (p q : Piece) (post : List Piece) (v : Json) (t : List ℕ) → Suits b c p → Suits b d q
    → StandsBetween (before_value b pre p) p.value (behind_value b p (q ∷ post)) v (t ∷ []) → IsCutOut (row_text b hollow (pre ++ (p ∷ q ∷ post))) v t (row_text b hollow2 (pre ++ (led p.whitespace q ∷ post)))
cut_up_to_next b hollow hollow2 c d pre p q post v t s u stands =
    let before = up_to (opens b) pre ++ p.whitespace in
    let behind = q.name ++ (q.colons ++ (q.value ++ (q.trail ++ rest_text b post))) in
    let first : before_value b pre p ≡ before ++ (p.name ++ p.colons) = sym (append_assoc (up_to (opens b) pre) p.whitespace (p.name ++ p.colons)) in
    let second : behind_value b p (q ∷ post) ≡ (p.trail ++ (44 ∷ q.whitespace)) ++ behind = simp append_assoc in
    let new : row_text b hollow2 (pre ++ (led p.whitespace q ∷ post)) ≡ before ++ behind = row_split b hollow2 pre (led p.whitespace q) post ∙ simp append_assoc in
    let begins : IsTightFront ((p.name ++ p.colons) ++ p.value) = subst IsTightFront (sym (append_assoc p.name p.colons p.value)) (label_front b c.0 p.name p.colons p.value s.label s.value.1.0) in
    cut_by b hollow pre p (q ∷ post) v t before (p.name ++ p.colons) (p.trail ++ (44 ∷ q.whitespace)) behind (row_text b hollow2 (pre ++ (led p.whitespace q ∷ post))) first second stands (
      naming b c.0,
      is_naming b c.0,
      inl (
        begins,
        lead_lex (p.name ++ p.colons) (naming b c.0) (label_lead b c.0 p.name p.colons s.label),
        lead_lex (p.trail ++ (44 ∷ q.whitespace)) (comma ∷ []) (leads p.trail (44 ∷ q.whitespace) [] (comma ∷ []) (whitespace_lead p.trail s.trail) (comma_lead q.whitespace [] (whitespace_lead q.whitespace u.whitespace))),
        label_front b d.0 q.name q.colons (q.value ++ (q.trail ++ rest_text b post)) u.label (tight_front q.value (q.trail ++ rest_text b post) u.value.1.0),
      ),
    ) new

cut_last : (b : Bool) (hollow hollow2 : List ℕ) (c d : Child) (pre : List Piece) (o p : Piece) (v : Json) (t : List ℕ) → Suits b c p → Suits b d o
    → StandsBetween (before_value b (pre ++ (o ∷ [])) p) p.value (behind_value b p []) v (t ∷ []) → IsCutOut (row_text b hollow ((pre ++ (o ∷ [])) ++ (p ∷ []))) v t (row_text b hollow2 (pre ++ (trailed p.trail o ∷ [])))
cut_last b hollow hollow2 c d pre o p v t s u stands =
    let before = up_to (opens b) pre ++ (o.whitespace ++ (o.name ++ (o.colons ++ o.value))) in
    let front = o.trail ++ (44 ∷ (p.whitespace ++ (p.name ++ p.colons))) in
    let behind = p.trail ++ (closes b ∷ []) in
    let first : before_value b (pre ++ (o ∷ [])) p ≡ before ++ front = ap (λ x. x ++ (p.whitespace ++ (p.name ++ p.colons))) (up_to_next (opens b) pre o) ∙ simp append_assoc in
    let new : row_text b hollow2 (pre ++ (trailed p.trail o ∷ [])) ≡ before ++ behind = row_split b hollow2 pre (trailed p.trail o) [] ∙ simp append_assoc in
    cut_by b hollow (pre ++ (o ∷ [])) p [] v t before front [] behind (row_text b hollow2 (pre ++ (trailed p.trail o ∷ []))) first refl stands (
      naming b c.0,
      is_naming b c.0,
      inr (inl (
        tight_end (up_to (opens b) pre) _ (tight_end o.whitespace _ (tight_end o.name _ (tight_end o.colons o.value u.value.1.1))),
        lead_lex front (comma ∷ naming b c.0) (leads o.trail (44 ∷ (p.whitespace ++ (p.name ++ p.colons))) [] (comma ∷ naming b c.0) (whitespace_lead o.trail u.trail) (comma_lead (p.whitespace ++ (p.name ++ p.colons)) (naming b c.0) (front_lead b c p (holds s)))),
        refl,
        last_behind b p.trail s.trail,
      )),
    ) new

cut_alone : (b : Bool) (hollow : List ℕ) (c : Child) (p : Piece) (v : Json) (t : List ℕ) → Suits b c p → StandsBetween (before_value b [] p) p.value (behind_value b p []) v (t ∷ []) → IsCutOut (row_text b hollow (p ∷ [])) v t (row_text b [] [])
cut_alone b hollow c p v t s stands =
    cut_by b hollow [] p [] v t (opens b ∷ []) (p.whitespace ++ (p.name ++ p.colons)) p.trail (closes b ∷ []) (row_text b [] []) refl refl stands (
      naming b c.0,
      is_naming b c.0,
      inr (inr (opens_end b, lead_lex (p.whitespace ++ (p.name ++ p.colons)) (naming b c.0) (front_lead b c p (holds s)), s.trail.0, closes_tight b [])),
    ) refl

part_cut : (b : Bool) (hollow hollow2 : List ℕ) (cs : List Child) (c : Child) (ds : List Child) (pre : List Piece) (p : Piece) (post : List Piece) (v : Json) (t : List ℕ) → AllSuit b cs pre → Suits b c p → AllSuit b ds post
    → StandsBetween (before_value b pre p) p.value (behind_value b p post) v (t ∷ []) → (taken_from pre p post ≡ [] → hollow2 ≡ []) → IsCutOut (row_text b hollow (pre ++ (p ∷ post))) v t (row_text b hollow2 (taken_from pre p post))
part_cut b hollow hollow2 cs c [] pre p (q ∷ post) v t h s k stands e = absurd k
part_cut b hollow hollow2 cs c (d ∷ ds) pre p (q ∷ post) v t h s k stands e = cut_up_to_next b hollow hollow2 c d pre p q post v t s k.0 stands
part_cut b hollow hollow2 cs c ds [] p [] v t h s k stands e = subst (λ x. IsCutOut (row_text b hollow (p ∷ [])) v t (row_text b x [])) (sym (e refl)) (cut_alone b hollow c p v t s stands)
part_cut b hollow hollow2 [] c ds (o ∷ pre) p [] v t h s k stands e = absurd h
part_cut b hollow hollow2 (d ∷ cs) c ds (o ∷ pre) p [] v t h s k stands e = by_last (has_last b d cs o pre h)
  where
    by_last : HasLast b (d ∷ cs) (o ∷ pre) → IsCutOut (row_text b hollow ((o ∷ pre) ++ (p ∷ []))) v t (row_text b hollow2 (with_last_trail p.trail (o ∷ pre)))
    by_last r =
        let there = subst (λ l. StandsBetween (before_value b l p) p.value (behind_value b p []) v (t ∷ [])) r.is stands in
        let cut = cut_last b hollow hollow2 c r.child r.front r.last p v t s r.suits there in
        let new : with_last_trail p.trail (o ∷ pre) ≡ r.front ++ (trailed p.trail r.last ∷ []) = ap (with_last_trail p.trail) r.is ∙ trail_set p.trail r.front r.last in
        subst (λ l. IsCutOut (row_text b hollow (l ++ (p ∷ []))) v t (row_text b hollow2 (with_last_trail p.trail (o ∷ pre)))) (sym r.is)
        (subst (λ l. IsCutOut (row_text b hollow ((r.front ++ (r.last ∷ [])) ++ (p ∷ []))) v t (row_text b hollow2 l)) (sym new) cut)

-- ---- the pieces

trail_suits : (b : Bool) (s : List ℕ) (cs : List Child) (ps : List Piece) → IsWhitespace s → AllSuit b cs ps → AllSuit b cs (with_last_trail s ps)
trail_suits b s [] [] e h = tt
trail_suits b s [] (p ∷ ps) e h = absurd h
trail_suits b s (c ∷ cs) [] e h = absurd h
trail_suits b s (c ∷ []) (p ∷ []) e h = (record { whitespace = h.0.whitespace; label = h.0.label; value = h.0.value; trail = e }, tt)
trail_suits b s (c ∷ []) (p ∷ q ∷ ps) e h = absurd h.1
trail_suits b s (c ∷ d ∷ cs) (p ∷ []) e h = absurd h.1
trail_suits b s (c ∷ d ∷ cs) (p ∷ q ∷ ps) e h = (h.0, trail_suits b s (d ∷ cs) (q ∷ ps) e h.1)

part_suits : (b : Bool) (cs : List Child) (c : Child) (ds : List Child) (pre : List Piece) (p : Piece) (post : List Piece) → AllSuit b cs pre → Suits b c p → AllSuit b ds post → AllSuit b (cs ++ ds) (taken_from pre p post)
part_suits b cs c [] pre p [] h s k = subst (λ l. AllSuit b l (with_last_trail p.trail pre)) (sym (append-nil cs)) (trail_suits b p.trail cs pre s.trail h)
part_suits b cs c (d ∷ ds) pre p [] h s k = absurd k
part_suits b cs c [] pre p (q ∷ post) h s k = absurd k
part_suits b cs c (d ∷ ds) pre p (q ∷ post) h s k =
    suit_append b cs (d ∷ ds) pre (led p.whitespace q ∷ post) h (record { whitespace = s.whitespace; label = k.0.label; value = k.0.value; trail = k.0.trail }, k.1)

pub taken_suits : (b : Bool) (cs : List Child) (ps : List Piece) (n : ℕ) (c : Child) (more : List Child) → AllSuit b cs ps → drop n cs ≡ c ∷ more → AllSuit b (take n cs ++ more) (taken n ps)
taken_suits b cs ps n c more h e =
    let r = part_of b cs ps n c more h e in
    subst (λ l. AllSuit b (take n cs ++ more) (taken_by (take n ps) l)) (sym r.is) (part_suits b (take n cs) c more (take n ps) r.piece r.rest r.before r.suits r.behind)

-- where none is left, hollow2 has to be empty
pub taken_cut : (b : Bool) (hollow hollow2 : List ℕ) (cs : List Child) (ps : List Piece) (n : ℕ) (c : Child) (more : List Child) (t : List ℕ) → AllSuit b cs ps → IsNumberOf b cs t n → drop n cs ≡ c ∷ more → (taken n ps ≡ [] → hollow2 ≡ [])
    → IsCutOut (row_text b hollow ps) (tree_in b cs) t (row_text b hollow2 (taken n ps))
taken_cut b hollow hollow2 cs ps n c more t h at e none =
    let r = part_of b cs ps n c more h e in
    let is : taken n ps ≡ taken_from (take n ps) r.piece r.rest = ap (taken_by (take n ps)) r.is in
    let cut = part_cut b hollow hollow2 (take n cs) c more (take n ps) r.piece r.rest (tree_in b cs) t r.before r.suits r.behind (part_stands b cs ps n c more t r at e) (λ z. none (is ∙ z)) in
    subst (λ l. IsCutOut (row_text b hollow l) (tree_in b cs) t (row_text b hollow2 (taken n ps))) (sym (joined n ps r.piece r.rest r.is))
    (subst (λ l. IsCutOut (row_text b hollow (take n ps ++ (r.piece ∷ r.rest))) (tree_in b cs) t (row_text b hollow2 l)) (sym is) cut)

pub taken_less : (b : Bool) (hollow hollow2 : List ℕ) (cs : List Child) (ps : List Piece) (n : ℕ) (c : Child) (more : List Child) (t : List ℕ) → AllSuit b cs ps → IsNumberOf b cs t n → drop n cs ≡ c ∷ more → (taken n ps ≡ [] → hollow2 ≡ []) → IsWhitespace hollow2
    → IsLessText (row_text b hollow ps) (tree_in b cs) t (row_text b hollow2 (taken n ps))
taken_less b hollow hollow2 cs ps n c more t h at e none whitespace = (
  taken_cut b hollow hollow2 cs ps n c more t h at e none,
  tree_in b (take n cs ++ more),
  row_says b hollow2 (take n cs ++ more) (taken n ps) (taken_suits b cs ps n c more h e) whitespace,
  (chosen b cs t n c more at e).less,
)

-- ---- all that a token names

-- the row is the text, which says v, with some cut out for t
pub record IsLessRow (text : List ℕ) (v : Json) (t : List ℕ) (b : Bool) (hollow : List ℕ) (ps : List Piece) : Type 0 where
  pub children : List Child
  pub suits : AllSuit b children ps
  pub whitespace : IsWhitespace hollow
  pub cut : (n : ℕ) × AreCutOut (suc n) text v t (row_text b hollow ps)
  pub less : IsLess t v (tree_in b children)

pub first_taken : (b : Bool) (hollow hollow2 : List ℕ) (cs : List Child) (ps : List Piece) (n : ℕ) (c : Child) (more : List Child) (t : List ℕ) → AllSuit b cs ps → IsWhitespace hollow → IsNumberOf b cs t n → drop n cs ≡ c ∷ more → (taken n ps ≡ [] → hollow2 ≡ []) → IsWhitespace hollow2
    → IsLessRow (row_text b hollow ps) (tree_in b cs) t b hollow2 (taken n ps)
first_taken b hollow hollow2 cs ps n c more t h whitespace at e none whitespace2 =
    let a = first_less (row_text b hollow ps) (tree_in b cs) t (row_text b hollow2 (taken n ps)) (row_says b hollow cs ps h whitespace) (taken_less b hollow hollow2 cs ps n c more t h at e none whitespace2) in
    let suits = taken_suits b cs ps n c more h e in
    let same = one_tree (row_text b hollow2 (taken n ps)) a.1 (tree_in b (take n cs ++ more)) a.2 (row_says b hollow2 (take n cs ++ more) (taken n ps) suits whitespace2) in
    record { children = take n cs ++ more; suits = suits; whitespace = whitespace2; cut = a.0; less = subst (IsLess t (tree_in b cs)) same a.3 }

pub next_taken : (text : List ℕ) (v : Json) (t : List ℕ) (b : Bool) (hollow hollow2 : List ℕ) (ps : List Piece) (n : ℕ) (c : Child) (more : List Child) → IsObject v → (r : IsLessRow text v t b hollow ps) → IsNumberOf b r.children t n → drop n r.children ≡ c ∷ more → (taken n ps ≡ [] → hollow2 ≡ []) → IsWhitespace hollow2
    → IsLessRow text v t b hollow2 (taken n ps)
next_taken text v t b hollow hollow2 ps n c more y r at e none whitespace2 =
    let l = taken_less b hollow hollow2 r.children ps n c more t r.suits at e none whitespace2 in
    let a = next_less text v t (row_text b hollow ps) (row_text b hollow2 (taken n ps)) y (r.cut, tree_in b r.children, row_says b hollow r.children ps r.suits r.whitespace, r.less) l in
    let suits = taken_suits b r.children ps n c more r.suits e in
    let same = one_tree (row_text b hollow2 (taken n ps)) a.1 (tree_in b (take n r.children ++ more)) a.2 (row_says b hollow2 (take n r.children ++ more) (taken n ps) suits whitespace2) in
    record { children = take n r.children ++ more; suits = suits; whitespace = whitespace2; cut = a.0; less = subst (IsLess t v) same a.3 }

-- of an object none is left
pub all_taken : (text : List ℕ) (v : Json) (t : List ℕ) (b : Bool) (hollow : List ℕ) (ps : List Piece) → IsObject v → (r : IsLessRow text v t b hollow ps) → child t (tree_in b r.children) ≡ None → IsWithout text v t (row_text b hollow ps)
all_taken text v t b hollow ps y r none = all_gone text v t (row_text b hollow ps) y (r.cut, tree_in b r.children, row_says b hollow r.children ps r.suits r.whitespace, r.less) none

-- of an array there was one
pub one_taken : (text : List ℕ) (v : Json) (t : List ℕ) (b : Bool) (hollow : List ℕ) (ps : List Piece) → ¬ IsObject v → IsLessRow text v t b hollow ps → IsWithout text v t (row_text b hollow ps)
one_taken text v t b hollow ps n r = one_gone text v t (row_text b hollow ps) n (r.cut, tree_in b r.children, row_says b hollow r.children ps r.suits r.whitespace, r.less)
