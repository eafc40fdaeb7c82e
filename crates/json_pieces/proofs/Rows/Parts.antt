-- A row in parts: the pieces before one, itself, and those behind it.
use Rattle.std.proofs.Common.{◌≡◌, ℕ, zero, suc, ◌<◌, Bool, List, [], ◌∷◌, ◌++◌, length, take, drop, refl, sym, ap, ap₂, ◌∙◌, subst, arith, append_assoc, take-append-drop, append-nil}
use Rattle.json_text.specs.Cuts.{AllSuit, Piece, Suits, closes, opens, piece_text, pieces_text, row_text}
use Rattle.json_text.specs.Rows.{Child}
use Rattle.json_pieces.specs.PieceLists.{trailed, valued, with_last_trail, with_value}
use Rattle.json_pieces.proofs.Rows.Says.{AllHold}

-- ---- two lists that are the same

pub first_same : {A : Type 0} (a b : A) (l m : List A) → a ∷ l ≡ b ∷ m → a ≡ b
first_same a b l m e = cc

pub rest_same : {A : Type 0} (a b : A) (l m : List A) → a ∷ l ≡ b ∷ m → l ≡ m
rest_same a b l m e = ap (drop 1) e

pub no_cons : {A : Type 0} (a : A) (l : List A) → [] ≡ a ∷ l → ⊥
no_cons a l e = absurd (omega (arith, ap length e))

-- ---- the child of a number

pub record HasChild (n : ℕ) (cs : List Child) : Type 0 where
  pub child : Child
  pub more : List Child
  pub is : drop n cs ≡ child ∷ more

pub child_there : (b : Bool) (cs : List Child) (ps : List Piece) (n : ℕ) → AllSuit b cs ps → n < length ps → HasChild n cs
child_there b [] [] n h l = absurd (omega (arith, l))
child_there b [] (p ∷ ps) n h l = absurd h
child_there b (c ∷ cs) [] n h l = absurd h
child_there b (c ∷ cs) (p ∷ ps) zero h l = record { child = c; more = cs; is = refl }
child_there b (c ∷ cs) (p ∷ ps) (suc n) h l = let r = child_there b cs ps n h.1 (omega (arith, l)) in record { child = r.child; more = r.more; is = r.is }

pub suits_length : (b : Bool) (cs : List Child) (ps : List Piece) → AllSuit b cs ps → length cs ≡ length ps
suits_length b [] [] h = refl
suits_length b [] (p ∷ ps) h = absurd h
suits_length b (c ∷ cs) [] h = absurd h
suits_length b (c ∷ cs) (p ∷ ps) h = ap suc (suits_length b cs ps h.1)

-- ---- the parts fit

-- the child c of number n, which more follow, and its piece
pub record IsPartOf (b : Bool) (cs : List Child) (ps : List Piece) (n : ℕ) (c : Child) (more : List Child) : Type 0 where
  pub piece : Piece
  pub rest : List Piece
  pub is : drop n ps ≡ piece ∷ rest
  pub before : AllSuit b (take n cs) (take n ps)
  pub suits : Suits b c piece
  pub behind : AllSuit b more rest

pub part_of : (b : Bool) (cs : List Child) (ps : List Piece) (n : ℕ) (c : Child) (more : List Child) → AllSuit b cs ps → drop n cs ≡ c ∷ more → IsPartOf b cs ps n c more
part_of b [] [] zero c more h e = absurd (no_cons c more e)
part_of b [] [] (suc n) c more h e = absurd (no_cons c more e)
part_of b [] (p ∷ ps) n c more h e = absurd h
part_of b (d ∷ cs) [] n c more h e = absurd h
part_of b (d ∷ cs) (p ∷ ps) zero c more h e =
    subst (λ l. IsPartOf b (d ∷ cs) (p ∷ ps) zero c l) (ap (drop 1) e)
    (subst (λ x. IsPartOf b (d ∷ cs) (p ∷ ps) zero x cs) (first_same d c cs more e) (record { piece = p; rest = ps; is = refl; before = tt; suits = h.0; behind = h.1 }))
part_of b (d ∷ cs) (p ∷ ps) (suc n) c more h e =
    let r = part_of b cs ps n c more h.1 e in
    record { piece = r.piece; rest = r.rest; is = r.is; before = (h.0, r.before); suits = r.suits; behind = r.behind }

pub joined : {A : Type 0} (n : ℕ) (l : List A) (x : A) (more : List A) → drop n l ≡ x ∷ more → l ≡ take n l ++ (x ∷ more)
joined n l x more e = sym (take-append-drop n l) ∙ ap (λ r. take n l ++ r) e

pub suit_append : (b : Bool) (cs ds : List Child) (ps qs : List Piece) → AllSuit b cs ps → AllSuit b ds qs → AllSuit b (cs ++ ds) (ps ++ qs)
suit_append b [] ds [] qs h k = k
suit_append b [] ds (p ∷ ps) qs h k = absurd h
suit_append b (c ∷ cs) ds [] qs h k = absurd h
suit_append b (c ∷ cs) ds (p ∷ ps) qs h k = (h.0, suit_append b cs ds ps qs h.1 k)

pub hold_append : (b : Bool) (cs ds : List Child) (ps qs : List Piece) → AllHold b cs ps → AllHold b ds qs → AllHold b (cs ++ ds) (ps ++ qs)
hold_append b [] ds [] qs h k = k
hold_append b [] ds (p ∷ ps) qs h k = absurd h
hold_append b (c ∷ cs) ds [] qs h k = absurd h
hold_append b (c ∷ cs) ds (p ∷ ps) qs h k = (h.0, hold_append b cs ds ps qs h.1 k)

pub value_set : (n : ℕ) (s : List ℕ) (ps : List Piece) (p : Piece) (rest : List Piece) → drop n ps ≡ p ∷ rest → with_value n s ps ≡ take n ps ++ (valued s p ∷ rest)
value_set zero s [] p rest e = absurd (no_cons p rest e)
value_set (suc n) s [] p rest e = absurd (no_cons p rest e)
value_set zero s (q ∷ ps) p rest e = ap (λ l. with_value zero s l) e
value_set (suc n) s (q ∷ ps) p rest e = ap (λ l. q ∷ l) (value_set n s ps p rest e)

-- ---- the last

pub record HasLast (b : Bool) (cs : List Child) (ps : List Piece) : Type 0 where
  pub front : List Piece
  pub last : Piece
  pub is : ps ≡ front ++ (last ∷ [])
  pub children : List Child
  pub child : Child
  pub are : cs ≡ children ++ (child ∷ [])
  pub before : AllSuit b children front
  pub suits : Suits b child last

-- a row with a piece more in front of it
further : {b : Bool} {c d : Child} {cs : List Child} {p q : Piece} {ps : List Piece} → Suits b c p → HasLast b (d ∷ cs) (q ∷ ps) → HasLast b (c ∷ d ∷ cs) (p ∷ q ∷ ps)
further {b} {c} {d} {cs} {p} {q} {ps} s r = record {
  front = p ∷ r.front;
  last = r.last;
  is = ap (λ l. p ∷ l) r.is;
  children = c ∷ r.children;
  child = r.child;
  are = ap (λ l. c ∷ l) r.are;
  before = (s, r.before);
  suits = r.suits;
}

pub has_last : (b : Bool) (c : Child) (cs : List Child) (p : Piece) (ps : List Piece) → AllSuit b (c ∷ cs) (p ∷ ps) → HasLast b (c ∷ cs) (p ∷ ps)
has_last b c [] p [] h = record { front = []; last = p; is = refl; children = []; child = c; are = refl; before = tt; suits = h.0 }
has_last b c [] p (q ∷ ps) h = absurd h.1
has_last b c (d ∷ cs) p [] h = absurd h.1
has_last b c (d ∷ cs) p (q ∷ ps) h = further h.0 (has_last b d cs q ps h.1)

pub trail_set : (s : List ℕ) (front : List Piece) (p : Piece) → with_last_trail s (front ++ (p ∷ [])) ≡ front ++ (trailed s p ∷ [])
trail_set s [] p = refl
trail_set s (q ∷ []) p = refl
trail_set s (q ∷ r ∷ front) p = ap (λ l. q ∷ l) (trail_set s (r ∷ front) p)

-- ---- the text

-- the byte before the next piece
abbrev pub mark : ℕ → List Piece → ℕ
mark x [] = x
mark x (p ∷ ps) = 44

-- up to that byte
abbrev pub up_to : ℕ → List Piece → List ℕ
up_to x pre = pieces_text x pre ++ (mark x pre ∷ [])

-- behind a piece
abbrev pub rest_text : Bool → List Piece → List ℕ
rest_text b post = pieces_text 44 post ++ (closes b ∷ [])

comma_mark : (pre : List Piece) → mark 44 pre ≡ 44
comma_mark [] = refl
comma_mark (p ∷ pre) = refl

split_text : (x : ℕ) (pre post : List Piece) → pieces_text x (pre ++ post) ≡ pieces_text x pre ++ pieces_text (mark x pre) post
split_text x [] post = refl
split_text x (p ∷ pre) post =
    ap (λ l. x ∷ (piece_text p ++ l)) (split_text 44 pre post ∙ ap (λ m. pieces_text 44 pre ++ pieces_text m post) (comma_mark pre))
    ∙ ap (λ l. x ∷ l) (sym (append_assoc (piece_text p) (pieces_text 44 pre) (pieces_text 44 post)))

row_some : (b : Bool) (hollow : List ℕ) (pre : List Piece) (p : Piece) (post : List Piece) → row_text b hollow (pre ++ (p ∷ post)) ≡ pieces_text (opens b) (pre ++ (p ∷ post)) ++ (closes b ∷ [])
row_some b hollow [] p post = refl
row_some b hollow (q ∷ pre) p post = refl

pub row_split : (b : Bool) (hollow : List ℕ) (pre : List Piece) (p : Piece) (post : List Piece) → row_text b hollow (pre ++ (p ∷ post)) ≡ up_to (opens b) pre ++ (piece_text p ++ rest_text b post)
row_split b hollow pre p post = row_some b hollow pre p post ∙ ap (λ l. l ++ (closes b ∷ [])) (split_text (opens b) pre (p ∷ post)) ∙ simp append_assoc

-- up to the comma behind one more
pub up_to_next : (x : ℕ) (pre : List Piece) (p : Piece) → up_to x (pre ++ (p ∷ [])) ≡ up_to x pre ++ (piece_text p ++ (44 ∷ []))
up_to_next x pre p = ap₂ (λ l m. l ++ (m ∷ [])) (split_text x pre (p ∷ [])) (behind pre) ∙ simp (append_assoc, append-nil)
  where
    behind : (l : List Piece) → mark x (l ++ (p ∷ [])) ≡ 44
    behind [] = refl
    behind (q ∷ l) = refl
