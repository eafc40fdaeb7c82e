-- How long a row's text is before and after a change.
use Rattle.std.proofs.Common.{◌≡◌, ℕ, zero, suc, ◌+◌, ◌<◌, ◌≤◌, Bool, true, false, List, [], ◌∷◌, ◌++◌, length, take, drop, get_or, refl, sym, ap, ap₂, ◌∙◌, subst, arith, length-append}
use Rattle.std.specs.List.{remove}
use Rattle.json_text.specs.Cuts.{Piece, row_text}
use Rattle.json_text.specs.Styled.{colons_like, whitespace_like}
use Rattle.json_pieces.specs.Nodes.{piece_with, text_bytes, tree_text, view}
use Rattle.json_pieces.specs.PieceLists.{element_between, element_pushed, element_put, element_put_by, led, member_like, member_pushed, taken, taken_by, trailed}
use Rattle.json_pieces.specs.declared.node.Node.{Node}
use Rattle.json_pieces.specs.declared.seams.Seam.{Seam}
use Rattle.json_pieces.proofs.Lists.{AreSoundIn, no_pieces, pieces_are, pieces_in}
use Rattle.json_pieces.proofs.Rows.Moves.{own_like}
use Rattle.json_pieces.proofs.Rows.Parts.{first_same, joined, no_cons, rest_same, row_split, trail_set}
use Rattle.json_pieces.proofs.Rows.Put.{element_set, member_set}

-- ---- over pieces

next_size : (b : Bool) (hollow hollow2 : List ℕ) (pre : List Piece) (p q : Piece) (post : List Piece)
    → length (row_text b hollow (pre ++ (p ∷ q ∷ post))) ≡ length (row_text b hollow2 (pre ++ (led p.whitespace q ∷ post))) + (length q.whitespace + length p.name + length p.colons + length p.trail + length p.value + 1)
next_size b hollow hollow2 pre p q post =
    let old = simp length-append at (ap length (row_split b hollow pre p (q ∷ post))) in
    let new = simp length-append at (ap length (row_split b hollow2 pre (led p.whitespace q) post)) in
    omega (arith, old, new)

last_size : (b : Bool) (hollow hollow2 : List ℕ) (pre : List Piece) (o p : Piece)
    → length (row_text b hollow (pre ++ (o ∷ p ∷ []))) ≡ length (row_text b hollow2 (pre ++ (trailed p.trail o ∷ []))) + (length p.whitespace + length p.name + length p.colons + length o.trail + length p.value + 1)
last_size b hollow hollow2 pre o p =
    let old = simp length-append at (ap length (row_split b hollow pre o (p ∷ []))) in
    let new = simp length-append at (ap length (row_split b hollow2 pre (trailed p.trail o) [])) in
    omega (arith, old, new)

pushed_size : (b : Bool) (hollow hollow2 : List ℕ) (pre : List Piece) (o new : Piece)
    → length (row_text b hollow2 (pre ++ (trailed [] o ∷ new ∷ []))) + length o.trail ≡ length (row_text b hollow (pre ++ (o ∷ []))) + (length new.whitespace + length new.name + length new.colons + length new.trail + length new.value + 1)
pushed_size b hollow hollow2 pre o new =
    let old = simp length-append at (ap length (row_split b hollow pre o [])) in
    let more = simp length-append at (ap length (row_split b hollow2 pre (trailed [] o) (new ∷ []))) in
    omega (arith, old, more)

trail_fits : (b : Bool) (hollow : List ℕ) (pre : List Piece) (o : Piece) (post : List Piece) → length o.trail ≤ length (row_text b hollow (pre ++ (o ∷ post)))
trail_fits b hollow pre o post =
    let old = simp length-append at (ap length (row_split b hollow pre o post)) in
    omega (arith, old)

whitespace_fits : (b : Bool) (hollow : List ℕ) (pre : List Piece) (o : Piece) (post : List Piece) → length o.whitespace ≤ length (row_text b hollow (pre ++ (o ∷ post)))
whitespace_fits b hollow pre o post =
    let old = simp length-append at (ap length (row_split b hollow pre o post)) in
    omega (arith, old)

put_before_size : (b : Bool) (hollow hollow2 like : List ℕ) (pre : List Piece) (p new : Piece) (post : List Piece)
    → length (row_text b hollow2 (pre ++ (new ∷ led like p ∷ post))) + length p.whitespace ≡ length (row_text b hollow (pre ++ (p ∷ post))) + length like + (length new.whitespace + length new.name + length new.colons + length new.trail + length new.value + 1)
put_before_size b hollow hollow2 like pre p new post =
    let old = simp length-append at (ap length (row_split b hollow pre p post)) in
    let more = simp length-append at (ap length (row_split b hollow2 pre new (led like p ∷ post))) in
    omega (arith, old, more)

-- ---- the pieces of some number

take_more : {A : Type 0} (n : ℕ) (l : List A) (x : A) (rest : List A) → drop n l ≡ x ∷ rest → take (suc n) l ≡ take n l ++ (x ∷ [])
take_more zero [] x rest e = absurd (no_cons x rest e)
take_more (suc n) [] x rest e = absurd (no_cons x rest e)
take_more zero (a ∷ l) x rest e = ap (λ y. y ∷ []) (first_same a x l rest e)
take_more (suc n) (a ∷ l) x rest e = ap (λ y. a ∷ y) (take_more n l x rest e)

drop_more : {A : Type 0} (n : ℕ) (l : List A) (x : A) (rest : List A) → drop n l ≡ x ∷ rest → drop (suc n) l ≡ rest
drop_more zero [] x rest e = absurd (no_cons x rest e)
drop_more (suc n) [] x rest e = absurd (no_cons x rest e)
drop_more zero (a ∷ l) x rest e = rest_same a x l rest e
drop_more (suc n) (a ∷ l) x rest e = drop_more n l x rest e

-- the piece of the seam t
record IsAt (ss : List Seam) (vs : List Node) (n : ℕ) (t : Seam) : Type 0 where
  text : List ℕ
  rest : List Piece
  is : drop n (pieces_in ss vs) ≡ piece_with t text ∷ rest

seam_at : (ss : List Seam) (vs : List Node) (n : ℕ) (t : Seam) → AreSoundIn ss vs → n < length vs → t ≡ get_or ss n t → IsAt ss vs n t
seam_at [] [] n t h l e = absurd (omega (arith, l))
seam_at [] (v ∷ vs) n t h l e = absurd h
seam_at (a ∷ ss) [] n t h l e = absurd h
seam_at (a ∷ ss) (v ∷ vs) zero t h l e = record { text = tree_text (view v); rest = pieces_in ss vs; is = ap (λ x. piece_with x (tree_text (view v)) ∷ pieces_in ss vs) (sym e) }
seam_at (a ∷ ss) (v ∷ vs) (suc n) t h l e = let r = seam_at ss vs n t h.1 (omega (arith, l)) e in record { text = r.text; rest = r.rest; is = r.is }

-- that of s, which is to be taken out, and the next one
record AreNext (ss : List Seam) (vs : List Node) (n : ℕ) (s t : Seam) (v : Node) : Type 0 where
  text : List ℕ
  rest : List Piece
  is : drop n (pieces_in ss vs) ≡ piece_with s (tree_text (view v)) ∷ piece_with t text ∷ rest

next_at : (ss : List Seam) (vs : List Node) (n : ℕ) (s t : Seam) (v : Node) → AreSoundIn ss vs → suc n < length vs → s ≡ get_or ss n s → t ≡ get_or (remove ss n) n t → v ≡ get_or vs n v → AreNext ss vs n s t v
next_at [] [] n s t v h l e f g = absurd (omega (arith, l))
next_at [] (w ∷ vs) n s t v h l e f g = absurd h
next_at (a ∷ ss) [] n s t v h l e f g = absurd h
next_at (a ∷ ss) (w ∷ []) zero s t v h l e f g = absurd (omega (arith, l))
next_at (a ∷ []) (w ∷ z ∷ vs) zero s t v h l e f g = absurd h.1
next_at (a ∷ b ∷ ss) (w ∷ z ∷ vs) zero s t v h l e f g = record {
  text = tree_text (view z);
  rest = pieces_in ss vs;
  is = ap₂ (λ x y. x ∷ y ∷ pieces_in ss vs) (ap₂ (λ x y. piece_with x (tree_text (view y))) (sym e) (sym g)) (ap (λ x. piece_with x (tree_text (view z))) (sym f));
}
next_at (a ∷ ss) (w ∷ vs) (suc n) s t v h l e f g = let r = next_at ss vs n s t v h.1 (omega (arith, l)) e f g in record { text = r.text; rest = r.rest; is = r.is }

-- that of the last, s, which is to be taken out, and the one before
record AreLast (ss : List Seam) (vs : List Node) (n : ℕ) (s t : Seam) (v : Node) : Type 0 where
  text : List ℕ
  is : drop n (pieces_in ss vs) ≡ piece_with t text ∷ piece_with s (tree_text (view v)) ∷ []

last_at : (ss : List Seam) (vs : List Node) (n : ℕ) (s t : Seam) (v : Node) → AreSoundIn ss vs → length vs ≡ suc (suc n) → s ≡ get_or ss (suc n) s → t ≡ get_or (remove ss (suc n)) n t → v ≡ get_or vs (suc n) v → AreLast ss vs n s t v
last_at [] [] n s t v h l e f g = absurd (omega (arith, l))
last_at [] (w ∷ vs) n s t v h l e f g = absurd h
last_at (a ∷ ss) [] n s t v h l e f g = absurd h
last_at (a ∷ ss) (w ∷ []) n s t v h l e f g = absurd (omega (arith, l))
last_at (a ∷ []) (w ∷ z ∷ vs) n s t v h l e f g = absurd h.1
last_at (a ∷ b ∷ []) (w ∷ z ∷ []) zero s t v h l e f g = record {
  text = tree_text (view w);
  is = ap₂ (λ x y. x ∷ y ∷ []) (ap (λ x. piece_with x (tree_text (view w))) (sym f)) (ap₂ (λ x y. piece_with x (tree_text (view y))) (sym e) (sym g));
}
last_at (a ∷ b ∷ c ∷ ss) (w ∷ z ∷ []) zero s t v h l e f g = absurd h.1.1
last_at (a ∷ b ∷ ss) (w ∷ z ∷ u ∷ vs) zero s t v h l e f g = absurd (omega (arith, l))
last_at (a ∷ b ∷ ss) (w ∷ z ∷ vs) (suc n) s t v h l e f g = let r = last_at (b ∷ ss) (z ∷ vs) n s t v h.1 (omega (arith, l)) e f g in record { text = r.text; is = r.is }

-- ---- one less

pub take_next_size : (b : Bool) (hollow hollow2 : List ℕ) (ss : List Seam) (vs : List Node) (n : ℕ) (s t : Seam) (v : Node) → AreSoundIn ss vs → suc n < length vs → s ≡ get_or ss n s → t ≡ get_or (remove ss n) n t → v ≡ get_or vs n v
    → length (row_text b hollow (pieces_in ss vs)) ≡ length (row_text b hollow2 (taken n (pieces_in ss vs))) + (length (text_bytes t.whitespace) + length (text_bytes s.name) + length (text_bytes s.colons) + length (text_bytes s.trail) + length (tree_text (view v)) + 1)
take_next_size b hollow hollow2 ss vs n s t v h l e f g =
    let ps = pieces_in ss vs in
    let r = next_at ss vs n s t v h l e f g in
    let p = piece_with s (tree_text (view v)) in
    let q = piece_with t r.text in
    ap (λ x. length (row_text b hollow x)) (joined n ps p (q ∷ r.rest) r.is) ∙ next_size b hollow hollow2 (take n ps) p q r.rest
    ∙ ap (λ x. length (row_text b hollow2 (taken_by (take n ps) x)) + (length q.whitespace + length p.name + length p.colons + length p.trail + length p.value + 1)) (sym r.is)

pub take_last_size : (b : Bool) (hollow hollow2 : List ℕ) (ss : List Seam) (vs : List Node) (m n : ℕ) (s t : Seam) (v : Node) → m ≡ n + 1 → AreSoundIn ss vs → length vs ≡ m + 1 → s ≡ get_or ss m s → t ≡ get_or (remove ss m) n t → v ≡ get_or vs m v
    → length (row_text b hollow (pieces_in ss vs)) ≡ length (row_text b hollow2 (taken m (pieces_in ss vs))) + (length (text_bytes s.whitespace) + length (text_bytes s.name) + length (text_bytes s.colons) + length (text_bytes t.trail) + length (tree_text (view v)) + 1)
take_last_size b hollow hollow2 ss vs m n s t v is h l e f g =
    let next : m ≡ suc n = omega (arith, is) in
    subst (λ x. s ≡ get_or ss x s → t ≡ get_or (remove ss x) n t → v ≡ get_or vs x v
    → length (row_text b hollow (pieces_in ss vs)) ≡ length (row_text b hollow2 (taken x (pieces_in ss vs))) + (length (text_bytes s.whitespace) + length (text_bytes s.name) + length (text_bytes s.colons) + length (text_bytes t.trail) + length (tree_text (view v)) + 1)) (sym next) by_next e f g
  where
    by_next : s ≡ get_or ss (suc n) s → t ≡ get_or (remove ss (suc n)) n t → v ≡ get_or vs (suc n) v
        → length (row_text b hollow (pieces_in ss vs)) ≡ length (row_text b hollow2 (taken (suc n) (pieces_in ss vs))) + (length (text_bytes s.whitespace) + length (text_bytes s.name) + length (text_bytes s.colons) + length (text_bytes t.trail) + length (tree_text (view v)) + 1)
    by_next e f g =
        let ps = pieces_in ss vs in
        let r = last_at ss vs n s t v h (omega (arith, l, is)) e f g in
        let p = piece_with s (tree_text (view v)) in
        let o = piece_with t r.text in
        let new : taken (suc n) ps ≡ take n ps ++ (trailed p.trail o ∷ []) =
        ap₂ taken_by (take_more n ps o (p ∷ []) r.is) (drop_more n ps o (p ∷ []) r.is) ∙ trail_set p.trail (take n ps) o in
        let whole : ps ≡ take n ps ++ (o ∷ p ∷ []) = joined n ps o (p ∷ []) r.is in
        let size = last_size b hollow hollow2 (take n ps) o p in
        omega (arith, size, ap (λ x. length (row_text b hollow x)) whole, ap (λ x. length (row_text b hollow2 x)) new)

-- ---- one more

last_rest : (ss : List Seam) (vs : List Node) (n : ℕ) (t : Seam) → AreSoundIn ss vs → length vs ≡ n + 1 → (r : IsAt ss vs n t) → r.rest ≡ []
last_rest ss vs n t h l r =
    let ps = pieces_in ss vs in
    let count : length ps ≡ length vs = pieces_are ss vs h in
    no_more r.rest (omega (arith, count, l, simp length-append at (ap length (joined n ps (piece_with t r.text) r.rest r.is)), front n ps (omega (arith, count, l))))
  where
    front : (n : ℕ) (ps : List Piece) → n < length ps → length (take n ps) ≡ n
    front n [] h = absurd (omega (arith, h))
    front zero (p ∷ ps) h = refl
    front (suc n) (p ∷ ps) h = ap suc (front n ps (omega (arith, h)))

    no_more : (l : List Piece) → length l ≡ 0 → l ≡ []
    no_more [] h = refl
    no_more (p ∷ l) h = absurd (omega (arith, h))

module _ (b : Bool) (hollow : List ℕ) (ss : List Seam) (vs : List Node) (n : ℕ) (t : Seam) where
  pub last_trail_fits : AreSoundIn ss vs → n < length vs → t ≡ get_or ss n t → length (text_bytes t.trail) ≤ length (row_text b hollow (pieces_in ss vs))
  last_trail_fits h l e =
      let r = seam_at ss vs n t h l e in
      subst (λ x. length (text_bytes t.trail) ≤ length (row_text b hollow x)) (sym (joined n (pieces_in ss vs) (piece_with t r.text) r.rest r.is)) (trail_fits b hollow (take n (pieces_in ss vs)) (piece_with t r.text) r.rest)

  pub its_whitespace_fits : AreSoundIn ss vs → n < length vs → t ≡ get_or ss n t → length (text_bytes t.whitespace) ≤ length (row_text b hollow (pieces_in ss vs))
  its_whitespace_fits h l e =
      let r = seam_at ss vs n t h l e in
      subst (λ x. length (text_bytes t.whitespace) ≤ length (row_text b hollow x)) (sym (joined n (pieces_in ss vs) (piece_with t r.text) r.rest r.is)) (whitespace_fits b hollow (take n (pieces_in ss vs)) (piece_with t r.text) r.rest)

pub push_member_size : (hollow hollow2 name u : List ℕ) (ss : List Seam) (vs : List Node) (m n : ℕ) (t : Seam) → m ≡ n + 1 → AreSoundIn ss vs → length vs ≡ m → t ≡ get_or ss n t
    → length (row_text true hollow2 (member_pushed hollow name u (pieces_in ss vs))) ≡ length (row_text true hollow (pieces_in ss vs)) + (length (whitespace_like (text_bytes t.whitespace)) + length name + length (colons_like (text_bytes t.colons)) + length u + 1)
push_member_size hollow hollow2 name u ss vs m n t is h l e =
    let ps = pieces_in ss vs in
    let r = seam_at ss vs n t h (omega (arith, l, is)) e in
    let o = piece_with t r.text in
    let whole : ps ≡ take n ps ++ (o ∷ []) = joined n ps o r.rest r.is ∙ ap (λ x. take n ps ++ (o ∷ x)) (last_rest ss vs n t h (l ∙ is) r) in
    let new : member_pushed hollow name u ps ≡ take n ps ++ (trailed [] o ∷ member_like o name u ∷ []) = ap (member_pushed hollow name u) whole ∙ member_set hollow name u (take n ps) o in
    let size = pushed_size true hollow hollow2 (take n ps) o (member_like o name u) in
    omega (arith, size, ap (λ x. length (row_text true hollow x)) whole, ap (λ x. length (row_text true hollow2 x)) new)

pub push_element_size : (hollow hollow2 u : List ℕ) (ss : List Seam) (vs : List Node) (m n : ℕ) (t : Seam) → m ≡ n + 1 → AreSoundIn ss vs → length vs ≡ m → t ≡ get_or ss n t
    → length (row_text false hollow2 (element_pushed hollow u (pieces_in ss vs))) ≡ length (row_text false hollow (pieces_in ss vs)) + (length (whitespace_like (text_bytes t.whitespace)) + length u + 1)
push_element_size hollow hollow2 u ss vs m n t is h l e =
    let ps = pieces_in ss vs in
    let r = seam_at ss vs n t h (omega (arith, l, is)) e in
    let o = piece_with t r.text in
    let whole : ps ≡ take n ps ++ (o ∷ []) = joined n ps o r.rest r.is ∙ ap (λ x. take n ps ++ (o ∷ x)) (last_rest ss vs n t h (l ∙ is) r) in
    let new : element_pushed hollow u ps ≡ take n ps ++ (trailed [] o ∷ element_between (whitespace_like o.whitespace) u o.trail ∷ []) = ap (element_pushed hollow u) whole ∙ element_set hollow u (take n ps) o in
    let size = pushed_size false hollow hollow2 (take n ps) o (element_between (whitespace_like o.whitespace) u o.trail) in
    omega (arith, size, ap (λ x. length (row_text false hollow x)) whole, ap (λ x. length (row_text false hollow2 x)) new)

-- in an empty row
pub first_member_size : (hollow hollow2 name u : List ℕ) (ss : List Seam) (vs : List Node) → length vs ≡ 0 → length (row_text true hollow2 (member_pushed hollow name u (pieces_in ss vs))) ≡ length (row_text true hollow (pieces_in ss vs)) + (length name + 1 + length u)
first_member_size hollow hollow2 name u ss vs l =
    let none = no_pieces ss vs l in
    let size : length (row_text true hollow2 (member_pushed hollow name u [])) ≡ length (row_text true hollow []) + (length name + 1 + length u) = simp length-append (omega arith) in
    subst (λ x. length (row_text true hollow2 (member_pushed hollow name u x)) ≡ length (row_text true hollow x) + (length name + 1 + length u)) (sym none) size

pub first_element_size : (hollow hollow2 u : List ℕ) (ss : List Seam) (vs : List Node) → length vs ≡ 0 → length (row_text false hollow2 (element_pushed hollow u (pieces_in ss vs))) ≡ length (row_text false hollow (pieces_in ss vs)) + length u
first_element_size hollow hollow2 u ss vs l =
    let none = no_pieces ss vs l in
    let size : length (row_text false hollow2 (element_pushed hollow u [])) ≡ length (row_text false hollow []) + length u = simp length-append (omega arith) in
    subst (λ x. length (row_text false hollow2 (element_pushed hollow u x)) ≡ length (row_text false hollow x) + length u) (sym none) size

pub hollow_fits : (b : Bool) (hollow : List ℕ) (ss : List Seam) (vs : List Node) → length vs ≡ 0 → length (row_text b hollow (pieces_in ss vs)) ≡ length hollow + 2
hollow_fits b hollow ss vs l =
    let size : length (row_text b hollow []) ≡ length hollow + 2 = simp length-append (omega arith) in
    subst (λ x. length (row_text b hollow x) ≡ length hollow + 2) (sym (no_pieces ss vs l)) size

-- before an element
pub put_own_size : (hollow hollow2 u : List ℕ) (ss : List Seam) (vs : List Node) (n : ℕ) (t : Seam) → AreSoundIn ss vs → n < length vs → (n ≡ 0 → length vs ≡ 1) → t ≡ get_or ss n t
    → length (row_text false hollow2 (element_put n u (pieces_in ss vs))) ≡ length (row_text false hollow (pieces_in ss vs)) + (length (whitespace_like (text_bytes t.whitespace)) + length u + 1)
put_own_size hollow hollow2 u ss vs n t h l one e =
    let ps = pieces_in ss vs in
    let r = seam_at ss vs n t h l e in
    let p = piece_with t r.text in
    let whole : ps ≡ take n ps ++ (p ∷ r.rest) = joined n ps p r.rest r.is in
    let new : element_put n u ps ≡ take n ps ++ (element_between p.whitespace u [] ∷ led (whitespace_like p.whitespace) p ∷ r.rest) =
    ap (element_put_by u (take n ps)) r.is ∙ ap (λ x. take n ps ++ (element_between p.whitespace u [] ∷ led (whitespace_like x) p ∷ r.rest)) (own_like ps n p r.rest r.is (λ z. pieces_are ss vs h ∙ one z)) in
    let size = put_before_size false hollow hollow2 (whitespace_like p.whitespace) (take n ps) p (element_between p.whitespace u []) r.rest in
    omega (arith, size, ap (λ x. length (row_text false hollow x)) whole, ap (λ x. length (row_text false hollow2 x)) new)

pub put_first_size : (hollow hollow2 u : List ℕ) (ss : List Seam) (vs : List Node) (o : Seam) → AreSoundIn ss vs → 1 < length vs → o ≡ get_or ss 1 o
    → length (row_text false hollow2 (element_put 0 u (pieces_in ss vs))) ≡ length (row_text false hollow (pieces_in ss vs)) + (length (whitespace_like (text_bytes o.whitespace)) + length u + 1)
put_first_size hollow hollow2 u [] [] o h l e = absurd (omega (arith, l))
put_first_size hollow hollow2 u [] (w ∷ vs) o h l e = absurd h
put_first_size hollow hollow2 u (a ∷ ss) [] o h l e = absurd h
put_first_size hollow hollow2 u (a ∷ ss) (w ∷ []) o h l e = absurd (omega (arith, l))
put_first_size hollow hollow2 u (a ∷ []) (w ∷ z ∷ vs) o h l e = absurd h.1
put_first_size hollow hollow2 u (a ∷ b ∷ ss) (w ∷ z ∷ vs) o h l e =
    let p = piece_with a (tree_text (view w)) in
    let size = put_before_size false hollow hollow2 (whitespace_like (text_bytes b.whitespace)) [] p (element_between p.whitespace u []) (pieces_in (b ∷ ss) (z ∷ vs)) in
    let same : length (whitespace_like (text_bytes b.whitespace)) ≡ length (whitespace_like (text_bytes o.whitespace)) = ap (λ x. length (whitespace_like (text_bytes x.whitespace))) (sym e) in
    omega (arith, size, same)
