-- What is done to the seams and the values of a row, seen in its pieces.
use Rattle.std.proofs.Common.{◌≡◌, ℕ, zero, suc, ◌+◌, ◌<◌, List, [], ◌∷◌, ◌++◌, length, take, drop, get_or, refl, sym, ap, ap₂, ◌∙◌, subst, arith}
use Rattle.std.specs.List.{insert, remove}
use Rattle.std.specs.Prelude.{slice_set}
use Rattle.json_text.specs.Cuts.{Piece}
use Rattle.json_text.specs.Styled.{whitespace_like}
use Rattle.json_pieces.specs.Nodes.{IsSound, piece_with, text_bytes, tree_text, view}
use Rattle.json_pieces.specs.PieceLists.{element_between, element_pushed, element_put, element_put_by, led, member_alone, member_like, member_pushed, neighbour_whitespace, taken, taken_by, trailed}
use Rattle.json_pieces.specs.declared.node.Node.{Node}
use Rattle.json_pieces.specs.declared.seams.Seam.{Seam}
use Rattle.json_pieces.proofs.Lists.{AreSoundIn, pieces_are, pieces_in}
use Rattle.json_pieces.proofs.Rows.Parts.{first_same, no_cons, rest_same}

-- ---- what is kept is sound

pub remove_sound : (ss : List Seam) (vs : List Node) (n : ℕ) → AreSoundIn ss vs → AreSoundIn (remove ss n) (remove vs n)
remove_sound [] [] zero h = tt
remove_sound [] [] (suc n) h = tt
remove_sound [] (v ∷ vs) n h = absurd h
remove_sound (s ∷ ss) [] n h = absurd h
remove_sound (s ∷ ss) (v ∷ vs) zero h = h.1
remove_sound (s ∷ ss) (v ∷ vs) (suc n) h = (h.0, remove_sound ss vs n h.1)

pub seam_sound : (ss : List Seam) (vs : List Node) (n : ℕ) (s : Seam) → AreSoundIn ss vs → AreSoundIn (slice_set ss n s) vs
seam_sound [] [] n s h = tt
seam_sound [] (v ∷ vs) n s h = absurd h
seam_sound (t ∷ ss) [] n s h = absurd h
seam_sound (t ∷ ss) (v ∷ vs) zero s h = h
seam_sound (t ∷ ss) (v ∷ vs) (suc n) s h = (h.0, seam_sound ss vs n s h.1)

pub insert_sound : (ss : List Seam) (vs : List Node) (n : ℕ) (s : Seam) (v : Node) → AreSoundIn ss vs → IsSound (view v) → AreSoundIn (insert ss n s) (insert vs n v)
insert_sound [] [] zero s v h k = (k, tt)
insert_sound [] [] (suc n) s v h k = (k, tt)
insert_sound [] (w ∷ vs) n s v h k = absurd h
insert_sound (t ∷ ss) [] n s v h k = absurd h
insert_sound (t ∷ ss) (w ∷ vs) zero s v h k = (k, h)
insert_sound (t ∷ ss) (w ∷ vs) (suc n) s v h k = (h.0, insert_sound ss vs n s v h.1 k)

-- ---- one is taken out

-- another seam in the place of t: with the whitespace s before it; with that behind it
abbrev pub HasWhitespace : List ℕ → Seam → Seam → Type 0
HasWhitespace s t new = (u : List ℕ) → piece_with new u ≡ led s (piece_with t u)

abbrev pub HasTrail : List ℕ → Seam → Seam → Type 0
HasTrail s t new = (u : List ℕ) → piece_with new u ≡ trailed s (piece_with t u)

record HasTwo (n : ℕ) (ps : List Piece) : Type 0 where
  first : Piece
  second : Piece
  rest : List Piece
  is : drop n ps ≡ first ∷ second ∷ rest

two_there : (n : ℕ) (ps : List Piece) → suc n < length ps → HasTwo n ps
two_there n [] h = absurd (omega (arith, h))
two_there zero (p ∷ []) h = absurd (omega (arith, h))
two_there zero (p ∷ q ∷ ps) h = record { first = p; second = q; rest = ps; is = refl }
two_there (suc n) (p ∷ ps) h = let r = two_there n ps (omega (arith, h)) in record { first = r.first; second = r.second; rest = r.rest; is = r.is }

taken_later : (n : ℕ) (p : Piece) (ps : List Piece) → HasTwo n ps → taken (suc n) (p ∷ ps) ≡ p ∷ taken n ps
taken_later n p ps h = ap (taken_by (p ∷ take n ps)) h.is ∙ sym (ap (λ l. p ∷ taken_by (take n ps) l) h.is)

-- not the last: its whitespace goes to the next
pub take_next : (ss : List Seam) (vs : List Node) (n : ℕ) (s t new : Seam) → AreSoundIn ss vs → suc n < length vs → s ≡ get_or ss n s → t ≡ get_or (remove ss n) n t → HasWhitespace (text_bytes s.whitespace) t new
    → pieces_in (slice_set (remove ss n) n new) (remove vs n) ≡ taken n (pieces_in ss vs)
take_next [] [] n s t new h l e f k = absurd (omega (arith, l))
take_next [] (v ∷ vs) n s t new h l e f k = absurd h
take_next (a ∷ ss) [] n s t new h l e f k = absurd h
take_next (a ∷ []) (v ∷ []) zero s t new h l e f k = absurd (omega (arith, l))
take_next (a ∷ []) (v ∷ w ∷ vs) zero s t new h l e f k = absurd h.1
take_next (a ∷ b ∷ ss) (v ∷ []) zero s t new h l e f k = absurd h.1
take_next (a ∷ b ∷ ss) (v ∷ w ∷ vs) zero s t new h l e f k =
    ap (λ x. x ∷ pieces_in ss vs) (k (tree_text (view w)) ∙ ap₂ (λ x y. led (text_bytes x.whitespace) (piece_with y (tree_text (view w)))) e f)
take_next (a ∷ ss) (v ∷ vs) (suc n) s t new h l e f k =
    let count : length (pieces_in ss vs) ≡ length vs = pieces_are ss vs h.1 in
    ap (λ x. piece_with a (tree_text (view v)) ∷ x) (take_next ss vs n s t new h.1 (omega (arith, l)) e f k)
    ∙ sym (taken_later n (piece_with a (tree_text (view v))) (pieces_in ss vs) (two_there n (pieces_in ss vs) (omega (arith, l, count))))

record HasLastOne (n : ℕ) (ps : List Piece) : Type 0 where
  last : Piece
  is : drop n ps ≡ last ∷ []

last_there : (n : ℕ) (ps : List Piece) → length ps ≡ suc n → HasLastOne n ps
last_there n [] h = absurd (omega (arith, h))
last_there zero (p ∷ []) h = record { last = p; is = refl }
last_there zero (p ∷ q ∷ ps) h = absurd (omega (arith, h))
last_there (suc n) (p ∷ ps) h = let r = last_there n ps (omega (arith, h)) in record { last = r.last; is = r.is }

taken_last : (n : ℕ) (p q : Piece) (ps : List Piece) → HasLastOne n ps → taken (suc (suc n)) (p ∷ q ∷ ps) ≡ p ∷ taken (suc n) (q ∷ ps)
taken_last n p q ps h = ap (taken_by (p ∷ q ∷ take n ps)) h.is ∙ sym (ap (λ l. p ∷ taken_by (q ∷ take n ps) l) h.is)

-- the last of several: what is behind it goes to the one before
take_last_there : (ss : List Seam) (vs : List Node) (n : ℕ) (s t new : Seam) → AreSoundIn ss vs → length vs ≡ suc (suc n) → s ≡ get_or ss (suc n) s → t ≡ get_or (remove ss (suc n)) n t → HasTrail (text_bytes s.trail) t new
    → pieces_in (slice_set (remove ss (suc n)) n new) (remove vs (suc n)) ≡ taken (suc n) (pieces_in ss vs)
take_last_there [] [] n s t new h l e f k = absurd (omega (arith, l))
take_last_there [] (v ∷ vs) n s t new h l e f k = absurd h
take_last_there (a ∷ ss) [] n s t new h l e f k = absurd h
take_last_there (a ∷ ss) (v ∷ []) n s t new h l e f k = absurd (omega (arith, l))
take_last_there (a ∷ []) (v ∷ w ∷ vs) n s t new h l e f k = absurd h.1
take_last_there (a ∷ b ∷ []) (v ∷ w ∷ []) zero s t new h l e f k =
    ap (λ x. x ∷ []) (k (tree_text (view v)) ∙ ap₂ (λ x y. trailed (text_bytes x.trail) (piece_with y (tree_text (view v)))) e f)
take_last_there (a ∷ b ∷ c ∷ ss) (v ∷ w ∷ []) zero s t new h l e f k = absurd h.1.1
take_last_there (a ∷ b ∷ ss) (v ∷ w ∷ u ∷ vs) zero s t new h l e f k = absurd (omega (arith, l))
take_last_there (a ∷ b ∷ ss) (v ∷ w ∷ vs) (suc n) s t new h l e f k =
    let count : length (pieces_in ss vs) ≡ length vs = pieces_are ss vs h.1.1 in
    ap (λ x. piece_with a (tree_text (view v)) ∷ x) (take_last_there (b ∷ ss) (w ∷ vs) n s t new h.1 (omega (arith, l)) e f k)
    ∙ sym (taken_last n (piece_with a (tree_text (view v))) (piece_with b (tree_text (view w))) (pieces_in ss vs) (last_there n (pieces_in ss vs) (omega (arith, l, count))))

pub take_last : (ss : List Seam) (vs : List Node) (m n : ℕ) (s t new : Seam) → m ≡ n + 1 → AreSoundIn ss vs → length vs ≡ m + 1 → s ≡ get_or ss m s → t ≡ get_or (remove ss m) n t → HasTrail (text_bytes s.trail) t new
    → pieces_in (slice_set (remove ss m) n new) (remove vs m) ≡ taken m (pieces_in ss vs)
take_last ss vs m n s t new is h l e f k =
    let next : m ≡ suc n = omega (arith, is) in
    subst (λ x. s ≡ get_or ss x s → t ≡ get_or (remove ss x) n t → pieces_in (slice_set (remove ss x) n new) (remove vs x) ≡ taken x (pieces_in ss vs)) (sym next)
    (λ a b. take_last_there ss vs n s t new h (omega (arith, l, next)) a b k) e f

pub take_alone : (ss : List Seam) (vs : List Node) → AreSoundIn ss vs → length vs ≡ 1 → (pieces_in (remove ss 0) (remove vs 0) ≡ []) × (taken 0 (pieces_in ss vs) ≡ [])
take_alone [] [] h l = absurd (omega (arith, l))
take_alone [] (v ∷ vs) h l = absurd h
take_alone (s ∷ ss) [] h l = absurd h
take_alone (s ∷ []) (v ∷ []) h l = (refl, refl)
take_alone (s ∷ []) (v ∷ w ∷ vs) h l = absurd h.1
take_alone (s ∷ t ∷ ss) (v ∷ []) h l = absurd h.1
take_alone (s ∷ t ∷ ss) (v ∷ w ∷ vs) h l = absurd (omega (arith, l))

-- ---- one is put in behind the last

-- the seam of a member as the last, which has the seam t
abbrev pub IsMemberLike : Seam → List ℕ → Seam → Type 0
IsMemberLike t name s = (x u : List ℕ) → piece_with s u ≡ member_like (piece_with t x) name u

abbrev pub IsElementLike : Seam → Seam → Type 0
IsElementLike t s = (u : List ℕ) → piece_with s u ≡ element_between (whitespace_like (text_bytes t.whitespace)) u (text_bytes t.trail)

pub push_member_first : (ss : List Seam) (vs : List Node) (s : Seam) (v : Node) (hollow name : List ℕ) → AreSoundIn ss vs → length vs ≡ 0 → ((u : List ℕ) → piece_with s u ≡ member_alone hollow name u) → pieces_in (insert ss 0 s) (insert vs 0 v) ≡ member_pushed hollow name (tree_text (view v)) (pieces_in ss vs)
push_member_first [] [] s v hollow name h l k = ap (λ x. x ∷ []) (k (tree_text (view v)))
push_member_first [] (w ∷ vs) s v hollow name h l k = absurd h
push_member_first (t ∷ ss) [] s v hollow name h l k = absurd h
push_member_first (t ∷ ss) (w ∷ vs) s v hollow name h l k = absurd (omega (arith, l))

pub push_element_first : (ss : List Seam) (vs : List Node) (s : Seam) (v : Node) (hollow : List ℕ) → AreSoundIn ss vs → length vs ≡ 0 → ((u : List ℕ) → piece_with s u ≡ element_between [] u hollow) → pieces_in (insert ss 0 s) (insert vs 0 v) ≡ element_pushed hollow (tree_text (view v)) (pieces_in ss vs)
push_element_first [] [] s v hollow h l k = ap (λ x. x ∷ []) (k (tree_text (view v)))
push_element_first [] (w ∷ vs) s v hollow h l k = absurd h
push_element_first (t ∷ ss) [] s v hollow h l k = absurd h
push_element_first (t ∷ ss) (w ∷ vs) s v hollow h l k = absurd (omega (arith, l))

member_more : (ss : List Seam) (vs : List Node) (n : ℕ) (s t new : Seam) (v : Node) (hollow name : List ℕ) → AreSoundIn ss vs → length vs ≡ suc n → t ≡ get_or ss n t → HasTrail [] t new → IsMemberLike t name s
    → pieces_in (insert (slice_set ss n new) (suc n) s) (insert vs (suc n) v) ≡ member_pushed hollow name (tree_text (view v)) (pieces_in ss vs)
member_more [] [] n s t new v hollow name h l e k m = absurd (omega (arith, l))
member_more [] (w ∷ vs) n s t new v hollow name h l e k m = absurd h
member_more (a ∷ ss) [] n s t new v hollow name h l e k m = absurd h
member_more (a ∷ []) (w ∷ []) zero s t new v hollow name h l e k m =
    ap₂ (λ x y. x ∷ y ∷ []) (k (tree_text (view w)) ∙ ap (λ x. trailed [] (piece_with x (tree_text (view w)))) e)
    (m (tree_text (view w)) (tree_text (view v)) ∙ ap (λ x. member_like (piece_with x (tree_text (view w))) name (tree_text (view v))) e)
member_more (a ∷ b ∷ ss) (w ∷ []) n s t new v hollow name h l e k m = absurd h.1
member_more (a ∷ []) (w ∷ z ∷ vs) n s t new v hollow name h l e k m = absurd h.1
member_more (a ∷ ss) (w ∷ []) (suc n) s t new v hollow name h l e k m = absurd (omega (arith, l))
member_more (a ∷ ss) (w ∷ z ∷ vs) zero s t new v hollow name h l e k m = absurd (omega (arith, l))
member_more (a ∷ b ∷ ss) (w ∷ z ∷ vs) (suc n) s t new v hollow name h l e k m =
    ap (λ x. piece_with a (tree_text (view w)) ∷ x) (member_more (b ∷ ss) (z ∷ vs) n s t new v hollow name h.1 (omega (arith, l)) e k m)

pub push_member_more : (ss : List Seam) (vs : List Node) (m n : ℕ) (s t new : Seam) (v : Node) (hollow name : List ℕ) → m ≡ n + 1 → AreSoundIn ss vs → length vs ≡ m → t ≡ get_or ss n t → HasTrail [] t new → IsMemberLike t name s
    → pieces_in (insert (slice_set ss n new) m s) (insert vs m v) ≡ member_pushed hollow name (tree_text (view v)) (pieces_in ss vs)
push_member_more ss vs m n s t new v hollow name is h l e k q =
    let next : m ≡ suc n = omega (arith, is) in
    subst (λ x. pieces_in (insert (slice_set ss n new) x s) (insert vs x v) ≡ member_pushed hollow name (tree_text (view v)) (pieces_in ss vs)) (sym next) (member_more ss vs n s t new v hollow name h (l ∙ next) e k q)

element_more : (ss : List Seam) (vs : List Node) (n : ℕ) (s t new : Seam) (v : Node) (hollow : List ℕ) → AreSoundIn ss vs → length vs ≡ suc n → t ≡ get_or ss n t → HasTrail [] t new → IsElementLike t s
    → pieces_in (insert (slice_set ss n new) (suc n) s) (insert vs (suc n) v) ≡ element_pushed hollow (tree_text (view v)) (pieces_in ss vs)
element_more [] [] n s t new v hollow h l e k m = absurd (omega (arith, l))
element_more [] (w ∷ vs) n s t new v hollow h l e k m = absurd h
element_more (a ∷ ss) [] n s t new v hollow h l e k m = absurd h
element_more (a ∷ []) (w ∷ []) zero s t new v hollow h l e k m =
    ap₂ (λ x y. x ∷ y ∷ []) (k (tree_text (view w)) ∙ ap (λ x. trailed [] (piece_with x (tree_text (view w)))) e)
    (m (tree_text (view v)) ∙ ap (λ x. element_between (whitespace_like (text_bytes x.whitespace)) (tree_text (view v)) (text_bytes x.trail)) e)
element_more (a ∷ b ∷ ss) (w ∷ []) n s t new v hollow h l e k m = absurd h.1
element_more (a ∷ []) (w ∷ z ∷ vs) n s t new v hollow h l e k m = absurd h.1
element_more (a ∷ ss) (w ∷ []) (suc n) s t new v hollow h l e k m = absurd (omega (arith, l))
element_more (a ∷ ss) (w ∷ z ∷ vs) zero s t new v hollow h l e k m = absurd (omega (arith, l))
element_more (a ∷ b ∷ ss) (w ∷ z ∷ vs) (suc n) s t new v hollow h l e k m =
    ap (λ x. piece_with a (tree_text (view w)) ∷ x) (element_more (b ∷ ss) (z ∷ vs) n s t new v hollow h.1 (omega (arith, l)) e k m)

pub push_element_more : (ss : List Seam) (vs : List Node) (m n : ℕ) (s t new : Seam) (v : Node) (hollow : List ℕ) → m ≡ n + 1 → AreSoundIn ss vs → length vs ≡ m → t ≡ get_or ss n t → HasTrail [] t new → IsElementLike t s
    → pieces_in (insert (slice_set ss n new) m s) (insert vs m v) ≡ element_pushed hollow (tree_text (view v)) (pieces_in ss vs)
push_element_more ss vs m n s t new v hollow is h l e k q =
    let next : m ≡ suc n = omega (arith, is) in
    subst (λ x. pieces_in (insert (slice_set ss n new) x s) (insert vs x v) ≡ element_pushed hollow (tree_text (view v)) (pieces_in ss vs)) (sym next) (element_more ss vs n s t new v hollow h (l ∙ next) e k q)

-- ---- an element is put in before another

abbrev pub IsElementBefore : Seam → Seam → Type 0
IsElementBefore t s = (u : List ℕ) → piece_with s u ≡ element_between (text_bytes t.whitespace) u []

put_shape : (ss : List Seam) (vs : List Node) (n : ℕ) (s t new : Seam) (v : Node) (like : List ℕ) (p : Piece) (rest : List Piece) → AreSoundIn ss vs → t ≡ get_or ss n t → HasWhitespace like t new → IsElementBefore t s → drop n (pieces_in ss vs) ≡ p ∷ rest
    → pieces_in (insert (slice_set ss n new) n s) (insert vs n v) ≡ take n (pieces_in ss vs) ++ (element_between p.whitespace (tree_text (view v)) [] ∷ led like p ∷ rest)
put_shape [] [] zero s t new v like p rest h e k m i = absurd (no_cons p rest i)
put_shape [] [] (suc n) s t new v like p rest h e k m i = absurd (no_cons p rest i)
put_shape [] (w ∷ vs) n s t new v like p rest h e k m i = absurd h
put_shape (a ∷ ss) [] n s t new v like p rest h e k m i = absurd h
put_shape (a ∷ ss) (w ∷ vs) zero s t new v like p rest h e k m i =
    let u = tree_text (view v) in
    let x = tree_text (view w) in
    ap₂ (λ y z. y ∷ z ∷ pieces_in ss vs) (m u ∙ ap (λ y. element_between (text_bytes y.whitespace) u []) e) (k x ∙ ap (λ y. led like (piece_with y x)) e)
    ∙ ap₂ (λ y l. element_between y.whitespace u [] ∷ led like y ∷ l) (first_same (piece_with a x) p (pieces_in ss vs) rest i) (rest_same (piece_with a x) p (pieces_in ss vs) rest i)
put_shape (a ∷ ss) (w ∷ vs) (suc n) s t new v like p rest h e k m i = ap (λ l. piece_with a (tree_text (view w)) ∷ l) (put_shape ss vs n s t new v like p rest h.1 e k m i)

whitespace_at : (ss : List Seam) (vs : List Node) (n : ℕ) (t : Seam) (p : Piece) (rest : List Piece) → AreSoundIn ss vs → t ≡ get_or ss n t → drop n (pieces_in ss vs) ≡ p ∷ rest → p.whitespace ≡ text_bytes t.whitespace
whitespace_at [] [] zero t p rest h e i = absurd (no_cons p rest i)
whitespace_at [] [] (suc n) t p rest h e i = absurd (no_cons p rest i)
whitespace_at [] (w ∷ vs) n t p rest h e i = absurd h
whitespace_at (a ∷ ss) [] n t p rest h e i = absurd h
whitespace_at (a ∷ ss) (w ∷ vs) zero t p rest h e i = ap (λ y. y.whitespace) (sym (first_same (piece_with a (tree_text (view w))) p (pieces_in ss vs) rest i)) ∙ ap (λ y. text_bytes y.whitespace) (sym e)
whitespace_at (a ∷ ss) (w ∷ vs) (suc n) t p rest h e i = whitespace_at ss vs n t p rest h.1 e i

record HasOneThere (n : ℕ) (ps : List Piece) : Type 0 where
  first : Piece
  rest : List Piece
  is : drop n ps ≡ first ∷ rest

one_there : (n : ℕ) (ps : List Piece) → n < length ps → HasOneThere n ps
one_there n [] h = absurd (omega (arith, h))
one_there zero (p ∷ ps) h = record { first = p; rest = ps; is = refl }
one_there (suc n) (p ∷ ps) h = let r = one_there n ps (omega (arith, h)) in record { first = r.first; rest = r.rest; is = r.is }

-- not the first, or alone: its own whitespace
pub own_like : (ps : List Piece) (n : ℕ) (p : Piece) (rest : List Piece) → drop n ps ≡ p ∷ rest → (n ≡ 0 → length ps ≡ 1) → neighbour_whitespace (take n ps) p rest ≡ p.whitespace
own_like [] zero p rest e one = absurd (no_cons p rest e)
own_like [] (suc n) p rest e one = absurd (no_cons p rest e)
own_like (o ∷ ps) (suc n) p rest e one = refl
own_like (o ∷ ps) zero p [] e one = refl
own_like (o ∷ ps) zero p (q ∷ rest) e one = absurd (omega (arith, one refl, ap length e))

pub put_element_own : (ss : List Seam) (vs : List Node) (n : ℕ) (s t new : Seam) (v : Node) → AreSoundIn ss vs → n < length vs → (n ≡ 0 → length vs ≡ 1) → t ≡ get_or ss n t → HasWhitespace (whitespace_like (text_bytes t.whitespace)) t new → IsElementBefore t s
    → pieces_in (insert (slice_set ss n new) n s) (insert vs n v) ≡ element_put n (tree_text (view v)) (pieces_in ss vs)
put_element_own ss vs n s t new v h l one e k m =
    let ps = pieces_in ss vs in
    let u = tree_text (view v) in
    let count : length ps ≡ length vs = pieces_are ss vs h in
    let r = one_there n ps (omega (arith, l, count)) in
    let like : text_bytes t.whitespace ≡ neighbour_whitespace (take n ps) r.first r.rest = sym (whitespace_at ss vs n t r.first r.rest h e r.is) ∙ sym (own_like ps n r.first r.rest r.is (λ z. count ∙ one z)) in
    put_shape ss vs n s t new v (whitespace_like (text_bytes t.whitespace)) r.first r.rest h e k m r.is
    ∙ ap (λ x. take n ps ++ (element_between r.first.whitespace u [] ∷ led (whitespace_like x) r.first ∷ r.rest)) like ∙ sym (ap (element_put_by u (take n ps)) r.is)

-- the first of several: the whitespace of the second, which has the seam o
pub put_element_first : (ss : List Seam) (vs : List Node) (s t o new : Seam) (v : Node) → AreSoundIn ss vs → 1 < length vs → t ≡ get_or ss 0 t → o ≡ get_or ss 1 o → HasWhitespace (whitespace_like (text_bytes o.whitespace)) t new → IsElementBefore t s
    → pieces_in (insert (slice_set ss 0 new) 0 s) (insert vs 0 v) ≡ element_put 0 (tree_text (view v)) (pieces_in ss vs)
put_element_first [] [] s t o new v h l e f k m = absurd (omega (arith, l))
put_element_first [] (w ∷ vs) s t o new v h l e f k m = absurd h
put_element_first (a ∷ ss) [] s t o new v h l e f k m = absurd h
put_element_first (a ∷ ss) (w ∷ []) s t o new v h l e f k m = absurd (omega (arith, l))
put_element_first (a ∷ []) (w ∷ z ∷ vs) s t o new v h l e f k m = absurd h.1
put_element_first (a ∷ b ∷ ss) (w ∷ z ∷ vs) s t o new v h l e f k m =
    let p = piece_with a (tree_text (view w)) in
    let rest = pieces_in (b ∷ ss) (z ∷ vs) in
    put_shape (a ∷ b ∷ ss) (w ∷ z ∷ vs) 0 s t new v (whitespace_like (text_bytes o.whitespace)) p rest h e k m refl
    ∙ ap (λ x. element_between p.whitespace (tree_text (view v)) [] ∷ led (whitespace_like (text_bytes x.whitespace)) p ∷ rest) f
