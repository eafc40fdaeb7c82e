-- The index of the names: it stays that of its seams.
use Rattle.std.proofs.Common.{◌≡◌, ℕ, zero, suc, ◌<◌, ◌≤◌, List, [], ◌∷◌, ◌++◌, length, get_or, map, Option, Some, None, String, refl, sym, ap, ap₂, ◌∙◌, subst, arith}
use Rattle.std.specs.Prelude.{slice_set, IfSome, OnOk, Result}
use Rattle.std.specs.declared.alloc.AllocError.{AllocError}
use Rattle.std.specs.declared.alloc.Global.{Global}
use Rattle.std.specs.List.{insert, remove}
use Rattle.std.specs.Coded.{le_prop}
use Rattle.std.specs.String.{string_bytes}
use Rattle.std.proofs.Math.Logic.{∥∥₁_elim, ∥∥₁_map}
use Rattle.std.proofs.Math.Seq.{map-set_same}
use Rattle.std.proofs.Props.{props}
use Rattle.std.proofs.lemmas.List.{drop_all, take_all}
use Rattle.std.proofs.lemmas.Result.{on_ok_weaker}
use Rattle.json.specs.Json.{string}
use Rattle.json_text.specs.Listing.{IsTextOf}
use Rattle.json_text.specs.Rows.{Child, last_named}
use Rattle.long_vec.specs.Items.{items_of}
use Rattle.json_pieces.specs.Marks.{Fits, names_of}
use Rattle.json_pieces.specs.Names.{Agrees, AreNames, AreSaid, IsIndexOf, text_bytes}
use Rattle.json_pieces.specs.Slots.{AreSwapped}
use Rattle.json_pieces.specs.declared.index.NameIndex.{NameIndex}
use Rattle.json_pieces.specs.declared.row.Slot.{Slot}
use Rattle.json_pieces.specs.declared.row.Slot.TheVariants.{Hollow, Whitespace, Trail}
use Rattle.json_pieces.specs.declared.seams.Seam.{Seam}
use Rattle.json_pieces.specs.declared.text.Text.{Text}
use Rattle.json_pieces.proofs.Marks.{marks_count}

-- ---- the names of seams

said_count : (ss : List Seam) (ns : List (List ℕ)) → AreSaid ss ns → length ss ≡ length ns
said_count [] [] h = refl
said_count [] (n ∷ ns) h = absurd h
said_count (s ∷ ss) [] h = absurd h
said_count (s ∷ ss) (n ∷ ns) h = ap suc (said_count ss ns h.1)

names_said : (ss : List Seam) (cs : List Child) (ns : List (List ℕ)) → AreNames ss cs → AreSaid ss ns → ns ≡ names_of cs
names_said [] [] [] h k = refl
names_said [] [] (n ∷ ns) h k = absurd k
names_said [] (c ∷ cs) ns h k = absurd h
names_said (s ∷ ss) [] ns h k = absurd h
names_said (s ∷ ss) (c ∷ cs) [] h k = absurd k
names_said (s ∷ ss) (c ∷ cs) (n ∷ ns) h k = ap₂ (λ x xs. x ∷ xs) (sym (k.0 c.0 h.0)) (names_said ss cs ns h.1 k.1)

said_behind : (ss : List Seam) (ns : List (List ℕ)) (s : Seam) (n : List ℕ) → ((l : List ℕ) → IsTextOf (text_bytes s.name) (string l) → l ≡ n) → AreSaid ss ns → AreSaid (ss ++ s ∷ []) (ns ++ n ∷ [])
said_behind [] [] s n is h = (is, tt)
said_behind [] (m ∷ ns) s n is h = absurd h
said_behind (t ∷ ss) [] s n is h = absurd h
said_behind (t ∷ ss) (m ∷ ns) s n is h = (h.0, said_behind ss ns s n is h.1)

said_taken : (ss : List Seam) (ns : List (List ℕ)) (i : ℕ) → AreSaid ss ns → AreSaid (remove ss i) (remove ns i)
said_taken [] [] i h = subst (λ o. AreSaid o (remove [] i)) (nothing i) (subst (λ o. AreSaid [] o) (nothing i) tt)
  where
    nothing : {A : Type 0} (i : ℕ) → ◌≡◌ {A = List A} [] (remove [] i)
    nothing zero = refl
    nothing (suc i) = refl
said_taken [] (n ∷ ns) i h = absurd h
said_taken (s ∷ ss) [] i h = absurd h
said_taken (s ∷ ss) (n ∷ ns) zero h = h.1
said_taken (s ∷ ss) (n ∷ ns) (suc i) h = (h.0, said_taken ss ns i h.1)

said_put : (ss : List Seam) (ns : List (List ℕ)) (i : ℕ) (s : Seam) (n : List ℕ) → i ≤ length ss → ((l : List ℕ) → IsTextOf (text_bytes s.name) (string l) → l ≡ n) → AreSaid ss ns → AreSaid (insert ss i s) (insert ns i n)
said_put ss ns zero s n l is h = (is, h)
said_put [] ns (suc i) s n l is h = absurd (omega (arith, l))
said_put (t ∷ ss) [] (suc i) s n l is h = absurd h
said_put (t ∷ ss) (m ∷ ns) (suc i) s n l is h = (h.0, said_put ss ns i s n (omega (arith, l)) is h.1)

said_set : (ss : List Seam) (ns : List (List ℕ)) (i : ℕ) (s t : Seam) → s ≡ get_or ss i s → t.name ≡ s.name → AreSaid ss ns → AreSaid (slice_set ss i t) ns
said_set [] ns i s t e n h = h
said_set (u ∷ ss) [] zero s t e n h = absurd h
said_set (u ∷ ss) [] (suc i) s t e n h = absurd h
said_set (u ∷ ss) (m ∷ ns) zero s t e n h = (subst (λ x. (l : List ℕ) → IsTextOf (text_bytes x) (string l) → l ≡ m) (sym (n ∙ ap (λ x. x.name) e)) h.0, h.1)
said_set (u ∷ ss) (m ∷ ns) (suc i) s t e n h = (h.0, said_set ss ns i s t e n h.1)

-- ---- the index is that of the seams

pub of_none : (x : NameIndex) → Fits x [] → IsIndexOf [] x
of_none x h = ∣ ([], tt, h) ∣₁

pub says : (ss : List Seam) (x : NameIndex) (k : List ℕ) (r : Option ℕ) → IsIndexOf ss x → ((cs : List Child) → Fits x (names_of cs) → r ≡ last_named k cs) → (cs : List Child) → AreNames ss cs → r ≡ last_named k cs
says ss x k r h all cs names =
    let one : IsProp (r ≡ last_named k cs) = Prim.hlevel props in
    ∥∥₁_elim h one (λ p. all cs (subst (Fits x) (names_said ss cs p.0 names p.1) p.2))

pub learnt : (s : Seam) (text : List ℕ) (name : String Global) (x y : NameIndex) (r : Result Unit AllocError) → text ≡ text_bytes s.name → ((l : List ℕ) → IsTextOf text (string l) → l ≡ string_bytes name)
    → OnOk r ((ns : List (List ℕ)) → Fits x ns → Fits y (ns ++ string_bytes name ∷ [])) → OnOk r ((ss : List Seam) → IsIndexOf ss x → IsIndexOf (ss ++ s ∷ []) y)
learnt s text name x y r e is = on_ok_weaker r (λ fits ss h. ∥∥₁_map h (λ p. (p.0 ++ string_bytes name ∷ [], said_behind ss p.0 s (string_bytes name) (λ l t. is l (subst (λ u. IsTextOf u (string l)) (sym e) t)) p.1, fits p.0 p.2)))

pub put_behind : (ss : List Seam) (s : Seam) (i : ℕ) (x y : NameIndex) → i ≡ length ss → ((ss : List Seam) → IsIndexOf ss x → IsIndexOf (ss ++ s ∷ []) y) → IsIndexOf ss x → IsIndexOf (insert ss i s) y
put_behind ss s i x y e learns h =
    subst (λ o. IsIndexOf o y) (sym (ap₂ (λ a b. a ++ s ∷ b) (take_all i ss (omega (arith, e))) (drop_all i ss (omega (arith, e))))) (learns ss h)

pub within_marks : (ss : List Seam) (o : Option NameIndex) (i : ℕ) → Agrees ss o → i < length ss → IfSome o (λ x. i < length (items_of x.marks))
within_marks ss None i h l = tt
within_marks ss (Some x) i h l = ∥∥₁_elim h le_prop (λ p. omega (arith, l, said_count ss p.0 p.1, marks_count (λ k. None) 0 p.0 (items_of x.marks) _ x.next p.2))

pub taken : (ss : List Seam) (i : ℕ) (x y : NameIndex) → ((ns : List (List ℕ)) → Fits x ns → Fits y (remove ns i)) → IsIndexOf ss x → IsIndexOf (remove ss i) y
taken ss i x y fits h = ∥∥₁_map h (λ p. (remove p.0 i, said_taken ss p.0 i p.1, fits p.0 p.2))

pub count_marks : (ss : List Seam) (o : Option NameIndex) (count : ℕ) → Agrees ss o → length ss ≡ count → IfSome o (λ x. count ≡ length (items_of x.marks))
count_marks ss None count h e = tt
count_marks ss (Some x) count h e =
    let one : IsProp (count ≡ length (items_of x.marks)) = Prim.hlevel props in
    ∥∥₁_elim h one (λ p. sym e ∙ said_count ss p.0 p.1 ∙ marks_count (λ k. None) 0 p.0 (items_of x.marks) _ x.next p.2)

pub come_back : (ss : List Seam) (i : ℕ) (s : Seam) (n : List ℕ) (x y : NameIndex) → i ≤ length ss → ((l : List ℕ) → IsTextOf (text_bytes s.name) (string l) → l ≡ n) → ((ns : List (List ℕ)) → Fits x ns → Fits y (insert ns i n)) → IsIndexOf ss x → IsIndexOf (insert ss i s) y
come_back ss i s n x y l is fits h = ∥∥₁_map h (λ p. (insert p.0 i n, said_put ss p.0 i s n l is p.1, fits p.0 p.2))

-- one seam is exchanged for another of its name
pub still_agrees : (ss : List Seam) (o : Option NameIndex) (i : ℕ) (s t : Seam) → s ≡ get_or ss i s → t.name ≡ s.name → Agrees ss o → Agrees (slice_set ss i t) o
still_agrees ss None i s t e n h = tt
still_agrees ss (Some x) i s t e n h = ∥∥₁_map h (λ p. (p.0, said_set ss p.0 i s t e n p.1, p.2))

-- ---- names alone count

abbrev names : List Seam → List Text
names = map (λ s. s.name)

said_alike : (ss ts : List Seam) (ns : List (List ℕ)) → names ss ≡ names ts → AreSaid ss ns → AreSaid ts ns
said_alike [] [] ns e h = h
said_alike [] (t ∷ ts) ns e h = absurd (omega (arith, ap length e))
said_alike (s ∷ ss) [] ns e h = absurd (omega (arith, ap length e))
said_alike (s ∷ ss) (t ∷ ts) [] e h = absurd h
said_alike (s ∷ ss) (t ∷ ts) (n ∷ ns) e h =
    let first : s.name ≡ t.name = cc in
    let others : names ss ≡ names ts = cc in
    (subst (λ x. (l : List ℕ) → IsTextOf (text_bytes x) (string l) → l ≡ n) first h.0, said_alike ss ts ns others h.1)

agrees_alike : (ss ts : List Seam) (o : Option NameIndex) → names ss ≡ names ts → Agrees ss o → Agrees ts o
agrees_alike ss ts None e h = tt
agrees_alike ss ts (Some x) e h = ∥∥₁_map h (λ p. (p.0, said_alike ss ts p.0 e p.1, p.2))

insert_names : (ss ts : List Seam) (n : ℕ) (s t : Seam) → names ss ≡ names ts → s.name ≡ t.name → names (insert ss n s) ≡ names (insert ts n t)
insert_names ss ts n s t e f = named ss n s ∙ ap₂ (λ ns x. insert ns n x) e f ∙ sym (named ts n t)
  where
    named : (ss : List Seam) (n : ℕ) (s : Seam) → names (insert ss n s) ≡ insert (names ss) n s.name
    named [] zero s = refl
    named [] (suc n) s = refl
    named (x ∷ ss) zero s = refl
    named (x ∷ ss) (suc n) s = ap (λ ns. x.name ∷ ns) (named ss n s)

set_names : (ss : List Seam) (n : ℕ) (s t : Seam) → s ≡ get_or ss n s → t.name ≡ s.name → names (slice_set ss n t) ≡ names ss
set_names ss n s t e f = map-set_same (λ x. x.name) ss n t s (f ∙ ap (λ x. x.name) e)

swapped_names : (slot : Slot) (s t : Seam) (hollow hollow2 : Text) (olds news : List Seam) → AreSwapped slot s hollow olds t hollow2 news → (names olds ≡ names news) × (s.name ≡ t.name)
swapped_names Hollow s t hollow hollow2 olds news h = (ap names (sym h.2), sym (ap (λ x. x.name) h.0))
swapped_names (Whitespace n) s t hollow hollow2 olds news h = (sym (ap names h.2.left ∙ set_names olds n h.2.seam _ h.2.is refl), sym (ap (λ x. x.name) h.0))
swapped_names (Trail n) s t hollow hollow2 olds news h = (sym (ap names h.2.left ∙ set_names olds n h.2.seam _ h.2.is refl), sym (ap (λ x. x.name) h.0))

-- an index for a seam that comes in is that for the same with other whitespace
pub still_indexed : (slot : Slot) (s t : Seam) (hollow hollow2 : Text) (olds news : List Seam) (n : ℕ) (o : Option NameIndex) → AreSwapped slot s hollow olds t hollow2 news → Agrees (insert olds n s) o → Agrees (insert news n t) o
still_indexed slot s t hollow hollow2 olds news n o h a =
    let k = swapped_names slot s t hollow hollow2 olds news h in
    agrees_alike (insert olds n s) (insert news n t) o (insert_names olds news n s t k.0 k.1) a
