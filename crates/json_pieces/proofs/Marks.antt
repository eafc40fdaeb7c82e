-- The marks of an index: what they say of a name, and what stays of them when a seam comes behind the last or is taken out.
use Rattle.std.proofs.Common.{◌≡◌, ℕ, zero, suc, ◌+◌, ◌<◌, ◌≤◌, ◌^◌, ◌⊎◌, inl, inr, Bool, true, false, cond, List, [], ◌∷◌, ◌++◌, length, get_or, slice_index_or, Option, Some, None, eqb, eqb-true, ltb, ltb-false, ltb-true, not, refl, sym, ap, ap₂, ◌∙◌, subst, arith}
use Rattle.std.specs.Prelude.{IfSome, option_map}
use Rattle.std.specs.Option.{option_eq}
use Rattle.std.specs.List.{insert, remove}
use Rattle.std.specs.List.Sorted.{IsNonDecreasingBy, IsPartitionPoint, IsPartitionedBy}
use Rattle.std.specs.BTreeMap.{get_by_text}
use Rattle.std.specs.Str.{bytes_eq}
use Rattle.std.proofs.lemmas.Bool.{cases_lt, cases_order, true≢false}
use Rattle.std.proofs.lemmas.List.{length-map}
use Rattle.std.proofs.lemmas.List.Sorted.{IsNonDecreasingBy-from_default, IsPartitionedBy-ltb}
use Rattle.std.proofs.lemmas.Option.{none-some, same_Some}
use Rattle.std.proofs.lemmas.Slice.Eq.{bytes_eq-Decides}
use Rattle.json_lexemes.specs.Found.{or_else}
use Rattle.json_text.specs.Rows.{Child, last_named}
use Rattle.long_vec.specs.Items.{items_of}
use Rattle.json_pieces.specs.Marks.{AreMarks, Fits, IsKeyFor, Keys, key_of, names_of, with_key}
use Rattle.json_pieces.specs.declared.index.Mark.{Mark}
use Rattle.json_pieces.specs.declared.index.NameIndex.{NameIndex}
use Rattle.json_pieces.proofs.Naming.{bytes_same, named_within}

abbrev pub no_mark : Mark
no_mark = record { key = 0; earlier = None }

abbrev pub key_at : List Mark → ℕ → ℕ
key_at ms i = (get_or ms i no_mark).key

pub marks_count : (f : Keys) (low : ℕ) (ns : List (List ℕ)) (ms : List Mark) (g : Keys) (top : ℕ) → AreMarks f low ns ms g top → length ns ≡ length ms
marks_count f low [] [] g top h = refl
marks_count f low [] (m ∷ ms) g top h = absurd h
marks_count f low (n ∷ ns) [] g top h = absurd h
marks_count f low (n ∷ ns) (m ∷ ms) g top h = ap suc (marks_count (with_key f n m.key) (suc m.key) ns ms g top h.2)

-- ---- one name or another

-- the names are the same, or the test tells them apart
same_or : (n k : List ℕ) → (n ≡ k) ⊎ (bytes_eq n k ≡ false)
same_or n k = by_test (bytes_eq n k) refl
  where
    by_test : (t : Bool) → bytes_eq n k ≡ t → (n ≡ k) ⊎ (bytes_eq n k ≡ false)
    by_test true e = inl ((bytes_eq-Decides n k).0 e)
    by_test false e = inr e

at_it : (f : Keys) (n k : List ℕ) (key : ℕ) → n ≡ k → with_key f n key k ≡ Some key
at_it f n k key e = ap (λ b. cond b (Some key) (f k)) (bytes_same n k e)

elsewhere : (f : Keys) (n k : List ℕ) (key : ℕ) → bytes_eq n k ≡ false → with_key f n key k ≡ f k
elsewhere f n k key e = ap (λ b. cond b (Some key) (f k)) e

-- the other way round
apart : (n k : List ℕ) → bytes_eq n k ≡ false → bytes_eq k n ≡ false
apart n k e = elim (same_or k n) [
  | inl s ↦ ap (λ l. bytes_eq l n) s ∙ ap (bytes_eq n) (sym s) ∙ e
  | inr d ↦ d
]

-- ---- what the keys say of a name

-- the key of the last one of this name, or what was known before
last_is : (f : Keys) (low : ℕ) (cs : List Child) (ms : List Mark) (g : Keys) (top : ℕ) (k : List ℕ) → AreMarks f low (names_of cs) ms g top → g k ≡ or_else (option_map (key_at ms) (last_named k cs)) (f k)
last_is f low [] [] g top k h = h.1 k
last_is f low [] (m ∷ ms) g top k h = absurd h
last_is f low (c ∷ cs) [] g top k h = absurd h
last_is f low (c ∷ cs) (m ∷ ms) g top k h = last_is (with_key f c.0 m.key) (suc m.key) cs ms g top k h.2 ∙ by (last_named k cs) (bytes_eq c.0 k)
  where
    by : (o : Option ℕ) (b : Bool) → or_else (option_map (key_at ms) o) (cond b (Some m.key) (f k)) ≡ or_else (option_map (key_at (m ∷ ms)) (or_else (option_map suc o) (cond b (Some zero) None))) (f k)
    by (Some i) b = refl
    by None true = refl
    by None false = refl

-- ---- the keys rise

from_low : (f : Keys) (low : ℕ) (ns : List (List ℕ)) (ms : List Mark) (g : Keys) (top i : ℕ) → AreMarks f low ns ms g top → i < length ms → low ≤ key_at ms i
from_low f low [] [] g top i h l = absurd (omega (arith, l))
from_low f low [] (m ∷ ms) g top i h l = absurd h
from_low f low (n ∷ ns) [] g top i h l = absurd h
from_low f low (n ∷ ns) (m ∷ ms) g top zero h l = h.0
from_low f low (n ∷ ns) (m ∷ ms) g top (suc i) h l = let more = from_low (with_key f n m.key) (suc m.key) ns ms g top i h.2 (omega (arith, l)) in omega (arith, h.0, more)

pub keys_rise : (f : Keys) (low : ℕ) (ns : List (List ℕ)) (ms : List Mark) (g : Keys) (top i j : ℕ) → AreMarks f low ns ms g top → i < j → j < length ms → key_at ms i < key_at ms j
keys_rise f low [] [] g top i j h l u = absurd (omega (arith, u))
keys_rise f low [] (m ∷ ms) g top i j h l u = absurd h
keys_rise f low (n ∷ ns) [] g top i j h l u = absurd h
keys_rise f low (n ∷ ns) (m ∷ ms) g top i zero h l u = absurd (omega (arith, l))
keys_rise f low (n ∷ ns) (m ∷ ms) g top zero (suc j) h l u = let more = from_low (with_key f n m.key) (suc m.key) ns ms g top j h.2 (omega (arith, u)) in omega (arith, more)
keys_rise f low (n ∷ ns) (m ∷ ms) g top (suc i) (suc j) h l u = keys_rise (with_key f n m.key) (suc m.key) ns ms g top i j h.2 (omega (arith, l)) (omega (arith, u))

-- ---- a seam comes behind the last

pub marks_pushed : (f : Keys) (low : ℕ) (ns : List (List ℕ)) (ms : List Mark) (g : Keys) (top : ℕ) (n : List ℕ) (m : Mark) (h : Keys) (new : ℕ) → m.key ≡ top → m.earlier ≡ g n → ((k : List ℕ) → h k ≡ with_key g n top k) → top < new
    → AreMarks f low ns ms g top → AreMarks f low (ns ++ n ∷ []) (ms ++ m ∷ []) h new
marks_pushed f low [] [] g top n m h new key earlier learns up a =
    (omega (arith, a.0, key), earlier ∙ a.1 n, (omega (arith, key, up), λ k. learns k ∙ ap₂ (λ x o. cond (bytes_eq n k) (Some x) o) (sym key) (a.1 k)))
marks_pushed f low [] (y ∷ ms) g top n m h new key earlier learns up a = absurd a
marks_pushed f low (x ∷ ns) [] g top n m h new key earlier learns up a = absurd a
marks_pushed f low (x ∷ ns) (y ∷ ms) g top n m h new key earlier learns up a =
    (a.0, a.1, marks_pushed (with_key f x y.key) (suc y.key) ns ms g top n m h new key earlier learns up a.2)

-- ---- a seam is taken out

beside : (f : Keys) (n k : List ℕ) (key other : ℕ) → key < other → with_key f n other k ≡ Some key → f k ≡ Some key
beside f n k key other l e = by (same_or n k)
  where
    by : (n ≡ k) ⊎ (bytes_eq n k ≡ false) → f k ≡ Some key
    by (inl s) = absurd (omega (arith, l, same_Some other key (sym (at_it f n k other s) ∙ e)))
    by (inr d) = sym (elsewhere f n k other d) ∙ e

-- a key below those of the marks was known before them
known_before : (f : Keys) (low : ℕ) (ns : List (List ℕ)) (ms : List Mark) (g : Keys) (top : ℕ) (n : List ℕ) (key : ℕ) → g n ≡ Some key → key < low → AreMarks f low ns ms g top → f n ≡ Some key
known_before f low [] [] g top n key e l a = sym (a.1 n) ∙ e
known_before f low [] (m ∷ ms) g top n key e l a = absurd a
known_before f low (x ∷ ns) [] g top n key e l a = absurd a
known_before f low (x ∷ ns) (m ∷ ms) g top n key e l a =
    beside f x n key m.key (omega (arith, l, a.0)) (known_before (with_key f x m.key) (suc m.key) ns ms g top n key e (omega (arith, l, a.0)) a.2)

-- two names learnt in either order
swapped : (f e : Keys) (n x k : List ℕ) (key other : ℕ) → bytes_eq n x ≡ false → e k ≡ with_key f n key k → with_key e x other k ≡ with_key (with_key f x other) n key k
swapped f e n x k key other apart_are is = by (same_or x k)
  where
    by : (x ≡ k) ⊎ (bytes_eq x k ≡ false) → with_key e x other k ≡ with_key (with_key f x other) n key k
    by (inl s) = at_it e x k other s ∙ sym (at_it f x k other s) ∙ sym (elsewhere (with_key f x other) n k key (ap (bytes_eq n) (sym s) ∙ apart_are))
    by (inr d) = elsewhere e x k other d ∙ is ∙ ap (λ o. cond (bytes_eq n k) (Some key) o) (sym (elsewhere f x k other d))

-- of a name whose last one stood before these marks, that one is forgotten
forgotten : (f e : Keys) (low lo : ℕ) (ns : List (List ℕ)) (ms : List Mark) (g : Keys) (top : ℕ) (h : Keys) (n : List ℕ) (key : ℕ) → ((k : List ℕ) → e k ≡ with_key f n key k) → lo ≤ low → key < low → g n ≡ Some key → ((k : List ℕ) → h k ≡ cond (bytes_eq n k) (f n) (g k))
    → AreMarks e low ns ms g top → AreMarks f lo ns ms h top
forgotten f e low lo [] [] g top h n key is l below last new a = (omega (arith, a.0, l), λ k. by k (same_or n k))
  where
    by : (k : List ℕ) → (n ≡ k) ⊎ (bytes_eq n k ≡ false) → h k ≡ f k
    by k (inl s) = new k ∙ ap (λ b. cond b (f n) (g k)) (bytes_same n k s) ∙ ap f s
    by k (inr d) = new k ∙ ap (λ b. cond b (f n) (g k)) d ∙ a.1 k ∙ is k ∙ elsewhere f n k key d
forgotten f e low lo [] (m ∷ ms) g top h n key is l below last new a = absurd a
forgotten f e low lo (x ∷ ns) [] g top h n key is l below last new a = absurd a
forgotten f e low lo (x ∷ ns) (m ∷ ms) g top h n key is l below last new a =
    (omega (arith, a.0, l), a.1 ∙ is x ∙ elsewhere f n x key other, forgotten (with_key f x m.key) (with_key e x m.key) (suc m.key) (suc m.key) ns ms g top h n key (λ k. swapped f e n x k key m.key other (is k)) (omega arith) (omega (arith, below, a.0)) last gone a.2)
  where
    by : (n ≡ x) ⊎ (bytes_eq n x ≡ false) → bytes_eq n x ≡ false
    by (inl s) =
        let before : with_key e x m.key n ≡ Some key = known_before (with_key e x m.key) (suc m.key) ns ms g top n key last (omega (arith, below, a.0)) a.2 in
        absurd (omega (arith, below, a.0, same_Some m.key key (sym (at_it e x n m.key (sym s)) ∙ before)))
    by (inr d) = d

    other : bytes_eq n x ≡ false
    other = by (same_or n x)

    gone : (k : List ℕ) → h k ≡ cond (bytes_eq n k) (with_key f x m.key n) (g k)
    gone k = new k ∙ ap (λ o. cond (bytes_eq n k) o (g k)) (sym (elsewhere f x n m.key (apart n x other)))

-- the keys that are known are below this
abbrev pub AreBelow : Keys → ℕ → Type 0
AreBelow f low = (k : List ℕ) (key : ℕ) → f k ≡ Some key → key < low

learnt_below : (f : Keys) (low : ℕ) (n : List ℕ) (key : ℕ) → AreBelow f low → low ≤ key → AreBelow (with_key f n key) (suc key)
learnt_below f low n key b l k a e = by (same_or n k)
  where
    by : (n ≡ k) ⊎ (bytes_eq n k ≡ false) → a < suc key
    by (inl s) = omega (arith, same_Some key a (sym (at_it f n k key s) ∙ e))
    by (inr d) = omega (arith, l, b k a (sym (elsewhere f n k key d) ∙ e))

-- the last one of its name, which has this number, is taken out
pub marks_taken : (f : Keys) (low : ℕ) (ns : List (List ℕ)) (ms : List Mark) (g : Keys) (top : ℕ) (h : Keys) (n : List ℕ) (i : ℕ) (m : Mark) → AreBelow f low → i < length ms → m ≡ get_or ms i m → g n ≡ Some m.key → ((k : List ℕ) → h k ≡ cond (bytes_eq n k) m.earlier (g k))
    → AreMarks f low ns ms g top → AreMarks f low (remove ns i) (remove ms i) h top
marks_taken f low [] [] g top h n i m b l e last new a = absurd (omega (arith, l))
marks_taken f low [] (y ∷ ms) g top h n i m b l e last new a = absurd a
marks_taken f low (x ∷ ns) [] g top h n i m b l e last new a = absurd a
marks_taken f low (x ∷ ns) (y ∷ ms) g top h n zero m b l e last new a =
    forgotten f (with_key f x y.key) (suc y.key) low ns ms g top h n y.key (λ k. ap (λ l. with_key f l y.key k) named) (omega (arith, a.0)) (omega arith) it
    (λ k. new k ∙ ap (λ o. cond (bytes_eq n k) o (g k)) (ap (λ z. z.earlier) e ∙ a.1 ∙ ap f named)) a.2
  where
    it : g n ≡ Some y.key
    it = last ∙ ap (λ z. Some z.key) e

    before : with_key f x y.key n ≡ Some y.key
    before = known_before (with_key f x y.key) (suc y.key) ns ms g top n y.key it (omega arith) a.2

    by : (x ≡ n) ⊎ (bytes_eq x n ≡ false) → x ≡ n
    by (inl s) = s
    by (inr d) = absurd (omega (arith, a.0, b n y.key (sym (elsewhere f x n y.key d) ∙ before)))

    named : x ≡ n
    named = by (same_or x n)
marks_taken f low (x ∷ ns) (y ∷ ms) g top h n (suc i) m b l e last new a =
    (a.0, a.1, marks_taken (with_key f x y.key) (suc y.key) ns ms g top h n i m (learnt_below f low x y.key b a.0) (omega (arith, l)) e last new a.2)

-- ---- the number of the last one of a name

absent : (ms : List Mark) (o r : Option ℕ) → r ≡ None → None ≡ or_else (option_map (key_at ms) o) None → r ≡ o
absent ms None r e h = e
absent ms (Some i) r e h = absurd (none-some (key_at ms i) h)

pub none_latest : (cs : List Child) (ms : List Mark) (g : Keys) (top : ℕ) (k : List ℕ) (r : Option ℕ) → g k ≡ None → r ≡ None → AreMarks (λ k. None) 0 (names_of cs) ms g top → r ≡ last_named k cs
none_latest cs ms g top k r none e a = absent ms (last_named k cs) r e (sym none ∙ last_is (λ k. None) 0 cs ms g top k a)

numbered : (ms : List Mark) (o : Option ℕ) (i key : ℕ) → Some key ≡ or_else (option_map (key_at ms) o) None → IfSome o (λ j. j < length ms) → ((j : ℕ) → j < length ms → key_at ms j ≡ key → i ≡ j) → Some i ≡ o
numbered ms None i key e w only = absurd (none-some key (sym e))
numbered ms (Some j) i key e w only = ap Some (only j w (sym (same_Some key (key_at ms j) e)))

-- the keys below this one end where it stands
at_point : (ms : List Mark) (i j key : ℕ) → i ≤ length ms → IsPartitionPoint (λ m. ltb m.key key ≡ true) (λ m. ltb m.key key ≡ false) ms i → ((a b : ℕ) → a < b → b < length ms → key_at ms a < key_at ms b) → j < length ms → key_at ms j ≡ key → i ≡ j
at_point ms i j key bound point rise l e = elim (cases_order i j) [
  | inl same ↦ same
  | inr (inl before) ↦ absurd (omega (arith, ltb-false (key_at ms i) key (point.1 i no_mark (omega arith) (omega (arith, before, l))), rise i j before l, e))
  | inr (inr behind) ↦ absurd (omega (arith, ltb-true (key_at ms j) key (point.0 j no_mark (omega arith) behind), e))
]

pub at_latest : (cs : List Child) (ms : List Mark) (g : Keys) (top : ℕ) (k : List ℕ) (i key : ℕ) → g k ≡ Some key → i ≤ length ms
    → (IsPartitionedBy (λ m. ltb m.key key) ms → IsPartitionPoint (λ m. ltb m.key key ≡ true) (λ m. ltb m.key key ≡ false) ms i)
    → AreMarks (λ k. None) 0 (names_of cs) ms g top → Some i ≡ last_named k cs
at_latest cs ms g top k i key is bound point a =
    let rise : (a b : ℕ) → a < b → b < length ms → key_at ms a < key_at ms b = λ x y l u. keys_rise (λ k. None) 0 (names_of cs) ms g top x y a l u in
    let up : IsNonDecreasingBy (λ m. m.key) ms = IsNonDecreasingBy-from_default (λ m. m.key) ms no_mark (λ x y l u. not_less ms rise x y l u) in
    let count : length cs ≡ length ms = sym (length-map cs (λ c. c.0)) ∙ marks_count (λ k. None) 0 (names_of cs) ms g top a in
    numbered ms (last_named k cs) i key (sym is ∙ last_is (λ k. None) 0 cs ms g top k a) (named_within k cs (last_named k cs) (length ms) refl count)
    (λ j l e. at_point ms i j key bound (point (IsPartitionedBy-ltb (λ m. m.key) ms key up)) rise l e)
  where
    not_less : (ms : List Mark) → ((a b : ℕ) → a < b → b < length ms → key_at ms a < key_at ms b) → (x y : ℕ) → x ≤ y → y < length ms → key_at ms x ≤ key_at ms y
    not_less ms rise x y l u = elim (cases_lt x y) [
      | inl below ↦ omega (arith, rise x y below u)
      | inr over ↦ let same : x ≡ y = omega (arith, l, over) in omega (arith, ap (key_at ms) same)
    ]

-- ---- a seam comes back

-- the last key of a name is not below one that was known
later_known : (f : Keys) (low : ℕ) (ns : List (List ℕ)) (ms : List Mark) (g : Keys) (top : ℕ) (n : List ℕ) (key : ℕ) → f n ≡ Some key → key ≤ low → AreMarks f low ns ms g top → (b : ℕ) × (g n ≡ Some b) × (key ≤ b)
later_known f low [] [] g top n key e l a = (key, a.1 n ∙ e, omega arith)
later_known f low [] (m ∷ ms) g top n key e l a = absurd a
later_known f low (x ∷ ns) [] g top n key e l a = absurd a
later_known f low (x ∷ ns) (m ∷ ms) g top n key e l a =
    elim (same_or x n) [
      | inl s ↦ let (b, is, more) = later_known (with_key f x m.key) (suc m.key) ns ms g top n m.key (at_it f x n m.key s) (omega arith) a.2 in (b, is, omega (arith, l, a.0, more))
      | inr d ↦ later_known (with_key f x m.key) (suc m.key) ns ms g top n key (elsewhere f x n m.key d ∙ e) (omega (arith, l, a.0)) a.2
    ]

-- of a name whose last one stands before these marks, that one is known
remembered : (f e : Keys) (lo : ℕ) (ns : List (List ℕ)) (ms : List Mark) (g : Keys) (top : ℕ) (h : Keys) (n : List ℕ) (key : ℕ) → ((k : List ℕ) → e k ≡ with_key f n key k) → key < lo → ((b : ℕ) → g n ≡ Some b → b < key) → ((k : List ℕ) → h k ≡ with_key g n key k)
    → AreMarks f lo ns ms g top → AreMarks e lo ns ms h top
remembered f e lo [] [] g top h n key is below gone new a = (a.0, λ k. new k ∙ ap (λ o. cond (bytes_eq n k) (Some key) o) (a.1 k) ∙ sym (is k))
remembered f e lo [] (m ∷ ms) g top h n key is below gone new a = absurd a
remembered f e lo (x ∷ ns) [] g top h n key is below gone new a = absurd a
remembered f e lo (x ∷ ns) (m ∷ ms) g top h n key is below gone new a =
    (a.0, a.1 ∙ sym (is x ∙ elsewhere f n x key other), remembered (with_key f x m.key) (with_key e x m.key) (suc m.key) ns ms g top h n key (λ k. swapped f e n x k key m.key other (is k)) (omega (arith, below, a.0)) gone new a.2)
  where
    by : (n ≡ x) ⊎ (bytes_eq n x ≡ false) → bytes_eq n x ≡ false
    by (inl s) =
        let (b, last, more) = later_known (with_key f x m.key) (suc m.key) ns ms g top n m.key (at_it f x n m.key (sym s)) (omega arith) a.2 in
        absurd (omega (arith, below, a.0, more, gone b last))
    by (inr d) = d

    other : bytes_eq n x ≡ false
    other = by (same_or n x)

-- behind the mark before it
abbrev IsBehind : ℕ → List Mark → ℕ → ℕ → Type 0
IsBehind low ms zero key = low ≤ key
IsBehind low ms (suc j) key = key_at ms j < key

behind_next : (low : ℕ) (m : Mark) (ms : List Mark) (i key : ℕ) → IsBehind low (m ∷ ms) (suc i) key → IsBehind (suc m.key) ms i key
behind_next low m ms zero key h = h
behind_next low m ms (suc i) key h = h

-- what is known before a mark to come, of its name, is what is known behind the others
known_there : (f : Keys) (low : ℕ) (ns : List (List ℕ)) (ms : List Mark) (g : Keys) (top : ℕ) (n : List ℕ) (key : ℕ) → AreBelow f low → ((b : ℕ) → g n ≡ Some b → b < key) → key ≤ low → AreMarks f low ns ms g top → g n ≡ f n
known_there f low ns ms g top n key b gone l a = by (g n) refl (f n) refl
  where
    by : (o : Option ℕ) → g n ≡ o → (r : Option ℕ) → f n ≡ r → o ≡ r
    by None e None d = refl
    by None e (Some x) d = let (y, is, more) = later_known f low ns ms g top n x d (let z = b n x d in omega (arith, z)) a in absurd (none-some y (sym e ∙ is))
    by (Some y) e r d = sym (known_before f low ns ms g top n y e (omega (arith, gone y e, l)) a) ∙ d

-- marks with keys from a higher one on
raised : (f : Keys) (low lo : ℕ) (ns : List (List ℕ)) (ms : List Mark) (g : Keys) (top : ℕ) → (0 < length ms → lo ≤ key_at ms 0) → (0 ≡ length ms → lo ≤ top) → AreMarks f low ns ms g top → AreMarks f lo ns ms g top
raised f low lo [] [] g top l u a = (u refl, a.1)
raised f low lo [] (m ∷ ms) g top l u a = absurd a
raised f low lo (x ∷ ns) [] g top l u a = absurd a
raised f low lo (x ∷ ns) (m ∷ ms) g top l u a = (l (omega arith), a.1, a.2)

-- a seam that is the last of its name comes to number i
pub marks_put : (f : Keys) (low : ℕ) (ns : List (List ℕ)) (ms : List Mark) (g : Keys) (top : ℕ) (h : Keys) (n : List ℕ) (i : ℕ) (m : Mark) → AreBelow f low → i ≤ length ms → IsBehind low ms i m.key → (i < length ms → m.key < key_at ms i) → (i ≡ length ms → m.key < top) → m.earlier ≡ g n
    → ((b : ℕ) → g n ≡ Some b → b < m.key) → ((k : List ℕ) → h k ≡ with_key g n m.key k) → AreMarks f low ns ms g top → AreMarks f low (insert ns i n) (insert ms i m) h top
marks_put f low ns ms g top h n zero m b l low_is ahead last earlier gone new a =
    let up : AreMarks f (suc m.key) ns ms g top = raised f low (suc m.key) ns ms g top (λ some. ahead some) (λ none. last none) a in
    let below : AreBelow f (suc m.key) = λ k key e. let z = b k key e in omega (arith, z, low_is) in
    (low_is, earlier ∙ known_there f (suc m.key) ns ms g top n m.key below gone (omega arith) up, remembered f (with_key f n m.key) (suc m.key) ns ms g top h n m.key (λ k. refl) (omega arith) gone new up)
marks_put f low [] [] g top h n (suc i) m b l behind ahead last earlier gone new a = absurd (omega (arith, l))
marks_put f low [] (y ∷ ms) g top h n (suc i) m b l behind ahead last earlier gone new a = absurd a
marks_put f low (x ∷ ns) [] g top h n (suc i) m b l behind ahead last earlier gone new a = absurd a
marks_put f low (x ∷ ns) (y ∷ ms) g top h n (suc i) m b l behind ahead last earlier gone new a =
    (a.0, a.1, marks_put (with_key f x y.key) (suc y.key) ns ms g top h n i m (learnt_below f low x y.key b a.0) (omega (arith, l)) (behind_next low y ms i m.key behind) (λ some. ahead (omega (arith, some))) (λ none. last (omega (arith, none))) earlier gone new a.2)

-- ---- what is written to an index

abbrev pub known : NameIndex → Keys
known x k = key_of (get_by_text x.latest k)

-- a name is given this key, or none
pub is_set : (o p : Option (Option ℕ)) (b : Bool) (q : Option ℕ) → p ≡ cond b (Some q) o → key_of p ≡ cond b q (key_of o)
is_set o p true q e = ap key_of e
is_set o p false q e = ap key_of e

pub index_learnt : (x y : NameIndex) (n : List ℕ) (earlier : Option ℕ) → items_of y.marks ≡ items_of x.marks ++ record { key = x.next; earlier = earlier } ∷ [] → earlier ≡ known x n → ((k : List ℕ) → known y k ≡ with_key (known x) n x.next k) → x.next < y.next
    → (ns : List (List ℕ)) → Fits x ns → Fits y (ns ++ n ∷ [])
index_learnt x y n earlier marks is learns up ns h =
    subst (λ ms. AreMarks (λ k. None) 0 (ns ++ n ∷ []) ms (known y) y.next) (sym marks)
    (marks_pushed (λ k. None) 0 ns (items_of x.marks) (known x) x.next n (record { key = x.next; earlier = earlier }) (known y) y.next refl is learns up h)

pub index_without : (x y : NameIndex) (n : List ℕ) (i : ℕ) (m : Mark) → i < length (items_of x.marks) → m ≡ get_or (items_of x.marks) i m → items_of y.marks ≡ remove (items_of x.marks) i → known x n ≡ Some m.key → ((k : List ℕ) → known y k ≡ cond (bytes_eq n k) m.earlier (known x k)) → y.next ≡ x.next
    → (ns : List (List ℕ)) → Fits x ns → Fits y (remove ns i)
index_without x y n i m l at marks last gone next ns h =
    subst (λ ms. AreMarks (λ k. None) 0 (remove ns i) ms (known y) y.next) (sym marks)
    (subst (AreMarks (λ k. None) 0 (remove ns i) (remove (items_of x.marks) i) (known y)) (sym next)
    (marks_taken (λ k. None) 0 ns (items_of x.marks) (known x) x.next (known y) n i m (λ k key e. absurd (none-some key e)) l at last gone h))

pub index_with : (x y : NameIndex) (n : List ℕ) (i : ℕ) (m : Mark) → i ≤ length (items_of x.marks) → IsKeyFor (items_of x.marks) x.next i m.key → items_of y.marks ≡ insert (items_of x.marks) i m → m.earlier ≡ known x n → ((b : ℕ) → known x n ≡ Some b → b < m.key) → ((k : List ℕ) → known y k ≡ with_key (known x) n m.key k) → y.next ≡ x.next
    → (ns : List (List ℕ)) → Fits x ns → Fits y (insert ns i n)
index_with x y n i m l key marks earlier gone new next ns h =
    subst (λ ms. AreMarks (λ k. None) 0 (insert ns i n) ms (known y) y.next) (sym marks)
    (subst (AreMarks (λ k. None) 0 (insert ns i n) (insert (items_of x.marks) i m) (known y)) (sym next)
    (marks_put (λ k. None) 0 ns (items_of x.marks) (known x) x.next (known y) n i m (λ k a e. absurd (none-some a e)) l (behind i l key.behind) (λ some. key.before (get_or (items_of x.marks) i no_mark) some (there (items_of x.marks) i some)) key.last earlier gone new h))
  where
    there : (ms : List Mark) (j : ℕ) → j < length ms → get_or ms j no_mark ≡ slice_index_or ms j (get_or ms j no_mark)
    there [] j u = absurd (omega (arith, u))
    there (m ∷ ms) zero u = refl
    there (m ∷ ms) (suc j) u = there ms j (omega (arith, u))

    behind : (i : ℕ) → i ≤ length (items_of x.marks) → ((j : ℕ) (a : Mark) → i ≡ suc j → a ≡ slice_index_or (items_of x.marks) j a → a.key < m.key) → IsBehind 0 (items_of x.marks) i m.key
    behind zero u p = omega arith
    behind (suc j) u p = p j (get_or (items_of x.marks) j no_mark) refl (there (items_of x.marks) j (omega (arith, u)))

-- ---- what is read of it

pub named_none : (x : NameIndex) (k : List ℕ) (r : Option ℕ) → known x k ≡ None → r ≡ None → (cs : List Child) → Fits x (names_of cs) → r ≡ last_named k cs
named_none x k r none e cs h = none_latest cs (items_of x.marks) (known x) x.next k r none e h

-- no more marks than keys
marks_fit : (f : Keys) (low : ℕ) (ns : List (List ℕ)) (ms : List Mark) (g : Keys) (top : ℕ) → AreMarks f low ns ms g top → low + length ms ≤ top
marks_fit f low [] [] g top h = omega (arith, h.0)
marks_fit f low [] (m ∷ ms) g top h = absurd h
marks_fit f low (n ∷ ns) [] g top h = absurd h
marks_fit f low (n ∷ ns) (m ∷ ms) g top h = omega (arith, h.0, marks_fit (with_key f n m.key) (suc m.key) ns ms g top h.2)

pub named_at : (x : NameIndex) (k : List ℕ) (i key : ℕ) → x.next < 2 ^ 64 → known x k ≡ Some key → i ≤ length (items_of x.marks)
    → (length (items_of x.marks) < 2 ^ 64 → IsPartitionedBy (λ m. ltb m.key key) (items_of x.marks) → IsPartitionPoint (λ m. ltb m.key key ≡ true) (λ m. ltb m.key key ≡ false) (items_of x.marks) i)
    → (cs : List Child) → Fits x (names_of cs) → Some i ≡ last_named k cs
named_at x k i key small is bound point cs h =
    at_latest cs (items_of x.marks) (known x) x.next k i key is bound (point (omega (arith, small, marks_fit (λ k. None) 0 (names_of cs) (items_of x.marks) (known x) x.next h))) h

-- ---- what tests tell

pub is_same : (o : Option ℕ) (key : ℕ) → false ≡ not (option_eq eqb o (Some key)) → o ≡ Some key
is_same None key e = absurd (true≢false (sym e))
is_same (Some a) key e = ap Some (eqb-true a key (by (eqb a key) e))
  where
    by : (b : Bool) → false ≡ not b → b ≡ true
    by true f = refl
    by false f = absurd (true≢false (sym f))
