-- Trees read as documents in which numbers stand for numerals.
use Rattle.std.proofs.Common.{◌≡◌, ◌<◌, ◌≤◌, ◌+◌, ℕ, zero, suc, List, [], ◌∷◌, ◌++◌, length, drop, get_or, Some, refl, sym, ap, ap₂, ◌∙◌, subst, arith, append-nil, append_assoc}
use Rattle.std.specs.Prelude.{slice_get, unwrap_or, codes}
use Rattle.std.proofs.lemmas.List.{drop_more}
use Rattle.std.proofs.lemmas.Option.{none-some}
use Rattle.std.specs.Borrow.{Bor}
use Rattle.std.proofs.Common.{String, Global, string_bytes, string_cmp}
use Rattle.std.specs.BTreeMap.{insert_entry}
use Rattle.json.specs.Json as json
use Rattle.json.specs.Json.{Json}
use Rattle.json.specs.Print.{IsNumber}
use Rattle.json.specs.Tree as tree
use Rattle.json.specs.Tree.{HasNumbers, ItemsHaveNumbers, MembersHaveNumbers}
use Rattle.json.specs.Value as value
use Rattle.json.specs.Value.{value_view}
use Rattle.json.specs.declared.value.Value as declared
use Rattle.serde_json.specs.Data.{Num, unsigned, Data, number, Items, no_items, item, Members, no_members, put}
use Rattle.serde_json.specs.View.{view, items_view, members_view}
use Rattle.serde_json.specs.declared.value.Value.{Value}
use Rattle.serde_json.proofs.Views.{Entry, members_view-insert_entry}
use Rattle.json_number.specs.Numbers.{SameNumber}
use Rattle.json_number.proofs.Same.{same_reflexive}
use Rattle.json_diff_text.specs.Tables.{numerals_in}
use Rattle.json_patch_document.specs.Document.{IsDocument, AreDocuments, AreMembers}
use Rattle.json_patch_document.proofs.Members.{put_members}
use Rattle.json_reading.specs.Reading.{Reading}
use Rattle.json_reading.specs.Trees.{data_of, elements_of, members_of}
use Rattle.json_diff_text.specs.Numerals.{read_as, StandsFor, StandFor, StandForMembers, Grows, AreNumbers}
use Rattle.json_diff_text.specs.Renumbered.{renumbered, renumbered_items, renumbered_members}
use Rattle.json_diff_text.proofs.Renumbering.{put_is}

-- ---- the table

pub grown_get : {A : Type 0} (ts us : List A) (n : ℕ) (t : A) → slice_get ts n ≡ Some t → slice_get (ts ++ us) n ≡ Some t
grown_get [] us n t e = absurd (none-some t e)
grown_get (x ∷ ts) us zero t e = e
grown_get (x ∷ ts) us (suc n) t e = grown_get ts us n t e

pub stands_number : (ts : List (List ℕ)) (n : ℕ) (s t : List ℕ) → slice_get ts n ≡ Some t → SameNumber t s → StandsFor ts (number (unsigned n)) (json.number s)
stands_number ts n s t e same r us = ap number (ap (λ o. r.of (unwrap_or o (codes "0"))) (grown_get ts us n t e) ∙ r.alike t s same)

pub grows_not : (ts : List (List ℕ)) → Grows ts ts
grows_not ts = ([], sym (append-nil ts))

pub grows_more : (a b c : List (List ℕ)) → Grows a b → Grows b c → Grows a c
grows_more a b c (us, e) (vs, f) = (us ++ vs, f ∙ ap (λ x. x ++ vs) e ∙ append_assoc a us vs)

grown : (a b vs : List (List ℕ)) (g : Grows a b) → b ++ vs ≡ a ++ (g.0 ++ vs)
grown a b vs (us, e) = ap (λ x. x ++ vs) e ∙ append_assoc a us vs

pub stands_grown : (a b : List (List ℕ)) (d : Data) (j : Json) → Grows a b → StandsFor a d j → StandsFor b d j
stands_grown a b d j g h r vs = subst (λ ts. renumbered (read_as r ts) d ≡ data_of r j) (sym (grown a b vs g)) (h r (g.0 ++ vs))

pub numbers_pushed : (ts : List (List ℕ)) (t : List ℕ) → AreNumbers ts → IsNumber t → AreNumbers (ts ++ t ∷ [])
numbers_pushed [] t h n = (n, tt)
numbers_pushed (u ∷ ts) t h n = (h.0, numbers_pushed ts t h.1 n)

pub pushed_get : {A : Type 0} (ts : List A) (t : A) → slice_get (ts ++ t ∷ []) (length ts) ≡ Some t
pushed_get [] t = refl
pushed_get (u ∷ ts) t = pushed_get ts t

-- ---- lists

pub joined : Items → Items → Items
joined no_items es = es
joined (item d ds) es = item d (joined ds es)

pub joined_none : (ds : Items) → joined ds no_items ≡ ds
unfolding joined
joined_none no_items = refl
joined_none (item d ds) = ap (item d) (joined_none ds)

-- the items so far, with those that are left, are all
abbrev pub AreSoFar : List (List ℕ) → Items → json.Items → json.Items → Type 0
AreSoFar ts ds rest all = (r : Reading) (us : List (List ℕ)) → joined (renumbered_items (read_as r (ts ++ us)) ds) (elements_of r rest) ≡ elements_of r all

so_far_grown : (a b : List (List ℕ)) (ds : Items) (rest all : json.Items) → Grows a b → AreSoFar a ds rest all → AreSoFar b ds rest all
so_far_grown a b ds rest all g h r vs = subst (λ ts. joined (renumbered_items (read_as r ts) ds) (elements_of r rest) ≡ elements_of r all) (sym (grown a b vs g)) (h r (g.0 ++ vs))

pushed : (f : Num → Num) (vs : List Value) (v : Value) (es : Items) → joined (renumbered_items f (items_view (vs ++ v ∷ []))) es ≡ joined (renumbered_items f (items_view vs)) (item (renumbered f (view v)) es)
unfolding joined
pushed f [] v es = refl
pushed f (w ∷ vs) v es = ap (item (renumbered f (view w))) (pushed f vs v es)

pub items_first : (ts : List (List ℕ)) (all : json.Items) → AreSoFar ts no_items all all
unfolding joined
items_first ts all r us = refl

pub items_next : {A : Type 0} (a b : List (List ℕ)) (vs : List Value) (v : Value) (new : List Value) (x : declared.Value A) (xs rest : List (declared.Value A)) (all : json.Items) → Grows a b → new ≡ vs ++ v ∷ [] → xs ≡ x ∷ rest
    → AreSoFar a (items_view vs) (value.items_view xs) all → StandsFor b (view v) (value_view x) → AreSoFar b (items_view new) (value.items_view rest) all
items_next a b vs v new x xs rest all g p e h stands r us =
    ap (λ ys. joined (renumbered_items (read_as r (b ++ us)) (items_view ys)) (elements_of r (value.items_view rest))) p
    ∙ pushed (read_as r (b ++ us)) vs v (elements_of r (value.items_view rest))
    ∙ ap (λ d. joined (renumbered_items (read_as r (b ++ us)) (items_view vs)) (item d (elements_of r (value.items_view rest)))) (stands r us)
    ∙ ap (λ ys. joined (renumbered_items (read_as r (b ++ us)) (items_view vs)) (elements_of r (value.items_view ys))) (sym e)
    ∙ so_far_grown a b (items_view vs) (value.items_view xs) all g h r us

pub items_all : {A : Type 0} (ts : List (List ℕ)) (ds : Items) (xs : List (declared.Value A)) (all : json.Items) → xs ≡ [] → AreSoFar ts ds (value.items_view xs) all → StandFor ts ds all
items_all ts ds xs all e h r us =
    sym (joined_none (renumbered_items (read_as r (ts ++ us)) ds))
    ∙ ap (λ ys. joined (renumbered_items (read_as r (ts ++ us)) ds) (elements_of r (value.items_view ys))) (sym e)
    ∙ h r us

documents_pushed : (vs : List Value) (v : Value) → AreDocuments (items_view vs) → IsDocument (view v) → AreDocuments (items_view (vs ++ v ∷ []))
documents_pushed [] v h d = (d, tt)
documents_pushed (w ∷ vs) v h d = (h.0, documents_pushed vs v h.1 d)

pub documents_more : (vs new : List Value) (v : Value) → new ≡ vs ++ v ∷ [] → AreDocuments (items_view vs) → IsDocument (view v) → AreDocuments (items_view new)
documents_more vs new v p h d = subst (λ ys. AreDocuments (items_view ys)) (sym p) (documents_pushed vs v h d)

pub next_of : {X : Type 0} (xs : List X) (i : ℕ) (x : X) → i < length xs → x ≡ get_or xs i x → drop i xs ≡ x ∷ drop (i + 1) xs
next_of xs i x less at = drop_more xs i x less ∙ ap (λ y. y ∷ drop (i + 1) xs) (sym at)

pub item_has : {A : Type 0} (xs : List (declared.Value A)) (i : ℕ) (x : declared.Value A) → i < length xs → x ≡ get_or xs i x → ItemsHaveNumbers (value.items_view xs) → HasNumbers (value_view x)
item_has [] i x less at h = absurd (omega arith)
item_has (y ∷ xs) zero x less at h = subst (λ z. HasNumbers (value_view z)) (sym at) h.0
item_has (y ∷ xs) (suc i) x less at h = item_has xs i x (omega arith) at h.1

pub item_depth : {A : Type 0} (xs : List (declared.Value A)) (i : ℕ) (x : declared.Value A) → i < length xs → x ≡ get_or xs i x → tree.depth (value_view x) ≤ tree.items_depth (value.items_view xs)
item_depth [] i x less at = absurd (omega arith)
item_depth (y ∷ xs) zero x less at = let e : tree.depth (value_view x) ≡ tree.depth (value_view y) = ap (λ z. tree.depth (value_view z)) at in omega arith
item_depth (y ∷ xs) (suc i) x less at = let more = item_depth xs i x (omega arith) at in omega arith

-- ---- objects

-- the members so far, with those that are left put in, are all
abbrev pub AreMembersSoFar : List (List ℕ) → Members → json.Members → json.Members → Type 0
AreMembersSoFar ts ds rest all = (r : Reading) (us : List (List ℕ)) → members_of r rest (renumbered_members (read_as r (ts ++ us)) ds) ≡ members_of r all no_members

members_grown : (a b : List (List ℕ)) (ds : Members) (rest all : json.Members) → Grows a b → AreMembersSoFar a ds rest all → AreMembersSoFar b ds rest all
members_grown a b ds rest all g h r vs = subst (λ ts. members_of r rest (renumbered_members (read_as r ts) ds) ≡ members_of r all no_members) (sym (grown a b vs g)) (h r (g.0 ++ vs))

pub members_first : (ts : List (List ℕ)) (all : json.Members) → AreMembersSoFar ts no_members all all
members_first ts all r us = refl

pub members_next : {A : Type 0} (a b : List (List ℕ)) (es fs : List Entry) (k : String Global) (v : Value) (x : Bor (List ℕ) × declared.Value A) (xs rest : List (Bor (List ℕ) × declared.Value A)) (all : json.Members) → Grows a b → xs ≡ x ∷ rest
    → string_bytes k ≡ x.0.now → fs ≡ insert_entry string_cmp es k v
    → AreMembersSoFar a (members_view es) (value.members_view xs) all → StandsFor b (view v) (value_view x.1) → AreMembersSoFar b (members_view fs) (value.members_view rest) all
members_next a b es fs k v x xs rest all g e name inserted h stands r us =
    let f = read_as r (b ++ us) in
    let here : renumbered_members f (members_view fs) ≡ put x.0.now (data_of r (value_view x.1)) (renumbered_members f (members_view es)) =
    ap (λ ys. renumbered_members f (members_view ys)) inserted
    ∙ ap (renumbered_members f) (members_view-insert_entry es k v)
    ∙ put_is f (string_bytes k) (view v) (members_view es)
    ∙ ap₂ (λ n d. put n d (renumbered_members f (members_view es))) name (stands r us) in
    ap (members_of r (value.members_view rest)) here
    ∙ ap (λ ys. members_of r (value.members_view ys) (renumbered_members f (members_view es))) (sym e)
    ∙ members_grown a b (members_view es) (value.members_view xs) all g h r us

pub members_all : {A : Type 0} (ts : List (List ℕ)) (ds : Members) (xs : List (Bor (List ℕ) × declared.Value A)) (all : json.Members) → xs ≡ [] → AreMembersSoFar ts ds (value.members_view xs) all → StandForMembers ts ds all
members_all ts ds xs all e h r us = ap (λ ys. members_of r (value.members_view ys) (renumbered_members (read_as r (ts ++ us)) ds)) (sym e) ∙ h r us

pub members_put : (es fs : List Entry) (k : String Global) (v : Value) → fs ≡ insert_entry string_cmp es k v → AreMembers (members_view es) → IsDocument (view v) → AreMembers (members_view fs)
members_put es fs k v inserted h d =
    subst AreMembers (sym (ap members_view inserted ∙ members_view-insert_entry es k v)) (put_members (string_bytes k) (view v) (members_view es) h d)

pub member_has : {A : Type 0} (xs : List (Bor (List ℕ) × declared.Value A)) (i : ℕ) (x : Bor (List ℕ) × declared.Value A) → i < length xs → x ≡ get_or xs i x → MembersHaveNumbers (value.members_view xs) → HasNumbers (value_view x.1)
member_has [] i x less at h = absurd (omega arith)
member_has (y ∷ xs) zero x less at h = subst (λ z. HasNumbers (value_view z.1)) (sym at) h.0
member_has (y ∷ xs) (suc i) x less at h = member_has xs i x (omega arith) at h.1

pub member_depth : {A : Type 0} (xs : List (Bor (List ℕ) × declared.Value A)) (i : ℕ) (x : Bor (List ℕ) × declared.Value A) → i < length xs → x ≡ get_or xs i x → tree.depth (value_view x.1) ≤ tree.members_depth (value.members_view xs)
member_depth [] i x less at = absurd (omega arith)
member_depth (y ∷ xs) zero x less at = let e : tree.depth (value_view x.1) ≡ tree.depth (value_view y.1) = ap (λ z. tree.depth (value_view z.1)) at in omega arith
member_depth (y ∷ xs) (suc i) x less at = let more = member_depth xs i x (omega arith) at in omega arith

-- ---- the table's texts

pub table_pushed : (ss : List (String Global)) (s : String Global) → numerals_in (ss ++ s ∷ []) ≡ numerals_in ss ++ string_bytes s ∷ []
table_pushed [] s = refl
table_pushed (x ∷ ss) s = ap (λ ts. string_bytes x ∷ ts) (table_pushed ss s)

pub one_more : (old new : List (String Global)) (s : String Global) (t : List ℕ) → new ≡ old ++ s ∷ [] → string_bytes s ≡ t → numerals_in new ≡ numerals_in old ++ t ∷ []
one_more old new s t e f = ap numerals_in e ∙ table_pushed old s ∙ ap (λ x. numerals_in old ++ x ∷ []) f

pub grows_by : (old new : List (String Global)) (s : String Global) (t : List ℕ) → new ≡ old ++ s ∷ [] → string_bytes s ≡ t → Grows (numerals_in old) (numerals_in new)
grows_by old new s t e f = (t ∷ [], one_more old new s t e f)

pub numbers_more : (old new : List (String Global)) (s : String Global) (t : List ℕ) → new ≡ old ++ s ∷ [] → string_bytes s ≡ t → AreNumbers (numerals_in old) → IsNumber t → AreNumbers (numerals_in new)
numbers_more old new s t e f h n = subst AreNumbers (sym (one_more old new s t e f)) (numbers_pushed (numerals_in old) t h n)

in_table : (ss : List (String Global)) (n : ℕ) (s : String Global) → n < length ss → s ≡ get_or ss n s → slice_get (numerals_in ss) n ≡ Some (string_bytes s)
in_table [] n s less at = absurd (omega arith)
in_table (x ∷ ss) zero s less at = ap (λ y. Some (string_bytes y)) (sym at)
in_table (x ∷ ss) (suc n) s less at = in_table ss n s (omega arith) at

pub stands_there : (ss : List (String Global)) (n : ℕ) (s : String Global) (u t : List ℕ) → n < length ss → s ≡ get_or ss n s → string_bytes s ≡ u → SameNumber u t → (v : List ℕ) × (slice_get (numerals_in ss) n ≡ Some v) × SameNumber v t
stands_there ss n s u t less at is same = (u, in_table ss n s less at ∙ ap Some is, same)

pub stands_last : (old new : List (String Global)) (s : String Global) (t : List ℕ) → new ≡ old ++ s ∷ [] → string_bytes s ≡ t → (v : List ℕ) × (slice_get (numerals_in new) (length old) ≡ Some v) × SameNumber v t
stands_last old new s t e f =
    (t, ap (λ ts. slice_get ts (length old)) (one_more old new s t e f) ∙ ap (slice_get (numerals_in old ++ t ∷ [])) (sym (table_length old)) ∙ pushed_get (numerals_in old) t, same_reflexive t)
  where
    table_length : (ss : List (String Global)) → length (numerals_in ss) ≡ length ss
    table_length [] = refl
    table_length (x ∷ ss) = ap suc (table_length ss)

-- ---- in the code

pub stands_as : (ts : List (List ℕ)) (d : Data) (j : Json) (n : ℕ) (s : List ℕ) → d ≡ number (unsigned n) → j ≡ json.number s → (t : List ℕ) × (slice_get ts n ≡ Some t) × SameNumber t s → StandsFor ts d j
stands_as ts d j n s is said (t, at, same) = subst (λ x. StandsFor ts x j) (sym is) (subst (StandsFor ts (number (unsigned n))) (sym said) (stands_number ts n s t at same))

pub items_begin : {A : Type 0} (ts : List (List ℕ)) (vs : List Value) (xs ys : List (declared.Value A)) → vs ≡ [] → xs ≡ ys → AreSoFar ts (items_view vs) (value.items_view xs) (value.items_view ys)
items_begin ts vs xs ys none same r us =
    ap (λ ws. joined (renumbered_items (read_as r (ts ++ us)) (items_view ws)) (elements_of r (value.items_view xs))) none
    ∙ items_first ts (value.items_view xs) r us
    ∙ ap (λ ws. elements_of r (value.items_view ws)) same

pub no_documents : (vs : List Value) → vs ≡ [] → AreDocuments (items_view vs)
no_documents vs none = subst (λ ws. AreDocuments (items_view ws)) (sym none) tt
