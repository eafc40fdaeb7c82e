-- What a token names in a row.
use Rattle.std.proofs.Common.{◌≡◌, ℕ, zero, suc, ◌+◌, ◌<◌, ◌≤◌, ◌^◌, Bool, true, false, cond, List, [], ◌∷◌, length, take, drop, get_or, Option, Some, None, option_and_then, vec_len, Vec, Global, length-append, ◌-◌, ◌++◌, refl, sym, ap, ap₂, ◌∙◌, subst, arith}
use Rattle.std.specs.Prelude.{MatchOption, IfSome, IfNone, option_map}
use Rattle.std.specs.Bool.{Decides}
use Rattle.std.specs.Str.{bytes_eq}
use Rattle.std.proofs.lemmas.Bool.{true≢false}
use Rattle.std.proofs.lemmas.List.{drop-drop, drop_all, take-append-drop}
use Rattle.std.proofs.lemmas.Option.{none-some}
use Rattle.std.proofs.lemmas.Slice.Eq.{bytes_eq-Decides}
use Rattle.json.specs.Json.{string}
use Rattle.json.specs.Find.{get_item}
use Rattle.jsonptr.specs.Indexes.{IsNoIndexText}
use Rattle.jsonptr.specs.Places.{place_of}
use Rattle.json_text.specs.Cuts.{AllSuit}
use Rattle.json_lexemes.specs.Found.{or_else}
use Rattle.json_text.specs.Less.{IsNumberOf}
use Rattle.json_text.specs.Listing.{IsTextOf}
use Rattle.json_text.specs.Pointed.{child}
use Rattle.json_text.specs.Rows.{Child, elements_in, last_named, tree_in}
use Rattle.json_text.proofs.Rows.Trees.{no_element, no_member}
use Rattle.json_pieces.specs.Nodes.{AreNames, text_bytes}
use Rattle.long_vec.specs.Blocks.{items_in}
use Rattle.long_vec.proofs.Blocks.{items_around}
use Rattle.long_vec.proofs.Handing.{items_before}
use Rattle.json_pieces.specs.declared.node.Node.{Node}
use Rattle.json_pieces.specs.declared.seams.Seam.{Seam}
use Rattle.json_pieces.proofs.Lists.{AreSoundIn, pieces_in}

pub names_are : (ss : List Seam) (vs : List Node) (cs : List Child) → AreSoundIn ss vs → AllSuit true cs (pieces_in ss vs) → AreNames ss cs
names_are [] [] [] h k = tt
names_are [] [] (c ∷ cs) h k = absurd k
names_are [] (v ∷ vs) cs h k = absurd h
names_are (s ∷ ss) [] cs h k = absurd h
names_are (s ∷ ss) (v ∷ vs) [] h k = absurd k
names_are (s ∷ ss) (v ∷ vs) (c ∷ cs) h k = (k.0.label.0, names_are ss vs cs h.1 k.1)

pub suits_count : (b : Bool) (ss : List Seam) (vs : List Node) (cs : List Child) → AreSoundIn ss vs → AllSuit b cs (pieces_in ss vs) → length cs ≡ length vs
suits_count b [] [] [] h k = refl
suits_count b [] [] (c ∷ cs) h k = absurd k
suits_count b [] (v ∷ vs) cs h k = absurd h
suits_count b (s ∷ ss) [] cs h k = absurd h
suits_count b (s ∷ ss) (v ∷ vs) [] h k = absurd k
suits_count b (s ∷ ss) (v ∷ vs) (c ∷ cs) h k = ap suc (suits_count b ss vs cs h.1 k.1)

-- ---- the last of a name, looked for from the end

-- the last one has this name
pub bytes_same : (k l : List ℕ) → k ≡ l → bytes_eq k l ≡ true
bytes_same k l e = (bytes_eq-Decides k l).1 e

pub bytes_differ : (k l : List ℕ) → (k ≡ l → ⊥) → bytes_eq k l ≡ false
bytes_differ k l n = by_test (bytes_eq k l) refl
  where
    by_test : (t : Bool) → bytes_eq k l ≡ t → t ≡ false
    by_test true e = absurd (n ((bytes_eq-Decides k l).0 e))
    by_test false e = refl

pub name_at : (ss : List Seam) (cs : List Child) (i : ℕ) (s : Seam) → AreNames ss cs → i < length ss → s ≡ get_or ss i s → (c : Child) × (more : List Child) × (drop i cs ≡ c ∷ more) × IsTextOf (text_bytes s.name) (string c.0)
name_at [] cs i s h l e = absurd (omega (arith, l))
name_at (t ∷ ss) [] i s h l e = absurd h
name_at (t ∷ ss) (c ∷ cs) zero s h l e = (c, cs, refl, subst (λ x. IsTextOf (text_bytes x.name) (string c.0)) (sym e) h.0)
name_at (t ∷ ss) (c ∷ cs) (suc i) s h l e = name_at ss cs i s h.1 (omega (arith, l)) e

pub names_count : (ss : List Seam) (cs : List Child) → AreNames ss cs → length ss ≡ length cs
names_count [] [] h = refl
names_count [] (c ∷ cs) h = absurd h
names_count (s ∷ ss) [] h = absurd h
names_count (s ∷ ss) (c ∷ cs) h = ap suc (names_count ss cs h.1)

pub none_behind : (ss : List Seam) (cs : List Child) (i : ℕ) (k : List ℕ) → AreNames ss cs → length ss ≤ i → last_named k (drop i cs) ≡ None
none_behind ss cs i k h l = ap (last_named k) (drop_all i cs (omega (arith, names_count ss cs h, l)))

drop_next : (cs : List Child) (i : ℕ) (c : Child) (more : List Child) → drop i cs ≡ c ∷ more → drop (suc i) cs ≡ more
drop_next [] zero c more e = absurd (omega (arith, ap length e))
drop_next [] (suc i) c more e = absurd (omega (arith, ap length e))
drop_next (d ∷ cs) zero c more e = ap (drop 1) e
drop_next (d ∷ cs) (suc i) c more e = drop_next cs i c more e

found_at : (cs : List Child) (i m : ℕ) (k : List ℕ) → last_named k (drop i cs) ≡ Some m → last_named k cs ≡ Some (i + m)
found_at cs zero m k e = let at : m ≡ zero + m = omega arith in e ∙ ap Some at
found_at [] (suc i) m k e = absurd (none-some m e)
found_at (c ∷ cs) (suc i) m k e =
    let at : suc (i + m) ≡ suc i + m = omega arith in
    ap (λ o. or_else (option_map suc o) (cond (bytes_eq c.0 k) (Some zero) None)) (found_at cs i m k e) ∙ ap Some at

-- the one before those that were looked at has the name, or hasn't
pub named_here : (ss : List Seam) (cs : List Child) (i m : ℕ) (k : List ℕ) (s : Seam) (is : Bool) → AreNames ss cs → i < length ss → m ≡ i + 1 → s ≡ get_or ss i s → ((l : List ℕ) → IsTextOf (text_bytes s.name) (string l) → Decides is (l ≡ k)) → last_named k (drop m cs) ≡ None
    → is ≡ true → Some i ≡ last_named k cs
named_here ss cs i m k s is h l n e d none t =
    let (c, more, at, text) = name_at ss cs i s h l e in
    let same : c.0 ≡ k = (d c.0 text).0 t in
    let next : m ≡ suc i = omega (arith, n) in
    let rest : last_named k more ≡ None = ap (last_named k) (sym (drop_next cs i c more at) ∙ ap (λ x. drop x cs) (sym next)) ∙ none in
    let here : i ≡ i + 0 = omega arith in
    ap Some here ∙ sym (found_at cs i 0 k (ap (last_named k) at ∙ ap₂ (λ o b. or_else (option_map suc o) (cond b (Some zero) None)) rest (bytes_same c.0 k same)))

pub not_here : (ss : List Seam) (cs : List Child) (i m : ℕ) (k : List ℕ) (s : Seam) (is : Bool) → AreNames ss cs → i < length ss → m ≡ i + 1 → s ≡ get_or ss i s → ((l : List ℕ) → IsTextOf (text_bytes s.name) (string l) → Decides is (l ≡ k)) → last_named k (drop m cs) ≡ None
    → is ≡ false → last_named k (drop i cs) ≡ None
not_here ss cs i m k s is h l n e d none f =
    let (c, more, at, text) = name_at ss cs i s h l e in
    let next : m ≡ suc i = omega (arith, n) in
    let rest : last_named k more ≡ None = ap (last_named k) (sym (drop_next cs i c more at) ∙ ap (λ x. drop x cs) (sym next)) ∙ none in
    ap (last_named k) at ∙ ap₂ (λ o b. or_else (option_map suc o) (cond b (Some zero) None)) rest (bytes_differ c.0 k (λ same. true≢false (sym ((d c.0 text).1 same) ∙ f)))

-- ---- the same in blocks

-- the names of the seams between others
names_between : (xs ys zs : List Seam) (cs : List Child) → AreNames (xs ++ (ys ++ zs)) cs → AreNames ys (take (length ys) (drop (length xs) cs))
names_between [] [] zs [] h = tt
names_between [] [] zs (c ∷ cs) h = tt
names_between [] (y ∷ ys) zs [] h = absurd h
names_between [] (y ∷ ys) zs (c ∷ cs) h = (h.0, names_between [] ys zs cs h.1)
names_between (x ∷ xs) ys zs [] h = absurd h
names_between (x ∷ xs) ys zs (c ∷ cs) h = names_between xs ys zs cs h.1

none_later : (k : List ℕ) (cs ds : List Child) → last_named k ds ≡ None → last_named k (cs ++ ds) ≡ last_named k cs
none_later k [] ds e = e
none_later k (c ∷ cs) ds e = ap (λ o. or_else (option_map suc o) (cond (bytes_eq c.0 k) (Some zero) None)) (none_later k cs ds e)

module _ (bs : List (Vec Seam Global)) (i m : ℕ) (b : Vec Seam Global) (k : List ℕ) (block : i < length bs) (is : b ≡ get_or bs i b) (behind : m ≡ length (items_in (take (i + 1) bs))) where
  pub before_block : m ≡ length (items_in (take i bs)) + vec_len b
  before_block = behind ∙ ap length (items_before bs i b block is) ∙ length-append (items_in (take i bs)) b.items ∙ ap (λ n. length (items_in (take i bs)) + n) (sym b.ok.0)

  -- what is the last of a name in the block is that from there on, where none stands behind the block
  pub last_from : (n : ℕ) (cs : List Child) (r : Option ℕ) → n ≡ m - vec_len b → AreNames (items_in bs) cs → ((cs : List Child) → AreNames (items_in bs) cs → last_named k (drop m cs) ≡ None) → ((cs : List Child) → AreNames b.items cs → r ≡ last_named k cs)
      → last_named k (drop n cs) ≡ r
  last_from n cs r at h none there =
      let p = items_in (take i bs) in
      let start : n ≡ length p = omega (arith, at, before_block) in
      let size : m ≡ n + length b.items = omega (arith, at, before_block, b.ok.0) in
      let ds = drop n cs in
      let later : last_named k (drop (length b.items) ds) ≡ None = ap (last_named k) (drop-drop (length b.items) n cs ∙ ap (λ x. drop x cs) (sym size)) ∙ none cs h in
      let inside : AreNames b.items (take (length b.items) ds) = subst (λ x. AreNames b.items (take (length b.items) (drop x cs))) (sym start) (names_between p b.items (items_in (drop (suc i) bs)) cs (subst (λ l. AreNames l cs) (items_around bs i b block is) h)) in
      ap (last_named k) (sym (take-append-drop (length b.items) ds)) ∙ none_later k (take (length b.items) ds) (drop (length b.items) ds) later ∙ sym (there (take (length b.items) ds) inside)

  pub last_there : (n j : ℕ) (cs : List Child) → n ≡ m - vec_len b → AreNames (items_in bs) cs → ((cs : List Child) → AreNames (items_in bs) cs → last_named k (drop m cs) ≡ None) → ((cs : List Child) → AreNames b.items cs → Some j ≡ last_named k cs)
      → Some (n + j) ≡ last_named k cs
  last_there n j cs at h none there = sym (found_at cs n j k (last_from n cs (Some j) at h none there))

-- ---- an element

pub past_elements : (cs : List Child) (t : List ℕ) (i n : ℕ) → place_of t ≡ Some i → length cs ≡ n → n ≤ i → child t (tree_in false cs) ≡ None
past_elements cs t i n e l h = ap (option_and_then (λ k. get_item k (elements_in cs))) e ∙ no_element cs i (drop_all i cs (omega (arith, l, h)))

pub no_place_elements : (cs : List Child) (t : List ℕ) (n : ℕ) → IsNoIndexText t → length cs ≡ n → n < 2 ^ 64 → child t (tree_in false cs) ≡ None
no_place_elements cs t n none l h = by_place (place_of t) none.past
  where
    by_place : (m : Option ℕ) → ((i : ℕ) → m ≡ Some i → 2 ^ 64 ≤ i) → option_and_then (λ k. get_item k (elements_in cs)) m ≡ None
    by_place None past = refl
    by_place (Some i) past = no_element cs i (drop_all i cs (omega (arith, l, h, past i refl)))

-- ---- either

pub by_name : (b : Bool) (k : List ℕ) (cs : List Child) (r : Option ℕ) → b ≡ true → r ≡ last_named k cs → MatchOption r (child k (tree_in b cs) ≡ None) (IsNumberOf b cs k)
by_name false k cs r n e = absurd (true≢false (sym n))
by_name true k cs None n e = no_member k cs (sym e)
by_name true k cs (Some m) n e = sym e

pub by_element : (b : Bool) (k : List ℕ) (cs : List Child) (r : Option ℕ) → b ≡ false → IfSome r (λ n. place_of k ≡ Some n) → IfNone r (child k (tree_in false cs) ≡ None) → MatchOption r (child k (tree_in b cs) ≡ None) (IsNumberOf b cs k)
by_element true k cs r n p e = absurd (true≢false n)
by_element false k cs None n p e = e
by_element false k cs (Some m) n p e = p

last_below : (k : List ℕ) (cs : List Child) → IfSome (last_named k cs) (λ i. i < length cs)
last_below k [] = tt
last_below k (c ∷ cs) = by (last_named k cs) (bytes_eq c.0 k) (last_below k cs)
  where
    by : (o : Option ℕ) (b : Bool) → IfSome o (λ i. i < length cs) → IfSome (or_else (option_map suc o) (cond b (Some zero) None)) (λ i. i < length (c ∷ cs))
    by (Some i) b h = omega (arith, h)
    by None true h = omega arith
    by None false h = tt

pub named_within : (k : List ℕ) (cs : List Child) (r : Option ℕ) (n : ℕ) → r ≡ last_named k cs → length cs ≡ n → IfSome r (λ i. i < n)
named_within k cs r n e f = subst (λ o. IfSome o (λ i. i < n)) (sym e) (subst (λ m. IfSome (last_named k cs) (λ i. i < m)) f (last_below k cs))

pub none_counted : (k : List ℕ) (cs : List Child) (r : Option ℕ) (n m : ℕ) → n ≡ m → IfNone r ((ds : List Child) → length ds ≡ n → child k (tree_in false ds) ≡ None) → length cs ≡ m → IfNone r (child k (tree_in false cs) ≡ None)
none_counted k cs None n m e h l = h cs (l ∙ sym e)
none_counted k cs (Some i) n m e h l = tt
