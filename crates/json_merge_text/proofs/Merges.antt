-- What the changes of a merge leave of a tree is the tree with the patch merged into it.
use Rattle.std.proofs.Common.{◌≡◌, ◌≢◌, ◌≤◌, ◌⊎◌, inl, inr, ⊎_elim, ℕ, suc, max, arith, List, [], ◌∷◌, ◌++◌, Bool, true, false, cond, bytes_eq, Option, Some, None, refl, sym, ap, ap₂, ◌∙◌, subst}
use Rattle.std.specs.Prelude.{MatchOption}
use Rattle.std.proofs.lemmas.Option.{none-some, same_Some}
use Rattle.std.proofs.lemmas.Slice.Eq.{bytes_eq-Decides}
use Rattle.json.specs.Find.{as_object, get_member, later_or}
use Rattle.json.specs.Json.{Json, null, boolean, number, string, array, object, Members, no_members, member}
use Rattle.json.specs.Tree.{depth, members_depth}
use Rattle.jsonptr.specs.Text.{Pointer}
use Rattle.json_merge_text.specs.Changes.{AreMade, TextChange, add, remove, replace}
use Rattle.json_merge_text.specs.Merged.{IsMergedText, IsMergedTree, SaysMerged}
use Rattle.json_merge_text.specs.Merging.{InTurn, IsWrittenIn, MergesInto, MergesMember, MergesObject, PutsIn}
use Rattle.json_merge_text.specs.Stands.{Agrees}
use Rattle.json_merge_text.proofs.Depths.{add_depth, put_depth}
use Rattle.json_merge_text.proofs.Documents.{MergedAt, added_at, merged_at, names_merged, object_merged, put_merged, removed_at, same_merged, then_unnamed, unnamed_at}
use Rattle.json_merge_text.proofs.Trees.{added_further, further, put_again, put_further, put_same, put_stands, removed_further}
use Rattle.json_patch_text.specs.Changed.{add_member, without}
use Rattle.json_text.proofs.Depths.{remove_nests}
use Rattle.json_reading.proofs.Matching.{member_depth}
use Rattle.json_patch_text.proofs.Agree.{removed_tree}
use Rattle.json_patch_text.proofs.Made.{add_left}
use Rattle.json_patch_text.proofs.Members.{add_here, add_other, put_here, put_other, remove_here, remove_other}
use Rattle.json_reading.specs.Same.{SameTree}
use Rattle.json_text.specs.Pointed.{put_at, put_member, tree_at}
use Rattle.json_lexemes.specs.Spelled.{Says}
use Rattle.json_text.specs.Replaced.{IsReplaced}
use Rattle.json_lexemes.specs.Skipped.{nesting}
use Rattle.json_lexemes.proofs.Nests.{nests, one_tree}

-- ---- names

pub name_cases : (q k : List ℕ) → (q ≡ k) ⊎ (q ≢ k)
name_cases q k = by (bytes_eq q k) refl
  where
    by : (b : Bool) → bytes_eq q k ≡ b → (q ≡ k) ⊎ (q ≢ k)
    by true e = inl ((bytes_eq-Decides q k).0 e)
    by false e = inr (λ same. let yes : bytes_eq q k ≡ true = (bytes_eq-Decides q k).1 same in cc)

-- ---- lists of changes

made_first : (first rest : List TextChange) (text new : List ℕ) → AreMade text (first ++ rest) new → (mid : List ℕ) × AreMade text first mid × AreMade mid rest new
made_first [] rest text new h = (text, refl, h)
made_first (o ∷ first) rest text new h = let more = made_first first rest h.0 new h.2 in (more.0, (h.0, h.1, more.1), more.2)

pub made_then : (first rest : List TextChange) (text mid new : List ℕ) → AreMade text first mid → AreMade mid rest new → AreMade text (first ++ rest) new
made_then [] rest text mid new h g = subst (λ t. AreMade t rest new) h g
made_then (o ∷ first) rest text mid new h g = (h.0, h.1, made_then first rest h.0 mid new h.2 g)

-- ---- what the text says after a change

-- new says j with i at P
abbrev pub Leaves : List ℕ → Pointer → Json → Json → Type 0
Leaves new P j i = Says new (put_at P i j)

pub replaced_says : (text s new : List ℕ) (P : Pointer) (j w : Json) → Says text j → Says s w → IsReplaced text P s new → Leaves new P j w
replaced_says text s new P j w said value_said h =
    let here : h.tree ≡ j = one_tree text h.tree j h.says.0 said in
    let put : h.wanted ≡ w = one_tree s h.wanted w h.value_says.0 value_said in
    subst (λ x. Says new (put_at P x j)) put (subst (λ x. Says new (put_at P h.wanted x)) here h.after)

-- an object whose members nest no deeper than ps is no deeper than theirs
deeper : (ns ps : Members) (i : Json) → members_depth ns ≤ max (members_depth ps) (members_depth ps) → depth (object ns) ≤ max (depth i) (depth (object ps))
deeper ns ps i h = omega (arith, h)

-- the same where w was put there before
left_again : (P : Pointer) (n w j c : Json) (new : List ℕ) → tree_at P j ≡ Some c → Leaves new P (put_at P w j) n → Leaves new P j n
left_again P n w j c new e h = subst (Says new) (put_again P n w j c e) h

-- ---- members by their names

pub skips : (l k : List ℕ) (q : Json) (ps : Members) → l ≢ k → get_member l (member k q ps) ≡ get_member l ps
skips l k q ps other = by (get_member l ps) (bytes_eq k l) refl
  where
    by : (o : Option Json) (b : Bool) → bytes_eq k l ≡ b → later_or o (cond b (Some q) None) ≡ o
    by (Some x) b e = refl
    by None true e = absurd (other (sym ((bytes_eq-Decides k l).0 e)))
    by None false e = refl

pub first_named : (k : List ℕ) (q : Json) (ps : Members) → get_member k ps ≡ None → get_member k (member k q ps) ≡ Some q
first_named k q ps e = ap₂ (λ o b. later_or o (cond b (Some q) None)) e ((bytes_eq-Decides k k).1 refl)

-- a member that comes again is as if it weren't there
pub shadowed : (k : List ℕ) (q later : Json) (ps : Members) → get_member k ps ≡ Some later → (l : List ℕ) → get_member l (member k q ps) ≡ get_member l ps
shadowed k q later ps e l =
    ⊎_elim (λ (same : l ≡ k). subst (λ n. get_member n (member k q ps) ≡ get_member n ps) (sym same) (ap (λ o. later_or o (cond (bytes_eq k k) (Some q) None)) e ∙ sym e)) (skips l k q ps) (name_cases l k)

-- each member of ps that counts is one of all
abbrev Within : Members → Members → Type 0
Within ps all = (k : List ℕ) (q : Json) → get_member k ps ≡ Some q → get_member k all ≡ Some q

-- the same of the members behind one
pub behind : {A : Type 0} (k l : List ℕ) (q x : Json) (ps : Members) → (get_member l (member k q ps) ≡ Some x → A) → get_member l ps ≡ Some x → A
behind k l q x ps f e = f (ap (λ o. later_or o (cond (bytes_eq k l) (Some q) None)) e)

-- ---- what the changes leave

pub other_into : (patch : List ℕ) (P : Pointer) (i q : Json) (cs : List TextChange) → as_object q ≡ None → MergesInto patch P i q cs
    → (SameTree i q × (cs ≡ [])) ⊎ ((SameTree i q → ⊥) × PutsIn patch P (replace P) (λ rest. rest ≡ []) cs)
other_into patch P i null cs none h = h
other_into patch P i (boolean b) cs none h = h
other_into patch P i (number s) cs none h = h
other_into patch P i (string s) cs none h = h
other_into patch P i (array js) cs none h = h
other_into patch P i (object ps) cs none h = cc

pub other_member : (patch : List ℕ) (P : Pointer) (was : Option Json) (q : Json) (cs : List TextChange) → q ≢ null → MergesMember patch P was q (λ i. MergesInto patch P i q) cs
    → MatchOption was (PutsIn patch P (add P) (MergesInto patch P q q) cs) (λ i. MergesInto patch P i q cs)
other_member patch P was null cs other h = absurd (other refl)
other_member patch P was (boolean b) cs other h = h
other_member patch P was (number s) cs other h = h
other_member patch P was (string s) cs other h = h
other_member patch P was (array js) cs other h = h
other_member patch P was (object ps) cs other h = h

pub null_or : (q : Json) → (q ≡ null) ⊎ (q ≢ null)
null_or null = inl refl
null_or (boolean b) = inr (λ e. cc)
null_or (number s) = inr (λ e. cc)
null_or (string s) = inr (λ e. cc)
null_or (array js) = inr (λ e. cc)
null_or (object ms) = inr (λ e. cc)

module _ (patch : List ℕ) (whole : Json) (read : Says patch whole) where
  -- what is written in the patch at P says what stands there
  pub written_says : (P : Pointer) (q : Json) (s : List ℕ) → tree_at P whole ≡ Some q → IsWrittenIn patch P s → Says s q
  written_says P q s at (p, said, (before, behind, is, (v, there, stretch))) =
      subst (Says s) (same_Some v q (sym there ∙ ap (tree_at P) (one_tree patch p whole said read) ∙ at)) stretch.says

  -- where i stands at P, the changes leave it with the patch's q there merged into it
  abbrev pub IntoAt : Json → Type 0
  IntoAt q = (P : Pointer) (i j : Json) (cs : List TextChange) (text new : List ℕ) → MergesInto patch P i q cs → tree_at P whole ≡ Some q → Says text j → tree_at P j ≡ Some i → AreMade text cs new
      → (n : Json) × Leaves new P j n × IsMergedTree i q n × (depth n ≤ max (depth i) (depth q))

  -- the same of an object's members, of which those of ps aren't merged yet
  abbrev pub ObjectAt : Members → Type 0
  ObjectAt ps = (P : Pointer) (is ms all : Members) (j : Json) (cs : List TextChange) (text new : List ℕ) → MergesObject patch P is ps cs → tree_at P whole ≡ Some (object all) → Within ps all
      → Says text j → tree_at P j ≡ Some (object ms) → Agrees ps is ms → AreMade text cs new → (ns : Members) × Leaves new P j (object ns) × ((k : List ℕ) → MergedAt (get_member k ms) (get_member k ps) (get_member k ns)) × (members_depth ns ≤ max (members_depth ms) (members_depth ps))

  -- a value put in, and then what comes after
  put_in : (P : Pointer) (q j : Json) (Rest : List TextChange → Type 0) (cs : List TextChange) (text new : List ℕ) → PutsIn patch P (replace P) Rest cs → tree_at P whole ≡ Some q → Says text j → AreMade text cs new
      → (mid : List ℕ) × (rest : List TextChange) × Leaves mid P j q × Rest rest × AreMade mid rest new
  put_in P q j Rest cs text new (s, rest, written, more, is) at said made =
      let done : AreMade text (replace P s ∷ rest) new = subst (λ x. AreMade text x new) is made in
      (done.0, rest, replaced_says text s done.0 P j q said (written_says P q s at written) done.1, more, done.2)

  into_other : (q : Json) → as_object q ≡ None → IntoAt q
  into_other q none P i j cs text new h at said there made = ⊎_elim
      (λ (c : SameTree i q × (cs ≡ [])).
      let same : new ≡ text = subst (λ x. AreMade text x new) c.1 made in
      (i, subst (λ x. Says new x) (sym (put_same P j i there)) (subst (λ t. Says t j) (sym same) said), same_merged i q none c.0, omega arith))
      (λ (c : (SameTree i q → ⊥) × PutsIn patch P (replace P) (λ rest. rest ≡ []) cs).
      let (mid, rest, left, is, more) = put_in P q j (λ rest. rest ≡ []) cs text new c.1 at said made in
      let same : new ≡ mid = subst (λ x. AreMade mid x new) is more in
      (q, subst (λ t. Leaves t P j q) (sym same) left, put_merged i q none, omega arith))
      (other_into patch P i q cs none h)

  -- what is no object is replaced by the patch's object, which is then merged into itself
  into_put : (ps : Members) → ObjectAt ps → (P : Pointer) (i j : Json) (cs : List TextChange) (text new : List ℕ) → as_object i ≡ None → PutsIn patch P (replace P) (MergesObject patch P ps ps) cs
      → tree_at P whole ≡ Some (object ps) → Says text j → tree_at P j ≡ Some i → AreMade text cs new → (n : Json) × Leaves new P j n × IsMergedTree i (object ps) n × (depth n ≤ max (depth i) (depth (object ps)))
  into_put ps members P i j cs text new none h at said there made =
      let (mid, rest, left, more, done) = put_in P (object ps) j (MergesObject patch P ps ps) cs text new h at said made in
      let (ns, end, names, least) = members P ps ps ps (put_at P (object ps) j) rest mid new more at (λ k q e. e) left (put_stands P (object ps) j i there) (λ k q e. refl) done in
      (object ns, left_again P (object ns) (object ps) j i new there end, object_merged i ps ns none (names_merged ps ps ns names), deeper ns ps i least)

  into_object : (ps : Members) → ObjectAt ps → IntoAt (object ps)
  into_object ps members P (object is) j cs text new h at said there made =
      let (ns, end, names, least) = members P is is ps j cs text new h at (λ k q e. e) said there (λ k q e. refl) made in
      (object ns, end, names_merged is ps ns names, omega (arith, least))
  into_object ps members P null j cs text new h at said there made = into_put ps members P null j cs text new refl h at said there made
  into_object ps members P (boolean b) j cs text new h at said there made = into_put ps members P (boolean b) j cs text new refl h at said there made
  into_object ps members P (number s) j cs text new h at said there made = into_put ps members P (number s) j cs text new refl h at said there made
  into_object ps members P (string s) j cs text new h at said there made = into_put ps members P (string s) j cs text new refl h at said there made
  into_object ps members P (array js) j cs text new h at said there made = into_put ps members P (array js) j cs text new refl h at said there made

  -- ---- one member

  -- the object ms at P is left with other members, of which the one named k is merged and the others stay
  abbrev pub LeavesMember : List ℕ → Pointer → Json → Members → List ℕ → Json → Type 0
  LeavesMember new P j ms k q = (ns : Members) × Leaves new P j (object ns) × MergedAt (get_member k ms) (Some q) (get_member k ns) × ((l : List ℕ) → l ≢ k → get_member l ns ≡ get_member l ms) × (members_depth ns ≤ max (members_depth ms) (depth q))

  merged_member : (P : Pointer) (k : List ℕ) (q n j : Json) (ms was : Members) (new : List ℕ) → Leaves new (P ++ k ∷ []) j n → tree_at P j ≡ Some (object ms) → (c : Json) → get_member k ms ≡ Some c
      → Leaves new P j (object (put_member k n ms))
  merged_member P k q n j ms was new end there c e = subst (Says new) (put_further P k n j (object ms) c there e) end

  null_member : (P : Pointer) (k : List ℕ) (was : Option Json) (j : Json) (ms : Members) (cs : List TextChange) (text new : List ℕ) → MatchOption was (cs ≡ []) (λ i. cs ≡ remove (P ++ k ∷ []) ∷ [])
      → Says text j → tree_at P j ≡ Some (object ms) → get_member k ms ≡ was → AreMade text cs new → LeavesMember new P j ms k null
  null_member P k None j ms cs text new h said there e made =
      let same : new ≡ text = subst (λ x. AreMade text x new) h made in
      (ms, subst (Says new) (sym (put_same P j (object ms) there)) (subst (λ t. Says t j) (sym same) said), subst (λ o. MergedAt (get_member k ms) (Some null) o) (sym e) (removed_at (get_member k ms)), λ l other. refl, omega arith)
  null_member P k (Some i) j ms cs text new h said there e made =
      let done : AreMade text (remove (P ++ k ∷ []) ∷ []) new = subst (λ x. AreMade text x new) h made in
      let (m, is, left, less) = removed_tree text (P ++ k ∷ []) done.0 j said done.1 in
      let m_is : m ≡ put_at P (object (without k ms)) j = same_Some m _ (sym is ∙ removed_further P k j i ms there e) in (
        without k ms,
        subst (λ t. Leaves t P j (object (without k ms))) (sym done.2) (subst (Says done.0) m_is left),
        subst (λ o. MergedAt (get_member k ms) (Some null) o) (sym (remove_here k ms)) (removed_at (get_member k ms)),
        λ l other. remove_other l k ms other,
        let shrunk : suc (members_depth (without k ms)) ≤ suc (members_depth ms) = remove_nests (k ∷ []) (object ms) in omega arith,
      )

  added_member : (P : Pointer) (k : List ℕ) (q : Json) → IntoAt q → q ≢ null → (j : Json) (ms : Members) (cs : List TextChange) (text new : List ℕ)
      → PutsIn patch (P ++ k ∷ []) (add (P ++ k ∷ [])) (MergesInto patch (P ++ k ∷ []) q q) cs → tree_at (P ++ k ∷ []) whole ≡ Some q
      → Says text j → tree_at P j ≡ Some (object ms) → get_member k ms ≡ None → AreMade text cs new → LeavesMember new P j ms k q
  added_member P k q into other j ms cs text new (s, rest, written, more, is) at said there e made =
      let done : AreMade text (add (P ++ k ∷ []) s ∷ rest) new = subst (λ x. AreMade text x new) is made in
      let (m, sum, left) = add_left text s done.0 (P ++ k ∷ []) j q said (written_says (P ++ k ∷ []) q s at written) done.1 in
      let grown = add_member k q ms in
      let m_is : m ≡ put_at P (object grown) j = same_Some m _ (sym sum ∙ added_further P k q j ms there) in
      let stands : tree_at P m ≡ Some (object grown) = ap (tree_at P) m_is ∙ put_stands P (object grown) j (object ms) there in
      let here : get_member k grown ≡ Some q = add_here k q ms in
      let (n, end, merged, deep) = into (P ++ k ∷ []) q m rest done.0 new more at left (further P k m (object grown) stands ∙ here) done.2 in
      let ns = put_member k n grown in
      let last : Says new (put_at P (object ns) m) = merged_member P k q n m grown grown new end stands q here in (
        ns,
        left_again P (object ns) (object grown) j (object ms) new there (subst (λ x. Says new (put_at P (object ns) x)) m_is last),
        subst (λ o. MergedAt o (Some q) (get_member k ns)) (sym e) (subst (λ o. MergedAt None (Some q) o) (sym (put_here k n q grown here)) (added_at q n other merged)),
        λ l apart. put_other l k n grown apart ∙ add_other l k q ms apart,
        omega (arith, deep, put_depth k n grown, add_depth k q ms),
      )

  found_member : (P : Pointer) (k : List ℕ) (q : Json) → IntoAt q → q ≢ null → (i j : Json) (ms : Members) (cs : List TextChange) (text new : List ℕ) → MergesInto patch (P ++ k ∷ []) i q cs
      → tree_at (P ++ k ∷ []) whole ≡ Some q → Says text j → tree_at P j ≡ Some (object ms) → get_member k ms ≡ Some i → AreMade text cs new → LeavesMember new P j ms k q
  found_member P k q into other i j ms cs text new h at said there e made =
      let (n, end, merged, deep) = into (P ++ k ∷ []) i j cs text new h at said (further P k j (object ms) there ∙ e) made in (
        put_member k n ms,
        merged_member P k q n j ms ms new end there i e,
        subst (λ o. MergedAt o (Some q) (get_member k (put_member k n ms))) (sym e) (subst (λ o. MergedAt (Some i) (Some q) o) (sym (put_here k n i ms e)) (merged_at i q n other merged)),
        λ l apart. put_other l k n ms apart,
        omega (arith, deep, put_depth k n ms, member_depth k i ms e),
      )

  other_left : (P : Pointer) (k : List ℕ) (q : Json) → IntoAt q → q ≢ null → (was : Option Json) (j : Json) (ms : Members) (cs : List TextChange) (text new : List ℕ)
      → MatchOption was (PutsIn patch (P ++ k ∷ []) (add (P ++ k ∷ [])) (MergesInto patch (P ++ k ∷ []) q q) cs) (λ i. MergesInto patch (P ++ k ∷ []) i q cs)
      → tree_at (P ++ k ∷ []) whole ≡ Some q → Says text j → tree_at P j ≡ Some (object ms) → get_member k ms ≡ was → AreMade text cs new → LeavesMember new P j ms k q
  other_left P k q into other None j ms cs text new h at said there e made = added_member P k q into other j ms cs text new h at said there e made
  other_left P k q into other (Some i) j ms cs text new h at said there e made = found_member P k q into other i j ms cs text new h at said there e made

  pub one_member : (P : Pointer) (k : List ℕ) (q : Json) → IntoAt q → (was : Option Json) (j : Json) (ms : Members) (cs : List TextChange) (text new : List ℕ) → MergesMember patch (P ++ k ∷ []) was q (λ i. MergesInto patch (P ++ k ∷ []) i q) cs
      → tree_at (P ++ k ∷ []) whole ≡ Some q → Says text j → tree_at P j ≡ Some (object ms) → get_member k ms ≡ was → AreMade text cs new → LeavesMember new P j ms k q
  one_member P k q into was j ms cs text new h at said there e made = ⊎_elim {C = LeavesMember new P j ms k q}
      (λ (is : q ≡ null). subst (LeavesMember new P j ms k) (sym is) (null_member P k was j ms cs text new (subst (λ x. MergesMember patch (P ++ k ∷ []) was x (λ i. MergesInto patch (P ++ k ∷ []) i x) cs) is h) said there e made))
      (λ (other : q ≢ null). other_left P k q into other was j ms cs text new (other_member patch (P ++ k ∷ []) was q cs other h) at said there e made)
      (null_or q)

  -- ---- one member after another

  nothing_named : ObjectAt no_members
  nothing_named P is ms all j cs text new h at within said there agrees made =
      let same : new ≡ text = subst (λ x. AreMade text x new) h made in
      (ms, subst (Says new) (sym (put_same P j (object ms) there)) (subst (λ t. Says t j) (sym same) said), λ k. unnamed_at (get_member k ms) (get_member k ms) refl, omega arith)

  named_again : (k : List ℕ) (q later : Json) (ps : Members) → get_member k ps ≡ Some later → ObjectAt ps → (P : Pointer) (is ms all : Members) (j : Json) (cs : List TextChange) (text new : List ℕ)
      → MergesObject patch P is ps cs → tree_at P whole ≡ Some (object all) → Within (member k q ps) all → Says text j → tree_at P j ≡ Some (object ms) → Agrees (member k q ps) is ms → AreMade text cs new
      → (ns : Members) × Leaves new P j (object ns) × ((l : List ℕ) → MergedAt (get_member l ms) (get_member l (member k q ps)) (get_member l ns)) × (members_depth ns ≤ max (members_depth ms) (members_depth (member k q ps)))
  named_again k q later ps e members P is ms all j cs text new h at within said there agrees made =
      let (ns, end, names, least) = members P is ms all j cs text new h at (λ l x f. behind k l q x ps (within l x) f) said there (λ l x f. behind k l q x ps (agrees l x) f) made in
      (ns, end, λ l. subst (λ o. MergedAt (get_member l ms) o (get_member l ns)) (sym (shadowed k q later ps e l)) (names l), omega (arith, least))

  named_once : (k : List ℕ) (q : Json) (ps : Members) → get_member k ps ≡ None → IntoAt q → ObjectAt ps → (P : Pointer) (is ms all : Members) (j : Json) (cs : List TextChange) (text new : List ℕ)
      → InTurn (MergesMember patch (P ++ k ∷ []) (get_member k is) q (λ i. MergesInto patch (P ++ k ∷ []) i q)) (MergesObject patch P is ps) cs → tree_at P whole ≡ Some (object all) → Within (member k q ps) all → Says text j → tree_at P j ≡ Some (object ms)
      → Agrees (member k q ps) is ms → AreMade text cs new → (ns : Members) × Leaves new P j (object ns) × ((l : List ℕ) → MergedAt (get_member l ms) (get_member l (member k q ps)) (get_member l ns)) × (members_depth ns ≤ max (members_depth ms) (members_depth (member k q ps)))
  named_once k q ps e into members P is ms all j cs text new (first, rest, one, more, is_both) at within said there agrees made =
      let here : get_member k (member k q ps) ≡ Some q = first_named k q ps e in
      let (mid, done, later) = made_first first rest text new (subst (λ x. AreMade text x new) is_both made) in
      let in_patch : tree_at (P ++ k ∷ []) whole ≡ Some q = further P k whole (object all) at ∙ within k q here in
      let (ls, left, merged, others, deep) = one_member P k q into (get_member k is) j ms first text mid one in_patch said there (agrees k q here) done in
      let apart = λ (l : List ℕ) (x : Json) (f : get_member l ps ≡ Some x) (same : l ≡ k). none-some x (sym (ap (λ n. get_member n ps) same ∙ e) ∙ f) in
      let (ns, end, names, least) = members P is ls all (put_at P (object ls) j) rest mid new more at (λ l x f. behind k l q x ps (within l x) f) left (put_stands P (object ls) j (object ms) there)
      (λ l x f. others l (apart l x f) ∙ behind k l q x ps (agrees l x) f) later in (
        ns,
        left_again P (object ns) (object ls) j (object ms) new there end,
        λ l. ⊎_elim {C = MergedAt (get_member l ms) (get_member l (member k q ps)) (get_member l ns)}
            (λ (same : l ≡ k). subst (λ n. MergedAt (get_member n ms) (get_member n (member k q ps)) (get_member n ns)) (sym same)
            (subst (λ o. MergedAt (get_member k ms) o (get_member k ns)) (sym here)
            (then_unnamed (get_member k ms) (Some q) (get_member k ls) (get_member k ns) merged (subst (λ o. MergedAt (get_member k ls) o (get_member k ns)) e (names k)))))
            (λ (other : l ≢ k). subst (λ o. MergedAt (get_member l ms) o (get_member l ns)) (sym (skips l k q ps other)) (subst (λ o. MergedAt o (get_member l ps) (get_member l ns)) (others l other) (names l)))
            (name_cases l k),
        omega (arith, deep, least),
      )

  next_named : (k : List ℕ) (q : Json) (ps : Members) → IntoAt q → ObjectAt ps → ObjectAt (member k q ps)
  next_named k q ps into members P is ms all j cs text new h at within said there agrees made = by (get_member k ps) refl h
    where
      by : (o : Option Json) → get_member k ps ≡ o → MatchOption o (InTurn (MergesMember patch (P ++ k ∷ []) (get_member k is) q (λ i. MergesInto patch (P ++ k ∷ []) i q)) (MergesObject patch P is ps) cs) (λ later. MergesObject patch P is ps cs)
          → (ns : Members) × Leaves new P j (object ns) × ((l : List ℕ) → MergedAt (get_member l ms) (get_member l (member k q ps)) (get_member l ns)) × (members_depth ns ≤ max (members_depth ms) (members_depth (member k q ps)))
      by None e h = named_once k q ps e into members P is ms all j cs text new h at within said there agrees made
      by (Some later) e h = named_again k q later ps e members P is ms all j cs text new h at within said there agrees made

  mutual
    pub into : (q : Json) → IntoAt q
    into null = into_other null refl
    into (boolean b) = into_other (boolean b) refl
    into (number s) = into_other (number s) refl
    into (string s) = into_other (string s) refl
    into (array js) = into_other (array js) refl
    into (object ps) = into_object ps (members ps)

    members : (ps : Members) → ObjectAt ps
    members no_members = nothing_named
    members (member k q ps) = next_named k q ps (into q) (members ps)

-- ---- the whole

pub says_merged : (text patch new : List ℕ) → IsMergedText text patch new → SaysMerged text patch new
says_merged text patch new (i, p, said, read, (cs, are, made)) = let (n, end, merged, deep) = into patch p read p [] i i cs text new are refl said refl made in (i, p, n, said, read, end, merged)

pub as_deep : (text patch new : List ℕ) → IsMergedText text patch new → nesting new ≤ max (nesting text) (nesting patch)
as_deep text patch new (i, p, said, read, (cs, are, made)) =
    let (n, end, merged, deep) = into patch p read p [] i i cs text new are refl said refl made in omega (arith, deep, nests new n end, nests text i said, nests patch p read)
