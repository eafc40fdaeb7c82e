-- The merge patch between two trees, and one that does what two do, and their texts.
use Rattle.std.proofs.Common.{◌≡◌, ◌≤◌, ◌↔◌, ℕ, List, Option, Some, None, Bool, max, refl, sym, ap, ◌∙◌, subst, arith, String, Global, string_bytes}
use Rattle.std.specs.Prelude.{codes, IfOk, IfSome, Result}
use Rattle.std.specs.Bool.{Decides}
use Rattle.std.specs.declared.alloc.AllocError.{AllocError}
use Rattle.json.specs.Json as json
use Rattle.json.specs.Json.{Json}
use Rattle.json.specs.Tree as tree
use Rattle.json.proofs.OnLiterals.{json_on_literals}
use Rattle.json_lexemes.specs.Skipped.{nesting}
use Rattle.json_lexemes.specs.Spelled.{Says}
use Rattle.json_lexemes.proofs.Nests.{nests, one_tree}
use Rattle.serde_json.specs.Data.{Num, Data, null, boolean, number, string, array, object, Members, no_members, member, depth}
use Rattle.json_patch_document.specs.Document.{IsDocument}
use Rattle.json_patch_document.proofs.SameDocuments.{AreSame-document}
use Rattle.json_patch_merge.specs.Merged.{IsMerged}
use Rattle.json_patch_merge.specs.MergedComputed.{members_of}
use Rattle.json_patch_merge.proofs.Merges.{merged_exactly, one}
use Rattle.json_merge_diff.specs.Composed.{IsComposed}
use Rattle.json_merge_diff.specs.Leads.{Resets, WantsNull}
use Rattle.json_merge_diff.proofs.Composing.{does}
use Rattle.json_merge_diff.proofs.Existing.{resets_none}
use Rattle.json_merge_diff.proofs.Results.{wanted}
use Rattle.json_merge_text.specs.Merged.{IsMergedTree, SaysMerged}
use Rattle.json_reading.specs.Reading.{Reading}
use Rattle.json_reading.specs.Same.{SameTree}
use Rattle.json_reading.specs.Trees.{data_of}
use Rattle.json_reading.proofs.Documents.{IsDocument-data_of}
use Rattle.json_reading.proofs.Told.{some_reading}
use Rattle.json_reading.proofs.Trees.{one_document, same_exactly}
use Rattle.json_diff_text.specs.Differences.{SaySame}
use Rattle.json_diff_text.specs.Merges.{AreSameObjects, DoesBothTrees, IsBothPatch, IsBothPatchOrNone, IsLedByEmpty, IsMergePatch, IsMergePatchOrNone, SaysBoth, SaysEmpty, TextResets, TextWantsNull}
use Rattle.json_diff_text.specs.Numerals.{read_as, tree_of, StandsFor}
use Rattle.json_diff_text.specs.Renumbered.{renumbered, renumbered_members}
use Rattle.json_diff_text.proofs.Between.{stands_depth}
use Rattle.json_diff_text.proofs.Levels.{depth_is}
use Rattle.json_diff_text.proofs.Merged.{composed_is, composed_low, merged_is, merged_low, resets_is, wants_is}
use Rattle.json_diff_text.proofs.Standing.{read_tree, stands_now}

-- ---- from documents that stand for trees to these

three : (R : Data → Data → Data → Type 0) {a b c x y z : Data} → a ≡ x → b ≡ y → c ≡ z → R a b c → R x y z
three R e f g h = rw (← e, ← f, ← g) h

two : (R : Data → Data → Type 0) {a b x y : Data} → a ≡ x → b ≡ y → R a b → R x y
two R e f h = rw (← e, ← f) h

led_there : (ts : List (List ℕ)) (i j : Json) (d e p : Data) → StandsFor ts d i → StandsFor ts e j → IsDocument p → IsMerged d p e → IsMergedTree i (tree_of ts p) j
led_there ts i j d e p at_i at_j hp h r = three IsMerged (stands_now ts d i r at_i) (sym (read_tree r ts p hp)) (stands_now ts e j r at_j) (merged_is (read_as r ts) h)

does_there : (ts : List (List ℕ)) (p q : Json) (a b c : Data) → StandsFor ts a p → StandsFor ts b q → IsDocument c → IsComposed a b c → DoesBothTrees p q (tree_of ts c)
does_there ts p q a b c at_p at_q hc h r =
    let there : IsComposed (data_of r p) (data_of r q) (data_of r (tree_of ts c)) = three IsComposed (stands_now ts a p r at_p) (stands_now ts b q r at_q) (sym (read_tree r ts c hc)) (composed_is (read_as r ts) h) in
    λ x y z hx hy hz. does there

wants_there : (ts : List (List ℕ)) (i j : Json) (d e : Data) → StandsFor ts d i → StandsFor ts e j → WantsNull d e → (r : Reading) → WantsNull (data_of r i) (data_of r j)
wants_there ts i j d e at_i at_j h r = two WantsNull (stands_now ts d i r at_i) (stands_now ts e j r at_j) (wants_is (read_as r ts) d e h)

resets_there : (ts : List (List ℕ)) (p q : Json) (a b : Data) → StandsFor ts a p → StandsFor ts b q → Resets a b → (r : Reading) → Resets (data_of r p) (data_of r q)
resets_there ts p q a b at_p at_q h r = two Resets (stands_now ts a p r at_p) (stands_now ts b q r at_q) (resets_is (read_as r ts) a b h)

-- ---- where {} leads

empty_led : (i j : Json) → IsMergedTree i (json.object json.no_members) j → (r : Reading) → data_of r j ≡ object (members_of (data_of r i))
empty_led i j h r = sym ((merged_exactly (data_of r i) (object no_members) (data_of r j) (IsDocument-data_of r i) tt (IsDocument-data_of r j)).0 (h r))

empty_leads : (i j : Json) → ((r : Reading) → data_of r j ≡ object (members_of (data_of r i))) → IsMergedTree i (json.object json.no_members) j
empty_leads i j h r = (merged_exactly (data_of r i) (object no_members) (data_of r j) (IsDocument-data_of r i) tt (IsDocument-data_of r j)).1 (sym (h r))

same_under_each : (i j : Json) → ((r : Reading) → data_of r i ≡ data_of r j) → SameTree i j
same_under_each i j h = (same_exactly i j).1 (λ r. (AreSame-document (data_of r i) (data_of r j) (IsDocument-data_of r i)).1 (h r))

same_objects : (i j : Json) (ms : Members) → SameTree i j → data_of some_reading j ≡ object ms → AreSameObjects i j
same_objects i json.null ms h e = cc
same_objects i (json.boolean b) ms h e = cc
same_objects i (json.number s) ms h e = cc
same_objects i (json.string s) ms h e = cc
same_objects i (json.array js) ms h e = cc
same_objects i (json.object ns) ms h e = h

members_are : (f : Num → Num) (d : Data) → members_of (renumbered f d) ≡ renumbered_members f (members_of d)
members_are f null = refl
members_are f (boolean b) = refl
members_are f (number n) = refl
members_are f (string s) = refl
members_are f (array ds) = refl
members_are f (object ms) = refl

none_left : (f : Num → Num) (ms : Members) → renumbered_members f ms ≡ no_members → ms ≡ no_members
none_left f no_members e = refl
none_left f (member k d ms) e = cc

empty_left : (f : Num → Num) (d : Data) → renumbered f d ≡ object no_members → d ≡ object no_members
empty_left f null e = cc
empty_left f (boolean b) e = cc
empty_left f (number n) e = cc
empty_left f (string s) e = cc
empty_left f (array ds) e = cc
empty_left f (object ms) e = ap object (none_left f ms cc)

-- of a document with no members {} leads to {} alone
empty_from : (ts : List (List ℕ)) (i j : Json) (d e : Data) → StandsFor ts d i → StandsFor ts e j → members_of (data_of some_reading i) ≡ no_members → data_of some_reading j ≡ object (members_of (data_of some_reading i)) → e ≡ object (members_of d)
empty_from ts i j d e at_i at_j none led =
    let f = read_as some_reading ts in
    let here : e ≡ object no_members = empty_left f e (stands_now ts e j some_reading at_j ∙ led ∙ ap object none) in
    let gone : members_of d ≡ no_members = none_left f (members_of d) (sym (members_are f d) ∙ ap members_of (stands_now ts d i some_reading at_i) ∙ none) in
    here ∙ ap object (sym gone)

empty_coded : (ts : List (List ℕ)) (i j : Json) (d e : Data) → (AreSameObjects i j → ⊥) → StandsFor ts d i → StandsFor ts e j → ((r : Reading) → data_of r j ≡ object (members_of (data_of r i))) → e ≡ object (members_of d)
empty_coded ts json.null j d e apart at_i at_j led = empty_from ts json.null j d e at_i at_j refl (led some_reading)
empty_coded ts (json.boolean b) j d e apart at_i at_j led = empty_from ts (json.boolean b) j d e at_i at_j refl (led some_reading)
empty_coded ts (json.number s) j d e apart at_i at_j led = empty_from ts (json.number s) j d e at_i at_j refl (led some_reading)
empty_coded ts (json.string s) j d e apart at_i at_j led = empty_from ts (json.string s) j d e at_i at_j refl (led some_reading)
empty_coded ts (json.array js) j d e apart at_i at_j led = empty_from ts (json.array js) j d e at_i at_j refl (led some_reading)
empty_coded ts (json.object ms) j d e apart at_i at_j led =
    absurd (apart (same_objects (json.object ms) j (members_of (data_of some_reading (json.object ms))) (same_under_each (json.object ms) j (λ r. sym (led r))) (led some_reading)))

-- ---- the merge patch between two trees

pub asked_of_object : (i j : Json) (ms : json.Members) (o : Result Bool AllocError) → j ≡ json.object ms → IfOk o (λ b. Decides b (SameTree i j)) → IfOk o (λ b. Decides b (AreSameObjects i j))
asked_of_object i j ms o is h = subst (λ x. IfOk o (λ b. Decides b (SameTree i x)) → IfOk o (λ b. Decides b (AreSameObjects i x))) (sym is) (λ k. k) h

says_empty : Says (codes "{}") (json.object json.no_members)
unfolding json_on_literals
says_empty = refl

same_led : (i j : Json) → AreSameObjects i j → IsMergedTree i (json.object json.no_members) j
same_led json.null (json.object ns) h = absurd h
same_led (json.boolean b) (json.object ns) h = absurd h
same_led (json.number s) (json.object ns) h = absurd h
same_led (json.string s) (json.object ns) h = absurd h
same_led (json.array js) (json.object ns) h = absurd h
same_led (json.object ms) (json.object ns) h = empty_leads (json.object ms) (json.object ns) (λ r. sym (one_document r (json.object ms) (json.object ns) h))
same_led i json.null h = absurd h
same_led i (json.boolean b) h = absurd h
same_led i (json.number s) h = absurd h
same_led i (json.string s) h = absurd h
same_led i (json.array js) h = absurd h

object_level : (i j : Json) → AreSameObjects i j → 1 ≤ tree.depth j
object_level i (json.object ms) h = omega arith
object_level i json.null h = absurd h
object_level i (json.boolean b) h = absurd h
object_level i (json.number s) h = absurd h
object_level i (json.string s) h = absurd h
object_level i (json.array js) h = absurd h

pub empty_between : (i j : Json) (s : List ℕ) → s ≡ codes "{}" → AreSameObjects i j → IsMergePatch i j s
empty_between i j s e same = record {
  patch = json.object json.no_members;
  says = subst (λ t. Says t (json.object json.no_members)) (sym e) says_empty;
  leads = same_led i j same;
  empty = λ h. refl;
  low = object_level i j same;
}

-- what `merge_diff` promises of the patch between two documents
abbrev pub IsMergeBetween : Data → Data → Data → Type 0
IsMergeBetween d e p = IsDocument p × IsMerged d p e × ((p ≡ object no_members) ↔ (e ≡ object (members_of d)))

led_low : (ts : List (List ℕ)) (j : Json) (d e p : Data) → StandsFor ts e j → IsDocument p → IsMerged d p e → depth p ≤ tree.depth j
led_low ts j d e p at_j hp h = let a = merged_low hp h in let b = stands_depth ts e j at_j in omega (arith, a, b)

pub patch_low : (ts : List (List ℕ)) (j : Json) (d e p : Data) (n : ℕ) → StandsFor ts e j → tree.depth j ≤ n → IsDocument p → IsMerged d p e → depth p ≤ n
patch_low ts j d e p n at_j low hp h = let a = led_low ts j d e p at_j hp h in omega (arith, a, low)

pub patch_between : (us ts : List (List ℕ)) (i j : Json) (d e p : Data) (s : List ℕ) → us ≡ ts → (AreSameObjects i j → ⊥) → StandsFor ts d i → StandsFor ts e j → IsMergeBetween d e p → Says s (tree_of us p) → IsMergePatch i j s
patch_between us ts i j d e p s is apart at_i at_j (hp, led, empty) says =
    let same = depth_is ts p in
    let low = led_low ts j d e p at_j hp led in
    record {
      patch = tree_of ts p;
      says = subst (λ x. Says s (tree_of x p)) is says;
      leads = led_there ts i j d e p at_i at_j hp led;
      empty = λ h. ap (tree_of ts) (empty.1 (empty_coded ts i j d e apart at_i at_j (empty_led i j h)));
      low = omega (arith, same, low);
    }

pub none_between : (ts : List (List ℕ)) (i j : Json) (d e : Data) → StandsFor ts d i → StandsFor ts e j → WantsNull d e → IsMergePatchOrNone i j None
none_between ts i j d e at_i at_j h = wants_there ts i j d e at_i at_j h

-- ---- of two texts

one_end : (i p j k : Json) → IsMergedTree i p j → IsMergedTree i p k → SameTree k j
one_end i p j k h g = same_under_each k j (λ r. one (data_of r j) (IsDocument-data_of r k) (IsDocument-data_of r j) (g r) (h r))

pub merging_gives : (from to : List ℕ) (i j : Json) (o : Option (String Global)) → Says from i → Says to j → IsMergePatchOrNone i j o → IfSome o (λ s. (new : List ℕ) → SaysMerged from (string_bytes s) new → SaySame new to)
merging_gives from to i j None a b h = tt
merging_gives from to i j (Some s) a b h = λ new (i', p', k, c, says, n, led).
    let same = subst (λ x. IsMergedTree x p' k) (one_tree from i' i c a) led in
    (k, j, n, b, one_end i h.patch j k h.leads (subst (λ x. IsMergedTree i x k) (one_tree (string_bytes s) p' h.patch says h.says) same))

pub empty_exactly : (from to : List ℕ) (i j : Json) (o : Option (String Global)) → Says from i → Says to j → IsMergePatchOrNone i j o → IfSome o (λ s. SaysEmpty (string_bytes s) ↔ IsLedByEmpty from to)
empty_exactly from to i j None a b h = tt
empty_exactly from to i j (Some s) a b h = (
  (λ says. (i, j, a, b, subst (λ x. IsMergedTree i x j) (one_tree (string_bytes s) h.patch (json.object json.no_members) h.says says) h.leads)),
  (λ (k, l, c, d, led). subst (Says (string_bytes s)) (h.empty (subst (λ x. IsMergedTree i (json.object json.no_members) x) (one_tree to l j d b) (subst (λ x. IsMergedTree x (json.object json.no_members) l) (one_tree from k i c a) led))) h.says),
)

pub nests_low : (from to : List ℕ) (i j : Json) (o : Option (String Global)) → Says to j → IsMergePatchOrNone i j o → IfSome o (λ s. nesting (string_bytes s) ≤ nesting to)
nests_low from to i j None b h = tt
nests_low from to i j (Some s) b h = let m = nests (string_bytes s) h.patch h.says in let n = nests to j b in let low = h.low in omega (arith, m, n, low)

none_leads : (i j q : Json) → ((r : Reading) → WantsNull (data_of r i) (data_of r j)) → IsMergedTree i q j → ⊥
none_leads i j q h led = wanted (data_of some_reading i) (data_of some_reading j) (data_of some_reading q) (h some_reading) (led some_reading)

pub none_possible : (from to : List ℕ) (i j : Json) (o : Option (String Global)) → Says from i → Says to j → IsMergePatchOrNone i j o → o ≡ None → (patch : List ℕ) → SaysMerged from patch to → ⊥
none_possible from to i j None a b h is patch (k, q, l, c, says, d, led) =
    none_leads i j q h (subst (λ x. IsMergedTree i q x) (one_tree to l j d b) (subst (λ x. IsMergedTree x q l) (one_tree from k i c a) led))
none_possible from to i j (Some s) a b h is patch g = cc

pub none_wants : (from to : List ℕ) (i j : Json) (o : Option (String Global)) → Says from i → Says to j → IsMergePatchOrNone i j o → (o ≡ None) ↔ TextWantsNull from to
none_wants from to i j None a b h = (λ is. (i, j, a, b, h), λ w. refl)
none_wants from to i j (Some s) a b h = (
  (λ is. cc),
  (λ (k, l, c, d, w). absurd (none_leads k l h.patch w (subst (λ x. IsMergedTree k h.patch x) (one_tree to j l b d) (subst (λ x. IsMergedTree x h.patch j) (one_tree from i k a c) h.leads)))),
)

-- ---- one that does what two do

pub both_low : (ts : List (List ℕ)) (p q : Json) (a b c : Data) (n : ℕ) → StandsFor ts a p → StandsFor ts b q → max (tree.depth p) (tree.depth q) ≤ n → IsDocument c → IsComposed a b c → depth c ≤ n
both_low ts p q a b c n at_p at_q low hc h =
    let l = stands_depth ts a p at_p in let m = stands_depth ts b q at_q in let k = composed_low hc h in omega (arith, l, m, k, low)

pub both_between : (us ts : List (List ℕ)) (p q : Json) (a b c : Data) (s : List ℕ) → us ≡ ts → StandsFor ts a p → StandsFor ts b q → IsDocument c → IsComposed a b c → Says s (tree_of us c) → IsBothPatch p q s
both_between us ts p q a b c s is at_p at_q hc h says =
    let same = depth_is ts c in
    let most : max (tree.depth p) (tree.depth q) ≤ max (tree.depth p) (tree.depth q) = omega arith in
    let low = both_low ts p q a b c (max (tree.depth p) (tree.depth q)) at_p at_q most hc h in
    record {
      patch = tree_of ts c;
      says = subst (λ x. Says s (tree_of x c)) is says;
      does = does_there ts p q a b c at_p at_q hc h;
      low = omega (arith, same, low);
    }

pub none_of_both : (ts : List (List ℕ)) (p q : Json) (a b : Data) → StandsFor ts a p → StandsFor ts b q → Resets a b → IsBothPatchOrNone p q None
none_of_both ts p q a b at_p at_q h = resets_there ts p q a b at_p at_q h

pub does_in_turn : (first then : List ℕ) (p q : Json) (o : Option (String Global)) → Says first p → Says then q → IsBothPatchOrNone p q o
    → IfSome o (λ s. (text mid new : List ℕ) → SaysMerged text first mid → SaysMerged mid then new → SaysMerged text (string_bytes s) new)
does_in_turn first then p q None a b h = tt
does_in_turn first then p q (Some s) a b h = λ text mid new (i, p', m, says_i, says_p, says_m, led) (m', q', j, also_m, says_q, says_j, then_led).
    let one_led = subst (λ x. IsMergedTree i x m) (one_tree first p' p says_p a) led in
    let next_led = subst (λ x. IsMergedTree x q j) (one_tree mid m' m also_m says_m) (subst (λ x. IsMergedTree m' x j) (one_tree then q' q says_q b) then_led) in
    (i, h.patch, j, says_i, h.says, says_j, λ r. h.does r (data_of r i) (data_of r m) (data_of r j) (IsDocument-data_of r i) (IsDocument-data_of r m) (IsDocument-data_of r j) (one_led r) (next_led r))

pub both_nests : (first then : List ℕ) (p q : Json) (o : Option (String Global)) → Says first p → Says then q → IsBothPatchOrNone p q o → IfSome o (λ s. nesting (string_bytes s) ≤ max (nesting first) (nesting then))
both_nests first then p q None a b h = tt
both_nests first then p q (Some s) a b h = let l = nests (string_bytes s) h.patch h.says in let m = nests first p a in let n = nests then q b in let low = h.low in omega (arith, l, m, n, low)

none_does_both : (p q s : Json) → ((r : Reading) → Resets (data_of r p) (data_of r q)) → DoesBothTrees p q s → ⊥
none_does_both p q s h g =
    resets_none (data_of some_reading p) (data_of some_reading q) (data_of some_reading s) (IsDocument-data_of some_reading p) (IsDocument-data_of some_reading q) (IsDocument-data_of some_reading s) (h some_reading) (g some_reading)

pub no_both : (first then : List ℕ) (p q : Json) (o : Option (String Global)) → Says first p → Says then q → IsBothPatchOrNone p q o → o ≡ None → (patch : List ℕ) → SaysBoth first then patch → ⊥
no_both first then p q None a b h is patch (k, l, s, c, d, says, g) =
    none_does_both p q s h (subst (λ x. DoesBothTrees p x s) (one_tree then l q d b) (subst (λ x. DoesBothTrees x l s) (one_tree first k p c a) g))
no_both first then p q (Some s) a b h is patch g = cc

pub none_resets : (first then : List ℕ) (p q : Json) (o : Option (String Global)) → Says first p → Says then q → IsBothPatchOrNone p q o → (o ≡ None) ↔ TextResets first then
none_resets first then p q None a b h = (λ is. (p, q, a, b, h), λ w. refl)
none_resets first then p q (Some s) a b h = (
  (λ is. cc),
  (λ (k, l, c, d, w). absurd (none_does_both k l h.patch w (subst (λ x. DoesBothTrees k x h.patch) (one_tree then q l b d) (subst (λ x. DoesBothTrees x q h.patch) (one_tree first p k a c) h.does)))),
)
