-- The patch between two trees, and its text.
use Rattle.std.proofs.Common.{◌≡◌, ◌<◌, ◌≤◌, ◌+◌, ℕ, zero, suc, List, [], ◌∷◌, length, ◌↔◌, ◌⊎◌, inl, inr, Some, None, Ordering, Less, Equal, Greater, Bool, false, true, Result, Ok, Err, IfOk, max, map, refl, sym, ap, ◌∙◌, subst, arith}
use Rattle.std.specs.Bool.{Decides}
use Rattle.std.specs.Prelude.{codes, IsSome}
use Rattle.std.specs.Ordering.{nat_cmp, match_ordering}
use Rattle.std.specs.Cmp.Lexicographic.{slice_cmp}
use Rattle.std.proofs.lemmas.Bool.{cases_lt, false≢true}
use Rattle.json.specs.Json as json
use Rattle.json.specs.Json.{Json, document, max_depth}
use Rattle.json.specs.Print.{IsNumber}
use Rattle.json.proofs.OnLiterals.{json_on_literals}
use Rattle.json.specs.Tree as tree
use Rattle.json.specs.Tree.{HasNumbers, ItemsHaveNumbers, MembersHaveNumbers}
use Rattle.json_lexemes.specs.Skipped.{nesting}
use Rattle.json_lexemes.specs.Spelled.{Says}
use Rattle.json_lexemes.proofs.Nests.{nests, one_tree, refused}
use Rattle.json_lexemes.proofs.Parsed.{Says-document}
use Rattle.serde_json.specs.Data.{Num, unsigned, negative, float, Data, null, boolean, number, string, array, object, Items, no_items, item, Members, no_members, member, depth, items_depth, members_depth, put}
use Rattle.serde_json.specs.View.{items_of}
use Rattle.json_patch_document.proofs.SameDocuments.{AreSame-document}
use Rattle.json_patch_laws.specs.Inverse.{ArePlain}
use Rattle.json_patch_laws.specs.Run.{Accepts, IsAccepted}
use Rattle.json_patch_limits.specs.declared.limits.Limits.{Limits}
use Rattle.json_patch_moves.specs.Moving.{AreMoving, IsMoving}
use Rattle.json_patch_moves.proofs.Serving.{plain_moving}
use Rattle.json_patch_operation.specs.Operation.{Operation, add, remove, replace, move, copy, test, AreWhole}
use Rattle.json_patch_operation.specs.PatchValue.{written_value, written_patch}
use Rattle.json_reading.specs.Reading.{Reading}
use Rattle.json_reading.specs.Same.{SameTree}
use Rattle.json_reading.specs.Trees.{data_of, elements_of as read_elements_of, members_of as read_members_of}
use Rattle.json_reading.proofs.Told.{some_reading}
use Rattle.json_reading.proofs.Documents.{IsDocument-data_of}
use Rattle.json_reading.proofs.Trees.{one_document, same_exactly}
use Rattle.json_patch_text.specs.Patched.{AcceptsPatch}
use Rattle.json_diff_text.specs.Differences.{AreTreeEdits, IsBetween, IsFewBetween, IsMovingPatch, IsPlainPatch, IsTextOf, IsTextPatch, IsTreePatch, SaySame, most_levels}
use Rattle.json_diff_text.specs.Edits.{AreEdits}
use Rattle.json_diff_text.specs.Numerals.{numeral, numeral_at, tree_of, tree_items, tree_members, tree_op, tree_ops, read_as, StandsFor, Grows, AreNumbers}
use Rattle.json_patch_text.specs.Operations.{TreeOperation, all_under, tree_fields, HasFields, ReadsTrees, ReadsTreePatch, SaysOperations}
use Rattle.json_diff_text.specs.Renumbered.{renumbered, renumbered_op}
use Rattle.json_patch_diff.specs.Size.{values}
use Rattle.json_patch_limits.specs.OverLimits.{AreShallow, NeverOver}
use Rattle.json_patch_text.specs.Run.{AcceptsTree}
use Rattle.json_patch_text.specs.Shallow.{AllPutWithin, IsNeverTooDeep}
use Rattle.json_patch_text.specs.Within.{IsPatchedWithin}
use Rattle.json_patch_text.proofs.Shallow.{never_too_deep, puts_within_more}
use Rattle.json_diff_text.proofs.Levels.{AllFitHere, all_fit_there, depth_is, depth_same, fit_more, patch_fits, values_are}
use Rattle.json_diff_text.proofs.Coded.{stands_grown}
use Rattle.json_diff_text.proofs.Spelled.{as_many, fit_alike, shallow_alike}
use Rattle.json_patch_text.proofs.Tried.{never_tried}
use Rattle.json_diff_text.proofs.Standing.{leads, plain_there, read_ops, stands_now}

-- ---- a document with its numerals can be written

zero_number : IsNumber (codes "0")
unfolding json_on_literals
zero_number = refl

number_at : (ts : List (List ℕ)) (n : ℕ) → AreNumbers ts → IsNumber (numeral_at ts n)
number_at [] n h = zero_number
number_at (t ∷ ts) zero h = h.0
number_at (t ∷ ts) (suc n) h = number_at ts n h.1

numeral_number : (ts : List (List ℕ)) (n : Num) → AreNumbers ts → IsNumber (numeral ts n)
numeral_number ts (unsigned n) h = number_at ts n h
numeral_number ts (negative z) h = zero_number
numeral_number ts (float x) h = zero_number

mutual
  pub has_numbers : (ts : List (List ℕ)) (d : Data) → AreNumbers ts → HasNumbers (tree_of ts d)
  has_numbers ts null h = tt
  has_numbers ts (boolean b) h = tt
  has_numbers ts (number n) h = numeral_number ts n h
  has_numbers ts (string s) h = tt
  has_numbers ts (array ds) h = items_have ts ds h
  has_numbers ts (object ms) h = members_have ts ms h

  items_have : (ts : List (List ℕ)) (ds : Items) → AreNumbers ts → ItemsHaveNumbers (tree_items ts ds)
  items_have ts no_items h = tt
  items_have ts (item d ds) h = (has_numbers ts d h, items_have ts ds h)

  members_have : (ts : List (List ℕ)) (ms : Members) → AreNumbers ts → MembersHaveNumbers (tree_members ts ms)
  members_have ts no_members h = tt
  members_have ts (member k d ms) h = (has_numbers ts d h, members_have ts ms h)

-- ---- what is written of a patch reads as its operations

fields_are : (ts : List (List ℕ)) (op : Operation) → HasFields (tree_of ts (written_value op)) (tree_fields (tree_op ts op))
fields_are ts (add P v) = (refl, (refl, (refl, tt)))
fields_are ts (remove P) = (refl, (refl, tt))
fields_are ts (replace P v) = (refl, (refl, (refl, tt)))
fields_are ts (move F P) = (refl, (refl, (refl, tt)))
fields_are ts (copy F P) = (refl, (refl, (refl, tt)))
fields_are ts (test P v) = (refl, (refl, (refl, tt)))

reads_all : (ts : List (List ℕ)) (ops : List Operation) → ReadsTrees (tree_items ts (items_of (map written_value ops))) (tree_ops ts ops)
reads_all ts [] = tt
reads_all ts (op ∷ ops) = (fields_are ts op, reads_all ts ops)

pub value_says : (ts : List (List ℕ)) (d : Data) (text : List ℕ) (j : Json) → j ≡ tree_of ts d → (tree.depth j ≤ max_depth → document text ≡ Some j) → depth d ≤ max_depth → Says text (tree_of ts d)
value_says ts d text j is read low =
    let deep : tree.depth j ≡ depth d = ap tree.depth is ∙ depth_is ts d in
    let low_tree : tree.depth j ≤ max_depth = omega (arith, deep, low) in
    subst (Says text) is (Says-document text j (read low_tree))

pub patch_says : (ts : List (List ℕ)) (ops : List Operation) (text : List ℕ) → Says text (tree_of ts (written_patch ops)) → depth (written_patch ops) ≤ max_depth → IsTextOf text (tree_ops ts ops)
patch_says ts ops text says low =
    let deep = depth_is ts (written_patch ops) in
    let n = nests text (tree_of ts (written_patch ops)) says in
    ((tree_of ts (written_patch ops), says, reads_all ts ops), omega (arith, n, deep, low))

-- ---- a document is no deeper than the tree for which it stands

put_depth : (k : List ℕ) (d : Data) (ms : Members) → members_depth (put k d ms) ≤ max (depth d) (members_depth ms)
put_depth k d no_members = omega arith
put_depth k d (member l e ms) = by (slice_cmp nat_cmp k l) (put_depth k d ms)
  where
    by : (o : Ordering) → members_depth (put k d ms) ≤ max (depth d) (members_depth ms)
        → members_depth (match_ordering o (member k d (member l e ms)) (member l d ms) (member l e (put k d ms))) ≤ max (depth d) (max (depth e) (members_depth ms))
    by Less more = omega arith
    by Equal more = omega arith
    by Greater more = omega arith

mutual
  read_depth : (r : Reading) (j : Json) → depth (data_of r j) ≤ tree.depth j
  read_depth r json.null = omega arith
  read_depth r (json.boolean b) = omega arith
  read_depth r (json.number s) = omega arith
  read_depth r (json.string s) = omega arith
  read_depth r (json.array js) = let h = read_items_depth r js in omega arith
  read_depth r (json.object ms) = let h = read_members_depth r ms no_members in omega arith

  read_items_depth : (r : Reading) (js : json.Items) → items_depth (read_elements_of r js) ≤ tree.items_depth js
  read_items_depth r json.no_items = omega arith
  read_items_depth r (json.item j js) = let h = read_depth r j in let g = read_items_depth r js in omega arith

  read_members_depth : (r : Reading) (ms : json.Members) (before : Members) → members_depth (read_members_of r ms before) ≤ max (members_depth before) (tree.members_depth ms)
  read_members_depth r json.no_members before = omega arith
  read_members_depth r (json.member k j ms) before = let h = read_depth r j in let g = read_members_depth r ms (put k (data_of r j) before) in let p = put_depth k (data_of r j) before in omega arith

pub stands_depth : (ts : List (List ℕ)) (d : Data) (j : Json) → StandsFor ts d j → depth d ≤ tree.depth j
stands_depth ts d j h =
    let same = depth_same (read_as some_reading ts) d in
    let is : depth (renumbered (read_as some_reading ts) d) ≡ depth (data_of some_reading j) = ap depth (stands_now ts d j some_reading h) in
    let low = read_depth some_reading j in
    omega (arith, same, is, low)

shallower : (a b : ℕ) (ops : List Operation) → a ≤ b → AreShallow a ops → AreShallow b ops
shallower a b [] le h = tt
shallower a b (op ∷ ops) le h = (omega (arith, le, h.0), shallower a b ops le h.1)

pub patch_shallow : (ts : List (List ℕ)) (d : Data) (j : Json) (b : ℕ) (ops : List Operation) → StandsFor ts d j → tree.depth j ≤ b → AreShallow (depth d) ops → AreShallow b ops
patch_shallow ts d j b ops stands low h = let le = stands_depth ts d j stands in shallower (depth d) b ops (omega (arith, le, low)) h

-- ---- the patch between two trees

same_of : (i j : Json) (ops : List TreeOperation) → AcceptsTree i ops j → ops ≡ [] → SameTree i j
same_of i j ops a e =
    let none : AcceptsTree i [] j = subst (λ os. AcceptsTree i os j) e a in
    (same_exactly i j).1 (λ r. (AreSame-document (data_of r i) (data_of r j) (IsDocument-data_of r i)).1 (none r))

says_none : Says (codes "[]") (json.array json.no_items)
unfolding json_on_literals
says_none = refl

pub none_nests : (text : List ℕ) → text ≡ codes "[]" → nesting text ≤ max_depth
none_nests text e = let n = nests (codes "[]") (json.array json.no_items) says_none in let m = ap nesting e in omega (arith, n, m)

pub nothing_edits : (moves : Bool) (i j : Json) → SameTree i j → AreTreeEdits moves i j []
nothing_edits moves i j same = record {
  leads = λ r. one_document r i j same;
  moving = λ r. tt;
  plain = λ off. λ r. tt;
  nothing = ((λ n. same), (λ s. refl));
  few = λ r. omega arith;
  shallow = λ off. tt;
}

pub nothing_said : (text : List ℕ) → text ≡ codes "[]" → SaysOperations text []
nothing_said text e = (json.array json.no_items, subst (λ t. Says t (json.array json.no_items)) (sym e) says_none, tt)

pub nothing_between : (moves : Bool) (i j : Json) (text : List ℕ) → text ≡ codes "[]" → SameTree i j → IsTreePatch moves i j text
nothing_between moves i j text e same = record { ops = []; edits = nothing_edits moves i j same; says = nothing_said text e; readable = none_nests text e }

-- `diff` gives such operations without moves
pub plain_between : {X E : Type 0} (r : Result X E) (ops : X → List Operation) (moves : Bool) (d e : Data) → IfOk r (λ p. IsAccepted d (ops p) e) → IfOk r (λ p. AreWhole (ops p)) → IfOk r (λ p. ArePlain d (ops p)) → IfOk r (λ p. length (ops p) ≤ values d + values e)
    → IfOk r (λ p. AreShallow (depth e) (ops p)) → IfOk r (λ p. (recorded : Bool) (l : Limits) → depth e ≤ l.depth → NeverOver recorded l d (ops p)) → IfOk r (λ p. IsBetween moves d e (ops p))
plain_between (Ok p) ops moves d e leads whole plain few shallow never = record {
  whole = whole;
  leads = leads;
  moving = plain_moving d (ops p) plain;
  few = few;
  shallow = shallow;
  plain = λ off. plain;
  never = λ off. never;
}
plain_between (Err f) ops moves d e leads whole plain few shallow never = tt

-- operations that move are moving with other numbers, too
moving_op : (f : Num → Num) (op : Operation) → IsMoving op → IsMoving (renumbered_op f op)
moving_op f (add P v) h = tt
moving_op f (remove P) h = tt
moving_op f (replace P v) h = tt
moving_op f (move F P) h = tt
moving_op f (copy F P) h = absurd h
moving_op f (test P v) h = absurd h

moving_there : (f : Num → Num) (ops : List Operation) → AreMoving ops → AreMoving (map (renumbered_op f) ops)
moving_there f [] h = tt
moving_there f (op ∷ ops) h = (moving_op f op h.0, moving_there f ops h.1)

op_count : (ts : List (List ℕ)) (ops : List Operation) → length (tree_ops ts ops) ≡ length ops
op_count ts [] = refl
op_count ts (op ∷ ops) = ap suc (op_count ts ops)

values_there : (ts : List (List ℕ)) (d : Data) (j : Json) (r : Reading) → StandsFor ts d j → values (data_of r j) ≡ values d
values_there ts d j r h = ap values (sym (stands_now ts d j r h)) ∙ values_are (read_as r ts) d

pub edits_grown : (moves : Bool) (ts us : List (List ℕ)) (i j : Json) (os : List Operation) → Grows ts us → AreEdits moves ts i j os → AreEdits moves us i j os
edits_grown moves ts us i j os g h = record {
  old = h.old;
  new = h.new;
  written = h.written;
  made = h.made;
  first = stands_grown ts us h.old i g h.first;
  second = stands_grown ts us h.new j g h.second;
  spelled = stands_grown ts us h.written j g h.spelled;
  document = h.document;
  between = h.between;
  alike = h.alike;
}

pub edits_whole : (moves : Bool) (ts : List (List ℕ)) (i j : Json) (os : List Operation) → AreEdits moves ts i j os → AreWhole os
edits_whole moves ts i j os h = h.alike.0 h.between.whole

pub same_read : (moves : Bool) (ts : List (List ℕ)) (i j : Json) (os : List Operation) (h : AreEdits moves ts i j os) (r : Reading) → map (renumbered_op (read_as r ts)) os ≡ map (renumbered_op (read_as r ts)) h.made
same_read moves ts i j os h r = h.alike.1 (read_as r ts) (stands_now ts h.new j r h.second ∙ sym (stands_now ts h.written j r h.spelled))

same_under : (moves : Bool) (ts : List (List ℕ)) (i j : Json) (os : List Operation) (h : AreEdits moves ts i j os) (r : Reading) → all_under r (tree_ops ts os) ≡ all_under r (tree_ops ts h.made)
same_under moves ts i j os h r = read_ops r ts os (h.alike.0 h.between.whole) ∙ same_read moves ts i j os h r ∙ sym (read_ops r ts h.made h.between.whole)

pub edits_shallow : (moves : Bool) (ts : List (List ℕ)) (i j : Json) (b : ℕ) (os : List Operation) → tree.depth j ≤ b → AreEdits moves ts i j os → AreShallow b os
edits_shallow moves ts i j b os low h =
    shallow_alike (read_as some_reading ts) b h.made os (same_read moves ts i j os h some_reading) (patch_shallow ts h.new j b h.made h.second low h.between.shallow)

-- without moves what they put reaches no deeper than the second tree
pub edits_fit : (ts : List (List ℕ)) (i j : Json) (os : List Operation) → AreEdits false ts i j os → AllFitHere (tree.depth j) os
edits_fit ts i j os h =
    fit_more (depth h.new) (tree.depth j) os (stands_depth ts h.new j h.second)
    (fit_alike (read_as some_reading ts) (depth h.new) h.made os (same_read false ts i j os h some_reading) (patch_fits h.old h.new h.made (h.between.plain refl) (h.between.never refl)))

pub tree_edits : (moves : Bool) (ts : List (List ℕ)) (i j : Json) (os : List Operation) → (SameTree i j → ⊥) → AreEdits moves ts i j os → AreTreeEdits moves i j (tree_ops ts os)
tree_edits moves ts i j os apart h =
    let hv : AreWhole h.made = h.between.whole in
    let leads_there : AcceptsTree i (tree_ops ts os) j = λ r. subst (λ x. Accepts (data_of r i) x (data_of r j)) (sym (same_under moves ts i j os h r)) (leads ts i j h.old h.new h.made h.first h.second h.document hv h.between.leads.accepts r) in
    record {
      leads = leads_there;
      moving = λ r. subst AreMoving (sym (read_ops r ts os (h.alike.0 hv) ∙ same_read moves ts i j os h r)) (moving_there (read_as r ts) h.made h.between.moving);
      plain = λ off. λ r. subst (ArePlain (data_of r i)) (sym (same_under moves ts i j os h r)) (plain_there ts i h.old h.made h.first h.document hv (h.between.plain off) r);
      nothing = (same_of i j (tree_ops ts os) leads_there, (λ s. absurd (apart s)));
      few = λ r.
          let m = as_many (read_as r ts) h.made os (same_read moves ts i j os h r) in
          let n = op_count ts os in let a = values_there ts h.old i r h.first in let c = values_there ts h.new j r h.second in let few = h.between.few in omega (arith, m, n, a, c, few);
      shallow = λ off. let low : tree.depth j ≤ tree.depth j = omega arith in all_fit_there ts (tree.depth j) (tree.depth j) os low (edits_fit ts i j os (subst (λ x. AreEdits x ts i j os) off h));
    }

-- ---- of two texts

none_read : (p : Json) (ops : List TreeOperation) → ReadsTreePatch p [] → ReadsTreePatch p ops → ops ≡ []
none_read (json.array json.no_items) [] a b = refl
none_read (json.array json.no_items) (op ∷ ops) a b = absurd b
none_read (json.array (json.item v js)) ops a b = absurd a
none_read p ops a b = absurd a

pub accepts_patch : (moves : Bool) (from to text : List ℕ) → IsTextPatch moves from to text → AcceptsPatch from text to
accepts_patch moves from to text h = (h.patch.ops, h.patch.says, (h.i, h.j, h.first, h.second, h.patch.edits.leads))

pub moving_patch : (moves : Bool) (from to text : List ℕ) → IsTextPatch moves from to text → IsMovingPatch text
moving_patch moves from to text h = (h.patch.ops, h.patch.says, h.patch.edits.moving)

pub plain_patch : (from to text : List ℕ) → IsTextPatch false from to text → IsPlainPatch from text
plain_patch from to text h = (h.i, h.patch.ops, h.first, h.patch.says, h.patch.edits.plain refl)

pub few_between : (moves : Bool) (from to text : List ℕ) → IsTextPatch moves from to text → IsFewBetween from to text
few_between moves from to text h = (h.i, h.j, h.patch.ops, h.first, h.second, h.patch.says, h.patch.edits.few)

-- it says none exactly where both texts say the same
pub says_nothing : (from to text : List ℕ) (i j : Json) (ops : List TreeOperation) → Says from i → Says to j → SaysOperations text ops → (ops ≡ []) ↔ SameTree i j → SaysOperations text [] ↔ SaySame from to
says_nothing from to text i j ops a b said nothing = (none said, some said)
  where
    none : SaysOperations text ops → SaysOperations text [] → SaySame from to
    none (p, says, reads) (q, also, empty) = (i, j, a, b, nothing.0 (none_read p ops (subst (λ x. ReadsTreePatch x []) (one_tree text q p also says) empty) reads))

    some : SaysOperations text ops → SaySame from to → SaysOperations text []
    some (p, says, reads) (k, l, c, d, same) =
        (p, says, subst (ReadsTreePatch p) (nothing.1 (subst (λ x. SameTree x j) (one_tree from k i c a) (subst (λ x. SameTree k x) (one_tree to l j d b) same))) reads)

pub nothing_exactly : (moves : Bool) (from to text : List ℕ) → IsTextPatch moves from to text → SaysOperations text [] ↔ SaySame from to
nothing_exactly moves from to text h = says_nothing from to text h.i h.j h.patch.ops h.first h.second h.patch.says h.patch.edits.nothing

pub patch_readable : (moves : Bool) (from to text : List ℕ) → IsTextPatch moves from to text → nesting text ≤ max_depth
patch_readable moves from to text h = h.patch.readable

pub never_deep : (moves : Bool) (from to text : List ℕ) → IsTextPatch moves from to text → IsNeverTooDeep (max (nesting from) (nesting to)) from text
never_deep moves from to text h = h.never

-- ---- how deep

most_nested : (from to : List ℕ) (i j : Json) → Says from i → Says to j → tree.depth i ≤ max_depth → tree.depth j ≤ max_depth → max (nesting from) (nesting to) ≤ max_depth
most_nested from to i j a b low_i low_j = let m = nests from i a in let n = nests to j b in omega (arith, m, n, low_i, low_j)

-- nothing is put deeper than the second text nests
pub patch_never : (from to text : List ℕ) (i j : Json) (ops : List TreeOperation) → Says from i → Says to j → tree.depth i ≤ max_depth → tree.depth j ≤ max_depth → SaysOperations text ops → AllPutWithin (tree.depth j) ops
    → IsNeverTooDeep (max (nesting from) (nesting to)) from text
patch_never from to text i j ops a b low_i low_j says shallow =
    let n = nests to j b in
    let under : tree.depth j ≤ max (nesting from) (nesting to) = omega (arith, n) in
    let first : nesting from ≤ max (nesting from) (nesting to) = omega arith in
    never_too_deep (max (nesting from) (nesting to)) from text ops says (puts_within_more (tree.depth j) (max (nesting from) (nesting to)) ops under shallow) first (most_nested from to i j a b low_i low_j)

pub without_moves : (moves : Bool) (from to text : List ℕ) (i j : Json) → Says from i → Says to j → tree.depth i ≤ max_depth → tree.depth j ≤ most_levels → IsTreePatch false i j text → IsTextPatch moves from to text
without_moves moves from to text i j a b low_i low_j h = record {
  i = i;
  j = j;
  first = a;
  second = b;
  patch = record {
    ops = h.ops;
    edits = record {
      leads = h.edits.leads;
      moving = h.edits.moving;
      plain = λ off. h.edits.plain refl;
      nothing = h.edits.nothing;
      few = h.edits.few;
      shallow = λ off. h.edits.shallow refl;
    };
    says = h.says;
    readable = h.readable;
  };
  never = patch_never from to text i j h.ops a b low_i (omega (arith, low_j)) h.says (h.edits.shallow refl);
}

-- with moves it was tried within so many levels, no more than the trees have
pub with_moves : (moves : Bool) (from to text s : List ℕ) (i j : Json) (a b most : ℕ) → moves ≡ true → s ≡ text → most ≤ max a b → Says from i → Says to j → tree.depth i ≤ max_depth → tree.depth j ≤ most_levels → a ≤ tree.depth i → b ≤ tree.depth j → IsTreePatch true i j text
    → (l : Limits) × (new : List ℕ) × (l.depth ≤ most) × IsPatchedWithin l from s new → IsTextPatch moves from to text
with_moves moves from to text s i j a b most on same most_low said also low_i low_j a_low b_low h (l, new, le, tried) =
    let m = nests from i said in
    let n = nests to j also in
    let low : l.depth ≤ max (nesting from) (nesting to) = omega (arith, m, n, le, most_low, a_low, b_low) in
    subst (λ x. IsTextPatch x from to text) (sym on) record {
      i = i;
      j = j;
      first = said;
      second = also;
      patch = h;
      never = subst (IsNeverTooDeep (max (nesting from) (nesting to)) from) same (never_tried l (max (nesting from) (nesting to)) from s new i said tried low (most_nested from to i j said also low_i (omega (arith, low_j))));
    }

-- ---- its faults

pub not_json : (text : List ℕ) (levels : ℕ) → document text ≡ None → (levels < nesting text → ⊥) → levels ≤ max_depth → (j : Json) → Says text j → ⊥
not_json text levels none shallow le j says = refused text (λ some. false≢true (subst IsSome none some)) (λ deep. shallow (omega (arith, deep, le))) j says

pub shallow_tree : (text : List ℕ) (levels : ℕ) (j : Json) → document text ≡ Some j → (levels < nesting text → ⊥) → tree.depth j ≤ levels
shallow_tree text levels j e shallow = by (cases_lt levels (tree.depth j))
  where
    by : (levels < tree.depth j) ⊎ (tree.depth j ≤ levels) → tree.depth j ≤ levels
    by (inl h) = absurd (shallow (subst (λ n. levels < n) (sym (nests text j (Says-document text j e))) h))
    by (inr h) = h

pub told_shallow : (text : List ℕ) (levels : ℕ) (b : Bool) → Decides b (levels < nesting text) → b ≡ false → levels < nesting text → ⊥
told_shallow text levels b d off deep = false≢true (sym off ∙ d.1 deep)

pub apart_of : (b : Bool) (P : Type 0) → Decides b P → b ≡ false → P → ⊥
apart_of b P d off h = false≢true (sym off ∙ d.1 h)

pub edits_between : (moves : Bool) (us ts : List (List ℕ)) (i j : Json) (os : List Operation) (text : List ℕ) → us ≡ ts → (SameTree i j → ⊥) → AreEdits moves ts i j os → IsTextOf text (tree_ops us os) → IsTreePatch moves i j text
edits_between moves us ts i j os text is apart h said =
    let (says, low) = subst (λ x. IsTextOf text (tree_ops x os)) is said in
    record { ops = tree_ops ts os; edits = tree_edits moves ts i j os apart h; says = says; readable = low }
