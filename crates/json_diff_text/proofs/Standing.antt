-- Operations on documents that stand for trees, and the same on the trees.
use Rattle.std.proofs.Common.{◌≡◌, ℕ, List, [], ◌∷◌, Bool, true, false, Option, Some, None, option_map, cond, bytes_eq, map, refl, sym, ap, ap₂, ◌∙◌, subst, append-nil}
use Rattle.std.proofs.lemmas.Bool.{false≢true}
use Rattle.std.proofs.lemmas.Option.{none-some}
use Rattle.std.proofs.lemmas.Slice.Eq.{bytes_eq-Decides}
use Rattle.json.specs.Find as tree
use Rattle.json.specs.Json.{Json}
use Rattle.serde_json.specs.Data.{Data, null, boolean, number, string, array, object, Items, no_items, item, Members, no_members, member}
use Rattle.serde_json.specs.Find.{get_member}
use Rattle.json_patch_document.specs.Document.{IsDocument, AreDocuments, AreMembers, IsBelowMembers}
use Rattle.json_patch_document.proofs.Members.{below_absent, found_first, skips}
use Rattle.json_patch_laws.specs.Inverse.{ArePlain}
use Rattle.json_patch_laws.specs.Run.{Accepts}
use Rattle.json_patch_operation.specs.Operation.{Operation, add, remove, replace, move, copy, test, IsWholeOp, AreWhole}
use Rattle.json_patch_text.specs.Operations.{under, all_under}
use Rattle.json_patch_text.specs.Run.{AcceptsTree}
use Rattle.json_reading.specs.Reading.{Reading}
use Rattle.json_reading.specs.Trees.{data_of, elements_of, members_of}
use Rattle.json_reading.proofs.Documents.{found, one_object}
use Rattle.json_reading.proofs.Documents as documents
use Rattle.json_diff_text.specs.Numerals.{numeral, tree_of, tree_items, tree_members, tree_op, tree_ops, read_as, StandsFor}
use Rattle.json_diff_text.specs.Renumbered.{renumbered, renumbered_items, renumbered_members, renumbered_op}
use Rattle.json_diff_text.proofs.Renumbering.{GivesWhole, accepts_renumbered, plain_renumbered, members_are, below_is}

pub reads_whole : (r : Reading) (ts : List (List ℕ)) → GivesWhole (read_as r ts)
reads_whole r ts n = r.whole (numeral ts n)

-- ---- a document with its numerals is, under a reading, the document with these numerals read

unmapped : {A B : Type 0} (f : A → B) (o : Option A) → option_map f o ≡ None → o ≡ None
unmapped f None e = refl
unmapped f (Some a) e = absurd (none-some (f a) (sym e))

by_name : (P : List ℕ → Type 0) (l q : List ℕ) (b : Bool) → bytes_eq l q ≡ b → (b ≡ true → P l) → (b ≡ false → (q ≡ l → ⊥) → P q) → P q
by_name P l q true e here other = subst P ((bytes_eq-Decides l q).0 e) (here refl)
by_name P l q false e here other = other refl (λ h. false≢true (sym e ∙ (bytes_eq-Decides l q).1 (sym h)))

later : (o : Option Json) (b : Bool) (j : Json) → b ≡ false → tree.later_or o (cond b (Some j) None) ≡ o
later None false j e = refl
later None true j e = cc
later (Some i) b j e = refl

first : (o : Option Json) (b : Bool) (j : Json) → b ≡ true → o ≡ None → tree.later_or o (cond b (Some j) None) ≡ Some j
first None true j e n = refl
first None false j e n = cc
first (Some i) b j e n = cc

abbrev Reads : Reading → List (List ℕ) → Data → Type 0
Reads r ts d = data_of r (tree_of ts d) ≡ renumbered (read_as r ts) d

abbrev Finds : Reading → List (List ℕ) → Members → List ℕ → Type 0
Finds r ts ms q = option_map (data_of r) (tree.get_member q (tree_members ts ms)) ≡ get_member q (renumbered_members (read_as r ts) ms)

finds_here : (r : Reading) (ts : List (List ℕ)) (l : List ℕ) (d : Data) (ms : Members) → IsBelowMembers l ms → Reads r ts d → Finds r ts ms l → bytes_eq l l ≡ true → Finds r ts (member l d ms) l
finds_here r ts l d ms below reads more same =
    let gone : tree.get_member l (tree_members ts ms) ≡ None = unmapped (data_of r) (tree.get_member l (tree_members ts ms)) (more ∙ below_absent l (renumbered_members (read_as r ts) ms) (below_is (read_as r ts) l ms below)) in
    ap (option_map (data_of r)) (first (tree.get_member l (tree_members ts ms)) (bytes_eq l l) (tree_of ts d) same gone)
    ∙ ap Some reads
    ∙ sym (found_first l (renumbered (read_as r ts) d) (renumbered_members (read_as r ts) ms))

finds_other : (r : Reading) (ts : List (List ℕ)) (l q : List ℕ) (d : Data) (ms : Members) → Finds r ts ms q → bytes_eq l q ≡ false → (q ≡ l → ⊥) → Finds r ts (member l d ms) q
finds_other r ts l q d ms more apart other =
    ap (option_map (data_of r)) (later (tree.get_member q (tree_members ts ms)) (bytes_eq l q) (tree_of ts d) apart)
    ∙ more
    ∙ sym (skips q l (renumbered (read_as r ts) d) (renumbered_members (read_as r ts) ms) other)

mutual
  pub read_tree : (r : Reading) (ts : List (List ℕ)) (d : Data) → IsDocument d → data_of r (tree_of ts d) ≡ renumbered (read_as r ts) d
  read_tree r ts null h = refl
  read_tree r ts (boolean b) h = refl
  read_tree r ts (number n) h = refl
  read_tree r ts (string s) h = refl
  read_tree r ts (array ds) h = ap array (read_items r ts ds h)
  read_tree r ts (object ms) h =
      one_object (members_of r (tree_members ts ms) no_members) (renumbered_members (read_as r ts) ms) (documents.members_are r (tree_members ts ms)) (members_are (read_as r ts) (reads_whole r ts) ms h)
      (λ q. found r q (tree_members ts ms) ∙ finds r ts ms q h)

  read_items : (r : Reading) (ts : List (List ℕ)) (ds : Items) → AreDocuments ds → elements_of r (tree_items ts ds) ≡ renumbered_items (read_as r ts) ds
  read_items r ts no_items h = refl
  read_items r ts (item d ds) h = ap₂ item (read_tree r ts d h.0) (read_items r ts ds h.1)

  finds : (r : Reading) (ts : List (List ℕ)) (ms : Members) (q : List ℕ) → AreMembers ms → option_map (data_of r) (tree.get_member q (tree_members ts ms)) ≡ get_member q (renumbered_members (read_as r ts) ms)
  finds r ts no_members q h = refl
  finds r ts (member l d ms) q h =
      by_name (Finds r ts (member l d ms)) l q (bytes_eq l q) refl
      (λ e. finds_here r ts l d ms h.0 (read_tree r ts d h.1) (finds r ts ms l h.2) ((bytes_eq-Decides l l).1 refl))
      (λ e other. finds_other r ts l q d ms (finds r ts ms q h.2) e other)

-- ---- operations

read_op : (r : Reading) (ts : List (List ℕ)) (op : Operation) → IsWholeOp op → under r (tree_op ts op) ≡ renumbered_op (read_as r ts) op
read_op r ts (add P v) h = ap (add P) (read_tree r ts v h)
read_op r ts (remove P) h = refl
read_op r ts (replace P v) h = ap (replace P) (read_tree r ts v h)
read_op r ts (move F P) h = refl
read_op r ts (copy F P) h = refl
read_op r ts (test P v) h = ap (test P) (read_tree r ts v h)

pub read_ops : (r : Reading) (ts : List (List ℕ)) (ops : List Operation) → AreWhole ops → all_under r (tree_ops ts ops) ≡ map (renumbered_op (read_as r ts)) ops
read_ops r ts [] h = refl
read_ops r ts (op ∷ ops) h = ap₂ (λ o os. o ∷ os) (read_op r ts op h.0) (read_ops r ts ops h.1)

pub stands_now : (ts : List (List ℕ)) (d : Data) (j : Json) (r : Reading) → StandsFor ts d j → renumbered (read_as r ts) d ≡ data_of r j
stands_now ts d j r h = subst (λ us. renumbered (read_as r us) d ≡ data_of r j) (append-nil ts) (h r [])

pub leads : (ts : List (List ℕ)) (i j : Json) (d e : Data) (ops : List Operation) → StandsFor ts d i → StandsFor ts e j → IsDocument d → AreWhole ops → Accepts d ops e → AcceptsTree i (tree_ops ts ops) j
leads ts i j d e ops at_i at_j hd hv h r =
    subst (λ x. Accepts x (all_under r (tree_ops ts ops)) (data_of r j)) (stands_now ts d i r at_i)
    (subst (λ x. Accepts (renumbered (read_as r ts) d) (all_under r (tree_ops ts ops)) x) (stands_now ts e j r at_j)
    (subst (λ os. Accepts (renumbered (read_as r ts) d) os (renumbered (read_as r ts) e)) (sym (read_ops r ts ops hv))
    (accepts_renumbered (read_as r ts) (reads_whole r ts) d e ops hd hv h)))

pub plain_there : (ts : List (List ℕ)) (i : Json) (d : Data) (ops : List Operation) → StandsFor ts d i → IsDocument d → AreWhole ops → ArePlain d ops → (r : Reading) → ArePlain (data_of r i) (all_under r (tree_ops ts ops))
plain_there ts i d ops at hd hv plain r =
    subst (λ x. ArePlain x (all_under r (tree_ops ts ops))) (stands_now ts d i r at)
    (subst (ArePlain (renumbered (read_as r ts) d)) (sym (read_ops r ts ops hv)) (plain_renumbered (read_as r ts) (reads_whole r ts) d ops hd hv plain))
