-- The patch with tests (RFC 6902, section 4.6), on trees and in texts.
use Rattle.std.proofs.Common.{◌≡◌, ◌≤◌, ◌↔◌, ℕ, List, [], ◌∷◌, ◌++◌, false, max, map, refl, sym, ap, ◌∙◌, subst, arith}
use Rattle.std.proofs.lemmas.List.{length-map, map-append}
use Rattle.std.specs.Prelude.{codes}
use Rattle.json.specs.Json.{Json}
use Rattle.json.specs.Tree as tree
use Rattle.json_lexemes.specs.Skipped.{nesting}
use Rattle.json_lexemes.specs.Spelled.{Says}
use Rattle.serde_json.specs.Data.{Num, Data, depth}
use Rattle.json_patch_diff.specs.Guarded.{Guards, IsGuarded}
use Rattle.json_patch_diff.proofs.Guards.{accepts_beside, beside, guarded_few, guarded_leads, guarded_nothing}
use Rattle.json_patch_diff.proofs.Results.{only_end}
use Rattle.json_patch_document.specs.Document.{IsDocument}
use Rattle.json_patch_edit.proofs.Locations.{found_resolves}
use Rattle.json_patch_edit.proofs.StepOutcomes.{leaves_document, leaves_stepped, stands_found, stepped_leaves}
use Rattle.json_patch_laws.specs.Inverse.{ArePlain}
use Rattle.json_patch_laws.specs.Run.{Accepts}
use Rattle.json_patch_laws.proofs.Runs as runs
use Rattle.json_patch_limits.specs.OverLimits.{AreShallow, reach_of}
use Rattle.json_patch_limits.proofs.Depths.{found_depth, step_depth}
use Rattle.json_patch_operation.specs.Operation.{Operation, add, remove, replace, move, copy, test, AreWhole}
use Rattle.json_patch_text.specs.Operations.{TreeOperation, SaysOperations, all_under, under}
use Rattle.json_patch_text.specs.Patched.{AcceptsPatch}
use Rattle.json_patch_text.specs.Run.{AcceptsTree}
use Rattle.json_patch_text.specs.Shallow.{IsNeverTooDeep}
use Rattle.json_patch_text.proofs.Patches.{one_patch}
use Rattle.json_patch_text.proofs.Runs as trees
use Rattle.json_reading.specs.Reading.{Reading}
use Rattle.json_reading.specs.Same.{SameTree}
use Rattle.json_reading.specs.Trees.{data_of}
use Rattle.json_reading.proofs.Documents.{IsDocument-data_of}
use Rattle.json_reading.proofs.Told.{some_reading}
use Rattle.json_diff_text.specs.Differences.{AcceptsTextBeside, AreGuardedOn, IsFewGuarded, IsGuardedPatch, IsGuardedTreePatch, IsRefusedElsewhere, IsTextOf, SaySame, most_levels}
use Rattle.json_diff_text.specs.Edits.{AreEdits}
use Rattle.json_diff_text.specs.Numerals.{tree_ops, read_as, StandsFor, Grows}
use Rattle.json_diff_text.specs.Renumbered.{renumbered, renumbered_op}
use Rattle.json_diff_text.proofs.Between.{edits_fit, edits_grown, edits_shallow, edits_whole, none_nests, nothing_edits, nothing_said, patch_never, same_read, says_nothing, stands_depth, tree_edits}
use Rattle.json_diff_text.proofs.Levels.{AllFitHere, FitsHere, all_fit_there, fit_more}
use Rattle.json_diff_text.proofs.Renumbering.{GivesWhole, leaves_there, plain_back, plain_renumbered, stands_there}
use Rattle.json_diff_text.proofs.Standing.{plain_there, read_ops, reads_whole, stands_now}

-- ---- the edits are plain on each document that stands for the first tree

plain_now : (ts : List (List ℕ)) (i j : Json) (d : Data) (os : List Operation) → AreEdits false ts i j os → StandsFor ts d i → IsDocument d → ArePlain d os
plain_now ts i j d os h at hd =
    let f = read_as some_reading ts in
    let w = reads_whole some_reading ts in
    let made = plain_renumbered f w h.old h.made h.document h.between.whole (h.between.plain refl) in
    let spelled = subst (ArePlain (renumbered f h.old)) (sym (same_read false ts i j os h some_reading)) made in
    plain_back f w d os hd (edits_whole false ts i j os h) (subst (λ x. ArePlain x (map (renumbered_op f) os)) (stands_now ts h.old i some_reading h.first ∙ sym (stands_now ts d i some_reading at)) spelled)

pub edits_plain : (ts us : List (List ℕ)) (i j : Json) (d : Data) (os : List Operation) → Grows ts us → AreEdits false ts i j os → StandsFor us d i → IsDocument d → ArePlain d os
edits_plain ts us i j d os grows h at hd = plain_now us i j d os (edits_grown false ts us i j os grows h) at hd

-- ---- guarded, with other numbers too

guards_there : (f : Num → Num) (d : Data) (op : Operation) (G : List Operation) → Guards d op G → Guards (renumbered f d) (renumbered_op f op) (map (renumbered_op f) G)
guards_there f d (add P v) G g = ap (map (renumbered_op f)) g
guards_there f d (remove P) G (w, at, is) = (renumbered f w, stands_there f d P w at, ap (map (renumbered_op f)) is)
guards_there f d (replace P v) G (w, at, is) = (renumbered f w, stands_there f d P w at, ap (map (renumbered_op f)) is)
guards_there f d (move F P) G g = absurd g
guards_there f d (copy F P) G g = absurd g
guards_there f d (test P v) G g = absurd g

guarded_there : (f : Num → Num) → GivesWhole f → (d : Data) (ops gs : List Operation) → IsDocument d → AreWhole ops → IsGuarded d ops gs → IsGuarded (renumbered f d) (map (renumbered_op f) ops) (map (renumbered_op f) gs)
guarded_there f w d [] gs hd hv g = ap (map (renumbered_op f)) g
guarded_there f w d (op ∷ ops) gs hd hv (m, G, hs, guards, l, rest, is) = (
  renumbered f m,
  map (renumbered_op f) G,
  map (renumbered_op f) hs,
  guards_there f d op G guards,
  leaves_there f w d op m hd hv.0 l,
  guarded_there f w m ops hs (leaves_document d op m hd hv.0 l) hv.1 rest,
  ap (map (renumbered_op f)) is ∙ map-append (renumbered_op f) G (op ∷ hs),
)

guarded_on : (ts : List (List ℕ)) (i : Json) (d : Data) (os gs : List Operation) → StandsFor ts d i → IsDocument d → AreWhole os → AreWhole gs → ArePlain d os → IsGuarded d os gs → AreGuardedOn i (tree_ops ts os) (tree_ops ts gs)
guarded_on ts i d os gs at hd hv hg plain g r =
    let f = read_as r ts in
    let there = guarded_there f (reads_whole r ts) d os gs hd hv g in
    let all = subst (λ x. IsGuarded (renumbered f d) (map (renumbered_op f) os) x) (sym (read_ops r ts gs hg)) there in
    let changes = subst (λ x. IsGuarded (renumbered f d) x (all_under r (tree_ops ts gs))) (sym (read_ops r ts os hv)) all in
    (plain_there ts i d os at hd hv plain r, subst (λ x. IsGuarded x (all_under r (tree_ops ts os)) (all_under r (tree_ops ts gs))) (stands_now ts d i r at) changes)

-- ---- how deep

shallow_joined : (n : ℕ) (xs ys : List Operation) → AreShallow n xs → AreShallow n ys → AreShallow n (xs ++ ys)
shallow_joined n [] ys h g = g
shallow_joined n (x ∷ xs) ys h g = (h.0, shallow_joined n xs ys h.1 g)

guards_shallow : (n : ℕ) (d : Data) (op : Operation) (G : List Operation) → depth d ≤ n → Guards d op G → AreShallow n G
guards_shallow n d (add P v) G low g = subst (AreShallow n) (sym g) tt
guards_shallow n d (remove P) G low (w, at, is) = let deep = found_depth d w P (stands_found d P w at) in subst (AreShallow n) (sym is) (omega (arith, deep, low), tt)
guards_shallow n d (replace P v) G low (w, at, is) = let deep = found_depth d w P (stands_found d P w at) in subst (AreShallow n) (sym is) (omega (arith, deep, low), tt)
guards_shallow n d (move F P) G low g = absurd g
guards_shallow n d (copy F P) G low g = absurd g
guards_shallow n d (test P v) G low g = absurd g

fits_reach : (n : ℕ) (d : Data) (op : Operation) → FitsHere n op → reach_of d op ≤ n
fits_reach n d (add P v) h = h
fits_reach n d (remove P) h = omega arith
fits_reach n d (replace P v) h = h
fits_reach n d (move F P) h = absurd h
fits_reach n d (copy F P) h = absurd h
fits_reach n d (test P v) h = omega arith

guarded_shallow : (n : ℕ) (d : Data) (ops gs : List Operation) → IsDocument d → AreWhole ops → depth d ≤ n → AllFitHere n ops → AreShallow n ops → IsGuarded d ops gs → AreShallow n gs
guarded_shallow n d [] gs hd hv low fit h g = subst (AreShallow n) (sym g) tt
guarded_shallow n d (op ∷ ops) gs hd hv low fit h (m, G, hs, guards, l, rest, is) =
    let left = step_depth d op m n hd hv.0 l low (fits_reach n d op fit.0) in
    let later = guarded_shallow n m ops hs (leaves_document d op m hd hv.0 l) hv.1 left fit.1 h.1 rest in
    subst (AreShallow n) (sym is) (shallow_joined n G (op ∷ hs) (guards_shallow n d op G low guards) (h.0, later))

fit_joined : (n : ℕ) (xs ys : List Operation) → AllFitHere n xs → AllFitHere n ys → AllFitHere n (xs ++ ys)
fit_joined n [] ys h g = g
fit_joined n (x ∷ xs) ys h g = (h.0, fit_joined n xs ys h.1 g)

guards_fit : (n : ℕ) (d : Data) (op : Operation) (G : List Operation) → Guards d op G → AllFitHere n G
guards_fit n d (add P v) G g = subst (AllFitHere n) (sym g) tt
guards_fit n d (remove P) G (w, at, is) = subst (AllFitHere n) (sym is) (tt, tt)
guards_fit n d (replace P v) G (w, at, is) = subst (AllFitHere n) (sym is) (tt, tt)
guards_fit n d (move F P) G g = absurd g
guards_fit n d (copy F P) G g = absurd g
guards_fit n d (test P v) G g = absurd g

guarded_fit : (n : ℕ) (d : Data) (ops gs : List Operation) → AllFitHere n ops → IsGuarded d ops gs → AllFitHere n gs
guarded_fit n d [] gs fit g = subst (AllFitHere n) (sym g) tt
guarded_fit n d (op ∷ ops) gs fit (m, G, hs, guards, l, rest, is) = subst (AllFitHere n) (sym is) (fit_joined n G (op ∷ hs) (guards_fit n d op G guards) (fit.0, guarded_fit n m ops hs fit.1 rest))

-- ---- the patch between two trees

pub guarded_low : (ts us : List (List ℕ)) (i j : Json) (d : Data) (os gs : List Operation) (b : ℕ) → tree.depth i ≤ b → tree.depth j ≤ b → Grows ts us → AreEdits false ts i j os → StandsFor us d i → IsDocument d → IsGuarded d os gs → AreShallow b gs
guarded_low ts us i j d os gs b low_i low_j grows h at hd g =
    let deep = stands_depth us d i at in
    guarded_shallow b d os gs hd (edits_whole false ts i j os h) (omega (arith, deep, low_i)) (fit_more (tree.depth j) b os low_j (edits_fit ts i j os h)) (edits_shallow false ts i j b os low_j h) g

pub guarded_patch : (vs ts us : List (List ℕ)) (i j : Json) (d : Data) (os gs : List Operation) (text : List ℕ) → vs ≡ us → (SameTree i j → ⊥) → Grows ts us → AreEdits false ts i j os → StandsFor us d i → IsDocument d → AreWhole gs → IsGuarded d os gs
    → IsTextOf text (tree_ops vs gs) → IsGuardedTreePatch i j text
guarded_patch vs ts us i j d os gs text is apart grows edits at hd hg g said =
    let h = edits_grown false ts us i j os grows edits in
    let (says, low) = subst (λ x. IsTextOf text (tree_ops x gs)) is said in
    let same : tree.depth j ≤ tree.depth j = omega arith in
    record {
      changes = tree_ops us os;
      ops = tree_ops us gs;
      edits = tree_edits false us i j os apart h;
      guarded = guarded_on us i d os gs at hd (edits_whole false us i j os h) hg (plain_now us i j d os h at hd) g;
      shallow = all_fit_there us (tree.depth j) (tree.depth j) gs same (guarded_fit (tree.depth j) d os gs (edits_fit us i j os h) g);
      says = says;
      readable = low;
    }

pub nothing_guarded : (i j : Json) (text : List ℕ) → text ≡ codes "[]" → SameTree i j → IsGuardedTreePatch i j text
nothing_guarded i j text e same = record { changes = []; ops = []; edits = nothing_edits false i j same; guarded = λ r. (tt, refl); shallow = tt; says = nothing_said text e; readable = none_nests text e }

-- ---- of two texts

whole_under : (r : Reading) (ops : List TreeOperation) → AreWhole (all_under r ops)
whole_under r [] = tt
whole_under r (op ∷ ops) = (trees.whole r op, whole_under r ops)

none_under : (r : Reading) (ops : List TreeOperation) → all_under r ops ≡ [] → ops ≡ []
none_under r [] e = refl
none_under r (op ∷ ops) e = cc

leads_guarded : (i j : Json) (changes ops : List TreeOperation) → AcceptsTree i changes j → AreGuardedOn i changes ops → AcceptsTree i ops j
leads_guarded i j changes ops leads g r =
    let hd = IsDocument-data_of r i in
    let hv = whole_under r changes in
    let accepted = only_end (data_of r i) (all_under r changes) (data_of r j) (leads r) (runs.ends (data_of r i) (all_under r changes) hd hv) in
    let all = guarded_leads runs.accepts_document runs.ends (data_of r i) (all_under r changes) (all_under r ops) (data_of r j) hd hv (g r).1 accepted in
    all.accepts

pub guarded_accepts : (from to text : List ℕ) (i j : Json) → Says from i → Says to j → IsGuardedTreePatch i j text → AcceptsPatch from text to
guarded_accepts from to text i j a b h = (h.ops, h.says, (i, j, a, b, leads_guarded i j h.changes h.ops h.edits.leads h.guarded))

pub guarded_says : (from text : List ℕ) (i j : Json) → Says from i → IsGuardedTreePatch i j text → IsGuardedPatch from text
guarded_says from text i j a h = (i, h.changes, h.ops, a, h.says, h.guarded)

pub guarded_nothing_exactly : (from to text : List ℕ) (i j : Json) → Says from i → Says to j → IsGuardedTreePatch i j text → SaysOperations text [] ↔ SaySame from to
guarded_nothing_exactly from to text i j a b h =
    let r = some_reading in
    let none = guarded_nothing (data_of r i) (all_under r h.changes) (all_under r h.ops) (h.guarded r).1 in
    says_nothing from to text i j h.ops a b h.says ((λ e. h.edits.nothing.0 (none_under r h.changes (none.0 (ap (all_under r) e)))), (λ same. none_under r h.ops (none.1 (ap (all_under r) (h.edits.nothing.1 same)))))

pub guarded_few_between : (from to text : List ℕ) (i j : Json) → Says from i → Says to j → IsGuardedTreePatch i j text → IsFewGuarded from to text
guarded_few_between from to text i j a b h = (
  i,
  j,
  h.ops,
  a,
  b,
  h.says,
  λ r.
      let twice = guarded_few (data_of r i) (all_under r h.changes) (all_under r h.ops) (h.guarded r).1 in
      let all = length-map h.ops (under r) in let some = length-map h.changes (under r) in let few = h.edits.few r in omega (arith, twice, all, some, few),
)

pub guarded_never : (from to text : List ℕ) (i j : Json) → Says from i → Says to j → tree.depth i ≤ most_levels → tree.depth j ≤ most_levels → IsGuardedTreePatch i j text → IsNeverTooDeep (max (nesting from) (nesting to)) from text
guarded_never from to text i j a b low_i low_j h = patch_never from to text i j h.ops a b (omega (arith, low_i)) (omega (arith, low_j)) h.says h.shallow

-- ---- on another text

pub refused_elsewhere : (from patch : List ℕ) (i j : Json) → Says from i → IsGuardedTreePatch i j patch → IsRefusedElsewhere from patch
refused_elsewhere from patch i j a h = (i, h.changes, h.ops, a, h.says, h.guarded, λ text new. (accepted text new, accepting text new))
  where
    accepted : (text new : List ℕ) → AcceptsPatch text patch new → AcceptsTextBeside i text h.changes new
    accepted text new (others, also, (x, e, c, d, run)) = (
      x,
      e,
      c,
      d,
      λ r. beside (data_of r i) (data_of r x) (all_under r h.changes) (all_under r h.ops) (data_of r e) (h.guarded r).1 (subst (λ os. Accepts (data_of r x) (all_under r os) (data_of r e)) (one_patch patch h.ops others h.says also) (run r)),
    )

    accepting : (text new : List ℕ) → AcceptsTextBeside i text h.changes new → AcceptsPatch text patch new
    accepting text new (x, e, c, d, both) = (
      h.ops,
      h.says,
      (
        x,
        e,
        c,
        d,
        λ r. accepts_beside (λ y P v. (stands_found y P v, found_resolves y P v)) (λ y op hy hv z. (leaves_stepped y op z hy hv, stepped_leaves y op z hy hv)) runs.accepts_document (data_of r i) (data_of r x) (all_under r h.changes) (all_under r h.ops) (data_of r e)
            (IsDocument-data_of r i) (whole_under r h.changes) (h.guarded r).1 (both r),
      ),
    )
