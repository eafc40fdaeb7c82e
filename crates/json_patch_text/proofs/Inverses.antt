-- What undoes operations on a tree leads back, under each reading.
use Rattle.std.proofs.Common.{◌≡◌, ◌≤◌, ◌*◌, ℕ, suc, List, [], ◌∷◌, ◌++◌, length, bytes_eq, Option, Some, None, Ok, option_map, if◌then◌else◌, refl, sym, ap, ap₂, ◌∙◌, subst, append_assoc, append-nil, arith}
use Rattle.json.specs.Json.{Json, null, boolean, number, string, array, object}
use Rattle.jsonptr.specs.Places.{decimal_token, next_token}
use Rattle.jsonptr.specs.Text.{Pointer}
use Rattle.serde_json.specs.Data.{Data}
use Rattle.json_patch_document.specs.ChangeComputed.{after_remove, front_of, last_of}
use Rattle.json_patch_document.specs.Document.{IsDocument}
use Rattle.json_patch_edit.specs.InverseComputed as computed
use Rattle.json_patch_edit.specs.InverseComputed.{block, inverse, with_found, undo_add}
use Rattle.json_patch_edit.specs.Step.{Leaves}
use Rattle.json_patch_edit.proofs.StepOutcomes.{leaves_document}
use Rattle.json_patch_laws.specs.Inverse.{ArePlain, IsInverse}
use Rattle.json_patch_laws.specs.Run.{Accepts}
use Rattle.json_patch_laws.proofs.Blocks.{inverse_back, inverse_only, inverse_exactly, inverse_leads_back, inverse_step}
use Rattle.json_patch_laws.proofs.Plain.{inverse_plain}
use Rattle.json_patch_operation.specs.Operation as op
use Rattle.json_patch_operation.specs.Operation.{Operation, IsWholeOp, AreWhole}
use Rattle.json_reading.specs.Reading.{Reading}
use Rattle.json_reading.specs.Trees.{data_of}
use Rattle.json_reading.proofs.Documents.{IsDocument-data_of}
use Rattle.json_reading.proofs.Told.{some_reading}
use Rattle.json_patch_text.specs.Inverses.{undo_there, undo_below, undo_added, Undoes, IsTreeInverse}
use Rattle.json_patch_text.proofs.Changes.{pointee_is, removed_is}
use Rattle.json_patch_text.proofs.Steps.{count_is}
use Rattle.json_patch_text.proofs.Runs.{leaves, whole}
use Rattle.json_patch_text.specs.Step.{ComesTo}
use Rattle.json_text.specs.Pointed.{tree_at}
use Rattle.json_patch_text.specs.Operations.{TreeOperation, add, remove, replace, move, copy, test, under, all_under}
use Rattle.json_patch_text.specs.Run.{AcceptsTree}

-- ---- what undoes an operation, on the document

there : (r : Reading) (P : Pointer) (o : Option Json) (u : Option Data) → u ≡ option_map (data_of r) o → computed.undo_at P u ≡ under r (undo_there P o)
there r P None u e = ap (computed.undo_at P) e
there r P (Some w) u e = ap (computed.undo_at P) e

below : (r : Reading) (i : Json) (front : Pointer) (last : List ℕ) (P : Pointer) (o : Option Json) (u : Option Data) → u ≡ option_map (data_of r) o
    → computed.undo_in (data_of r i) front last P u ≡ under r (undo_below i front last P o)
below r i front last P None u e = ap (computed.undo_in (data_of r i) front last P) e ∙ there r P (tree_at P i) _ (pointee_is r P i)
below r i front last P (Some null) u e = ap (computed.undo_in (data_of r i) front last P) e ∙ there r P (tree_at P i) _ (pointee_is r P i)
below r i front last P (Some (boolean b)) u e = ap (computed.undo_in (data_of r i) front last P) e ∙ there r P (tree_at P i) _ (pointee_is r P i)
below r i front last P (Some (number s)) u e = ap (computed.undo_in (data_of r i) front last P) e ∙ there r P (tree_at P i) _ (pointee_is r P i)
below r i front last P (Some (string s)) u e = ap (computed.undo_in (data_of r i) front last P) e ∙ there r P (tree_at P i) _ (pointee_is r P i)
below r i front last P (Some (object ms)) u e = ap (computed.undo_in (data_of r i) front last P) e ∙ there r P (tree_at P i) _ (pointee_is r P i)
below r i front last P (Some (array js)) u e =
    ap (computed.undo_in (data_of r i) front last P) e
    ∙ ap (λ n. op.remove (front ++ (if bytes_eq last next_token then decimal_token n else last) ∷ [])) (count_is r js)

pub undo_is : (r : Reading) (i : Json) (P : Pointer) → undo_add (data_of r i) P ≡ under r (undo_added i P)
undo_is r i [] = refl
undo_is r i (t ∷ P) = below r i (front_of t P) (last_of t P) (t ∷ P) (tree_at (front_of t P) i) _ (pointee_is r (front_of t P) i)

pub block_under : (r : Reading) (i : Json) (o : TreeOperation) (B : List TreeOperation) → Undoes i o B → block (data_of r i) (under r o) ≡ all_under r B
block_under r i (add P v) B e = ap (λ u. u ∷ []) (undo_is r i P) ∙ ap (all_under r) (sym e)
block_under r i (remove P) B (w, at, e) = ap (λ o. with_found o (λ d. op.add P d ∷ [])) (pointee_is r P i ∙ ap (option_map (data_of r)) at) ∙ ap (all_under r) (sym e)
block_under r i (replace P v) B (w, at, e) = ap (λ o. with_found o (λ d. op.replace P d ∷ [])) (pointee_is r P i ∙ ap (option_map (data_of r)) at) ∙ ap (all_under r) (sym e)
block_under r i (move F P) B (v, m, at, left, e) =
    ap (λ o. with_found o (λ d. with_found (after_remove (data_of r i) F) (λ x. undo_add x P ∷ op.add F d ∷ []))) (pointee_is r F i ∙ ap (option_map (data_of r)) at)
    ∙ ap (λ o. with_found o (λ x. undo_add x P ∷ op.add F (data_of r v) ∷ [])) (removed_is r F i ∙ ap (option_map (data_of r)) left)
    ∙ ap (λ u. u ∷ op.add F (data_of r v) ∷ []) (undo_is r m P)
    ∙ ap (all_under r) (sym e)
block_under r i (copy F P) B e = ap (λ u. u ∷ []) (undo_is r i P) ∙ ap (all_under r) (sym e)
block_under r i (test P v) B e = ap (all_under r) (sym e)

-- ---- a list of operations

all_whole : (r : Reading) (ops : List TreeOperation) → AreWhole (all_under r ops)
all_whole r [] = tt
all_whole r (o ∷ ops) = (whole r o, all_whole r ops)

-- the block of a last operation goes in front
inverse_last : (d m n : Data) (ops : List Operation) (o : Operation) → IsDocument d → AreWhole ops → IsWholeOp o → Accepts d ops m → Leaves m o n → inverse d (ops ++ o ∷ []) ≡ block m o ++ inverse d ops
inverse_last d m n [] o hd hv ho a l =
    let here : Leaves d o n = subst (λ x. Leaves x o n) (sym a) l in
    inverse_step d o [] n hd ho here ∙ ap (λ x. block x o) a ∙ sym (append-nil (block m o))
inverse_last d m n (x ∷ xs) o hd hv ho (s, first, rest) l =
    inverse_step d x (xs ++ o ∷ []) s hd hv.0 first
    ∙ ap (λ J. J ++ block d x) (inverse_last s m n xs o (leaves_document d x s hd hv.0 first) hv.1 ho rest l)
    ∙ append_assoc (block m o) (inverse s xs) (block d x)
    ∙ ap (λ J. block m o ++ J) (sym (inverse_step d x xs s hd hv.0 first))

joined_under : (r : Reading) (xs ys : List TreeOperation) → all_under r (xs ++ ys) ≡ all_under r xs ++ all_under r ys
joined_under r [] ys = refl
joined_under r (x ∷ xs) ys = ap (λ os. under r x ∷ os) (joined_under r xs ys)

accepts_last : (d m n : Data) (ops : List Operation) (o : Operation) → Accepts d ops m → Leaves m o n → Accepts d (ops ++ o ∷ []) n
accepts_last d m n [] o a l = (n, subst (λ x. Leaves x o n) (sym a) l, refl)
accepts_last d m n (x ∷ xs) o (s, first, rest) l = (s, first, accepts_last s m n xs o rest l)

pub inverse_first : (i : Json) → IsTreeInverse i [] []
inverse_first i r = refl

pub inverse_later : (i m n : Json) (ops I B : List TreeOperation) (o : TreeOperation) → AcceptsTree i ops m → ((r : Reading) → Leaves (data_of r m) (under r o) (data_of r n)) → IsTreeInverse i ops I → Undoes m o B
    → AcceptsTree i (ops ++ o ∷ []) n × IsTreeInverse i (ops ++ o ∷ []) (B ++ I)
inverse_later i m n ops I B o a l inv undoes = (
  λ r. subst (λ os. Accepts (data_of r i) os (data_of r n)) (sym (joined_under r ops (o ∷ []))) (accepts_last (data_of r i) (data_of r m) (data_of r n) (all_under r ops) (under r o) (a r) (l r)),
  λ r.
      let d = data_of r i in
      let os = all_under r ops in
      let all : Accepts d (os ++ under r o ∷ []) (data_of r n) = accepts_last d (data_of r m) (data_of r n) os (under r o) (a r) (l r) in
      let hv : AreWhole (os ++ under r o ∷ []) = subst AreWhole (joined_under r ops (o ∷ [])) (all_whole r (ops ++ o ∷ [])) in
      let is : inverse d (os ++ under r o ∷ []) ≡ all_under r (B ++ I) =
      inverse_last d (data_of r m) (data_of r n) os (under r o) (IsDocument-data_of r i) (all_whole r ops) (whole r o) (a r) (l r)
      ∙ ap₂ (λ x y. x ++ y) (block_under r m o B undoes) (sym (inverse_only d os (all_under r I) (IsDocument-data_of r i) (all_whole r ops) (inv r)))
      ∙ sym (joined_under r B I) in
      subst (λ xs. IsInverse d xs (all_under r (B ++ I))) (sym (joined_under r ops (o ∷ []))) ((inverse_exactly d (os ++ under r o ∷ []) (IsDocument-data_of r i) hv (data_of r n) all (all_under r (B ++ I))).1 is),
)

-- the block of a first operation comes behind
pub inverse_sooner : (i m j : Json) (o : TreeOperation) (ops I B : List TreeOperation) → ComesTo i o (Ok m) → AcceptsTree m ops j → IsTreeInverse m ops I → Undoes i o B → IsTreeInverse i (o ∷ ops) (I ++ B)
inverse_sooner i m j o ops I B comes a inv undoes r =
    let d = data_of r i in
    let os = all_under r ops in
    let first : Leaves d (under r o) (data_of r m) = leaves r i o m comes in
    let is : inverse d (under r o ∷ os) ≡ all_under r (I ++ B) =
    inverse_step d (under r o) os (data_of r m) (IsDocument-data_of r i) (whole r o) first
    ∙ ap₂ (λ x y. x ++ y) (sym (inverse_only (data_of r m) os (all_under r I) (IsDocument-data_of r m) (all_whole r ops) (inv r))) (block_under r i o B undoes)
    ∙ sym (joined_under r I B) in
    (inverse_exactly d (under r o ∷ os) (IsDocument-data_of r i) (whole r o, all_whole r ops) (data_of r j) (data_of r m, first, a r) (all_under r (I ++ B))).1 is

pub leads_back : (i j : Json) (ops I : List TreeOperation) → AcceptsTree i ops j → IsTreeInverse i ops I → AcceptsTree j I i
leads_back i j ops I a inv r =
    subst (λ os. Accepts (data_of r j) os (data_of r i)) (sym (inverse_only (data_of r i) (all_under r ops) (all_under r I) (IsDocument-data_of r i) (all_whole r ops) (inv r)))
    (inverse_back (data_of r i) (all_under r ops) (data_of r j) (IsDocument-data_of r i) (all_whole r ops) (a r))

pub back_is_plain : (i j : Json) (ops I : List TreeOperation) → AcceptsTree i ops j → IsTreeInverse i ops I → (r : Reading) → ArePlain (data_of r j) (all_under r I)
back_is_plain i j ops I a inv r =
    subst (ArePlain (data_of r j)) (sym (inverse_only (data_of r i) (all_under r ops) (all_under r I) (IsDocument-data_of r i) (all_whole r ops) (inv r)))
    (inverse_plain (data_of r i) (all_under r ops) (data_of r j) (IsDocument-data_of r i) (all_whole r ops) (a r))

count_under : (r : Reading) (ops : List TreeOperation) → length (all_under r ops) ≡ length ops
count_under r [] = refl
count_under r (o ∷ ops) = ap suc (count_under r ops)

pub back_is_short : (i j : Json) (ops I : List TreeOperation) → AcceptsTree i ops j → IsTreeInverse i ops I → length I ≤ 2 * length ops
back_is_short i j ops I a inv =
    let r = some_reading in
    let (whole_back, short, back) = inverse_leads_back (data_of r i) (all_under r ops) (IsDocument-data_of r i) (all_whole r ops) (data_of r j) (all_under r I) (a r) (inv r) in
    let m = count_under r I in
    let n = count_under r ops in
    omega (arith, short, m, n)
