-- What takes operations back is their inverse on what the text says, and leads back.
use Rattle.std.proofs.Common.{◌≡◌, ◌≤◌, ◌+◌, ℕ, List, [], ◌∷◌, ◌++◌, length, Bool, true, false, Option, Some, None, Result, Ok, Err, String, Global, string_bytes, if◌then◌else◌, refl, sym, ap, ◌∙◌, subst, arith}
use Rattle.std.proofs.lemmas.List.{reverse-append}
use Rattle.std.proofs.lemmas.Option.{same_Some}
use Rattle.std.specs.Prelude.{reverse}
use Rattle.json.specs.Json.{Json, max_depth}
use Rattle.json.specs.Tree.{depth}
use Rattle.jsonptr.specs.Text.{Pointer, IsProperPrefix}
use Rattle.json_lexemes.specs.Skipped.{nesting}
use Rattle.json_lexemes.specs.Spelled.{IsShallowText, Says}
use Rattle.json_lexemes.proofs.Nests.{one_tree}
use Rattle.json_patch_edit.proofs.StepOutcomes.{prefix_begins}
use Rattle.json_patch_edit.specs.RunComputed.{begins}
use Rattle.json_patch_operation.specs.declared.error.PatchErrorKind.{PatchErrorKind}
use Rattle.json_patch_operation.specs.declared.error.PatchErrorKind.TheVariants.{CannotMoveInsideItself}
use Rattle.json_patch_text.specs.Changed.{removed}
use Rattle.json_patch_text.specs.Inverses.{undo_added, Undoes, IsTreeInverse}
use Rattle.json_patch_text.specs.Made.{IsLeft, IsMadeIn, Stands}
use Rattle.json_patch_text.specs.Operations.{TreeOperation, add, remove, replace, move, copy, test}
use Rattle.json_patch_text.specs.Run.{AcceptsTree}
use Rattle.json_patch_text.specs.Step.{ComesTo, Tests, after_move}
use Rattle.json_patch_text.specs.TextOperations.{AreWrittenAs, IsWrittenAs}
use Rattle.json_patch_text.specs.Undos.{AreTakenFrom, IsTakenFrom, IsUndo, PutsBack, TakesBack}
use Rattle.json_patch_text.specs.declared.operation.TextOperation.{TextOperation}
use Rattle.json_patch_text.specs.declared.operation.TextOperation.TheVariants.{Add, Remove, Replace, Move, Copy, Test}
use Rattle.json_patch_text.specs.declared.undo.Undo.{Undo}
use Rattle.json_patch_text.specs.declared.undo.Undo.TheVariants as undo
use Rattle.json_patch_text.proofs.Agree.{removed_tree}
use Rattle.json_patch_text.proofs.Inverses.{inverse_first, inverse_sooner}
use Rattle.json_patch_text.proofs.Made.{add_comes, copy_comes, move_comes, remove_comes, replace_comes}
use Rattle.json_patch_text.proofs.Runs.{accepts_rest, first_accepted}
use Rattle.json_patch_text.proofs.UndoTexts.{AreLow, AreSaid, IsLow, IsSaid, low_append, said_append}
use Rattle.json_text.proofs.Depths.{part_inside}
use Rattle.json_text.specs.Listing.{IsTextOf}
use Rattle.json_text.specs.Pointed.{IsWrittenAt, tree_at}

-- ---- one operation of an undo

-- what stands in the text, by its tree
stands : (text s : List ℕ) (P : Pointer) (i : Json) (n : ℕ) → Says text i → Stands text P s → depth i ≤ n → (w : Json) × (tree_at P i ≡ Some w) × IsTextOf s w × (depth w ≤ n)
stands text s P i n said (j, also, (before, behind, whole, (v, at, stretch))) low =
    let here : tree_at P i ≡ Some v = ap (tree_at P) (one_tree text i j said also) ∙ at in
    let inside : length P + depth v ≤ depth i = part_inside P i v here in
    (v, here, (stretch.says, stretch.tight), omega (arith, inside, low))

written_says : (text s : List ℕ) (i w : Json) (P : Pointer) → tree_at P i ≡ Some w → IsWrittenAt text i P s → IsTextOf s w
written_says text s i w P here (before, behind, whole, (v, at, stretch)) = subst (IsTextOf s) (same_Some v w (sym at ∙ here)) (stretch.says, stretch.tight)

said_undo : (text : List ℕ) (i : Json) (n : ℕ) (u : Undo) (op : TreeOperation) → IsUndo text i u op → depth i ≤ n → IsSaid u op × IsLow n op
said_undo text i n (undo.Add P s) (add Q w) (e, here, written) low = ((e, written_says text (string_bytes s) i w P here written), (let inside : length P + depth w ≤ depth i = part_inside P i w here in omega (arith, inside, low)))
said_undo text i n (undo.Remove P) (remove Q) e low = (e, tt)
said_undo text i n (undo.Replace P s) (replace Q w) (e, here, written) low = ((e, written_says text (string_bytes s) i w P here written), (let inside : length P + depth w ≤ depth i = part_inside P i w here in omega (arith, inside, low)))
said_undo text i n u op h low = absurd h

takes_back : (text : List ℕ) (P : Pointer) (i : Json) (n : ℕ) (u : Undo) → Says text i → TakesBack text P u → depth i ≤ n → IsSaid u (undo_added i P) × IsLow n (undo_added i P)
takes_back text P i n u said (j, also, is) low = let same = one_tree text j i also said in said_undo text i n u (undo_added i P) (subst (λ x. IsUndo text x u (undo_added x P)) same is) low

-- a value put back, and the operation
abbrev put_back : Bool → Pointer → Json → TreeOperation
put_back exchanged P w = if exchanged then replace P w else add P w

said_back : (exchanged : Bool) (P : Pointer) (s : String Global) (w : Json) → IsTextOf (string_bytes s) w → IsSaid (if exchanged then undo.Replace P s else undo.Add P s) (put_back exchanged P w)
said_back true P s w h = (refl, h)
said_back false P s w h = (refl, h)

low_back : (exchanged : Bool) (P : Pointer) (w : Json) (n : ℕ) → depth w ≤ n → IsLow n (put_back exchanged P w)
low_back true P w n h = h
low_back false P w n h = h

record IsPutBack (exchanged : Bool) (P : Pointer) (i : Json) (n : ℕ) (us : List Undo) : Type 0 where
  pub value : Json
  pub here : tree_at P i ≡ Some value
  pub text : String Global
  pub is : us ≡ (if exchanged then undo.Replace P text else undo.Add P text) ∷ []
  pub said : IsSaid (if exchanged then undo.Replace P text else undo.Add P text) (put_back exchanged P value)
  pub low : IsLow n (put_back exchanged P value)

puts_back : (exchanged : Bool) (text : List ℕ) (P : Pointer) (i : Json) (n : ℕ) (us : List Undo) → Says text i → PutsBack exchanged text P us → depth i ≤ n → IsPutBack exchanged P i n us
puts_back exchanged text P i n us said (s, is, stood) low =
    let (w, here, of, below) = stands text (string_bytes s) P i n said stood low in
    record { value = w; here = here; text = s; is = is; said = said_back exchanged P s w of; low = low_back exchanged P w n below }

-- ---- what takes one operation back

abbrev IsUndone : Json → ℕ → List Undo → TreeOperation → Type 0
IsUndone i n us op = (B : List TreeOperation) × Undoes i op B × AreSaid (reverse us) B × AreLow n B

one_said : (us : List Undo) (u : Undo) (op : TreeOperation) → us ≡ u ∷ [] → IsSaid u op → AreSaid (reverse us) (op ∷ [])
one_said us u op e h = subst (λ vs. AreSaid (reverse vs) (op ∷ [])) (sym e) (h, tt)

undone_added : (text : List ℕ) (P Q : Pointer) (i : Json) (n : ℕ) (us : List Undo) → P ≡ Q → Says text i → (u : Undo) × (us ≡ u ∷ []) × TakesBack text P u → depth i ≤ n
    → AreSaid (reverse us) (undo_added i Q ∷ []) × AreLow n (undo_added i Q ∷ [])
undone_added text P Q i n us same said (u, is, back) low =
    let (h, l) = takes_back text Q i n u said (subst (λ X. TakesBack text X u) same back) low in
    (one_said us u (undo_added i Q) is h, (l, tt))

undone_put : (exchanged : Bool) (text : List ℕ) (P Q : Pointer) (i : Json) (n : ℕ) (us : List Undo) → P ≡ Q → Says text i → PutsBack exchanged text P us → depth i ≤ n
    → (w : Json) × (tree_at Q i ≡ Some w) × AreSaid (reverse us) (put_back exchanged Q w ∷ []) × AreLow n (put_back exchanged Q w ∷ [])
undone_put exchanged text P Q i n us same said back low =
    let put = puts_back exchanged text Q i n us said (subst (λ X. PutsBack exchanged text X us) same back) low in
    (put.value, put.here, one_said us (if exchanged then undo.Replace Q put.text else undo.Add Q put.text) (put_back exchanged Q put.value) put.is put.said, (put.low, tt))

undone_move : (text : List ℕ) (F P G Q : Pointer) (i : Json) (n : ℕ) (us : List Undo) → F ≡ G → P ≡ Q → Says text i → IsTakenFrom text (Move F P) us → depth i ≤ n → IsUndone i n us (move G Q)
undone_move text F P G Q i n us f p said (vs, u, less, is, back, gone, taken) low =
    let put = puts_back false text G i n vs said (subst (λ X. PutsBack false text X vs) f back) low in
    let (m, left, after, lower) = removed_tree text F less i said gone in
    let (h, l) = takes_back less Q m n u after (subst (λ X. TakesBack less X u) p taken) (omega (arith, lower, low)) in
    let here : us ≡ undo.Add G put.text ∷ u ∷ [] = is ∙ ap (λ xs. xs ++ u ∷ []) put.is in (
      undo_added m Q ∷ add G put.value ∷ [],
      (put.value, m, put.here, ap (λ X. removed X i) (sym f) ∙ left, refl),
      subst (λ xs. AreSaid (reverse xs) (undo_added m Q ∷ add G put.value ∷ [])) (sym here) (h, (put.said, tt)),
      (l, (put.low, tt)),
    )

undone : (text : List ℕ) (o : TextOperation) (op : TreeOperation) (i : Json) (n : ℕ) (us : List Undo) → Says text i → IsWrittenAs o op → IsTakenFrom text o us → depth i ≤ n → IsUndone i n us op
undone text (Add P s) (add Q w) i n us said h t low = let (a, b) = undone_added text P Q i n us h.0 said t low in (undo_added i Q ∷ [], refl, a, b)
undone text (Remove P) (remove Q) i n us said h t low = let (w, here, a, b) = undone_put false text P Q i n us h said t low in (add Q w ∷ [], (w, here, refl), a, b)
undone text (Replace P s) (replace Q v) i n us said h t low = let (w, here, a, b) = undone_put true text P Q i n us h.0 said t low in (replace Q w ∷ [], (w, here, refl), a, b)
undone text (Move F P) (move G Q) i n us said h t low = undone_move text F P G Q i n us h.0 h.1 said t low
undone text (Copy F P) (copy G Q) i n us said h t low = let (a, b) = undone_added text P Q i n us h.1 said t low in (undo_added i Q ∷ [], refl, a, b)
undone text (Test P s) (test Q w) i n us said h t low = ([], refl, subst (λ xs. AreSaid (reverse xs) []) (sym t) tt, tt)
undone text o op i n us said h t low = absurd h

-- ---- what the text says after an operation

one_test : (i w m k : Json) (o : Option Json) → Tests i w o (Ok m) → Tests i w o (Ok k) → m ≡ k
one_test i w m k None g h = cc
one_test i w m k (Some v) g h = g.1 ∙ sym h.1

same_Ok : (m k : Json) (o : Result Json PatchErrorKind) → Ok m ≡ o → Ok k ≡ o → m ≡ k
same_Ok m k o g h = cc

comes_once : (i : Json) (op : TreeOperation) (m k : Json) → ComesTo i op (Ok m) → ComesTo i op (Ok k) → m ≡ k
comes_once i (add P w) m k g h = same_Ok m k _ g h
comes_once i (remove P) m k g h = same_Ok m k _ g h
comes_once i (replace P w) m k g h = same_Ok m k _ g h
comes_once i (move F P) m k g h = same_Ok m k _ g h
comes_once i (copy F P) m k g h = same_Ok m k _ g h
comes_once i (test P w) m k g h = one_test i w m k (tree_at P i) g h

by_left : (new : List ℕ) (i m : Json) (op : TreeOperation) → IsLeft new i op → ComesTo i op (Ok m) → Says new m
by_left new i m op (j, said, comes) h = subst (Says new) (comes_once i op j m comes h) said

not_within : (b : Bool) (m : Json) (o : Result Json PatchErrorKind) → Ok m ≡ (if b then Err CannotMoveInsideItself else o) → b ≡ true → ⊥
not_within true m o e f = cc
not_within false m o e f = cc

out_of_itself : (i m : Json) (F P : Pointer) → ComesTo i (move F P) (Ok m) → IsProperPrefix F P → ⊥
out_of_itself i m F P h inside = not_within (begins F P) m (after_move P (tree_at F i) (removed F i)) h (prefix_begins F P inside)

next_says : (text next : List ℕ) (o : TextOperation) (op : TreeOperation) (i m : Json) → Says text i → IsWrittenAs o op → IsMadeIn text o next → ComesTo i op (Ok m) → Says next m
next_says text next (Add P s) (add Q w) i m said h made comes = by_left next i m (add Q w) (subst (λ X. IsLeft next i (add X w)) h.0 (add_comes text s.now next P i w said h.1.0.0 made)) comes
next_says text next (Remove P) (remove Q) i m said h made comes = by_left next i m (remove Q) (subst (λ X. IsLeft next i (remove X)) h (remove_comes text next P i said made)) comes
next_says text next (Replace P s) (replace Q w) i m said h made comes = by_left next i m (replace Q w) (subst (λ X. IsLeft next i (replace X w)) h.0 (replace_comes text s.now next P i w said h.1.0.0 made)) comes
next_says text next (Move F P) (move G Q) i m said h (j, s, less, also, written, gone, put) comes =
    let here : ComesTo i (move F P) (Ok m) = subst (λ X. ComesTo i (move F X) (Ok m)) (sym h.1) (subst (λ X. ComesTo i (move X Q) (Ok m)) (sym h.0) comes) in
    let same = one_tree text gone.tree j gone.says.0 also in
    by_left next i m (move F P) (move_comes text s less next F P i (out_of_itself i m F P here) (j, subst (IsShallowText text) same gone.says, written) said gone put) here
next_says text next (Copy F P) (copy G Q) i m said h (j, s, also, written, put) comes =
    let here : ComesTo i (copy F P) (Ok m) = subst (λ X. ComesTo i (copy F X) (Ok m)) (sym h.1) (subst (λ X. ComesTo i (copy X Q) (Ok m)) (sym h.0) comes) in
    let same = one_tree text put.tree j put.says.0 also in
    by_left next i m (copy F P) (copy_comes text s next F P i (j, subst (IsShallowText text) same put.says, written) said put) here
next_says text next (Test P s) (test Q w) i m said h made comes = subst (λ x. Says x m) (sym made) (subst (Says text) (test_keeps i w m (tree_at Q i) comes) said)
  where
    test_keeps : (i w m : Json) (o : Option Json) → Tests i w o (Ok m) → i ≡ m
    test_keeps i w m None g = cc
    test_keeps i w m (Some v) g = sym g.1
next_says text next o op i m said h made comes = absurd h

-- ---- a list of operations

-- whatever the text says nests no deeper
abbrev pub IsLowText : ℕ → List ℕ → Type 0
IsLowText n text = (i : Json) → Says text i → depth i ≤ n

-- the operations are the inverse, and us says them
pub record IsBack (i : Json) (ops : List TreeOperation) (n : ℕ) (us : List Undo) : Type 0 where
  pub back : List TreeOperation
  pub inverse : IsTreeInverse i ops back
  pub said : AreSaid (reverse us) back
  pub low : AreLow n back

pub back_found : (Fits : List ℕ → Type 0) (n : ℕ) (os : List TextOperation) (ops : List TreeOperation) (text new : List ℕ) (us : List Undo) (i j : Json) (m : ℕ) → ((t : List ℕ) → Fits t → nesting t ≤ max_depth → IsLowText n t) → AreTakenFrom Fits text os new us m → AreWrittenAs os ops → Says text i → AcceptsTree i ops j
    → IsBack i ops n us
back_found Fits n [] [] text new us i j m low (fits, e, none, zero_bytes) w said a = record {
  back = [];
  inverse = inverse_first i;
  said = subst (λ vs. AreSaid (reverse vs) []) (sym none) tt;
  low = tt;
}
back_found Fits n (o ∷ os) (op ∷ ops) text new us i j all low (fits, shallow, (next, vs, ws, here, fewer, made, taken, copied, rest, e, sum)) w said a =
    let (m, comes) = first_accepted i j op ops a in
    let further = accepts_rest i m j op ops comes a in
    let more : IsBack m ops n ws = back_found Fits n os ops next new ws m j fewer low rest w.1 (next_says text next o op i m said w.0 made comes) further in
    let (B, undoes, b_said, b_low) = undone text o op i n vs said w.0 taken (low text fits shallow i said) in
    record {
      back = more.back ++ B;
      inverse = inverse_sooner i m j op ops more.back B comes further more.inverse undoes;
      said = subst (λ l. AreSaid l (more.back ++ B)) (sym (ap reverse e ∙ reverse-append vs ws)) (said_append (reverse ws) (reverse vs) more.back B more.said b_said);
      low = low_append n more.back B more.low b_low;
    }
back_found Fits n [] (op ∷ ops) text new us i j m low t w said a = absurd w
back_found Fits n (o ∷ os) [] text new us i j m low t w said a = absurd w
