-- The values of a patch's text, each as it is written in the text.
use Rattle.std.proofs.Common.{◌≡◌, ℕ, zero, suc, List, [], ◌∷◌, ◌++◌, length, Option, Some, None, option_and_then, sym, ap, ◌∙◌, subst}
use Rattle.std.proofs.lemmas.Option.{none-some, same_Some}
use Rattle.std.specs.Prelude.{slice_get}
use Rattle.json.specs.Json.{Json}
use Rattle.jsonptr.specs.Text.{Pointer}
use Rattle.json_lexemes.proofs.Nests.{one_tree}
use Rattle.json_lexemes.specs.Spelled.{Says}
use Rattle.json_patch_text.specs.TextOperations.{HasValueAt}
use Rattle.json_patch_text.specs.declared.operation.TextOperation.{TextOperation}
use Rattle.json_patch_text.specs.declared.operation.TextOperation.TheVariants.{Add, Remove, Replace, Move, Copy, Test}
use Rattle.json_pieces.proofs.Lifts.{regroup}
use Rattle.json_text.proofs.Along.{put_step}
use Rattle.json_text.specs.Pointed.{child, put_at, tree_at, IsWrittenAt}

child_at : (o : Option Json) (v : Json) → option_and_then (tree_at []) o ≡ Some v → o ≡ Some v
child_at None v e = absurd (none-some v e)
child_at (Some c) v e = e

-- what is written in a child's text is written in the whole
written_below : (text own s : List ℕ) (p j : Json) (t : List ℕ) (Q : Pointer) → IsWrittenAt text p (t ∷ []) own → Says own j → IsWrittenAt own j Q s → IsWrittenAt text p (t ∷ Q) s
written_below text own s p j t Q (before, behind, whole, (v, at, outer)) says (front, back, part, (w, below, inner)) =
    let is : child t p ≡ Some j = child_at (child t p) v at ∙ ap Some (one_tree own v j outer.says says) in (
      before ++ front,
      back ++ behind,
      whole ∙ ap (λ l. before ++ (l ++ behind)) part ∙ regroup before front s back behind,
      (
        w,
        ap (option_and_then (tree_at Q)) is ∙ below,
        record {
          says = inner.says;
          tight = inner.tight;
          alone = λ new x h.
              subst (λ l. Says l (put_at (t ∷ Q) x p)) (regroup before front new back behind)
              (subst (Says (before ++ ((front ++ (new ++ back)) ++ behind))) (put_step t [] (put_at Q x j) p j is ∙ sym (put_step t Q x p j is))
              (outer.alone (front ++ (new ++ back)) (put_at Q x j) (inner.alone new x h)));
        },
      ),
    )

pub value_below : (text own : List ℕ) (p j : Json) (t : List ℕ) (Q : Pointer) (o : TextOperation) → IsWrittenAt text p (t ∷ []) own → Says own j → HasValueAt own j Q o → HasValueAt text p (t ∷ Q) o
value_below text own p j t Q (Add P s) at says h = written_below text own s.now p j t Q at says h
value_below text own p j t Q (Remove P) at says h = tt
value_below text own p j t Q (Replace P s) at says h = written_below text own s.now p j t Q at says h
value_below text own p j t Q (Move F P) at says h = tt
value_below text own p j t Q (Copy F P) at says h = tt
value_below text own p j t Q (Test P s) at says h = written_below text own s.now p j t Q at says h

-- what holds of each operation of a list by its number, and of one more behind them
pub one_more : (Holds : ℕ → TextOperation → Type 0) (os : List TextOperation) (o : TextOperation) → ((k : ℕ) (x : TextOperation) → slice_get os k ≡ Some x → Holds k x) → Holds (length os) o → (k : ℕ) (x : TextOperation) → slice_get (os ++ o ∷ []) k ≡ Some x → Holds k x
one_more Holds [] o h g zero x e = subst (Holds zero) (same_Some o x e) g
one_more Holds [] o h g (suc k) x e = absurd (none-some x e)
one_more Holds (y ∷ os) o h g zero x e = h zero x e
one_more Holds (y ∷ os) o h g (suc k) x e = one_more (λ n. Holds (suc n)) os o (λ n z f. h (suc n) z f) g k x e
