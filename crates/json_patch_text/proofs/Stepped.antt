-- What a step leaves, from what the call for its operation does.
use Rattle.std.proofs.Common.{◌≡◌, ℕ, List, [], ◌∷◌, true, false, Option, Result, Ok, Err, IfOk, IfErr, Bor, ◌∙◌, sym, subst, arith}
use Rattle.json.specs.Json.{Json}
use Rattle.jsonptr.specs.Text.{Pointer}
use Rattle.json_patch_text.specs.Logs.{Counts}
use Rattle.json_patch_text.specs.Made.{Costs, HasBytesAt, HasMoreAt, IsLeft, IsNotMade, IsStepped, IsStopped}
use Rattle.json_patch_text.specs.Operations.{TreeOperation, add, remove, replace, move, copy, test}
use Rattle.json_patch_text.specs.Step.{ComesTo}
use Rattle.json_patch_text.specs.TextOperations.{IsWrittenAs}
use Rattle.json_patch_text.specs.Undos.{IsMovedBack, IsTakenFrom, PutsBack, TakesBack}
use Rattle.json_patch_text.specs.declared.log.Log.{Log}
use Rattle.json_patch_text.specs.declared.undo.Undo.{Undo}
use Rattle.json_patch_text.specs.declared.fault.StepFault.{StepFault}
use Rattle.json_patch_text.specs.declared.operation.TextOperation.{TextOperation}
use Rattle.json_patch_text.specs.declared.operation.TextOperation.TheVariants.{Add, Remove, Replace, Move, Copy, Test}
use Rattle.json_patch_text.proofs.Made.{add_comes, add_stops, remove_comes, remove_stops, replace_comes, replace_stops}
use Rattle.json_text.specs.Added.{HasNoPlace, IsAdded}
use Rattle.json_text.specs.Removed.{HasNothingToRemove, IsRemoved}
use Rattle.json_text.specs.Replaced.{IsReplaced, LeadsNowhere}
use Rattle.json_lexemes.specs.Spelled.{IsShallowText, Says}

add_left : (text v new : List ℕ) (P Q : Pointer) (o : TextOperation) (s : Bor (List ℕ)) (i : Json) (op : TreeOperation) → o ≡ Add Q s → P ≡ Q → v ≡ s.now → IsAdded text P v new → Says text i → IsWrittenAs o op → IsLeft new i op
add_left text v new P Q o s i op is p e a said h = by op (subst (λ x. IsWrittenAs x op) is h)
  where
    by : (op : TreeOperation) → IsWrittenAs (Add Q s) op → IsLeft new i op
    by (add R w) h = subst (λ T. IsLeft new i (add T w)) (p ∙ h.0) (add_comes text s.now new P i w said h.1.0.0 (subst (λ x. IsAdded text P x new) e a))
    by op h = absurd h

add_stopped : (text : List ℕ) (P Q : Pointer) (o : TextOperation) (s : Bor (List ℕ)) (i : Json) (op : TreeOperation) (f : StepFault) → o ≡ Add Q s → P ≡ Q → IsNotMade (HasNoPlace text P) f → Says text i → IsWrittenAs o op → IsStopped i op f
add_stopped text P Q o s i op f is p a said h = by op (subst (λ x. IsWrittenAs x op) is h)
  where
    by : (op : TreeOperation) → IsWrittenAs (Add Q s) op → IsStopped i op f
    by (add R w) h = subst (λ T. IsStopped i (add T w) f) (p ∙ h.0) (add_stops text P i w f said a)
    by op h = absurd h

remove_left : (text new : List ℕ) (P Q : Pointer) (o : TextOperation) (i : Json) (op : TreeOperation) → o ≡ Remove Q → P ≡ Q → IsRemoved text P new → Says text i → IsWrittenAs o op → IsLeft new i op
remove_left text new P Q o i op is p a said h = by op (subst (λ x. IsWrittenAs x op) is h)
  where
    by : (op : TreeOperation) → IsWrittenAs (Remove Q) op → IsLeft new i op
    by (remove R) h = subst (λ T. IsLeft new i (remove T)) (p ∙ h) (remove_comes text new P i said a)
    by op h = absurd h

remove_stopped : (text : List ℕ) (P Q : Pointer) (o : TextOperation) (i : Json) (op : TreeOperation) (f : StepFault) → o ≡ Remove Q → P ≡ Q → IsNotMade (HasNothingToRemove text P) f → Says text i → IsWrittenAs o op → IsStopped i op f
remove_stopped text P Q o i op f is p a said h = by op (subst (λ x. IsWrittenAs x op) is h)
  where
    by : (op : TreeOperation) → IsWrittenAs (Remove Q) op → IsStopped i op f
    by (remove R) h = subst (λ T. IsStopped i (remove T) f) (p ∙ h) (remove_stops text P i f said a)
    by op h = absurd h

replace_left : (text v new : List ℕ) (P Q : Pointer) (o : TextOperation) (s : Bor (List ℕ)) (i : Json) (op : TreeOperation) → o ≡ Replace Q s → P ≡ Q → v ≡ s.now → IsReplaced text P v new → Says text i → IsWrittenAs o op → IsLeft new i op
replace_left text v new P Q o s i op is p e a said h = by op (subst (λ x. IsWrittenAs x op) is h)
  where
    by : (op : TreeOperation) → IsWrittenAs (Replace Q s) op → IsLeft new i op
    by (replace R w) h = subst (λ T. IsLeft new i (replace T w)) (p ∙ h.0) (replace_comes text s.now new P i w said h.1.0.0 (subst (λ x. IsReplaced text P x new) e a))
    by op h = absurd h

replace_stopped : (text : List ℕ) (P Q : Pointer) (o : TextOperation) (s : Bor (List ℕ)) (i : Json) (op : TreeOperation) (f : StepFault) → o ≡ Replace Q s → P ≡ Q → IsNotMade (LeadsNowhere text P) f → Says text i → IsWrittenAs o op → IsStopped i op f
replace_stopped text P Q o s i op f is p a said h = by op (subst (λ x. IsWrittenAs x op) is h)
  where
    by : (op : TreeOperation) → IsWrittenAs (Replace Q s) op → IsStopped i op f
    by (replace R w) h = subst (λ T. IsStopped i (replace T w) f) (p ∙ h.0) (replace_stops text P i w f said a)
    by op h = absurd h

move_left : (new : List ℕ) (F G P Q : Pointer) (o : TextOperation) (i : Json) (op : TreeOperation) → o ≡ Move G Q → F ≡ G → P ≡ Q → IsLeft new i (move F P) → IsWrittenAs o op → IsLeft new i op
move_left new F G P Q o i op is f p a h = by op (subst (λ x. IsWrittenAs x op) is h)
  where
    by : (op : TreeOperation) → IsWrittenAs (Move G Q) op → IsLeft new i op
    by (move E R) h = subst (λ T. IsLeft new i (move E T)) (p ∙ h.1) (subst (λ T. IsLeft new i (move T P)) (f ∙ h.0) a)
    by op h = absurd h

move_stopped : (F G P Q : Pointer) (o : TextOperation) (i : Json) (op : TreeOperation) (fault : StepFault) → o ≡ Move G Q → F ≡ G → P ≡ Q → IsStopped i (move F P) fault → IsWrittenAs o op → IsStopped i op fault
move_stopped F G P Q o i op fault is f p a h = by op (subst (λ x. IsWrittenAs x op) is h)
  where
    by : (op : TreeOperation) → IsWrittenAs (Move G Q) op → IsStopped i op fault
    by (move E R) h = subst (λ T. IsStopped i (move E T) fault) (p ∙ h.1) (subst (λ T. IsStopped i (move T P) fault) (f ∙ h.0) a)
    by op h = absurd h

pub test_left : (text v new : List ℕ) (P Q : Pointer) (o : TextOperation) (s : Bor (List ℕ)) (i : Json) (op : TreeOperation) → o ≡ Test Q s → P ≡ Q → v ≡ s.now → new ≡ text → ((j w : Json) → Says text j → IsShallowText v w → ComesTo j (test P w) (Ok j))
    → Says text i → IsWrittenAs o op → IsLeft new i op
test_left text v new P Q o s i op is p e kept a said h = by op (subst (λ x. IsWrittenAs x op) is h)
  where
    by : (op : TreeOperation) → IsWrittenAs (Test Q s) op → IsLeft new i op
    by (test R w) h = (i, subst (λ t. Says t i) (sym kept) said, subst (λ T. ComesTo i (test T w) (Ok i)) (p ∙ h.0) (a i w said (subst (λ t. IsShallowText t w) (sym e) h.1.0)))
    by op h = absurd h

-- ---- made or not

pub add_stepped : (text v new : List ℕ) (P Q : Pointer) (o : TextOperation) (s : Bor (List ℕ)) (i : Json) (op : TreeOperation) (r : Result (Option ℕ) StepFault) → o ≡ Add Q s → P ≡ Q → v ≡ s.now → IfOk r (λ deeper. IsAdded text P v new) → IfErr r (IsNotMade (HasNoPlace text P))
    → Says text i → IsWrittenAs o op → IsStepped i op new r
add_stepped text v new P Q o s i op (Ok deeper) is p e a n said h = add_left text v new P Q o s i op is p e a said h
add_stepped text v new P Q o s i op (Err f) is p e a n said h = add_stopped text P Q o s i op f is p n said h

pub remove_stepped : (text new : List ℕ) (P Q : Pointer) (o : TextOperation) (i : Json) (op : TreeOperation) (r : Result (Option ℕ) StepFault) → o ≡ Remove Q → P ≡ Q → IfOk r (λ deeper. IsRemoved text P new) → IfErr r (IsNotMade (HasNothingToRemove text P))
    → Says text i → IsWrittenAs o op → IsStepped i op new r
remove_stepped text new P Q o i op (Ok deeper) is p a n said h = remove_left text new P Q o i op is p a said h
remove_stepped text new P Q o i op (Err f) is p a n said h = remove_stopped text P Q o i op f is p n said h

pub replace_stepped : (text v new : List ℕ) (P Q : Pointer) (o : TextOperation) (s : Bor (List ℕ)) (i : Json) (op : TreeOperation) (r : Result (Option ℕ) StepFault) → o ≡ Replace Q s → P ≡ Q → v ≡ s.now → IfOk r (λ deeper. IsReplaced text P v new) → IfErr r (IsNotMade (LeadsNowhere text P))
    → Says text i → IsWrittenAs o op → IsStepped i op new r
replace_stepped text v new P Q o s i op (Ok deeper) is p e a n said h = replace_left text v new P Q o s i op is p e a said h
replace_stepped text v new P Q o s i op (Err f) is p e a n said h = replace_stopped text P Q o s i op f is p n said h

pub move_stepped : (text new : List ℕ) (F G P Q : Pointer) (o : TextOperation) (i : Json) (op : TreeOperation) (r : Result (Option ℕ) StepFault) → o ≡ Move G Q → F ≡ G → P ≡ Q → IfOk r (λ deeper. (j : Json) → Says text j → IsLeft new j (move F P))
    → IfErr r (λ f. (j : Json) → Says text j → IsStopped j (move F P) f) → Says text i → IsWrittenAs o op → IsStepped i op new r
move_stepped text new F G P Q o i op (Ok deeper) is f p a n said h = move_left new F G P Q o i op is f p (a i said) h
move_stepped text new F G P Q o i op (Err g) is f p a n said h = move_stopped F G P Q o i op g is f p (n i said) h

copy_left : (new : List ℕ) (F G P Q : Pointer) (o : TextOperation) (i : Json) (op : TreeOperation) → o ≡ Copy G Q → F ≡ G → P ≡ Q → IsLeft new i (copy F P) → IsWrittenAs o op → IsLeft new i op
copy_left new F G P Q o i op is f p a h = by op (subst (λ x. IsWrittenAs x op) is h)
  where
    by : (op : TreeOperation) → IsWrittenAs (Copy G Q) op → IsLeft new i op
    by (copy E R) h = subst (λ T. IsLeft new i (copy E T)) (p ∙ h.1) (subst (λ T. IsLeft new i (copy T P)) (f ∙ h.0) a)
    by op h = absurd h

copy_stopped : (F G P Q : Pointer) (o : TextOperation) (i : Json) (op : TreeOperation) (fault : StepFault) → o ≡ Copy G Q → F ≡ G → P ≡ Q → IsStopped i (copy F P) fault → IsWrittenAs o op → IsStopped i op fault
copy_stopped F G P Q o i op fault is f p a h = by op (subst (λ x. IsWrittenAs x op) is h)
  where
    by : (op : TreeOperation) → IsWrittenAs (Copy G Q) op → IsStopped i op fault
    by (copy E R) h = subst (λ T. IsStopped i (copy E T) fault) (p ∙ h.1) (subst (λ T. IsStopped i (copy T P) fault) (f ∙ h.0) a)
    by op h = absurd h

pub copy_stepped : (text new : List ℕ) (F G P Q : Pointer) (o : TextOperation) (i : Json) (op : TreeOperation) (r : Result (Option ℕ) StepFault) → o ≡ Copy G Q → F ≡ G → P ≡ Q → IfOk r (λ deeper. (j : Json) → Says text j → IsLeft new j (copy F P))
    → IfErr r (λ f. (j : Json) → Says text j → IsStopped j (copy F P) f) → Says text i → IsWrittenAs o op → IsStepped i op new r
copy_stepped text new F G P Q o i op (Ok deeper) is f p a n said h = copy_left new F G P Q o i op is f p (a i said) h
copy_stepped text new F G P Q o i op (Err g) is f p a n said h = copy_stopped F G P Q o i op g is f p (n i said) h

-- ---- what takes it back

pub taken_add : (text : List ℕ) (o : TextOperation) (P Q : Pointer) (v : Bor (List ℕ)) (us : List Undo) → o ≡ Add Q v → P ≡ Q → (u : Undo) × (us ≡ u ∷ []) × TakesBack text P u → IsTakenFrom text o us
taken_add text o P Q v us is p (u, e, back) = subst (λ x. IsTakenFrom text x us) (sym is) (u, e, subst (λ X. TakesBack text X u) p back)

pub taken_copy : (text : List ℕ) (o : TextOperation) (F P Q : Pointer) (us : List Undo) → o ≡ Copy F Q → P ≡ Q → (u : Undo) × (us ≡ u ∷ []) × TakesBack text P u → IsTakenFrom text o us
taken_copy text o F P Q us is p (u, e, back) = subst (λ x. IsTakenFrom text x us) (sym is) (u, e, subst (λ X. TakesBack text X u) p back)

pub taken_remove : (text : List ℕ) (o : TextOperation) (P Q : Pointer) (us : List Undo) → o ≡ Remove Q → P ≡ Q → PutsBack false text P us → IsTakenFrom text o us
taken_remove text o P Q us is p back = subst (λ x. IsTakenFrom text x us) (sym is) (subst (λ X. PutsBack false text X us) p back)

pub taken_replace : (text : List ℕ) (o : TextOperation) (P Q : Pointer) (v : Bor (List ℕ)) (us : List Undo) → o ≡ Replace Q v → P ≡ Q → PutsBack true text P us → IsTakenFrom text o us
taken_replace text o P Q v us is p back = subst (λ x. IsTakenFrom text x us) (sym is) (subst (λ X. PutsBack true text X us) p back)

pub taken_move : (text : List ℕ) (o : TextOperation) (F G P Q : Pointer) (us : List Undo) → o ≡ Move G Q → F ≡ G → P ≡ Q → IsMovedBack text F P us → IsTakenFrom text o us
taken_move text o F G P Q us is f p back = subst (λ x. IsTakenFrom text x us) (sym is) (subst (λ X. IsMovedBack text G X us) p (subst (λ X. IsMovedBack text X P us) f back))

-- ---- what it costs

pub costs_none : {A E : Type 0} (text : List ℕ) (o : TextOperation) (old new : Log) (r : Result A E) → Costs text o 0 → IfOk r (λ done. new.cost ≡ old.cost) → IfOk r (λ done. Counts old (Costs text o) new)
costs_none text o old new (Ok x) none same = (0, none, omega (arith, same))
costs_none text o old new (Err f) none same = tt

pub copy_costs : {A E : Type 0} (text : List ℕ) (o : TextOperation) (F P Q : Pointer) (old new : Log) (r : Result A E) → o ≡ Copy F Q → P ≡ F → IfOk r (λ done. Counts old (HasBytesAt text P) new) → IfOk r (λ done. Counts old (Costs text o) new)
copy_costs text o F P Q old new (Ok x) is f (n, bytes, sum) = (n, subst (λ y. Costs text y n) (sym is) (subst (λ X. HasBytesAt text X n) f bytes), sum)
copy_costs text o F P Q old new (Err e) is f counts = tt

pub test_costs : (text u : List ℕ) (P Q : Pointer) (v : Bor (List ℕ)) (o : TextOperation) (old new : Log) → o ≡ Test Q v → P ≡ Q → u ≡ v.now → Counts old (HasMoreAt text P u) new → Counts old (Costs text o) new
test_costs text u P Q v o old new is p value (n, more, sum) = (n, subst (λ y. Costs text y n) (sym is) (subst (λ x. HasMoreAt text Q x n) value (subst (λ X. HasMoreAt text X u n) p more)), sum)
