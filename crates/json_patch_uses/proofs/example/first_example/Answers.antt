use Rattle.std.proofs.Common.{◌≡◌, ℕ, List, [], ◌∷◌, Result, Ok, Err, codes, rules}
use Rattle.std.specs.Prelude.{◌↔◌}
use Rattle.serde_json.specs.Data.{Data, string, object, member, no_members}
use Rattle.serde_json.specs.View.{view}
use Rattle.json_patch.specs.Document.{IsDocument}
use Rattle.json_patch.specs.Operation.{Operation, AreWhole, add}
use Rattle.json_patch.specs.Run.{Accepts, RefusesAt}
use Rattle.json_patch.specs.RunComputed.{fault, after_run}
use Rattle.json_patch.specs.Refusal.{IfRefused, NamesFirst}
use Rattle.json_patch.specs.PatchErrorKind.{PatchErrorKind}
use Rattle.json_patch.specs.PatchFault.{PatchFault}
use Rattle.json_patch.specs.PatchFault.TheVariants as fault_variants
use Rattle.json_patch_uses.proofs.example.first_example.Goals as goal

abbrev Accepted : Type 0
Accepted = (d : Data) (ops : List Operation) → IsDocument d → AreWhole ops → (e : Data) → Accepts d ops e ↔ (after_run d ops ≡ Ok e)

abbrev Refused : Type 0
Refused = (d : Data) (ops : List Operation) → IsDocument d → AreWhole ops → (k : ℕ) (kind : PatchErrorKind) → RefusesAt d ops k kind ↔ (after_run d ops ≡ Err (fault k kind))

abbrev before : Data
before = object (member (codes "foo") (string (codes "bar")) no_members)

abbrev change : List Operation
change = add (codes "baz" ∷ []) (string (codes "qux")) ∷ []

computed : Accepted → (d : Data) (P : List (List ℕ)) (v e : Data) → Accepts d (add P v ∷ []) e → d ≡ before → P ≡ codes "baz" ∷ [] → v ≡ string (codes "qux")
    → e ≡ object (member (codes "baz") (string (codes "qux")) (member (codes "foo") (string (codes "bar")) no_members))
computed law d P v e h is at holds =
    let accepted : Accepts before change e = rw holds at rw at at rw is at h in
    let made : after_run before change ≡ Ok e = (law before change (tt, tt, tt) (tt, tt) e).0 accepted in cc

never_refused : Refused → (d : Data) (P : List (List ℕ)) (v : Data) (k : ℕ) (kind : PatchErrorKind) → RefusesAt d (add P v ∷ []) k kind → d ≡ before → P ≡ codes "baz" ∷ [] → v ≡ string (codes "qux") → ⊥
never_refused law d P v k kind h is at holds =
    let refused : RefusesAt before change k kind = rw holds at rw at at rw is at h in
    let made : after_run before change ≡ Err (fault k kind) = (law before change (tt, tt, tt) (tt, tt) k kind).0 refused in cc

pub returns-clause-made : goal.returns-clause-made
returns-clause-made c = computed c.runs.ensures.run_accepted (view c.in_ok-document.document) c.push_back.new.self (view c.in_ok-value.value) _ c.in_ok-patch.ensures.accepted c.in_ok-document.ensures (search rules) (search rules)

unrefused : {T : Type 0} → Refused → (d : Data) (P : List (List ℕ)) (v : Data) (r : Result T PatchFault) → IfRefused r (NamesFirst d (add P v ∷ [])) → d ≡ before → P ≡ codes "baz" ∷ [] → v ≡ string (codes "qux") → IfRefused r (λ e. ⊥)
unrefused law d P v (Ok x) h is at holds = tt
unrefused law d P v (Err (fault_variants.Refused e)) h is at holds = never_refused law d P v e.operation e.kind h.0 is at holds
unrefused law d P v (Err (fault_variants.Memory e)) h is at holds = tt

pub returns-in_err-patch-clause-accepted : goal.returns-in_err-patch-clause-accepted
returns-in_err-patch-clause-accepted c = unrefused c.runs.ensures.run_refused (view c.in_ok-document.document) c.push_back.new.self (view c.in_ok-value.value) c.from_residual-in_err-patch.result (search rules) c.in_ok-document.ensures (search rules) (search rules)
