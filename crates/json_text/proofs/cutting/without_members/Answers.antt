use Rattle.std.proofs.Common.{◌≡◌, List, ℕ, sym, ◌∙◌, subst}
use Rattle.std.specs.String.{string_bytes}
use Rattle.json.specs.Json.{Json}
use Rattle.json_text.specs.Less.{IsLessText, IsObject}
use Rattle.json_text.specs.Owned.{in_whole}
use Rattle.json_text.specs.declared.own.Own.{Own}
use Rattle.json_lexemes.specs.Spelled.{Says}
use Rattle.json_lexemes.proofs.Nests.{one_tree}
use Rattle.json_text.proofs.Rows.Objects.{all_gone, first_less, next_less, shorter}
use Rattle.json_text.proofs.cutting.without_members.Goals as goal

-- what is left of a text that stands alone
alone_less : (o : Own) (t k new : List ℕ) (v : Json) → o.text.now ≡ t → ((s : List ℕ) → in_whole o s ≡ s) → (less : List ℕ) × (new ≡ in_whole o less) × IsLessText o.text.now v k less → IsLessText t v k new
alone_less o t k new v e whole (less, is, h) = subst (λ x. IsLessText x v k new) e (subst (IsLessText o.text.now v k) (sym (is ∙ whole less)) h)

object_of : (t : List ℕ) (v : Json) → (w : Json) × Says t w × IsObject w → Says t v → IsObject v
object_of t v (w, says, object) is = subst IsObject (one_tree t w v says is) object

pub loop-new-init : goal.loop-new-init
loop-new-init c = λ v says.
    first_less c.args.text.now v c.args.name.now _ says (alone_less c.alone.result c.args.text.now c.args.name.now _ v c.alone.ensures.text c.alone.ensures.whole (rw c.in-Some.is at (c.in_ok-new.ensures v (subst (λ t. Says t v) (sym c.alone.ensures.text) says))))

pub loop-new-smaller : goal.loop-new-smaller
loop-new-smaller c =
    let (v, says, object) = c.requires in
    let a = c.loop-new.invariant v says in
    let e = c.alone-in-loop-new.ensures.text ∙ c.as_str.ensures.value in
    let less = alone_less c.alone-in-loop-new.result _ c.args.name.now _ a.1 e c.alone-in-loop-new.ensures.whole (rw c.in-Some-2.is at (c.in_ok-less.ensures a.1 (subst (λ t. Says t a.1) (sym e) a.2))) in
    shorter _ a.1 c.args.name.now _ less.0

pub loop-new-preserved : goal.loop-new-preserved
loop-new-preserved c = λ v says.
    let a = c.loop-new.invariant v says in
    let e = c.alone-in-loop-new.ensures.text ∙ c.as_str.ensures.value in
    let less = alone_less c.alone-in-loop-new.result _ c.args.name.now _ a.1 e c.alone-in-loop-new.ensures.whole (rw c.in-Some-2.is at (c.in_ok-less.ensures a.1 (subst (λ t. Says t a.1) (sym e) a.2))) in
    next_less c.args.text.now v c.args.name.now _ (string_bytes c.in-Some-2.less) (object_of c.args.text.now v c.requires says) a less

pub returns : goal.returns
returns c = λ v says.
    let a = c.loop-new.invariant v says in
    let none = rw c.in_default-2.is at (c.in_ok-less.ensures a.1 (subst (λ t. Says t a.1) (sym (c.alone-in-loop-new.ensures.text ∙ c.as_str.ensures.value)) a.2)) in
    all_gone c.args.text.now v c.args.name.now (string_bytes c.loop-new.new) (object_of c.args.text.now v c.requires says) a none
