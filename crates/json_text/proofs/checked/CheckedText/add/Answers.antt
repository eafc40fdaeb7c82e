use Rattle.std.proofs.Common.{◌≡◌, None, sym, ◌∙◌, subst}
use Rattle.std.proofs.lemmas.Result.{IfOk-weaker}
use Rattle.std.specs.Prelude.{MatchOption}
use Rattle.std.specs.String.{string_bytes}
use Rattle.json.specs.Json.{Json}
use Rattle.jsonptr.specs.Pointers.{tokens_of}
use Rattle.json_text.specs.Added.{HasNoPlace, IsAdded}
use Rattle.json_text.specs.Changed.{add_child}
use Rattle.json_text.specs.Owned.{IsGrown}
use Rattle.json_lexemes.specs.Spelled.{Says}
use Rattle.json_text.proofs.Rows.Adding.{added_if, added_member, no_member_there, no_parent}
use Rattle.json_text.proofs.checked.CheckedText.add.Goals as goal

pub returns-in_default-2 : goal.returns-in_default-2
returns-in_default-2 c =
    let t = c.as_str-text.ensures.shallow in
    rw c.as_str-text.ensures.text at (no_parent c.as_str-text.result.now _ _ _ t c.in-Some.ensures.last (rw c.in_default-2.is at (rw c.tokens.ensures.value at (c.in_ok-place.ensures.found t.0 t.1.0))))

pub returns-in-Some-3 : goal.returns-in-Some-3
returns-in-Some-3 c =
    let t = c.as_str-text.ensures.shallow in
    let v = c.as_str-value.ensures.shallow in
    let found = rw c.in-Some-2.is at (rw c.tokens.ensures.value at (c.in_ok-place.ensures.found t.0 t.1.0)) in
    let here = subst (λ x. Says x found.0) (sym c.at-own.ensures.text) found.2.says in
    let within = rw c.in-Some-3.is at c.in_ok-old.ensures.within in
    let stands = rw c.in-Some-3.is at (c.in_ok-old.ensures.stands t.0 t.1.0) in
    let object = rw c.in-Some-3.is at (c.in_ok-old.ensures.object found.0 here) in
    let new = added_member c.as_str-text.result.now c.as_str-value.result.now _ c.range-put.result.now _ _ _ _ c.in-Some-3.old c.whole-put.result found.0 t v c.in-Some.ensures.last found.1 object within stands c.whole-put.ensures.within c.as_bytes.ensures.value c.whole-put.ensures.whole c.range-put.ensures.value c.in_ok-new.ensures in
    rw c.as_str-text.ensures.text at (rw c.as_str-value.ensures.text at new)

pub with_child-requires-clause-new : goal.with_child-requires-clause-new
with_child-requires-clause-new c =
    let t = c.as_str-text.ensures.shallow in
    let found = rw c.in-Some-2.is at (rw c.tokens.ensures.value at (c.in_ok-place.ensures.found t.0 t.1.0)) in
    let here = subst (λ x. Says x found.0) (sym c.at-own.ensures.text) found.2.says in
    no_member_there c.as_str-text.result.now c.at-own.result.text.now c.as_str.result.now _ _ _ t.0 found.0 c.in-Some.ensures.last found.1 (c.as_str.ensures.value ∙ c.in_ok-name.ensures) here
    (λ v is y. rw c.in_default-3.is at (c.in_ok-old.ensures.none t.0 v t.1.0 is y))

pub returns : goal.returns
returns c =
    let t = c.as_str-text.ensures.shallow in
    let v = c.as_str-value.ensures.shallow in
    let within = rw c.in-Some-2.is at c.in_ok-place.ensures.within in
    let found = rw c.in-Some-2.is at (rw c.tokens.ensures.value at (c.in_ok-place.ensures.found t.0 t.1.0)) in
    let own = c.at-own in
    let k = c.as_str.result.now in
    let put = c.range-put.result.now in
    let P = tokens_of c.args.pointer in
    rw c.as_str-text.ensures.text at (rw c.as_str-value.ensures.text at
    (IfOk-weaker c.with_child.result (λ o. (w : Json) → Says own.result.text.now w → MatchOption o ((x : Json) → add_child k x w ≡ None) (λ new. IsGrown own.result w k put (string_bytes new)))
    (λ o. MatchOption o (HasNoPlace c.as_str-text.result.now P) (λ new. IsAdded c.as_str-text.result.now P c.as_str-value.result.now (string_bytes new)))
    (λ o h. added_if c.as_str-text.result.now c.as_str-value.result.now _ put k P _ _ c.in-Some-2.place c.whole-put.result own.result t v c.in-Some.ensures.last within found c.whole-put.ensures.within c.as_bytes.ensures.value c.whole-put.ensures.whole c.range-put.ensures.value
    own.ensures.before own.ensures.text own.ensures.behind (c.as_str.ensures.value ∙ c.in_ok-name.ensures) o (h found.0 (subst (λ x. Says x found.0) (sym own.ensures.text) found.2.says))) c.with_child.ensures))
