use Rattle.std.proofs.Common.{◌≡◌, ℕ, List, None, sym, ◌∙◌, subst}
use Rattle.std.proofs.lemmas.Result.{IfOk-weaker}
use Rattle.std.specs.Prelude.{MatchOption}
use Rattle.std.specs.String.{string_bytes}
use Rattle.json.specs.Json.{Json}
use Rattle.jsonptr.specs.Pointers.{tokens_of}
use Rattle.json_text.specs.Less.{IsWithout}
use Rattle.json_text.specs.Owned.{in_whole}
use Rattle.json_text.specs.Pointed.{child}
use Rattle.json_text.specs.Removed.{HasNothingToRemove, IsRemoved}
use Rattle.json_lexemes.specs.Spelled.{Says}
use Rattle.json_text.proofs.Rows.Removing.{none_below, removed_if}
use Rattle.json_text.proofs.checked.CheckedText.remove.Goals as goal

pub returns-in_default-2 : goal.returns-in_default-2
returns-in_default-2 c =
    let t = c.as_str-text.ensures.shallow in
    rw c.as_str-text.ensures.text at (none_below c.as_str-text.result.now _ _ _ t c.in-Some.ensures.last (rw c.in_default-2.is at (rw c.tokens.ensures.value at (c.in_ok-place.ensures.found t.0 t.1.0))))

pub returns : goal.returns
returns c =
    let t = c.as_str-text.ensures.shallow in
    let within = rw c.in-Some-2.is at c.in_ok-place.ensures.within in
    let found = rw c.in-Some-2.is at (rw c.tokens.ensures.value at (c.in_ok-place.ensures.found t.0 t.1.0)) in
    let own = c.at-own in
    let k = c.as_str.result.now in
    let P = tokens_of c.args.pointer in
    rw c.as_str-text.ensures.text at (IfOk-weaker c.without.result (λ found. (v : Json) → Says own.result.text.now v → MatchOption found (child k v ≡ None) (λ new. (less : List ℕ) × (string_bytes new ≡ in_whole own.result less) × IsWithout own.result.text.now v k less))
    (λ o. MatchOption o (HasNothingToRemove c.as_str-text.result.now P) (λ new. IsRemoved c.as_str-text.result.now P (string_bytes new)))
    (λ o h. removed_if c.as_str-text.result.now k P _ _ c.in-Some-2.place own.result t within c.in-Some.ensures.last found own.ensures.before own.ensures.text own.ensures.behind (c.as_str.ensures.value ∙ c.in_ok-name.ensures) o (h found.0 (subst (λ x. Says x found.0) (sym own.ensures.text) found.2.says))) c.without.ensures)
