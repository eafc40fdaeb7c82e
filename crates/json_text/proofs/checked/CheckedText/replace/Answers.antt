use Rattle.json_text.proofs.Replacing.{replaced}
use Rattle.json_text.proofs.checked.CheckedText.replace.Goals as goal

pub returns : goal.returns
returns c =
    let text = c.as_str-text.result.now in
    let t = c.as_str-text.ensures.shallow in
    let v = c.as_str-value.ensures.shallow in
    let within = rw c.in-Some.is at c.in_ok-place.ensures.within in
    let found = rw c.in-Some.is at (rw c.tokens.ensures.value at (c.in_ok-place.ensures.found t.0 t.1.0)) in
    let new = replaced text c.as_str-value.result.now _ c.range.result.now _ _ c.in-Some.place c.whole-put.result t v within found c.whole-put.ensures.within c.as_bytes.ensures.value c.whole-put.ensures.whole c.range.ensures.value c.in_ok-new.ensures in
    rw c.as_str-text.ensures.text at (rw c.as_str-value.ensures.text at new)
