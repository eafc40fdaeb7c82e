use Rattle.std.proofs.Common.{sym, ◌∙◌}
use Rattle.json_lexemes.proofs.Nests.{accepted}
use Rattle.json_text.proofs.Readable.{part_says}
use Rattle.json_text.proofs.Stretches.{cut_out}
use Rattle.json_text.proofs.checked.CheckedText.value.Goals as goal

pub returns-in_default : goal.returns-in_default
returns-in_default c =
    let t = accepted c.args.self.now.text.now c.args.self.now.read in
    (t.0, t.1, rw c.in_default.is at (rw c.tokens.ensures.value at (c.in_ok-place.ensures.found t.0 t.1.0)))

pub known-requires : goal.known-requires
known-requires c =
    let t = accepted c.args.self.now.text.now c.args.self.now.read in
    let found = rw c.in-Some.is at (rw c.tokens.ensures.value at (c.in_ok-place.ensures.found t.0 t.1.0)) in
    rw (sym c.range.ensures.value) at (part_says c.args.self.now.text.now _ _ _ _ t.0 t.1 found)

pub returns : goal.returns
returns c =
    let t = accepted c.args.self.now.text.now c.args.self.now.read in
    let within = rw c.in-Some.is at c.in_ok-place.ensures.within in
    let found = rw c.in-Some.is at (rw c.tokens.ensures.value at (c.in_ok-place.ensures.found t.0 t.1.0)) in
    (t.0, t.1, cut_out c.args.self.now.text.now t.0 _ c.in-Some.place _ within (c.known.ensures ∙ c.range.ensures.value) found)
