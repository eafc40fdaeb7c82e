use Rattle.std.proofs.Common.{◌≡◌, ◌≤◌, ◌∙◌, ap, subst, sym}
use Rattle.std.specs.Prelude.{string_bytes}
use Rattle.json_kept_text.proofs.Sound.{merged_readable, shallow}
use Rattle.json_kept_text.specs.Kept.{State}
use Rattle.json_lexemes.specs.Skipped.{nesting}
use Rattle.json_merge_text.specs.Merged.{IsMergedAlready, IsMergedText}
use Rattle.json_pieces.specs.Whole.{text_of}
use Rattle.json_text.specs.Checked.{text_in}
use Rattle.json_kept_text.proofs.kept.KeptText.merged.Goals as goal

pub known-text-requires : goal.known-text-requires
known-text-requires c = let k = c.self.invariant in rw (c.as_str.ensures.value, c.in_ok-text.ensures) (shallow c.self.inside.limits _ k.bounded k.readable)

pub returns-in_default-clause-over : goal.returns-in_default-clause-over
returns-in_default-clause-over c =
    let over = rw c.in_default.is at c.in_ok-new.ensures.over in
    rw (← c.self.view_is) (rw (c.known-text.ensures, c.as_str.ensures.value, c.in_ok-text.ensures) at over)

pub known-new-requires : goal.known-new-requires
known-new-requires c =
    let k = c.self.invariant in let m = rw c.in-Some.is at c.in_ok-new.ensures.merged in
    let fits : nesting c.args.patch.now ≤ c.self.inside.limits.depth = rw (← c.self.view_is) at c.requires in
    rw c.as_str-2.ensures.value
    (shallow c.self.inside.limits (string_bytes c.in-Some.new) k.bounded
    (merged_readable c.self.inside.limits (text_of c.self.inside.pieces) c.args.patch.now c.in-Some.new m.2 m.5 k.readable.2 fits (rw (c.known-text.ensures, c.as_str.ensures.value, c.in_ok-text.ensures) at (rw c.in-Some.is at c.in_ok-new.ensures.depth))))

pub returns-clause-already : goal.returns-clause-already
returns-clause-already c =
    let e : text_in c.known-text.result ≡ c.args.self.now.text = c.known-text.ensures ∙ c.as_str.ensures.value ∙ c.in_ok-text.ensures ∙ ap (λ (s : State). s.text) c.self.view_is in
    let same = rw c.in-Some.is at c.in_ok-new.ensures.unchanged in
    subst (λ t. IsMergedAlready t c.args.patch.now → text_of c.in_ok-owned.field-0 ≡ t) e (λ h. c.in_ok-owned.ensures.text ∙ c.known-new.ensures ∙ c.as_str-2.ensures.value ∙ same h)

pub returns-clause-kept : goal.returns-clause-kept
returns-clause-kept c =
    let e : text_in c.known-text.result ≡ c.args.self.now.text = c.known-text.ensures ∙ c.as_str.ensures.value ∙ c.in_ok-text.ensures ∙ ap (λ (s : State). s.text) c.self.view_is in
    let new : text_of c.in_ok-owned.field-0 ≡ string_bytes c.in-Some.new = c.in_ok-owned.ensures.text ∙ c.known-new.ensures ∙ c.as_str-2.ensures.value in
    subst (λ t. IsMergedText t c.args.patch.now (text_of c.in_ok-owned.field-0)) e (subst (IsMergedText (text_in c.known-text.result) c.args.patch.now) (sym new) (rw c.in-Some.is at c.in_ok-new.ensures.kept))
