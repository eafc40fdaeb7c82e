use Rattle.std.proofs.Common.{◌≡◌, ◌∙◌, ap, subst, sym}
use Rattle.std.proofs.lemmas.Str.{IsUtf8-string_bytes}
use Rattle.std.specs.Prelude.{string_bytes}
use Rattle.json_patch_text.specs.Patched.{AcceptsPatch}
use Rattle.json_pieces.specs.Whole.{LeadsBack, text_of}
use Rattle.json_kept_text.proofs.Sound.{left_sound, readable, shallow}
use Rattle.json_kept_text.specs.Kept.{IsReadable, State}
use Rattle.json_kept_text.proofs.kept.KeptText.patch_recorded.Goals as goal

pub record_pieces-requires-clause-shallow : goal.record_pieces-requires-clause-shallow
record_pieces-requires-clause-shallow c = let k = c.self.invariant in shallow c.self.inside.limits _ k.bounded k.readable

pub invariant_of-self : goal.invariant_of-self
invariant_of-self c =
    let k = c.self.invariant in
    left_sound c.self.inside.limits c.self.inside.pieces c.record_pieces.new.pieces c.self.inside.last k.bounded c.record_pieces.ensures.pieces k.readable c.in_err-inverse.ensures.unchanged c.in_err-inverse.ensures.still k.back

pub invariant_of-self-2 : goal.invariant_of-self-2
invariant_of-self-2 c =
    let k = c.self.invariant in let m = c.in_ok-inverse.ensures in
    let before : c.of-before.result.text ≡ text_of c.self.inside.pieces = c.of-before.ensures ∙ sym (ap (λ (s : State). s.text) c.self.view_is) in
    record {
      bounded = k.bounded;
      pieces = m.pieces;
      readable = readable c.self.inside.limits c.record_pieces.new.pieces m.accepted.2.1 m.accepted.2.3 m.bounded.0;
      back = subst (λ t. IsReadable c.self.inside.limits t × AcceptsPatch (text_of c.record_pieces.new.pieces) (string_bytes c.in_ok-inverse.inverse) t × LeadsBack c.record_pieces.new.pieces t) (sym before) (k.readable, m.leads_back, m.back);
    }

pub returns-clause-accepted : goal.returns-clause-accepted
returns-clause-accepted c = rw (← c.self.view_is) c.in_ok-inverse.ensures.accepted

pub returns-clause-leads_back : goal.returns-clause-leads_back
returns-clause-leads_back c = rw (← c.self.view_is) c.in_ok-inverse.ensures.leads_back

pub returns-clause-utf8 : goal.returns-clause-utf8
returns-clause-utf8 c = IsUtf8-string_bytes c.in_ok-inverse.inverse

pub returns-clause-within : goal.returns-clause-within
returns-clause-within c = rw (← c.self.view_is) c.in_ok-inverse.ensures.within

pub returns-clause-readable : goal.returns-clause-readable
returns-clause-readable c = let m = c.in_ok-inverse.ensures in readable c.self.inside.limits c.record_pieces.new.pieces m.accepted.2.1 m.accepted.2.3 m.bounded.0
