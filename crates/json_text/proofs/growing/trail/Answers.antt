use Rattle.std.proofs.Common.{◌≡◌, false, List, drop, [], sym, subst, inl, inr}
use Rattle.std.proofs.lemmas.Result.{IfOk-weaker}
use Rattle.std.specs.Str.{IsCharBoundary}
use Rattle.std.specs.String.{string_bytes}
use Rattle.json_text.specs.Rows.{AreInOrder, Child, CutNone, IsComma, IsInside, IsNumbered, IsTrail}
use Rattle.json_text.proofs.growing.trail.Goals as goal

pub comma-requires-clause-child : goal.comma-requires-clause-child
comma-requires-clause-child c =
    let (cs, says, h) = c.requires.row in
    let there = (subst (λ x. (cs : List Child) → IsInside x false cs c.args.start → (c.args.number ≡ 0) × IsNumbered x false cs 1 c.in-Some.second) c.as_bytes.ensures.value c.in-Some.ensures.second) cs h in
    (false, cs, says, there.1)

pub comma-requires-clause-boundary : goal.comma-requires-clause-boundary
comma-requires-clause-boundary c =
    let b = c.in-Some.ensures.boundary (λ u. subst (λ x. IsCharBoundary x c.args.start) (sym c.as_bytes.ensures.value) c.requires.inside) in
    (subst (λ x. IsCharBoundary x c.in-Some.second.before) c.as_bytes.ensures.value (b.0 c.as_bytes.ensures.utf8), subst (λ x. CutNone x c.in-Some.second.part) c.as_bytes.ensures.value b.1)

pub returns-in-Some : goal.returns-in-Some
returns-in-Some c =
    let t = c.args.text.now in
    let r = c.in-Some.second in
    IfOk-weaker c.comma.result (λ s. IsComma t r.part.start (string_bytes s)) (λ s. IsTrail t c.args.start c.args.number c.args.found (string_bytes s))
    (λ s is cs h.
    let there = (subst (λ x. (cs : List Child) → IsInside x false cs c.args.start → (c.args.number ≡ 0) × IsNumbered x false cs 1 r) c.as_bytes.ensures.value c.in-Some.ensures.second) cs h in
    inl (there.0, (r, there.1, subst (λ x. AreInOrder x r.part) c.as_bytes.ensures.value c.in-Some.ensures.order.1, is))) c.comma.ensures

pub returns-in-None : goal.returns-in-None
returns-in-None c =
    let t = c.args.text.now in
    IfOk-weaker c.comma-in-None.result (λ s. IsComma t c.args.found.part.start (string_bytes s)) (λ s. IsTrail t c.args.start c.args.number c.args.found (string_bytes s))
    (λ s is cs h. inr ((subst (λ x. (cs : List Child) → IsInside x false cs c.args.start → c.args.number ≡ 0 → drop 1 cs ≡ []) c.as_bytes.ensures.value c.in-None.ensures.second) cs h, is)) c.comma-in-None.ensures
