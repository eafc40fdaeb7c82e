use Rattle.std.proofs.Common.{◌≡◌, ◌++◌, None, take, drop, sym, subst}
use Rattle.std.specs.Prelude.{MatchOption}
use Rattle.json.specs.Json.{Json}
use Rattle.json_lexemes.specs.Found.{IsWithin}
use Rattle.json_text.specs.Less.{IsLessText}
use Rattle.json_text.specs.Pointed.{child}
use Rattle.json_lexemes.specs.Spelled.{Says}
use Rattle.json_text.proofs.Rows.Objects.{leaf_child}
use Rattle.json_text.proofs.Rows.Less.{less_text, none_chosen}
use Rattle.json_text.proofs.cutting.piece.Goals as goal

pub returns-in_err-row-clause-piece : goal.returns-in_err-row-clause-piece
returns-in_err-row-clause-piece c = λ v says.
    let t = c.args.own.text.now in
    let k = c.args.name.now in
    subst (λ x. MatchOption x (child k v ≡ None) (λ p. IsLessText t v k (take p.start t ++ drop p.end t))) (sym c.from_residual.ensures) (leaf_child k v (c.in_err-row.ensures.row v (subst (λ x. Says x v) (sym c.as_bytes-text.ensures.value) says)))

pub returns-in_err-found-clause-piece : goal.returns-in_err-found-clause-piece
returns-in_err-found-clause-piece c = λ v says.
    let t = c.args.own.text.now in
    let k = c.args.name.now in
    let (cs, is, at) = c.in_ok-row.ensures.row v (subst (λ x. Says x v) (sym c.as_bytes-text.ensures.value) says) in
    subst (λ x. MatchOption x (child k v ≡ None) (λ p. IsLessText t v k (take p.start t ++ drop p.end t))) (sym c.from_residual-in_err-found.ensures)
    (subst (λ x. child k x ≡ None) (sym is) (none_chosen c.in_ok-row.row.named cs k c.in_ok-number.number (c.in_ok-number.ensures.number cs at.0) (c.in_err-found.ensures.found cs at)))

pub returns-clause-piece : goal.returns-clause-piece
returns-clause-piece c =
    let b = c.as_bytes-text.result.now in
    subst (λ t. (v : Json) → Says t v → IsLessText t v c.args.name.now (take c.edges.result.start t ++ drop c.edges.result.end t)) c.as_bytes-text.ensures.value (λ v says.
    let (cs, is, at) = c.in_ok-row.ensures.row v says in
    subst (λ x. IsLessText b x c.args.name.now (take c.edges.result.start b ++ drop c.edges.result.end b)) (sym is)
    (less_text b c.args.name.now c.in_ok-row.row.named cs c.in_ok-number.number c.in_ok-found.found c.edges.result (subst (Says b) is says) (c.in_ok-number.ensures.number cs at.0) (c.in_ok-found.ensures.found cs at) c.in_ok-found.ensures.order.1 c.in_ok-found.ensures.order.0 c.edges.ensures.edges))

pub returns-clause-within : goal.returns-clause-within
returns-clause-within c =
    let b = c.in_ok-found.ensures.boundary c.in_ok-row.ensures.boundary in
    subst (λ t. IsWithin t c.edges.result) c.as_bytes-text.ensures.value (c.edges.ensures.within b.0 b.1)
