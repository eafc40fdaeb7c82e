use Rattle.std.proofs.Common.{◌≡◌, Bool, true, false, List, ℕ, Option, None, Some, sym, subst, arith}
use Rattle.std.proofs.lemmas.Bool.{false≢true}
use Rattle.std.specs.Prelude.{IfNone, IfSome}
use Rattle.jsonptr.specs.Indexes.{IsIndexText}
use Rattle.jsonptr.specs.Places.{next_token}
use Rattle.json_text.specs.Less.{IsNumberOf}
use Rattle.json_lexemes.specs.Places.{left_at}
use Rattle.json_text.specs.Pointed.{child}
use Rattle.json_text.specs.Rows.{Child, inside, last_named, tree_in}
use Rattle.json_lexemes.specs.Spelled.{Says}
use Rattle.json_text.proofs.Rows.Trees.{next_is_no_element, no_index_no_element, no_member}
use Rattle.json_text.proofs.parts.number_of.Goals as goal

named_none : (b : Bool) (k name : List ℕ) (cs : List Child) (r : Option ℕ) → b ≡ true → k ≡ name → r ≡ last_named k cs → IfNone r (child name (tree_in b cs) ≡ None)
named_none false k name cs r n e f = absurd (false≢true n)
named_none true k name cs None n e f = subst (λ x. child x (tree_in true cs) ≡ None) e (no_member k cs (sym f))
named_none true k name cs (Some m) n e f = tt

named_some : (b : Bool) (k name : List ℕ) (cs : List Child) (r : Option ℕ) → b ≡ true → k ≡ name → r ≡ last_named k cs → IfSome r (IsNumberOf b cs name)
named_some false k name cs r n e f = absurd (false≢true n)
named_some true k name cs None n e f = tt
named_some true k name cs (Some m) n e f = subst (λ x. last_named x cs ≡ Some m) e (sym f)

to_inside : (t : List ℕ) (b : Bool) (cs : List Child) (i : ℕ) → b ≡ true → left_at t i ≡ inside b cs → left_at t i ≡ inside true cs
to_inside t b cs i e h = subst (λ x. left_at t i ≡ inside x cs) e h

pub returns-then-within-clause-number : goal.returns-then-within-clause-number
returns-then-within-clause-number c = λ cs e.
    named_some c.args.within.named _ c.args.name.now cs c.last_named.result c.if-within.true c.as_bytes.ensures.value (c.last_named.ensures cs (to_inside c.args.text.now c.args.within.named cs c.args.within.start c.if-within.true e))

pub returns-then-within-clause-none : goal.returns-then-within-clause-none
returns-then-within-clause-none c = λ cs says e.
    named_none c.args.within.named _ c.args.name.now cs c.last_named.result c.if-within.true c.as_bytes.ensures.value (c.last_named.ensures cs (to_inside c.args.text.now c.args.within.named cs c.args.within.start c.if-within.true e))

pub returns-in-Ok-Next-clause-none : goal.returns-in-Ok-Next-clause-none
returns-in-Ok-Next-clause-none c = λ cs says e.
    let next : c.args.name.now ≡ next_token = subst (IsIndexText c.args.name.now) c.in-Ok-Next.field-0-is c.in-Ok-Next.ensures.index in
    subst (λ b. child c.args.name.now (tree_in b cs) ≡ None) (sym c.if-within.false) (next_is_no_element cs c.args.name.now next)

pub returns-in-Err-clause-none : goal.returns-in-Err-clause-none
returns-in-Err-clause-none c = λ cs says e.
    subst (λ b. child c.args.name.now (tree_in b cs) ≡ None) (sym c.if-within.false)
    (no_index_no_element c.args.text.now cs c.args.name.now (subst (λ b. Says c.args.text.now (tree_in b cs)) c.if-within.false says) (omega arith) c.in-Err.ensures.no_index)
