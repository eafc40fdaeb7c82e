use Rattle.std.proofs.Common.{◌∙◌, ap, arith, ltb, of_calls, rules, sym}
use Rattle.std.proofs.lemmas.Fn.{always_returns_same}
use Rattle.json_pieces.specs.Marks.{key_of}
use Rattle.json_pieces.proofs.Marks.{named_at, named_none}
use Rattle.json_pieces.proofs.index.NameIndex.last_named.Goals as goal

pub returns-in_err-get : goal.returns-in_err-get
returns-in_err-get c = named_none c.args.self.now c.args.name.now c.from_residual.result (ap key_of (sym c.in_err-get.ensures.value)) c.from_residual.ensures

pub returns-in_err-key : goal.returns-in_err-key
returns-in_err-key c = named_none c.args.self.now c.args.name.now c.from_residual-in_err-key.result (ap key_of (sym c.in_ok-get.ensures.value) ∙ c.in_err-key.was) c.from_residual-in_err-key.ensures

pub returns : goal.returns
returns c =
    named_at c.args.self.now c.args.name.now c.partition_point.result c.in_ok-key.key (omega arith) (ap key_of (sym c.in_ok-get.ensures.value) ∙ c.in_ok-key.was)
    c.partition_point.ensures.bound (λ small. c.partition_point.ensures.partitioned small (λ m. ltb m.key c.in_ok-key.key) (always_returns_same _ _ _ (λ a r f k. search (rules, of_calls))))
