use Rattle.std.proofs.Common.{◌<◌, length, sym, ◌∙◌, arith, refl, rules}
use Rattle.json_text.proofs.Rows.Shapes.{no_name, no_quote, name_here, name_cut}
use Rattle.json_text.proofs.listing.name_from.Goals.{then-not-named-via-then-not-named, then-not-named-via-else-not-named+then-byte_at-ne34}
use Rattle.json_text.proofs.listing.name_from.Goals as goal

pub returns-then-not-named-clause-name : goal.returns-then-not-named-clause-name
returns-then-not-named-clause-name c = λ cs e. elim c.then-not-named.branch [
  | then-not-named-via-then-not-named w ↦ no_name c.args.text.now cs _ refl c.args.named (search rules)
  | then-not-named-via-else-not-named+then-byte_at-ne34 w ↦ no_quote c.args.text.now cs c.args.named c.args.start _ (search rules) c.requires.solid (λ q. w.if-byte_at-ne34.true (w.byte_at.ensures.value ∙ q)) e
]

pub returns-clause-name : goal.returns-clause-name
returns-clause-name c = λ cs e.
    let here : c.args.start < length c.args.text.now = c.byte_at.ensures.within (λ z. absurd (omega (arith, z, c.if-byte_at-ne34.false))) in
    name_here c.args.text.now cs c.args.named _ (search rules) here (sym c.byte_at.ensures.value ∙ c.if-byte_at-ne34.false) c.string_end.ensures.left e

pub returns-clause-cut : goal.returns-clause-cut
returns-clause-cut c = λ m.
    let here : c.args.start < length c.args.text.now = c.byte_at.ensures.within (λ z. absurd (omega (arith, z, c.if-byte_at-ne34.false))) in
    name_cut c.args.text.now _ here (sym c.byte_at.ensures.value ∙ c.if-byte_at-ne34.false) c.requires.solid m c.string_end.ensures.mode
