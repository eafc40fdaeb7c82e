use Rattle.std.proofs.Common.{◌∙◌, rules, ap, sym, subst, IsUtf8}
use Rattle.std.proofs.lemmas.Str.{IsUtf8-string_bytes}
use Rattle.serde_json.specs.Read.{read}
use Rattle.json_patch_answers.proofs.line.line_of.Goals as goal

pub returns-clause-line : goal.returns-clause-line
returns-clause-line c = let text = c.in_ok-line.ensures.text (c.documents.ensures.no_float _ c.requires) in search rules

pub returns-clause-reads_back : goal.returns-clause-reads_back
returns-clause-reads_back c fits nests =
    let text = c.in_ok-line.ensures.text (c.documents.ensures.no_float _ c.requires) in
    (fits, subst IsUtf8 text (IsUtf8-string_bytes c.in_ok-line.line), ap read (sym text) ∙ c.in_ok-line.ensures.reads_back nests)
