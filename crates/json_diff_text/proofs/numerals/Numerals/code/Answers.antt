use Rattle.std.proofs.Common.{subst, sym}
use Rattle.json_diff_text.specs.Numerals.{AreNumbers, Grows}
use Rattle.json_diff_text.specs.Tables.{table}
use Rattle.json_diff_text.proofs.Coded.{grows_by, numbers_more}
use Rattle.json_diff_text.proofs.numerals.Numerals.code.Goals as goal

pub returns-clause-grows : goal.returns-clause-grows
returns-clause-grows c = subst (Grows (table c.args.self.now)) (sym c.keep.ensures) (grows_by c.args.self.now.texts.items c.push.new.self.items _ c.args.text.now c.in_ok-push.ensures.items c.in_ok-from_str.ensures.ok)

pub returns-clause-numbers : goal.returns-clause-numbers
returns-clause-numbers c = subst AreNumbers (sym c.keep.ensures) (numbers_more c.args.self.now.texts.items c.push.new.self.items _ c.args.text.now c.in_ok-push.ensures.items c.in_ok-from_str.ensures.ok c.requires.numbers c.requires.number)
