use Rattle.json_patch_edit.proofs.Common.{rules, view, tokens_left}
use Rattle.json_patch_edit.proofs.Shown.{found_shown, value_shown}
use Rattle.json_patch_edit.proofs.seen.find_shown.Goals as goal

pub returns-in_err-place-clause-found : goal.returns-in_err-place-clause-found
returns-in_err-place-clause-found c = search (rules, found_shown (view c.args.document.now) (tokens_left c.args.tokens) _ c.requires c.find.ensures)

pub returns-then-is_mark-clause-found : goal.returns-then-is_mark-clause-found
returns-then-is_mark-clause-found c = search (rules, found_shown (view c.args.document.now) (tokens_left c.args.tokens) _ c.requires c.find.ensures)

pub returns-clause-found : goal.returns-clause-found
returns-clause-found c = search (rules, found_shown (view c.args.document.now) (tokens_left c.args.tokens) _ c.requires c.find.ensures)

pub returns-clause-value : goal.returns-clause-value
returns-clause-value c = search (rules, value_shown (view c.args.document.now) (tokens_left c.args.tokens) _ c.requires c.find.ensures)
