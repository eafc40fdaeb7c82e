use Rattle.json_patch_operation.proofs.Common.{rules}
use Rattle.json_patch_operation.proofs.Texts.{hexadecimal, escaped_control, hexadecimal-four_digits}
use Rattle.json_patch_operation.proofs.printing.write_character.Goals as goal

pub returns-in_default : goal.returns-in_default
returns-in_default g c = search (rules, hexadecimal, escaped_control, hexadecimal-four_digits)
