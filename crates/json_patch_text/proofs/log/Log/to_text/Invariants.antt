use Rattle.std.proofs.Common.{◌≡◌, ◌++◌, map, string_bytes}
use Rattle.json_patch_text.specs.Undos.{backward_text}
use Rattle.json_patch_text.proofs.Logged.{behind, coming}
use Rattle.json_patch_text.proofs.log.Log.to_text.Given as goal

abbrev pub invariant-loop-number : goal.invariant-loop-number
invariant-loop-number l = string_bytes l.text ++ behind l.number (coming l.self.texts.items l.count l.number) ≡ backward_text (map string_bytes l.self.texts.items)
