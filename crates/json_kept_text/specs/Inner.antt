-- For private clauses: what the fields of a kept text show, and what is true of them.
use Rattle.std.specs.Prelude.{◌≤◌, IfSome, option_map, string_bytes}
use Rattle.json_diff_text.specs.Differences.{most_levels}
use Rattle.json_kept_text.specs.Kept.{Change, IsReadable, State}
use Rattle.json_kept_text.specs.declared.kept.KeptText.TheInside.{Inside}
use Rattle.json_kept_text.specs.declared.kept.Past.{Past}
use Rattle.json_patch_limits.specs.declared.limits.Limits.{Limits}
use Rattle.json_patch_text.specs.Patched.{AcceptsPatch}
use Rattle.json_pieces.specs.Whole.{ArePieces, LeadsBack, text_of}
use Rattle.json_pieces.specs.declared.pieces.Pieces.{Pieces}

abbrev pub change_of : Past → Change
change_of p = record { before = p.before.text; inverse = string_bytes p.inverse }

abbrev pub shown : Inside → State
shown k = record { text = text_of k.pieces; limits = k.limits; last = option_map change_of k.last }

-- the pieces and the inverse lead from the text to the one before, which is within the limits too
abbrev pub LeadsThere : Limits → Pieces → Past → Type 0
LeadsThere l pieces p = IsReadable l p.before.text × AcceptsPatch (text_of pieces) (string_bytes p.inverse) p.before.text × LeadsBack pieces p.before.text

pub record IsSound (k : Inside) : Type 0 where
  pub bounded : k.limits.depth ≤ most_levels
  pub pieces : ArePieces k.pieces
  pub readable : IsReadable k.limits (text_of k.pieces)
  pub back : IfSome k.last (LeadsThere k.limits k.pieces)
