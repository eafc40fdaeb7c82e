use Rattle.json_patch_text.proofs.Inverses.{back_is_plain, back_is_short, inverse_first, inverse_later, leads_back}
use Rattle.json_patch_text.proofs.laws.inverses.Goals as goal

pub returns : goal.returns
returns c = record {
  first = inverse_first;
  later = inverse_later;
  leads_back = leads_back;
  short = back_is_short;
  plain = back_is_plain;
}
