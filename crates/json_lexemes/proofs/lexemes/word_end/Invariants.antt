use Rattle.std.proofs.Common.{length, drop, ◌-◌, ◌≡◌, ◌≤◌, ◌⊎◌, get_or, false}
use Rattle.json.specs.Word.{is_space}
use Rattle.json.specs.Lex.{in_word, lex}
use Rattle.json_lexemes.specs.Places.{mode_at}
use Rattle.json_lexemes.proofs.lexemes.word_end.Given as goal

abbrev pub invariant-loop-i : goal.invariant-loop-i
invariant-loop-i l = record {
  low : l.from ≤ l.i;
  high : l.i ≤ length l.text;
  left : lex in_word (drop l.i l.text) ≡ lex in_word (drop l.from l.text);
  mode : mode_at l.text l.from ≡ in_word → mode_at l.text l.i ≡ in_word;
  back : (l.i ≡ l.from) ⊎ (is_space (get_or l.text (l.i - 1) 0) ≡ false);
}

abbrev pub decreases-loop-i : goal.decreases-loop-i
decreases-loop-i l = length l.text - l.i
