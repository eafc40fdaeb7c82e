use Rattle.std.proofs.Common.{true, ◌≡◌, ◌+◌, ◌-◌, ◌≤◌, ℕ, length}
use Rattle.json_lexemes.specs.Places.{left_at, IsEnd}
use Rattle.json_lexemes.specs.Followed.{IsBehind}
use Rattle.json_lexemes.specs.Grammar.{AreStops, Completes, innermost}
use Rattle.json_lexemes.proofs.grammar.past_closing.Given as goal

abbrev pub invariant-loop-nested : goal.invariant-loop-nested
invariant-loop-nested l = record {
  low : l.from ≤ l.i;
  high : l.i ≤ length l.text;
  fewer : l.nested ≤ l.nest.depth;
  end : IsEnd l.text l.i;
  behind : l.nest.wanted ≡ true → IsBehind l.text l.signposts l.nested l.i;
  stops : AreStops l.text l.stops.base l.stops.bits;
  follows : (n : ℕ) → Completes (n + (l.nest.depth - l.nested)) (innermost l.nest.objects.now l.nested) (left_at l.text l.i) → Completes n (innermost l.nest.objects.now l.nest.depth) (left_at l.text l.from);
}

abbrev pub decreases-loop-nested : goal.decreases-loop-nested
decreases-loop-nested l = l.nested
