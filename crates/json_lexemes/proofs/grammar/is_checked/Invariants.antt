use Rattle.std.proofs.Common.{true, ◌≡◌, ◌-◌, ◌≤◌, length}
use Rattle.json.specs.Json.{Json}
use Rattle.json.specs.Tree.{depth}
use Rattle.json_lexemes.specs.Places.{left_at, IsEnd}
use Rattle.json_lexemes.specs.Followed.{IsAhead}
use Rattle.json_lexemes.specs.Spelled.{Says}
use Rattle.json_lexemes.specs.Grammar.{AreStops, Begins, innermost}
use Rattle.json_lexemes.proofs.grammar.is_checked.Given as goal

abbrev pub invariant-loop-next : goal.invariant-loop-next
invariant-loop-next l = record {
  high : l.i ≤ length l.text;
  size : length l.objects ≡ 128;
  room : l.depth ≤ l.most;
  most : l.most ≤ 128;
  levels : l.most ≤ l.levels;
  end : IsEnd l.text l.i;
  ahead : l.wanted ≡ true → IsAhead l.text l.signposts l.depth l.i;
  stops : AreStops l.text l.stops.base l.stops.bits;
  follows : Begins (l.most - l.depth) (innermost l.objects l.depth) (left_at l.text l.i) → (j : Json) × Says l.text j × (depth j ≤ l.levels);
}

abbrev pub decreases-loop-next : goal.decreases-loop-next
decreases-loop-next l = length l.text - l.i
