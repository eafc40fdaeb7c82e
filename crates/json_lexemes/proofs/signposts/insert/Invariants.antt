use Rattle.std.proofs.Common.{◌≡◌, ◌≤◌, ◌<◌, ℕ, List, length, get_or}
use Rattle.std.specs.Prelude.{◌≢◌}
use Rattle.json_lexemes.specs.Signposts.{IsPassed}
use Rattle.json_lexemes.specs.declared.span.Span.{Span}
use Rattle.json_lexemes.proofs.signposts.insert.Given as goal

-- all but the one at `at` are known
abbrev pub invariant-loop-at : goal.invariant-loop-at
invariant-loop-at l = record {
  low : l.at ≤ l.count;
  size : length l.spans ≡ 128;
  known : (t : List ℕ) → ((k : ℕ) (d : Span) → k < l.count → IsPassed t (get_or l.initial.spans k d)) → (k : ℕ) (d : Span) → k ≤ l.count → k ≢ l.at → IsPassed t (get_or l.spans k d);
}

abbrev pub decreases-loop-at : goal.decreases-loop-at
decreases-loop-at l = l.at
