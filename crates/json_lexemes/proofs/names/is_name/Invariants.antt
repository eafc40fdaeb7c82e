use Rattle.std.proofs.Common.{length, drop, ◌-◌, ◌≡◌, ◌≤◌}
use Rattle.std.specs.Prelude.{Some}
use Rattle.json.specs.Text.{content, plain}
use Rattle.json_lexemes.proofs.names.is_name.Given as goal

abbrev pub invariant-loop-i : goal.invariant-loop-i
invariant-loop-i l = record {
  low : l.i ≤ length l.text;
  high : l.j ≤ length l.name;
  forth : content plain (drop l.from l.text) ≡ Some l.name → content plain (drop l.i l.text) ≡ Some (drop l.j l.name);
  back : content plain (drop l.i l.text) ≡ Some (drop l.j l.name) → content plain (drop l.from l.text) ≡ Some l.name;
}

abbrev pub decreases-loop-i : goal.decreases-loop-i
decreases-loop-i l = length l.text - l.i
