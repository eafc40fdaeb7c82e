use Rattle.std.proofs.Common.{◌≡◌, ℕ, ◌+◌, List, drop, option_map}
use Rattle.json_merge_text.specs.Lasts.{behind_or, last_of, place_in}
use Rattle.json_merge_text.proofs.merging.last_places.Given as goal

-- those ahead, by their numbers from the first one on, or else what the map has
abbrev pub invariant-loop-index : goal.invariant-loop-index
invariant-loop-index l = (k : List ℕ) → behind_or (option_map (λ n. l.index + n) (last_of k (drop l.index l.members.items))) (place_in l.lasts k) ≡ last_of k l.members.items
