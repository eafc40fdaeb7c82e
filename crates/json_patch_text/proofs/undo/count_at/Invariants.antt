use Rattle.std.proofs.Common.{◌≡◌, ◌≤◌, Some}
use Rattle.json.specs.Json.{Items, Json, array}
use Rattle.jsonptr.specs.Pointers.{tokens_of}
use Rattle.json_lexemes.specs.Spelled.{Says}
use Rattle.json_patch_text.specs.Changed.{count}
use Rattle.json_patch_text.specs.Drafts.{IsDraft, KeepsDraft, draft_text}
use Rattle.json_text.specs.Pointed.{tree_at}
use Rattle.json_patch_text.proofs.undo.count_at.Given as goal

abbrev pub invariant-loop-halving : goal.invariant-loop-halving
invariant-loop-halving l = record {
  draft : IsDraft l.draft;
  back : KeepsDraft l.fn.draft l.draft;
  kept : draft_text l.draft ≡ draft_text l.fn.draft;
  few : (i : Json) (js : Items) → Says (draft_text l.fn.draft) i → tree_at (tokens_of l.place) i ≡ Some (array js) → l.low ≤ count js;
  order : l.low ≤ l.high;
}
