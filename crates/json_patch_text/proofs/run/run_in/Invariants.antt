use Rattle.std.proofs.Common.{◌≡◌, ◌<◌, ◌≤◌, take}
use Rattle.std.specs.Bool.{Decides}
use Rattle.json.specs.Json.{max_depth}
use Rattle.json_patch_text.specs.Bounded.{IsLoggedUnder, IsReachedUnder}
use Rattle.json_patch_text.specs.Drafts.{IsDraft, KeepsDraft, draft_text}
use Rattle.json_lexemes.specs.Skipped.{nesting}
use Rattle.json_patch_text.proofs.run.run_in.Given as goal

abbrev pub invariant-loop-number : goal.invariant-loop-number
invariant-loop-number l = record {
  draft : IsDraft l.draft;
  back : KeepsDraft l.fn.draft l.draft;
  reached : IsReachedUnder l.bounds (draft_text l.fn.draft) l.operations l.number (draft_text l.draft) l.log.cost;
  deep : Decides l.deep (max_depth < nesting (draft_text l.draft));
  low : l.most ≤ l.levels;
  nested : nesting (draft_text l.draft) ≤ l.levels → nesting (draft_text l.draft) ≤ l.most;
  kept : l.log.kept ≡ l.fn.log.kept;
  logged : IsLoggedUnder l.bounds (draft_text l.fn.draft) (take l.number l.operations) (draft_text l.draft) l.log;
}
