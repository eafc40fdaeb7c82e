-- What a reader and a writer that watch themselves have seen.
use Rattle.std.specs.Prelude.{◌≡◌, false}
use Rattle.json_patch_tool.specs.declared.watch.WatchedReader.{WatchedReader}
use Rattle.json_patch_tool.specs.declared.watch.WatchedWriter.{WatchedWriter}

-- nothing was read yet
abbrev pub IsUnread : {R : Type 0} → WatchedReader R → Type 0
IsUnread r = (r.calls ≡ 0) × (r.has_ended ≡ false) × (r.has_failed ≡ false)

-- nothing was written yet
abbrev pub IsUnwritten : {W : Type 0} → WatchedWriter W → Type 0
IsUnwritten w = (w.has_failed ≡ false) × (w.is_flushed ≡ false)
