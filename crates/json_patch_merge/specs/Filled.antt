-- For private clauses: a merge but for its removals, and what takes it back.
use Rattle.std.specs.Prelude.{◌≡◌, ◌≢◌, ⊤, ℕ, List, [], ◌∷◌, ◌++◌, map, Option, Some, None, unwrap_or, Result, Ok, Err}
use Rattle.std.specs.Prelude.{Vec}
use Rattle.std.specs.Borrow.{Bor}
use Rattle.std.specs.declared.alloc.AllocError.{AllocError}
use Rattle.std.specs.declared.alloc.Global.{Global}
use Rattle.serde_json.specs.Data.{Data, null, object, Members, no_members, member, put}
use Rattle.serde_json.specs.Find.{get, get_member}
use Rattle.serde_json.specs.View.{view}
use Rattle.json_patch_document.specs.ChangeComputed.{without}
use Rattle.json_patch_document.specs.Document.{IsDocument, AreMembers, sight_of}
use Rattle.json_patch_document.specs.Sight.{Sight}
use Rattle.json_patch_merge.specs.Merged.{IsMerged, IsMergedMember}
use Rattle.json_patch_merge.specs.declared.merging.Before.{Before, Filled, fold-Before}
use Rattle.json_patch_merge.specs.declared.merging.Before.TheOpen.{Before-F}

mutual
  -- w is d with the merge patch p merged into it, but for the members that p removes
  pub data IsFilled : Data → Data → Data → Type 0 where
    replaces : {d p : Data} → sight_of p ≢ Sight.object → IsFilled d p p
    by_key : {d p w : Data} → sight_of p ≡ Sight.object → sight_of w ≡ Sight.object → ((k : List ℕ) → IsFilledMember (get k d) (get k p) (get k w)) → IsFilled d p w

  pub data IsFilledMember : Option Data → Option Data → Option Data → Type 0 where
    stays : {was : Option Data} → IsFilledMember was None was
    left : {was now : Option Data} → IsFilledMember was (Some null) now
    fills : {was : Option Data} {q w : Data} → q ≢ null → IsFilled (unwrap_or was null) q w → IsFilledMember was (Some q) (Some w)

-- the members ms, with this or nothing at the name k
abbrev pub with_member : List ℕ → Option Data → Members → Members
with_member k None ms = without k ms
with_member k (Some d) ms = put k d ms

-- the members before the changes of a log, the last of which is taken back first
abbrev pub restore_members : List (Bor (List ℕ) × (Option Data → Option Data)) → Members → Members
restore_members [] ms = ms
restore_members (e ∷ log) ms = let ns = restore_members log ms in with_member e.0.now (e.1 (get_member e.0.now ns)) ns

-- one level: the logs within it are given as the functions that take them back
abbrev pub former_value_step : Before-F (Option Data → Option Data) → Option Data → Option Data
former_value_step Before-F.Absent now = None
former_value_step (Before-F.Replaced v) None = None
former_value_step (Before-F.Replaced v) (Some d) = Some (view v)
former_value_step (Before-F.Filled log) (Some (object ms)) = Some (object (restore_members log.items ms))
former_value_step (Before-F.Filled log) now = now

-- what stood there before, by what stands there now
abbrev pub former_value : Before → Option Data → Option Data
former_value = fold-Before (Option Data → Option Data) former_value_step

-- the members before the changes of this log
abbrev pub members_before : List (Bor (List ℕ) × Before) → Members → Members
members_before log ms = restore_members (map (λ e. (e.0, former_value e.1)) log) ms

-- a document is filled, and what was found leads back; or, out of memory, it is as it was
abbrev pub Fills : Result Before AllocError → Data → Data → Data → Type 0
Fills (Ok former) d p w = IsDocument d → IsDocument p → IsFilled d p w × IsDocument w × (former_value former (Some w) ≡ Some d)
Fills (Err e) d p w = IsDocument d → IsDocument p → w ≡ d

-- the same of members
abbrev pub FillsAll : Result (Vec (Bor (List ℕ) × Before) Global) AllocError → Members → Members → Members → Type 0
FillsAll (Ok log) ms ps ns = Fills (Ok (Filled log)) (object ms) (object ps) (object ns)
FillsAll (Err e) ms ps ns = Fills (Err e) (object ms) (object ps) (object ns)

-- and of the member at the name t
abbrev pub FillsAt : Result Before AllocError → List ℕ → Members → Data → Members → Type 0
FillsAt (Ok former) t ms q ns = AreMembers ms → IsDocument q → (w : Data) × (ns ≡ put t w ms) × IsFilled (unwrap_or (get_member t ms) null) q w × IsDocument w × (former_value former (Some w) ≡ get_member t ms)
FillsAt (Err e) t ms q ns = AreMembers ms → IsDocument q → ns ≡ ms

-- and the log has what was found, under this name; or, out of memory, it is as it was
abbrev pub LogsMember : Result ⊤ AllocError → List ℕ → List (Bor (List ℕ) × Before) → List (Bor (List ℕ) × Before) → (Result Before AllocError → Type 0) → Type 0
LogsMember (Ok done) t was now Holds = (name : Bor (List ℕ)) × (former : Before) × (name.now ≡ t) × (now ≡ was ++ (name, former) ∷ []) × Holds (Ok former)
LogsMember (Err e) t was now Holds = (now ≡ was) × Holds (Err e)

-- `end` is the member with `named` merged into it, for each member that is `now` when it is filled
abbrev pub IsPrunedMember : Option Data → Option Data → Option Data → Type 0
IsPrunedMember now named end = (was : Option Data) → IsFilledMember was named now → IsMergedMember was named end

abbrev pub ArePruned : Members → Members → Members → Type 0
ArePruned ms ps ns = (k : List ℕ) → IsPrunedMember (get_member k ms) (get_member k ps) (get_member k ns)

-- e is d with p merged into it, for each d that is w when it is filled with p
abbrev pub Prunes : Data → Data → Data → Type 0
Prunes w p e = IsDocument w → IsDocument p → IsDocument e × ((d : Data) → IsFilled d p w → IsMerged d p e)

-- what is filled with p is merged: p removes nothing
abbrev pub RemovesNothing : Data → Type 0
RemovesNothing p = (d w : Data) → IsFilled d p w → IsMerged d p w

-- none of the members is null, nor removes anything
abbrev pub RemoveNothing : Members → Type 0
RemoveNothing no_members = ⊤
RemoveNothing (member k q ps) = (q ≢ null) × RemovesNothing q × RemoveNothing ps
