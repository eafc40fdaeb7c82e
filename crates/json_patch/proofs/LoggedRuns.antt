-- What a log says of a run: its counts, and the marks that are cleared.
use Rattle.json_patch.proofs.Common.{◌≡◌, ◌+◌, ◌⊎◌, inl, inr, List, Bool, true, false, refl, sym, ap, ◌∙◌, Data}
use Rattle.json_patch.proofs.Common.{Operation, [], rules, ◌≤◌, arith}
use Rattle.json_patch.proofs.MarkedCounts.{unmarked_seen}
use Rattle.json_patch_edit.specs.Exchange.{room}
use Rattle.json_patch.specs.Logged.{AreRoomy, Tells, held, kept_at, takes, IsFree}
use Rattle.json_patch_edit.specs.Marked.{IsSeen, seen}
use Rattle.json_patch_edit.specs.MarkedComputed.{marks}
use Rattle.json_patch.specs.declared.log.Change.{Change}
use Rattle.json_patch.specs.declared.log.Keep.{Keep}
use Rattle.json_patch.specs.declared.log.Keep.TheVariants.{Inverse, Undo, Neither}
use Rattle.json_patch_edit.specs.NoMemory.{TakesNoMemory}
use Rattle.json_patch.specs.declared.log.Log.{Log}

-- ---- marks that go

pub seen_through : (p q d : Data) → IsSeen q (seen p) → IsSeen p d → IsSeen q d
seen_through p q d h g = record { marked = h.marked; stands = h.stands; is = h.is ∙ g.is }

pub all_gone : (p d : Data) → IsSeen p (seen d) → marks p ≡ 0 → p ≡ seen d
all_gone p d h none = sym (unmarked_seen p none) ∙ h.is

-- ---- what is kept

pub kept_inverse : (keep : Keep) (last empty : Bool) → keep ≡ Inverse → kept_at keep last empty ≡ Inverse
kept_inverse keep last empty is = rw is refl

pub kept_open : (keep kept : Keep) (last empty : Bool) → kept ≡ kept_at keep last empty → (keep ≡ Neither → ⊥) → (last ≡ false) ⊎ (keep ≡ Inverse) → kept ≡ Neither → ⊥
kept_open Neither kept last empty is some undone none = absurd (some refl)
kept_open Inverse kept last empty is some undone none = let e : Inverse ≡ Neither = sym is ∙ none in cc
kept_open Undo kept true empty is some (inl other) none = cc
kept_open Undo kept true empty is some (inr other) none = cc
kept_open Undo kept false empty is some undone none = let e : Undo ≡ Neither = sym is ∙ none in cc

pub kept_last : (keep kept : Keep) (last empty : Bool) → kept ≡ kept_at keep last empty → keep ≡ Undo → last ≡ true → empty ≡ true → kept ≡ Neither
kept_last keep kept last empty is undo so none = is ∙ rw (undo, so, none) refl

-- where nothing is kept of an operation, the log is empty
pub kept_alone : (keep kept : Keep) (last empty : Bool) → kept ≡ kept_at keep last empty → (keep ≡ Neither → ⊥) → kept ≡ Neither → empty ≡ true
kept_alone Neither kept last empty is some none = absurd (some refl)
kept_alone Inverse kept last empty is some none = let e : Inverse ≡ Neither = sym is ∙ none in cc
kept_alone Undo kept true true is some none = refl
kept_alone Undo kept true false is some none = let e : Undo ≡ Neither = sym is ∙ none in cc
kept_alone Undo kept false empty is some none = let e : Undo ≡ Neither = sym is ∙ none in cc

-- ---- a single operation

pub free_alone : (op : Operation) → TakesNoMemory op → IsFree op Neither
free_alone op h = search rules

module _ (olds news : Log) (d e : Data) (cs : List Change) (none : olds.changes.items ≡ []) (is : news.changes.items ≡ cs) (t : Tells olds news d e) where
  pub counted_alone : marks d ≡ 0 → marks e + held cs ≤ takes cs
  counted_alone unmarked =
      let first : takes olds.changes.items ≡ 0 = ap takes none in
      let before : held olds.changes.items ≡ 0 = ap held none in
      rw (← is) (omega (arith, t.counts))

  pub roomy_alone : AreRoomy (room news.names) cs
  roomy_alone = rw (← is) (t.roomy (rw none tt))
