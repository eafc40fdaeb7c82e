-- What is read within the limits, and why a text isn't: what the calls on texts say of it, where how deep it nests was looked at first.
use Rattle.std.proofs.Common.{◌≡◌, ◌≤◌, ◌<◌, ◌⊎◌, ◌∙◌, inl, inr, Bool, false, ℕ, List, Option, Some, None, ap, arith, is_some, subst, sym, true}
use Rattle.std.specs.Prelude.{IfSome, IsSome, IsUtf8, max, option_map, string_bytes}
use Rattle.std.proofs.Math.Nat.{max-le}
use Rattle.std.proofs.lemmas.Bool.{cases_lt, false≢true, true≢false}
use Rattle.std.proofs.lemmas.Str.{IsUtf8-string_bytes}
use Rattle.std.specs.Bool.{Decides}
use Rattle.std.specs.declared.alloc.Global.{Global}
use Rattle.std.specs.declared.string.String.{String}
use Rattle.json.specs.Json.{Json, document}
use Rattle.json_diff_text.specs.Differences.{IsDiffTextFault, most_levels}
use Rattle.json_diff_text.specs.declared.fault.DiffTextFault.{DiffTextFault}
use Rattle.json_diff_text.specs.declared.fault.DiffTextFault.TheVariants as diff
use Rattle.json_kept_text.specs.Faults.{IsNoMergePatch, IsNoWayTo, IsUnkept}
use Rattle.json_kept_text.specs.Kept.{IsReadable}
use Rattle.json_lexemes.proofs.Nests.{accepted, nests}
use Rattle.json_lexemes.specs.Skipped.{nesting}
use Rattle.json_lexemes.specs.Spelled.{IsShallowText, Says}
use Rattle.json_merge_text.specs.Merged.{IsMergeTextFault}
use Rattle.json_merge_text.specs.declared.fault.MergeTextFault.{MergeTextFault}
use Rattle.json_merge_text.specs.declared.fault.MergeTextFault.TheVariants as merge
use Rattle.json_kept_text.specs.Inner.{IsSound, LeadsThere, change_of}
use Rattle.json_kept_text.specs.declared.kept.Past.{Past}
use Rattle.json_patch_limits.specs.declared.limits.Limits.{Limits}
use Rattle.json_patch_text.specs.Patched.{AcceptsPatch}
use Rattle.json_pieces.proofs.Utf8.{made_utf8}
use Rattle.json_pieces.specs.Whole.{ArePieces, LeadsBack, text_of}
use Rattle.json_pieces.specs.declared.pieces.Pieces.{Pieces}
use Rattle.json_text.specs.Faults.{IsTextFault}
use Rattle.json_text.specs.declared.fault.TextFault.{TextFault}
use Rattle.json_text.specs.declared.fault.TextFault.TheVariants as fault

-- ---- what is read

pub shallow : (l : Limits) (text : List ℕ) → l.depth ≤ most_levels → IsReadable l text → (j : Json) × IsShallowText text j
shallow l text few (utf8, (j, says), low) = (j, (says, omega (arith, few, low, nests text j says)))

pub known_readable : (l : Limits) (text : List ℕ) → IsUtf8 text → IsSome (document text) → nesting text ≤ l.depth → IsReadable l text
known_readable l text utf8 read low = let said = accepted text read in (utf8, (said.0, said.1.0), low)

pub readable : (l : Limits) (p : Pieces) (j : Json) → Says (text_of p) j → nesting (text_of p) ≤ l.depth → IsReadable l (text_of p)
readable l p j says low = (made_utf8 p, (j, says), low)

pub merged_readable : (l : Limits) (text patch : List ℕ) (s : String Global) (j : Json) → Says (string_bytes s) j → nesting text ≤ l.depth → nesting patch ≤ l.depth
    → nesting (string_bytes s) ≤ max (nesting text) (nesting patch) → IsReadable l (string_bytes s)
merged_readable l text patch s j says low fits deep = let most : max (nesting text) (nesting patch) ≤ l.depth = max-le low fits in (IsUtf8-string_bytes s, (j, says), omega (arith, deep, most))

pub not_deeper : (text : List ℕ) (levels : ℕ) (b : Bool) → Decides b (levels < nesting text) → b ≡ false → nesting text ≤ levels
not_deeper text levels b d off = by (cases_lt levels (nesting text))
  where
    by : (levels < nesting text) ⊎ (nesting text ≤ levels) → nesting text ≤ levels
    by (inl h) = absurd (false≢true (sym off ∙ d.1 h))
    by (inr h) = h

-- ---- why a text isn't

pub unkept : (l : Limits) (text : List ℕ) (f : TextFault) → l.depth ≤ most_levels → nesting text ≤ l.depth → IsTextFault text f → IsUnkept l text f
unkept l text fault.NotJson few fits why = (fits, why)
unkept l text fault.TooDeep few fits why = absurd (omega (arith, few, fits, why))
unkept l text (fault.Memory m) few fits why = tt

pub unmerged : (l : Limits) (text patch : List ℕ) (f : MergeTextFault) → l.depth ≤ most_levels → IsReadable l text → nesting patch ≤ l.depth → IsMergeTextFault text patch f → IsNoMergePatch l patch f
unmerged l text patch (merge.Document fault.NotJson) few (utf8, said, low) fits why = why said.0 said.1
unmerged l text patch (merge.Document fault.TooDeep) few (utf8, said, low) fits why = omega (arith, few, low, why)
unmerged l text patch (merge.Document (fault.Memory m)) few (utf8, said, low) fits why = why
unmerged l text patch (merge.Patch fault.NotJson) few here fits why = (fits, why)
unmerged l text patch (merge.Patch fault.TooDeep) few here fits why = absurd (omega (arith, few, fits, why))
unmerged l text patch (merge.Patch (fault.Memory m)) few here fits why = why
unmerged l text patch (merge.Memory m) few here fits why = tt

pub no_way : (l : Limits) (text to : List ℕ) (f : DiffTextFault) → l.depth ≤ most_levels → IsReadable l text → nesting to ≤ l.depth → IsDiffTextFault text to f → IsNoWayTo l to f
no_way l text to (diff.From fault.NotJson) few (utf8, said, low) fits why = why said.0 said.1
no_way l text to (diff.From fault.TooDeep) few (utf8, said, low) fits why = omega (arith, few, low, why)
no_way l text to (diff.From (fault.Memory m)) few (utf8, said, low) fits why = why
no_way l text to (diff.To fault.NotJson) few here fits why = (fits, why)
no_way l text to (diff.To fault.TooDeep) few here fits why = absurd (omega (arith, few, fits, why))
no_way l text to (diff.To (fault.Memory m)) few here fits why = why
no_way l text to (diff.Memory m) few here fits why = tt

-- ---- a change that is refused

pub left_sound : (l : Limits) (old new : Pieces) (last : Option Past) → l.depth ≤ most_levels → ArePieces new → IsReadable l (text_of old) → text_of new ≡ text_of old → ((t : List ℕ) → LeadsBack old t → LeadsBack new t) → IfSome last (LeadsThere l old)
    → IsSound (record { pieces = new; limits = l; last = last })
left_sound l old new None few are read same still back = record { bounded = few; pieces = are; readable = subst (IsReadable l) (sym same) read; back = tt }
left_sound l old new (Some p) few are read same still (before, accepts, leads) =
    record { bounded = few; pieces = are; readable = subst (IsReadable l) (sym same) read; back = (before, subst (λ t. AcceptsPatch t (string_bytes p.inverse) p.before.text) (sym same) accepts, still p.before.text leads) }

-- ---- a change that is taken back

pub back_there : (l : Limits) (old new : Pieces) (last : Option Past) → is_some last ≡ true → ((t : List ℕ) → LeadsBack old t → text_of new ≡ t) → IfSome last (LeadsThere l old)
    → IsReadable l (text_of new) × (option_map (λ c. c.before) (option_map change_of last) ≡ Some (text_of new))
back_there l old new None e to back = absurd (true≢false (sym e))
back_there l old new (Some p) e to (before, accepts, leads) = let same = sym (to p.before.text leads) in (subst (IsReadable l) same before, ap Some same)
