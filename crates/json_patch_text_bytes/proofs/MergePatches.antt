-- A merge patch that is made of two texts, and that none can be: the texts a and b are the bytes.
use Rattle.std.proofs.Common.{◌≡◌, ◌≤◌, ◌↔◌, ℕ, List, arith, subst, sym}
use Rattle.std.specs.Prelude.{IfSome, IsUtf8, None, Option, Some, max, string_bytes}
use Rattle.std.specs.declared.alloc.Global.{Global}
use Rattle.std.specs.declared.string.String.{String}
use Rattle.std.proofs.Math.Nat.{max-le}
use Rattle.std.proofs.lemmas.Str.{IsUtf8-string_bytes}
use Rattle.json.specs.Json.{Json}
use Rattle.json_lexemes.specs.Skipped.{nesting}
use Rattle.json_lexemes.specs.Spelled.{Says}
use Rattle.json_diff_text.specs.Differences.{SaySame}
use Rattle.json_diff_text.specs.Merges.{IsLedByEmpty, SaysBoth, SaysEmpty, TextResets, TextWantsNull}
use Rattle.json_merge_text.specs.Merged.{SaysMerged}
use Rattle.json_patch.specs.Limits.{Limits}
use Rattle.json_patch_text_bytes.specs.MergePatches.{AreNeverJoined, HasNoMergeDifference, IsJoined, IsMergeDifference}
use Rattle.json_patch_text_bytes.specs.Texts.{IsJsonText}

is_text : (levels : ℕ) (bytes a : List ℕ) (j : Json) → a ≡ bytes → IsUtf8 bytes → nesting bytes ≤ levels → Says a j → IsJsonText levels a
is_text levels bytes a j same utf8 flat says = (subst IsUtf8 (sym same) utf8, (j, says), subst (λ s. nesting s ≤ levels) (sym same) flat)

-- ---- between two texts

pub is_merge_difference : (l : Limits) (from to a b : List ℕ) (o : Option (String Global)) → a ≡ from → b ≡ to → IsUtf8 from → nesting from ≤ l.depth → IsUtf8 to → nesting to ≤ l.depth
    → IfSome o (λ patch. SaysMerged a (string_bytes patch) b) → IfSome o (λ patch. (new : List ℕ) → SaysMerged a (string_bytes patch) new → SaySame new b)
    → IfSome o (λ patch. SaysEmpty (string_bytes patch) ↔ IsLedByEmpty a b) → IfSome o (λ patch. nesting (string_bytes patch) ≤ nesting b)
    → IfSome o (λ patch. IsMergeDifference l from to (string_bytes patch))
is_merge_difference l from to a b None same same_to utf8 flat utf8_to flat_to leads gives nothing low = tt
is_merge_difference l from to a b (Some patch) same same_to utf8 flat utf8_to flat_to leads gives nothing low =
    let second = is_text l.depth to b leads.2 same_to utf8_to flat_to leads.5 in
    let at : IsMergeDifference l a b (string_bytes patch) = record {
      first = is_text l.depth from a leads.0 same utf8 flat leads.3;
      second = second;
      leads = leads;
      gives = gives;
      nothing = nothing;
      again = (IsUtf8-string_bytes patch, (leads.1, leads.4), omega (arith, low, second.2));
    } in
    subst (λ s. IsMergeDifference l s to (string_bytes patch)) same (subst (λ s. IsMergeDifference l a s (string_bytes patch)) same_to at)

pub has_no_merge_difference : (l : Limits) (from to a b : List ℕ) → a ≡ from → b ≡ to → IsUtf8 from → nesting from ≤ l.depth → IsUtf8 to → nesting to ≤ l.depth
    → ((patch : List ℕ) → ¬ SaysMerged a patch b) → TextWantsNull a b → HasNoMergeDifference l from to
has_no_merge_difference l from to a b same same_to utf8 flat utf8_to flat_to impossible wants =
    let at : HasNoMergeDifference l a b = record {
      first = is_text l.depth from a wants.0 same utf8 flat wants.2;
      second = is_text l.depth to b wants.1 same_to utf8_to flat_to wants.3;
      impossible = impossible;
      wants_null = wants;
    } in
    subst (λ s. HasNoMergeDifference l s to) same (subst (λ s. HasNoMergeDifference l a s) same_to at)

-- ---- one that does what two do

pub is_joined : (l : Limits) (first then a b : List ℕ) (o : Option (String Global)) → a ≡ first → b ≡ then → IsUtf8 first → nesting first ≤ l.depth → IsUtf8 then → nesting then ≤ l.depth
    → IfSome o (λ patch. SaysBoth a b (string_bytes patch))
    → IfSome o (λ patch. (text mid new : List ℕ) → SaysMerged text a mid → SaysMerged mid b new → SaysMerged text (string_bytes patch) new)
    → IfSome o (λ patch. nesting (string_bytes patch) ≤ max (nesting a) (nesting b)) → IfSome o (λ patch. IsJoined l first then (string_bytes patch))
is_joined l first then a b None same same_then utf8 flat utf8_then flat_then both in_turn low = tt
is_joined l first then a b (Some patch) same same_then utf8 flat utf8_then flat_then both in_turn low =
    let earlier = is_text l.depth first a both.0 same utf8 flat both.3 in let later = is_text l.depth then b both.1 same_then utf8_then flat_then both.4 in
    let most : max (nesting a) (nesting b) ≤ l.depth = max-le earlier.2 later.2 in
    let at : IsJoined l a b (string_bytes patch) = record {
      earlier = earlier;
      later = later;
      both = both;
      in_turn = in_turn;
      again = (IsUtf8-string_bytes patch, (both.2, both.5), omega (arith, low, most));
    } in
    subst (λ s. IsJoined l s then (string_bytes patch)) same (subst (λ s. IsJoined l a s (string_bytes patch)) same_then at)

pub are_never_joined : (l : Limits) (first then a b : List ℕ) → a ≡ first → b ≡ then → IsUtf8 first → nesting first ≤ l.depth → IsUtf8 then → nesting then ≤ l.depth
    → ((patch : List ℕ) → ¬ SaysBoth a b patch) → TextResets a b → AreNeverJoined l first then
are_never_joined l first then a b same same_then utf8 flat utf8_then flat_then impossible resets =
    let at : AreNeverJoined l a b = record {
      earlier = is_text l.depth first a resets.0 same utf8 flat resets.2;
      later = is_text l.depth then b resets.1 same_then utf8_then flat_then resets.3;
      impossible = impossible;
      resets = resets;
    } in
    subst (λ s. AreNeverJoined l s then) same (subst (λ s. AreNeverJoined l a s) same_then at)
