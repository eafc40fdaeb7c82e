-- That a value is a document, that the values of operations are, that patches are each whole, and that they are a trail,
-- has one proof at most, so that each may be a ghost field of a type.
use Rattle.std.specs.Prelude.{◌≡◌, ◌<◌, ◌^◌, ℕ, pos, negsuc, List, [], ◌∷◌, Option, Some, None, IfSome, Ok, Err}
use mathlib.Core.Path.{refl}
use Rattle.std.proofs.Props.{props}
use Rattle.std.specs.Ordering.{nat_cmp}
use Rattle.std.specs.declared.cmp.Ordering.TheVariants.{Less}
use Rattle.std.specs.Cmp.Lexicographic.{slice_cmp}
use Rattle.serde_json.specs.Data.{Num, unsigned, negative, float, Data, null, boolean, number, string, array, object}
use Rattle.serde_json.specs.Data.{Items, no_items, item, Members, no_members, member}
use Rattle.json_patch_document.specs.Document.{IsBelowMembers, IsWhole, IsDocument, AreDocuments, AreMembers}
use Rattle.json_patch_operation.specs.Operation.{Operation, parts_of, AreWhole, operations_of}
use Rattle.json_patch_edit.specs.RunComputed.{Outcome, after_run}
use Rattle.json_patch_laws.specs.Trails.{AreEachWhole, IfEnds, IsTrail}
use Rattle.json_patch_operation.specs.declared.operation.Patch.{Patch}

IsBelowMembers-prop : (k : List ℕ) (ms : Members) → IsProp (IsBelowMembers k ms)
IsBelowMembers-prop k no_members p q = refl
IsBelowMembers-prop k (member l d ms) p q =
    let less : IsProp (slice_cmp nat_cmp k l ≡ Less) = Prim.hlevel props in
    λ i. (less p.0 q.0 i, IsBelowMembers-prop k ms p.1 q.1 i)

IsWhole-prop : (n : Num) → IsProp (IsWhole n)
IsWhole-prop (unsigned n) p q = let small : IsProp (n < 2 ^ 64) = Prim.hlevel props in small p q
IsWhole-prop (negative (pos n)) p q = absurd p
IsWhole-prop (negative (negsuc n)) p q = let small : IsProp (n < 2 ^ 63) = Prim.hlevel props in small p q
IsWhole-prop (float x) p q = absurd p

mutual
  pub IsDocument-prop : (d : Data) → IsProp (IsDocument d)
  IsDocument-prop null p q = refl
  IsDocument-prop (boolean b) p q = refl
  IsDocument-prop (number n) p q = IsWhole-prop n p q
  IsDocument-prop (string s) p q = refl
  IsDocument-prop (array ds) p q = AreDocuments-prop ds p q
  IsDocument-prop (object ms) p q = AreMembers-prop ms p q

  AreDocuments-prop : (ds : Items) → IsProp (AreDocuments ds)
  AreDocuments-prop no_items p q = refl
  AreDocuments-prop (item d ds) p q = λ i. (IsDocument-prop d p.0 q.0 i, AreDocuments-prop ds p.1 q.1 i)

  AreMembers-prop : (ms : Members) → IsProp (AreMembers ms)
  AreMembers-prop no_members p q = refl
  AreMembers-prop (member k d ms) p q = λ i. (IsBelowMembers-prop k ms p.0 q.0 i, IsDocument-prop d p.1 q.1 i, AreMembers-prop ms p.2 q.2 i)

value-prop : (o : Option Data) → IsProp (IfSome o IsDocument)
value-prop None p q = refl
value-prop (Some d) p q = IsDocument-prop d p q

pub AreWhole-prop : (ops : List Operation) → IsProp (AreWhole ops)
AreWhole-prop [] p q = refl
AreWhole-prop (op ∷ ops) p q = λ i. (value-prop (parts_of op).value p.0 q.0 i, AreWhole-prop ops p.1 q.1 i)

pub AreEachWhole-prop : (ps : List Patch) → IsProp (AreEachWhole ps)
AreEachWhole-prop [] p q = refl
AreEachWhole-prop (x ∷ ps) p q = λ i. (AreWhole-prop (operations_of x) p.0 q.0 i, AreEachWhole-prop ps p.1 q.1 i)

IfEnds-prop : (o : Outcome) (P : Data → Type 0) → ((e : Data) → IsProp (P e)) → IsProp (IfEnds o P)
IfEnds-prop (Ok e) P one p q = one e p q
IfEnds-prop (Err f) P one p q = absurd p

pub IsTrail-prop : (d : Data) (ps : List Patch) → IsProp (IsTrail d ps)
IsTrail-prop d [] p q = refl
IsTrail-prop d (x ∷ ps) p q =
    λ i. (AreWhole-prop (operations_of x) p.0 q.0 i, IfEnds-prop (after_run d (operations_of x)) (λ e. IsTrail e ps) (λ e. IsTrail-prop e ps) p.1 q.1 i)
