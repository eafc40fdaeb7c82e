-- One merge patch of two, each name by itself.
use Rattle.std.specs.Prelude.{◌≡◌, ◌≢◌, ℕ, List, Option, Some, None, String}
use Rattle.std.specs.BTreeMap.{BTreeMap}
use Rattle.std.specs.declared.alloc.Global.{Global}
use Rattle.serde_json.specs.Data.{Data, object, Members}
use Rattle.serde_json.specs.Find.{get, get_member}
use Rattle.serde_json.specs.View.{view, members_view}
use Rattle.serde_json.specs.declared.value.Value.{Value}
use Rattle.json_patch_document.specs.Document.{IsDocument, AreMembers, sight_of}
use Rattle.json_patch_document.specs.Sight.{Sight}
use Rattle.json_merge_diff.specs.Leads.{Resets}

mutual
  -- r is p and then q
  pub data IsComposed : Data → Data → Data → Type 0 where
    replaces : {p q : Data} → sight_of q ≢ Sight.object → IsComposed p q q
    by_key : {p q r : Data} → sight_of p ≡ Sight.object → sight_of q ≡ Sight.object → sight_of r ≡ Sight.object → ((k : List ℕ) → IsComposedMember (get k p) (get k q) (get k r)) → IsComposed p q r

  -- at one key: what the first has there, what the second has, and what the one has that does both
  pub data IsComposedMember : Option Data → Option Data → Option Data → Type 0 where
    first : {o : Option Data} → IsComposedMember o None o
    second : {q : Data} → IsComposedMember None (Some q) (Some q)
    both : {p q r : Data} → IsComposed p q r → IsComposedMember (Some p) (Some q) (Some r)

-- ---- for private clauses

-- the members of the one
abbrev pub AreComposed : Members → Members → Option (BTreeMap (String Global) Value) → Type 0
AreComposed ps qs (Some rs) = AreMembers (members_view rs.entries) × ((k : List ℕ) → IsComposedMember (get_member k ps) (get_member k qs) (get_member k (members_view rs.entries)))
AreComposed ps qs None = Resets (object ps) (object qs)

abbrev pub IsComposedOrNone : Data → Data → Option Value → Type 0
IsComposedOrNone p q (Some r) = IsComposed p q (view r) × IsDocument (view r)
IsComposedOrNone p q None = Resets p q

-- at a name that the second has
abbrev pub IsComposedAt : Option Data → Data → Option Value → Type 0
IsComposedAt (Some p) q o = IsComposedOrNone p q o
IsComposedAt None q (Some r) = (q ≡ view r) × IsDocument (view r)
IsComposedAt None q None = ⊥
