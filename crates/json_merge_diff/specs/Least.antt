-- For private clauses: the least merge patch that leads from one document to another, each name by itself.
use Rattle.std.specs.Prelude.{◌≡◌, ◌≢◌, ℕ, List, Option, Some, None, option_and_then, unwrap_or}
use Rattle.serde_json.specs.Data.{Data, null, object, Members}
use Rattle.serde_json.specs.Find.{get, get_member}
use Rattle.serde_json.specs.View.{view, members_view}
use Rattle.std.specs.declared.alloc.Global.{Global}
use Rattle.std.specs.BTreeMap.{BTreeMap}
use Rattle.std.specs.Prelude.{String}
use Rattle.serde_json.specs.declared.value.Value.{Value}
use Rattle.json_patch_document.specs.Document.{Segment, IsDocument, AreMembers, sight, sight_of, value_at}
use Rattle.json_patch_document.specs.Sight.{Sight}
use Rattle.json_merge_diff.specs.Leads.{WantsNull, under}
use Rattle.json_merge_diff.specs.declared.difference.Change.{Change}
use Rattle.json_merge_diff.specs.declared.difference.Change.TheVariants.{Nothing, By, Impossible}

mutual
  -- p is the least merge patch that leads from d to e
  pub data IsLeast : Data → Data → Data → Type 0 where
    replaces : {d e : Data} → sight_of e ≢ Sight.object → IsLeast d e e
    by_key : {d e p : Data} → sight_of e ≡ Sight.object → sight_of p ≡ Sight.object → ((k : List ℕ) → IsLeastMember (get k d) (get k e) (get k p)) → IsLeast d e p

  -- at one key: what the document has there, what it is to have, and what the patch has
  pub data IsLeastMember : Option Data → Option Data → Option Data → Type 0 where
    keeps : {was : Option Data} → IsLeastMember was was None
    goes : {c : Data} → IsLeastMember (Some c) None (Some null)
    changes : {was : Option Data} {e q : Data} → was ≢ Some e → e ≢ null → IsLeast (unwrap_or was null) e q → IsLeastMember was (Some e) (Some q)

-- what is seen at a location below a value, if there is one
abbrev pub seen : Option Data → List Segment → Sight
seen o L = sight (option_and_then (λ d. value_at d L) o)

-- under some names, or none, e has a null, and what was there has none
abbrev pub WantsNullAt : Option Data → Data → Type 0
WantsNullAt was e = (ks : List (List ℕ)) × (seen (Some e) (under ks) ≡ Sight.null) × (seen was (under ks) ≢ Sight.null)

-- what changes at a name, from what was there to e
abbrev pub IsChange : Option Data → Data → Change → Type 0
IsChange was e Nothing = was ≡ Some e
IsChange was e (By q) = IsLeastMember was (Some e) (Some (view q)) × IsDocument (view q)
IsChange was e Impossible = WantsNullAt was e

-- at a name that the first alone has: this of what it has there
abbrev pub IsOfFirst : (Data → Data) → Option Data → Option Data → Option Data → Type 0
IsOfFirst f None now o = o ≡ None
IsOfFirst f (Some c) None o = o ≡ Some (f c)
IsOfFirst f (Some c) (Some e) o = o ≡ None

abbrev pub AreOfFirst : (Data → Data) → Members → Members → Members → Type 0
AreOfFirst f ms ns ps = AreMembers ps × ((k : List ℕ) → IsOfFirst f (get_member k ms) (get_member k ns) (get_member k ps))

-- the members of the least patch
abbrev pub AreLeast : Members → Members → Option (BTreeMap (String Global) Value) → Type 0
AreLeast ms ns (Some ps) = AreMembers (members_view ps.entries) × ((k : List ℕ) → IsLeastMember (get_member k ms) (get_member k ns) (get_member k (members_view ps.entries)))
AreLeast ms ns None = WantsNull (object ms) (object ns)

-- the patch, of both at the top
abbrev pub IsLeastOrNone : Data → Data → Option Value → Type 0
IsLeastOrNone d e (Some p) = IsLeast d e (view p) × IsDocument (view p)
IsLeastOrNone d e None = WantsNull d e
