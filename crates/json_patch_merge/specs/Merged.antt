-- What a merge patch leaves of a document (RFC 7396, section 2), each key by itself.
use Rattle.std.specs.Prelude.{◌≡◌, ◌≢◌, ℕ, List, Option, Some, None, unwrap_or}
use Rattle.serde_json.specs.Data.{Data, null}
use Rattle.serde_json.specs.Find.{get}
use Rattle.json_patch_document.specs.Document.{sight_of}
use Rattle.json_patch_document.specs.Sight.{Sight}

mutual
  -- e is d with the merge patch p merged into it
  pub data IsMerged : Data → Data → Data → Type 0 where
    -- a patch that is no object is the result
    replaces : {d p : Data} → sight_of p ≢ Sight.object → IsMerged d p p
    -- one that is an object leaves an object; a document that is none counts as one with no members
    by_key : {d p e : Data} → sight_of p ≡ Sight.object → sight_of e ≡ Sight.object → ((k : List ℕ) → IsMergedMember (get k d) (get k p) (get k e)) → IsMerged d p e

  -- at one key: what the document had there, what the patch has, and what is left
  pub data IsMergedMember : Option Data → Option Data → Option Data → Type 0 where
    -- a member that the patch lacks stays, or stays absent
    stays : {was : Option Data} → IsMergedMember was None was
    -- one that is null in the patch goes
    goes : {was : Option Data} → IsMergedMember was (Some null) None
    -- any other is merged into the document's, or into null where there is none
    merges : {was : Option Data} {q e : Data} → q ≢ null → IsMerged (unwrap_or was null) q e → IsMergedMember was (Some q) (Some e)
