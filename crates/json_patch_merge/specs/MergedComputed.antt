-- What a merge patch leaves of a document, computed.
use Rattle.std.specs.Prelude.{unwrap_or}
use Rattle.serde_json.specs.Data.{Data, null, object, Members, no_members, member, put}
use Rattle.serde_json.specs.Find.{get_member}
use Rattle.json_patch_document.specs.ChangeComputed.{without}

abbrev pub members_of : Data → Members
members_of (object ms) = ms
members_of d = no_members

abbrev mutual
  pub after_merge : Data → Data → Data
  after_merge d (object ps) = object (members_after_merge (members_of d) ps)
  after_merge d p = p

  pub members_after_merge : Members → Members → Members
  members_after_merge ms no_members = ms
  members_after_merge ms (member k null ps) = members_after_merge (without k ms) ps
  members_after_merge ms (member k p ps) = members_after_merge (put k (after_merge (unwrap_or (get_member k ms) null) p) ms) ps
