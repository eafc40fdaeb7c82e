-- How deep the document is that a merge patch leaves.
use Rattle.json_patch_laws.proofs.Common.{◌≡◌, ◌≤◌, ◌-◌, ℕ, List, Option, Some, None, ⊎_elim, refl, arith, Data, object, null, Members, no_members, member}
use Rattle.json_patch_laws.proofs.Common.{get_member, put, without, unwrap_or, IsDocument, IsMerged, after_merge, members_after_merge, members_of, ◌≢◌}
use Rattle.serde_json.specs.Data.{depth, members_depth}
use Rattle.json_patch_limits.proofs.Depths.{member_depth, put_depth, without_depth}
use Rattle.json_patch_merge.proofs.Merges.{merged_exactly, next_merged, next_removed, null_cases}

members_of_depth : (d : Data) (b : ℕ) → depth d ≤ b → members_depth (members_of d) ≤ b - 1
members_of_depth (object ms) b h = omega arith
members_of_depth d b h = omega arith

was_depth : (k : List ℕ) (ms : Members) (o : Option Data) → get_member k ms ≡ o → depth (unwrap_or o null) ≤ members_depth ms
was_depth k ms None is = omega arith
was_depth k ms (Some d) is = member_depth k d ms is

mutual
  merged_within : (p d : Data) (b : ℕ) → depth d ≤ b → depth p ≤ b → depth (after_merge d p) ≤ b
  merged_within (object ps) d b h hp =
      let more : members_depth (members_after_merge (members_of d) ps) ≤ b - 1 = members_within ps (members_of d) (b - 1) (members_of_depth d b h) (omega arith) in omega arith
  merged_within p d b h hp = hp

  members_within : (ps ms : Members) (b : ℕ) → members_depth ms ≤ b → members_depth ps ≤ b → members_depth (members_after_merge ms ps) ≤ b
  members_within no_members ms b h hp = h
  members_within (member k q ps) ms b h hp =
      ⊎_elim
      (λ (is : q ≡ null). rw (next_removed k q ms ps is) (members_within ps (without k ms) b (let g : members_depth (without k ms) ≤ members_depth ms = without_depth k ms in omega arith) (omega arith)))
      (λ (other : q ≢ null). rw (next_merged k q ms ps other) (members_within ps (put k (after_merge (unwrap_or (get_member k ms) null) q) ms) b
      (put_depth k (after_merge (unwrap_or (get_member k ms) null) q) ms b h
      (merged_within q (unwrap_or (get_member k ms) null) b (let g : depth (unwrap_or (get_member k ms) null) ≤ members_depth ms = was_depth k ms (get_member k ms) refl in omega arith) (omega arith))) (omega arith)))
      (null_cases q)

-- no deeper than both the document and the merge patch
pub merged_depth : (d p e : Data) (b : ℕ) → IsDocument d → IsDocument p → IsDocument e → IsMerged d p e → depth d ≤ b → depth p ≤ b → depth e ≤ b
merged_depth d p e b hd hp he merged h g =
    let is : after_merge d p ≡ e = (merged_exactly d p e hd hp he).0 merged in rw (← is) (merged_within p d b h g)
