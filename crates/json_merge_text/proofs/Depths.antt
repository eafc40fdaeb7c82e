-- How deep an object nests after a change of one member.
use Rattle.std.proofs.Common.{◌≤◌, ℕ, List, max, Bool, true, false, cond, bytes_eq, Option, Some, None, arith}
use Rattle.json.specs.Json.{Json, Members, no_members, member}
use Rattle.json.specs.Find.{get_member}
use Rattle.json.specs.Tree.{depth, members_depth}
use Rattle.json_patch_text.specs.Changed.{add_member, append_member}
use Rattle.json_text.specs.Pointed.{if_some, put_member}

pub put_depth : (k : List ℕ) (w : Json) (ms : Members) → members_depth (put_member k w ms) ≤ max (members_depth ms) (depth w)
put_depth k w no_members = omega arith
put_depth k w (member l j ms) = by (get_member k ms) (bytes_eq l k) (put_depth k w ms)
  where
    by : (o : Option Json) (b : Bool) → members_depth (put_member k w ms) ≤ max (members_depth ms) (depth w) → members_depth (if_some o (λ later. member l j (put_member k w ms)) (member l (cond b w j) ms)) ≤ max (max (depth j) (members_depth ms)) (depth w)
    by (Some x) b more = omega arith
    by None true more = omega arith
    by None false more = omega arith

append_depth : (k : List ℕ) (w : Json) (ms : Members) → members_depth (append_member k w ms) ≤ max (members_depth ms) (depth w)
append_depth k w no_members = omega arith
append_depth k w (member l j ms) = let more = append_depth k w ms in omega arith

pub add_depth : (k : List ℕ) (w : Json) (ms : Members) → members_depth (add_member k w ms) ≤ max (members_depth ms) (depth w)
add_depth k w ms = by (get_member k ms)
  where
    by : (o : Option Json) → members_depth (if_some o (λ old. put_member k w ms) (append_member k w ms)) ≤ max (members_depth ms) (depth w)
    by None = append_depth k w ms
    by (Some c) = put_depth k w ms
