-- How deep a text nests that a change leaves.
use Rattle.std.proofs.Common.{◌≤◌, ◌+◌, ℕ, max, List, length, arith}
use Rattle.json.specs.Json.{Json}
use Rattle.json.specs.Tree.{depth}
use Rattle.jsonptr.specs.Text.{Pointer}
use Rattle.json_text.specs.Added.{IsAdded}
use Rattle.json_text.specs.Changed.{remove_at}
use Rattle.json_lexemes.specs.Skipped.{nesting}
use Rattle.json_text.specs.Pointed.{IsWrittenAt, put_at}
use Rattle.json_text.specs.Removed.{IsRemoved}
use Rattle.json_text.specs.Replaced.{IsReplaced}
use Rattle.json_lexemes.specs.Spelled.{Says}
use Rattle.json_text.proofs.Depths.{add_nests, part_inside, put_nests, remove_nests}
use Rattle.json_lexemes.proofs.Nests.{nests}

pub written_inside : (text s : List ℕ) (j : Json) (P : Pointer) → Says text j → IsWrittenAt text j P s → length P + nesting s ≤ nesting text
written_inside text s j P said (before, behind, whole, (v, at, stretch)) =
    let a = nests text j said in let b = nests s v stretch.says in let c = part_inside P j v at in
    omega arith

-- by the trees that the texts say
bounded : (text value new : List ℕ) (P : Pointer) (i w k : Json) → Says text i → Says value w → Says new k → depth k ≤ max (depth i) (length P + depth w) → nesting new ≤ max (nesting text) (length P + nesting value)
bounded text value new P i w k s t u h =
    let a = nests text i s in let b = nests value w t in let c = nests new k u in
    omega arith

pub replaced_nests : (text value new : List ℕ) (P : Pointer) → IsReplaced text P value new → nesting new ≤ max (nesting text) (length P + nesting value)
replaced_nests text value new P h = bounded text value new P h.tree h.wanted (put_at P h.wanted h.tree) h.says.0 h.value_says.0 h.after (put_nests P h.wanted h.tree)

pub added_nests : (text value new : List ℕ) (P : Pointer) → IsAdded text P value new → nesting new ≤ max (nesting text) (length P + nesting value)
added_nests text value new P h = bounded text value new P h.tree h.wanted h.sum h.says.0 h.value_says.0 h.after (add_nests P h.wanted h.tree h.sum h.added)

pub removed_nests : (text new : List ℕ) (P : Pointer) → IsRemoved text P new → nesting new ≤ nesting text
removed_nests text new P h =
    let a = nests text h.tree h.says.0 in let b = nests new (remove_at P h.tree) h.after in let c = remove_nests P h.tree in
    omega arith
