-- What a value is, and what stands where a pointer leads.
use Rattle.std.proofs.Common.{◌≡◌, ℕ, ◌+◌, ◌<◌, Bool, true, false, List, ◌∷◌, ◌++◌, length, get_or, map, Option, None, Result, option_and_then, refl, sym, ap, ◌∙◌, subst}
use Rattle.std.specs.Prelude.{IfOk, option_map, slice_set}
use Rattle.std.specs.declared.alloc.AllocError.{AllocError}
use Rattle.std.proofs.lemmas.Result.{IfOk-weaker}
use Rattle.json.specs.Json.{Json}
use Rattle.json_lexemes.specs.Spelled.{Says}
use Rattle.json_lexemes.proofs.Nests.{one_tree}
use Rattle.json_text.specs.Cuts.{AllSuit, IsWhitespace}
use Rattle.json_text.specs.Less.{IsNumberOf}
use Rattle.json_text.specs.Listing.{shape_of}
use Rattle.json_text.specs.Pointed.{child, tree_at}
use Rattle.json_text.specs.Rows.{Child, tree_in}
use Rattle.json_text.specs.declared.listing.Shape.{Shape}
use Rattle.json_text.specs.declared.listing.Shape.TheVariants.{Object, Array}
use Rattle.jsonptr.specs.Text.{Pointer}
use Rattle.long_vec.specs.Items.{items_of}
use Rattle.json_pieces.specs.Looks.{Looks}
use Rattle.json_pieces.specs.Nodes.{IsSound, IsWhole, parts_of, row_view, text_bytes, tree_text, view, wide}
use Rattle.json_pieces.specs.declared.node.Node.{Node}
use Rattle.json_pieces.specs.declared.node.Row.{Row}
use Rattle.json_pieces.proofs.Calls.{says_around}
use Rattle.json_pieces.proofs.Lifts.{lift_looks}
use Rattle.json_pieces.proofs.Lists.{pieces_in}
use Rattle.json_pieces.proofs.Rows.Says.{row_says}
use Rattle.json_pieces.proofs.Walks.{set_is_sound, set_makes}

-- a row is of the one shape or of the other
in_object : (cs : List Child) (b : Bool) → b ≡ true → shape_of (tree_in b cs) ≡ Object
in_object cs true e = refl
in_object cs false e = cc

in_array : (cs : List Child) (b : Bool) → b ≡ false → shape_of (tree_in b cs) ≡ Array
in_array cs false e = refl
in_array cs true e = cc

row_tree : (r : Row) (h : IsSound (row_view r)) (j : Json) → Says (tree_text (row_view r)) j → tree_in r.named h.0.cs ≡ j
row_tree r h j says = one_tree (tree_text (row_view r)) (tree_in r.named h.0.cs) j (row_says r.named (text_bytes r.hollow) h.0.cs _ h.0.suit h.0.whitespace) says

pub object_shape : (r : Row) → IsSound (row_view r) → r.named ≡ true → (j : Json) → Says (tree_text (row_view r)) j → Object ≡ shape_of j
object_shape r h e j says = sym (in_object h.0.cs r.named e) ∙ ap shape_of (row_tree r h j says)

pub array_shape : (r : Row) → IsSound (row_view r) → r.named ≡ false → (j : Json) → Says (tree_text (row_view r)) j → Array ≡ shape_of j
array_shape r h e j says = sym (in_array h.0.cs r.named e) ∙ ap shape_of (row_tree r h j says)

-- no child has the name
pub none_looked : (t : List ℕ) (P : Pointer) (r : Row) → IsSound (row_view r) → ((cs : List Child) → AllSuit r.named cs (pieces_in (items_of r.seams.all) (items_of r.values)) → child t (tree_in r.named cs) ≡ None)
    → (j : Json) → Says (tree_text (row_view r)) j → Looks j (t ∷ P) None
none_looked t P r h none j says =
    let nothing : child t j ≡ None = subst (λ i. child t i ≡ None) (row_tree r h j says) (none h.0.cs h.0.suit) in
    sym (ap (λ o. option_map shape_of (option_and_then (tree_at P) o)) nothing)

-- the value of this number was looked at, and is w since
module _ (r : Row) (n : ℕ) (v w : Node) (P : Pointer) (h : IsSound (row_view r)) (l : n < length (items_of r.values)) (e : v ≡ get_or (items_of r.values) n v) where
  pub still_sound : IsWhole (view w) → tree_text (view w) ≡ tree_text (view v) → IsSound (wide r.named r.length (text_bytes r.hollow) (parts_of (items_of r.seams.all) (map view (slice_set (items_of r.values) n w))))
  still_sound whole same = set_is_sound r n v w h l e r.length whole (ap (λ s. r.length + length s) (sym same))

  pub looked_below : (c : Result (Option Shape) AllocError) (t : List ℕ) → ((cs : List Child) → AllSuit r.named cs (pieces_in (items_of r.seams.all) (items_of r.values)) → IsNumberOf r.named cs t n)
      → IfOk c (λ found. (j : Json) → Says (tree_text (view v)) j → Looks j P found) → IfOk c (λ found. (j : Json) → Says (tree_text (row_view r)) j → Looks j (t ∷ P) found)
  looked_below c t names =
      IfOk-weaker c _ _ (λ found. set_makes r n v w h l e (λ text j new. Looks j P found) (λ text j new. Looks j (t ∷ P) found) t names (λ cs s. lift_looks r.named (text_bytes r.hollow) t n cs _ (tree_text (view w)) P found s))

-- with the whitespace around it
pub looks_around : (a b s : List ℕ) (P : Pointer) (found : Option Shape) → IsWhitespace a → IsWhitespace b → (i : Json) × Says s i → ((j : Json) → Says s j → Looks j P found) → (j : Json) → Says (a ++ (s ++ b)) j → Looks j P found
looks_around a b s P found h k (i, root) looked j says =
    subst (λ x. found ≡ option_map shape_of (tree_at P x)) (one_tree (a ++ (s ++ b)) i j (says_around a s b i h k root) says) (looked i root)
