-- One level of a value in pieces.
use Rattle.std.proofs.Common.{◌≡◌, ◌+◌, ◌++◌, ◌∷◌, [], Box, Global, List, Vec, map, vec_capacity, refl, sym, ap, ap₂, ◌∙◌, subst}
use Rattle.std.proofs.lemmas.List.{map-append}
use Rattle.long_vec.specs.Blocks.{capacity_in, items_in}
use Rattle.long_vec.specs.Items.{items_of}
use Rattle.json_pieces.specs.declared.node.Node.{Node}
use Rattle.json_pieces.specs.declared.node.Node.TheVariants.{Open, Closed, rolls-Open, rolls-Closed}
use Rattle.json_pieces.specs.declared.node.Row.{Row}
use Rattle.json_pieces.specs.declared.node.Node.TheOpen.{Node-F}
use Rattle.json_pieces.specs.declared.node.Node.TheFolds.{fold-roll-Node, fold_out-Row}
use Rattle.json_pieces.specs.declared.text.Text.{Text}
use Rattle.json_pieces.specs.Held.{Held, head_of, held, held_row, held_step, held_text, helds, row_held, row_held_step}
use Rattle.json_pieces.specs.Nodes.{IsSound, parts_of, row_view, shut, text_bytes, tree_of, tree_text, trees_of, view, wide}

pub held_closed : (s : Text) → held (Closed s) ≡ held_text s
held_closed s = ap held (sym (rolls-Closed s)) ∙ fold-roll-Node Held Held held_step row_held_step (Node-F.Closed s)

pub view_closed : (s : Text) → view (Closed s) ≡ shut (text_bytes s)
view_closed s = ap tree_of (held_closed s)

pub closed_text : (s : Text) → tree_text (view (Closed s)) ≡ text_bytes s
closed_text s = ap tree_text (view_closed s)

-- what blocks hold, each item seen, and their room
flat_mapped : {X Y A : Type 0} (f : X → Y) (h : Vec X A → Vec Y A) → ((b : Vec X A) → (h b).items ≡ map f b.items) → (bs : List (Vec X A)) → items_in (map h bs) ≡ map f (items_in bs)
flat_mapped f h is [] = refl
flat_mapped f h is (b ∷ bs) = ap₂ (λ k l. k ++ l) (is b) (flat_mapped f h is bs) ∙ sym (map-append f b.items (items_in bs))

room_mapped : {X Y A : Type 0} (h : Vec X A → Vec Y A) → ((b : Vec X A) → vec_capacity (h b) ≡ vec_capacity b) → (bs : List (Vec X A)) → capacity_in (map h bs) ≡ capacity_in bs
room_mapped h is [] = refl
room_mapped h is (b ∷ bs) = ap₂ (λ k l. k + l) (is b) (room_mapped h is bs)

pub held_open : (b : Box Row Global) → held (Open b) ≡ row_held b.value
held_open b =
    let r = b.value in
    ap held (sym (rolls-Open b)) ∙ fold-roll-Node Held Held held_step row_held_step (Node-F.Open b) ∙ fold_out-Row Held Held held_step row_held_step r
    ∙ ap₂ (λ k l. held_row (record { named = r.named; length = r.length; seams_room = (head_of r).seams_room; values_room = k; hollow = r.hollow; seams = items_of r.seams.all }) (helds l)) (room_mapped _ (λ v. refl) r.values.blocks.items) (flat_mapped held _ (λ v. refl) r.values.blocks.items)

trees_are : (vs : List Node) → trees_of (helds (map held vs)) ≡ map view vs
trees_are [] = refl
trees_are (v ∷ vs) = ap (λ ts. view v ∷ ts) (trees_are vs)

pub row_tree : (r : Row) → tree_of (row_held r) ≡ row_view r
row_tree r = ap (λ ts. wide r.named r.length (text_bytes r.hollow) (parts_of (items_of r.seams.all) ts)) (trees_are (items_of r.values))

pub view_open : (b : Box Row Global) → view (Open b) ≡ row_view b.value
view_open b = ap tree_of (held_open b) ∙ row_tree b.value

pub row_sound : (n : Node) (b : Box Row Global) → n ≡ Open b → IsSound (view n) → IsSound (row_view b.value)
row_sound n b is h = subst IsSound (ap view is ∙ view_open b) h
