-- Opening, and room made, keep the text.
use Rattle.std.proofs.Common.{◌≡◌, List, [], ◌∷◌, Box, Global, refl, sym, ap, ap₂, ◌∙◌, subst, arith}
use Rattle.json_text.specs.Cuts.{row_text}
use Rattle.json_text.specs.Listing.{IsTextOf}
use Rattle.json_pieces.specs.Finer.{AreOpenedFrom, IsOpenedFrom, IsRoomier, Opens}
use Rattle.json_pieces.specs.Held.{Head, Held, Helds, and_more, held, held_row, held_text, no_more, row_held}
use Rattle.json_pieces.specs.Nodes.{AreSound, IsRow, IsSound, IsWhole, parts_of, piece_with, pieces, row_view, text_bytes, tree_of, tree_text, trees_of, view}
use Rattle.json_pieces.specs.declared.node.Node.{Node}
use Rattle.json_pieces.specs.declared.node.Node.TheVariants.{Open, Closed}
use Rattle.json_pieces.specs.declared.node.Row.{Row}
use Rattle.json_pieces.specs.declared.seams.Seam.{Seam}
use Rattle.json_pieces.specs.declared.text.Text.{Text}
use Rattle.json_pieces.proofs.Levels.{held_closed, held_open, row_tree, view_closed}

pub opens_itself : (s : Text) → Opens s (held_text s)
opens_itself s = (refl, tt)

pub roomier_same : (g : Head) → IsRoomier g g
roomier_same g = record { named = refl; length = refl; hollow = refl; seams = refl; seams_room = omega arith; values_room = omega arith }

mutual
  pub opened_itself : (t : Held) → IsOpenedFrom t t
  opened_itself (held_text s) = opens_itself s
  opened_itself (held_row g ts) = (roomier_same g, opened_all ts)

  pub opened_all : (ts : Helds) → AreOpenedFrom ts ts
  opened_all no_more = tt
  opened_all (and_more t ts) = (opened_itself t, opened_all ts)

mutual
  pub opened_text : (t u : Held) → IsOpenedFrom t u → tree_text (tree_of u) ≡ tree_text (tree_of t)
  opened_text (held_text s) u f = f.0
  opened_text (held_row g ts) (held_text s) f = absurd f
  opened_text (held_row g ts) (held_row h us) f =
      ap₂ (λ b x. row_text b (text_bytes x) (pieces (parts_of h.seams (trees_of us)))) f.0.named f.0.hollow
      ∙ ap (λ ss. row_text g.named (text_bytes g.hollow) (pieces (parts_of ss (trees_of us)))) f.0.seams
      ∙ ap (row_text g.named (text_bytes g.hollow)) (opened_pieces g.seams ts us f.1)

  opened_pieces : (ss : List Seam) (ts us : Helds) → AreOpenedFrom ts us → pieces (parts_of ss (trees_of us)) ≡ pieces (parts_of ss (trees_of ts))
  opened_pieces ss no_more no_more f = refl
  opened_pieces ss no_more (and_more u us) f = absurd f
  opened_pieces ss (and_more t ts) no_more f = absurd f
  opened_pieces [] (and_more t ts) (and_more u us) f = refl
  opened_pieces (s ∷ ss) (and_more t ts) (and_more u us) f = ap₂ (λ x ps. piece_with s x ∷ ps) (opened_text t u f.0) (opened_pieces ss ts us f.1)

mutual
  pub opened_sound : (t u : Held) → IsOpenedFrom t u → IsSound (tree_of t) → IsSound (tree_of u)
  opened_sound (held_text s) u f h = f.1
  opened_sound (held_row g ts) (held_text s) f h = absurd f
  opened_sound (held_row g ts) (held_row h us) f k =
      let same : pieces (parts_of h.seams (trees_of us)) ≡ pieces (parts_of g.seams (trees_of ts)) = ap (λ ss. pieces (parts_of ss (trees_of us))) f.0.seams ∙ opened_pieces g.seams ts us f.1 in
      let row : IsRow g.named g.length (text_bytes g.hollow) (pieces (parts_of h.seams (trees_of us))) = subst (IsRow g.named g.length (text_bytes g.hollow)) (sym same) k.0 in
      let ps = pieces (parts_of h.seams (trees_of us)) in (
        subst (λ b. IsRow b h.length (text_bytes h.hollow) ps) (sym f.0.named) (subst (λ n. IsRow g.named n (text_bytes h.hollow) ps) (sym f.0.length) (subst (λ x. IsRow g.named g.length (text_bytes x) ps) (sym f.0.hollow) row)),
        subst (λ ss. AreSound (parts_of ss (trees_of us))) (sym f.0.seams) (opened_sound_all g.seams ts us f.1 k.1),
      )

  opened_sound_all : (ss : List Seam) (ts us : Helds) → AreOpenedFrom ts us → AreSound (parts_of ss (trees_of ts)) → AreSound (parts_of ss (trees_of us))
  opened_sound_all ss no_more no_more f h = h
  opened_sound_all ss no_more (and_more u us) f h = absurd f
  opened_sound_all ss (and_more t ts) no_more f h = absurd f
  opened_sound_all [] (and_more t ts) (and_more u us) f h = absurd h
  opened_sound_all (s ∷ ss) (and_more t ts) (and_more u us) f h = (opened_sound t u f.0 h.0, opened_sound_all ss ts us f.1 h.1)

pub opened_whole : (t u : Held) → IsOpenedFrom t u → IsWhole (tree_of t) → IsWhole (tree_of u)
opened_whole t u f h = (opened_sound t u f h.0, (h.1.0, subst (λ s. IsTextOf s h.1.0) (sym (opened_text t u f)) h.1.1))

-- ---- opened twice

roomier_trans : (a b c : Head) → IsRoomier a b → IsRoomier b c → IsRoomier a c
roomier_trans a b c f g = record { named = g.named ∙ f.named; length = g.length ∙ f.length; hollow = g.hollow ∙ f.hollow; seams = g.seams ∙ f.seams; seams_room = omega (arith, f.seams_room, g.seams_room); values_room = omega (arith, f.values_room, g.values_room) }

mutual
  pub opened_trans : (t u w : Held) → IsOpenedFrom t u → IsOpenedFrom u w → IsOpenedFrom t w
  opened_trans (held_text s) u w f g = (opened_text u w g ∙ f.0, opened_sound u w g f.1)
  opened_trans (held_row a ts) (held_text s) w f g = absurd f
  opened_trans (held_row a ts) (held_row b us) (held_text s) f g = absurd g
  opened_trans (held_row a ts) (held_row b us) (held_row c ws) f g = (roomier_trans a b c f.0 g.0, all_trans ts us ws f.1 g.1)

  all_trans : (ts us ws : Helds) → AreOpenedFrom ts us → AreOpenedFrom us ws → AreOpenedFrom ts ws
  all_trans no_more no_more no_more f g = tt
  all_trans no_more no_more (and_more w ws) f g = absurd g
  all_trans no_more (and_more u us) ws f g = absurd f
  all_trans (and_more t ts) no_more ws f g = absurd f
  all_trans (and_more t ts) (and_more u us) no_more f g = absurd g
  all_trans (and_more t ts) (and_more u us) (and_more w ws) f g = (opened_trans t u w f.0 g.0, all_trans ts us ws f.1 g.1)

-- ---- through a box

pub opened_same : (t u : Held) → u ≡ t → IsOpenedFrom t u
opened_same t u e = subst (IsOpenedFrom t) (sym e) (opened_itself t)

pub opened_through : (old new : Node) (b s : Box Row Global) (copy : Row) → old ≡ Open b → new ≡ Open s → copy ≡ b.value → IsOpenedFrom (row_held copy) (row_held s.value) → IsOpenedFrom (held old) (held new)
opened_through old new b s copy is left copied f =
    subst (λ t. IsOpenedFrom t (held new)) (sym (ap held is ∙ held_open b ∙ ap row_held (sym copied))) (subst (IsOpenedFrom (row_held copy)) (sym (ap held left ∙ held_open s)) f)

pub closed_opened : (old new : Node) (s : Text) (b : Box Row Global) → old ≡ Closed s → new ≡ Open b → IsSound (row_view b.value) → tree_text (row_view b.value) ≡ tree_text (view old) → IsOpenedFrom (held old) (held new)
closed_opened old new s b is left sound text =
    subst (λ t. IsOpenedFrom t (held new)) (sym (ap held is ∙ held_closed s))
    (subst (λ u. Opens s u) (sym (ap held left ∙ held_open b))
    (ap tree_text (row_tree b.value) ∙ text ∙ ap tree_text (ap view is ∙ view_closed s), subst IsSound (sym (row_tree b.value)) sound))
