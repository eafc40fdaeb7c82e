-- A step back, and more of them.
use Rattle.std.proofs.Common.{◌≡◌, ℕ, suc, ◌+◌, ◌-◌, ◌<◌, ◌≤◌, ◌^◌, Bool, true, false, List, [], ◌∷◌, ◌++◌, length, drop, get_or, map, Box, Global, refl, sym, ap, ap₂, ◌∙◌, subst, arith}
use Rattle.std.specs.Prelude.{slice_range, slice_set}
use Rattle.std.specs.Bool.{◌==◌}
use Rattle.std.specs.List.{insert, remove}
use Rattle.std.proofs.lemmas.Bool.{true≢false}
use Rattle.std.proofs.lemmas.List.{get_or_default, take_all}
use Rattle.std.proofs.Math.Seq.{set-append_seam}
use Rattle.long_vec.specs.Items.{capacity_of, items_of}
use Rattle.json_pieces.specs.Backs.{Along, AreBack, Below, IsAloneAgain, IsBack, IsBackAt, IsBackIn, IsBackOut, IsBackValue, LogLeads, PutsWhole, step_of}
use Rattle.json_pieces.specs.Exchanges.{with_trail, with_whitespace}
use Rattle.json_pieces.specs.Held.{Held, head_of, held, held_row, held_text, helds, row_held}
use Rattle.json_pieces.specs.Slots.{AreSwapped, IsSlotOf}
use Rattle.json_pieces.specs.declared.back.Back.{Back}
use Rattle.json_pieces.specs.declared.back.Back.TheVariants.{Swap}
use Rattle.json_pieces.specs.declared.back.Change.{Change}
use Rattle.json_pieces.specs.declared.back.Level.{Level}
use Rattle.json_pieces.specs.declared.node.Node.{Node}
use Rattle.json_pieces.specs.declared.node.Node.TheVariants.{Open}
use Rattle.json_pieces.specs.declared.node.Row.{Row}
use Rattle.json_pieces.specs.declared.row.Slot.{Slot}
use Rattle.json_pieces.specs.declared.row.Slot.TheVariants.{Hollow, Whitespace, Trail}
use Rattle.json_pieces.specs.declared.seams.Seam.{Seam}
use Rattle.json_pieces.specs.declared.text.Text.{Text}
use Rattle.json_pieces.proofs.HeldRows.{get_seam, heads_same, insert_taken, insert_there, insert_within, map_count, map_get, map_insert, map_remove, map_set, no_row, row_same, seam_within, values_same}
use Rattle.json_pieces.proofs.Levels.{held_open}

-- ---- the slot

-- what is exchanged leaves one thing alone
pub swapped_one : (slot : Slot) (s t u : Seam) (hollow hollow2 hollow3 : Text) (olds news news2 : List Seam) → IsSlotOf slot (length olds) → AreSwapped slot s hollow olds t hollow2 news → AreSwapped slot s hollow olds u hollow3 news2 → (t ≡ u) × (hollow2 ≡ hollow3) × (news ≡ news2)
swapped_one Hollow s t u hollow hollow2 hollow3 olds news news2 k a b = (a.0 ∙ sym b.0, a.1 ∙ sym b.1, a.2 ∙ sym b.2)
swapped_one (Whitespace n) s t u hollow hollow2 hollow3 olds news news2 k a b =
    let same : a.2.seam ≡ b.2.seam = a.2.is ∙ get_or_default olds n a.2.seam b.2.seam k ∙ sym b.2.is in (
      a.0 ∙ ap (λ x. with_whitespace x s) (a.2.taken_is ∙ ap (λ x. x.whitespace) same ∙ sym b.2.taken_is) ∙ sym b.0,
      a.1 ∙ sym b.1,
      a.2.left ∙ ap (λ x. slice_set olds n (with_whitespace s.whitespace x)) same ∙ sym b.2.left,
    )
swapped_one (Trail n) s t u hollow hollow2 hollow3 olds news news2 k a b =
    let same : a.2.seam ≡ b.2.seam = a.2.is ∙ get_or_default olds n a.2.seam b.2.seam k ∙ sym b.2.is in (
      a.0 ∙ ap (λ x. with_trail x s) (a.2.taken_is ∙ ap (λ x. x.trail) same ∙ sym b.2.taken_is) ∙ sym b.0,
      a.1 ∙ sym b.1,
      a.2.left ∙ ap (λ x. slice_set olds n (with_trail s.trail x)) same ∙ sym b.2.left,
    )

swapped_as : (slot : Slot) (s s2 t : Seam) (hollow hollow2 then : Text) (olds olds2 news : List Seam) → s ≡ s2 → hollow ≡ hollow2 → olds ≡ olds2 → AreSwapped slot s hollow olds t then news → AreSwapped slot s2 hollow2 olds2 t then news
swapped_as slot s s2 t hollow hollow2 then olds olds2 news e f g h =
    subst (λ x. AreSwapped slot x hollow2 olds2 t then news) e (subst (λ x. AreSwapped slot s x olds2 t then news) f (subst (λ x. AreSwapped slot s hollow x t then news) g h))

-- ---- another value

module _ (r : Row) (n : ℕ) (v : Held) (l : ℕ) (p : Held) (b : IsBackValue n v l (row_held r) p) where
  value_head : head_of r ≡ record { named = b.frame.named; length = b.m; seams_room = b.frame.seams_room; values_room = b.frame.values_room; hollow = b.hollow; seams = b.seams }
  value_head = heads_same _ _ (map held (items_of r.values)) (b.before ++ (b.x ∷ b.behind)) b.now_is

  value_values : map held (items_of r.values) ≡ b.before ++ (b.x ∷ b.behind)
  value_values = values_same _ _ (map held (items_of r.values)) (b.before ++ (b.x ∷ b.behind)) b.now_is

  pub value_within : n < length (items_of r.values)
  value_within = let inside = seam_within b.before b.x b.behind in omega (arith, inside, b.number, ap length value_values, map_count held (items_of r.values))

  pub value_done : (vr : ℕ) (vs : List Node) (w : Node) → vr ≡ capacity_of r.values → vs ≡ slice_set (items_of r.values) n w → held w ≡ v
      → held_row (record { named = r.named; length = l; seams_room = capacity_of r.seams.all; values_room = vr; hollow = r.hollow; seams = items_of r.seams.all }) (helds (map held vs)) ≡ p
  value_done vr vs w ev e f =
      let items : map held vs ≡ b.before ++ (v ∷ b.behind) = ap (map held) e ∙ map_set held (items_of r.values) n w ∙ ap₂ (λ x k. slice_set x k (held w)) value_values b.number ∙ set-append_seam b.before b.x b.behind (held w) ∙ ap (λ y. b.before ++ (y ∷ b.behind)) f in
      row_same r.named l (capacity_of r.seams.all) vr r.hollow (items_of r.seams.all) (map held vs) b.frame l b.hollow b.seams (b.before ++ (v ∷ b.behind)) (ap (λ g. g.named) value_head) refl (ap (λ g. g.seams_room) value_head) (ev ∙ ap (λ g. g.values_room) value_head) (ap (λ g. g.hollow) value_head) (ap (λ g. g.seams) value_head) items ∙ sym b.then_is

-- ---- a part goes out

module _ (r : Row) (n : ℕ) (slot : Slot) (l : ℕ) (p : Held) (b : IsBackOut n slot l (row_held r) p) where
  out_head : head_of r ≡ record { named = b.frame.named; length = b.m; seams_room = b.frame.seams_room; values_room = b.frame.values_room; hollow = b.hollow; seams = insert b.seams n b.s }
  out_head = heads_same _ _ (map held (items_of r.values)) (insert b.values n b.v) b.now_is

  out_values : map held (items_of r.values) ≡ insert b.values n b.v
  out_values = values_same _ _ (map held (items_of r.values)) (insert b.values n b.v) b.now_is

  out_seams_left : (ss : List Seam) → ss ≡ remove (items_of r.seams.all) n → ss ≡ b.seams
  out_seams_left ss e = e ∙ ap (λ h. remove h.seams n) out_head ∙ insert_taken b.seams n b.s b.within

  pub out_within : n < length (items_of r.seams.all)
  out_within = let inside = insert_within b.seams n b.s b.within in omega (arith, inside, ap (λ h. length h.seams) out_head)

  pub out_within_values : n < length (items_of r.values)
  out_within_values = let inside = insert_within b.values n b.v b.within_values in omega (arith, inside, ap length out_values, map_count held (items_of r.values))

  pub out_slot : (ss : List Seam) → ss ≡ remove (items_of r.seams.all) n → IsSlotOf slot (length ss)
  out_slot ss e = subst (λ x. IsSlotOf slot (length x)) (sym (out_seams_left ss e)) b.slot_is

  pub out_done : (d : Bool) (sr vr : ℕ) (ss news : List Seam) (s t : Seam) (hollow : Text) (vs : List Node) → d ≡ r.named → sr ≡ capacity_of r.seams.all → vr ≡ capacity_of r.values → ss ≡ remove (items_of r.seams.all) n → s ≡ get_or (items_of r.seams.all) n s → AreSwapped slot s r.hollow ss t hollow news → vs ≡ remove (items_of r.values) n
      → held_row (record { named = d; length = l; seams_room = sr; values_room = vr; hollow = hollow; seams = news }) (helds (map held vs)) ≡ p
  out_done d sr vr ss news s t hollow vs ed es ev f g h k =
      let seam : s ≡ b.s = g ∙ ap (λ x. get_or x.seams n s) out_head ∙ insert_there b.seams n b.s s b.within in
      let one = swapped_one slot b.s t b.s_then b.hollow hollow b.hollow_then b.seams news b.seams_then b.slot_is (swapped_as slot s b.s t r.hollow b.hollow hollow ss b.seams news seam (ap (λ x. x.hollow) out_head) (out_seams_left ss f) h) b.swapped in
      let values : map held vs ≡ b.values = ap (map held) k ∙ map_remove held (items_of r.values) n ∙ ap (λ x. remove x n) out_values ∙ insert_taken b.values n b.v b.within_values in
      row_same d l sr vr hollow news (map held vs) b.frame l b.hollow_then b.seams_then b.values (ed ∙ ap (λ x. x.named) out_head) refl (es ∙ ap (λ x. x.seams_room) out_head) (ev ∙ ap (λ x. x.values_room) out_head) one.1 one.2 values ∙ sym b.then_is

-- ---- a part comes in

module _ (r : Row) (n : ℕ) (s : Seam) (v : Held) (slot : Slot) (l : ℕ) (p : Held) (b : IsBackIn n s v slot l (row_held r) p) where
  in_head : head_of r ≡ record { named = b.frame.named; length = b.m; seams_room = b.frame.seams_room; values_room = b.frame.values_room; hollow = b.hollow; seams = b.seams }
  in_head = heads_same _ _ (map held (items_of r.values)) b.values b.now_is

  in_values : map held (items_of r.values) ≡ b.values
  in_values = values_same _ _ (map held (items_of r.values)) b.values b.now_is

  pub in_slot : IsSlotOf slot (length (items_of r.seams.all))
  in_slot = subst (λ x. IsSlotOf slot (length x.seams)) (sym in_head) b.slot_is

  pub in_within : n ≤ length (items_of r.seams.all)
  in_within = omega (arith, b.within, ap (λ h. length h.seams) in_head)

  pub in_room : length (items_of r.seams.all) < capacity_of r.seams.all
  in_room = omega (arith, b.room, ap (λ h. length h.seams) in_head, ap (λ h. h.seams_room) in_head)

  pub in_fits : length (items_of r.seams.all) + 1 < 2 ^ 64
  in_fits = omega (arith, b.fits, ap (λ h. length h.seams) in_head)

  pub in_within_values : n ≤ length (items_of r.values)
  in_within_values = omega (arith, b.within_values, ap length in_values, map_count held (items_of r.values))

  pub in_room_values : length (items_of r.values) < capacity_of r.values
  in_room_values = omega (arith, b.room_values, ap length in_values, map_count held (items_of r.values), ap (λ h. h.values_room) in_head)

  pub in_done : (d : Bool) (sr vr : ℕ) (mid news : List Seam) (t : Seam) (hollow : Text) (vs : List Node) (w : Node) → d ≡ r.named → sr ≡ capacity_of r.seams.all → vr ≡ capacity_of r.values → AreSwapped slot s r.hollow (items_of r.seams.all) t hollow mid → news ≡ insert mid n t → held w ≡ v → vs ≡ insert (items_of r.values) n w
      → held_row (record { named = d; length = l; seams_room = sr; values_room = vr; hollow = hollow; seams = news }) (helds (map held vs)) ≡ p
  in_done d sr vr mid news t hollow vs w ed es ev h e f g =
      let one = swapped_one slot s t b.s_then b.hollow hollow b.hollow_then b.seams mid b.seams_then b.slot_is (swapped_as slot s s t r.hollow b.hollow hollow (items_of r.seams.all) b.seams mid refl (ap (λ x. x.hollow) in_head) (ap (λ x. x.seams) in_head) h) b.swapped in
      let seams : news ≡ insert b.seams_then n b.s_then = e ∙ ap₂ (λ x y. insert x n y) one.2 one.0 in
      let values : map held vs ≡ insert b.values n v = ap (map held) g ∙ map_insert held (items_of r.values) n w ∙ ap₂ (λ x y. insert x n y) in_values f in
      row_same d l sr vr hollow news (map held vs) b.frame l b.hollow_then (insert b.seams_then n b.s_then) (insert b.values n v) (ed ∙ ap (λ x. x.named) in_head) refl (es ∙ ap (λ x. x.seams_room) in_head) (ev ∙ ap (λ x. x.values_room) in_head) one.1 seams values ∙ sym b.then_is

-- ---- a part comes into an empty row

module _ (r : Row) (s : Seam) (v : Held) (hollow : Text) (l : ℕ) (p : Held) (b : IsAloneAgain s v hollow l (row_held r) p) where
  alone_head : head_of r ≡ record { named = b.frame.named; length = b.m; seams_room = b.frame.seams_room; values_room = b.frame.values_room; hollow = b.hollow; seams = [] }
  alone_head = heads_same _ _ (map held (items_of r.values)) [] b.now_is

  alone_values : map held (items_of r.values) ≡ []
  alone_values = values_same _ _ (map held (items_of r.values)) [] b.now_is

  alone_seams : items_of r.seams.all ≡ []
  alone_seams = ap (λ h. h.seams) alone_head

  no_values : items_of r.values ≡ []
  no_values = of (items_of r.values) alone_values
    where
      of : (vs : List Node) → map held vs ≡ [] → vs ≡ []
      of [] e = refl
      of (w ∷ vs) e = absurd (omega (arith, ap length e))

  pub alone_room : length (items_of r.seams.all) < capacity_of r.seams.all
  alone_room = omega (arith, b.room, ap length alone_seams, ap (λ h. h.seams_room) alone_head)

  pub alone_fits : length (items_of r.seams.all) + 1 < 2 ^ 64
  alone_fits = omega (arith, ap length alone_seams)

  pub alone_room_values : length (items_of r.values) < capacity_of r.values
  alone_room_values = omega (arith, b.room_values, ap length no_values, ap (λ h. h.values_room) alone_head)

  pub alone_done : (d : Bool) (sr vr : ℕ) (news : List Seam) (vs : List Node) (w : Node) → d ≡ r.named → sr ≡ capacity_of r.seams.all → vr ≡ capacity_of r.values → news ≡ insert (items_of r.seams.all) 0 s → held w ≡ v → vs ≡ insert (items_of r.values) 0 w
      → held_row (record { named = d; length = l; seams_room = sr; values_room = vr; hollow = hollow; seams = news }) (helds (map held vs)) ≡ p
  alone_done d sr vr news vs w ed es ev e f g =
      row_same d l sr vr hollow news (map held vs) b.frame l hollow (s ∷ []) (v ∷ []) (ed ∙ ap (λ x. x.named) alone_head) refl (es ∙ ap (λ x. x.seams_room) alone_head) (ev ∙ ap (λ x. x.values_room) alone_head) refl (e ∙ ap (λ x. insert x 0 s) alone_seams) (ap (map held) (g ∙ ap (λ x. insert x 0 w) no_values) ∙ ap (λ x. x ∷ []) f) ∙ sym b.then_is

-- ---- one level

-- what holds of the row holds of the value
pub through : (R : Held → Held → Type 0) (old new : Node) (b s : Box Row Global) (copy : Row) → old ≡ Open b → new ≡ Open s → copy ≡ b.value → ((p : Held) → R (row_held copy) p → row_held s.value ≡ p) → (p : Held) → R (held old) p → held new ≡ p
through R old new b s copy is left copied all p h =
    let same : held old ≡ row_held copy = ap held is ∙ held_open b ∙ ap row_held (sym copied) in
    ap held left ∙ held_open s ∙ all p (subst (λ t. R t p) same h)

pub in_row : (R : Held → Held → Type 0) (old : Node) (b : Box Row Global) (copy : Row) → old ≡ Open b → copy ≡ b.value → (p : Held) × R (held old) p → (p : Held) × R (row_held copy) p
in_row R old b copy is copied (p, h) = (p, subst (λ t. R t p) (ap held is ∙ held_open b ∙ ap row_held (sym copied)) h)

-- ---- at a place

pub below_of : (place : List Level) (none : Level) (R : Held → Held → Type 0) (t p : Held) → 0 < length place → Along place R t p → Below (get_or place 0 none) (Along (drop 1 place) R) t p
below_of [] none R t p h k = absurd (omega arith)
below_of (l ∷ ls) none R t p h k = k

pub rest_is : (place : List Level) → slice_range place 1 (length place) ≡ drop 1 place
rest_is [] = refl
rest_is (l ∷ ls) = take_all (suc (length ls) - 1) ls (omega arith)

pub rest_count : (place : List Level) → 0 < length place → length (slice_range place 1 (length place)) + 1 ≡ length place
rest_count [] h = absurd (omega arith)
rest_count (l ∷ ls) h = let same : length (slice_range (l ∷ ls) 1 (length (l ∷ ls))) ≡ length ls = ap length (rest_is (l ∷ ls)) in omega (arith, same)

pub along_rest : (place : List Level) (R : Held → Held → Type 0) (t x p : Held) → t ≡ x → Along (drop 1 place) R x p → Along (slice_range place 1 (length place)) R t p
along_rest place R t x p e h = subst (λ ls. Along ls R t p) (sym (rest_is place)) (subst (λ s. Along (drop 1 place) R s p) (sym e) h)

pub along_same : (ls ms : List Level) (R : Held → Held → Type 0) (t p : Held) → ls ≡ ms → Along ms R t p → Along ls R t p
along_same ls ms R t p e h = subst (λ l. Along l R t p) (sym e) h

module _ (r : Row) (l : Level) (R : Held → Held → Type 0) (p : Held) (b : Below l R (row_held r) p) where
  below_head : head_of r ≡ record { named = b.frame.named; length = b.m; seams_room = b.frame.seams_room; values_room = b.frame.values_room; hollow = b.hollow; seams = b.seams }
  below_head = heads_same _ _ (map held (items_of r.values)) (b.before ++ (b.x ∷ b.behind)) b.now_is

  below_values : map held (items_of r.values) ≡ b.before ++ (b.x ∷ b.behind)
  below_values = values_same _ _ (map held (items_of r.values)) (b.before ++ (b.x ∷ b.behind)) b.now_is

  pub below_within : l.number < length (items_of r.values)
  below_within = let inside = seam_within b.before b.x b.behind in omega (arith, inside, b.number, ap length below_values, map_count held (items_of r.values))

  pub below_child : (w : Node) → w ≡ get_or (items_of r.values) l.number w → held w ≡ b.x
  below_child w e = ap held e ∙ map_get held (items_of r.values) l.number w ∙ ap₂ (λ vs k. get_or vs k (held w)) below_values b.number ∙ get_seam b.before b.x b.behind (held w)

  pub below_made : (d : Bool) (k sr vr : ℕ) (hollow : Text) (ss : List Seam) (vs : List Node) (w : Node) → d ≡ r.named → k ≡ l.length → sr ≡ capacity_of r.seams.all → vr ≡ capacity_of r.values → hollow ≡ r.hollow → ss ≡ items_of r.seams.all → vs ≡ slice_set (items_of r.values) l.number w → held w ≡ b.y
      → held_row (record { named = d; length = k; seams_room = sr; values_room = vr; hollow = hollow; seams = ss }) (helds (map held vs)) ≡ p
  below_made d k sr vr hollow ss vs w ed ek es ev eh el e f =
      let items : map held vs ≡ b.before ++ (b.y ∷ b.behind) = ap (map held) e ∙ map_set held (items_of r.values) l.number w ∙ ap₂ (λ x n. slice_set x n (held w)) below_values b.number ∙ set-append_seam b.before b.x b.behind (held w) ∙ ap (λ y. b.before ++ (y ∷ b.behind)) f in
      row_same d k sr vr hollow ss (map held vs) b.frame l.length b.hollow b.seams (b.before ++ (b.y ∷ b.behind)) (ed ∙ ap (λ g. g.named) below_head) ek (es ∙ ap (λ g. g.seams_room) below_head) (ev ∙ ap (λ g. g.values_room) below_head) (eh ∙ ap (λ g. g.hollow) below_head) (el ∙ ap (λ g. g.seams) below_head) items ∙ sym b.then_is

pub no_level : (s : Text) (l : Level) (R : Held → Held → Type 0) (t p : Held) → t ≡ held_text s → Below l R t p → ⊥
no_level s l R t p e b = no_row s _ _ (sym e ∙ b.now_is)

pub not_empty : (ls : List Level) → (length ls == 0) ≡ false → 0 < length ls
not_empty [] e = absurd (true≢false e)
not_empty (l ∷ ls) e = omega arith

pub no_levels : (ls : List Level) → (length ls == 0) ≡ true → ls ≡ []
no_levels [] e = refl
no_levels (l ∷ ls) e = absurd (grind arith)

-- ---- from the end

pub steps_popped : (cs : List Back) (c : Back) (t p : Held) → AreBack (cs ++ c ∷ []) t p → (r : Held) × IsBack (step_of c) t r × AreBack cs r p
steps_popped [] c t p h = (p, subst (λ x. IsBack (step_of c) x p) (sym h.1) h.2, refl)
steps_popped (d ∷ cs) c t p h = let more = steps_popped cs c t h.0 h.1 in (more.0, more.1, (h.0, more.2, h.2))

pub log_popped : (log : List Change) (c : Change) (t p : Held) → LogLeads (log ++ c ∷ []) t p → (r : Held) × IsBackAt c.place.items c.steps.items t r × LogLeads log r p
log_popped [] c t p h = (p, subst (λ x. IsBackAt c.place.items c.steps.items x p) (sym h.1) h.2, refl)
log_popped (d ∷ log) c t p h = let more = log_popped log c t h.0 h.1 in (more.0, more.1, (h.0, more.2, h.2))

pub log_pushed : (log : List Change) (c : Change) (t r p : Held) → IsBackAt c.place.items c.steps.items t r → LogLeads log r p → LogLeads (log ++ c ∷ []) t p
log_pushed [] c t r p undone back = (t, refl, subst (IsBackAt c.place.items c.steps.items t) back undone)
log_pushed (b ∷ log) c t r p undone back = (back.0, log_pushed log c t r back.0 undone back.1, back.2)

pub steps_pushed : (cs : List Back) (c : Back) (t r p : Held) → IsBack (step_of c) t r → AreBack cs r p → AreBack (cs ++ c ∷ []) t p
steps_pushed [] c t r p undone back = (t, refl, subst (IsBack (step_of c) t) back undone)
steps_pushed (b ∷ cs) c t r p undone back = (back.0, steps_pushed cs c t r back.0 undone back.1, back.2)

-- a value in the place of the whole is so whatever that is
pub anywhere : (c : Change) (t u r : Held) → PutsWhole c → IsBackAt c.place.items c.steps.items t r → IsBackAt c.place.items c.steps.items u r
anywhere c t u r (here, (cs, (v, is))) back =
    let steps = subst (λ l. AreBack l t r) is (subst (λ l. IsBackAt l c.steps.items t r) here back) in
    let popped = steps_popped cs (Swap v) t r steps in
    subst (λ l. IsBackAt l c.steps.items u r) (sym here) (subst (λ l. AreBack l u r) (sym is) (steps_pushed cs (Swap v) u popped.0 r popped.1 popped.2))
