-- A change of a row, and the step that takes it back.
use Rattle.std.proofs.Common.{◌≡◌, ℕ, zero, suc, ◌+◌, ◌<◌, ◌≤◌, ◌^◌, true, Box, Global, List, [], ◌∷◌, ◌++◌, length, get_or, map, refl, sym, ap, ap₂, ◌∙◌, subst, arith, append_assoc, append-nil}
use Rattle.std.specs.Prelude.{Err, Ok, OnErr, Result, is_err, slice_set}
use Rattle.std.specs.List.{insert, remove}
use Rattle.std.proofs.lemmas.Bool.{true≢false}
use Rattle.std.proofs.lemmas.List.{get_or-set_same, length-set, set-get_or, set-set}
use Rattle.long_vec.specs.Items.{capacity_of, items_of}
use Rattle.json_pieces.specs.Backs.{AreBack, Frame, IsAloneAgain, IsBack, IsBackIn, IsBackOut, IsBackValue, IsInRow, row_in, step_of}
use Rattle.json_pieces.specs.Exchanges.{with_trail, with_whitespace}
use Rattle.json_pieces.specs.Finer.{AreOpenedFrom, IsOpenedFrom}
use Rattle.json_pieces.specs.Held.{Held, head_of, held, held_row, helds, row_held}
use Rattle.json_pieces.specs.Logged.{AreInRow, IsLed, IsStep, IsStepped}
use Rattle.json_pieces.specs.Nodes.{row_view, tree_of}
use Rattle.json_pieces.specs.Slots.{AreSwapped, IsPut, IsSlotOf}
use Rattle.json_pieces.specs.declared.back.Back.{Back}
use Rattle.json_pieces.specs.declared.back.Back.TheVariants.{Out}
use Rattle.json_pieces.specs.declared.back.Level.{Level}
use Rattle.json_pieces.specs.declared.node.Node.{Node}
use Rattle.json_pieces.specs.declared.node.Node.TheVariants.{Open}
use Rattle.json_pieces.specs.declared.node.Row.{Row}
use Rattle.json_pieces.specs.declared.row.Slot.{Slot}
use Rattle.json_pieces.specs.declared.row.Slot.TheVariants.{Hollow, Whitespace, Trail}
use Rattle.json_pieces.specs.declared.seams.Seam.{Seam}
use Rattle.json_pieces.specs.declared.text.Text.{Text}
use Rattle.json_pieces.proofs.HeldRows.{map_count, map_get, map_insert, map_set}
use Rattle.json_pieces.proofs.Levels.{held_open, row_tree}
use Rattle.json_pieces.proofs.Opened.{opened_all, opened_itself, opened_trans, roomier_same}

-- what holds whether or not there was memory
pub on_err : {X E P : Type 0} (c : Result X E) → P → OnErr c P
on_err (Ok x) p = tt
on_err (Err e) p = p

pub failed : {X E P : Type 0} (c : Result X E) → is_err c ≡ true → OnErr c P → P
failed (Ok x) e p = absurd (true≢false (sym e))
failed (Err x) e p = p

-- what holds of the rows holds of the values
pub both_through : (R : Held → Held → Type 0) (old new : Node) (b s : Box Row Global) (copy : Row) → old ≡ Open b → new ≡ Open s → copy ≡ b.value → R (row_held copy) (row_held s.value) → R (held old) (held new)
both_through R old new b s copy is left copied h =
    subst (λ t. R t (held new)) (sym (ap held is ∙ held_open b ∙ ap row_held (sym copied))) (subst (R (row_held copy)) (sym (ap held left ∙ held_open s)) h)

-- ---- the slot

set_back : (ss : List Seam) (n : ℕ) (s t : Seam) → s ≡ get_or ss n s → slice_set (slice_set ss n t) n s ≡ ss
set_back ss n s t e = set-set ss n t s ∙ ap (slice_set ss n) e ∙ set-get_or ss n s

pub swapped_back : (slot : Slot) (s t : Seam) (hollow hollow2 : Text) (olds news : List Seam) → IsSlotOf slot (length olds) → AreSwapped slot s hollow olds t hollow2 news → AreSwapped slot t hollow2 news s hollow olds
swapped_back Hollow s t hollow hollow2 olds news k h =
    (sym (ap₂ with_trail h.1 h.0), sym (ap (λ x. x.trail) h.0), sym h.2)
swapped_back (Whitespace n) s t hollow hollow2 olds news k h =
    let o = h.2 in (
      sym (ap (with_whitespace s.whitespace) h.0),
      sym h.1,
      record {
        seam = with_whitespace s.whitespace o.seam;
        is = sym (ap (λ l. get_or l n (with_whitespace s.whitespace o.seam)) o.left ∙ get_or-set_same olds n (with_whitespace s.whitespace o.seam) (with_whitespace s.whitespace o.seam) k);
        taken_is = refl;
        left = sym (ap₂ (λ l x. slice_set l n (with_whitespace x o.seam)) o.left o.taken_is ∙ set_back olds n o.seam (with_whitespace s.whitespace o.seam) o.is);
      },
    )
swapped_back (Trail n) s t hollow hollow2 olds news k h =
    let o = h.2 in (
      sym (ap (with_trail s.trail) h.0),
      sym h.1,
      record {
        seam = with_trail s.trail o.seam;
        is = sym (ap (λ l. get_or l n (with_trail s.trail o.seam)) o.left ∙ get_or-set_same olds n (with_trail s.trail o.seam) (with_trail s.trail o.seam) k);
        taken_is = refl;
        left = sym (ap₂ (λ l x. slice_set l n (with_trail x o.seam)) o.left o.taken_is ∙ set_back olds n o.seam (with_trail s.trail o.seam) o.is);
      },
    )

pub swapped_count : (slot : Slot) (s t : Seam) (hollow hollow2 : Text) (olds news : List Seam) → AreSwapped slot s hollow olds t hollow2 news → length news ≡ length olds
swapped_count Hollow s t hollow hollow2 olds news h = ap length h.2
swapped_count (Whitespace n) s t hollow hollow2 olds news h = ap length h.2.left ∙ length-set olds n (with_whitespace s.whitespace h.2.seam)
swapped_count (Trail n) s t hollow hollow2 olds news h = ap length h.2.left ∙ length-set olds n (with_trail s.trail h.2.seam)

-- ---- a part taken out

pub taken_inserted : {A : Type 0} (xs : List A) (n : ℕ) (x : A) → n < length xs → x ≡ get_or xs n x → insert (remove xs n) n x ≡ xs
taken_inserted [] n x l e = absurd (omega arith)
taken_inserted {A = A} (y ∷ xs) zero x l e = head xs
  where
    head : (xs : List A) → insert xs 0 x ≡ y ∷ xs
    head [] = ap (λ z. z ∷ []) e
    head (w ∷ xs) = ap (λ z. z ∷ w ∷ xs) e
taken_inserted (y ∷ xs) (suc n) x l e = ap (λ l. y ∷ l) (taken_inserted xs n x (omega arith) e)

-- the frame of a row
abbrev frame_of : Row → Frame
frame_of r = record { named = r.named; seams_room = capacity_of r.seams.all; values_room = capacity_of r.values }

module _ (r : Row) (n : ℕ) (s : Seam) (v : Node) (ss : List Seam) (vs : List Node) (lr : n < length (items_of r.seams.all)) (lv : n < length (items_of r.values)) (es : s ≡ get_or (items_of r.seams.all) n s) (ev : v ≡ get_or (items_of r.values) n v) (fs : ss ≡ remove (items_of r.seams.all) n) (fv : vs ≡ remove (items_of r.values) n) where
  seams_again : items_of r.seams.all ≡ insert ss n s
  seams_again = sym (ap (λ l. insert l n s) fs ∙ taken_inserted (items_of r.seams.all) n s lr es)

  values_again : map held (items_of r.values) ≡ insert (map held vs) n (held v)
  values_again = ap (map held) (sym (ap (λ l. insert l n v) fv ∙ taken_inserted (items_of r.values) n v lv ev)) ∙ map_insert held vs n v

  row_again : row_held r ≡ row_in (frame_of r) r.length r.hollow (insert ss n s) (insert (map held vs) n (held v))
  row_again = ap₂ (λ l k. row_in (frame_of r) r.length r.hollow l k) seams_again values_again

  pub in_again : (slot : Slot) (t : Seam) (hollow : Text) (news : List Seam) (k sr vr : ℕ) → IsSlotOf slot (length ss) → AreSwapped slot s r.hollow ss t hollow news → sr ≡ capacity_of r.seams.all → vr ≡ capacity_of r.values → length ss < sr → length vs < vr → length ss + 1 < 2 ^ 64 → length ss + 1 ≡ length (items_of r.seams.all) → length vs + 1 ≡ length (items_of r.values)
      → IsBackIn n t (held v) slot r.length (held_row (record { named = r.named; length = k; seams_room = sr; values_room = vr; hollow = hollow; seams = news }) (helds (map held vs))) (row_held r)
  in_again slot t hollow news k sr vr sl h er ew room room2 fits count count2 =
      let many = swapped_count slot s t r.hollow hollow ss news h in
      record {
        frame = frame_of r;
        m = k;
        hollow = hollow;
        hollow_then = r.hollow;
        seams = news;
        seams_then = ss;
        values = map held vs;
        s_then = s;
        now_is = ap₂ (λ x y. held_row (record { named = r.named; length = k; seams_room = x; values_room = y; hollow = hollow; seams = news }) (helds (map held vs))) er ew;
        then_is = row_again;
        swapped = swapped_back slot s t r.hollow hollow ss news sl h;
        slot_is = subst (IsSlotOf slot) (sym many) sl;
        within = omega (arith, many, count, lr);
        within_values = omega (arith, map_count held vs, count2, lv);
        room = omega (arith, many, room, er);
        room_values = omega (arith, map_count held vs, room2, ew);
        fits = omega (arith, many, fits);
      }

nothing_left : {A : Type 0} (xs : List A) → length xs ≡ 0 → xs ≡ []
nothing_left [] e = refl
nothing_left (x ∷ xs) e = absurd (omega (arith, e))

pub alone_again : (r : Row) (s : Seam) (v : Node) (ss : List Seam) (vs : List Node) (hollow : Text) (k sr vr : ℕ) → length (items_of r.seams.all) ≡ 1 → length (items_of r.values) ≡ 1 → s ≡ get_or (items_of r.seams.all) 0 s → v ≡ get_or (items_of r.values) 0 v → ss ≡ remove (items_of r.seams.all) 0 → vs ≡ remove (items_of r.values) 0
    → sr ≡ capacity_of r.seams.all → vr ≡ capacity_of r.values → length ss < sr → length vs < vr → length ss + 1 ≡ length (items_of r.seams.all) → length vs + 1 ≡ length (items_of r.values)
    → IsAloneAgain s (held v) r.hollow r.length (held_row (record { named = r.named; length = k; seams_room = sr; values_room = vr; hollow = hollow; seams = ss }) (helds (map held vs))) (row_held r)
alone_again r s v ss vs hollow k sr vr lr lv es ev fs fv er ew room room2 count count2 =
    let f : Frame = record { named = r.named; seams_room = capacity_of r.seams.all; values_room = capacity_of r.values } in
    let none : ss ≡ [] = nothing_left ss (omega (arith, count, lr)) in
    let none2 : vs ≡ [] = nothing_left vs (omega (arith, count2, lv)) in
    record {
      frame = f;
      m = k;
      hollow = hollow;
      now_is = ap₂ (λ x y. held_row (record { named = r.named; length = k; seams_room = x; values_room = y; hollow = hollow; seams = ss }) (helds (map held vs))) er ew ∙ ap₂ (λ x y. row_in f k hollow x (map held y)) none none2;
      then_is = row_again r 0 s v ss vs (omega (arith, lr)) (omega (arith, lv)) es ev fs fv ∙ ap₂ (λ x y. row_in f r.length r.hollow (insert x 0 s) (insert (map held y) 0 (held v))) none none2;
      room = omega (arith, room, er);
      room_values = omega (arith, room2, ew);
    }

-- ---- a part put in

-- the row with more room
pub roomier_row : (r : Row) (sr vr : ℕ) → capacity_of r.seams.all ≤ sr → capacity_of r.values ≤ vr → IsOpenedFrom (row_held r) (row_in (record { named = r.named; seams_room = sr; values_room = vr }) r.length r.hollow (items_of r.seams.all) (map held (items_of r.values)))
roomier_row r sr vr a b = (record { named = refl; length = refl; hollow = refl; seams = refl; seams_room = a; values_room = b }, opened_all (helds (map held (items_of r.values))))

pub row_roomier : (r q : Row) → q.named ≡ r.named → q.length ≡ r.length → q.hollow ≡ r.hollow → items_of q.seams.all ≡ items_of r.seams.all → items_of q.values ≡ items_of r.values → capacity_of r.seams.all ≤ capacity_of q.seams.all → capacity_of r.values ≤ capacity_of q.values → IsOpenedFrom (row_held r) (row_held q)
row_roomier r q a b c d e f g = (record { named = a; length = b; hollow = c; seams = d; seams_room = f; values_room = g }, subst (λ vs. AreOpenedFrom (helds (map held (items_of r.values))) (helds (map held vs))) (sym e) (opened_all (helds (map held (items_of r.values)))))

pub out_again : (slot : Slot) (n : ℕ) (r q : Row) (given : Seam) (value : Node) → IsPut slot n r given value q → n ≤ length (items_of r.seams.all) → n ≤ length (items_of r.values) → IsSlotOf slot (length (items_of r.seams.all))
    → IsBackOut n slot r.length (row_held q) (row_in (record { named = r.named; seams_room = capacity_of q.seams.all; values_room = capacity_of q.values }) r.length r.hollow (items_of r.seams.all) (map held (items_of r.values)))
out_again slot n r q given value put a b k =
    let f : Frame = record { named = r.named; seams_room = capacity_of q.seams.all; values_room = capacity_of q.values } in
    let many = swapped_count slot given put.seam r.hollow q.hollow (items_of r.seams.all) put.seams put.swapped in
    record {
      frame = f;
      m = q.length;
      hollow = q.hollow;
      hollow_then = r.hollow;
      seams = put.seams;
      seams_then = items_of r.seams.all;
      values = map held (items_of r.values);
      s = put.seam;
      s_then = given;
      v = held value;
      now_is = ap₂ (λ x y. held_row (record { named = x; length = q.length; seams_room = capacity_of q.seams.all; values_room = capacity_of q.values; hollow = q.hollow; seams = y }) (helds (map held (items_of q.values)))) put.named put.seams_are ∙ ap (row_in f q.length q.hollow (insert put.seams n put.seam)) (ap (map held) put.values_are ∙ map_insert held (items_of r.values) n value);
      then_is = refl;
      swapped = swapped_back slot given put.seam r.hollow q.hollow (items_of r.seams.all) put.seams k put.swapped;
      slot_is = subst (IsSlotOf slot) (sym many) k;
      within = omega (arith, many, a);
      within_values = omega (arith, map_count held (items_of r.values), b);
    }

pub step_out : (slot : Slot) (n : ℕ) (r q : Row) (given : Seam) (value : Node) → IsPut slot n r given value q → n ≤ length (items_of r.seams.all) → n ≤ length (items_of r.values) → IsSlotOf slot (length (items_of r.seams.all)) → capacity_of r.seams.all ≤ capacity_of q.seams.all → capacity_of r.values ≤ capacity_of q.values
    → IsStep (Out n slot r.length) (row_held r) (row_held q)
step_out slot n r q given value put a b k e f = (row_in (record { named = r.named; seams_room = capacity_of q.seams.all; values_room = capacity_of q.values }) r.length r.hollow (items_of r.seams.all) (map held (items_of r.values)), roomier_row r (capacity_of q.seams.all) (capacity_of q.values) e f, out_again slot n r q given value put a b k)

-- ---- another value

one_opened : (before behind : List Held) (x y : Held) → IsOpenedFrom x y → AreOpenedFrom (helds (before ++ (x ∷ behind))) (helds (before ++ (y ∷ behind)))
one_opened [] behind x y f = (f, opened_all (helds behind))
one_opened (b ∷ before) behind x y f = (opened_itself b, one_opened before behind x y f)

record IsThere (ts : List Held) (n : ℕ) (x y : Held) : Type 0 where
  before : List Held
  behind : List Held
  number : n ≡ length before
  is : ts ≡ before ++ (x ∷ behind)
  set : slice_set ts n y ≡ before ++ (y ∷ behind)

there : (ts : List Held) (n : ℕ) (x y : Held) → n < length ts → x ≡ get_or ts n x → IsThere ts n x y
there [] n x y l e = absurd (omega arith)
there (t ∷ ts) zero x y l e = record { before = []; behind = ts; number = refl; is = ap (λ z. z ∷ ts) (sym e); set = refl }
there (t ∷ ts) (suc n) x y l e =
    let r = there ts n x y (omega arith) e in
    record { before = t ∷ r.before; behind = r.behind; number = ap suc r.number; is = ap (λ z. t ∷ z) r.is; set = ap (λ z. t ∷ z) r.set }

module _ (r : Row) (n : ℕ) (v w : Node) (l : n < length (items_of r.values)) (e : v ≡ get_or (items_of r.values) n v) where
  at : IsThere (map held (items_of r.values)) n (held v) (held w)
  at = there (map held (items_of r.values)) n (held v) (held w) (omega (arith, l, map_count held (items_of r.values))) (ap held e ∙ map_get held (items_of r.values) n v)

  values_now : (vs : List Node) → vs ≡ slice_set (items_of r.values) n w → map held vs ≡ at.before ++ (held w ∷ at.behind)
  values_now vs f = ap (map held) f ∙ map_set held (items_of r.values) n w ∙ at.set

  pub value_again : (vs : List Node) (k vr : ℕ) → vs ≡ slice_set (items_of r.values) n w → vr ≡ capacity_of r.values
      → IsBackValue n (held v) r.length (held_row (record { named = r.named; length = k; seams_room = capacity_of r.seams.all; values_room = vr; hollow = r.hollow; seams = items_of r.seams.all }) (helds (map held vs))) (row_held r)
  value_again vs k vr f ew =
      let g : Frame = record { named = r.named; seams_room = capacity_of r.seams.all; values_room = capacity_of r.values } in
      record {
        frame = g;
        m = k;
        hollow = r.hollow;
        seams = items_of r.seams.all;
        before = at.before;
        x = held w;
        behind = at.behind;
        number = at.number;
        now_is = ap₂ (λ x y. held_row (record { named = r.named; length = k; seams_room = capacity_of r.seams.all; values_room = x; hollow = r.hollow; seams = items_of r.seams.all }) (helds y)) ew (values_now vs f);
        then_is = ap (row_in g r.length r.hollow (items_of r.seams.all)) at.is;
      }

  -- what was opened in that value was opened in the row
  pub value_opened : (vs : List Node) (k vr : ℕ) → vs ≡ slice_set (items_of r.values) n w → vr ≡ capacity_of r.values → k ≡ r.length → IsOpenedFrom (held v) (held w)
      → IsOpenedFrom (row_held r) (held_row (record { named = r.named; length = k; seams_room = capacity_of r.seams.all; values_room = vr; hollow = r.hollow; seams = items_of r.seams.all }) (helds (map held vs)))
  value_opened vs k vr f ew same h = (
    record { named = refl; length = same; hollow = refl; seams = refl; seams_room = omega arith; values_room = omega (arith, ew) },
    subst (λ ts. AreOpenedFrom (helds (map held (items_of r.values))) (helds ts)) (sym (values_now vs f)) (subst (λ ts. AreOpenedFrom (helds ts) (helds (at.before ++ (held w ∷ at.behind)))) (sym at.is) (one_opened at.before at.behind (held v) (held w) h)),
  )

  -- what was changed in that value is led to through the row
  pub led_below : (steps : List Back) (olds mid news : List Level) (vs : List Node) (k vr : ℕ) → vs ≡ slice_set (items_of r.values) n w → vr ≡ capacity_of r.values → mid ≡ olds ++ (record { number = n; length = r.length } ∷ []) → (IsOpenedFrom (held v) (held w) → k ≡ r.length) → IsLed steps mid news (held v) (held w)
      → IsLed steps olds news (row_held r) (held_row (record { named = r.named; length = k; seams_room = capacity_of r.seams.all; values_room = vr; hollow = r.hollow; seams = items_of r.seams.all }) (helds (map held vs)))
  led_below [] olds mid news vs k vr f ew is same h = value_opened vs k vr f ew (same h) h
  led_below (c ∷ cs) olds mid news vs k vr f ew is same h =
      let g : Frame = record { named = r.named; seams_room = capacity_of r.seams.all; values_room = capacity_of r.values } in
      record {
        levels = record { number = n; length = r.length } ∷ h.levels;
        are = h.are ∙ ap (λ ls. ls ++ h.levels) is ∙ append_assoc olds (record { number = n; length = r.length } ∷ []) h.levels;
        was = row_in g r.length r.hollow (items_of r.seams.all) (at.before ++ (h.was ∷ at.behind));
        opened = (roomier_same (head_of r), subst (λ ts. AreOpenedFrom (helds ts) (helds (at.before ++ (h.was ∷ at.behind)))) (sym at.is) (one_opened at.before at.behind (held v) h.was h.opened));
        back = record {
          frame = g;
          m = k;
          hollow = r.hollow;
          seams = items_of r.seams.all;
          before = at.before;
          x = held w;
          y = h.was;
          behind = at.behind;
          number = at.number;
          now_is = ap₂ (λ x y. held_row (record { named = r.named; length = k; seams_room = capacity_of r.seams.all; values_room = x; hollow = r.hollow; seams = items_of r.seams.all }) (helds y)) ew (values_now vs f);
          then_is = refl;
          inside = h.back;
        };
      }

-- ---- the steps

pub stepped_none : (steps : List Back) (t : Held) → steps ≡ [] → IsStepped steps t t
stepped_none steps t e = subst (λ l. IsStepped l t t) (sym e) (opened_itself t)

pub stepped_opened : (steps : List Back) (t u : Held) → steps ≡ [] → IsOpenedFrom t u → IsStepped steps t u
stepped_opened steps t u e f = subst (λ l. IsStepped l t u) (sym e) f

pub stepped_one : (steps : List Back) (c : Back) (t u : Held) → steps ≡ c ∷ [] → IsBack (step_of c) u t → IsStepped steps t u
stepped_one steps c t u e h = subst (λ l. IsStepped l t u) (sym e) (record { was = t; opened = opened_itself t; back = (u, refl, h) })

pub stepped_by : (steps : List Back) (t u : Held) → AreBack steps u t → IsStepped steps t u
stepped_by [] t u h = subst (IsOpenedFrom t) (sym h) (opened_itself t)
stepped_by (c ∷ cs) t u h = record { was = t; opened = opened_itself t; back = h }

pub stepped_after : (steps : List Back) (t s u : Held) → IsOpenedFrom t s → IsStepped steps s u → IsStepped steps t u
stepped_after [] t s u f h = opened_trans t s u f h
stepped_after (c ∷ cs) t s u f h = record { was = h.was; opened = opened_trans t s h.was f h.opened; back = h.back }

pub stepped_led : (steps : List Back) (olds news : List Level) (t u : Held) → news ≡ olds → IsStepped steps t u → IsLed steps olds news t u
stepped_led [] olds news t u e h = h
stepped_led (c ∷ cs) olds news t u e h = record { levels = []; are = e ∙ sym (append-nil olds); was = h.was; opened = h.opened; back = h.back }

pub led_none : (steps : List Back) (olds news : List Level) (t u : Held) → steps ≡ [] → IsOpenedFrom t u → IsLed steps olds news t u
led_none steps olds news t u e f = subst (λ l. IsLed l olds news t u) (sym e) f

pub led_after : (steps : List Back) (olds news : List Level) (t s u : Held) → IsOpenedFrom t s → IsLed steps olds news s u → IsLed steps olds news t u
led_after [] olds news t s u f h = opened_trans t s u f h
led_after (c ∷ cs) olds news t s u f h = record { levels = h.levels; are = h.are; was = h.was; opened = opened_trans t s h.was f h.opened; back = h.back }

pub back_more : (cs : List Back) (c : Back) (t r p : Held) → IsBack (step_of c) t r → AreBack cs r p → AreBack (cs ++ c ∷ []) t p
back_more [] c t r p h k = (t, refl, subst (IsBack (step_of c) t) k h)
back_more (d ∷ cs) c t r p h k = (k.0, back_more cs c t r k.0 h k.1, k.2)

pub in_row_more : (cs : List Back) (c : Back) → AreInRow cs → IsInRow (step_of c) → AreInRow (cs ++ c ∷ [])
in_row_more [] c h k = (k, tt)
in_row_more (d ∷ cs) c h k = (h.0, in_row_more cs c h.1 k)

pub in_row_popped : (cs : List Back) (c : Back) → AreInRow (cs ++ c ∷ []) → AreInRow cs × IsInRow (step_of c)
in_row_popped [] c h = (tt, h.0)
in_row_popped (d ∷ cs) c h = let more = in_row_popped cs c h.1 in ((h.0, more.0), more.1)

-- what holds the same is seen the same, and is as long
pub held_view : (r q : Row) → row_held q ≡ row_held r → row_view q ≡ row_view r
held_view r q e = sym (row_tree q) ∙ ap tree_of e ∙ row_tree r

pub held_length : (r q : Row) → row_held q ≡ row_held r → q.length ≡ r.length
held_length r q e = let same : head_of q ≡ head_of r = cc in ap (λ h. h.length) same
