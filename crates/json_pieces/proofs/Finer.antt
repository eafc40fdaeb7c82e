-- A log leads back also from where more was opened meanwhile, or room was made.
use Rattle.std.proofs.Common.{◌≡◌, ℕ, zero, suc, ◌≤◌, List, [], ◌∷◌, ◌++◌, length, refl, sym, ap, ◌∙◌, subst, arith}
use Rattle.std.specs.List.{insert}
use Rattle.json_pieces.specs.Backs.{Along, AreBack, Frame, IsBack, LogLeads, Step, alone, into, out, row_in, step_of, swap, value}
use Rattle.json_pieces.specs.Finer.{AreOpenedFrom, IsOpenedFrom}
use Rattle.json_pieces.specs.Held.{Held, Helds, and_more, held_row, held_text, helds, no_more}
use Rattle.json_pieces.specs.declared.back.Back.{Back}
use Rattle.json_pieces.specs.declared.back.Change.{Change}
use Rattle.json_pieces.specs.declared.back.Level.{Level}
use Rattle.json_pieces.specs.declared.seams.Seam.{Seam}
use Rattle.json_pieces.specs.declared.text.Text.{Text}
use Rattle.json_pieces.proofs.HeldRows.{row_same}
use Rattle.json_pieces.proofs.Opened.{opened_itself}

-- ---- lists

abbrev AllFiner : List Held → List Held → Type 0
AllFiner [] [] = Unit {0}
AllFiner [] (u ∷ us) = ⊥
AllFiner (t ∷ ts) [] = ⊥
AllFiner (t ∷ ts) (u ∷ us) = IsOpenedFrom t u × AllFiner ts us

listed : (ts : List Held) (us : Helds) → AreOpenedFrom (helds ts) us → (ws : List Held) × (us ≡ helds ws) × AllFiner ts ws
listed [] no_more h = ([], refl, tt)
listed [] (and_more u us) h = absurd h
listed (t ∷ ts) no_more h = absurd h
listed (t ∷ ts) (and_more u us) h = let more = listed ts us h.1 in (u ∷ more.0, ap (and_more u) more.1, (h.0, more.2))

joined : (ts us : List Held) → AllFiner ts us → AreOpenedFrom (helds ts) (helds us)
joined [] [] h = tt
joined [] (u ∷ us) h = absurd h
joined (t ∷ ts) [] h = absurd h
joined (t ∷ ts) (u ∷ us) h = (h.0, joined ts us h.1)

as_many : (ts us : List Held) → AllFiner ts us → length us ≡ length ts
as_many [] [] h = refl
as_many [] (u ∷ us) h = absurd h
as_many (t ∷ ts) [] h = absurd h
as_many (t ∷ ts) (u ∷ us) h = ap suc (as_many ts us h.1)

none_finer : (us : List Held) → AllFiner [] us → us ≡ []
none_finer [] h = refl
none_finer (u ∷ us) h = absurd h

-- the values but the one of number n
record AreSplit (vs : List Held) (n : ℕ) (v : Held) (ws : List Held) : Type 0 where
  others : List Held
  one : Held
  is : ws ≡ insert others n one
  finer : AllFiner vs others
  one_finer : IsOpenedFrom v one

split_at : (vs : List Held) (n : ℕ) (v : Held) (ws : List Held) → n ≤ length vs → AllFiner (insert vs n v) ws → AreSplit vs n v ws
split_at [] zero v [] le h = absurd h
split_at [] zero v (w ∷ []) le h = record { others = []; one = w; is = refl; finer = tt; one_finer = h.0 }
split_at [] zero v (w ∷ x ∷ ws) le h = absurd h.1
split_at [] (suc n) v ws le h = absurd (omega arith)
split_at (u ∷ vs) zero v [] le h = absurd h
split_at (u ∷ vs) zero v (w ∷ ws) le h = record { others = ws; one = w; is = refl; finer = h.1; one_finer = h.0 }
split_at (u ∷ vs) (suc n) v [] le h = absurd h
split_at (u ∷ vs) (suc n) v (w ∷ ws) le h =
    let r = split_at vs n v ws (omega arith) h.1 in
    record { others = w ∷ r.others; one = r.one; is = ap (λ l. w ∷ l) r.is; finer = (h.0, r.finer); one_finer = r.one_finer }

put_at : (vs ws : List Held) (n : ℕ) (v w : Held) → n ≤ length vs → AllFiner vs ws → IsOpenedFrom v w → AllFiner (insert vs n v) (insert ws n w)
put_at [] [] zero v w le h f = (f, tt)
put_at [] [] (suc n) v w le h f = absurd (omega arith)
put_at [] (x ∷ ws) n v w le h f = absurd h
put_at (u ∷ vs) [] n v w le h f = absurd h
put_at (u ∷ vs) (x ∷ ws) zero v w le h f = (f, h)
put_at (u ∷ vs) (x ∷ ws) (suc n) v w le h f = (h.0, put_at vs ws n v w (omega arith) h.1 f)

record AreAround (before : List Held) (x : Held) (behind ws : List Held) : Type 0 where
  front : List Held
  one : Held
  back : List Held
  is : ws ≡ front ++ (one ∷ back)
  count : length front ≡ length before
  front_finer : AllFiner before front
  one_finer : IsOpenedFrom x one
  back_finer : AllFiner behind back

around : (before : List Held) (x : Held) (behind ws : List Held) → AllFiner (before ++ (x ∷ behind)) ws → AreAround before x behind ws
around [] x behind [] h = absurd h
around [] x behind (w ∷ ws) h = record { front = []; one = w; back = ws; is = refl; count = refl; front_finer = tt; one_finer = h.0; back_finer = h.1 }
around (b ∷ before) x behind [] h = absurd h
around (b ∷ before) x behind (w ∷ ws) h =
    let r = around before x behind ws h.1 in
    record { front = w ∷ r.front; one = r.one; back = r.back; is = ap (λ l. w ∷ l) r.is; count = ap suc r.count; front_finer = (h.0, r.front_finer); one_finer = r.one_finer; back_finer = r.back_finer }

all_around : (before front : List Held) (x y : Held) (behind back : List Held) → AllFiner before front → IsOpenedFrom x y → AllFiner behind back → AllFiner (before ++ (x ∷ behind)) (front ++ (y ∷ back))
all_around [] [] x y behind back h f k = (f, k)
all_around [] (w ∷ front) x y behind back h f k = absurd h
all_around (b ∷ before) [] x y behind back h f k = absurd h
all_around (b ∷ before) (w ∷ front) x y behind back h f k = (h.0, all_around before front x y behind back h.1 f k)

-- ---- a row

-- what is finer than a row is one, with finer values
record IsFinerRow (f : Frame) (l : ℕ) (hollow : Text) (ss : List Seam) (ts : List Held) (u : Held) : Type 0 where
  frame : Frame
  values : List Held
  is : u ≡ row_in frame l hollow ss values
  finer : AllFiner ts values
  named : frame.named ≡ f.named
  more : f.seams_room ≤ frame.seams_room
  more_values : f.values_room ≤ frame.values_room

finer_row : (f : Frame) (l : ℕ) (hollow : Text) (ss : List Seam) (ts : List Held) (t u : Held) → t ≡ row_in f l hollow ss ts → IsOpenedFrom t u → IsFinerRow f l hollow ss ts u
finer_row f l hollow ss ts t u e o = of_row u (subst (λ x. IsOpenedFrom x u) e o)
  where
    of_row : (u : Held) → IsOpenedFrom (row_in f l hollow ss ts) u → IsFinerRow f l hollow ss ts u
    of_row (held_text s) o = absurd o
    of_row (held_row h us) o =
        let r = listed ts us o.1 in
        let frame : Frame = record { named = f.named; seams_room = h.seams_room; values_room = h.values_room } in
        record {
          frame = frame;
          values = r.0;
          is = ap (held_row h) r.1 ∙ row_same h.named h.length h.seams_room h.values_room h.hollow h.seams r.0 frame l hollow ss r.0 o.0.named o.0.length refl refl o.0.hollow o.0.seams refl;
          finer = r.2;
          named = refl;
          more = o.0.seams_room;
          more_values = o.0.values_room;
        }

row_finer : (f g : Frame) (l : ℕ) (hollow : Text) (ss : List Seam) (ts us : List Held) (t : Held) → t ≡ row_in f l hollow ss ts → g.named ≡ f.named → f.seams_room ≤ g.seams_room → f.values_room ≤ g.values_room → AllFiner ts us → IsOpenedFrom t (row_in g l hollow ss us)
row_finer f g l hollow ss ts us t e n m k h =
    subst (λ x. IsOpenedFrom x (row_in g l hollow ss us)) (sym e)
    (record { named = n; length = refl; hollow = refl; seams = refl; seams_room = m; values_room = k }, joined ts us h)

-- ---- one step from what is finer

pub finer_step : (c : Step) (t p x : Held) → IsBack c t p → IsOpenedFrom t x → (q : Held) × IsBack c x q × IsOpenedFrom p q
finer_step (swap v) t p x h f = (v, refl, subst (λ y. IsOpenedFrom y v) (sym h) (opened_itself v))
finer_step (value n v l) t p x b f =
    let r = finer_row b.frame b.m b.hollow b.seams (b.before ++ (b.x ∷ b.behind)) t x b.now_is f in
    let a = around b.before b.x b.behind r.values r.finer in (
      row_in r.frame l b.hollow b.seams (a.front ++ (v ∷ a.back)),
      record {
        frame = r.frame;
        m = b.m;
        hollow = b.hollow;
        seams = b.seams;
        before = a.front;
        x = a.one;
        behind = a.back;
        number = b.number ∙ sym a.count;
        now_is = r.is ∙ ap (row_in r.frame b.m b.hollow b.seams) a.is;
        then_is = refl;
      },
      row_finer b.frame r.frame l b.hollow b.seams (b.before ++ (v ∷ b.behind)) (a.front ++ (v ∷ a.back)) p b.then_is r.named r.more r.more_values (all_around b.before a.front v v b.behind a.back a.front_finer (opened_itself v) a.back_finer),
    )
finer_step (out n slot l) t p x b f =
    let r = finer_row b.frame b.m b.hollow (insert b.seams n b.s) (insert b.values n b.v) t x b.now_is f in
    let q = split_at b.values n b.v r.values b.within_values r.finer in (
      row_in r.frame l b.hollow_then b.seams_then q.others,
      record {
        frame = r.frame;
        m = b.m;
        hollow = b.hollow;
        hollow_then = b.hollow_then;
        seams = b.seams;
        seams_then = b.seams_then;
        values = q.others;
        s = b.s;
        s_then = b.s_then;
        v = q.one;
        now_is = r.is ∙ ap (row_in r.frame b.m b.hollow (insert b.seams n b.s)) q.is;
        then_is = refl;
        swapped = b.swapped;
        slot_is = b.slot_is;
        within = b.within;
        within_values = omega (arith, b.within_values, as_many b.values q.others q.finer);
      },
      row_finer b.frame r.frame l b.hollow_then b.seams_then b.values q.others p b.then_is r.named r.more r.more_values q.finer,
    )
finer_step (into n s v slot l) t p x b f =
    let r = finer_row b.frame b.m b.hollow b.seams b.values t x b.now_is f in (
      row_in r.frame l b.hollow_then (insert b.seams_then n b.s_then) (insert r.values n v),
      record {
        frame = r.frame;
        m = b.m;
        hollow = b.hollow;
        hollow_then = b.hollow_then;
        seams = b.seams;
        seams_then = b.seams_then;
        values = r.values;
        s_then = b.s_then;
        now_is = r.is;
        then_is = refl;
        swapped = b.swapped;
        slot_is = b.slot_is;
        within = b.within;
        within_values = omega (arith, b.within_values, as_many b.values r.values r.finer);
        room = omega (arith, b.room, r.more);
        room_values = omega (arith, b.room_values, r.more_values, as_many b.values r.values r.finer);
        fits = b.fits;
      },
      row_finer b.frame r.frame l b.hollow_then (insert b.seams_then n b.s_then) (insert b.values n v) (insert r.values n v) p b.then_is r.named r.more r.more_values (put_at b.values r.values n v v b.within_values r.finer (opened_itself v)),
    )
finer_step (alone s v hollow l) t p x b f =
    let r = finer_row b.frame b.m b.hollow [] [] t x b.now_is f in (
      row_in r.frame l hollow (s ∷ []) (v ∷ []),
      record {
        frame = r.frame;
        m = b.m;
        hollow = b.hollow;
        now_is = r.is ∙ ap (row_in r.frame b.m b.hollow []) (none_finer r.values r.finer);
        then_is = refl;
        room = omega (arith, b.room, r.more);
        room_values = omega (arith, b.room_values, r.more_values);
      },
      row_finer b.frame r.frame l hollow (s ∷ []) (v ∷ []) (v ∷ []) p b.then_is r.named r.more r.more_values (opened_itself v, tt),
    )

-- ---- more steps

abbrev IsFineBack : (Held → Held → Type 0) → Type 0
IsFineBack R = (t p x : Held) → R t p → IsOpenedFrom t x → (q : Held) × R x q × IsOpenedFrom p q

finer_steps : (cs : List Back) → IsFineBack (AreBack cs)
finer_steps [] t p x h f = (x, refl, subst (λ y. IsOpenedFrom y x) h f)
finer_steps (c ∷ cs) t p x h f =
    let more = finer_steps cs t h.0 x h.1 f in
    let one = finer_step (step_of c) h.0 p more.0 h.2 more.2 in
    (one.0, (more.0, more.1, one.1), one.2)

pub finer_along : (ls : List Level) (R : Held → Held → Type 0) → IsFineBack R → IsFineBack (Along ls R)
finer_along [] R fine t p x h f = fine t p x h f
finer_along (l ∷ ls) R fine t p x b f =
    let r = finer_row b.frame b.m b.hollow b.seams (b.before ++ (b.x ∷ b.behind)) t x b.now_is f in
    let a = around b.before b.x b.behind r.values r.finer in
    let q = finer_along ls R fine b.x b.y a.one b.inside a.one_finer in (
      row_in r.frame l.length b.hollow b.seams (a.front ++ (q.0 ∷ a.back)),
      record {
        frame = r.frame;
        m = b.m;
        hollow = b.hollow;
        seams = b.seams;
        before = a.front;
        x = a.one;
        y = q.0;
        behind = a.back;
        number = b.number ∙ sym a.count;
        now_is = r.is ∙ ap (row_in r.frame b.m b.hollow b.seams) a.is;
        then_is = refl;
        inside = q.1;
      },
      row_finer b.frame r.frame l.length b.hollow b.seams (b.before ++ (b.y ∷ b.behind)) (a.front ++ (q.0 ∷ a.back)) p b.then_is r.named r.more r.more_values (all_around b.before a.front b.y q.0 b.behind a.back a.front_finer q.2 a.back_finer),
    )

pub finer_back : (log : List Change) → IsFineBack (LogLeads log)
finer_back [] t p x h f = (x, refl, subst (λ y. IsOpenedFrom y x) h f)
finer_back (c ∷ log) t p x h f =
    let more = finer_back log t h.0 x h.1 f in
    let one = finer_along c.place.items (AreBack c.steps.items) (finer_steps c.steps.items) h.0 p more.0 h.2 more.2 in
    (one.0, (more.0, more.1, one.1), one.2)
