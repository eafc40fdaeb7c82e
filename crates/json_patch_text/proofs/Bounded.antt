-- A run within limits, one step at a time: each text on the way is within, up to the one that is over.
use Rattle.std.proofs.Common.{◌≡◌, ◌⊎◌, inl, inr, Bool, true, false, ◌<◌, ◌≤◌, ◌+◌, ℕ, zero, suc, List, [], ◌∷◌, ◌++◌, length, take, Option, Some, None, refl, sym, ap, ◌∙◌, subst, add-one, append_assoc, append-nil, arith}
use Rattle.std.specs.Prelude.{slice_get, IfSome, MatchOption, is_some, not, unwrap_or}
use Rattle.std.specs.Bool.{Decides}
use Rattle.std.proofs.lemmas.Bool.{cases_lt, false≢true}
use Rattle.std.proofs.lemmas.List.{take_all}
use Rattle.json.specs.Json.{Json, max_depth}
use Rattle.json.specs.Tree.{depth}
use Rattle.json_patch_limits.specs.declared.limits.LimitKind.{LimitKind}
use Rattle.json_patch_limits.specs.declared.limits.Limits.{Limits}
use Rattle.json_patch_text.specs.Bounded.{AreMadeUnder, AreShort, IsLeftUnder, IsLogUnder, IsLoggedUnder, IsOverBy, IsReachedUnder, IsRecordedBefore, IsRecordedUntil, IsRunFaultUnder, IsStepOver, IsUnder, StepOverBy, levels_of, most_of}
use Rattle.json_patch_text.specs.Logs.{Counts, HasLog, Logs}
use Rattle.json_patch_text.specs.WayBack.{IsRecordOver}
use Rattle.json_patch_text.specs.Undos.{AreTakenFrom, IsTakenFrom, undo_list}
use Rattle.json_patch_text.specs.declared.log.Log.{Log}
use Rattle.json_patch_text.specs.declared.undo.Undo.{Undo}
use Rattle.json_patch_text.specs.declared.fault.TextLimitFault.TheVariants as within
use Rattle.json_patch_limits.specs.declared.limits.LimitKind.TheVariants as limit
use Rattle.jsonptr.specs.Text.{Pointer}
use Rattle.json_patch_text.specs.Made.{AreMadeIn, Costs, IsLeft, IsMadeIn, IsNested, IsStopped}
use Rattle.json_patch_text.specs.Operations.{TreeOperation}
use Rattle.json_patch_text.specs.Reached.{IsReached}
use Rattle.json_patch_text.specs.Run.{AcceptsText}
use Rattle.json_patch_text.specs.Stopped.{Reports}
use Rattle.json_patch_text.specs.TextOperations.{AreWrittenAs, IsWrittenAs, place_of}
use Rattle.json_patch_text.specs.Within.{AreMadeAtCost, IsTextOver, IsTextWithin}
use Rattle.json_patch_text.specs.declared.bounds.Bounds.{Bounds}
use Rattle.json_patch_text.specs.declared.fault.PatchTextFault.{PatchTextFault}
use Rattle.json_patch_text.specs.declared.fault.PatchTextFault.TheVariants.{Document, Patch, Unreadable, Refused, TooDeep, Memory}
use Rattle.json_patch_text.specs.declared.fault.StepFault.{StepFault}
use Rattle.json_patch_text.specs.declared.operation.TextOperation.{TextOperation}
use Rattle.json_patch_text.proofs.Reached.{IsAt, accepted_first, reached_more, reported_fault, written_at}
use Rattle.json_lexemes.specs.Skipped.{nesting}
use Rattle.json_lexemes.specs.Spelled.{IsShallowText, Says}
use Rattle.json_lexemes.proofs.Nests.{nests}

-- ---- within the limits

pub last_within : (l : Limits) (most : ℕ) (text : List ℕ) (os : List TextOperation) (new : List ℕ) (n : ℕ) → AreMadeAtCost l most text os new n → IsTextWithin l most new
last_within l most text [] new n h = subst (IsTextWithin l most) (sym h.1) h.0
last_within l most text (o ∷ os) new n (w, (next, m, more, made, copied, rest, sum)) = last_within l most next os new more rest

pub within_made : (l : Limits) (most : ℕ) (text : List ℕ) (os : List TextOperation) (new : List ℕ) (n : ℕ) → AreMadeAtCost l most text os new n → AreMadeIn text os new
within_made l most text [] new n h = h.1
within_made l most text (o ∷ os) new n (w, (next, m, more, made, copied, rest, sum)) = (next, made, within_made l most next os new more rest)

-- with one more operation, that copies m bytes
within_more : (l : Limits) (most : ℕ) (text left new : List ℕ) (os : List TextOperation) (k : ℕ) (o : TextOperation) (n m all : ℕ) → k < length os → IsAt os k o → AreMadeAtCost l most text (take k os) left n → IsMadeIn left o new → Costs left o m → IsTextWithin l most new → all ≡ n + m
    → AreMadeAtCost l most text (take (suc k) os) new all
within_more l most text left new [] k o n m all less at h s c w e = absurd (omega arith)
within_more l most text left new (x ∷ os) zero o n m all less at (v, same, none) s c w e =
    let made : IsMadeIn text x new = subst (λ y. IsMadeIn text y new) at (subst (λ t. IsMadeIn t o new) same s) in
    let copied : Costs text x m = subst (λ y. Costs text y m) at (subst (λ t. Costs t o m) same c) in
    (v, (new, m, 0, made, copied, (w, refl, refl), omega (arith, none, e)))
within_more l most text left new (x ∷ os) (suc k) o n m all less at (v, (next, a, more, made, copied, rest, sum)) s c w e =
    (v, (next, a, more + m, made, copied, within_more l most next left new os k o more m (more + m) (omega arith) at rest s c w refl, omega (arith, sum, e)))

-- ---- where there are limits

pub under_first : (b : Option Bounds) (text : List ℕ) (os : List TextOperation) (n : ℕ) → IsUnder b text → n ≡ 0 → AreMadeUnder b text (take 0 os) text n
under_first None text os n h none = refl
under_first (Some b) text os n h none = ((h, refl, none), omega (arith, none))

last_under : (b : Option Bounds) (text : List ℕ) (os : List TextOperation) (new : List ℕ) (n : ℕ) → AreMadeUnder b text os new n → IsUnder b new
last_under None text os new n h = tt
last_under (Some b) text os new n h = last_within b.limits (most_of b) text os new n h.0

under_more : (b : Option Bounds) (text left new : List ℕ) (os : List TextOperation) (k : ℕ) (o : TextOperation) (old log : Log) → k < length os → IsAt os k o → IsReachedUnder b text os k left old.cost → IsReached text os (suc k) new → IsMadeIn left o new → Counts old (Costs left o) log
    → IsUnder b new → IsLogUnder b log → AreMadeUnder b text (take (suc k) os) new log.cost
under_more None text left new os k o old log less at h r made counts w short = r.made
under_more (Some b) text left new os k o old log less at h r made (m, copied, sum) w short = (within_more b.limits (most_of b) text left new os k o old.cost m log.cost less at h.1.0 made copied w sum, short.0)

-- ---- the states of a run

pub reached_under_first : (b : Option Bounds) (text new : List ℕ) (os : List TextOperation) (n : ℕ) → new ≡ text → IsReached text os 0 new → IsUnder b text → n ≡ 0 → IsReachedUnder b text os 0 new n
reached_under_first b text new os n e r h none = (r, subst (λ t. AreMadeUnder b text (take 0 os) t n) (sym e) (under_first b text os n h none))

pub reached_under_more : (b : Option Bounds) (text left new : List ℕ) (os : List TextOperation) (k : ℕ) (o : TextOperation) (old log : Log) → k < length os → IsAt os k o → IsReachedUnder b text os k left old.cost → IsMadeIn left o new → Counts old (Costs left o) log
    → ((i : Json) (op : TreeOperation) → Says left i → IsWrittenAs o op → IsLeft new i op) → IsUnder b new → IsLogUnder b log → IsReachedUnder b text os (k + 1) new log.cost
reached_under_more b text left new os k o old log less at r made counts comes under short =
    let next : IsReached text os (k + 1) new = reached_more text left new os k o less at r.0 made comes in
    let bytes = under_more b text left new os k o old log less at r (subst (λ n. IsReached text os n new) (add-one k) next) made counts under short in
    (next, subst (λ n. AreMadeUnder b text (take n os) new log.cost) (sym (add-one k)) bytes)

pub reached_last : (b : Option Bounds) (text left new : List ℕ) (os : List TextOperation) (k n : ℕ) → length os ≡ k → new ≡ left → IsReachedUnder b text os k left n → AreMadeUnder b text os new n
reached_last b text left new os k n end same h =
    let all : take k os ≡ os = take_all k os (omega (arith, end)) in
    subst (λ x. AreMadeUnder b text os x n) (sym same) (subst (λ x. AreMadeUnder b text x left n) all h.1)

-- what a look tells where nothing is over
pub not_over : (A : Type 0) (B : LimitKind → Type 0) (o : Option LimitKind) → ((kind : LimitKind) → o ≡ Some kind → ⊥) → MatchOption o A B → A
not_over A B None none h = h
not_over A B (Some kind) none h = absurd (none kind refl)

-- ---- what takes the operations back

taken_more : (Fits : List ℕ → Type 0) (text left new : List ℕ) (os : List TextOperation) (us vs : List Undo) (k : ℕ) (o : TextOperation) (n m all : ℕ) → k < length os → IsAt os k o → AreTakenFrom Fits text (take k os) left us n → nesting left ≤ max_depth → IsMadeIn left o new
    → IsTakenFrom left o vs → Costs left o m → Fits new → all ≡ n + m → AreTakenFrom Fits text (take (suc k) os) new (us ++ vs) all
taken_more Fits text left new [] us vs k o n m all less at h low s t c fits sum = absurd (omega arith)
taken_more Fits text left new (x ∷ os) us vs zero o n m all less at (here, e, none, zero_bytes) low s t c fits sum =
    let one : IsMadeIn text x new = subst (λ y. IsMadeIn text y new) at (subst (λ r. IsMadeIn r o new) e s) in
    let back : IsTakenFrom text x vs = subst (λ y. IsTakenFrom text y vs) at (subst (λ r. IsTakenFrom r o vs) e t) in
    let copied : Costs text x m = subst (λ y. Costs text y m) at (subst (λ r. Costs r o m) e c) in
    (here, subst (λ r. nesting r ≤ max_depth) e low, (new, vs, [], m, 0, one, back, copied, (fits, refl, refl, refl), ap (λ l. l ++ vs) none ∙ sym (append-nil vs), omega (arith, zero_bytes, sum)))
taken_more Fits text left new (x ∷ os) us vs (suc k) o n m all less at (here, shallow, (next, xs, ys, a, more, made, taken, copied, rest, e, those)) low s t c fits sum =
    (here, shallow, (next, xs, ys ++ vs, a, more + m, made, taken, copied, taken_more Fits next left new os ys vs k o more m (more + m) (omega arith) at rest low s t c fits refl, ap (λ l. l ++ vs) e ∙ append_assoc xs ys vs, omega (arith, those, sum)))

pub logged_first : (b : Option Bounds) (text new : List ℕ) (os : List TextOperation) (log : Log) → new ≡ text → HasLog log [] × (log.cost ≡ 0) → IsUnder b text → (log.kept ≡ true → AreShort b [] 0) → IsLoggedUnder b text (take 0 os) new log
logged_first b text new os log e (h, none) under short = λ kept. ([], h, ((under, e, refl, none), subst (AreShort b []) (sym none) (short kept)))

short_log : (b : Option Bounds) (log : Log) (us : List Undo) → HasLog log us → log.kept ≡ true → IsLogUnder b log → AreShort b us log.cost
short_log None log us h kept under = tt
short_log (Some b) log us h kept (few, short) = let low : log.size ≤ most_of b = short kept in let size = h.1 in (omega (arith, low, size), few)

-- ---- the one that is over

at_get : (os : List TextOperation) (k : ℕ) (o : TextOperation) → k < length os → IsAt os k o → slice_get os k ≡ Some o
at_get [] k o less at = absurd (omega arith)
at_get (x ∷ os) zero o less at = ap Some (sym at)
at_get (x ∷ os) (suc k) o less at = at_get os k o (omega arith) at

over_text : (b : Bounds) (text : List ℕ) (log : Log) (n : ℕ) (kind : LimitKind) → log.kept ≡ false → log.cost ≡ n → IsStepOver b text log kind → IsTextOver b.limits (most_of b) text n kind
over_text b text log n limit.TooDeep off sum h = h
over_text b text log n limit.TooMuch off sum (low, inl long) = (low, inl long)
over_text b text log n limit.TooMuch off sum (low, inr (inl many)) = (low, inr (subst (λ x. most_of b < x) sum many))
over_text b text log n limit.TooMuch off sum (low, inr (inr (on, long))) = absurd (false≢true (sym off ∙ on))

over_record : (b : Bounds) (text : List ℕ) (log : Log) (us : List Undo) (n : ℕ) (kind : LimitKind) → HasLog log us → log.cost ≡ n → IsStepOver b text log kind → IsRecordOver b.limits (most_of b) text (undo_list us) n kind
over_record b text log us n limit.TooDeep has sum h = h
over_record b text log us n limit.TooMuch has sum (low, inl long) = (low, inl long)
over_record b text log us n limit.TooMuch has sum (low, inr (inl many)) = (low, inr (inl (subst (λ x. most_of b < x) sum many)))
over_record b text log us n limit.TooMuch has sum (low, inr (inr (on, long))) = (low, inr (inr (subst (λ x. most_of b < x) has.1 long)))

pub over_reached : (kept : Bool) (b : Option Bounds) (text left new : List ℕ) (os : List TextOperation) (ops : List TreeOperation) (k : ℕ) (o : TextOperation) (old log : Log) (kind : LimitKind) → (j : Json) × IsShallowText text j → k < length os → IsAt os k o → old.kept ≡ kept
    → IsReachedUnder b text os k left old.cost → IsLoggedUnder b text (take k os) left old → IsMadeIn left o new → ((i : Json) (op : TreeOperation) → Says left i → IsWrittenAs o op → IsLeft new i op) → Logs old (IsTakenFrom left o) log → Counts old (Costs left o) log → StepOverBy b new log kind → AreWrittenAs os ops
    → IsOverBy kept b text os ops k kind
over_reached false None text left new os ops k o old log kind a less at e r l made comes logs counts over w = absurd over
over_reached true None text left new os ops k o old log kind a less at e r l made comes logs counts over w = absurd over
over_reached false (Some b) text left new os ops k o old log kind a less at e r l made comes logs (m, copied, sum) over w = record {
  left = left;
  n = old.cost;
  before = r.1;
  new = new;
  m = m;
  made = (o, at_get os k o less at, made, copied);
  accepted = subst (λ n. AcceptsText text (take n ops) new) (add-one k) (accepted_first text new os ops (k + 1) a (reached_more text left new os k o less at r.0 made comes) w);
  over = over_text b new log (old.cost + m) kind (logs.0 ∙ e) sum over;
}
over_reached true (Some b) text left new os ops k o old log kind a less at e r l made comes logs (m, copied, sum) over w =
    let (us, has, (taken, (low, few))) = l e in
    let (vs, more, longer) = logs.1 e in
    record {
      left = left;
      us = us;
      n = old.cost;
      before = (taken, low, few);
      new = new;
      vs = vs;
      m = m;
      made = (o, at_get os k o less at, made, more, copied);
      accepted = subst (λ n. AcceptsText text (take n ops) new) (add-one k) (accepted_first text new os ops (k + 1) a (reached_more text left new os k o less at r.0 made comes) w);
      over = over_record b new log (us ++ vs) (old.cost + m) kind (longer us has) sum over;
    }

-- ---- where it isn't made

left_under : (b : Option Bounds) (text left : List ℕ) (os : List TextOperation) (ops : List TreeOperation) (k n : ℕ) (o : TextOperation) (f : StepFault) (r : PatchTextFault) → (j : Json) × IsShallowText text j → k < length os → IsAt os k o → IsReachedUnder b text os k left n
    → ((i : Json) (op : TreeOperation) → Says left i → IsWrittenAs o op → IsStopped i op f) → Reports f k (place_of o) r → AreWrittenAs os ops → IsLeftUnder b text os r
left_under b text left os ops k n o f (Document g) a less at r stops e w = tt
left_under b text left os ops k n o f (Patch g) a less at r stops e w = tt
left_under b text left os ops k n o f (Unreadable g) a less at r stops e w = tt
left_under b text left os ops k n o f (Refused g) a less at r stops (is, number, path) w = (left, n, subst (λ x. AreMadeUnder b text (take x os) left n) (sym number) r.1)
left_under b text left os ops k n o f (TooDeep x) a less at r stops e w = absurd e
left_under b text left os ops k n o f (Memory m) a less at r stops e w = tt

recorded_here : (b : Option Bounds) (text left : List ℕ) (os : List TextOperation) (k : ℕ) (log : Log) → log.kept ≡ true → IsLoggedUnder b text (take k os) left log → IsRecordedUntil b text os k
recorded_here b text left os k log on l = let (us, has, recorded) = l on in (left, us, log.cost, recorded)

recorded_before : (b : Option Bounds) (text : List ℕ) (os : List TextOperation) (k : ℕ) (f : StepFault) (P : Pointer) (r : PatchTextFault) → IsRecordedUntil b text os k → Reports f k P r → IsRecordedBefore b text os r
recorded_before b text os k f P (Document g) l e = tt
recorded_before b text os k f P (Patch g) l e = tt
recorded_before b text os k f P (Unreadable g) l e = tt
recorded_before b text os k f P (Refused g) l (is, number, path) = subst (IsRecordedUntil b text os) (sym number) l
recorded_before b text os k f P (TooDeep n) l e = absurd e
recorded_before b text os k f P (Memory m) l e = tt

pub reported_under : (kept : Bool) (b : Option Bounds) (text left : List ℕ) (os : List TextOperation) (ops : List TreeOperation) (k : ℕ) (o : TextOperation) (f : StepFault) (r : PatchTextFault) (log : Log) → (j : Json) × IsShallowText text j → k < length os → IsAt os k o → log.kept ≡ kept
    → IsReachedUnder b text os k left log.cost → IsLoggedUnder b text (take k os) left log → ((i : Json) (op : TreeOperation) → Says left i → IsWrittenAs o op → IsStopped i op f) → Reports f k (place_of o) r → AreWrittenAs os ops
    → IsRunFaultUnder kept b text os ops (within.Patch r)
reported_under kept b text left os ops k o f r log a less at on h l stops e w =
    (reported_fault text left os ops k o f r a less at h.0 stops e w, left_under b text left os ops k log.cost o f r a less at h stops e w, λ is. recorded_before b text os k f (place_of o) r (recorded_here b text left os k log (on ∙ is) l) e)

pub deep_under : (kept : Bool) (b : Option Bounds) (text left : List ℕ) (os : List TextOperation) (ops : List TreeOperation) (k : ℕ) (log : Log) → k < length os → log.kept ≡ kept → IsReachedUnder b text os k left log.cost → IsLoggedUnder b text (take k os) left log → max_depth < nesting left
    → IsRunFaultUnder kept b text os ops (within.Patch (TooDeep k))
deep_under kept b text left os ops k log less on h l deep = ((less, (left, h.0.made, deep)), (left, log.cost, h.1, deep), λ is. recorded_here b text left os k log (on ∙ is) l)

-- ---- how deep it nests

within_levels : (b : Option Bounds) (left : List ℕ) → IsUnder b left → nesting left ≤ max_depth → nesting left ≤ levels_of b
within_levels None left u h = h
within_levels (Some b) left u h = let w : nesting left ≤ b.limits.depth = u.0 in omega arith

not_deep : (b : Bool) (left : List ℕ) → Decides b (max_depth < nesting left) → b ≡ false → nesting left ≤ max_depth
not_deep b left h e = by (cases_lt max_depth (nesting left))
  where
    by : (max_depth < nesting left) ⊎ (nesting left ≤ max_depth) → nesting left ≤ max_depth
    by (inl l) = absurd (false≢true (sym e ∙ h.1 l))
    by (inr l) = l

pub first_shallow : (text new : List ℕ) → new ≡ text → (j : Json) × IsShallowText text j → Decides false (max_depth < nesting new)
first_shallow text new e (j, s) =
    let same : nesting new ≡ depth j = ap nesting e ∙ nests text j s.0 in
    let shallow : depth j ≤ max_depth = s.1 in
    ((λ h. absurd (false≢true h)), (λ h. absurd (omega arith)))

-- the text on which an operation works needs no check
pub reached_shallow : (b : Option Bounds) (text left : List ℕ) (os : List TextOperation) (k n : ℕ) (deep : Bool) → (j : Json) × IsShallowText text j → (ops : List TreeOperation) × AreWrittenAs os ops → IsReachedUnder b text os k left n → Decides deep (max_depth < nesting left) → deep ≡ false → (m : Json) × IsShallowText left m
reached_shallow b text left os k n deep (j, s) (ops, w) r d e =
    let (m, said, reaches) = r.0.tree j ops s.0 w in
    let same : nesting left ≡ depth m = nests left m said in
    let shallow : nesting left ≤ max_depth = not_deep deep left d e in
    (m, (said, omega arith))

pub written_here : (os : List TextOperation) (k : ℕ) (o : TextOperation) → k < length os → IsAt os k o → (ops : List TreeOperation) × AreWrittenAs os ops → (op : TreeOperation) × IsWrittenAs o op
written_here os k o less at (ops, w) = let (op, here, is) = written_at os ops k o less at w in (op, is)

-- what a step says of how deep its text nests
pub step_nested : (b : Option Bounds) (text left new : List ℕ) (os : List TextOperation) (k n levels most : ℕ) (deep : Bool) (o : Option ℕ) → levels ≡ levels_of b → IsReachedUnder b text os k left n → Decides deep (max_depth < nesting left) → deep ≡ false
    → (nesting left ≤ levels → nesting left ≤ most) → IsNested most left new o → IfSome o (λ m. nesting new ≤ m)
step_nested b text left new os k n levels most deep None l r d e h f = tt
step_nested b text left new os k n levels most deep (Some m) l r d e h f =
    let under : nesting left ≤ levels_of b = within_levels b left (last_under b text (take k os) left n r.1) (not_deep deep left d e) in
    f (h (subst (λ n. nesting left ≤ n) (sym l) under))

-- where it is known, the text is no deeper than it may be
pub settled_under : (b : Option Bounds) (new : List ℕ) (levels : ℕ) (o : Option ℕ) (deeper : Bool) → levels ≡ levels_of b → IfSome o (λ m. (m ≤ levels) × (nesting new ≤ m)) → is_some o ≡ not deeper → deeper ≡ false → nesting new ≤ levels_of b
settled_under b new levels None deeper l h is e = absurd (false≢true (is ∙ ap not e))
settled_under b new levels (Some m) deeper l (low, nested) is e = subst (λ n. nesting new ≤ n) l (omega arith)

pub settled_most : (new : List ℕ) (levels most : ℕ) (o : Option ℕ) → most ≡ unwrap_or o levels → IfSome o (λ m. (m ≤ levels) × (nesting new ≤ m)) → (most ≤ levels) × (nesting new ≤ levels → nesting new ≤ most)
settled_most new levels most None is h = (omega (arith, is), λ e. omega (arith, is, e))
settled_most new levels most (Some m) is (low, nested) = (omega (arith, is, low), λ e. omega (arith, is, nested))

-- ---- what takes one more operation back

pub logged_more : (b : Option Bounds) (text left new : List ℕ) (os : List TextOperation) (k : ℕ) (o : TextOperation) (old log : Log) (deep : Bool) → k < length os → IsAt os k o → IsLoggedUnder b text (take k os) left old → Decides deep (max_depth < nesting left) → deep ≡ false → IsMadeIn left o new → Logs old (IsTakenFrom left o) log → Counts old (Costs left o) log → IsUnder b new → IsLogUnder b log
    → IsLoggedUnder b text (take (k + 1) os) new log
logged_more b text left new os k o old log deep less at h d e made logs (m, copied, sum) under short = λ kept.
    let before : old.kept ≡ true = sym logs.0 ∙ kept in
    let (us, has, (taken, low)) = h before in
    let (vs, more, longer) = logs.1 before in
    let both = longer us has in
    (us ++ vs, both, (subst (λ n. AreTakenFrom (IsUnder b) text (take n os) new (us ++ vs) log.cost) (sym (add-one k)) (taken_more (IsUnder b) text left new os us vs k o old.cost m log.cost less at taken (not_deep deep left d e) made more copied under sum), short_log b log (us ++ vs) both kept short))

pub logged_last : (b : Option Bounds) (text left new : List ℕ) (os : List TextOperation) (k : ℕ) (log : Log) → length os ≡ k → new ≡ left → IsLoggedUnder b text (take k os) left log → IsLoggedUnder b text os new log
logged_last b text left new os k log end same h =
    let all : take k os ≡ os = take_all k os (omega (arith, end)) in
    subst (λ x. IsLoggedUnder b text os x log) (sym same) (subst (λ x. IsLoggedUnder b text x left log) all h)
