-- What an operation leaves of the limits, and what that says of the list.
use Rattle.json_patch_limits.proofs.Common.{◌≡◌, ◌<◌, ◌+◌, ◌-◌, ℕ, suc, List, ◌∷◌, length, Some, None, Result, Ok, Err}
use Rattle.json_patch_limits.proofs.Common.{Bool, true, false, refl, sym, ap, ap₂, ◌∙◌, subst, arith, rules, nat_tests, Data, array, object, pointee}
use Rattle.json_patch_limits.proofs.Common.{Items, no_items, item, Members, no_members, member, Operation, PatchErrorKind}
use Rattle.json_patch_limits.proofs.Common.{◌≤◌, [], Pointer, move, after_step, if◌then◌else◌}
use Rattle.std.specs.Prelude.{nat_lt, ◌++◌}
use Rattle.std.proofs.lemmas.List.{length-append}
use Rattle.jsonptr.specs.Text.{encoded, text_of}
use Rattle.serde_json.specs.Data.{depth, items_depth, members_depth}
use Rattle.json_patch_limits.proofs.Overs.{is_over, is_under}
use Rattle.json_patch_limits.specs.OverLimits.{IsUnder, copied_by, left_of, reach_at, reach_of, size, size_at}
use Rattle.json_patch_limits.specs.OverLimitsComputed.{Charges, first_over, or_over, over, over_at, over_under, then_over}
use Rattle.json_patch_edit.specs.Marked.{AreMarkedItems, AreMarkedMembers, AreMarks, IsMarked, IsValue, is_mark, item_unless, member_unless, seen, seen_items, seen_members}
use Rattle.json_patch_limits.specs.declared.limits.Limits.{Limits}
use Rattle.json_patch_limits.specs.declared.limits.LimitKind.{LimitKind}
use Rattle.json_patch_limits.specs.declared.limits.LimitKind.TheVariants.{TooDeep, TooMuch}

-- ---- marks have no levels

mark_depth : (d : Data) → is_mark d ≡ true → depth d ≡ 0
mark_depth d is = search rules

marks_depth : (ds : Items) → AreMarks ds → items_depth ds ≡ 0
marks_depth no_items h = refl
marks_depth (item d ds) h = let here : depth d ≡ 0 = mark_depth d h.0 in let more : items_depth ds ≡ 0 = marks_depth ds h.1 in omega arith

item_depth_at : (b : Bool) (d : Data) (ds : Items) → is_mark d ≡ b → (is_mark d ≡ true → AreMarks ds) → depth (seen d) ≡ depth d → items_depth (seen_items ds) ≡ items_depth ds
    → items_depth (item_unless b (seen d) (seen_items ds)) ≡ items_depth (item d ds)
item_depth_at true d ds is h here more = let a : depth d ≡ 0 = mark_depth d is in let b : items_depth ds ≡ 0 = marks_depth ds (h is) in omega arith
item_depth_at false d ds is h here more = omega arith

member_depth_at : (b : Bool) (k : List ℕ) (d : Data) (ms : Members) → is_mark d ≡ b → depth (seen d) ≡ depth d → members_depth (seen_members ms) ≡ members_depth ms
    → members_depth (member_unless b k (seen d) (seen_members ms)) ≡ members_depth (member k d ms)
member_depth_at true k d ms is here more = let a : depth d ≡ 0 = mark_depth d is in omega arith
member_depth_at false k d ms is here more = omega arith

mutual
  pub seen_depth : (d : Data) → IsMarked d → depth (seen d) ≡ depth d
  seen_depth (array ds) h = ap suc (seen_items_depth ds h)
  seen_depth (object ms) h = ap suc (seen_members_depth ms h)
  seen_depth d h = refl

  seen_items_depth : (ds : Items) → AreMarkedItems ds → items_depth (seen_items ds) ≡ items_depth ds
  seen_items_depth no_items h = refl
  seen_items_depth (item d ds) h = item_depth_at (is_mark d) d ds refl h.1 (seen_depth d h.0) (seen_items_depth ds h.2)

  seen_members_depth : (ms : Members) → AreMarkedMembers ms → members_depth (seen_members ms) ≡ members_depth ms
  seen_members_depth no_members h = refl
  seen_members_depth (member k d ms) h = member_depth_at (is_mark d) k d ms refl (seen_depth d h.1) (seen_members_depth ms h.2)

-- ---- what is found at a pointer

pub found_reach : (P F : Pointer) (d v : Data) → Some (seen v) ≡ pointee d F → IsValue v → reach_at P (pointee d F) ≡ length P + depth v
found_reach P F d v is h = ap (reach_at P) (sym is) ∙ ap (λ n. length P + n) (seen_depth v h.0)

pub found_size : (F : Pointer) (d v : Data) → Some (seen v) ≡ pointee d F → size_at (pointee d F) ≡ size (seen v)
found_size F d v is = ap size_at (sym is)

-- a `move` that leads deeper
moved_further : (F P : Pointer) (n : ℕ) → length F < length P → (if nat_lt (length F) (length P) then n else 0) ≡ n
moved_further F P n less = grind (arith, nat_tests)

pub move_charged : (l : Limits) (F P : Pointer) (d v : Data) (r : Result Limits LimitKind) → length F < length P → Some (seen v) ≡ pointee d F → IsValue v → Charges l (length P + depth v) 0 r → Charges l (reach_of d (move F P)) 0 r
move_charged l F P d v r less is h charges =
    subst (λ n. Charges l n 0 r) (sym (found_reach P F d v is h) ∙ sym (moved_further F P (reach_at P (pointee d F)) less)) charges

-- ---- what is left

-- what reaches too deep, whatever it copies
pub charged_deep : (l : Limits) (reach copied : ℕ) (r : Result Limits LimitKind) (kind : LimitKind) → r ≡ Err kind → Charges l reach 0 (Err kind) → Charges l reach copied r
charged_deep l reach copied r TooDeep is h = rw is h
charged_deep l reach copied r TooMuch is h = let none : l.copied < 0 = h.1 in absurd (omega arith)

-- what reaches so deep, and then copies so much
pub charged_both : (l m : Limits) (reach copied : ℕ) (r : Result Limits LimitKind) → Charges l reach 0 (Ok m) → Charges m 0 copied r → Charges l reach copied r
charged_both l m reach copied (Ok n) h g = (h.0, g.1 ∙ h.1, omega (arith, h.2, g.2))
charged_both l m reach copied (Err TooDeep) h g = absurd (omega (arith, g))
charged_both l m reach copied (Err TooMuch) h g = (h.0, omega (arith, h.2, g.1))

make : ℕ → ℕ → Limits
make n m = record { depth = n; copied = m }

left_is : (b : Bool) (l m : Limits) (d : Data) (op : Operation) → m.depth ≡ l.depth → m.copied + copied_by b d op ≡ l.copied → left_of b l d op ≡ m
unfolding make
left_is b l m d op e h = let g : l.copied - copied_by b d op ≡ m.copied = omega arith in ap₂ make (sym e) g

pub charged : (b : Bool) (l m : Limits) (d : Data) (op : Operation) (ops : List Operation) → Charges l (reach_of d op) (copied_by b d op) (Ok m) → over_under b (Some l) d (op ∷ ops) ≡ then_over (after_step d op) (λ x. over_under b (Some m) x ops)
charged b l m d op ops h =
    let under : IsUnder b l d op = (h.0, (let e : m.copied + copied_by b d op ≡ l.copied = h.2 in omega arith)) in
    ap (λ o. or_over o (then_over (after_step d op) (λ x. first_over b (left_of b l d op) x ops))) (is_under b l d op under)
    ∙ ap (λ y. then_over (after_step d op) (λ x. first_over b y x ops)) (left_is b l m d op h.1 h.2)

over_by : (b : Bool) (l : Limits) (d : Data) (op : Operation) (kind : LimitKind) → Charges l (reach_of d op) (copied_by b d op) (Err kind) → over b l d op ≡ Some kind
over_by b l d op TooDeep h = is_over b l d op TooDeep h
over_by b l d op TooMuch h = is_over b l d op TooMuch h

pub charged_over : (b : Bool) (l : Limits) (d : Data) (op : Operation) (kind : LimitKind) (ops : List Operation) → Charges l (reach_of d op) (copied_by b d op) (Err kind) → over_under b (Some l) d (op ∷ ops) ≡ Some (over_at 0 kind)
charged_over b l d op kind ops h = ap (λ o. or_over o (then_over (after_step d op) (λ x. first_over b (left_of b l d op) x ops))) (over_by b l d op kind h)

never_then : (r : Result Data PatchErrorKind) → None ≡ then_over r (λ m. None)
never_then r = search rules

pub unlimited : (b : Bool) (d : Data) (op : Operation) (ops : List Operation) → over_under b None d (op ∷ ops) ≡ then_over (after_step d op) (λ m. over_under b None m ops)
unlimited b d op ops = never_then (after_step d op)

-- ---- a pointer has no more tokens than its text has bytes

pub count_within : (P : Pointer) → length P ≤ length (text_of P)
count_within [] = omega arith
count_within (t ∷ P) = let more : length P ≤ length (text_of P) = count_within P in let all : length (encoded t ++ text_of P) ≡ length (encoded t) + length (text_of P) = length-append (encoded t) (text_of P) in omega arith
