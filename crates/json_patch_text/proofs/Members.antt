-- What stands at a name after a change of an object's members.
use Rattle.std.proofs.Common.{◌≡◌, ℕ, List, Option, Some, None, Bool, true, false, cond, bytes_eq, refl, sym, ap, ap₂, ◌∙◌}
use Rattle.std.proofs.lemmas.Option.{none-some}
use Rattle.std.proofs.lemmas.Slice.Eq.{bytes_eq-Decides}
use Rattle.json.specs.Json.{Json, Members, no_members, member}
use Rattle.json.specs.Find.{get_member, later_or}
use Rattle.json_text.specs.Pointed.{if_some, put_member}
use Rattle.json_patch_text.specs.Changed.{append_member, add_member, without}

itself : (k : List ℕ) → bytes_eq k k ≡ true
itself k = (bytes_eq-Decides k k).1 refl

not_itself : (l q : List ℕ) (b : Bool) → bytes_eq l q ≡ b → (q ≡ l → ⊥) → b ≡ false
not_itself l q true e other = absurd (other (sym ((bytes_eq-Decides l q).0 e)))
not_itself l q false e other = refl

no_later : (o : Option Json) → later_or o None ≡ o
no_later None = refl
no_later (Some j) = refl

first_named : (k : List ℕ) (i : Json) (ms : Members) → get_member k ms ≡ None → get_member k (member k i ms) ≡ Some i
first_named k i ms e = ap₂ (λ o b. later_or o (cond b (Some i) None)) e (itself k)

later_named : (k l : List ℕ) (i j : Json) (ms : Members) → get_member k ms ≡ Some i → get_member k (member l j ms) ≡ Some i
later_named k l i j ms e = ap (λ o. later_or o (cond (bytes_eq l k) (Some j) None)) e

skips : (q l : List ℕ) (j : Json) (ms : Members) → (q ≡ l → ⊥) → get_member q (member l j ms) ≡ get_member q ms
skips q l j ms other = ap (λ b. later_or (get_member q ms) (cond b (Some j) None)) (not_itself l q (bytes_eq l q) refl other) ∙ no_later (get_member q ms)

-- the same behind a member
behind : (q l : List ℕ) (j : Json) (ms ns : Members) → get_member q ms ≡ get_member q ns → get_member q (member l j ms) ≡ get_member q (member l j ns)
behind q l j ms ns e = ap (λ o. later_or o (cond (bytes_eq l q) (Some j) None)) e

-- ---- put

put_step : (k l : List ℕ) (w c j : Json) (ms : Members) (o : Option Json) (b : Bool) → get_member k ms ≡ o → bytes_eq l k ≡ b → later_or o (cond b (Some j) None) ≡ Some c
    → ((x : Json) → get_member k ms ≡ Some x → get_member k (put_member k w ms) ≡ Some w)
    → get_member k (if_some o (λ later. member l j (put_member k w ms)) (member l (cond b w j) ms)) ≡ Some w
put_step k l w c j ms (Some x) b e f at more = later_named k l w j (put_member k w ms) (more x e)
put_step k l w c j ms None true e f at more = ap₂ (λ p d. later_or p (cond d (Some w) None)) e f
put_step k l w c j ms None false e f at more = absurd (none-some c at)

pub put_here : (k : List ℕ) (w c : Json) (ms : Members) → get_member k ms ≡ Some c → get_member k (put_member k w ms) ≡ Some w
put_here k w c no_members at = absurd (none-some c at)
put_here k w c (member l j ms) at = put_step k l w c j ms (get_member k ms) (bytes_eq l k) refl refl at (λ x e. put_here k w x ms e)

put_step_other : (q k l : List ℕ) (w j : Json) (ms : Members) (o : Option Json) (b : Bool) → bytes_eq l k ≡ b → (q ≡ k → ⊥) → get_member q (put_member k w ms) ≡ get_member q ms
    → get_member q (if_some o (λ later. member l j (put_member k w ms)) (member l (cond b w j) ms)) ≡ get_member q (member l j ms)
put_step_other q k l w j ms (Some x) b f other more = behind q l j (put_member k w ms) ms more
put_step_other q k l w j ms None false f other more = refl
put_step_other q k l w j ms None true f other more =
    let apart = λ (h : q ≡ l). other (h ∙ (bytes_eq-Decides l k).0 f) in
    skips q l w ms apart ∙ sym (skips q l j ms apart)

pub put_other : (q k : List ℕ) (w : Json) (ms : Members) → (q ≡ k → ⊥) → get_member q (put_member k w ms) ≡ get_member q ms
put_other q k w no_members other = refl
put_other q k w (member l j ms) other = put_step_other q k l w j ms (get_member k ms) (bytes_eq l k) refl other (put_other q k w ms other)

-- ---- add

append_here : (k : List ℕ) (w : Json) (ms : Members) → get_member k (append_member k w ms) ≡ Some w
append_here k w no_members = first_named k w no_members refl
append_here k w (member l j ms) = later_named k l w j (append_member k w ms) (append_here k w ms)

append_other : (q k : List ℕ) (w : Json) (ms : Members) → (q ≡ k → ⊥) → get_member q (append_member k w ms) ≡ get_member q ms
append_other q k w no_members other = skips q k w no_members other
append_other q k w (member l j ms) other = behind q l j (append_member k w ms) ms (append_other q k w ms other)

add_step : (k : List ℕ) (w : Json) (ms : Members) (o : Option Json) → get_member k ms ≡ o → get_member k (if_some o (λ old. put_member k w ms) (append_member k w ms)) ≡ Some w
add_step k w ms None e = append_here k w ms
add_step k w ms (Some c) e = put_here k w c ms e

pub add_here : (k : List ℕ) (w : Json) (ms : Members) → get_member k (add_member k w ms) ≡ Some w
add_here k w ms = add_step k w ms (get_member k ms) refl

add_step_other : (q k : List ℕ) (w : Json) (ms : Members) (o : Option Json) → (q ≡ k → ⊥) → get_member q (if_some o (λ old. put_member k w ms) (append_member k w ms)) ≡ get_member q ms
add_step_other q k w ms None other = append_other q k w ms other
add_step_other q k w ms (Some c) other = put_other q k w ms other

pub add_other : (q k : List ℕ) (w : Json) (ms : Members) → (q ≡ k → ⊥) → get_member q (add_member k w ms) ≡ get_member q ms
add_other q k w ms other = add_step_other q k w ms (get_member k ms) other

-- ---- remove

remove_step : (k l : List ℕ) (j : Json) (ms : Members) (b : Bool) → bytes_eq l k ≡ b → get_member k ms ≡ None → get_member k (cond b ms (member l j ms)) ≡ None
remove_step k l j ms true f e = e
remove_step k l j ms false f e = ap₂ (λ o b. later_or o (cond b (Some j) None)) e f

pub remove_here : (k : List ℕ) (ms : Members) → get_member k (without k ms) ≡ None
remove_here k no_members = refl
remove_here k (member l j ms) = remove_step k l j (without k ms) (bytes_eq l k) refl (remove_here k ms)

remove_step_other : (q k l : List ℕ) (j : Json) (ms ns : Members) (b : Bool) → bytes_eq l k ≡ b → (q ≡ k → ⊥) → get_member q ns ≡ get_member q ms → get_member q (cond b ns (member l j ns)) ≡ get_member q (member l j ms)
remove_step_other q k l j ms ns true f other e = e ∙ sym (skips q l j ms (λ h. other (h ∙ (bytes_eq-Decides l k).0 f)))
remove_step_other q k l j ms ns false f other e = behind q l j ns ms e

pub remove_other : (q k : List ℕ) (ms : Members) → (q ≡ k → ⊥) → get_member q (without k ms) ≡ get_member q ms
remove_other q k no_members other = refl
remove_other q k (member l j ms) other = remove_step_other q k l j ms (without k ms) (bytes_eq l k) refl other (remove_other q k ms other)
