-- All members of a name gone, one after another.
use Rattle.std.proofs.Common.{◌≡◌, ◌<◌, ℕ, suc, Bool, true, false, cond, ◌==◌, List, [], ◌∷◌, ◌++◌, length, get_or, Option, Some, None, refl, sym, ap, ◌∙◌, subst, arith, length-append}
use Rattle.std.proofs.lemmas.Bool.{false≢true, true≢false}
use Rattle.std.proofs.lemmas.Bool.Decides.{Decides-eqb}
use Rattle.std.proofs.lemmas.List.{get_or_default}
use Rattle.std.proofs.lemmas.Option.{none-some}
use Rattle.std.specs.Str.{bytes_eq}
use Rattle.json.specs.Find.{get_member, later_or}
use Rattle.json.specs.Json.{Json, null, boolean, number, string, array, object, Members, no_members, member}
use Rattle.json.specs.Word.{is_space}
use Rattle.json_text.specs.Changed.{add_child, remove_child, without}
use Rattle.json_text.specs.Less.{AreLess, IsLess, IsLeaf, IsLessText, IsObject, IsWithout}
use Rattle.json_lexemes.specs.Places.{left_at}
use Rattle.json_text.specs.Pointed.{child}
use Rattle.json_text.specs.Removed.{IsCutOut}
use Rattle.json_text.specs.Rows.{IsSolid}
use Rattle.json_lexemes.specs.Spelled.{Says}
use Rattle.json_lexemes.proofs.FirstBytes.{kind, byte_by_kind}
use Rattle.json_text.proofs.Tokens as tokens

pub is_object : (t : List ℕ) (v : Json) (o : ℕ) → o < length t → get_or t o 32 ≡ 123 → left_at t o ≡ left_at t 0 → Says t v → IsObject v
is_object t v o h b l says = let p = tokens.object_opens t v o h b l says in subst IsObject (sym p.is) tt

pub object_byte : (t : List ℕ) (v : Json) (o x : ℕ) → IsSolid t o → x ≡ get_or t o 32 → left_at t o ≡ left_at t 0 → Says t v → IsObject v → (x == 123) ≡ false → ⊥
object_byte t null o x s e l says y n = y
object_byte t (boolean b) o x s e l says y n = y
object_byte t (number k) o x s e l says y n = y
object_byte t (string k) o x s e l says y n = y
object_byte t (array js) o x s e l says y n = y
object_byte t (object ms) o x s e l says y n =
    let b = byte_by_kind t o 123 s (ap kind (l ∙ says)) (λ z. absurd (omega (arith, z))) in
    absurd (false≢true (sym n ∙ (Decides-eqb x 123).1 (e ∙ get_or_default t o 32 0 b.0 ∙ b.1)))

-- ---- neither an object nor an array

pub leaf_byte : (text : List ℕ) (v : Json) (o : ℕ) → IsSolid text o → (get_or text o 32 ≡ 123 → ⊥) → (get_or text o 32 ≡ 91 → ⊥) → left_at text o ≡ left_at text 0 → Says text v → IsLeaf v
leaf_byte text null o s n m l says = tt
leaf_byte text (boolean b) o s n m l says = tt
leaf_byte text (number x) o s n m l says = tt
leaf_byte text (string x) o s n m l says = tt
leaf_byte text (array js) o s n m l says = let b = byte_by_kind text o 91 s (ap kind (l ∙ says)) (λ z. absurd (omega (arith, z))) in absurd (m (get_or_default text o 32 0 b.0 ∙ b.1))
leaf_byte text (object ms) o s n m l says = let b = byte_by_kind text o 123 s (ap kind (l ∙ says)) (λ z. absurd (omega (arith, z))) in absurd (n (get_or_default text o 32 0 b.0 ∙ b.1))

pub leaf_child : (k : List ℕ) (v : Json) → IsLeaf v → child k v ≡ None
leaf_child k null l = refl
leaf_child k (boolean b) l = refl
leaf_child k (number x) l = refl
leaf_child k (string x) l = refl
leaf_child k (array js) l = absurd l
leaf_child k (object ms) l = absurd l

pub leaf_add : (k : List ℕ) (w v : Json) → IsLeaf v → add_child k w v ≡ None
leaf_add k w null l = refl
leaf_add k w (boolean b) l = refl
leaf_add k w (number x) l = refl
leaf_add k w (string x) l = refl
leaf_add k w (array js) l = absurd l
leaf_add k w (object ms) l = absurd l

-- ---- less and less

value_there : (s : List ℕ) → is_space (get_or s 0 32) ≡ false → 0 < length s
value_there [] e = absurd (true≢false e)
value_there (x ∷ s) e = omega arith

pub shorter : (text : List ℕ) (v : Json) (t new : List ℕ) → IsCutOut text v t new → length new < length text
shorter text v t new c =
    let a = length-append c.before (c.front ++ (c.value ++ (c.back ++ c.behind))) in
    let b = length-append c.front (c.value ++ (c.back ++ c.behind)) in
    let d = length-append c.value (c.back ++ c.behind) in
    let e = length-append c.back c.behind in
    let f = length-append c.before c.behind in
    omega (arith, ap length c.whole, a, b, d, e, f, ap length c.cut, value_there c.value c.stood.2.tight.0)

pub first_less : (text : List ℕ) (v : Json) (t new : List ℕ) → Says text v → IsLessText text v t new → AreLess text v t new
first_less text v t new says l = ((0, (text, v, refl, says, l.0)), l.1, l.2, l.3)

trans : (t : List ℕ) (v w x : Json) → IsObject v → IsLess t v w → IsLess t w x → IsLess t v x
trans t null w x y a b = absurd y
trans t (boolean c) w x y a b = absurd y
trans t (number c) w x y a b = absurd y
trans t (string c) w x y a b = absurd y
trans t (array c) w x y a b = absurd y
trans t (object ms) null x y a b = absurd a
trans t (object ms) (boolean c) x y a b = absurd a
trans t (object ms) (number c) x y a b = absurd a
trans t (object ms) (string c) x y a b = absurd a
trans t (object ms) (array c) x y a b = absurd a
trans t (object ms) (object ns) null y a b = absurd b
trans t (object ms) (object ns) (boolean c) y a b = absurd b
trans t (object ms) (object ns) (number c) y a b = absurd b
trans t (object ms) (object ns) (string c) y a b = absurd b
trans t (object ms) (object ns) (array c) y a b = absurd b
trans t (object ms) (object ns) (object os) y a b = b ∙ a

pub next_less : (text : List ℕ) (v : Json) (t less new : List ℕ) → IsObject v → (a : AreLess text v t less) → IsLessText less a.1 t new → AreLess text v t new
next_less text v t less new y ((n, cuts), w, says, l) b = ((suc n, (less, w, cuts, says, b.0)), b.1, b.2, trans t v w b.1 y l b.3)

none_or : (a b : Option Json) → later_or a b ≡ None → (a ≡ None) × (b ≡ None)
none_or None b e = (refl, e)
none_or (Some j) b e = absurd (none-some j (sym e))

no_some : (b : Bool) (j : Json) → cond b (Some j) None ≡ None → b ≡ false
no_some true j e = absurd (none-some j (sym e))
no_some false j e = refl

gone : (k : List ℕ) (ms : Members) → get_member k ms ≡ None → without k ms ≡ ms
gone k no_members e = refl
gone k (member l j ms) e =
    let p = none_or (get_member k ms) (cond (bytes_eq l k) (Some j) None) e in
    ap (λ b. cond b (without k ms) (member l j (without k ms))) (no_some (bytes_eq l k) j p.1) ∙ ap (member l j) (gone k ms p.0)

none_left : (t : List ℕ) (v w : Json) → IsObject v → IsLess t v w → child t w ≡ None → w ≡ remove_child t v
none_left t null w y l e = absurd y
none_left t (boolean c) w y l e = absurd y
none_left t (number c) w y l e = absurd y
none_left t (string c) w y l e = absurd y
none_left t (array c) w y l e = absurd y
none_left t (object ms) null y l e = absurd l
none_left t (object ms) (boolean c) y l e = absurd l
none_left t (object ms) (number c) y l e = absurd l
none_left t (object ms) (string c) y l e = absurd l
none_left t (object ms) (array c) y l e = absurd l
none_left t (object ms) (object ns) y l e = ap object (sym (gone t ns e) ∙ l)

pub all_gone : (text : List ℕ) (v : Json) (t new : List ℕ) → IsObject v → (a : AreLess text v t new) → child t a.1 ≡ None → IsWithout text v t new
all_gone text v t new y a e = (a.0, subst (Says new) (none_left t v a.1 y a.3 e) a.2)

one_left : (t : List ℕ) (v w : Json) → ¬ IsObject v → IsLess t v w → w ≡ remove_child t v
one_left t null w n l = absurd l
one_left t (boolean c) w n l = absurd l
one_left t (number c) w n l = absurd l
one_left t (string c) w n l = absurd l
one_left t (array c) w n l = l
one_left t (object ms) w n l = absurd (n tt)

pub one_gone : (text : List ℕ) (v : Json) (t new : List ℕ) → ¬ IsObject v → AreLess text v t new → IsWithout text v t new
one_gone text v t new n a = (a.0, subst (Says new) (one_left t v a.1 n a.3) a.2)
