-- A text with no whitespace around it is where its own value stands.
use Rattle.std.proofs.Common.{◌≡◌, ℕ, suc, ◌-◌, List, [], ◌∷◌, ◌++◌, length, get_or, Bool, true, false, cond, ◌==◌, refl, sym, ap, ◌∙◌, subst, append-nil, arith, length-append}
use Rattle.std.proofs.lemmas.Bool.{false≢true}
use Rattle.json.specs.Json.{Json, array, object, no_items, no_members}
use Rattle.json.specs.Lex.{Class, quote, backslash, operator, space, other, class, between, lex, lex_byte}
use Rattle.json.specs.Word.{is_operator, is_space}
use Rattle.json_text.specs.Pointed.{IsTight, IsWrittenAt}
use Rattle.json_lexemes.specs.Spelled.{IsShallowText, Says}
use Rattle.json_patch_text.specs.Drafts.{IsTakenOut}
use Rattle.json_pieces.specs.Changes.{IsValueIn}
use Rattle.json_pieces.specs.Whole.{IsTaken, taken_text}
use Rattle.json_pieces.specs.declared.taken.Taken.{Taken}
use Rattle.jsonptr.specs.Text.{Pointer}
use Rattle.json_lexemes.proofs.FirstBytes.{kind, byte_by_kind}

-- ---- whitespace

is_whitespace : (a b c d : Bool) → cond a quote (cond b backslash (cond c operator (cond d space other))) ≡ space → d ≡ true
is_whitespace true b c d e = cc
is_whitespace false true c d e = cc
is_whitespace false false true d e = cc
is_whitespace false false false true e = refl
is_whitespace false false false false e = cc

class_whitespace : (x : ℕ) → class x ≡ space → is_space x ≡ true
class_whitespace x e = is_whitespace (x == 34) (x == 92) (is_operator x) (is_space x) e

no_lexeme : (x : ℕ) (xs : List ℕ) (c : Class) → lex_byte between c x xs (λ m. lex m xs) ≡ [] → (c ≡ space) × (lex between xs ≡ [])
no_lexeme x xs quote e = cc
no_lexeme x xs backslash e = cc
no_lexeme x xs operator e = cc
no_lexeme x xs space e = (refl, e)
no_lexeme x xs other e = cc

first_whitespace : (x : ℕ) (xs : List ℕ) → lex between (x ∷ xs) ≡ [] → (is_space x ≡ true) × (lex between xs ≡ [])
unfolding lex
first_whitespace x xs e = let h = no_lexeme x xs (class x) e in (class_whitespace x h.0, h.1)

-- the last byte, or whitespace
abbrev last : List ℕ → ℕ
last s = get_or s (length s - 1) 32

last_behind : (x y : ℕ) (ys : List ℕ) → last (x ∷ y ∷ ys) ≡ last (y ∷ ys)
last_behind x y ys =
    let e : suc (suc (length ys)) - 1 ≡ suc (length ys) = omega arith in
    let f : suc (length ys) - 1 ≡ length ys = omega arith in
    ap (λ n. get_or (x ∷ y ∷ ys) n 32) e ∙ sym (ap (λ n. get_or (y ∷ ys) n 32) f)

last_whitespace : (s : List ℕ) → lex between s ≡ [] → is_space (last s) ≡ true
last_whitespace [] e = refl
last_whitespace (x ∷ []) e = (first_whitespace x [] e).0
last_whitespace (x ∷ y ∷ ys) e = ap is_space (last_behind x y ys) ∙ last_whitespace (y ∷ ys) (first_whitespace x (y ∷ ys) e).1

last_append : (a : List ℕ) (y : ℕ) (ys : List ℕ) → last (a ++ (y ∷ ys)) ≡ last (y ∷ ys)
last_append [] y ys = refl
last_append (x ∷ a) y ys =
    let n : length (a ++ (y ∷ ys)) ≡ suc (length (a ++ (y ∷ ys)) - 1) = omega (arith, length-append a (y ∷ ys)) in
    let e : suc (length (a ++ (y ∷ ys))) - 1 ≡ suc (length (a ++ (y ∷ ys)) - 1) = omega (arith, length-append a (y ∷ ys)) in
    ap (λ m. get_or (x ∷ (a ++ (y ∷ ys))) m 32) e ∙ last_append a y ys

-- ---- two texts in its place

array_says : Says (91 ∷ 93 ∷ []) (array no_items)
unfolding lex
array_says = refl

object_says : Says (123 ∷ 125 ∷ []) (object no_members)
unfolding lex
object_says = refl

nothing_behind : (behind : List ℕ) → Says (91 ∷ 93 ∷ behind) (array no_items) → lex between behind ≡ []
unfolding lex
nothing_behind behind e = cc

abbrev Fits : List ℕ → List ℕ → Type 0
Fits before behind = (new : List ℕ) (w : Json) → Says new w → Says (before ++ (new ++ behind)) w

none_before : (b : ℕ) (bs behind : List ℕ) → is_space b ≡ false → Fits (b ∷ bs) behind → ⊥
none_before b bs behind solid fits =
    let bracket = byte_by_kind (b ∷ (bs ++ (91 ∷ 93 ∷ behind))) 0 91 (λ h. solid) (ap kind (fits (91 ∷ 93 ∷ []) (array no_items) array_says)) (λ z. absurd (omega arith)) in
    let braces = byte_by_kind (b ∷ (bs ++ (123 ∷ 125 ∷ behind))) 0 123 (λ h. solid) (ap kind (fits (123 ∷ 125 ∷ []) (object no_members) object_says)) (λ z. absurd (omega arith)) in
    let p : b ≡ 91 = bracket.1 in
    let q : b ≡ 123 = braces.1 in
    absurd (omega arith)

put_is : (before put behind s : List ℕ) → IsTight s → s ≡ before ++ (put ++ behind) → Fits before behind → put ≡ s
put_is (b ∷ bs) put behind s tight e fits = absurd (none_before b bs behind (ap (λ t. is_space (get_or t 0 32)) (sym e) ∙ tight.0) fits)
put_is [] put [] s tight e fits = sym (e ∙ append-nil put)
put_is [] put (y ∷ ys) s tight e fits =
    let whitespace : is_space (last (y ∷ ys)) ≡ true = last_whitespace (y ∷ ys) (nothing_behind (y ∷ ys) (fits (91 ∷ 93 ∷ []) (array no_items) array_says)) in
    let solid : is_space (last (put ++ (y ∷ ys))) ≡ false = ap (λ t. is_space (last t)) (sym e) ∙ tight.1 in
    absurd (false≢true (sym solid ∙ ap is_space (last_append put y ys) ∙ whitespace))

pub as_written : (s put : List ℕ) (w : Json) → IsTight s → IsWrittenAt s w [] put → put ≡ s
as_written s put w tight (before, behind, whole, (v, at, stretch)) = put_is before put behind s tight whole stretch.alone

-- a value that is made of a copy is the one that was copied
pub taken_whole : (text s copy : List ℕ) (P : Pointer) (t : Taken) → (j : Json) × IsShallowText text j × IsWrittenAt text j P s → copy ≡ s → IsTaken t → IsValueIn copy (taken_text t) → IsTakenOut text P t
taken_whole text s copy P t (j, shallow, written) e h (w, copied, at, said) =
    let (before, behind, whole, (v, leads, stretch)) = written in
    let same : taken_text t ≡ s = as_written copy (taken_text t) w (subst IsTight (sym e) stretch.tight) at ∙ e in
    (h, (j, shallow, subst (IsWrittenAt text j P) (sym same) written))
