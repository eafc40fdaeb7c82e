-- The texts of pointers and their tokens.
use Rattle.std.proofs.Common.{take_all, length-append, take-append-drop, ◌≡◌, ℕ, ◌+◌, ◌<◌, ◌≤◌, Bool, true, false, cond}
use Rattle.std.proofs.Common.{eqb, List, [], ◌∷◌, ◌++◌, length, get_or, take, drop, refl, sym, ap, ◌∙◌, subst, ⊎_elim}
use Rattle.std.proofs.Common.{append_assoc, append-nil, suc, zero, arith}
use Rattle.std.proofs.lemmas.Bool.{cases_eq, ne_eqb}
use Rattle.std.specs.Prelude.{MatchOption, Option, Some, None, IfNone, Result, Ok, Err, OnErr, OnOk, is_ok}
use Rattle.std.specs.Prelude.{if◌then◌else◌}
use Rattle.std.specs.declared.alloc.AllocError.{AllocError}
use Rattle.std.specs.List.{count_by}
use Rattle.std.proofs.lemmas.Slice.Eq.{bytes_eq-Decides}
use Rattle.std.proofs.Math.Utf8.{encode, encodes}
use Rattle.std.proofs.lemmas.Str.{encodes-append}
use Rattle.std.proofs.lemmas.List.{append_cancel_left}
use Rattle.std.proofs.lemmas.List.Sums.{count_by-le-length}
use Rattle.std.proofs.lemmas.List.Recursion.{is_count_by}
use Rattle.std.specs.Str.{bytes_eq, NoCharPasses, IsCharBoundary}
use Rattle.std.specs.Str.Pattern.{FindsChar, RFindsChar, SplitsAroundMatch, StripsPrefix, FindsTextPrefix}
use Rattle.std.proofs.lemmas.Str.Pattern.{find_char, NoCharPasses-char, drop_at_char}
use Rattle.jsonptr.specs.Faults.{IsFault}
use Rattle.jsonptr.specs.declared.error.ParseError.{ParseError}
use Rattle.jsonptr.specs.Text.{after_tilde, decoded, decoded_byte, encoded_byte, encoded, text_of, IsPrefix}
use Rattle.jsonptr.specs.Text.{IsNoPointerText}
use Rattle.jsonptr.specs.TextLaws.{by_byte, tokens_of_text-append, scanned-NoSlash, tokens_of_text-one, Starts-text_of}
use Rattle.jsonptr.specs.TextLaws.{NoSlash-encoded, decoded_again, unscanned-scanned, text_of-tokens_of_text}
use Rattle.jsonptr.specs.TextLaws.{Escaped-append, Escaped-encoded, Escaped-text_of, one_pointer, pointer_has_no_fault}
use Rattle.jsonptr.specs.Scanning.{tokens_of_text, IsOfItsTokens, IsEncoded, Starts, NoSlash, StartsEscape, Escaped}

pub if_none : {A : Type 0} {P : Type 0} (o : Option A) → P → IfNone o P
if_none None p = p
if_none (Some x) p = tt

pub on_err : {A E P : Type 0} (r : Result A E) → P → OnErr r P
on_err (Ok x) p = tt
on_err (Err e) p = p

-- a text with a fault is no pointer's
pub no_pointer : (t : List ℕ) (e : ParseError) → IsFault t e → IsNoPointerText t
no_pointer t e f P is = pointer_has_no_fault P e (subst (λ s. IsFault s e) (sym is) f)

pub text_of-append : (P Q : List (List ℕ)) → text_of (P ++ Q) ≡ text_of P ++ text_of Q
text_of-append [] Q = refl
text_of-append (t ∷ P) Q = rw (text_of-append P Q, append_assoc (encoded t) (text_of P) (text_of Q)) refl

pub encoded-decoded : (e : List ℕ) → NoSlash e → Escaped e → encoded (decoded e) ≡ e
encoded-decoded e n h = rw (scanned-NoSlash e n, append-nil (encoded (decoded e))) at (unscanned-scanned e h)

-- ---- escapes of a text in two parts

StartsEscape-left : (a r : List ℕ) → Starts r → StartsEscape (a ++ r) → StartsEscape a
StartsEscape-left [] [] s h = h
StartsEscape-left [] (x ∷ r) s h = ⊎_elim (λ e. absurd (omega arith)) (λ e. absurd (omega arith)) h
StartsEscape-left (y ∷ a) r s h = h

pub Escaped-left : (a r : List ℕ) → Starts r → Escaped (a ++ r) → Escaped a
Escaped-left [] r s h = tt
Escaped-left (x ∷ a) r s h = (λ e. StartsEscape-left a r s (h.0 e), Escaped-left a r s h.1)

pub Escaped-right : (a r : List ℕ) → Escaped (a ++ r) → Escaped r
Escaped-right [] r h = h
Escaped-right (x ∷ a) r h = Escaped-right a r h.1

-- ---- the parts of a pointer's text

Escaped-from_ReadsBack : (t : List ℕ) → IsOfItsTokens t → Escaped t
Escaped-from_ReadsBack t v = subst Escaped v (Escaped-text_of (tokens_of_text t))

Starts-from_ReadsBack : (t : List ℕ) → IsOfItsTokens t → Starts t
Starts-from_ReadsBack t v = subst Starts v (Starts-text_of (tokens_of_text t))

Starts-left : (f r : List ℕ) → Starts (f ++ r) → Starts f
Starts-left [] r h = tt
Starts-left (x ∷ f) r h = h

-- t is / and the token e, and then r
pub record CutsFront (t e r : List ℕ) : Type 0 where
  pub tokens : tokens_of_text t ≡ decoded e ∷ tokens_of_text r
  pub first : IsEncoded e
  pub rest : IsOfItsTokens r

pub cuts_front : (t e r : List ℕ) → IsOfItsTokens t → t ≡ 47 ∷ (e ++ r) → NoSlash e → Starts r → CutsFront t e r
cuts_front t e r v is n s =
    let escaped : Escaped (47 ∷ (e ++ r)) = subst Escaped is (Escaped-from_ReadsBack t v) in
    record {
      tokens = ap tokens_of_text is ∙ tokens_of_text-append (47 ∷ e) r s ∙ ap (λ a. a ++ tokens_of_text r) (tokens_of_text-one e n);
      first = encoded-decoded e n (Escaped-left e r s escaped.1);
      rest = text_of-tokens_of_text r s (Escaped-right e r escaped.1);
    }

pub cuts_inner : (t inner e r : List ℕ) → IsOfItsTokens t → t ≡ 47 ∷ inner → inner ≡ e ++ r → NoSlash e → Starts r → CutsFront t e r
cuts_inner t inner e r v is parts n s = cuts_front t e r v (is ∙ ap (λ i. 47 ∷ i) parts) n s

-- t is f, and then / and the token e
pub record CutsBack (t f e : List ℕ) : Type 0 where
  pub tokens : tokens_of_text t ≡ tokens_of_text f ++ decoded e ∷ []
  pub front : IsOfItsTokens f
  pub last : IsEncoded e

pub cuts_back : (t f e : List ℕ) → IsOfItsTokens t → t ≡ f ++ 47 ∷ e → NoSlash e → CutsBack t f e
cuts_back t f e v is n =
    let escaped : Escaped (f ++ 47 ∷ e) = subst Escaped is (Escaped-from_ReadsBack t v) in
    let starts : Starts (f ++ 47 ∷ e) = subst Starts is (Starts-from_ReadsBack t v) in
    let right : Escaped (47 ∷ e) = Escaped-right f (47 ∷ e) escaped in
    record {
      tokens = ap tokens_of_text is ∙ tokens_of_text-append f (47 ∷ e) refl ∙ ap (λ a. tokens_of_text f ++ a) (tokens_of_text-one e n);
      front = text_of-tokens_of_text f (Starts-left f (47 ∷ e) starts) (Escaped-left f (47 ∷ e) refl escaped);
      last = encoded-decoded e n right.1;
    }

-- ---- by the index

NoSlash-from : (t : List ℕ) → ((i : ℕ) → i < length t → get_or t i 0 ≡ 47 → ⊥) → NoSlash t
NoSlash-from [] h = tt
NoSlash-from (x ∷ t) h = (h 0 (omega arith), NoSlash-from t (λ i l. h (suc i) (omega arith)))

NoSlash-take : (k : ℕ) (t : List ℕ) → ((i : ℕ) → i < k → get_or t i 0 ≡ 47 → ⊥) → NoSlash (take k t)
NoSlash-take zero t h = tt
NoSlash-take (suc k) [] h = tt
NoSlash-take (suc k) (x ∷ t) h = (h 0 (omega arith), NoSlash-take k t (λ i l. h (suc i) (omega arith)))

Starts-drop : (k : ℕ) (t : List ℕ) → get_or t k 0 ≡ 47 → Starts (drop k t)
Starts-drop zero [] h = tt
Starts-drop zero (x ∷ t) h = h
Starts-drop (suc k) [] h = tt
Starts-drop (suc k) (x ∷ t) h = Starts-drop k t h

-- what `find` says of a /
pub find_cuts : (t : List ℕ) (k : ℕ) → MatchOption (Some k) (FindsChar 47 t None) (λ i. (j : ℕ) × FindsChar 47 t (Some (i, j)) × (i ≤ j) × IsCharBoundary t i × IsCharBoundary t j) → NoSlash (take k t) × Starts (drop k t)
find_cuts t k h = let f = find_char 47 t (Some k) h (omega arith) in (NoSlash-take k t f.2, Starts-drop k t f.1)

pub find_none : (t : List ℕ) → FindsChar 47 t None → NoSlash t
find_none t h = NoSlash-from t (λ i l. NoCharPasses-char 47 t i h (omega arith) l)

-- what `rsplit_once` says of a /
pub rsplit_cuts : (t f e : List ℕ) → SplitsAroundMatch (RFindsChar 47) t f e → (t ≡ f ++ 47 ∷ e) × NoSlash e
rsplit_cuts t f e (i, j, finds, front, back, le, flen, blen) = (
  sym (take-append-drop i t) ∙ ap (λ a. a ++ drop i t) (sym front) ∙ ap (λ a. f ++ a) (drop_at_char 47 t i j finds.1 (omega arith) ∙ ap (λ a. 47 ∷ a) (sym back)),
  NoSlash-from e (λ k l. NoCharPasses-char 47 e k (subst (NoCharPasses (λ d. eqb d 47)) (sym back) finds.0) (omega arith) l),
)

pub tokens_none : (t : List ℕ) → NoSlash t → tokens_of_text t ≡ []
tokens_none t n = ap (λ s. s.1) (scanned-NoSlash t n)

-- the pointer whose text is empty is the one with no tokens
pub tokens_from_no_slash : (t : List ℕ) → IsOfItsTokens t → ((rest : List ℕ) → t ≡ 47 ∷ rest → ⊥) → tokens_of_text t ≡ []
tokens_from_no_slash [] v h = refl
tokens_from_no_slash (x ∷ t) v h = absurd (h t (ap (λ y. y ∷ t) (Starts-from_ReadsBack (x ∷ t) v)))

pub rsplit_back : (t f e : List ℕ) → IsOfItsTokens t → SplitsAroundMatch (RFindsChar 47) t f e → CutsBack t f e
rsplit_back t f e v h = let k = rsplit_cuts t f e h in cuts_back t f e v k.0 k.1

tokens-other : (y : ℕ) (t : List ℕ) → eqb y 47 ≡ false → tokens_of_text (y ∷ t) ≡ tokens_of_text t
tokens-other y t n = rw (n, tokens_of_text) refl

pub length-tokens : (t : List ℕ) → length (tokens_of_text t) ≡ count_by (λ x. eqb x 47) t
length-tokens = is_count_by (λ t. length (tokens_of_text t)) (λ x. eqb x 47) refl
    (λ x t. by_byte (λ y. length (tokens_of_text (y ∷ t)) ≡ cond (eqb y 47) (1 + length (tokens_of_text t)) (length (tokens_of_text t)))
    (omega arith) refl (λ y n m. ap length (tokens-other y t n) ∙ rw n refl) x)

-- ---- prefixes

pub prefix_text : (s p : List ℕ) (R : List (List ℕ)) → IsOfItsTokens s → IsOfItsTokens p → tokens_of_text s ≡ tokens_of_text p ++ R → s ≡ p ++ text_of R
prefix_text s p R v w e = sym v ∙ ap text_of e ∙ text_of-append (tokens_of_text p) R ∙ ap (λ a. a ++ text_of R) w

pub strips_text : (s p x : List ℕ) → StripsPrefix (FindsTextPrefix p) s x → s ≡ p ++ x
strips_text s p x (n, finds, is, fits) = finds.1 ∙ ap (λ a. p ++ a) (sym is)

pub rest-ReadsBack : (s p x : List ℕ) → IsOfItsTokens s → s ≡ p ++ x → Starts x → IsOfItsTokens x
rest-ReadsBack s p x v e h = text_of-tokens_of_text x h (Escaped-right p x (subst Escaped e (Escaped-from_ReadsBack s v)))

pub tokens-rest : (s p x : List ℕ) → s ≡ p ++ x → Starts x → tokens_of_text s ≡ tokens_of_text p ++ tokens_of_text x
tokens-rest s p x e h = ap tokens_of_text e ∙ tokens_of_text-append p x h

-- where s goes on after p with another byte than /, the tokens of p do not begin those of s
pub not_prefix : (s p x : List ℕ) → IsOfItsTokens s → IsOfItsTokens p → s ≡ p ++ x → (Starts x → ⊥) → IsPrefix (tokens_of_text p) (tokens_of_text s) → ⊥
not_prefix s p x v w e h (R, is) =
    h (subst Starts (append_cancel_left p (text_of R) x (sym (prefix_text s p R v w is) ∙ e)) (Starts-text_of R))

pub length-tokens-le : (t : List ℕ) → length (tokens_of_text t) ≤ length t
length-tokens-le t = omega (arith, length-tokens t, count_by-le-length (λ x. eqb x 47) t)

-- ---- an encoded token

pub Escaped-from_IsEncoded : (e : List ℕ) → IsEncoded e → Escaped e
Escaped-from_IsEncoded e v = subst Escaped v (Escaped-encoded (decoded e))

pub escape_missing : (t : List ℕ) → StartsEscape t → ((rest : List ℕ) → t ≡ 48 ∷ rest → ⊥) → ((rest : List ℕ) → t ≡ 49 ∷ rest → ⊥) → ⊥
escape_missing [] s h k = s
escape_missing (y ∷ t) s h k = ⊎_elim (λ e. h t (ap (λ x. x ∷ t) e)) (λ e. k t (ap (λ x. x ∷ t) e)) s

abbrev pub NoTilde : List ℕ → Type 0
NoTilde [] = Unit {0}
NoTilde (x ∷ t) = (x ≡ 126 → ⊥) × NoTilde t

pub NoTilde-from : (t : List ℕ) → ((i : ℕ) → i < length t → get_or t i 0 ≡ 126 → ⊥) → NoTilde t
NoTilde-from [] h = tt
NoTilde-from (x ∷ t) h = (h 0 (omega arith), NoTilde-from t (λ i l. h (suc i) (omega arith)))

pub decoded-plain : (a r : List ℕ) → NoTilde a → decoded (a ++ r) ≡ a ++ decoded r
decoded-plain [] r h = refl
decoded-plain (x ∷ a) r h = rw (decoded-plain a r h.1, ne_eqb x 126 h.0) refl

pub decoded-NoTilde : (a : List ℕ) → NoTilde a → decoded a ≡ a
decoded-NoTilde [] h = refl
decoded-NoTilde (x ∷ a) h = rw (decoded-NoTilde a h.1, ne_eqb x 126 h.0) refl

pub tilde_none : (t : List ℕ) → FindsChar 126 t None → NoTilde t
tilde_none t h = NoTilde-from t (λ i l. NoCharPasses-char 126 t i h (omega arith) l)

-- what `split_once` says of a ~
pub record CutsTilde (t plain after : List ℕ) : Type 0 where
  pub whole : t ≡ plain ++ 126 ∷ after
  pub none : NoTilde plain

pub tilde_cuts : (t plain after : List ℕ) → SplitsAroundMatch (FindsChar 126) t plain after → CutsTilde t plain after
tilde_cuts t f e (i, j, finds, front, back, le, flen, blen) = record {
  whole = sym (take-append-drop i t) ∙ ap (λ a. a ++ drop i t) (sym front) ∙ ap (λ a. f ++ a) (drop_at_char 126 t i j finds.1 (omega arith) ∙ ap (λ a. 126 ∷ a) (sym back));
  none = NoTilde-from f (λ k l. NoCharPasses-char 126 f k (subst (NoCharPasses (λ d. eqb d 126)) (sym front) finds.0) (omega arith) l);
}

by_escape : (P : ℕ → Type 0) → P 48 → P 49 → ((x : ℕ) → eqb x 49 ≡ false → eqb x 48 ≡ false → P x) → (x : ℕ) → P x
by_escape P zero_ one other x =
    ⊎_elim (λ e. subst P (sym e) zero_)
    (λ n. ⊎_elim (λ e. subst P (sym e) one) (λ m. other x (ne_eqb x 49 m) (ne_eqb x 48 n)) (cases_eq x 49))
    (cases_eq x 48)

decoded_byte-other : (x : ℕ) (t : List ℕ) → eqb x 126 ≡ false → decoded_byte x t ≡ x ∷ t
decoded_byte-other x t m = rw (m, decoded_byte) refl

after_tilde-other : (y : ℕ) (t : List ℕ) → eqb y 49 ≡ false → eqb y 48 ≡ false → after_tilde (y ∷ t) ≡ 126 ∷ y ∷ t
after_tilde-other y t n m = rw (n, m, after_tilde) refl

after_tilde_nonempty : (t : List ℕ) → length (after_tilde t) ≡ 0 → ⊥
after_tilde_nonempty [] = λ h. omega arith
after_tilde_nonempty (y ∷ t) = by_escape (λ y. length (after_tilde (y ∷ t)) ≡ 0 → ⊥) (λ h. omega arith) (λ h. omega arith)
    (λ x n m. subst (λ l. length l ≡ 0 → ⊥) (sym (after_tilde-other x t n m)) (λ h. omega arith)) y

decoded_byte_nonempty : (x : ℕ) (t : List ℕ) → length (decoded_byte x t) ≡ 0 → ⊥
decoded_byte_nonempty x t = by_byte (λ x. length (decoded_byte x t) ≡ 0 → ⊥) (λ h. omega arith) (after_tilde_nonempty t)
    (λ x n m. subst (λ l. length l ≡ 0 → ⊥) (sym (decoded_byte-other x t m)) (λ h. omega arith)) x

empty_text : (t : List ℕ) → length t ≡ 0 → t ≡ []
empty_text [] h = refl
empty_text (x ∷ t) h = absurd (omega arith)

pub decoded_nonempty : (t : List ℕ) → length (decoded t) ≡ 0 → length t ≡ 0
decoded_nonempty [] h = refl
decoded_nonempty (x ∷ t) h = absurd (decoded_byte_nonempty x (decoded t) h)

-- the key was read to its end
pub is_key_all : (key rest d : List ℕ) (i : ℕ) → length key ≤ i → d ≡ take i key ++ decoded rest → (length rest ≡ 0 → d ≡ key) × (d ≡ key → length rest ≡ 0)
is_key_all key rest d i l e = (
  (λ z. e ∙ rw (take_all i key l, empty_text rest z) (append-nil key)),
  (λ same. decoded_nonempty rest (omega (arith, length-append key (decoded rest), ap length (sym same ∙ e ∙ ap (λ k. k ++ decoded rest) (take_all i key l))))),
)

unescapes : (after others : List ℕ) (r : ℕ) → StartsEscape after → (x : ℕ) × (after ≡ x ∷ others) → after_tilde after ≡ r ∷ others → decoded (126 ∷ after) ≡ r ∷ decoded others
unescapes [] others r s h gives = absurd s
unescapes (y ∷ t) others r s (x, is) gives =
    ⊎_elim (λ e. let g = rw e at gives in rw e (cc g)) (λ e. let g = rw e at gives in rw e (cc g)) s

pub escaped_after : (rest plain after : List ℕ) → Escaped rest → CutsTilde rest plain after → StartsEscape after × Escaped after
escaped_after rest plain after h cuts =
    let both : Escaped (126 ∷ after) = Escaped-right plain (126 ∷ after) (subst Escaped cuts.whole h) in
    (both.0 refl, both.1)

pub Escaped-others : (x : ℕ) (after others : List ℕ) → after ≡ x ∷ others → Escaped after → Escaped others
Escaped-others x after others is h = let k : Escaped (x ∷ others) = subst Escaped is h in k.1

pub decoded_step : (rest plain after others : List ℕ) (r : ℕ) → Escaped rest → CutsTilde rest plain after → (x : ℕ) × (after ≡ x ∷ others) → after_tilde after ≡ r ∷ others → decoded rest ≡ plain ++ r ∷ decoded others
decoded_step rest plain after others r h cuts is gives =
    ap decoded cuts.whole ∙ decoded-plain plain (126 ∷ after) cuts.none ∙ ap (λ a. plain ++ a) (unescapes after others r (escaped_after rest plain after h cuts).0 is gives)

encoded_byte-other : (x : ℕ) → eqb x 47 ≡ false → eqb x 126 ≡ false → encoded_byte x ≡ x ∷ []
encoded_byte-other x n m = rw (n, m, encoded_byte) refl

-- pieces pushed one after another
pub pushed : (d o p q tail s1 s2 e : List ℕ) (r : ℕ) → d ≡ o ++ q → q ≡ p ++ r ∷ tail → s1 ≡ o ++ p → s2 ≡ s1 ++ e → e ≡ r ∷ [] → d ≡ s2 ++ tail
pushed d o p q tail s1 s2 e r a b c f g = rw (a, b, f, c, g) (simp append_assoc)

-- ---- the encoded text of characters

pub encoded-append : (a b : List ℕ) → encoded (a ++ b) ≡ encoded a ++ encoded b
encoded-append [] b = refl
encoded-append (x ∷ a) b = ap (λ r. encoded_byte x ++ r) (encoded-append a b) ∙ sym (append_assoc (encoded_byte x) (encoded a) (encoded b))

encoded-plain : (t : List ℕ) → NoSlash t → NoTilde t → encoded t ≡ t
encoded-plain [] h k = refl
encoded-plain (x ∷ t) h k = rw (encoded_byte-other x (ne_eqb x 47 h.0) (ne_eqb x 126 k.0)) (ap (λ r. x ∷ r) (encoded-plain t h.1 k.1))

char_lacks : (c d : ℕ) → (c ≡ d → ⊥) → NoCharPasses (λ x. eqb x d) (encode c)
char_lacks c d n = (c ∷ [], append-nil (encode c), (ne_eqb c d n, tt))

pub encoded-char : (c : ℕ) → (c ≡ 126 → ⊥) → (c ≡ 47 → ⊥) → encoded (encode c) ≡ encode c
encoded-char c n m = encoded-plain (encode c)
    (NoSlash-from (encode c) (λ i l. NoCharPasses-char 47 (encode c) i (char_lacks c 47 m) (omega arith) l))
    (NoTilde-from (encode c) (λ i l. NoCharPasses-char 126 (encode c) i (char_lacks c 126 n) (omega arith) l))

encodes_push : (cs : List ℕ) (c : ℕ) → encodes (cs ++ c ∷ []) ≡ encodes cs ++ encode c
encodes_push cs c = encodes-append cs (c ∷ []) ∙ ap (λ r. encodes cs ++ r) (append-nil (encode c))

-- one more character was encoded
pub encoded_push : (cs : List ℕ) (c : ℕ) → encoded (encodes (cs ++ c ∷ [])) ≡ encoded (encodes cs) ++ encoded (encode c)
encoded_push cs c = ap encoded (encodes_push cs c) ∙ encoded-append (encodes cs) (encode c)

-- one more piece was written after /
pub written : (before out out' e p e' : List ℕ) → out ≡ before ++ 47 ∷ e → out' ≡ out ++ p → e' ≡ e ++ p → out' ≡ before ++ 47 ∷ e'
written before out out' e p e' a b c = b ∙ ap (λ o. o ++ p) a ∙ append_assoc before (47 ∷ e) p ∙ ap (λ r. before ++ 47 ∷ r) (sym c)

-- ---- a token at the end

Starts-append : (a r : List ℕ) → Starts a → Starts r → Starts (a ++ r)
Starts-append [] r h k = k
Starts-append (x ∷ a) r h k = h

pub push_valid : (t raw : List ℕ) → IsOfItsTokens t → IsOfItsTokens (t ++ 47 ∷ encoded raw)
push_valid t raw v = text_of-tokens_of_text (t ++ 47 ∷ encoded raw)
    (Starts-append t (47 ∷ encoded raw) (Starts-from_ReadsBack t v) refl)
    (Escaped-append t (47 ∷ encoded raw) (Escaped-from_ReadsBack t v) (λ e. absurd (omega arith), Escaped-encoded raw))

pub push_tokens : (t raw : List ℕ) → tokens_of_text (t ++ 47 ∷ encoded raw) ≡ tokens_of_text t ++ raw ∷ []
push_tokens t raw = tokens_of_text-append t (47 ∷ encoded raw) refl
    ∙ ap (λ a. tokens_of_text t ++ a) (tokens_of_text-one (encoded raw) (NoSlash-encoded raw) ∙ ap (λ d. d ∷ []) (decoded_again raw))

pub same_tokens : (P Q : List (List ℕ)) (r : Bool) → r ≡ bytes_eq (text_of P) (text_of Q) → (r ≡ true → P ≡ Q) × (P ≡ Q → r ≡ true)
same_tokens P Q r e =
    let d = bytes_eq-Decides (text_of P) (text_of Q) in
    ((λ h. one_pointer P Q (d.0 (sym e ∙ h))), (λ h. e ∙ d.1 (ap text_of h)))

-- an escape is longer than what it stands for
pub cut_length : (rest plain after others : List ℕ) → CutsTilde rest plain after → (x : ℕ) → after ≡ x ∷ others → length rest ≡ length plain + 2 + length others
cut_length rest plain after others cuts x is =
    let whole : length rest ≡ length (plain ++ 126 ∷ after) = ap length cuts.whole in
    let more : length after ≡ length (x ∷ others) = ap length is in
    omega (arith, length-append plain (126 ∷ after))

-- the last part of what is decoded
pub decoded_end : (r : Result (Unit {0}) AllocError) (old new rest whole : List ℕ) → new ≡ (if is_ok r then old ++ rest else old) → whole ≡ old ++ rest → OnOk r (new ≡ whole)
decoded_end (Ok x) old new rest whole is same = is ∙ sym same
decoded_end (Err e) old new rest whole is same = tt
