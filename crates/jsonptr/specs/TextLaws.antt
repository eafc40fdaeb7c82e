-- Laws of pointers and their texts, for the proofs above this crate to cite: the last section and
-- `decoded_again`, which the module `laws` has as contracts. Before the last section stands what its
-- proofs and this crate's others need.
use Rattle.std.proofs.Common.{◌≡◌, ◌<◌, ◌+◌, ℕ, zero, suc, List, [], ◌∷◌, ◌++◌, length, get_or, slice_index, eqb, false}
use Rattle.std.proofs.Common.{refl, sym, ap, ◌∙◌, inl, inr, subst, add-one, ⊎_elim, arith}
use Rattle.std.specs.Prelude.{◌⊎◌}
use Rattle.std.proofs.lemmas.Bool.{cases_eq, cases_lt, ne_eqb, eqb-false}
use Rattle.jsonptr.specs.Faults.{IsFault, IsBareTilde, BeginsWell}
use Rattle.jsonptr.specs.Scanning.{scan, scanned, tokens_of_text, Starts, NoSlash, StartsEscape, Escaped}
use Rattle.jsonptr.specs.Text.{Pointer, IsPointerText, decoded, encoded_byte, encoded, text_of}
use Rattle.jsonptr.specs.declared.error.ParseError.{ParseError}
use Rattle.jsonptr.specs.declared.error.ParseError.TheVariants.{NoLeadingSlash, InvalidEncoding}

-- ---- one byte: a byte is /, ~ or another

pub by_byte : (P : ℕ → Type 0) → P 47 → P 126 → ((x : ℕ) → eqb x 47 ≡ false → eqb x 126 ≡ false → P x) → (x : ℕ) → P x
by_byte P slash tilde other x =
    ⊎_elim (λ e. subst P (sym e) slash)
    (λ n. ⊎_elim (λ e. subst P (sym e) tilde) (λ m. other x (ne_eqb x 47 n) (ne_eqb x 126 m)) (cases_eq x 126))
    (cases_eq x 47)

-- ---- the tokens of a text in two parts

scanned-Starts : (r : List ℕ) → Starts r → (scanned r).0 ≡ []
scanned-Starts [] h = refl
scanned-Starts (x ∷ t) h = rw h refl

pub scanned-append : (a r : List ℕ) → Starts r → scanned (a ++ r) ≡ ((scanned a).0, (scanned a).1 ++ (scanned r).1)
scanned-append [] r h = let e : (scanned r).0 ≡ [] = scanned-Starts r h in ap (λ c. (c, (scanned r).1)) e
scanned-append (x ∷ a) r h = rw (scanned-append a r h) (by_byte
    (λ y. scan y ((scanned a).0, (scanned a).1 ++ (scanned r).1) ≡ ((scan y (scanned a)).0, (scan y (scanned a)).1 ++ (scanned r).1))
    refl refl (λ y n m. rw (n, m) refl) x)

pub tokens_of_text-append : (a r : List ℕ) → Starts r → tokens_of_text (a ++ r) ≡ tokens_of_text a ++ tokens_of_text r
tokens_of_text-append a r h = ap (λ s. s.1) (scanned-append a r h)

pub scanned-NoSlash : (e : List ℕ) → NoSlash e → scanned e ≡ (decoded e, [])
scanned-NoSlash [] h = refl
scanned-NoSlash (x ∷ e) h = rw (scanned-NoSlash e h.1, ne_eqb x 47 h.0) refl

pub tokens_of_text-one : (e : List ℕ) → NoSlash e → tokens_of_text (47 ∷ e) ≡ decoded e ∷ []
tokens_of_text-one e h = rw (scanned-NoSlash e h) refl

-- ---- a text of tokens

pub Starts-text_of : (P : List (List ℕ)) → Starts (text_of P)
Starts-text_of [] = tt
Starts-text_of (t ∷ P) = refl

NoSlash-append : (a b : List ℕ) → NoSlash a → NoSlash b → NoSlash (a ++ b)
NoSlash-append [] b h k = k
NoSlash-append (x ∷ a) b h k = (h.0, NoSlash-append a b h.1 k)

NoSlash-encoded_byte : (x : ℕ) → NoSlash (encoded_byte x)
NoSlash-encoded_byte = by_byte (λ x. NoSlash (encoded_byte x))
    (omega arith, (omega arith, tt)) (omega arith, (omega arith, tt))
    (λ x n m. rw (n, m) (eqb-false x 47 n, tt))

pub NoSlash-encoded : (t : List ℕ) → NoSlash (encoded t)
NoSlash-encoded [] = tt
NoSlash-encoded (x ∷ t) = NoSlash-append (encoded_byte x) (encoded t) (NoSlash-encoded_byte x) (NoSlash-encoded t)

decoded-byte : (r : List ℕ) (x : ℕ) → decoded (encoded_byte x ++ r) ≡ x ∷ decoded r
decoded-byte r = by_byte (λ x. decoded (encoded_byte x ++ r) ≡ x ∷ decoded r)
    refl refl (λ x n m. rw (n, m, m) refl)

-- a law: a token, encoded and decoded again, is the same
pub decoded_again : (t : List ℕ) → decoded (encoded t) ≡ t
decoded_again [] = refl
decoded_again (x ∷ t) = decoded-byte (encoded t) x ∙ ap (λ r. x ∷ r) (decoded_again t)

-- the tokens of a text give the text, and the text gives the tokens
pub tokens_of_text-text_of : (P : List (List ℕ)) → tokens_of_text (text_of P) ≡ P
tokens_of_text-text_of [] = refl
tokens_of_text-text_of (t ∷ P) =
    tokens_of_text-append (47 ∷ encoded t) (text_of P) (Starts-text_of P)
    ∙ ap (λ a. a ++ tokens_of_text (text_of P)) (tokens_of_text-one (encoded t) (NoSlash-encoded t))
    ∙ rw (decoded_again t, tokens_of_text-text_of P) refl

-- ---- a text with its escapes

-- a text is what it was scanned to
abbrev pub unscanned : List ℕ × List (List ℕ) → List ℕ
unscanned s = encoded s.0 ++ text_of s.1

unscanned-tilde : (t : List ℕ) → StartsEscape t → unscanned (scan 126 (scanned t)) ≡ 126 ∷ unscanned (scanned t)
unscanned-tilde [] h = absurd h
unscanned-tilde (y ∷ t) h = ⊎_elim (λ e. rw e refl) (λ e. rw e refl) h

pub unscanned-scanned : (t : List ℕ) → Escaped t → unscanned (scanned t) ≡ t
unscanned-scanned [] h = refl
unscanned-scanned (x ∷ t) h =
    let P : ℕ → Type 0 = λ y. (y ≡ 126 → StartsEscape t) → unscanned (scan y (scanned t)) ≡ y ∷ unscanned (scanned t) in
    by_byte P (λ k. refl) (λ k. unscanned-tilde t (k refl)) (λ y n m k. rw (n, m, n, m) refl) x h.0
    ∙ ap (λ r. x ∷ r) (unscanned-scanned t h.1)

pub text_of-tokens_of_text : (t : List ℕ) → Starts t → Escaped t → text_of (tokens_of_text t) ≡ t
text_of-tokens_of_text t s h =
    (let e : (scanned t).0 ≡ [] = scanned-Starts t s in ap (λ c. encoded c ++ text_of (scanned t).1) (sym e)) ∙ unscanned-scanned t h

-- ---- escapes of a text in two parts

StartsEscape-more : (a r : List ℕ) → StartsEscape a → StartsEscape (a ++ r)
StartsEscape-more [] r h = absurd h
StartsEscape-more (y ∷ a) r h = h

pub Escaped-append : (a r : List ℕ) → Escaped a → Escaped r → Escaped (a ++ r)
Escaped-append [] r h k = k
Escaped-append (x ∷ a) r h k = (λ e. StartsEscape-more a r (h.0 e), Escaped-append a r h.1 k)

Escaped-encoded_byte : (x : ℕ) → Escaped (encoded_byte x)
Escaped-encoded_byte = by_byte (λ x. Escaped (encoded_byte x))
    (λ e. inr refl, (λ e. absurd (omega arith), tt)) (λ e. inl refl, (λ e. absurd (omega arith), tt))
    (λ x n m. rw (n, m) (λ e. absurd (eqb-false x 126 m e), tt))

pub Escaped-encoded : (t : List ℕ) → Escaped (encoded t)
Escaped-encoded [] = tt
Escaped-encoded (x ∷ t) = Escaped-append (encoded_byte x) (encoded t) (Escaped-encoded_byte x) (Escaped-encoded t)

pub Escaped-text_of : (P : List (List ℕ)) → Escaped (text_of P)
Escaped-text_of [] = tt
Escaped-text_of (t ∷ P) = (λ e. absurd (omega arith), Escaped-append (encoded t) (text_of P) (Escaped-encoded t) (Escaped-text_of P))

-- ---- the same by the index

bare_at_next : (x k : ℕ) (t : List ℕ) → IsBareTilde t k → IsBareTilde (x ∷ t) (suc k)
bare_at_next x k t h = rw (add-one (suc k)) (omega arith, h.1, rw (add-one k) at h.2, rw (add-one k) at h.3)

StartsEscape-from : (t : List ℕ) → (get_or t 0 0 ≡ 48) ⊎ (get_or t 0 0 ≡ 49) → StartsEscape t
StartsEscape-from [] h = ⊎_elim (λ e. absurd (omega arith)) (λ e. absurd (omega arith)) h
StartsEscape-from (y ∷ t) h = h

StartsEscape-reads : (t : List ℕ) → StartsEscape t → (get_or t 0 0 ≡ 48) ⊎ (get_or t 0 0 ≡ 49)
StartsEscape-reads [] h = absurd h
StartsEscape-reads (y ∷ t) h = h

Escaped-from_none : (t : List ℕ) → ((k : ℕ) → k < length t → ¬ IsBareTilde t k) → Escaped t
Escaped-from_none [] h = tt
Escaped-from_none (x ∷ t) h = (
  (λ e. StartsEscape-from t (⊎_elim inl (λ n. ⊎_elim inr (λ m. absurd (h 0 (omega arith) (omega arith, e, n, m))) (cases_eq (get_or t 0 0) 49)) (cases_eq (get_or t 0 0) 48))),
  Escaped-from_none t (λ k l b. h (suc k) (omega arith) (bare_at_next x k t b)),
)

pub Escaped-not_bare : (t : List ℕ) (k : ℕ) → Escaped t → ¬ IsBareTilde t k
Escaped-not_bare [] k h b = absurd (omega arith)
Escaped-not_bare (x ∷ t) zero h b = ⊎_elim b.2 b.3 (StartsEscape-reads t (h.0 b.1))
Escaped-not_bare (x ∷ t) (suc k) h b =
    Escaped-not_bare t k h.1 (omega arith, b.1, rw (add-one k) (rw (add-one (suc k)) at b.2), rw (add-one k) (rw (add-one (suc k)) at b.3))

pub Starts-from : (t : List ℕ) → BeginsWell t → Starts t
Starts-from [] h = tt
Starts-from (x ∷ t) h = h (omega arith)

pub BeginsWell-from : (t : List ℕ) → Starts t → BeginsWell t
BeginsWell-from [] h l = absurd (omega arith)
BeginsWell-from (x ∷ t) h l = h

pub text_of-none : (t : List ℕ) → BeginsWell t → ((k : ℕ) → k < length t → ¬ IsBareTilde t k) → text_of (tokens_of_text t) ≡ t
text_of-none t b h = text_of-tokens_of_text t (Starts-from t b) (Escaped-from_none t h)

-- ---- the first bare ~

bare_or_not : (t : List ℕ) (i : ℕ) → IsBareTilde t i ⊎ (IsBareTilde t i → ⊥)
bare_or_not t i =
    ⊎_elim (λ within. ⊎_elim (λ tilde. ⊎_elim (λ e. inr (λ b. b.2 e)) (λ n. ⊎_elim (λ e. inr (λ b. b.3 e)) (λ m. inl (within, tilde, n, m)) (cases_eq (slice_index t (i + 1)) 49)) (cases_eq (slice_index t (i + 1)) 48))
    (λ n. inr (λ b. n b.1)) (cases_eq (slice_index t i) 126))
    (λ past. inr (λ b. absurd (omega arith))) (cases_lt i (length t))

abbrev IsFirstBare : List ℕ → ℕ → Type 0
IsFirstBare t i = IsBareTilde t i × ((k : ℕ) → k < i → IsBareTilde t k → ⊥)

abbrev NoneBelow : List ℕ → ℕ → Type 0
NoneBelow t n = (k : ℕ) → k < n → IsBareTilde t k → ⊥

none_more : (t : List ℕ) (n : ℕ) → NoneBelow t n → (IsBareTilde t n → ⊥) → NoneBelow t (suc n)
none_more t n below here k l b =
    ⊎_elim (λ e. here (subst (IsBareTilde t) e b)) (λ other. below k (omega (arith, other)) b) (cases_eq k n)

bare_below : (t : List ℕ) (n : ℕ) → ((i : ℕ) × IsFirstBare t i) ⊎ NoneBelow t n
bare_below t zero = inr (λ k l b. absurd (omega arith))
bare_below t (suc n) =
    ⊎_elim inl (λ below. ⊎_elim (λ b. inl (n, (b, below))) (λ here. inr (none_more t n below here)) (bare_or_not t n)) (bare_below t n)

begins_or_not : (t : List ℕ) → BeginsWell t ⊎ IsFault t NoLeadingSlash
begins_or_not [] = inl (λ l. absurd (omega arith))
begins_or_not (x ∷ t) = ⊎_elim (λ e. inl (λ l. e)) (λ n. inr (omega arith, n)) (cases_eq x 47)

first_bare_one : (t : List ℕ) (i j : ℕ) → IsFirstBare t i → IsFirstBare t j → i ≡ j
first_bare_one t i j f g =
    ⊎_elim (λ l. absurd (g.1 i l f.0)) (λ le. ⊎_elim (λ m. absurd (f.1 j m g.0)) (λ ge. omega (arith, le, ge)) (cases_lt j i)) (cases_lt i j)

-- ---- the laws

-- an encoded token is that of one token alone
pub encoded_once : (t u : List ℕ) → encoded t ≡ encoded u → t ≡ u
encoded_once t u e = sym (decoded_again t) ∙ ap decoded e ∙ decoded_again u

-- a text is one pointer's
pub one_pointer : (P Q : Pointer) → text_of P ≡ text_of Q → P ≡ Q
one_pointer P Q e = sym (tokens_of_text-text_of P) ∙ ap tokens_of_text e ∙ tokens_of_text-text_of Q

-- a pointer's text has no fault
pub pointer_has_no_fault : (P : Pointer) (e : ParseError) → ¬ IsFault (text_of P) e
pointer_has_no_fault P NoLeadingSlash f = f.1 (BeginsWell-from (text_of P) (Starts-text_of P) f.0)
pointer_has_no_fault P (InvalidEncoding i) f = Escaped-not_bare (text_of P) i (Escaped-text_of P) f.1

-- a text is a pointer's or has a fault
pub pointer_or_fault : (t : List ℕ) → IsPointerText t ⊎ ((e : ParseError) × IsFault t e)
pointer_or_fault t =
    ⊎_elim (λ well. ⊎_elim (λ found. inr (InvalidEncoding found.0, (well, found.1.0, found.1.1)))
    (λ none. inl (_, text_of-none t well none)) (bare_below t (length t)))
    (λ f. inr (NoLeadingSlash, f)) (begins_or_not t)

-- a text has one fault
pub one_fault : (t : List ℕ) (e f : ParseError) → IsFault t e → IsFault t f → e ≡ f
one_fault t NoLeadingSlash NoLeadingSlash h g = refl
one_fault t NoLeadingSlash (InvalidEncoding j) h g = absurd (h.1 (g.0 h.0))
one_fault t (InvalidEncoding i) NoLeadingSlash h g = absurd (g.1 (h.0 g.0))
one_fault t (InvalidEncoding i) (InvalidEncoding j) h g = ap InvalidEncoding (first_bare_one t i j (h.1, h.2) (g.1, g.2))
