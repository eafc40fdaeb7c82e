-- The members of an object, from one to the next.
use Rattle.std.proofs.Common.{◌≡◌, ◌⊎◌, ℕ, ◌+◌, ◌<◌, Bool, true, false, cond, List, [], ◌∷◌, ◌++◌, length, drop, get_or, Option, Some, None, refl, sym, ap, ◌∙◌, inl, inr, arith, append_assoc}
use Rattle.std.proofs.lemmas.Bool.{false≢true, cases_Bool}
use Rattle.std.proofs.lemmas.List.{get_or_default}
use Rattle.std.proofs.lemmas.Slice.Eq.{bytes_eq-Decides}
use Rattle.std.proofs.lemmas.Option.{same_Some}
use Rattle.std.specs.Bool.{Decides}
use Rattle.std.specs.Str.{bytes_eq}
use Rattle.json.specs.Json.{Json, Members, no_members, member}
use Rattle.json.specs.Token as t
use Rattle.json.specs.Token.{end_object}
use Rattle.json.specs.Text.{content, plain}
use Rattle.json.specs.Word.{is_space}
use Rattle.json.specs.Lex.{Lexeme, token, comma, colon, string_token, between, in_string, lex}
use Rattle.json_lexemes.specs.Found.{Placed, ReachesNamed, named, or_else}
use Rattle.json_lexemes.specs.Places.{mode_at, left_at, Closes, IsEnd}
use Rattle.json_lexemes.specs.Skipped.{skip}
use Rattle.json_lexemes.specs.Spelled.{spelled, first_members, more_members}
use Rattle.json_lexemes.specs.declared.span.Next.TheVariants.{Value, End}
use Rattle.json_lexemes.proofs.FirstBytes.{kind, token_kind, string_kind, byte_by_kind}
use Rattle.json_lexemes.proofs.Skipping.{skip-value}
use Rattle.json_lexemes.proofs.Steps.{drop_step, string_has_end, quote_opens}

pub quote_left : (t : List ℕ) (i : ℕ) → i < length t → get_or t i 0 ≡ 34 → left_at t i ≡ token (string_token (content plain (drop (i + 1) t))) ∷ lex in_string (drop (i + 1) t)
unfolding lex
quote_left t i h e = ap (lex between) (drop_step t i h ∙ ap (λ x. x ∷ drop (i + 1) t) e)

abbrev tail : List Lexeme → List Lexeme
tail [] = []
tail (l ∷ ls) = ls

string_in : t.Token → Option (List ℕ)
string_in t.begin_object = None
string_in end_object = None
string_in t.begin_array = None
string_in t.end_array = None
string_in (t.key s) = None
string_in (t.string s) = Some s
string_in (t.number s) = None
string_in (t.boolean b) = None
string_in t.null = None
string_in t.bad = None

string_first : List Lexeme → Option (List ℕ)
string_first [] = None
string_first (token k ∷ ls) = string_in k
string_first (comma ∷ ls) = None
string_first (colon ∷ ls) = None

string_of : (o : Option (List ℕ)) → string_in (string_token o) ≡ o
unfolding string_in
string_of None = refl
string_of (Some s) = refl

-- what the string stands for, and what is behind it
pub same_string : (o : Option (List ℕ)) (l : List ℕ) (ls ms : List Lexeme) → token (string_token o) ∷ ls ≡ token (t.string l) ∷ ms → (o ≡ Some l) × (ls ≡ ms)
unfolding string_first string_in
same_string o l ls ms e = (sym (string_of o) ∙ ap string_first e, ap tail e)

pub no_end : (o : Option (List ℕ)) → token_kind (string_token o) ≡ 125 → ⊥
no_end o e = by_kind (string_kind o)
  where
    by_kind : (token_kind (string_token o) ≡ 0) ⊎ (token_kind (string_token o) ≡ 34) → ⊥
    by_kind (inl z) = absurd (omega (arith, z, e))
    by_kind (inr z) = absurd (omega (arith, z, e))

-- of the members ms those of rest are still ahead at i, and none before has this name
abbrev pub AreAhead : List ℕ → List ℕ → Members → List Lexeme → ℕ → Type 0
AreAhead t k ms ls i = (rest : Members) × (left_at t i ≡ first_members rest ++ ls) × (named k ms ≡ named k rest)

-- a member is the first of these, whose name stands for o and ends at end
pub record IsMember (t k : List ℕ) (ms : Members) (ls : List Lexeme) (o : Option (List ℕ)) (end : ℕ) : Type 0 where
  pub name : List ℕ
  pub value : Json
  pub more : Members
  pub says : o ≡ Some name
  pub left : left_at t end ≡ colon ∷ ((spelled value ++ more_members more) ++ ls)
  pub is : named k ms ≡ or_else (named k more) (cond (bytes_eq name k) (Some (value, more_members more)) None)

pub member_here : (t k : List ℕ) (ms : Members) (ls : List Lexeme) (i end : ℕ) → i < length t → get_or t i 32 ≡ 34 → left_at t end ≡ lex in_string (drop (i + 1) t) → AreAhead t k ms ls i → IsMember t k ms ls (content plain (drop (i + 1) t)) end
member_here t k ms ls i end h q z (rest, at, is) = by_rest rest at is
  where
    first : left_at t i ≡ token (string_token (content plain (drop (i + 1) t))) ∷ left_at t end
    first = quote_left t i h (get_or_default t i 0 32 h ∙ q) ∙ ap (λ l. token (string_token (content plain (drop (i + 1) t))) ∷ l) (sym z)

    by_rest : (r : Members) → left_at t i ≡ first_members r ++ ls → named k ms ≡ named k r → IsMember t k ms ls (content plain (drop (i + 1) t)) end
    by_rest no_members e f = absurd (no_end (content plain (drop (i + 1) t)) (sym (ap kind first) ∙ ap kind e))
    by_rest (member l j more) e f =
        let p = same_string (content plain (drop (i + 1) t)) l (left_at t end) (colon ∷ ((spelled j ++ more_members more) ++ ls)) (sym first ∙ e) in
        record { name = l; value = j; more = more; says = p.0; left = p.1; is = f }

-- its value
value_left : (t k : List ℕ) (ms : Members) (ls : List Lexeme) (o : Option (List ℕ)) (end start : ℕ) → left_at t end ≡ colon ∷ left_at t start → (m : IsMember t k ms ls o end) → left_at t start ≡ spelled m.value ++ (more_members m.more ++ ls)
value_left t k ms ls o end start c m = sym (ap tail c) ∙ ap tail m.left ∙ append_assoc (spelled m.value) (more_members m.more) ls

has_name : (k l : List ℕ) (b : Bool) (o : Option (List ℕ)) → Decides b (o ≡ Some k) → o ≡ Some l → bytes_eq l k ≡ b
has_name k l true o d e = (bytes_eq-Decides l k).1 (sym (same_Some k l (sym (d.0 refl) ∙ e)))
has_name k l false o d e = not_equal (cases_Bool (bytes_eq l k))
  where
    not_equal : (bytes_eq l k ≡ true) ⊎ (bytes_eq l k ≡ false) → bytes_eq l k ≡ false
    not_equal (inl y) = absurd (false≢true (d.1 (e ∙ ap Some ((bytes_eq-Decides l k).0 y))))
    not_equal (inr n) = n

pub has_colon : (t k : List ℕ) (ms : Members) (ls : List Lexeme) (o : Option (List ℕ)) (end : ℕ) → IsMember t k ms ls o end → ((xs : List Lexeme) → left_at t end ≡ colon ∷ xs → ⊥) → ⊥
has_colon t k ms ls o end m n = n _ m.left

pub named_here : (t k : List ℕ) (ms : Members) (ls : List Lexeme) (o : Option (List ℕ)) (end start : ℕ) (b : Bool) → b ≡ true → Decides b (o ≡ Some k) → left_at t end ≡ colon ∷ left_at t start → IsMember t k ms ls o end → ReachesNamed t (Value start) k ms ls
named_here t k ms ls o end start b y d c m =
    let same : bytes_eq m.name k ≡ true = has_name k m.name b o d m.says ∙ y in
    (m.value, m.more, m.is ∙ ap (λ b. or_else (named k m.more) (cond b (Some (m.value, more_members m.more)) None)) same, value_left t k ms ls o end start c m)

-- behind a member's value, when none so far has the name
pub record IsPassed (t k : List ℕ) (ms : Members) (ls : List Lexeme) (i : ℕ) : Type 0 where
  pub more : Members
  pub left : left_at t i ≡ more_members more ++ ls
  pub is : named k ms ≡ named k more

or_nothing : (a : Option Placed) → or_else a None ≡ a
or_nothing None = refl
or_nothing (Some p) = refl

pub passed_here : (t k : List ℕ) (ms : Members) (ls : List Lexeme) (o : Option (List ℕ)) (end start ve : ℕ) (b : Bool) → b ≡ false → Decides b (o ≡ Some k) → left_at t end ≡ colon ∷ left_at t start → left_at t ve ≡ skip 0 (left_at t start) → IsMember t k ms ls o end → IsPassed t k ms ls ve
passed_here t k ms ls o end start ve b n d c v m =
    let other : bytes_eq m.name k ≡ false = has_name k m.name b o d m.says ∙ n in
    record {
      more = m.more;
      left = v ∙ ap (skip 0) (value_left t k ms ls o end start c m) ∙ skip-value m.value (more_members m.more ++ ls);
      is = m.is ∙ ap (λ b. or_else (named k m.more) (cond b (Some (m.value, more_members m.more)) None)) other ∙ or_nothing (named k m.more);
    }

pub behind_comma : (t : List ℕ) (ms : Members) (ls : List Lexeme) (i next : ℕ) → left_at t i ≡ comma ∷ left_at t next → left_at t i ≡ more_members ms ++ ls → left_at t next ≡ first_members ms ++ ls
behind_comma t no_members ls i next c e = absurd (omega (arith, sym (ap kind c) ∙ ap kind e))
behind_comma t (member l j more) ls i next c e = ap tail (sym c ∙ e)

pub next_ahead : (t k : List ℕ) (ms : Members) (ls : List Lexeme) (ve next : ℕ) → IsPassed t k ms ls ve → left_at t ve ≡ comma ∷ left_at t next → AreAhead t k ms ls next
next_ahead t k ms ls ve next p c = (p.more, behind_comma t p.more ls ve next c p.left, p.is)

-- no comma: the object ends
pub last_passed : (t k : List ℕ) (ms : Members) (ls : List Lexeme) (ve e : ℕ) → IsPassed t k ms ls ve → ((xs : List Lexeme) → left_at t ve ≡ comma ∷ xs → ⊥) → ((xs : List Lexeme) → left_at t ve ≡ token end_object ∷ xs → left_at t e ≡ xs) → ReachesNamed t (End e) k ms ls
last_passed t k ms ls ve e p n b = by_more p.more p.left p.is
  where
    by_more : (m : Members) → left_at t ve ≡ more_members m ++ ls → named k ms ≡ named k m → ReachesNamed t (End e) k ms ls
    by_more no_members f g = (g, b ls f)
    by_more (member l j more) f g = absurd (n _ f)

-- no quote: it ends too
pub none_ahead : (t k : List ℕ) (ms : Members) (ls : List Lexeme) (i e : ℕ) → (i < length t → is_space (get_or t i 0) ≡ false) → (get_or t i 32 ≡ 34 → ⊥) → ((xs : List Lexeme) → left_at t i ≡ token end_object ∷ xs → left_at t e ≡ xs) → AreAhead t k ms ls i → ReachesNamed t (End e) k ms ls
none_ahead t k ms ls i e s n b (rest, at, is) = by_rest rest at is
  where
    by_rest : (r : Members) → left_at t i ≡ first_members r ++ ls → named k ms ≡ named k r → ReachesNamed t (End e) k ms ls
    by_rest no_members f g = (g, b ls f)
    by_rest (member l j more) f g = let b = byte_by_kind t i 34 s (ap kind f) (λ z. absurd (omega (arith, z))) in absurd (n (get_or_default t i 32 0 b.0 ∙ b.1))

pub string_ends : (t : List ℕ) (i end : ℕ) → i < length t → get_or t i 32 ≡ 34 → mode_at t i ≡ between → (mode_at t (i + 1) ≡ in_string → Closes t end) → IsEnd t end
string_ends t i end h q m s = (string_has_end t end (s (quote_opens t i h (get_or_default t i 0 32 h ∙ q) m))).0
