-- Where tokens lead, from one value to the next.
use Rattle.std.proofs.Common.{◌≡◌, ℕ, zero, suc, ◌+◌, ◌-◌, ◌<◌, ◌≤◌, ◌^◌, true, false, List, [], ◌∷◌, ◌++◌, length, take, drop, get_or, Option, Some, None, option_and_then, refl, sym, ap, ◌∙◌, subst, arith, append_assoc, append-nil}
use Rattle.std.proofs.lemmas.List.{get_or_default}
use Rattle.std.proofs.lemmas.Option.{none-some, same_Some}
use Rattle.std.specs.Prelude.{MatchOption, option_map}
use Rattle.json.specs.Json.{Json, null, boolean, number, string, array, object, Items, Members}
use Rattle.json.specs.Find.{get_item}
use Rattle.json.specs.Word.{is_space}
use Rattle.json.specs.Lex.{Lexeme, token, comma, colon}
use Rattle.jsonptr.specs.Indexes.{IsNoIndexText}
use Rattle.jsonptr.specs.PlaceLaws.{next_is_no_place}
use Rattle.jsonptr.specs.Places.{place_of, next_token}
use Rattle.jsonptr.specs.Text.{Pointer}
use Rattle.json_lexemes.specs.Found.{Placed, ReachesNamed, ReachesNumbered, Stands, named, numbered}
use Rattle.json_lexemes.specs.Places.{left_at}
use Rattle.json_lexemes.specs.Skipped.{skip}
use Rattle.json_lexemes.specs.Spelled.{spelled, first_elements, more_elements, first_members, Says}
use Rattle.json_lexemes.specs.declared.span.Span.{Span}
use Rattle.json_lexemes.specs.declared.span.Next.{Next}
use Rattle.json_lexemes.specs.declared.span.Next.TheVariants.{Value, End}
use Rattle.json_lexemes.proofs.Counted.{element_below}
use Rattle.json_lexemes.proofs.FirstBytes.{kind, byte_by_kind}
use Rattle.json_lexemes.proofs.Skipping.{skip-value}
use Rattle.json_lexemes.proofs.Steps.{follows}
use Rattle.json_text.specs.Pointed.{child, if_some, put_at, put_child, put_element, tree_at, StandsBetween}
use Rattle.json_text.specs.Rows.{slice}
use Rattle.json_text.specs.Ways.{AreOpen, IsPlace, ReachesElement, child_placed, placed}
use Rattle.json_text.proofs.Along.{put_step}
use Rattle.json_text.proofs.Around.{Around, element_around, element_follows, member_around, member_follows, named_is, numbered_is}
use Rattle.json_text.proofs.Stretches.{stretch}
use Rattle.json_text.proofs.Tokens.{array_here, object_here}

-- ---- one token

element_is : (o : Option ℕ) (js : Items) → option_map (λ p. p.0) (option_and_then (λ n. numbered n js) o) ≡ option_and_then (λ n. get_item n js) o
element_is None js = refl
element_is (Some n) js = numbered_is n js

pub child_is : (t : List ℕ) (v : Json) → option_map (λ p. p.0) (child_placed t v) ≡ child t v
child_is t null = refl
child_is t (boolean b) = refl
child_is t (number s) = refl
child_is t (string s) = refl
child_is t (array js) = element_is (place_of t) js
child_is t (object ms) = named_is t ms

-- what is spelled around a child
record IsChild (t : List ℕ) (v : Json) (c : Placed) : Type 0 where
  around : Around c.0 c.1 (spelled v) (λ w. spelled (put_child t w v))
  followed : follows c.1 ≡ true

element_placed : (t : List ℕ) (js : Items) (c : Placed) (o : Option ℕ) → place_of t ≡ o → option_and_then (λ n. numbered n js) o ≡ Some c → IsChild t (array js) c
element_placed t js c None e h = absurd (none-some c h)
element_placed t js c (Some n) e h = record {
  around = subst (λ m. Around c.0 c.1 (spelled (array js)) (λ w. spelled (array (if_some m (λ k. put_element k w js) js)))) (sym e) (element_around n js c.0 c.1 h);
  followed = element_follows n js c.0 c.1 h;
}

is_child : (t : List ℕ) (v : Json) (c : Placed) → child_placed t v ≡ Some c → IsChild t v c
is_child t null c h = absurd (none-some c h)
is_child t (boolean b) c h = absurd (none-some c h)
is_child t (number s) c h = absurd (none-some c h)
is_child t (string s) c h = absurd (none-some c h)
is_child t (array js) c h = element_placed t js c (place_of t) refl h
is_child t (object ms) c h = record { around = member_around t ms c.0 c.1 h; followed = member_follows t ms c.0 c.1 h }

-- ---- all tokens

-- what is known of the value to which tokens lead
record IsLed (P : Pointer) (v : Json) (ls : List Lexeme) (p : Placed) : Type 0 where
  leads : tree_at P v ≡ Some p.0
  around : Around p.0 p.1 (spelled v ++ ls) (λ w. spelled (put_at P w v) ++ ls)
  followed : follows ls ≡ true → follows p.1 ≡ true

follows-append : (cs ls : List Lexeme) → follows cs ≡ true → follows ls ≡ true → follows (cs ++ ls) ≡ true
follows-append [] ls c l = l
follows-append (token k ∷ cs) ls c l = c
follows-append (comma ∷ cs) ls c l = c
follows-append (colon ∷ cs) ls c l = c

joined : (a m b ls : List Lexeme) → (a ++ (m ++ b)) ++ ls ≡ a ++ (m ++ (b ++ ls))
joined a m b ls = append_assoc a (m ++ b) ls ∙ ap (λ l. a ++ l) (append_assoc m b ls)

within_child : (t : List ℕ) (P : Pointer) (v : Json) (ls : List Lexeme) (c p : Placed) → child_placed t v ≡ Some c → IsLed P c.0 (c.1 ++ ls) p → IsLed (t ∷ P) v ls p
within_child t P v ls c p h r =
    let k = is_child t v c h in
    let there : child t v ≡ Some c.0 = sym (child_is t v) ∙ ap (option_map (λ p. p.0)) h in
    let a = k.around.before in
    let b = r.around.before in
    record {
      leads = ap (option_and_then (tree_at P)) there ∙ r.leads;
      around = record {
        before = a ++ b;
        is = ap (λ l. l ++ ls) k.around.is ∙ joined a (spelled c.0) c.1 ls ∙ ap (λ l. a ++ l) r.around.is ∙ sym (append_assoc a b (spelled p.0 ++ p.1));
        there = λ w.
            ap (λ x. spelled x ++ ls) (put_step t P w v c.0 there) ∙ ap (λ l. l ++ ls) (k.around.there (put_at P w c.0)) ∙ joined a (spelled (put_at P w c.0)) c.1 ls
            ∙ ap (λ l. a ++ l) (r.around.there w) ∙ sym (append_assoc a b (spelled w ++ p.1));
      };
      followed = λ f. r.followed (follows-append c.1 ls k.followed f);
    }

at_root : (v : Json) (ls : List Lexeme) → IsLed [] v ls (v, ls)
at_root v ls = record { leads = refl; around = record { before = []; is = refl; there = λ w. refl }; followed = λ f. f }

led_by : (t : List ℕ) (P : Pointer) (v : Json) (ls : List Lexeme) (p : Placed) → ((c : Placed) → placed P c.0 (c.1 ++ ls) ≡ Some p → IsLed P c.0 (c.1 ++ ls) p)
    → (o : Option Placed) → child_placed t v ≡ o → option_and_then (λ c. placed P c.0 (c.1 ++ ls)) o ≡ Some p → IsLed (t ∷ P) v ls p
led_by t P v ls p f None h e = absurd (none-some p e)
led_by t P v ls p f (Some c) h e = within_child t P v ls c p h (f c e)

is_led : (P : Pointer) (v : Json) (ls : List Lexeme) (p : Placed) → placed P v ls ≡ Some p → IsLed P v ls p
is_led [] v ls p e = subst (IsLed [] v ls) (same_Some (v, ls) p e) (at_root v ls)
is_led (t ∷ P) v ls p e = led_by t P v ls p (λ c f. is_led P c.0 (c.1 ++ ls) p f) (child_placed t v) refl e

nowhere_by : (t : List ℕ) (P : Pointer) (v : Json) (ls : List Lexeme) → ((c : Placed) → placed P c.0 (c.1 ++ ls) ≡ None → tree_at P c.0 ≡ None)
    → (o : Option Placed) → child_placed t v ≡ o → option_and_then (λ c. placed P c.0 (c.1 ++ ls)) o ≡ None → tree_at (t ∷ P) v ≡ None
nowhere_by t P v ls f None h e = ap (option_and_then (tree_at P)) (sym (child_is t v) ∙ ap (option_map (λ p. p.0)) h)
nowhere_by t P v ls f (Some c) h e = ap (option_and_then (tree_at P)) (sym (child_is t v) ∙ ap (option_map (λ p. p.0)) h) ∙ f c e

leads_nowhere : (P : Pointer) (v : Json) (ls : List Lexeme) → placed P v ls ≡ None → tree_at P v ≡ None
leads_nowhere [] v ls e = absurd (none-some (v, ls) (sym e))
leads_nowhere (t ∷ P) v ls e = nowhere_by t P v ls (λ c f. leads_nowhere P c.0 (c.1 ++ ls) f) (child_placed t v) refl e

-- the stretch of what is found
pub stands_between : (text : List ℕ) (j : Json) (P : Pointer) (r : Option Span) → Says text j → Stands text r (placed P j []) → IsPlace text r
    → MatchOption r (tree_at P j ≡ None) (λ s. StandsBetween (take s.start text) (slice text s.start s.end) (drop s.end text) j P)
stands_between text j P r says stands place = by_placed r (placed P j []) refl stands place
  where
    by_placed : (r : Option Span) (o : Option Placed) → placed P j [] ≡ o → Stands text r o → IsPlace text r → MatchOption r (tree_at P j ≡ None) (λ s. StandsBetween (take s.start text) (slice text s.start s.end) (drop s.end text) j P)
    by_placed None None e s c = leads_nowhere P j [] e
    by_placed None (Some p) e s c = absurd s
    by_placed (Some q) None e s c = absurd s
    by_placed (Some q) (Some p) e s c =
        let l = is_led P j [] p e in
        let around : Around p.0 p.1 (spelled j) (λ w. spelled (put_at P w j)) = record {
          before = l.around.before;
          is = sym (append-nil (spelled j)) ∙ l.around.is;
          there = λ w. sym (append-nil (spelled (put_at P w j))) ∙ l.around.there w;
        } in
        (p.0, l.leads, stretch text j p.0 p.1 (λ w. put_at P w j) q says around (l.followed refl) s.0 s.1 c.0 c.1.order c.1.fits)

-- ---- an element

ended : (t : List ℕ) (i e : ℕ) (v : Json) (ls : List Lexeme) → left_at t i ≡ spelled v ++ ls → left_at t e ≡ skip 0 (left_at t i) → left_at t e ≡ ls
ended t i e v ls at s = s ∙ ap (skip 0) at ∙ skip-value v ls

-- what is neither an object nor an array has none
pub no_element : (t k : List ℕ) (i e : ℕ) (v : Json) (ls : List Lexeme) → (i < length t → is_space (get_or t i 0) ≡ false) → (get_or t i 32 ≡ 123 → ⊥) → (get_or t i 32 ≡ 91 → ⊥) → left_at t e ≡ skip 0 (left_at t i) → left_at t i ≡ spelled v ++ ls → ReachesElement t (End e) k v ls
no_element t k i e v ls s n m z at = (by_value v at, ended t i e v ls at z)
  where
    by_value : (v : Json) → left_at t i ≡ spelled v ++ ls → child_placed k v ≡ None
    by_value null at = refl
    by_value (boolean b) at = refl
    by_value (number x) at = refl
    by_value (string x) at = refl
    by_value (array js) at = let b = byte_by_kind t i 91 s (ap kind at) (λ z. absurd (omega (arith, z))) in absurd (m (get_or_default t i 32 0 b.0 ∙ b.1))
    by_value (object ms) at = let b = byte_by_kind t i 123 s (ap kind at) (λ z. absurd (omega (arith, z))) in absurd (n (get_or_default t i 32 0 b.0 ∙ b.1))

numbered_element : (t k : List ℕ) (n : ℕ) (r : Next) (js : Items) (ls : List Lexeme) → place_of k ≡ Some n → ReachesNumbered t r n js ls → ReachesElement t r k (array js) ls
numbered_element t k n (Value i) js ls e (j, more, is, at) = (j, more, ap (option_and_then (λ n. numbered n js)) e ∙ is, at)
numbered_element t k n (End i) js ls e (is, at) = (ap (option_and_then (λ n. numbered n js)) e ∙ is, at)

pub element_reached : (t k : List ℕ) (n i : ℕ) (r : Next) (v : Json) (ls : List Lexeme) → i < length t → get_or t i 32 ≡ 91 → place_of k ≡ Some n → ((js : Items) (ls : List Lexeme) → left_at t (i + 1) ≡ first_elements js ++ ls → ReachesNumbered t r n js ls)
    → left_at t i ≡ spelled v ++ ls → ReachesElement t r k v ls
element_reached t k n i r v ls h b e f at =
    let (js, is, inside) = array_here t i v ls h b at in
    subst (λ v. ReachesElement t r k v ls) (sym is) (numbered_element t k n r js ls e (f js ls inside))

pub next_is_none : (t k : List ℕ) (i e : ℕ) (v : Json) (ls : List Lexeme) → i < length t → get_or t i 32 ≡ 91 → k ≡ next_token → left_at t e ≡ skip 0 (left_at t i) → left_at t i ≡ spelled v ++ ls → ReachesElement t (End e) k v ls
next_is_none t k i e v ls h b n z at =
    let (js, is, inside) = array_here t i v ls h b at in
    (ap (child_placed k) is ∙ ap (option_and_then (λ n. numbered n js)) (ap place_of n ∙ next_is_no_place), ended t i e v ls at z)

pub no_index_none : (t k : List ℕ) (i e : ℕ) (v : Json) (ls : List Lexeme) → i < length t → get_or t i 32 ≡ 91 → length t < 2 ^ 64 → IsNoIndexText k → left_at t e ≡ skip 0 (left_at t i) → left_at t i ≡ spelled v ++ ls → ReachesElement t (End e) k v ls
no_index_none t k i e v ls h b size n z at =
    let (js, is, inside) = array_here t i v ls h b at in
    (ap (child_placed k) is ∙ by_place js (subst (λ x. left_at t i ≡ spelled x ++ ls) is at) (place_of k) n.past, ended t i e v ls at z)
  where
    by_element : (js : Items) → left_at t i ≡ spelled (array js) ++ ls → (m : ℕ) (o : Option Placed) → numbered m js ≡ o → 2 ^ 64 ≤ m → numbered m js ≡ None
    by_element js at m None f past = f
    by_element js at m (Some p) f past = absurd (omega (arith, element_below t i m js p.0 ls at (sym (numbered_is m js) ∙ ap (option_map (λ p. p.0)) f), size, past))

    by_place : (js : Items) → left_at t i ≡ spelled (array js) ++ ls → (m : Option ℕ) → ((i : ℕ) → m ≡ Some i → 2 ^ 64 ≤ i) → option_and_then (λ n. numbered n js) m ≡ None
    by_place js at None past = refl
    by_place js at (Some m) past = by_element js at m (numbered m js) refl (past m refl)

-- ---- open arrays

-- the innermost is closed first
pub closes_one : (n : ℕ) (now ls : List Lexeme) → AreOpen (suc n) now ls → (js : Items) × (behind : List Lexeme) × (now ≡ more_elements js ++ behind) × AreOpen n behind ls
closes_one zero now ls (js, e) = (js, ls, e, refl)
closes_one (suc n) now ls (js, h) = let (ks, behind, e, g) = closes_one n now (more_elements js ++ ls) h in (ks, behind, e, (js, g))

pub close_next : (t : List ℕ) (n i e : ℕ) (ls : List Lexeme) → 0 < n → ((js : Items) (xs : List Lexeme) → left_at t i ≡ more_elements js ++ xs → left_at t e ≡ xs) → AreOpen n (left_at t i) ls → AreOpen (n - 1) (left_at t e) ls
close_next t zero i e ls h f g = absurd (omega (arith, h))
close_next t (suc n) i e ls h f g =
    let (js, behind, is, rest) = closes_one n (left_at t i) ls g in
    let same : n ≡ suc n - 1 = omega arith in
    subst (λ m. AreOpen m (left_at t e) ls) same (subst (λ x. AreOpen n x ls) (sym (f js behind is)) rest)

-- ---- from a value on

pub led_itself : (t : List ℕ) (P : Pointer) (v : Json) (ls : List Lexeme) (s : Span) (i : ℕ) → P ≡ [] → s.start ≡ i → left_at t i ≡ spelled v ++ ls → left_at t s.end ≡ skip 0 (left_at t i) → Stands t (Some s) (placed P v ls) × (left_at t s.end ≡ ls)
led_itself t P v ls s i p b at e =
    let end : left_at t s.end ≡ ls = ended t i s.end v ls at e in
    subst (λ Q. Stands t (Some s) (placed Q v ls) × (left_at t s.end ≡ ls)) (sym p) ((ap (left_at t) b ∙ at, end), end)

-- ---- from a member of the name to the next

-- of the members ms, with ls behind the object, the next of this name is reached; where none is left, the tokens lead from the last to what was found
abbrev pub AreTurned : List ℕ → List ℕ → Pointer → Members → List Lexeme → Option Span → Next → Type 0
AreTurned t k Q ms ls found (Value i) = ReachesNamed t (Value i) k ms ls
AreTurned t k Q ms ls found (End i) = Stands t found (option_and_then (λ c. placed Q c.0 (c.1 ++ ls)) (named k ms)) × (left_at t i ≡ ls)

pub led_last : (t k : List ℕ) (P Q : Pointer) (v : Json) (ls : List Lexeme) (i e : ℕ) (found : Option Span) (now : Next) → P ≡ k ∷ Q → i < length t → get_or t i 32 ≡ 123 → now ≡ End e
    → ((ms : Members) (ls : List Lexeme) → left_at t (i + 1) ≡ first_members ms ++ ls → AreTurned t k Q ms ls found now) → left_at t i ≡ spelled v ++ ls → Stands t found (placed P v ls) × (left_at t e ≡ ls)
led_last t k P Q v ls i e found now p h b is f at =
    let (ms, is_object, inside) = object_here t i v ls h b at in
    let (stands, end) = subst (AreTurned t k Q ms ls found) is (f ms ls inside) in
    (subst (λ o. Stands t found o) (sym (ap (λ T. placed T v ls) p ∙ ap (λ x. placed (k ∷ Q) x ls) is_object)) stands, end)

-- how much is left
abbrev pub left_of : List ℕ → Next → ℕ
left_of t (Value i) = suc (length t - i)
left_of t (End i) = 0
