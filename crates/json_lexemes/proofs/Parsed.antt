-- What the kit's grammar reads are the tokens of the value, and then what is left.
use Rattle.std.proofs.lemmas.Bool.{false≢true}
use Rattle.std.proofs.Common.{◌≡◌, ℕ, zero, suc, Bool, true, false, List, [], ◌∷◌, ◌++◌, length, Option, Some, None, option_and_then, refl, sym, ap, ◌∙◌, subst, append_assoc, append-nil}
use Rattle.std.specs.Prelude.{⊤}
use Rattle.json.specs.Json.{Json, null, boolean, number, string, array, object, Items, no_items, item, Members, no_members, member, Parse, parse_map, after_end_array, read_key, items_step, members_step, items, members, value_with, value, if_last, max_depth, document}
use Rattle.json.specs.Token as t
use Rattle.json.specs.Lex.{fresh, between, lex, tokens}
use Rattle.json.specs.Tree.{json_tokens, items_tokens, members_tokens}
use Rattle.json.proofs.Grammar.{closed_array, read_key_is}
use Rattle.json_lexemes.specs.Spelled.{spelled, Says}
use Rattle.json_lexemes.proofs.Respelled.{AreGood, respell, punctuate-back, respell-json}

abbrev IfRead : {A : Type 0} → Option A → (A → Type 0) → Type 0
IfRead None P = ⊤
IfRead (Some a) P = P a

abbrev Gives : Parse Json → Type 0
Gives p = (ts : List t.Token) → IfRead (p ts) (λ q. ts ≡ json_tokens q.0 ++ q.1)

abbrev GivesElements : Parse Items → Type 0
GivesElements p = (ts : List t.Token) → IfRead (p ts) (λ q. ts ≡ items_tokens q.0 ++ q.1)

abbrev GivesMembers : Parse Members → Type 0
GivesMembers p = (ts : List t.Token) → IfRead (p ts) (λ q. ts ≡ members_tokens q.0 ++ q.1)

one_element : (ts : List t.Token) (more : Parse Items) (o : Option (Json × List t.Token)) → IfRead o (λ q. ts ≡ json_tokens q.0 ++ q.1) → GivesElements more
    → IfRead (option_and_then (λ q. parse_map (item q.0) (more q.1)) o) (λ q. ts ≡ items_tokens q.0 ++ q.1)
one_element ts more None h m = tt
one_element ts more (Some q) h m = go (more q.1) (m q.1)
  where
    go : (r : Option (Items × List t.Token)) → IfRead r (λ s. q.1 ≡ items_tokens s.0 ++ s.1) → IfRead (parse_map (item q.0) r) (λ s. ts ≡ items_tokens s.0 ++ s.1)
    go None k = tt
    go (Some s) k = h ∙ ap (λ l. json_tokens q.0 ++ l) k ∙ sym (append_assoc (json_tokens q.0) (items_tokens s.0) s.1)

elements_turn : (p : Parse Json) (more : Parse Items) (ts : List t.Token) (o : Option (List t.Token)) → after_end_array ts ≡ o → Gives p → GivesElements more
    → IfRead (items_step p more ts o) (λ q. ts ≡ items_tokens q.0 ++ q.1)
elements_turn p more ts None e g m = one_element ts more (p ts) (g ts) m
elements_turn p more ts (Some rest) e g m = closed_array ts rest e

elements_give : (p : Parse Json) → Gives p → (n : ℕ) → GivesElements (items p n)
unfolding items
elements_give p g zero ts = tt
elements_give p g (suc n) ts = elements_turn p (items p n) ts (after_end_array ts) refl g (elements_give p g n)

one_member : (k : List ℕ) (ts : List t.Token) (more : Parse Members) (o : Option (Json × List t.Token)) → IfRead o (λ q. ts ≡ json_tokens q.0 ++ q.1) → GivesMembers more
    → IfRead (option_and_then (λ q. parse_map (member k q.0) (more q.1)) o) (λ q. t.key k ∷ ts ≡ members_tokens q.0 ++ q.1)
one_member k ts more None h m = tt
one_member k ts more (Some q) h m = go (more q.1) (m q.1)
  where
    go : (r : Option (Members × List t.Token)) → IfRead r (λ s. q.1 ≡ members_tokens s.0 ++ s.1) → IfRead (parse_map (member k q.0) r) (λ s. t.key k ∷ ts ≡ members_tokens s.0 ++ s.1)
    go None i = tt
    go (Some s) i = ap (λ l. t.key k ∷ l) (h ∙ ap (λ l. json_tokens q.0 ++ l) i ∙ sym (append_assoc (json_tokens q.0) (members_tokens s.0) s.1))

members_turn : (p : Parse Json) (more : Parse Members) (ts : List t.Token) (o : Option (Option (List ℕ) × List t.Token)) → read_key ts ≡ o → Gives p → GivesMembers more
    → IfRead (option_and_then (λ q. members_step p more q.0 q.1) o) (λ q. ts ≡ members_tokens q.0 ++ q.1)
members_turn p more ts None e g m = tt
members_turn p more ts (Some (None, rest)) e g m = read_key_is ts None rest e
members_turn p more ts (Some (Some k, rest)) e g m =
    subst (λ us. IfRead (members_step p more (Some k) rest) (λ q. us ≡ members_tokens q.0 ++ q.1)) (sym (read_key_is ts (Some k) rest e)) (one_member k rest more (p rest) (g rest) m)

members_give : (p : Parse Json) → Gives p → (n : ℕ) → GivesMembers (members p n)
unfolding members
members_give p g zero ts = tt
members_give p g (suc n) ts = members_turn p (members p n) ts (read_key ts) refl g (members_give p g n)

in_array : (ts : List t.Token) (o : Option (Items × List t.Token)) → IfRead o (λ q. ts ≡ items_tokens q.0 ++ q.1) → IfRead (parse_map array o) (λ q. t.begin_array ∷ ts ≡ json_tokens q.0 ++ q.1)
in_array ts None h = tt
in_array ts (Some q) h = ap (λ l. t.begin_array ∷ l) h

in_object : (ts : List t.Token) (o : Option (Members × List t.Token)) → IfRead o (λ q. ts ≡ members_tokens q.0 ++ q.1) → IfRead (parse_map object o) (λ q. t.begin_object ∷ ts ≡ json_tokens q.0 ++ q.1)
in_object ts None h = tt
in_object ts (Some q) h = ap (λ l. t.begin_object ∷ l) h

gives_with : (a : Parse Items) (o : Parse Members) → GivesElements a → GivesMembers o → Gives (value_with a o)
gives_with a o f g [] = tt
gives_with a o f g (t.begin_object ∷ ts) = in_object ts (o ts) (g ts)
gives_with a o f g (t.end_object ∷ ts) = tt
gives_with a o f g (t.begin_array ∷ ts) = in_array ts (a ts) (f ts)
gives_with a o f g (t.end_array ∷ ts) = tt
gives_with a o f g (t.key s ∷ ts) = tt
gives_with a o f g (t.string s ∷ ts) = refl
gives_with a o f g (t.number s ∷ ts) = refl
gives_with a o f g (t.boolean b ∷ ts) = refl
gives_with a o f g (t.null ∷ ts) = refl
gives_with a o f g (t.bad ∷ ts) = tt

pub value_gives : (d : ℕ) → Gives (value d)
unfolding value
value_gives zero = gives_with (λ ts. None) (λ ts. None) (λ ts. tt) (λ ts. tt)
value_gives (suc d) = gives_with (λ ts. items (value d) (length ts) ts) (λ ts. members (value d) (length ts) ts) (λ ts. elements_give (value d) (value_gives d) (length ts) ts) (λ ts. members_give (value d) (value_gives d) (length ts) ts)

-- ---- the whole text

abbrev is_some : Option Json → Bool
is_some None = false
is_some (Some j) = true

no_some : {v : Json} → None ≡ Some v → ⊥
no_some e = false≢true (ap is_some e)

abbrev or_null : Option Json → Json
or_null None = null
or_null (Some j) = j

AreGood-append : (ts us : List t.Token) → AreGood ts → AreGood us → AreGood (ts ++ us)
AreGood-append [] us g h = h
AreGood-append (t ∷ ts) us g h = (g.0, AreGood-append ts us g.1 h)

mutual
  good_tokens : (j : Json) → AreGood (json_tokens j)
  good_tokens null = (tt, tt)
  good_tokens (boolean b) = (tt, tt)
  good_tokens (number s) = (tt, tt)
  good_tokens (string s) = (tt, tt)
  good_tokens (array js) = (tt, good_elements js)
  good_tokens (object ms) = (tt, good_members ms)

  good_elements : (js : Items) → AreGood (items_tokens js)
  good_elements no_items = (tt, tt)
  good_elements (item j js) = AreGood-append (json_tokens j) _ (good_tokens j) (good_elements js)

  good_members : (ms : Members) → AreGood (members_tokens ms)
  good_members no_members = (tt, tt)
  good_members (member k j ms) = (tt, AreGood-append (json_tokens j) _ (good_tokens j) (good_members ms))

says_tokens : (text : List ℕ) (j : Json) → tokens text ≡ json_tokens j → Says text j
says_tokens text j e =
    punctuate-back fresh (lex between text) (subst AreGood (sym e) (good_tokens j)) ∙ ap (respell false) (e ∙ sym (append-nil (json_tokens j))) ∙ respell-json j [] ∙ append-nil (spelled j)

whole : (text : List ℕ) (o : Option (Json × List t.Token)) (j : Json) → IfRead o (λ q. tokens text ≡ json_tokens q.0 ++ q.1) → option_and_then (λ p. if_last p.0 p.1) o ≡ Some j → tokens text ≡ json_tokens j
whole text None j h e = absurd (no_some e)
whole text (Some (i, [])) j h e = h ∙ append-nil (json_tokens i) ∙ ap json_tokens (ap or_null e)
whole text (Some (i, u ∷ us)) j h e = absurd (no_some e)

-- what the kit's reader accepts is spelled so
pub Says-document : (text : List ℕ) (j : Json) → document text ≡ Some j → Says text j
Says-document text j e = says_tokens text j (whole text (value max_depth (tokens text)) j (value_gives max_depth (tokens text)) e)
