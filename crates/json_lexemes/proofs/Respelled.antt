-- What a text says by the kit's grammar, it says by its lexemes.
use Rattle.std.proofs.Common.{◌≡◌, ℕ, Bool, true, false, cond, ◌&&◌, List, [], ◌∷◌, ◌++◌, refl, sym, ap, ◌∙◌, append_assoc}
use Rattle.std.specs.Prelude.{⊤}
use Rattle.json.specs.Json.{Json, null, boolean, number, string, array, object, Items, no_items, item, Members, no_members, member}
use Rattle.json.specs.Token as t
use Rattle.json.specs.Print.{begins, ends}
use Rattle.json.specs.Lex.{Lexeme, token, comma, colon, Place, fresh, after_value, after_comma, after_key, begins_colon, place_token, punctuate}
use Rattle.json.specs.Tree.{json_tokens, items_tokens, members_tokens}
use Rattle.json_lexemes.specs.Spelled.{spelled, first_elements, more_elements, first_members, more_members}

abbrev pub IsGood : t.Token → Type 0
IsGood t.begin_object = ⊤
IsGood t.end_object = ⊤
IsGood t.begin_array = ⊤
IsGood t.end_array = ⊤
IsGood (t.key s) = ⊤
IsGood (t.string s) = ⊤
IsGood (t.number s) = ⊤
IsGood (t.boolean b) = ⊤
IsGood t.null = ⊤
IsGood t.bad = ⊥

abbrev pub AreGood : List t.Token → Type 0
AreGood [] = ⊤
AreGood (t ∷ ts) = IsGood t × AreGood ts

abbrev pub token_lexemes : t.Token → List Lexeme
token_lexemes t.begin_object = token t.begin_object ∷ []
token_lexemes t.end_object = token t.end_object ∷ []
token_lexemes t.begin_array = token t.begin_array ∷ []
token_lexemes t.end_array = token t.end_array ∷ []
token_lexemes (t.key s) = token (t.string s) ∷ colon ∷ []
token_lexemes (t.string s) = token (t.string s) ∷ []
token_lexemes (t.number s) = token (t.number s) ∷ []
token_lexemes (t.boolean b) = token (t.boolean b) ∷ []
token_lexemes t.null = token t.null ∷ []
token_lexemes t.bad = []

-- the lexemes of tokens, after a value or not
abbrev pub respell : Bool → List t.Token → List Lexeme
respell c [] = []
respell c (t ∷ ts) = cond (c && begins t) (comma ∷ []) [] ++ (token_lexemes t ++ respell (ends t) ts)

-- what stands before the lexemes at a place, and after what
abbrev pub with_comma : Place → List Lexeme → List Lexeme
with_comma fresh ls = ls
with_comma after_value ls = ls
with_comma after_comma ls = comma ∷ ls
with_comma after_key ls = ls

abbrev pub again : Place → List t.Token → List Lexeme
again fresh ts = respell false ts
again after_value ts = respell true ts
again after_comma ts = respell true ts
again after_key ts = colon ∷ respell false ts

abbrev pub Back : Place → List Lexeme → Type 0
Back p ls = AreGood (punctuate p ls) → with_comma p ls ≡ again p (punctuate p ls)

string_back : (p : Place) (s : List ℕ) (ls : List Lexeme) (b : Bool) → Back after_key ls → Back after_value ls → AreGood (place_token p (t.string s) b (λ next. punctuate next ls))
    → with_comma p (token (t.string s) ∷ ls) ≡ again p (place_token p (t.string s) b (λ next. punctuate next ls))
string_back fresh s ls true k v g = ap (λ l. token (t.string s) ∷ l) (k g.1)
string_back fresh s ls false k v g = ap (λ l. token (t.string s) ∷ l) (v g.1)
string_back after_value s ls true k v g = absurd g.0
string_back after_value s ls false k v g = absurd g.0
string_back after_comma s ls true k v g = ap (λ l. comma ∷ token (t.string s) ∷ l) (k g.1)
string_back after_comma s ls false k v g = ap (λ l. comma ∷ token (t.string s) ∷ l) (v g.1)
string_back after_key s ls true k v g = absurd g.0
string_back after_key s ls false k v g = absurd g.0

pub punctuate-back : (p : Place) (ls : List Lexeme) → Back p ls
unfolding punctuate
punctuate-back fresh [] g = refl
punctuate-back fresh (token t.begin_object ∷ ls) g = ap (λ l. token t.begin_object ∷ l) (punctuate-back fresh ls g.1)
punctuate-back fresh (token t.end_object ∷ ls) g = ap (λ l. token t.end_object ∷ l) (punctuate-back after_value ls g.1)
punctuate-back fresh (token t.begin_array ∷ ls) g = ap (λ l. token t.begin_array ∷ l) (punctuate-back fresh ls g.1)
punctuate-back fresh (token t.end_array ∷ ls) g = ap (λ l. token t.end_array ∷ l) (punctuate-back after_value ls g.1)
punctuate-back fresh (token (t.key s) ∷ ls) g = absurd g.0
punctuate-back fresh (token (t.string s) ∷ ls) g = string_back fresh s ls (begins_colon ls) (punctuate-back after_key ls) (punctuate-back after_value ls) g
punctuate-back fresh (token (t.number s) ∷ ls) g = ap (λ l. token (t.number s) ∷ l) (punctuate-back after_value ls g.1)
punctuate-back fresh (token (t.boolean b) ∷ ls) g = ap (λ l. token (t.boolean b) ∷ l) (punctuate-back after_value ls g.1)
punctuate-back fresh (token t.null ∷ ls) g = ap (λ l. token t.null ∷ l) (punctuate-back after_value ls g.1)
punctuate-back fresh (token t.bad ∷ ls) g = absurd g.0
punctuate-back fresh (comma ∷ ls) g = absurd g.0
punctuate-back fresh (colon ∷ ls) g = absurd g.0
punctuate-back after_value [] g = refl
punctuate-back after_value (token t.begin_object ∷ ls) g = absurd g.0
punctuate-back after_value (token t.end_object ∷ ls) g = ap (λ l. token t.end_object ∷ l) (punctuate-back after_value ls g.1)
punctuate-back after_value (token t.begin_array ∷ ls) g = absurd g.0
punctuate-back after_value (token t.end_array ∷ ls) g = ap (λ l. token t.end_array ∷ l) (punctuate-back after_value ls g.1)
punctuate-back after_value (token (t.key s) ∷ ls) g = absurd g.0
punctuate-back after_value (token (t.string s) ∷ ls) g = string_back after_value s ls (begins_colon ls) (punctuate-back after_key ls) (punctuate-back after_value ls) g
punctuate-back after_value (token (t.number s) ∷ ls) g = absurd g.0
punctuate-back after_value (token (t.boolean b) ∷ ls) g = absurd g.0
punctuate-back after_value (token t.null ∷ ls) g = absurd g.0
punctuate-back after_value (token t.bad ∷ ls) g = absurd g.0
punctuate-back after_value (comma ∷ ls) g = punctuate-back after_comma ls g
punctuate-back after_value (colon ∷ ls) g = absurd g.0
punctuate-back after_comma [] g = absurd g.0
punctuate-back after_comma (token t.begin_object ∷ ls) g = ap (λ l. comma ∷ token t.begin_object ∷ l) (punctuate-back fresh ls g.1)
punctuate-back after_comma (token t.end_object ∷ ls) g = absurd g.0
punctuate-back after_comma (token t.begin_array ∷ ls) g = ap (λ l. comma ∷ token t.begin_array ∷ l) (punctuate-back fresh ls g.1)
punctuate-back after_comma (token t.end_array ∷ ls) g = absurd g.0
punctuate-back after_comma (token (t.key s) ∷ ls) g = absurd g.0
punctuate-back after_comma (token (t.string s) ∷ ls) g = string_back after_comma s ls (begins_colon ls) (punctuate-back after_key ls) (punctuate-back after_value ls) g
punctuate-back after_comma (token (t.number s) ∷ ls) g = ap (λ l. comma ∷ token (t.number s) ∷ l) (punctuate-back after_value ls g.1)
punctuate-back after_comma (token (t.boolean b) ∷ ls) g = ap (λ l. comma ∷ token (t.boolean b) ∷ l) (punctuate-back after_value ls g.1)
punctuate-back after_comma (token t.null ∷ ls) g = ap (λ l. comma ∷ token t.null ∷ l) (punctuate-back after_value ls g.1)
punctuate-back after_comma (token t.bad ∷ ls) g = absurd g.0
punctuate-back after_comma (comma ∷ ls) g = absurd g.0
punctuate-back after_comma (colon ∷ ls) g = absurd g.0
punctuate-back after_key [] g = absurd g.0
punctuate-back after_key (token t.begin_object ∷ ls) g = absurd g.0
punctuate-back after_key (token t.end_object ∷ ls) g = absurd g.0
punctuate-back after_key (token t.begin_array ∷ ls) g = absurd g.0
punctuate-back after_key (token t.end_array ∷ ls) g = absurd g.0
punctuate-back after_key (token (t.key s) ∷ ls) g = absurd g.0
punctuate-back after_key (token (t.string s) ∷ ls) g = string_back after_key s ls (begins_colon ls) (punctuate-back after_key ls) (punctuate-back after_value ls) g
punctuate-back after_key (token (t.number s) ∷ ls) g = absurd g.0
punctuate-back after_key (token (t.boolean b) ∷ ls) g = absurd g.0
punctuate-back after_key (token t.null ∷ ls) g = absurd g.0
punctuate-back after_key (token t.bad ∷ ls) g = absurd g.0
punctuate-back after_key (comma ∷ ls) g = absurd g.0
punctuate-back after_key (colon ∷ ls) g = ap (λ l. colon ∷ l) (punctuate-back fresh ls g)

-- ---- the tokens of a value spell it

join_spelled : (a b : List Lexeme) (x y : List t.Token) (c : Bool) (ts : List t.Token) → respell c (x ++ (y ++ ts)) ≡ a ++ respell true (y ++ ts) → respell true (y ++ ts) ≡ b ++ respell true ts
    → respell c ((x ++ y) ++ ts) ≡ (a ++ b) ++ respell true ts
join_spelled a b x y c ts d e = ap (respell c) (append_assoc x y ts) ∙ d ∙ ap (λ l. a ++ l) e ∙ sym (append_assoc a b _)

mutual
  pub respell-json : (j : Json) (ts : List t.Token) → respell false (json_tokens j ++ ts) ≡ spelled j ++ respell true ts
  respell-json null ts = refl
  respell-json (boolean b) ts = refl
  respell-json (number s) ts = refl
  respell-json (string s) ts = refl
  respell-json (array js) ts = ap (λ l. token t.begin_array ∷ l) (respell-first_elements js ts)
  respell-json (object ms) ts = ap (λ l. token t.begin_object ∷ l) (respell-first_members ms ts)

  -- after a value there is a comma more
  respell-next : (j : Json) (ts : List t.Token) → respell true (json_tokens j ++ ts) ≡ comma ∷ (spelled j ++ respell true ts)
  respell-next null ts = refl
  respell-next (boolean b) ts = refl
  respell-next (number s) ts = refl
  respell-next (string s) ts = refl
  respell-next (array js) ts = ap (λ l. comma ∷ token t.begin_array ∷ l) (respell-first_elements js ts)
  respell-next (object ms) ts = ap (λ l. comma ∷ token t.begin_object ∷ l) (respell-first_members ms ts)

  respell-first_elements : (js : Items) (ts : List t.Token) → respell false (items_tokens js ++ ts) ≡ first_elements js ++ respell true ts
  respell-first_elements no_items ts = refl
  respell-first_elements (item j js) ts = join_spelled (spelled j) (more_elements js) (json_tokens j) (items_tokens js) false ts (respell-json j (items_tokens js ++ ts)) (respell-more_elements js ts)

  respell-more_elements : (js : Items) (ts : List t.Token) → respell true (items_tokens js ++ ts) ≡ more_elements js ++ respell true ts
  respell-more_elements no_items ts = refl
  respell-more_elements (item j js) ts = join_spelled (comma ∷ spelled j) (more_elements js) (json_tokens j) (items_tokens js) true ts (respell-next j (items_tokens js ++ ts)) (respell-more_elements js ts)

  respell-first_members : (ms : Members) (ts : List t.Token) → respell false (members_tokens ms ++ ts) ≡ first_members ms ++ respell true ts
  respell-first_members no_members ts = refl
  respell-first_members (member k j ms) ts = ap (λ l. token (t.string k) ∷ colon ∷ l) (join_spelled (spelled j) (more_members ms) (json_tokens j) (members_tokens ms) false ts (respell-json j (members_tokens ms ++ ts)) (respell-more_members ms ts))

  respell-more_members : (ms : Members) (ts : List t.Token) → respell true (members_tokens ms ++ ts) ≡ more_members ms ++ respell true ts
  respell-more_members no_members ts = refl
  respell-more_members (member k j ms) ts = ap (λ l. comma ∷ token (t.string k) ∷ colon ∷ l) (join_spelled (spelled j) (more_members ms) (json_tokens j) (members_tokens ms) false ts (respell-json j (members_tokens ms ++ ts)) (respell-more_members ms ts))
