-- The string that a text says.
use Rattle.std.proofs.Common.{◌≡◌, ◌+◌, ◌-◌, ◌<◌, ℕ, Bool, true, List, [], ◌∷◌, ◌++◌, length, get_or, Option, Some, refl, sym, ap, ◌∙◌, subst, arith, length-append}
use Rattle.std.specs.Bool.{Decides}
use Rattle.std.proofs.lemmas.List.{get_or-append_right}
use Rattle.json.specs.Word.{is_space}
use Rattle.json.specs.Find.{as_str}
use Rattle.json.specs.Json.{Json, null, boolean, number, string, array, object, document}
use Rattle.json_lexemes.specs.Spelled.{Says}
use Rattle.json_lexemes.proofs.Nests.{one_tree, read_is}
use Rattle.json_text.specs.Listing.{IsTextOf, shape_of}
use Rattle.json_text.specs.Pointed.{IsTight}
use Rattle.json_text.specs.declared.listing.Shape.TheVariants.{String}
use Rattle.json_text.proofs.Rows.Shapes.{is_string}

-- what the reader finds in the text
pub read_there : (text : List ℕ) (i : Json) (found : Option (List ℕ)) → document text ≡ Some i → found ≡ as_str i → (j : Json) → Says text j → found ≡ as_str j
read_there text i found read is j says = is ∙ ap as_str (one_tree text i j ((read_is text i).0 read).0 says)

-- ---- between the quotes

quoted_tight : (s said : List ℕ) → s ≡ 34 ∷ (said ++ 34 ∷ []) → IsTight s
quoted_tight s said e = subst IsTight (sym e) (refl, ap is_space last)
  where
    count : length (said ++ 34 ∷ []) ≡ length said + 1
    count = length-append said (34 ∷ [])

    last : get_or (34 ∷ (said ++ 34 ∷ [])) (length (34 ∷ (said ++ 34 ∷ [])) - 1) 32 ≡ 34
    last =
        let none : length (34 ∷ (said ++ 34 ∷ [])) - 1 - length (34 ∷ said) ≡ 0 = omega (arith, count) in
        get_or-append_right (34 ∷ said) (34 ∷ []) (length (34 ∷ said)) (length (34 ∷ (said ++ 34 ∷ [])) - 1) 32 refl (omega (arith, count)) ∙ ap (λ n. get_or (34 ∷ []) n 32) none

by_shape : (said : List ℕ) (j : Json) → String ≡ shape_of j → ((l : List ℕ) → j ≡ string l → l ≡ said) → Some said ≡ as_str j
by_shape said (string l) e is = ap Some (sym (is l refl))
by_shape said null e is = cc
by_shape said (boolean b) e is = cc
by_shape said (number s) e is = cc
by_shape said (array js) e is = cc
by_shape said (object ms) e is = cc

pub between_quotes : (text rest said : List ℕ) (is : Bool) → text ≡ 34 ∷ rest → rest ≡ said ++ 34 ∷ [] → ((k : List ℕ) → IsTextOf text (string k) → Decides is (k ≡ said)) → is ≡ true → (j : Json) → Says text j → Some said ≡ as_str j
between_quotes text rest said is opens closes decides true_is j says =
    let whole : text ≡ 34 ∷ (said ++ 34 ∷ []) = opens ∙ ap (λ l. 34 ∷ l) closes in
    let some : 0 < length text = omega (arith, ap length whole) in
    by_shape said j (is_string text j 0 some (ap (λ l. get_or l 0 32) whole) refl says) (λ l e. (decides l (subst (Says text) e says, quoted_tight text said whole)).0 true_is)
