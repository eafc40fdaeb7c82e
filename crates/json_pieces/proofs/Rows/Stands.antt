-- Where the value of a piece stands in its row.
use Rattle.std.proofs.Common.{◌≡◌, ℕ, zero, suc, Bool, true, false, cond, List, [], ◌∷◌, ◌++◌, take, drop, Option, Some, None, refl, sym, ap, ap₂, ◌∙◌, subst, append_assoc}
use Rattle.std.proofs.lemmas.Option.{none-some, same_Some}
use Rattle.std.specs.Prelude.{option_map}
use Rattle.std.specs.Str.{bytes_eq}
use Rattle.json.specs.Find.{get_member}
use Rattle.json.specs.Json.{Json, array, object, item, member}
use Rattle.json.specs.Lex.{lex}
use Rattle.json_text.specs.Cuts.{AllSuit, IsWhitespace, Piece, Suits, opens, row_text}
use Rattle.json_lexemes.specs.Found.{or_else}
use Rattle.json_text.specs.Less.{IsNumberOf}
use Rattle.json_text.specs.Listing.{IsTextOf}
use Rattle.json_text.specs.Pointed.{if_some, put_child, put_element, put_member, IsStretch, StandsBetween}
use Rattle.json_text.specs.Rows.{Child, elements_in, last_named, members_in, tree_in}
use Rattle.json_lexemes.specs.Spelled.{Says}
use Rattle.json_text.proofs.Around.{named_is}
use Rattle.json_text.proofs.Rows.Less.{child_stands, chosen}
use Rattle.json_text.proofs.Rows.Trees.{named_at, no_member}
use Rattle.json_pieces.specs.PieceLists.{valued, with_value}
use Rattle.json_pieces.proofs.Rows.Parts.{IsPartOf, first_same, hold_append, no_cons, rest_same, part_of, rest_text, row_split, suit_append, up_to, value_set}
use Rattle.json_pieces.proofs.Rows.Says.{AllHold, Holds, all_hold, holds, row_holds}

-- ---- the tree with another value

-- what comes in the place of a member among these
abbrev Exchanges : List ℕ → Json → List Child → Child → List Child → ℕ → Type 0
Exchanges k w cs c more n = drop n cs ≡ c ∷ more → put_member k w (members_in cs) ≡ members_in (take n cs ++ ((c.0, w) ∷ more))

member_exchanged : (k : List ℕ) (w : Json) (cs : List Child) (n : ℕ) (c : Child) (more : List Child) → last_named k cs ≡ Some n → Exchanges k w cs c more n
member_exchanged k w [] n c more e = absurd (none-some n e)
member_exchanged k w (d ∷ cs) n c more e = by_tail (last_named k cs) (bytes_eq d.0 k) refl refl (λ m h. member_exchanged k w cs m c more h) e
  where
    later : (m : ℕ) → last_named k cs ≡ Some m → Exchanges k w cs c more m → Exchanges k w (d ∷ cs) c more (suc m)
    later m h ih at =
        let r = named_at k cs m h in
        let there : get_member k (members_in cs) ≡ Some r.child.1 = sym (named_is k (members_in cs)) ∙ ap (option_map (λ p. p.0)) r.value in
        ap (λ o. if_some o (λ x. member d.0 d.1 (put_member k w (members_in cs))) (member d.0 (cond (bytes_eq d.0 k) w d.1) (members_in cs))) there ∙ ap (member d.0 d.1) (ih at)

    here : last_named k cs ≡ None → bytes_eq d.0 k ≡ true → Exchanges k w (d ∷ cs) c more zero
    here h f at =
        let none : get_member k (members_in cs) ≡ None = no_member k cs h in
        ap (λ o. if_some o (λ x. member d.0 d.1 (put_member k w (members_in cs))) (member d.0 (cond (bytes_eq d.0 k) w d.1) (members_in cs))) none
        ∙ ap (λ b. member d.0 (cond b w d.1) (members_in cs)) f ∙ ap₂ (λ x l. member x.0 w (members_in l)) (first_same d c cs more at) (rest_same d c cs more at)

    by_tail : (o : Option ℕ) (b : Bool) → last_named k cs ≡ o → bytes_eq d.0 k ≡ b → ((m : ℕ) → last_named k cs ≡ Some m → Exchanges k w cs c more m) → or_else (option_map suc o) (cond b (Some zero) None) ≡ Some n → Exchanges k w (d ∷ cs) c more n
    by_tail (Some m) b h f ih e = subst (Exchanges k w (d ∷ cs) c more) (same_Some (suc m) n e) (later m h (ih m h))
    by_tail None true h f ih e = subst (Exchanges k w (d ∷ cs) c more) (same_Some zero n e) (here h f)
    by_tail None false h f ih e = absurd (none-some n e)

element_exchanged : (w : Json) (cs : List Child) (n : ℕ) (c : Child) (more : List Child) → drop n cs ≡ c ∷ more → put_element n w (elements_in cs) ≡ elements_in (take n cs ++ ((c.0, w) ∷ more))
element_exchanged w [] zero c more e = absurd (no_cons c more e)
element_exchanged w [] (suc n) c more e = absurd (no_cons c more e)
element_exchanged w (d ∷ cs) zero c more e = ap (λ l. item w (elements_in l)) (rest_same d c cs more e)
element_exchanged w (d ∷ cs) (suc n) c more e = ap (item d.1) (element_exchanged w cs n c more e)

pub tree_exchanged : (b : Bool) (cs : List Child) (t : List ℕ) (n : ℕ) (c : Child) (more : List Child) (w : Json) → IsNumberOf b cs t n → drop n cs ≡ c ∷ more → put_child t w (tree_in b cs) ≡ tree_in b (take n cs ++ ((c.0, w) ∷ more))
tree_exchanged true cs t n c more w at e = ap object (member_exchanged t w cs n c more at e)
tree_exchanged false cs t n c more w at e = ap (λ m. array (if_some m (λ k. put_element k w (elements_in cs)) (elements_in cs))) at ∙ ap array (element_exchanged w cs n c more e)

-- ---- the text around the value

abbrev pub before_value : Bool → List Piece → Piece → List ℕ
before_value b pre p = up_to (opens b) pre ++ (p.whitespace ++ (p.name ++ p.colons))

abbrev pub behind_value : Bool → Piece → List Piece → List ℕ
behind_value b p post = p.trail ++ rest_text b post

pub value_split : (b : Bool) (hollow : List ℕ) (pre : List Piece) (p : Piece) (post : List Piece) → row_text b hollow (pre ++ (p ∷ post)) ≡ before_value b pre p ++ (p.value ++ behind_value b p post)
value_split b hollow pre p post = row_split b hollow pre p post ∙ simp append_assoc

pub whitespace_nil : IsWhitespace []
unfolding lex
whitespace_nil = (refl, refl)

-- any text of a value in the place of one
pub value_says : (b : Bool) (cs : List Child) (c : Child) (ds : List Child) (pre : List Piece) (p : Piece) (post : List Piece) (s : List ℕ) (w : Json) → AllHold b cs pre → Holds b c p → AllHold b ds post → Says s w
    → Says (before_value b pre p ++ (s ++ behind_value b p post)) (tree_in b (cs ++ ((c.0, w) ∷ ds)))
value_says b cs c ds pre p post s w h k l says =
    let new : Holds b (c.0, w) (valued s p) = record { whitespace = k.whitespace; label = k.label; value = says; trail = k.trail } in
    subst (λ x. Says x (tree_in b (cs ++ ((c.0, w) ∷ ds)))) (value_split b [] pre (valued s p) post)
    (row_holds b [] (cs ++ ((c.0, w) ∷ ds)) (pre ++ (valued s p ∷ post)) (hold_append b cs ((c.0, w) ∷ ds) pre (valued s p ∷ post) h (new, l)) whitespace_nil)

-- ---- the child that a token names

pub part_stretch : (b : Bool) (cs : List Child) (ps : List Piece) (n : ℕ) (c : Child) (more : List Child) (t : List ℕ) → (r : IsPartOf b cs ps n c more) → IsNumberOf b cs t n → drop n cs ≡ c ∷ more
    → IsStretch (before_value b (take n ps) r.piece) r.piece.value (behind_value b r.piece r.rest) c.1 (λ w. put_child t w (tree_in b cs))
part_stretch b cs ps n c more t r at e = record {
  says = r.suits.value.0;
  tight = r.suits.value.1;
  alone = λ new w h.
      subst (Says (before_value b (take n ps) r.piece ++ (new ++ behind_value b r.piece r.rest))) (sym (tree_exchanged b cs t n c more w at e))
      (value_says b (take n cs) c more (take n ps) r.piece r.rest new w (all_hold b (take n cs) (take n ps) r.before) (holds r.suits) (all_hold b more r.rest r.behind) h);
}

pub part_stands : (b : Bool) (cs : List Child) (ps : List Piece) (n : ℕ) (c : Child) (more : List Child) (t : List ℕ) → (r : IsPartOf b cs ps n c more) → IsNumberOf b cs t n → drop n cs ≡ c ∷ more
    → StandsBetween (before_value b (take n ps) r.piece) r.piece.value (behind_value b r.piece r.rest) (tree_in b cs) (t ∷ [])
part_stands b cs ps n c more t r at e =
    child_stands (before_value b (take n ps) r.piece) r.piece.value (behind_value b r.piece r.rest) t (tree_in b cs) c.1 (chosen b cs t n c more at e).is (part_stretch b cs ps n c more t r at e)

-- ---- another value there

pub exchanged_suits : (b : Bool) (cs : List Child) (ps : List Piece) (n : ℕ) (c : Child) (more : List Child) (s : List ℕ) (w : Json) → AllSuit b cs ps → drop n cs ≡ c ∷ more → IsTextOf s w → AllSuit b (take n cs ++ ((c.0, w) ∷ more)) (with_value n s ps)
exchanged_suits b cs ps n c more s w h e is =
    let r = part_of b cs ps n c more h e in
    let new : Suits b (c.0, w) (valued s r.piece) = record { whitespace = r.suits.whitespace; label = r.suits.label; value = is; trail = r.suits.trail } in
    subst (AllSuit b (take n cs ++ ((c.0, w) ∷ more))) (sym (value_set n s ps r.piece r.rest r.is))
    (suit_append b (take n cs) ((c.0, w) ∷ more) (take n ps) (valued s r.piece ∷ r.rest) r.before (new, r.behind))
