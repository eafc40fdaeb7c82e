-- Documents shown as trees, item by item and member by member.
use Rattle.std.proofs.Common.{◌≡◌, ℕ, List, [], ◌∷◌, ◌++◌, refl, sym, ap, ap₂, ◌∙◌, String, Global, string_bytes}
use Rattle.std.specs.Borrow.{Bor}
use Rattle.json.specs.Json.{Items, no_items, item, Members, no_members, member}
use Rattle.json.specs.Value.{value_view, items_view, members_view}
use Rattle.json.specs.declared.value.Value as declared
use Rattle.serde_json.specs.View as document
use Rattle.serde_json.specs.declared.value.Value.{Value}
use Rattle.json_diff_text.specs.Numerals.{tree_of, tree_items, tree_members}

pub joined : Items → Items → Items
joined no_items es = es
joined (item d ds) es = item d (joined ds es)

pub joined_none : (ds : Items) → joined ds no_items ≡ ds
unfolding joined
joined_none no_items = refl
joined_none (item d ds) = ap (item d) (joined_none ds)

pub joined_first : (es : Items) → joined no_items es ≡ es
unfolding joined
joined_first es = refl

pushed : {A : Type 0} (vs : List (declared.Value A)) (v : declared.Value A) (es : Items) → joined (items_view (vs ++ v ∷ [])) es ≡ joined (items_view vs) (item (value_view v) es)
unfolding joined
pushed [] v es = refl
pushed (w ∷ vs) v es = ap (item (value_view w)) (pushed vs v es)

pub items_next : {A : Type 0} (ts : List (List ℕ)) (vs : List (declared.Value A)) (v : declared.Value A) (new : List (declared.Value A)) (x : Value) (xs rest : List Value) (all : Items) → new ≡ vs ++ v ∷ [] → xs ≡ x ∷ rest → value_view v ≡ tree_of ts (document.view x)
    → joined (items_view vs) (tree_items ts (document.items_view xs)) ≡ all → joined (items_view new) (tree_items ts (document.items_view rest)) ≡ all
items_next ts vs v new x xs rest all p e is h =
    ap (λ ys. joined (items_view ys) (tree_items ts (document.items_view rest))) p
    ∙ pushed vs v (tree_items ts (document.items_view rest))
    ∙ ap (λ j. joined (items_view vs) (item j (tree_items ts (document.items_view rest)))) is
    ∙ ap (λ ys. joined (items_view vs) (tree_items ts (document.items_view ys))) (sym e)
    ∙ h

pub items_all : {A : Type 0} (ts : List (List ℕ)) (vs : List (declared.Value A)) (xs : List Value) (all : Items) → xs ≡ [] → joined (items_view vs) (tree_items ts (document.items_view xs)) ≡ all → items_view vs ≡ all
items_all ts vs xs all e h = sym (joined_none (items_view vs)) ∙ ap (λ ys. joined (items_view vs) (tree_items ts (document.items_view ys))) (sym e) ∙ h

-- ---- objects

pub joined_members : Members → Members → Members
joined_members no_members es = es
joined_members (member k d ds) es = member k d (joined_members ds es)

members_none : (ds : Members) → joined_members ds no_members ≡ ds
unfolding joined_members
members_none no_members = refl
members_none (member k d ds) = ap (member k d) (members_none ds)

pub members_first : (es : Members) → joined_members no_members es ≡ es
unfolding joined_members
members_first es = refl

abbrev pub Shown : Type 0 → Type 0
Shown A = Bor (List ℕ) × declared.Value A

abbrev pub Entry : Type 0
Entry = String Global × Value

members_pushed : {A : Type 0} (vs : List (Shown A)) (v : Shown A) (es : Members) → joined_members (members_view (vs ++ v ∷ [])) es ≡ joined_members (members_view vs) (member v.0.now (value_view v.1) es)
unfolding joined_members
members_pushed [] v es = refl
members_pushed (w ∷ vs) v es = ap (member w.0.now (value_view w.1)) (members_pushed vs v es)

pub members_next : {A : Type 0} (ts : List (List ℕ)) (vs : List (Shown A)) (v : Shown A) (new : List (Shown A)) (x : Entry) (xs rest : List Entry) (all : Members) → new ≡ vs ++ v ∷ [] → xs ≡ x ∷ rest → v.0.now ≡ string_bytes x.0 → value_view v.1 ≡ tree_of ts (document.view x.1)
    → joined_members (members_view vs) (tree_members ts (document.members_view xs)) ≡ all → joined_members (members_view new) (tree_members ts (document.members_view rest)) ≡ all
members_next ts vs v new x xs rest all p e name is h =
    ap (λ ys. joined_members (members_view ys) (tree_members ts (document.members_view rest))) p
    ∙ members_pushed vs v (tree_members ts (document.members_view rest))
    ∙ ap₂ (λ k j. joined_members (members_view vs) (member k j (tree_members ts (document.members_view rest)))) name is
    ∙ ap (λ ys. joined_members (members_view vs) (tree_members ts (document.members_view ys))) (sym e)
    ∙ h

pub members_all : {A : Type 0} (ts : List (List ℕ)) (vs : List (Shown A)) (xs : List Entry) (all : Members) → xs ≡ [] → joined_members (members_view vs) (tree_members ts (document.members_view xs)) ≡ all → members_view vs ≡ all
members_all ts vs xs all e h = sym (members_none (members_view vs)) ∙ ap (λ ys. joined_members (members_view vs) (tree_members ts (document.members_view ys))) (sym e) ∙ h

-- ---- in the code

pub items_begin : {A : Type 0} (ts : List (List ℕ)) (vs : List (declared.Value A)) (xs ys : List Value) → vs ≡ [] → xs ≡ ys → joined (items_view vs) (tree_items ts (document.items_view xs)) ≡ tree_items ts (document.items_view ys)
items_begin ts vs xs ys none same =
    ap (λ ws. joined (items_view ws) (tree_items ts (document.items_view xs))) none
    ∙ joined_first (tree_items ts (document.items_view xs))
    ∙ ap (λ ws. tree_items ts (document.items_view ws)) same

pub members_begin : {A : Type 0} (ts : List (List ℕ)) (vs : List (Shown A)) (xs ys : List Entry) → vs ≡ [] → xs ≡ ys → joined_members (members_view vs) (tree_members ts (document.members_view xs)) ≡ tree_members ts (document.members_view ys)
members_begin ts vs xs ys none same =
    ap (λ ws. joined_members (members_view ws) (tree_members ts (document.members_view xs))) none
    ∙ members_first (tree_members ts (document.members_view xs))
    ∙ ap (λ ws. tree_members ts (document.members_view ws)) same
