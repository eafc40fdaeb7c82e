-- The values in an object or an array, each with its text.
use Rattle.std.specs.Prelude.{◌≡◌, ◌++◌, ℕ, zero, suc, List, [], ◌∷◌, length, drop, Bool, true, false, None, ⊤}
use Rattle.std.specs.Borrow.{Bor}
use Rattle.json.specs.Find.{get_member}
use Rattle.json.specs.Json.{Json, null, boolean, number, string, array, object, Items, no_items, item, Members, no_members, member}
use Rattle.jsonptr.specs.Places.{decimal_token}
use Rattle.json_lexemes.specs.Places.{left_at}
use Rattle.json_text.specs.Less.{IsNumberOf}
use Rattle.json_text.specs.Pointed.{IsTight, IsWrittenAt}
use Rattle.json_text.specs.Rows.{Child, inside, others, tree_in}
use Rattle.json_lexemes.specs.declared.span.Span.{Span}
use Rattle.json.specs.Lex.{colon}
use Rattle.json_lexemes.specs.Spelled.{Says, spelled}
use Rattle.json_text.specs.declared.listing.Shape.{Shape}
use Rattle.json_text.specs.declared.listing.Shape.TheVariants.{Object, Array, String, Atom}

-- the text says j, and neither begins nor ends with whitespace
abbrev pub IsTextOf : List ℕ → Json → Type 0
IsTextOf s j = Says s j × IsTight s

-- a name's text and a value's
abbrev pub Texts : Type 0
Texts = Bor (List ℕ) × Bor (List ℕ)

abbrev pub AreTextsOfElements : List Texts → Items → Type 0
AreTextsOfElements [] no_items = ⊤
AreTextsOfElements (e ∷ es) (item j js) = (e.0.now ≡ []) × IsTextOf e.1.now j × AreTextsOfElements es js
AreTextsOfElements es js = ⊥

abbrev pub AreTextsOfMembers : List Texts → Members → Type 0
AreTextsOfMembers [] no_members = ⊤
AreTextsOfMembers (e ∷ es) (member k j ms) = IsTextOf e.0.now (string k) × IsTextOf e.1.now j × AreTextsOfMembers es ms
AreTextsOfMembers es ms = ⊥

-- the texts of j's members, or of its elements, in their order
abbrev pub AreTextsIn : Json → List Texts → Type 0
AreTextsIn (array js) es = AreTextsOfElements es js
AreTextsIn (object ms) es = AreTextsOfMembers es ms
AreTextsIn j es = es ≡ []

-- each is the stretch of the text, which says j, at its number, counted from n
abbrev pub AreStretchesOfElements : List ℕ → Json → ℕ → List Texts → Type 0
AreStretchesOfElements text j n [] = ⊤
AreStretchesOfElements text j n (e ∷ es) = IsWrittenAt text j (decimal_token n ∷ []) e.1.now × AreStretchesOfElements text j (suc n) es

-- each is the stretch of the text, which says j, at its name, but where a later member has that name too
abbrev pub AreStretchesOfMembers : List ℕ → Json → List Texts → Members → Type 0
AreStretchesOfMembers text j (e ∷ es) (member k v ms) = (get_member k ms ≡ None → IsWrittenAt text j (k ∷ []) e.1.now) × AreStretchesOfMembers text j es ms
AreStretchesOfMembers text j es ms = ⊤

-- the texts of j's members, or of its elements, are the stretches of the text where these stand
abbrev pub AreStretchesIn : List ℕ → Json → List Texts → Type 0
AreStretchesIn text (array js) es = AreStretchesOfElements text (array js) zero es
AreStretchesIn text (object ms) es = AreStretchesOfMembers text (object ms) es ms
AreStretchesIn text j es = ⊤

abbrev pub shape_of : Json → Shape
shape_of null = Atom
shape_of (boolean b) = Atom
shape_of (number s) = Atom
shape_of (string s) = String
shape_of (array js) = Array
shape_of (object ms) = Object

-- ---- for private clauses

abbrev pub IsNameOf : Bool → List ℕ → List ℕ → Type 0
IsNameOf true s k = IsTextOf s (string k)
IsNameOf false s k = s ≡ []

abbrev pub AreTextsOf : Bool → List Texts → List Child → Type 0
AreTextsOf b [] [] = ⊤
AreTextsOf b (e ∷ es) (c ∷ cs) = IsNameOf b e.0.now c.0 × IsTextOf e.1.now c.1 × AreTextsOf b es cs
AreTextsOf b es cs = ⊥

-- e is the stretch of the text at each token that names the child of this number
abbrev pub StandsAs : List ℕ → Bool → List Child → ℕ → Texts → Type 0
StandsAs t b cs n e = (k : List ℕ) → IsNumberOf b cs k n → IsWrittenAt t (tree_in b cs) (k ∷ []) e.1.now

-- and so are those behind it, one by one
abbrev pub AllStand : List ℕ → Bool → List Child → ℕ → List Texts → Type 0
AllStand t b cs n [] = ⊤
AllStand t b cs n (e ∷ es) = StandsAs t b cs n e × AllStand t b cs (suc n) es

-- of the children cs, those of more are still ahead, and found has the texts of the others
pub record IsListed (t : List ℕ) (b : Bool) (cs more : List Child) (found : List Texts) : Type 0 where
  pub ahead : drop (length found) cs ≡ more
  pub texts : (es : List Texts) → AreTextsOf b es more → AreTextsOf b (found ++ es) cs
  pub stand : AllStand t b cs zero found

-- of the children cs, found has the texts of those before the place i
abbrev pub AreListed : List ℕ → Bool → List Child → List Texts → ℕ → Type 0
AreListed t b cs found i = (more : List Child) × (left_at t i ≡ inside b more) × IsListed t b cs more found

-- the name of the first of these children, if it has one, ends where s does
abbrev pub NamesAt : List ℕ → Bool → List Child → Span → Type 0
NamesAt t b [] s = ⊤
NamesAt t true (c ∷ cs) s = (left_at t s.start ≡ spelled (string c.0) ++ (colon ∷ (spelled c.1 ++ others true cs))) × (left_at t s.end ≡ colon ∷ (spelled c.1 ++ others true cs))
NamesAt t false (c ∷ cs) s = s.end ≡ s.start
