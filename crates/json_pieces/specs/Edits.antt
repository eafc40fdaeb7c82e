-- What an edit makes of a value's text.
use Rattle.std.specs.Prelude.{◌≡◌, ◌⊎◌, ℕ, Bool, true, false, List, [], ◌∷◌, ◌++◌, Option, Some, None, ⊤}
use Rattle.json.specs.Json.{Json}
use Rattle.jsonptr.specs.Text.{Pointer}
use Rattle.json_text.specs.Added.{IsPutInto}
use Rattle.json_text.specs.Changed.{add_child}
use Rattle.json_text.specs.Less.{IsObject, IsWithout}
use Rattle.json_text.specs.Pointed.{child, put_at, tree_at, IsStretch, IsWrittenAt}
use Rattle.json_pieces.specs.Nodes.{IsWhole, tree_text, view}
use Rattle.json_pieces.specs.declared.edit.Edit.{Edit}
use Rattle.json_pieces.specs.declared.edit.Edit.TheVariants.{Read, Put, Take, Insert}
use Rattle.json_pieces.specs.declared.node.Node.{Node}

-- in the text, which says j, the stretch where P leads, own, which says v, is exchanged for left
pub record Alters (text : List ℕ) (j : Json) (P : Pointer) (v : Json) (own left new : List ℕ) : Type 0 where
  pub before : List ℕ
  pub behind : List ℕ
  pub whole : text ≡ before ++ (own ++ behind)
  pub leads : tree_at P j ≡ Some v
  pub stood : IsStretch before own behind v (λ w. put_at P w j)
  pub exchanged : new ≡ before ++ (left ++ behind)

-- x comes in the place of what stands where P leads
abbrev pub Exchanges : List ℕ → Json → Pointer → List ℕ → List ℕ → Type 0
Exchanges text j P x new = (v : Json) × (own : List ℕ) × Alters text j P v own x new

-- what the edit leaves of a value, and the text that it answers: a member that stands is exchanged itself, by its name
abbrev pub IsLeft : Edit → Pointer → Json → List ℕ → List ℕ → List ℕ → Type 0
IsLeft Read [] v own left out = (left ≡ own) × (out ≡ own)
IsLeft Read (u ∷ P) v own left out = ⊥
IsLeft (Put x) [] v own left out = left ≡ tree_text (view x)
IsLeft (Put x) (u ∷ P) v own left out = ⊥
IsLeft (Take t) [] v own left out = IsWithout own v t.now left × IsWrittenAt own v (t.now ∷ []) out
IsLeft (Take t) (u ∷ P) v own left out = ⊥
IsLeft (Insert t x) [] v own left out = IsPutInto own v t.now (tree_text (view x)) left
IsLeft (Insert t x) (u ∷ []) v own left out = (u ≡ t.now) × (left ≡ tree_text (view x))
IsLeft (Insert t x) (u ∷ w ∷ P) v own left out = ⊥

-- by a name only in an object
abbrev pub IsRightWay : Pointer → Pointer → Json → Type 0
IsRightWay [] P j = ⊤
IsRightWay (u ∷ way) P j = (v : Json) × (tree_at P j ≡ Some v) × IsObject v

pub record IsMade (e : Edit) (text : List ℕ) (j : Json) (P : Pointer) (new out : List ℕ) : Type 0 where
  pub way : Pointer
  pub value : Json
  pub own : List ℕ
  pub left : List ℕ
  pub alters : Alters text j (P ++ way) value own left new
  pub is_left : IsLeft e way value own left out
  pub right : IsRightWay way P j

-- it can't be made in a value
abbrev pub Misses : Edit → Json → Type 0
Misses Read v = ⊥
Misses (Put x) v = ⊥
Misses (Take t) v = child t.now v ≡ None
Misses (Insert t x) v = (w : Json) → add_child t.now w v ≡ None

abbrev pub Fails : Edit → Json → Pointer → Type 0
Fails e j P = (tree_at P j ≡ None) ⊎ ((v : Json) × (tree_at P j ≡ Some v) × Misses e v)

-- it is made where P leads, or nothing is
abbrev pub Makes : Edit → List ℕ → Json → Pointer → List ℕ → Option Node → Type 0
Makes e text j P new (Some out) = IsMade e text j P new (tree_text (view out))
Makes e text j P new None = (new ≡ text) × Fails e j P

-- what it puts is a value's text
abbrev pub IsReady : Edit → Type 0
IsReady Read = ⊤
IsReady (Put x) = IsWhole (view x)
IsReady (Take t) = ⊤
IsReady (Insert t x) = IsWhole (view x)

-- ---- in an object or an array itself

-- what t names is taken out, or nothing has that name
abbrev pub TakesOut : List ℕ → Json → List ℕ → List ℕ → Bool → Type 0
TakesOut text j t new true = IsWithout text j t new
TakesOut text j t new false = (new ≡ text) × (child t j ≡ None)

-- x comes in the place of a member's value
pub record IsMemberPut (text : List ℕ) (j : Json) (t x new : List ℕ) : Type 0 where
  pub value : Json
  pub own : List ℕ
  pub alters : Alters text j (t ∷ []) value own x new
  pub object : IsObject j

-- x is put in as what t names, or nothing can be
abbrev pub PutsIn : List ℕ → Json → List ℕ → List ℕ → List ℕ → Bool → Type 0
PutsIn text j t x new true = IsPutInto text j t x new ⊎ IsMemberPut text j t x new
PutsIn text j t x new false = (new ≡ text) × ((w : Json) → add_child t w j ≡ None)

-- it is no edit of the value as a whole
abbrev pub IsInner : Edit → Type 0
IsInner Read = ⊥
IsInner (Put x) = ⊥
IsInner (Take t) = ⊤
IsInner (Insert t x) = ⊤
