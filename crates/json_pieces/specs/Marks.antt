-- What an index of names keeps.
use Rattle.std.specs.Prelude.{◌≡◌, ◌<◌, ◌≤◌, ℕ, suc, List, [], ◌∷◌, length, map, slice_index_or, Option, Some, None, cond}
use Rattle.std.specs.BTreeMap.{get_by_text}
use Rattle.std.specs.Str.{bytes_eq}
use Rattle.json_text.specs.Rows.{Child}
use Rattle.long_vec.specs.Items.{items_of}
use Rattle.json_pieces.specs.declared.index.Mark.{Mark}
use Rattle.json_pieces.specs.declared.index.NameIndex.{NameIndex}

abbrev pub names_of : List Child → List (List ℕ)
names_of = map (λ c. c.0)

-- the key of a name, if it has one
abbrev pub Keys : Type 0
Keys = List ℕ → Option ℕ

-- the same where the name n has this key
abbrev pub with_key : Keys → List ℕ → ℕ → Keys
with_key f n key k = cond (bytes_eq n k) (Some key) (f k)

-- the marks of seams of these names, with keys that rise from low on and stay below top: f has the last key of each name before them, and g behind them
abbrev pub AreMarks : Keys → ℕ → List (List ℕ) → List Mark → Keys → ℕ → Type 0
AreMarks f low [] [] g top = (low ≤ top) × ((k : List ℕ) → g k ≡ f k)
AreMarks f low [] (m ∷ ms) g top = ⊥
AreMarks f low (n ∷ ns) [] g top = ⊥
AreMarks f low (n ∷ ns) (m ∷ ms) g top = (low ≤ m.key) × (m.earlier ≡ f n) × AreMarks (with_key f n m.key) (suc m.key) ns ms g top

-- a key for a mark at number i among these, below top
pub record IsKeyFor (ms : List Mark) (top i key : ℕ) : Type 0 where
  pub behind : (j : ℕ) (m : Mark) → i ≡ suc j → m ≡ slice_index_or ms j m → m.key < key
  pub before : (m : Mark) → i < length ms → m ≡ slice_index_or ms i m → key < m.key
  pub last : i ≡ length ms → key < top

-- what an index knows of a name: the key of the last one that has it, if one has
abbrev pub key_of : Option (Option ℕ) → Option ℕ
key_of None = None
key_of (Some key) = key

-- the index is that of seams of these names
abbrev pub Fits : NameIndex → List (List ℕ) → Type 0
Fits x ns = AreMarks (λ k. None) 0 ns (items_of x.marks) (λ k. key_of (get_by_text x.latest k)) x.next
