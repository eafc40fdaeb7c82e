-- What takes a change of a value in pieces back.
use Rattle.std.specs.Prelude.{◌≡◌, ◌<◌, ◌≤◌, ◌+◌, ◌^◌, ℕ, List, [], ◌∷◌, ◌++◌, length, Bool, ⊤}
use Rattle.std.specs.List.{insert}
use Rattle.json_pieces.specs.Held.{Held, held, held_row, helds}
use Rattle.json_pieces.specs.Slots.{AreSwapped, IsSlotOf}
use Rattle.json_pieces.specs.declared.back.Back.{Back}
use Rattle.json_pieces.specs.declared.back.Back.TheVariants.{Swap, Value, Out, In, Alone}
use Rattle.json_pieces.specs.declared.back.Change.{Change}
use Rattle.json_pieces.specs.declared.back.Level.{Level}
use Rattle.json_pieces.specs.declared.node.Node.{Node}
use Rattle.json_pieces.specs.declared.row.Slot.{Slot}
use Rattle.json_pieces.specs.declared.seams.Seam.{Seam}
use Rattle.json_pieces.specs.declared.text.Text.{Text}

-- ---- one step: it makes p of t

-- what a row has that no step changes
pub record Frame : Type 0 where
  pub named : Bool
  pub seams_room : ℕ
  pub values_room : ℕ

abbrev pub row_in : Frame → ℕ → Text → List Seam → List Held → Held
row_in f n hollow seams values = held_row (record { named = f.named; length = n; seams_room = f.seams_room; values_room = f.values_room; hollow = hollow; seams = seams }) (helds values)

-- the value v comes in the place of that of number n
pub record IsBackValue (n : ℕ) (v : Held) (l : ℕ) (t p : Held) : Type 0 where
  pub frame : Frame
  pub m : ℕ
  pub hollow : Text
  pub seams : List Seam
  pub before : List Held
  pub x : Held
  pub behind : List Held
  pub number : n ≡ length before
  pub now_is : t ≡ row_in frame m hollow seams (before ++ (x ∷ behind))
  pub then_is : p ≡ row_in frame l hollow seams (before ++ (v ∷ behind))

-- the part s, v of number n goes out
pub record IsBackOut (n : ℕ) (slot : Slot) (l : ℕ) (t p : Held) : Type 0 where
  pub frame : Frame
  pub m : ℕ
  pub hollow : Text
  pub hollow_then : Text
  pub seams : List Seam
  pub seams_then : List Seam
  pub values : List Held
  pub s : Seam
  pub s_then : Seam
  pub v : Held
  pub now_is : t ≡ row_in frame m hollow (insert seams n s) (insert values n v)
  pub then_is : p ≡ row_in frame l hollow_then seams_then values
  pub swapped : AreSwapped slot s hollow seams s_then hollow_then seams_then
  pub slot_is : IsSlotOf slot (length seams)
  pub within : n ≤ length seams
  pub within_values : n ≤ length values

-- the part s, v comes in at number n, and is s_then, v there
pub record IsBackIn (n : ℕ) (s : Seam) (v : Held) (slot : Slot) (l : ℕ) (t p : Held) : Type 0 where
  pub frame : Frame
  pub m : ℕ
  pub hollow : Text
  pub hollow_then : Text
  pub seams : List Seam
  pub seams_then : List Seam
  pub values : List Held
  pub s_then : Seam
  pub now_is : t ≡ row_in frame m hollow seams values
  pub then_is : p ≡ row_in frame l hollow_then (insert seams_then n s_then) (insert values n v)
  pub swapped : AreSwapped slot s hollow seams s_then hollow_then seams_then
  pub slot_is : IsSlotOf slot (length seams)
  pub within : n ≤ length seams
  pub within_values : n ≤ length values
  pub room : length seams < frame.seams_room
  pub room_values : length values < frame.values_room
  pub fits : length seams + 1 < 2 ^ 64

-- the part s, v comes into a row that is empty
pub record IsAloneAgain (s : Seam) (v : Held) (hollow_then : Text) (l : ℕ) (t p : Held) : Type 0 where
  pub frame : Frame
  pub m : ℕ
  pub hollow : Text
  pub now_is : t ≡ row_in frame m hollow [] []
  pub then_is : p ≡ row_in frame l hollow_then (s ∷ []) (v ∷ [])
  pub room : 0 < frame.seams_room
  pub room_values : 0 < frame.values_room

-- what a step says: what is held in place of the node
pub data Step : Type 0 where
  swap : Held → Step
  value : ℕ → Held → ℕ → Step
  out : ℕ → Slot → ℕ → Step
  into : ℕ → Seam → Held → Slot → ℕ → Step
  alone : Seam → Held → Text → ℕ → Step

abbrev pub step_of : Back → Step
step_of (Swap v) = swap (held v)
step_of (Value n v l) = value n (held v) l
step_of (Out n slot l) = out n slot l
step_of (In n s v slot l) = into n s (held v) slot l
step_of (Alone s v hollow l) = alone s (held v) hollow l

abbrev pub IsBack : Step → Held → Held → Type 0
IsBack (swap v) t p = p ≡ v
IsBack (value n v l) t p = IsBackValue n v l t p
IsBack (out n slot l) t p = IsBackOut n slot l t p
IsBack (into n s v slot l) t p = IsBackIn n s v slot l t p
IsBack (alone s v hollow l) t p = IsAloneAgain s v hollow l t p

-- the value that it has is v
abbrev pub Moves : Back → Node → Type 0
Moves (Swap w) v = w ≡ v
Moves (Value n w l) v = w ≡ v
Moves (Out n slot l) v = ⊥
Moves (In n s w slot l) v = w ≡ v
Moves (Alone s w hollow l) v = w ≡ v

-- it is a step in a row
abbrev pub IsInRow : Step → Type 0
IsInRow (swap v) = ⊥
IsInRow (value n v l) = ⊤
IsInRow (out n slot l) = ⊤
IsInRow (into n s v slot l) = ⊤
IsInRow (alone s v hollow l) = ⊤

-- ---- more than one

-- going back by the steps, the last one first, makes p of t
abbrev pub AreBack : List Back → Held → Held → Type 0
AreBack [] t p = t ≡ p
AreBack (c ∷ cs) t p = (r : Held) × AreBack cs t r × IsBack (step_of c) r p

-- one level: the value of its number, x, becomes y, as R says
pub record Below (l : Level) (R : Held → Held → Type 0) (t p : Held) : Type 0 where
  pub frame : Frame
  pub m : ℕ
  pub hollow : Text
  pub seams : List Seam
  pub before : List Held
  pub x : Held
  pub y : Held
  pub behind : List Held
  pub number : l.number ≡ length before
  pub now_is : t ≡ row_in frame m hollow seams (before ++ (x ∷ behind))
  pub then_is : p ≡ row_in frame l.length hollow seams (before ++ (y ∷ behind))
  pub inside : R x y

abbrev pub Along : List Level → (Held → Held → Type 0) → Held → Held → Type 0
Along [] R t p = R t p
Along (l ∷ ls) R t p = Below l (Along ls R) t p

abbrev pub IsBackAt : List Level → List Back → Held → Held → Type 0
IsBackAt ls cs t p = Along ls (AreBack cs) t p

-- the change is at the whole, and going back begins by putting a value in its place
abbrev pub PutsWhole : Change → Type 0
PutsWhole c = (c.place.items ≡ []) × ((cs : List Back) × ((v : Node) × (c.steps.items ≡ cs ++ Swap v ∷ [])))

-- taking the changes back, the last one first, makes p of t
abbrev pub LogLeads : List Change → Held → Held → Type 0
LogLeads [] t p = t ≡ p
LogLeads (c ∷ log) t p = (r : Held) × LogLeads log t r × IsBackAt c.place.items c.steps.items r p
