-- What is seen of a document at a location: nothing, an atom, or that an array or an object stands there.
use Rattle.std.specs.Prelude.{ℕ, List, Bool}
use Rattle.serde_json.specs.Data.{Num}

pub data Sight : Type 0 where
  nothing : Sight
  null : Sight
  boolean : Bool → Sight
  number : Num → Sight
  string : List ℕ → Sight
  array : Sight
  object : Sight
