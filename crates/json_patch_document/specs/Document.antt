-- Documents (RFC 8259, whole numbers alone), and what stands at a location.
use Rattle.std.specs.Prelude.{◌≡◌, ◌<◌, ◌^◌, ℕ, pos, negsuc, List, [], ◌∷◌, Option, Some, None, option_and_then}
use Rattle.std.specs.Ordering.{nat_cmp}
use Rattle.std.specs.declared.cmp.Ordering.TheVariants.{Less}
use Rattle.std.specs.Cmp.Lexicographic.{slice_cmp}
use Rattle.serde_json.specs.Data.{Num, unsigned, negative, float, Data, null, boolean, number, string, array, object}
use Rattle.serde_json.specs.Data.{Items, no_items, item, Members, no_members, member}
use Rattle.serde_json.specs.Find.{get, at}
use Rattle.json_patch_document.specs.Sight.{Sight}

-- a name is below each of the members' names
abbrev pub IsBelowMembers : List ℕ → Members → Type 0
IsBelowMembers k no_members = Unit {0}
IsBelowMembers k (member l d ms) = (slice_cmp nat_cmp k l ≡ Less) × IsBelowMembers k ms

-- a whole number of 64 bits, from -2^63 to 2^64 - 1: `negsuc n` is -n - 1
abbrev pub IsWhole : Num → Type 0
IsWhole (unsigned n) = n < 2 ^ 64
IsWhole (negative (pos n)) = ⊥
IsWhole (negative (negsuc n)) = n < 2 ^ 63
IsWhole (float x) = ⊥

-- whole numbers alone, and in each object each name once, in byte order: so a document is written in one way
abbrev mutual
  pub IsDocument : Data → Type 0
  IsDocument null = Unit {0}
  IsDocument (boolean b) = Unit {0}
  IsDocument (number n) = IsWhole n
  IsDocument (string s) = Unit {0}
  IsDocument (array ds) = AreDocuments ds
  IsDocument (object ms) = AreMembers ms

  pub AreDocuments : Items → Type 0
  AreDocuments no_items = Unit {0}
  AreDocuments (item d ds) = IsDocument d × AreDocuments ds

  pub AreMembers : Members → Type 0
  AreMembers no_members = Unit {0}
  AreMembers (member k d ms) = IsBelowMembers k ms × IsDocument d × AreMembers ms

-- a step down into a document
pub data Segment : Type 0 where
  key : List ℕ → Segment
  place : ℕ → Segment

abbrev pub child : Segment → Data → Option Data
child (key k) d = get k d
child (place i) d = at i d

-- the document that stands at a location, or nothing
abbrev pub value_at : Data → List Segment → Option Data
value_at d [] = Some d
value_at d (s ∷ L) = option_and_then (λ e. value_at e L) (child s d)

-- what is seen of a document at a location
abbrev pub sight_of : Data → Sight
sight_of null = Sight.null
sight_of (boolean b) = Sight.boolean b
sight_of (number n) = Sight.number n
sight_of (string s) = Sight.string s
sight_of (array ds) = Sight.array
sight_of (object ms) = Sight.object

abbrev pub sight : Option Data → Sight
sight None = Sight.nothing
sight (Some d) = sight_of d

abbrev pub look : Data → List Segment → Sight
look d L = sight (value_at d L)
