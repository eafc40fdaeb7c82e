-- What stands at a place, looked at.
use Rattle.std.specs.Prelude.{◌≡◌, Option, option_map}
use Rattle.json.specs.Json.{Json}
use Rattle.json_text.specs.Listing.{shape_of}
use Rattle.json_text.specs.Pointed.{tree_at}
use Rattle.json_text.specs.declared.listing.Shape.{Shape}
use Rattle.jsonptr.specs.Text.{Pointer}

-- found is the shape of what stands where P leads, if anything does
abbrev pub Looks : Json → Pointer → Option Shape → Type 0
Looks j P found = (found ≡ option_map shape_of (tree_at P j))
