-- The text of values and operations without whitespace (RFC 8259).
use Rattle.std.specs.Prelude.{ℕ, ◌/◌, ◌%◌, ◌==◌, nat_lt, if◌then◌else◌, true, false, List, [], ◌∷◌, ◌++◌, map, flat_map}
use Rattle.std.specs.Prelude.{Option, Some, None, chars, codes, decimal, encode_utf8}
use Rattle.std.specs.Char.{digit_char}
use Rattle.std.specs.Fmt.{signed_decimal}
use Rattle.serde_json.specs.Data.{Num, unsigned, negative, float, Data, null, boolean, number, string, array, object}
use Rattle.serde_json.specs.Data.{Items, no_items, item, Members, no_members, member}
use Rattle.serde_json.specs.View.{items_of}
use Rattle.json_patch_operation.specs.Operation.{Operation, Parts}
use Rattle.json_patch_operation.specs.PatchValue.{all_fields, named_fields}

-- what stands for a character between the quotes (RFC 8259, section 7)
abbrev pub character_text : ℕ → List ℕ
character_text c =
    if c == 34 then 92 ∷ 34 ∷ []
    else if c == 92 then 92 ∷ 92 ∷ []
    else if c == 8 then codes "\\b"
    else if c == 12 then codes "\\f"
    else if c == 10 then codes "\\n"
    else if c == 13 then codes "\\r"
    else if c == 9 then codes "\\t"
    else if nat_lt c 32 then codes "\\u00" ++ digit_char (c / 16) ∷ digit_char (c % 16) ∷ []
    else encode_utf8 c

abbrev pub quote : List ℕ → List ℕ
quote text = 34 ∷ (flat_map character_text (chars text) ++ 34 ∷ [])

-- the digits of a whole number, and `null` for another
abbrev pub number_text : Num → List ℕ
number_text (unsigned n) = decimal n
number_text (negative z) = signed_decimal z
number_text (float x) = codes "null"

abbrev mutual
  pub value_text : Data → List ℕ
  value_text null = codes "null"
  value_text (boolean true) = codes "true"
  value_text (boolean false) = codes "false"
  value_text (number n) = number_text n
  value_text (string s) = quote s
  value_text (array ds) = codes "[" ++ (printed_items [] ds ++ codes "]")
  value_text (object ms) = codes "{" ++ (printed_members [] ms ++ codes "}")

  -- the elements, with `before` in front of the first and a comma in front of each other
  pub printed_items : List ℕ → Items → List ℕ
  printed_items before no_items = []
  printed_items before (item d ds) = before ++ (value_text d ++ printed_items (codes ",") ds)

  pub printed_members : List ℕ → Members → List ℕ
  printed_members before no_members = []
  printed_members before (member k d ms) = before ++ (quote k ++ (codes ":" ++ (value_text d ++ printed_members (codes ",") ms)))

-- these members, in this order
abbrev pub in_order : List (List ℕ × Data) → Members
in_order [] = no_members
in_order (f ∷ fs) = member f.0 f.1 (in_order fs)

-- the object of these members, in this order
abbrev pub object_of : List (List ℕ × Data) → Data
object_of fs = object (in_order fs)

-- the text of an operation's members
abbrev pub fields_text : List (List ℕ × Data) → List ℕ
fields_text fs = value_text (object_of fs)

-- the operations, each the object of its members
abbrev pub operation_items : List Operation → Items
operation_items ops = items_of (map (λ op. object_of (all_fields op)) ops)

-- the text of a patch
abbrev pub patch_text : List Operation → List ℕ
patch_text ops = value_text (array (operation_items ops))

-- ---- for private clauses

-- the text of parts, their name as `op` where it is asked for
abbrev pub parts_text : Option (List ℕ) → Parts → List ℕ
parts_text name p = fields_text (named_fields name p)

-- a member and the comma after it, or nothing
abbrev pub leading_text : List ℕ → Option (List ℕ) → List ℕ
leading_text name None = []
leading_text name (Some text) = quote name ++ (codes ":" ++ (quote text ++ codes ","))

-- a comma and the member after it, or nothing
abbrev pub trailing_text : List ℕ → Option Data → List ℕ
trailing_text name None = []
trailing_text name (Some d) = codes "," ++ (quote name ++ (codes ":" ++ value_text d))
