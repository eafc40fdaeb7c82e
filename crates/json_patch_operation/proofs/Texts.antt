-- What is written for characters, values and operations.
use Rattle.json_patch_operation.proofs.Common.{common_steps, ◌≡◌, ◌≢◌, ℕ, zero, suc, ◌<◌, ◌/◌, ◌%◌, ◌^◌, ◌-◌, ◌&&◌, Bool, true}
use Rattle.json_patch_operation.proofs.Common.{false, List, [], ◌∷◌, ◌++◌, Option, Some, option_map, codes, bytes_eq, chars}
use Rattle.json_patch_operation.proofs.Common.{flat_map, encode_utf8, IsUtf8, length, append_assoc, append-nil, refl, sym, ◌∙◌}
use Rattle.json_patch_operation.proofs.Common.{arith, rules, bytes_eq-Decides, Data, string, Items, item, no_items, Members}
use Rattle.json_patch_operation.proofs.Common.{member, no_members, Pointer, text_of, Parts, field_if, pointer_text}
use Rattle.json_patch_operation.proofs.Common.{character_text, quote, value_text, printed_items, printed_members, fields_text}
use Rattle.json_patch_operation.proofs.Common.{parts_text, leading_text, trailing_text, and_parts, chars-nil, chars_past_char}
use Rattle.json_patch_operation.proofs.Common.{format_spec}
use Rattle.std.specs.Char.{digit_char}
use Rattle.std.specs.Fmt.{digits, padded_integral, char_count}

-- a test that holds below n, counted down from the top
abbrev holds_below : (ℕ → Bool) → ℕ → Bool
holds_below test zero = true
holds_below test (suc n) = test n && holds_below test n

holds_at : (test : ℕ → Bool) (n : ℕ) → holds_below test n ≡ true → (x : ℕ) → x < n → test x ≡ true
holds_at test zero h x below = absurd (omega arith)
holds_at test (suc n) h x below = search (rules, and_parts, holds_at test n)

-- four digits, of a number below 32
abbrev pub four_digits : ℕ → List ℕ
four_digits n = padded_integral (format_spec 32 0 4 4 (2 ^ 64 - 1)) false [] (digits 16 false n)

abbrev has_two_zeros : ℕ → Bool
has_two_zeros n = bytes_eq (four_digits n) (48 ∷ 48 ∷ digit_char (n / 16) ∷ digit_char (n % 16) ∷ [])

two_zeros : holds_below has_two_zeros 32 ≡ true
unfolding digits padded_integral char_count
two_zeros = refl

-- a control character with no letter of its own
abbrev pub hexadecimal : ℕ → List ℕ
hexadecimal c = codes "\\u00" ++ digit_char (c / 16) ∷ digit_char (c % 16) ∷ []

pub escaped_control : (c : ℕ) → c < 32 → c ≢ 8 → c ≢ 9 → c ≢ 10 → c ≢ 12 → c ≢ 13 → character_text c ≡ hexadecimal c
escaped_control c below b t n f r = search rules

pub hexadecimal-four_digits : (c : ℕ) → c < 32 → 92 ∷ 117 ∷ four_digits c ≡ hexadecimal c
hexadecimal-four_digits c below = grind (arith, common_steps, bytes_eq-Decides, holds_at, two_zeros)

-- ---- the characters of a string, one by one

pub escaped_more : (done text rest whole : List ℕ) (c : ℕ) → IsUtf8 text → text ≡ encode_utf8 c ++ rest
    → done ++ flat_map character_text (chars text) ≡ whole → (done ++ character_text c) ++ flat_map character_text (chars rest) ≡ whole
escaped_more done text rest whole c utf8 step h = search (rules, append_assoc, flat_map, chars_past_char)

no_bytes : (rest : List ℕ) → length rest ≡ 0 → rest ≡ []
no_bytes rest h = grind (arith, common_steps)

pub quoted_end : (done text rest : List ℕ) → length rest ≡ 0 → done ++ flat_map character_text (chars rest) ≡ flat_map character_text (chars text)
    → (34 ∷ done) ++ 34 ∷ [] ≡ quote text
quoted_end done text rest none h = search (rules, append-nil, flat_map, no_bytes, chars-nil)

-- ---- elements and members, one by one

pub printed_items_more : (done before whole : List ℕ) (ds es : Items) (d : Data) → ds ≡ item d es
    → done ++ printed_items before ds ≡ whole → ((done ++ before) ++ value_text d) ++ printed_items (codes ",") es ≡ whole
printed_items_more done before whole ds es d step h = simp append_assoc (rw step at h)

pub printed_items_end : (done before whole : List ℕ) (ds : Items) → ds ≡ no_items → done ++ printed_items before ds ≡ whole → done ≡ whole
printed_items_end done before whole ds none h = sym (append-nil done) ∙ (rw none at h)

pub printed_members_more : (done before whole k : List ℕ) (ms ns : Members) (d : Data) → ms ≡ member k d ns
    → done ++ printed_members before ms ≡ whole → (((done ++ before) ++ (quote k ++ codes ":")) ++ value_text d) ++ printed_members (codes ",") ns ≡ whole
printed_members_more done before whole k ms ns d step h = grind (arith, common_steps)

pub printed_members_end : (done before whole : List ℕ) (ms : Members) → ms ≡ no_members → done ++ printed_members before ms ≡ whole → done ≡ whole
printed_members_end done before whole ms none h = sym (append-nil done) ∙ (rw none at h)

-- ---- the members of an operation

abbrev WritesParts : Option (List ℕ) → Option (List ℕ) → List ℕ → Option Data → Type 0
WritesParts name from path value =
    (((((codes "{" ++ leading_text (codes "op") name) ++ leading_text (codes "from") from) ++ (quote (codes "path") ++ codes ":")) ++ quote path) ++ trailing_text (codes "value") value) ++ codes "}"
    ≡ fields_text (field_if (codes "op") (option_map string name) ++ (field_if (codes "from") (option_map string from) ++ (codes "path", string path) ∷ field_if (codes "value") value))

writes_parts : (name from : Option (List ℕ)) (path : List ℕ) (value : Option Data) → WritesParts name from path value
writes_parts (Some n) (Some t) path (Some d) = simp (append_assoc, append-nil)
writes_parts name from path value = search (rules, append_assoc, append-nil)

from_text : (o : Option Pointer) → option_map string (option_map text_of o) ≡ option_map pointer_text o
from_text o = search rules

pub printed_operation : (name from : Option (List ℕ)) (path : List ℕ) (p : Parts) → from ≡ option_map text_of p.from → path ≡ text_of p.path
    → (((((codes "{" ++ leading_text (codes "op") name) ++ leading_text (codes "from") from) ++ (quote (codes "path") ++ codes ":")) ++ quote path) ++ trailing_text (codes "value") p.value) ++ codes "}"
    ≡ parts_text name p
printed_operation name from path p e f = writes_parts name from path p.value ∙ rw (e, f, from_text p.from) refl
