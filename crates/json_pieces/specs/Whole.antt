-- The text that the pieces make.
use Rattle.std.specs.Prelude.{◌≡◌, ◌<◌, ◌^◌, ℕ, List, ◌++◌, length}
use Rattle.json.specs.Json.{Json}
use Rattle.json_lexemes.specs.Spelled.{IsShallowText}
use Rattle.json_text.specs.Cuts.{IsWhitespace}
use Rattle.json_pieces.specs.Held.{Held, held}
use Rattle.json_pieces.specs.Logs.{CanLead, Leads, LeadsTwice}
use Rattle.json_pieces.specs.Nodes.{IsWhole, text_bytes, tree_of, tree_text, view}
use Rattle.json_pieces.specs.declared.pieces.Pieces.{Pieces}
use Rattle.json_pieces.specs.declared.taken.Taken.{Taken}
use Rattle.json_pieces.specs.declared.text.Text.{Text}

-- the pieces, put together
abbrev pub text_of : Pieces → List ℕ
text_of p = text_bytes p.before ++ (tree_text (view p.root) ++ text_bytes p.behind)

-- with h for what is held of the value
abbrev pub text_with : Pieces → Held → List ℕ
text_with p h = text_bytes p.before ++ (tree_text (tree_of h) ++ text_bytes p.behind)

-- it would be the pieces of a JSON text, whose length fits a machine word
abbrev pub IsFit : Text → Text → Held → Type 0
IsFit before behind h = IsWhole (tree_of h) × (length (text_bytes before ++ (tree_text (tree_of h) ++ text_bytes behind)) < 2 ^ 64)

-- they are the pieces of a JSON text, whose length fits a machine word; if there is a mark, changes can be taken back
pub record ArePieces (p : Pieces) : Type 0 where
  pub before : IsWhitespace (text_bytes p.before)
  pub root : IsWhole (view p.root)
  pub behind : IsWhitespace (text_bytes p.behind)
  pub fits : length (text_of p) < 2 ^ 64
  pub back : CanLead p.log (IsFit p.before p.behind) (held p.root)

-- taking back what was changed since the mark makes this text
pub record LeadsBack (p : Pieces) (text : List ℕ) : Type 0 where
  pub then : Held
  pub leads : Leads p.log (held p.root) then
  pub text_is : text ≡ text_with p then

-- and from there, back to the mark before
pub record LeadsFurther (p : Pieces) (text : List ℕ) : Type 0 where
  pub then : Held
  pub leads : LeadsTwice p.log (held p.root) then
  pub text_is : text ≡ text_with p then

-- to what old leads back, new leads back as well
abbrev pub KeepsBack : Pieces → Pieces → Type 0
KeepsBack old new = ((t : List ℕ) → LeadsBack old t → LeadsBack new t) × ((t : List ℕ) → LeadsFurther old t → LeadsFurther new t)

-- ---- a value that stands in no text

-- its text
abbrev pub taken_text : Taken → List ℕ
taken_text t = tree_text (view t.node)

-- it makes a value's text, which nests no deeper than 128 levels
pub record IsTaken (t : Taken) : Type 0 where
  pub whole : IsWhole (view t.node)
  pub shallow : (w : Json) × IsShallowText (taken_text t) w
