-- A text with one value exchanged, and every other byte kept.
use Rattle.std.specs.Prelude.{◌≡◌, ℕ, List, [], ◌++◌, None, ⊤}
use Rattle.json.specs.Json.{Json}
use Rattle.jsonptr.specs.Text.{Pointer}
use Rattle.json_text.specs.Faults.{IsTextFault}
use Rattle.json_text.specs.Pointed.{tree_at, put_at, IsWrittenAt, StandsBetween}
use Rattle.json_lexemes.specs.Spelled.{IsShallowText, Says}
use Rattle.json_text.specs.declared.fault.ChangeFault.{ChangeFault}
use Rattle.json_text.specs.declared.fault.ChangeFault.TheVariants.{Text, Value, NoTarget, Memory}

-- new is the text with the stretch where P leads exchanged for the value's, and says the tree with the value's tree there
pub record IsReplaced (text : List ℕ) (P : Pointer) (value new : List ℕ) : Type 0 where
  pub tree : Json
  pub says : IsShallowText text tree
  pub wanted : Json
  pub value_says : IsShallowText value wanted
  pub before : List ℕ
  pub old : List ℕ
  pub behind : List ℕ
  pub whole : text ≡ before ++ (old ++ behind)
  pub stood : StandsBetween before old behind tree P
  pub put : List ℕ
  pub written : IsWrittenAt value wanted [] put
  pub exchanged : new ≡ before ++ (put ++ behind)
  pub after : Says new (put_at P wanted tree)

-- P leads nowhere in the text
abbrev pub LeadsNowhere : List ℕ → Pointer → Type 0
LeadsNowhere text P = (j : Json) × Says text j × (tree_at P j ≡ None)

abbrev pub IsReplaceFault : List ℕ → Pointer → List ℕ → ChangeFault → Type 0
IsReplaceFault text P value (Text f) = IsTextFault text f
IsReplaceFault text P value (Value f) = IsTextFault value f
IsReplaceFault text P value NoTarget = LeadsNowhere text P
IsReplaceFault text P value (Memory m) = ⊤
