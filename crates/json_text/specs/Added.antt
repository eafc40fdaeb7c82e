-- A text with a value put in, and every other byte kept.
use Rattle.std.specs.Prelude.{◌≡◌, ◌⊎◌, ℕ, List, [], ◌∷◌, ◌++◌, Some, None, ⊤}
use Rattle.json.specs.Json.{Json, null, boolean, number, string, array, object, no_items, item, no_members, member}
use Rattle.json.specs.Lex.{Lexeme, token, comma, colon, between, lex}
use Rattle.json.specs.Print.{quoted}
use Rattle.json.specs.Token as t
use Rattle.jsonptr.specs.Text.{Pointer}
use Rattle.json_text.specs.Changed.{add_at, add_child}
use Rattle.json_text.specs.Faults.{IsTextFault}
use Rattle.json_text.specs.Pointed.{IsTight, IsWrittenAt, ParentStands}
use Rattle.json_text.specs.Removed.{IsTightEnd, IsTightFront}
use Rattle.json_text.specs.Replaced.{IsReplaced}
use Rattle.json_text.specs.Styled.{colons_like, whitespace_like}
use Rattle.json_lexemes.specs.Spelled.{IsShallowText, Says}
use Rattle.json_text.specs.declared.fault.ChangeFault.{ChangeFault}
use Rattle.json_text.specs.declared.fault.ChangeFault.TheVariants.{Text, Value, NoTarget, Memory}

-- ---- what goes with a value, in the style of its neighbours

-- no comma comes first
abbrev pub HasNoComma : List ℕ → Type 0
HasNoComma s = (ls : List Lexeme) → lex between s ≡ comma ∷ ls → ⊥

-- s ends with a member: its whitespace stands behind a bracket or a comma, and its colon between its name and its value
pub record EndsWithMember (s whitespace colons : List ℕ) : Type 0 where
  pub lead : List ℕ
  pub name : List ℕ
  pub value : List ℕ
  pub is : s ≡ lead ++ (whitespace ++ (name ++ (colons ++ value)))
  pub tight : IsTightEnd lead × (lex between whitespace ≡ [])
  pub named : IsTight name × ((k : List ℕ) × (lex between name ≡ token (t.string k) ∷ []))
  pub colon : lex between colons ≡ colon ∷ []
  pub says : IsTight value × ((v : Json) × Says value v)

-- s ends with an element, whose whitespace stands behind a bracket or a comma
pub record EndsWithElement (s whitespace : List ℕ) : Type 0 where
  pub lead : List ℕ
  pub value : List ℕ
  pub is : s ≡ lead ++ (whitespace ++ value)
  pub tight : IsTightEnd lead × (lex between whitespace ≡ [])
  pub says : IsTight value × ((v : Json) × Says value v)

-- s begins with an element, and behind the comma after it stands the whitespace of the next one
pub record HasSecond (s whitespace : List ℕ) : Type 0 where
  pub value : List ℕ
  pub gap : List ℕ
  pub rest : List ℕ
  pub is : s ≡ value ++ (gap ++ (whitespace ++ rest))
  pub says : (v : Json) × Says value v
  pub comes : IsTightEnd gap × (lex between gap ≡ comma ∷ [])
  pub tight : (lex between whitespace ≡ []) × IsTightFront rest

-- s begins with an element, behind which no comma comes
pub record HasOne (s : List ℕ) : Type 0 where
  pub value : List ℕ
  pub rest : List ℕ
  pub is : s ≡ value ++ rest
  pub says : (v : Json) × Says value v
  pub last : HasNoComma rest

-- before an element: the comma, and whitespace like its own; before the first one like that of the second, if there is one
abbrev pub IsBeforeElement : List ℕ → List ℕ → List ℕ → Type 0
IsBeforeElement front trail back = (whitespace : List ℕ) × (trail ≡ 44 ∷ whitespace_like whitespace) × IsTightFront back
    × (((lex between front ≡ token t.begin_array ∷ []) × HasSecond back whitespace)
    ⊎ ((lead : List ℕ) × (front ≡ lead ++ whitespace) × IsTightEnd lead × (lex between whitespace ≡ []) × (lex between front ≡ token t.begin_array ∷ [] → HasOne back)))

-- behind the last: the comma, whitespace like its own, and for a member the name and a colon like that of the last
abbrev pub IsBehindMember : List ℕ → List ℕ → List ℕ → List ℕ → List ℕ → Type 0
IsBehindMember k front ahead trail back = (whitespace : List ℕ) × (colons : List ℕ) × EndsWithMember front whitespace colons × (ahead ≡ 44 ∷ (whitespace_like whitespace ++ (quoted k ++ colons_like colons))) × (trail ≡ []) × HasNoComma back

abbrev pub IsBehindElement : List ℕ → List ℕ → List ℕ → List ℕ → Type 0
IsBehindElement front ahead trail back = (whitespace : List ℕ) × EndsWithElement front whitespace × (ahead ≡ 44 ∷ whitespace_like whitespace) × (trail ≡ []) × HasNoComma back

-- between front and back, ahead and trail go with a new child t; with no other there, right behind the bracket
abbrev pub IsStyled : List ℕ → Json → List ℕ → List ℕ → List ℕ → List ℕ → Type 0
IsStyled t null front ahead trail back = ⊥
IsStyled t (boolean b) front ahead trail back = ⊥
IsStyled t (number s) front ahead trail back = ⊥
IsStyled t (string s) front ahead trail back = ⊥
IsStyled t (object no_members) front ahead trail back = IsTightEnd front × (ahead ≡ quoted t ++ (58 ∷ [])) × (trail ≡ [])
IsStyled t (object (member k j ms)) front ahead trail back = IsBehindMember t front ahead trail back
IsStyled t (array no_items) front ahead trail back = IsTightEnd front × (ahead ≡ []) × (trail ≡ [])
IsStyled t (array (item j js)) front ahead trail back = IsBehindElement front ahead trail back ⊎ ((ahead ≡ []) × IsBeforeElement front trail back)

-- ---- put in

-- grown is the text of v with put as a new child t; with any other value's text there it says v with that value added
pub record IsPutInto (text : List ℕ) (v : Json) (t put grown : List ℕ) : Type 0 where
  pub front : List ℕ
  pub back : List ℕ
  pub whole : text ≡ front ++ back
  pub ahead : List ℕ
  pub trail : List ℕ
  pub styled : IsStyled t v front ahead trail back
  pub put_in : grown ≡ front ++ (ahead ++ (put ++ (trail ++ back)))
  pub alone : (new : List ℕ) (w : Json) → Says new w → (x : Json) × (add_child t w v ≡ Some x) × Says (front ++ (ahead ++ (new ++ (trail ++ back)))) x

-- in the text, which says j, the object or array where the tokens but the last lead has the value put in
pub record IsPutIn (text : List ℕ) (j : Json) (P : Pointer) (value : List ℕ) (wanted : Json) (new : List ℕ) : Type 0 where
  pub at : ParentStands text j P
  pub put : List ℕ
  pub written : IsWrittenAt value wanted [] put
  pub grown : List ℕ
  pub into : IsPutInto at.own at.parent at.last put grown
  pub exchanged : new ≡ at.before ++ (grown ++ at.behind)

-- new is the text with the value replaced where P leads to the whole or a member, and else put in, and says the tree with it added
pub record IsAdded (text : List ℕ) (P : Pointer) (value new : List ℕ) : Type 0 where
  pub tree : Json
  pub says : IsShallowText text tree
  pub wanted : Json
  pub value_says : IsShallowText value wanted
  pub bytes : IsReplaced text P value new ⊎ IsPutIn text tree P value wanted new
  pub sum : Json
  pub added : add_at P wanted tree ≡ Some sum
  pub after : Says new sum

-- at P nothing can be added to the text's tree
abbrev pub HasNoPlace : List ℕ → Pointer → Type 0
HasNoPlace text P = (j : Json) × Says text j × ((w : Json) → add_at P w j ≡ None)

abbrev pub IsAddFault : List ℕ → Pointer → List ℕ → ChangeFault → Type 0
IsAddFault text P value (Text f) = IsTextFault text f
IsAddFault text P value (Value f) = IsTextFault value f
IsAddFault text P value NoTarget = HasNoPlace text P
IsAddFault text P value (Memory m) = ⊤
