-- The text of an object or an array, and what stands around it.
use Rattle.std.specs.Prelude.{◌≡◌, ◌⊎◌, ◌≤◌, ◌+◌, ◌++◌, ℕ, List, drop, length, true}
use Rattle.json.specs.Json.{Json}
use Rattle.json.specs.Lex.{between}
use Rattle.json.specs.Word.{ends_word}
use Rattle.json_lexemes.specs.Places.{mode_at}
use Rattle.json_lexemes.specs.Signposts.{ArePlaces}
use Rattle.json_lexemes.specs.declared.span.Span.{Span}
use Rattle.json_text.specs.Added.{IsPutInto}
use Rattle.json_text.specs.Rows.{slice}
use Rattle.json_text.specs.declared.own.Own.{Own}

-- no lexeme is cut at either side
pub record IsApart (t : List ℕ) (s : Span) : Type 0 where
  pub begins : mode_at t s.start ≡ between
  pub ends : (mode_at t s.end ≡ between) ⊎ (ends_word (drop s.end t) ≡ true)

-- at its place in t stands the text u
pub record IsInner (t : List ℕ) (s : Span) (u : List ℕ) : Type 0 where
  pub apart : IsApart t s
  pub order : s.start ≤ s.end
  pub fits : s.end ≤ length t
  pub is : u ≡ slice t s.start s.end

-- the whole, with s in its place
abbrev pub in_whole : Own → List ℕ → List ℕ
in_whole o s = o.before.now ++ (s ++ o.behind.now)

-- it cuts no lexeme of the whole, of which the places are known
pub record IsOwn (o : Own) : Type 0 where
  pub apart : IsApart (in_whole o o.text.now) (record { start = length o.before.now; end = length o.before.now + length o.text.now })
  pub places : ArePlaces (in_whole o o.text.now) o.places

-- new is the whole, with w put into the object or array, which says v, as what t names
abbrev pub IsGrown : Own → Json → List ℕ → List ℕ → List ℕ → Type 0
IsGrown o v t w new = (grown : List ℕ) × (new ≡ in_whole o grown) × IsPutInto o.text.now v t w grown
