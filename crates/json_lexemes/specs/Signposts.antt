-- The places that a check of a text leaves.
use Rattle.std.specs.Prelude.{◌≡◌, ◌⊎◌, ◌<◌, ◌≤◌, ◌+◌, ◌-◌, ◌++◌, ℕ, true, List, [], length, drop, get_or, All}
use Rattle.std.specs.Str.{IsUtf8, IsCharBoundary}
use Rattle.json.specs.Json.{Json, Items, item}
use denote.Struct.Props as logic
use Rattle.json.specs.Lex.{Lexeme, between}
use Rattle.json_lexemes.specs.Blocks.{is_closing}
use Rattle.json_lexemes.specs.Found.{later}
use Rattle.json_lexemes.specs.Lexing.{restarts}
use Rattle.json_lexemes.specs.Places.{mode_at, left_at}
use Rattle.json_lexemes.specs.Skipped.{skip}
use Rattle.json_lexemes.specs.Spelled.{first_elements}
use Rattle.json_lexemes.specs.declared.signposts.Signposts.{Signposts}
use Rattle.json_lexemes.specs.declared.signposts.Places.{Places}
use Rattle.json_lexemes.specs.declared.signposts.Step.{Step}
use Rattle.json_lexemes.specs.declared.span.Span.{Span}

-- what begins at the span's start ends at its end
pub record IsPassed (t : List ℕ) (s : Span) : Type 0 where
  pub order : s.start ≤ s.end
  pub fits : s.end ≤ length t
  pub left : left_at t s.end ≡ skip 0 (left_at t s.start)
  pub from : restarts (mode_at t s.start) (drop s.start t) ≡ true
  pub begins : mode_at t s.end ≡ between
  pub bracket : is_closing (get_or t (s.end - 1) 0) ≡ true
  pub boundary : IsUtf8 t → IsCharBoundary t s.end

-- at the place begins an element of the array, before which so many stand
pub record IsStep (t : List ℕ) (s : Step) : Type 0 where
  pub on : s.array < s.place
  pub fits : s.place ≤ length t
  pub begins : mode_at t s.place ≡ between
  pub boundary : IsUtf8 t → IsCharBoundary t s.place
  pub ahead : get_or t s.array 0 ≡ 91 → (j : Json) (js : Items) (ls : List Lexeme) → left_at t (s.array + 1) ≡ first_elements (item j js) ++ ls
      → left_at t s.place ≡ first_elements (later s.number (item j js)) ++ ls

pub record AreSignposts (t : List ℕ) (x : Signposts) : Type 0 where
  pub spans : (k : ℕ) (d : Span) → k < x.ended → IsPassed t (get_or x.spans k d)
  pub steps : (k : ℕ) (d : Step) → k < x.stepped → IsStep t (get_or x.steps k d)
  pub room : (x.ended ≤ 128) × (x.stepped ≤ 128)

-- a span of a longer text, in which t begins at i, as it is seen from t
abbrev pub seen_from : ℕ → Span → Span
seen_from i s = record { start = s.start - i; end = s.end - i }

-- those of the spans that lie in t, which begins at p.from
pub record ArePlaces (t : List ℕ) (p : Places) : Type 0 where
  pub spans : All (λ s. p.from ≤ s.start → p.from < s.end → s.end ≤ p.from + length t → IsPassed t (seen_from p.from s)) p.spans.now
  pub steps : All (IsStep t) p.steps.now

-- q has the spans of p for a text that begins at i, or none
abbrev pub AreSeenFrom : Places → ℕ → Places → Type 0
AreSeenFrom p i q = (q.steps.now ≡ []) × ((q.spans.now ≡ []) ⊎ ((q.from ≡ p.from + i) × (q.spans.now ≡ p.spans.now)))

-- ---- each is known in one way, so that a struct can hold it

pub ArePlaces-prop : (t : List ℕ) (p : Places) → IsProp (ArePlaces t p)
ArePlaces-prop t p = Prim.hlevel logic.props
