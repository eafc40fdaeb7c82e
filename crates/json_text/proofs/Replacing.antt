-- The text with another value's stretch in the place of one.
use Rattle.std.proofs.Common.{◌≡◌, ℕ, List, [], ◌++◌, take, drop, refl, sym, ap, ◌∙◌, subst}
use Rattle.json.specs.Json.{Json}
use Rattle.jsonptr.specs.Text.{Pointer}
use Rattle.json_lexemes.specs.Found.{IsWithin}
use Rattle.json_text.specs.Pointed.{put_at, IsStretch, StandsBetween}
use Rattle.json_text.specs.Replaced.{IsReplaced}
use Rattle.json_lexemes.specs.Spelled.{IsShallowText, Says}
use Rattle.json_lexemes.specs.declared.span.Span.{Span}
use Rattle.json_text.specs.Rows.{slice}
use Rattle.json_text.proofs.Stretches.{two_parts, cut_out}
use Rattle.std.proofs.Common.{take-append-drop}

-- a text's own stretch
abbrev pub IsWhole : List ℕ → Span → Type 0
IsWhole value r = (j : Json) → Says value j → IsStretch (take r.start value) (slice value r.start r.end) (drop r.end value) j (λ w. w)

pub replaced : (text value copy put new : List ℕ) (P : Pointer) (s r : Span) (a : (j : Json) × IsShallowText text j) (b : (j : Json) × IsShallowText value j) → IsWithin text s → StandsBetween (take s.start text) (slice text s.start s.end) (drop s.end text) a.0 P
    → IsWithin copy r → copy ≡ value → IsWhole copy r → put ≡ slice value r.start r.end → new ≡ take s.start text ++ (put ++ drop s.end text) → IsReplaced text P value new
replaced text value copy put new P s r a b w p v c h e n =
    let t : IsStretch (take r.start value) (slice value r.start r.end) (drop r.end value) b.0 (λ x. x) = (subst (λ u. IsWhole u r) c h) b.0 b.1.0 in
    let says : Says put b.0 = subst (λ u. Says u b.0) (sym e) t.says in
    record {
      tree = a.0;
      says = a.1;
      wanted = b.0;
      value_says = b.1;
      before = take s.start text;
      old = slice text s.start s.end;
      behind = drop s.end text;
      whole = sym (ap (λ l. take s.start text ++ l) (two_parts text s.start s.end w.order) ∙ take-append-drop s.start text);
      stood = p;
      put = put;
      written = cut_out value b.0 [] r put (subst (λ u. IsWithin u r) c v) e (b.0, refl, t);
      exchanged = n;
      after = subst (λ u. Says u (put_at P b.0 a.0)) (sym n) (p.2.alone put b.0 says);
    }
