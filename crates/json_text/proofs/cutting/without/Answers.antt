use Rattle.std.proofs.Common.{◌≡◌, ℕ, Global, List, [], ◌++◌, drop, length, None, Some, Option, sym, ap, ◌∙◌, subst, arith, append-nil}
use Rattle.std.proofs.lemmas.List.{drop_all}
use Rattle.std.proofs.lemmas.Result.{IfOk-weaker}
use Rattle.std.proofs.lemmas.Str.{IsCharBoundary-end, IsCharBoundary-start}
use Rattle.std.specs.Prelude.{MatchOption, String}
use Rattle.std.specs.String.{string_bytes}
use Rattle.json.specs.Json.{Json}
use Rattle.json_text.specs.Less.{IsLessText, IsObject, IsWithout}
use Rattle.json_text.specs.Owned.{in_whole}
use Rattle.json_text.specs.Pointed.{child}
use Rattle.json_lexemes.specs.Spelled.{Says}
use Rattle.json_text.proofs.Rows.Objects.{first_less, one_gone}
use Rattle.json_text.proofs.cutting.without.Goals as goal

one_less : (t k : List ℕ) (v : Json) (whole : List ℕ → List ℕ) (o : Option (String Global)) → ¬ IsObject v → Says t v
    → MatchOption o (child k v ≡ None) (λ new. (less : List ℕ) × (string_bytes new ≡ whole less) × IsLessText t v k less) → MatchOption o (child k v ≡ None) (λ new. (less : List ℕ) × (string_bytes new ≡ whole less) × IsWithout t v k less)
one_less t k v whole None n says h = h
one_less t k v whole (Some new) n says (less, is, h) = (less, is, one_gone t v k less n (first_less t v k less says h))

pub returns-then-not-is_object : goal.returns-then-not-is_object
returns-then-not-is_object c =
    let t = c.args.own.text.now in
    let k = c.args.name.now in
    IfOk-weaker c.without_one.result (λ found. (v : Json) → Says t v → MatchOption found (child k v ≡ None) (λ new. (less : List ℕ) × (string_bytes new ≡ in_whole c.args.own less) × IsLessText t v k less))
    (λ found. (v : Json) → Says t v → MatchOption found (child k v ≡ None) (λ new. (less : List ℕ) × (string_bytes new ≡ in_whole c.args.own less) × IsWithout t v k less))
    (λ found h v says. one_less t k v (in_whole c.args.own) found (c.is_object.ensures.no v (subst (λ x. Says x v) (sym c.as_bytes.ensures.value) says) c.if-not-is_object.true) says (h v says)) c.without_one.ensures

pub without_members-requires : goal.without_members-requires
without_members-requires c =
    let (v, says) = c.requires.says in
    (v, says, c.is_object.ensures.yes v (subst (λ x. Says x v) (sym c.as_bytes.ensures.value) says) c.if-not-is_object.false)

pub spliced-requires : goal.spliced-requires
spliced-requires c =
    let t = c.args.own.text.now in
    record { order = omega arith; fits = omega arith; boundary = λ u. (IsCharBoundary-start t u, IsCharBoundary-end t) }

pub returns : goal.returns
returns c = λ v says.
    let t = c.args.own.text.now in
    let less = string_bytes c.in-Some.less in
    let none : drop (length t) t ≡ [] = drop_all (length t) t (omega arith) in
    let is = c.in_ok-new.ensures ∙ ap (λ x. in_whole c.args.own (x ++ drop (length t) t)) c.as_str.ensures.value ∙ ap (λ x. in_whole c.args.own (less ++ x)) none ∙ ap (in_whole c.args.own) (append-nil less) in
    (less, is, rw c.in-Some.is at (c.in_ok-less.ensures v says))
