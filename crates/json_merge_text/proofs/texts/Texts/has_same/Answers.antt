use Rattle.std.proofs.Common.{◌≡◌, ◌∙◌, refl, sym}
use Rattle.std.proofs.lemmas.Bool.{false≢true}
use Rattle.json.specs.Json.{Json, null, boolean, number, string, array, object}
use Rattle.json_pieces.specs.Whole.{text_of}
use Rattle.json_reading.specs.Same.{SameTree}
use Rattle.json_text.specs.Listing.{shape_of}
use Rattle.json_merge_text.proofs.Possible.{shape_stands}
use Rattle.json_merge_text.proofs.texts.Texts.has_same.Goals as goal

alike_shaped : (i j : Json) → SameTree i j → shape_of i ≡ shape_of j
alike_shaped null null h = refl
alike_shaped null (boolean t) h = refl
alike_shaped null (number t) h = refl
alike_shaped null (string t) h = absurd h
alike_shaped null (array t) h = absurd h
alike_shaped null (object t) h = absurd h
alike_shaped (boolean s) null h = refl
alike_shaped (boolean s) (boolean t) h = refl
alike_shaped (boolean s) (number t) h = refl
alike_shaped (boolean s) (string t) h = absurd h
alike_shaped (boolean s) (array t) h = absurd h
alike_shaped (boolean s) (object t) h = absurd h
alike_shaped (number s) null h = refl
alike_shaped (number s) (boolean t) h = refl
alike_shaped (number s) (number t) h = refl
alike_shaped (number s) (string t) h = absurd h
alike_shaped (number s) (array t) h = absurd h
alike_shaped (number s) (object t) h = absurd h
alike_shaped (string s) null h = absurd h
alike_shaped (string s) (boolean t) h = absurd h
alike_shaped (string s) (number t) h = absurd h
alike_shaped (string s) (string t) h = refl
alike_shaped (string s) (array t) h = absurd h
alike_shaped (string s) (object t) h = absurd h
alike_shaped (array s) null h = absurd h
alike_shaped (array s) (boolean t) h = absurd h
alike_shaped (array s) (number t) h = absurd h
alike_shaped (array s) (string t) h = absurd h
alike_shaped (array s) (array t) h = refl
alike_shaped (array s) (object t) h = absurd h
alike_shaped (object s) null h = absurd h
alike_shaped (object s) (boolean t) h = absurd h
alike_shaped (object s) (number t) h = absurd h
alike_shaped (object s) (string t) h = absurd h
alike_shaped (object s) (array t) h = absurd h
alike_shaped (object s) (object t) h = refl

pub returns-then-not-same_shape-clause-same : goal.returns-then-not-same_shape-clause-same
returns-then-not-same_shape-clause-same c i stands =
    let here = shape_stands (text_of c.args.self.now.document) c.args.path.now c.in_ok-here.field-0 c.in-Some.here i c.in_ok-here.ensures.shape c.in-Some.is stands in
    (λ e. absurd (false≢true e), λ alike. sym c.if-not-same_shape.true ∙ c.same_shape.ensures (here ∙ alike_shaped i _ alike ∙ sym c.shape_of_value.ensures))
