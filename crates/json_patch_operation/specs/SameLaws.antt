-- Equality of operations is an equivalence, and it is what the test says. The laws of `PartialEq` and `Eq` cite these.
use Rattle.std.proofs.Common.{◌≡◌, ◌&&◌, Bool, true, Option, Some, None, bytes_eq, refl, sym, ap, ◌∙◌}
use Rattle.std.specs.Bool.{Decides}
use Rattle.std.specs.Option.{option_eq}
use Rattle.std.specs.Cmp.{IsEquivalence, IsPartialEquivalence, both_ways, on_equiv, partial_equiv_from_equiv}
use Rattle.std.proofs.lemmas.Bool.Decides.{Decides-and, Decides-like}
use Rattle.std.proofs.lemmas.Slice.Eq.{bytes_eq-Decides}
use Rattle.serde_json.specs.Data.{Data}
use Rattle.jsonptr.specs.Text.{Pointer, text_of}
use Rattle.jsonptr.specs.TextLaws.{one_pointer}
use Rattle.json_patch_operation.specs.Operation.{Parts, parts_of}
use Rattle.json_patch_document.specs.Same.{AreSameAt}
use Rattle.json_patch_operation.specs.Same.{AreSameParts}
use Rattle.json_patch_document.specs.SameComputed.{same}
use Rattle.json_patch_operation.specs.SameComputed.{same_pointer, same_parts, same_operation}
use Rattle.json_patch_document.specs.SameLaws.{AreSame-refl, AreSame-sym, AreSame-trans, same-Decides}

at-refl : (o : Option Data) → AreSameAt o o
at-refl None = tt
at-refl (Some d) = AreSame-refl d

at-sym : (o p : Option Data) → AreSameAt o p → AreSameAt p o
at-sym None None h = tt
at-sym (Some d) (Some e) h = AreSame-sym d e h
at-sym _ _ h = absurd h

at-trans : (o p q : Option Data) → AreSameAt o p → AreSameAt p q → AreSameAt o q
at-trans None None q h k = k
at-trans (Some d) (Some e) (Some f) h k = AreSame-trans d e f h k
at-trans (Some d) (Some e) None h k = absurd k
at-trans _ _ _ h k = absurd h

pub parts-refl : (p : Parts) → AreSameParts p p
parts-refl p = record { name = refl; from = refl; path = refl; value = at-refl p.value }

parts-sym : (p q : Parts) → AreSameParts p q → AreSameParts q p
parts-sym p q h = record { name = sym h.name; from = sym h.from; path = sym h.path; value = at-sym p.value q.value h.value }

parts-trans : (p q r : Parts) → AreSameParts p q → AreSameParts q r → AreSameParts p r
parts-trans p q r h k =
    record { name = h.name ∙ k.name; from = h.from ∙ k.from; path = h.path ∙ k.path; value = at-trans p.value q.value r.value h.value k.value }

pointer-Decides : (P Q : Pointer) → Decides (same_pointer P Q) (P ≡ Q)
pointer-Decides P Q = Decides-like (same_pointer P Q) (one_pointer P Q) (ap text_of) (bytes_eq-Decides (text_of P) (text_of Q))

from-Decides : (o p : Option Pointer) → Decides (option_eq same_pointer o p) (o ≡ p)
from-Decides None None = (λ h. refl, λ h. refl)
from-Decides (Some P) (Some Q) = Decides-like (same_pointer P Q) (ap Some) (λ h. cc) (pointer-Decides P Q)
from-Decides _ _ = (λ h. cc, λ h. cc)

at-Decides : (o p : Option Data) → Decides (option_eq same o p) (AreSameAt o p)
at-Decides None None = (λ h. tt, λ h. refl)
at-Decides (Some d) (Some e) = same-Decides d e
at-Decides _ _ = (λ h. cc, λ h. absurd h)

pub parts-Decides : (p q : Parts) → Decides (same_parts p q) (AreSameParts p q)
parts-Decides p q =
    let last = Decides-and (same_pointer p.path q.path) (option_eq same p.value q.value) (pointer-Decides p.path q.path) (at-Decides p.value q.value) in
    let later = Decides-and (option_eq same_pointer p.from q.from) (same_pointer p.path q.path && option_eq same p.value q.value) (from-Decides p.from q.from) last in
    let all = Decides-and (bytes_eq p.name q.name) (option_eq same_pointer p.from q.from && (same_pointer p.path q.path && option_eq same p.value q.value)) (bytes_eq-Decides p.name q.name) later in (
      λ h. let got = all.0 h in record { name = got.0; from = got.1.0; path = got.1.1.0; value = got.1.1.1 },
      λ h. all.1 (h.name, (h.from, (h.path, h.value))),
    )

-- a test that decides an equivalence
module _ {K : Type 0} (E : K → K → Bool) (R : K → K → Type 0) (decides : (x y : K) → Decides (E x y) (R x y)) where
  decided : ((x : K) → R x x) → ((x y : K) → R x y → R y x) → ((x y z : K) → R x y → R y z → R x z) → IsEquivalence E
  decided itself back on =
      let turned : (x y : K) → E x y ≡ true → E y x ≡ true = λ x y h. (decides y x).1 (back x y ((decides x y).0 h)) in
      let chained : (x y z : K) → E x y ≡ true → E y z ≡ true → E x z ≡ true =
      λ x y z h k. (decides x z).1 (on x y z ((decides x y).0 h) ((decides y z).0 k)) in
      record {
        refl = λ x. (decides x x).1 (itself x);
        symm = λ x y. both_ways (E x y) (E y x) (turned x y) (turned y x);
        congr = λ x y z h. both_ways (E x z) (E y z) (λ k. chained y x z (turned x y h) k) (λ k. chained x y z h k);
      }

pub operation_equivalence : IsEquivalence same_operation
operation_equivalence = on_equiv parts_of (decided same_parts AreSameParts parts-Decides parts-refl parts-sym parts-trans)

pub operation_partial_equivalence : IsPartialEquivalence same_operation
operation_partial_equivalence = partial_equiv_from_equiv operation_equivalence
