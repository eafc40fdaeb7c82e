-- The piece of a number: what stands before and behind its value, and the row with another value there.
use Rattle.std.proofs.Common.{◌≡◌, ℕ, zero, suc, ◌+◌, ◌<◌, ◌≤◌, Bool, List, [], ◌∷◌, ◌++◌, length, take, drop, Some, refl, sym, ap, ◌∙◌, subst, arith, length-append}
use Rattle.json.specs.Json.{Json}
use Rattle.json_text.specs.Cuts.{AllSuit, Piece, row_text}
use Rattle.json_text.specs.Less.{IsNumberOf}
use Rattle.json_text.specs.Listing.{IsTextOf}
use Rattle.json_text.specs.Pointed.{child, put_child, IsStretch}
use Rattle.json_text.specs.Rows.{Child, tree_in}
use Rattle.json_text.proofs.Rows.Less.{chosen}
use Rattle.json_pieces.specs.PieceLists.{valued, with_value}
use Rattle.json_pieces.proofs.Rows.Parts.{child_there, first_same, joined, no_cons, part_of, value_set}
use Rattle.json_pieces.proofs.Rows.Stands.{before_value, behind_value, part_stretch, value_split}

abbrev pub value_at : ℕ → List Piece → List ℕ
value_at n [] = []
value_at zero (p ∷ ps) = p.value
value_at (suc n) (p ∷ ps) = value_at n ps

value_is : (n : ℕ) (ps : List Piece) (p : Piece) (rest : List Piece) → drop n ps ≡ p ∷ rest → p.value ≡ value_at n ps
value_is zero [] p rest e = absurd (no_cons p rest e)
value_is (suc n) [] p rest e = absurd (no_cons p rest e)
value_is zero (q ∷ ps) p rest e = sym (ap (λ x. x.value) (first_same q p ps rest e))
value_is (suc n) (q ∷ ps) p rest e = value_is n ps p rest e

-- ---- the text around it

pub record IsSplit (b : Bool) (n : ℕ) (ps : List Piece) : Type 0 where
  pub before : List ℕ
  pub behind : List ℕ
  pub whole : (hollow : List ℕ) → row_text b hollow ps ≡ before ++ (value_at n ps ++ behind)
  pub put : (hollow x : List ℕ) → row_text b hollow (with_value n x ps) ≡ before ++ (x ++ behind)

split_by : (b : Bool) (n : ℕ) (ps : List Piece) (p : Piece) (rest : List Piece) → drop n ps ≡ p ∷ rest → IsSplit b n ps
split_by b n ps p rest e = record {
  before = before_value b (take n ps) p;
  behind = behind_value b p rest;
  whole = λ hollow. ap (row_text b hollow) (joined n ps p rest e) ∙ value_split b hollow (take n ps) p rest ∙ ap (λ v. before_value b (take n ps) p ++ (v ++ behind_value b p rest)) (value_is n ps p rest e);
  put = λ hollow x. ap (row_text b hollow) (value_set n x ps p rest e) ∙ value_split b hollow (take n ps) (valued x p) rest;
}

split_there : (b : Bool) (n i : ℕ) (ps qs : List Piece) → drop n ps ≡ drop i qs → i < length qs → IsSplit b n ps
split_there b n i ps [] e l = absurd (omega (arith, l))
split_there b n zero ps (q ∷ qs) e l = split_by b n ps q qs e
split_there b n (suc i) ps (q ∷ qs) e l = split_there b n i ps qs e (omega (arith, l))

pub is_split : (b : Bool) (n : ℕ) (ps : List Piece) → n < length ps → IsSplit b n ps
is_split b n ps l = split_there b n n ps ps refl l

-- ---- the length

sized : (before value behind text : List ℕ) → text ≡ before ++ (value ++ behind) → length text ≡ length before + (length value + length behind)
sized before value behind text e = ap length e ∙ length-append before (value ++ behind) ∙ ap (λ n. length before + n) (length-append value behind)

pub put_size : (b : Bool) (hollow : List ℕ) (n m k : ℕ) (ps : List Piece) (x : List ℕ) → n < length ps → m ≡ length (row_text b hollow ps) → k + length (value_at n ps) ≡ m + length x → k ≡ length (row_text b hollow (with_value n x ps))
put_size b hollow n m k ps x l e f =
    let s = is_split b n ps l in
    omega (arith, sized s.before (value_at n ps) s.behind (row_text b hollow ps) (s.whole hollow), sized s.before x s.behind (row_text b hollow (with_value n x ps)) (s.put hollow x), e, f)

pub value_fits : (b : Bool) (hollow : List ℕ) (n m : ℕ) (ps : List Piece) → n < length ps → m ≡ length (row_text b hollow ps) → length (value_at n ps) ≤ m
value_fits b hollow n m ps l e =
    let s = is_split b n ps l in
    omega (arith, sized s.before (value_at n ps) s.behind (row_text b hollow ps) (s.whole hollow), e)

-- ---- the child

-- the value is some tree's text
pub has_text : (b : Bool) (n : ℕ) (cs : List Child) (ps : List Piece) → AllSuit b cs ps → n < length ps → (w : Json) × IsTextOf (value_at n ps) w
has_text b n cs ps h l =
    let c = child_there b cs ps n h l in
    let r = part_of b cs ps n c.child c.more h c.is in
    (c.child.1, subst (λ v. IsTextOf v c.child.1) (value_is n ps r.piece r.rest r.is) r.suits.value)

-- it is the text of the child that t names
pub record Stands (b : Bool) (t : List ℕ) (n : ℕ) (cs : List Child) (ps : List Piece) : Type 0 where
  pub child_tree : Json
  pub is : child t (tree_in b cs) ≡ Some child_tree
  pub value : IsTextOf (value_at n ps) child_tree
  pub split : IsSplit b n ps
  pub stretch : IsStretch split.before (value_at n ps) split.behind child_tree (λ w. put_child t w (tree_in b cs))

pub stands : (b : Bool) (t : List ℕ) (n : ℕ) (cs : List Child) (ps : List Piece) → AllSuit b cs ps → n < length ps → IsNumberOf b cs t n → Stands b t n cs ps
unfolding split_by
stands b t n cs ps h l number =
    let c = child_there b cs ps n h l in
    let r = part_of b cs ps n c.child c.more h c.is in
    let v : r.piece.value ≡ value_at n ps = value_is n ps r.piece r.rest r.is in
    record {
      child_tree = c.child.1;
      is = (chosen b cs t n c.child c.more number c.is).is;
      value = subst (λ s. IsTextOf s c.child.1) v r.suits.value;
      split = split_by b n ps r.piece r.rest r.is;
      stretch = subst (λ s. IsStretch (before_value b (take n ps) r.piece) s (behind_value b r.piece r.rest) c.child.1 (λ w. put_child t w (tree_in b cs))) v (part_stretch b cs ps n c.child c.more t r number c.is);
    }
