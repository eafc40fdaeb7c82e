-- An edit in a child is one in its object or array.
use Rattle.std.proofs.Common.{◌≡◌, inl, inr, ℕ, ◌<◌, Bool, List, [], ◌∷◌, ◌++◌, length, Option, Some, None, option_and_then, refl, sym, ap, ◌∙◌, subst, append_assoc}
use Rattle.std.specs.Prelude.{option_map}
use Rattle.json.specs.Json.{Json}
use Rattle.jsonptr.specs.Text.{Pointer}
use Rattle.json_text.specs.Cuts.{AllSuit, IsWhitespace, Piece, row_text}
use Rattle.json_text.specs.Less.{IsNumberOf}
use Rattle.json_text.specs.Listing.{shape_of}
use Rattle.json_text.specs.Pointed.{child, put_at, tree_at}
use Rattle.json_text.specs.Rows.{Child, tree_in}
use Rattle.json_text.specs.declared.listing.Shape.{Shape}
use Rattle.json_lexemes.specs.Spelled.{Says}
use Rattle.json_text.proofs.Along.{put_step}
use Rattle.json_lexemes.proofs.Nests.{one_tree}
use Rattle.json_pieces.specs.Edits.{Alters, Fails, IsRightWay, Makes}
use Rattle.json_pieces.specs.Looks.{Looks}
use Rattle.json_pieces.specs.declared.edit.Edit.{Edit}
use Rattle.json_pieces.specs.declared.node.Node.{Node}
use Rattle.json_pieces.specs.PieceLists.{with_value}
use Rattle.json_pieces.proofs.Rows.Numbers.{Stands, stands, value_at}
use Rattle.json_pieces.proofs.Rows.Says.{row_says}

pub regroup : (a b c d e : List ℕ) → a ++ ((b ++ (c ++ d)) ++ e) ≡ (a ++ b) ++ (c ++ (d ++ e))
regroup a b c d e = ap (λ l. a ++ l) (append_assoc b (c ++ d) e ∙ ap (λ l. b ++ l) (append_assoc c d e)) ∙ sym (append_assoc a b (c ++ (d ++ e)))

below : (t : List ℕ) (P : Pointer) (j c : Json) (o : Option Json) → child t j ≡ Some c → tree_at P c ≡ o → tree_at (t ∷ P) j ≡ o
below t P j c o e f = ap (option_and_then (tree_at P)) e ∙ f

right_below : (way : Pointer) (t : List ℕ) (P : Pointer) (j c : Json) → child t j ≡ Some c → IsRightWay way P c → IsRightWay way (t ∷ P) j
right_below [] t P j c e r = tt
right_below (u ∷ way) t P j c e r = (r.0, below t P j c (Some r.0) e r.1, r.2)

module _ (b : Bool) (hollow t : List ℕ) (n : ℕ) (cs : List Child) (ps : List Piece) (x : List ℕ) where
  lift_alters : (s : Stands b t n cs ps) (Q : Pointer) (v : Json) (own left : List ℕ) → Alters (value_at n ps) s.child_tree Q v own left x → Alters (row_text b hollow ps) (tree_in b cs) (t ∷ Q) v own left (row_text b hollow (with_value n x ps))
  lift_alters s Q v own left a =
      let front = s.split.before in
      let back = s.split.behind in
      record {
        before = front ++ a.before;
        behind = a.behind ++ back;
        whole = s.split.whole hollow ∙ ap (λ y. front ++ (y ++ back)) a.whole ∙ regroup front a.before own a.behind back;
        leads = below t Q (tree_in b cs) s.child_tree (Some v) s.is a.leads;
        stood = record {
          says = a.stood.says;
          tight = a.stood.tight;
          alone = λ new w h.
              subst (λ y. Says y (put_at (t ∷ Q) w (tree_in b cs))) (regroup front a.before new a.behind back)
              (subst (Says (front ++ ((a.before ++ (new ++ a.behind)) ++ back))) (sym (put_step t Q w (tree_in b cs) s.child_tree s.is))
              (s.stretch.alone (a.before ++ (new ++ a.behind)) (put_at Q w s.child_tree) (a.stood.alone new w h)));
        };
        exchanged = s.split.put hollow x ∙ ap (λ y. front ++ (y ++ back)) a.exchanged ∙ regroup front a.before left a.behind back;
      }

  lift_fails : (e : Edit) (P : Pointer) (s : Stands b t n cs ps) → Fails e s.child_tree P → Fails e (tree_in b cs) (t ∷ P)
  lift_fails e P s (inl none) = inl (below t P (tree_in b cs) s.child_tree None s.is none)
  lift_fails e P s (inr (v, leads, misses)) = inr (v, below t P (tree_in b cs) s.child_tree (Some v) s.is leads, misses)

  pub lift_makes : (e : Edit) (P : Pointer) (found : Option Node) → (s : Stands b t n cs ps) → Makes e (value_at n ps) s.child_tree P x found → Makes e (row_text b hollow ps) (tree_in b cs) (t ∷ P) (row_text b hollow (with_value n x ps)) found
  lift_makes e P None s (same, fails) =
      (s.split.put hollow x ∙ ap (λ y. s.split.before ++ (y ++ s.split.behind)) same ∙ sym (s.split.whole hollow), lift_fails e P s fails)
  lift_makes e P (Some out) s m = record {
    way = m.way;
    value = m.value;
    own = m.own;
    left = m.left;
    alters = lift_alters s (P ++ m.way) m.value m.own m.left m.alters;
    is_left = m.is_left;
    right = right_below m.way t P (tree_in b cs) s.child_tree s.is m.right;
  }

  pub lift_looks : (P : Pointer) (found : Option Shape) → (s : Stands b t n cs ps) → Looks s.child_tree P found → Looks (tree_in b cs) (t ∷ P) found
  lift_looks P found s shape = shape ∙ sym (ap (option_map shape_of) (below t P (tree_in b cs) s.child_tree (tree_at P s.child_tree) s.is refl))

-- what holds of the child, M, makes what holds of its object or array, N
pub lift : (b : Bool) (hollow t : List ℕ) (n : ℕ) (cs : List Child) (ps : List Piece) (x : List ℕ) (M N : List ℕ → Json → List ℕ → Type 0) → AllSuit b cs ps → IsWhitespace hollow → n < length ps → IsNumberOf b cs t n
    → ((s : Stands b t n cs ps) → M (value_at n ps) s.child_tree x → N (row_text b hollow ps) (tree_in b cs) (row_text b hollow (with_value n x ps)))
    → ((j : Json) → Says (value_at n ps) j → M (value_at n ps) j x) → (j : Json) → Says (row_text b hollow ps) j → N (row_text b hollow ps) j (row_text b hollow (with_value n x ps))
lift b hollow t n cs ps x M N h k l number lifts made j says =
    let s = stands b t n cs ps h l number in
    subst (λ i. N (row_text b hollow ps) i (row_text b hollow (with_value n x ps))) (one_tree (row_text b hollow ps) (tree_in b cs) j (row_says b hollow cs ps h k) says)
    (lifts s (made s.child_tree s.value.0))

-- where no child is, nothing is made
pub none_there : (b : Bool) (hollow t : List ℕ) (cs : List Child) (ps : List Piece) (e : Edit) (P : Pointer) → AllSuit b cs ps → IsWhitespace hollow → child t (tree_in b cs) ≡ None → (j : Json) → Says (row_text b hollow ps) j → (row_text b hollow ps ≡ row_text b hollow ps) × Fails e j (t ∷ P)
none_there b hollow t cs ps e P h k none j says =
    let same : tree_in b cs ≡ j = one_tree (row_text b hollow ps) (tree_in b cs) j (row_says b hollow cs ps h k) says in
    (refl, inl (ap (option_and_then (tree_at P)) (subst (λ i. child t i ≡ None) same none)))
