-- What a value put into a row makes of its text.
use Rattle.std.proofs.Common.{◌≡◌, ℕ, ◌<◌, ◌≤◌, ◌^◌, Bool, true, false, List, [], ◌++◌, length, option_and_then, Some, None, refl, sym, ap, ◌∙◌, subst, inl, inr, arith}
use Rattle.json.specs.Json.{Json}
use Rattle.json.specs.Print.{quoted}
use Rattle.jsonptr.specs.Indexes.{IsIndexText, IsNoIndexText, place_in}
use Rattle.jsonptr.specs.declared.index.Index.{Index}
use Rattle.json_text.specs.Added.{IsPutInto}
use Rattle.json_text.specs.Changed.{add_child, slot_in}
use Rattle.json_text.specs.Cuts.{AllSuit, IsWhitespace, Piece, row_text}
use Rattle.json_text.specs.Less.{IsNumberOf}
use Rattle.json_text.specs.Pointed.{tree_at}
use Rattle.json_text.specs.Rows.{Child, tree_in}
use Rattle.json_text.proofs.Along.{put_step}
use Rattle.json_lexemes.specs.Spelled.{Says}
use Rattle.json_lexemes.proofs.Nests.{one_tree}
use Rattle.json_text.proofs.Rows.Befores.{no_slot, no_slot_past, nothing_added, slot_by}
use Rattle.json_pieces.specs.Edits.{IsMemberPut, PutsIn}
use Rattle.json_pieces.specs.Nodes.{IsRow}
use Rattle.json_pieces.specs.PieceLists.{element_pushed, element_put, member_pushed, with_value}
use Rattle.json_pieces.proofs.Rows.Answers.{element_comes_before, element_comes_last, member_comes}
use Rattle.json_pieces.proofs.Rows.Numbers.{Stands, stands, value_at}
use Rattle.json_pieces.proofs.Rows.Parts.{suits_length}
use Rattle.json_pieces.proofs.Rows.Says.{row_says}
use Rattle.json_pieces.proofs.Rows.Takes.{Names, NamesNone}

-- the row b, hollow, ps has become the row d, hollow2, qs
abbrev pub PutsInRow : Bool → List ℕ → List Piece → List ℕ → List ℕ → Bool → List ℕ → List Piece → Bool → Type 0
PutsInRow b hollow ps t x d hollow2 qs done = (j : Json) → Says (row_text b hollow ps) j → PutsIn (row_text b hollow ps) j t x (row_text d hollow2 qs) done

-- a member that stands gets another value
member_is_put : (hollow t : List ℕ) (n : ℕ) (cs : List Child) (ps : List Piece) (x : List ℕ) → AllSuit true cs ps → IsWhitespace hollow → n < length ps → IsNumberOf true cs t n → (j : Json) → Says (row_text true hollow ps) j → IsMemberPut (row_text true hollow ps) j t x (row_text true hollow (with_value n x ps))
member_is_put hollow t n cs ps x h k l number j says =
    let s : Stands true t n cs ps = stands true t n cs ps h l number in
    subst (λ i. IsMemberPut (row_text true hollow ps) i t x (row_text true hollow (with_value n x ps))) (one_tree (row_text true hollow ps) (tree_in true cs) j (row_says true hollow cs ps h k) says)
    (record {
      value = s.child_tree;
      own = value_at n ps;
      alters = record {
        before = s.split.before;
        behind = s.split.behind;
        whole = s.split.whole hollow;
        leads = ap (option_and_then (tree_at [])) s.is;
        stood = record {
          says = s.stretch.says;
          tight = s.stretch.tight;
          alone = λ new w e. subst (Says (s.split.before ++ (new ++ s.split.behind))) (sym (put_step t [] w (tree_in true cs) s.child_tree s.is)) (s.stretch.alone new w e);
        };
        exchanged = s.split.put hollow x;
      };
      object = tt;
    })

pub member_exchanged : (b d : Bool) (m : ℕ) (hollow hollow2 : List ℕ) (ps qs : List Piece) (n : ℕ) (t x : List ℕ) → b ≡ true → d ≡ b → hollow2 ≡ hollow → IsRow b m hollow ps → qs ≡ with_value n x ps → Names b ps t n → n < length ps → PutsInRow b hollow ps t x d hollow2 qs true
member_exchanged false d m hollow hollow2 ps qs n t x y e f r is names l = cc
member_exchanged true d m hollow hollow2 ps qs n t x y e f r is names l = λ j says.
    inr (subst (λ c. IsMemberPut (row_text true hollow ps) j t x (row_text c hollow2 qs)) (sym e)
    (subst (λ h. IsMemberPut (row_text true hollow ps) j t x (row_text true h qs)) (sym f)
    (subst (λ q. IsMemberPut (row_text true hollow ps) j t x (row_text true hollow q)) (sym is) (member_is_put hollow t n r.cs ps x r.suit r.whitespace l (names r.cs r.suit) j says))))

pub member_new : (b d : Bool) (m : ℕ) (hollow hollow2 : List ℕ) (ps qs : List Piece) (k u x : List ℕ) → b ≡ true → d ≡ b → IsRow b m hollow ps → u ≡ x → qs ≡ member_pushed hollow (quoted k) u ps → NamesNone b ps k → PutsInRow b hollow ps k x d hollow2 qs true
member_new false d m hollow hollow2 ps qs k u x y e r f is none = cc
member_new true d m hollow hollow2 ps qs k u x y e r f is none = λ j says.
    inl (subst (λ c. IsPutInto (row_text true hollow ps) j k x (row_text c hollow2 qs)) (sym e)
    (subst (λ q. IsPutInto (row_text true hollow ps) j k x (row_text true hollow2 q)) (sym (is ∙ ap (λ v. member_pushed hollow (quoted k) v ps) f)) (member_comes hollow hollow2 k x r.cs ps r.suit r.whitespace (none r.cs r.suit) j says)))

pub element_last : (b d : Bool) (m : ℕ) (hollow hollow2 : List ℕ) (ps qs : List Piece) (k u x : List ℕ) (index : Index) (count n : ℕ) → b ≡ false → d ≡ b → IsRow b m hollow ps → u ≡ x → qs ≡ element_pushed hollow u ps → count ≡ length ps → IsIndexText k index → n ≡ place_in index count → n ≤ count → count ≤ n
    → PutsInRow b hollow ps k x d hollow2 qs true
element_last true d m hollow hollow2 ps qs k u x index count n y e r f is c i p l g = cc
element_last false d m hollow hollow2 ps qs k u x index count n y e r f is c i p l g = λ j says.
    let slot : slot_in k (length ps) ≡ Some n = ap (slot_in k) (sym c) ∙ slot_by k index count n i p l in
    inl (subst (λ z. IsPutInto (row_text false hollow ps) j k x (row_text z hollow2 qs)) (sym e)
    (subst (λ q. IsPutInto (row_text false hollow ps) j k x (row_text false hollow2 q)) (sym (is ∙ ap (λ v. element_pushed hollow v ps) f)) (element_comes_last hollow hollow2 k x r.cs ps n r.suit r.whitespace slot (omega (arith, c, l, g)) j says)))

pub element_before : (b d : Bool) (m : ℕ) (hollow hollow2 : List ℕ) (ps qs : List Piece) (k u x : List ℕ) (index : Index) (count n : ℕ) → b ≡ false → d ≡ b → IsRow b m hollow ps → u ≡ x → qs ≡ element_put n u ps → count ≡ length ps → IsIndexText k index → n ≡ place_in index count → n < count
    → PutsInRow b hollow ps k x d hollow2 qs true
element_before true d m hollow hollow2 ps qs k u x index count n y e r f is c i p l = cc
element_before false d m hollow hollow2 ps qs k u x index count n y e r f is c i p l = λ j says.
    let slot : slot_in k (length ps) ≡ Some n = ap (slot_in k) (sym c) ∙ slot_by k index count n i p (omega (arith, l)) in
    inl (subst (λ z. IsPutInto (row_text false hollow ps) j k x (row_text z hollow2 qs)) (sym e)
    (subst (λ q. IsPutInto (row_text false hollow ps) j k x (row_text false hollow2 q)) (sym (is ∙ ap (λ v. element_put n v ps) f)) (element_comes_before hollow hollow2 k x r.cs ps n r.suit r.whitespace slot (omega (arith, c, l)) j says)))

no_element_by : (b : Bool) (m : ℕ) (hollow : List ℕ) (ps : List Piece) (k x : List ℕ) → b ≡ false → IsRow b m hollow ps → slot_in k (length ps) ≡ None → PutsInRow b hollow ps k x b hollow ps false
no_element_by true m hollow ps k x y r e = cc
no_element_by false m hollow ps k x y r e = λ j says.
    (refl, λ w. subst (λ v. add_child k w v ≡ None) (one_tree (row_text false hollow ps) (tree_in false r.cs) j (row_says false hollow r.cs ps r.suit r.whitespace) says) (nothing_added k w r.cs (ap (slot_in k) (suits_length false r.cs ps r.suit) ∙ e)))

pub no_element_index : (b : Bool) (m : ℕ) (hollow : List ℕ) (ps : List Piece) (k x : List ℕ) → b ≡ false → IsRow b m hollow ps → length ps < 2 ^ 64 → IsNoIndexText k → PutsInRow b hollow ps k x b hollow ps false
no_element_index b m hollow ps k x y r l n = no_element_by b m hollow ps k x y r (no_slot k (length ps) l n)

pub no_element_past : (b : Bool) (m : ℕ) (hollow : List ℕ) (ps : List Piece) (k x : List ℕ) (index : Index) (count : ℕ) → b ≡ false → IsRow b m hollow ps → count ≡ length ps → IsIndexText k index → count < place_in index count → PutsInRow b hollow ps k x b hollow ps false
no_element_past b m hollow ps k x index count y r c i p = no_element_by b m hollow ps k x y r (ap (slot_in k) (sym c) ∙ no_slot_past k index count i p)
