-- The walk to the place of an edit, and the edit there.
use Rattle.std.proofs.Common.{◌≡◌, inl, inr, ℕ, ◌+◌, ◌<◌, ◌≤◌, ◌^◌, true, List, [], ◌∷◌, ◌++◌, length, get_or, map, Option, Some, None, option_and_then, refl, sym, ap, ◌∙◌, subst, arith, append-nil, Box}
use Rattle.std.specs.Box.{with_value as boxed_with}
use Rattle.std.specs.Prelude.{IfOk, IfSome, MatchOption, OnOk, Result, Ok, Err, is_some, slice_set}
use Rattle.std.specs.declared.alloc.AllocError.{AllocError}
use Rattle.std.proofs.lemmas.List.{get_or_default, set-get_or, set-set}
use Rattle.std.proofs.lemmas.Result.{IfOk-weaker}
use Rattle.std.specs.Borrow.{Bor}
use Rattle.std.specs.declared.alloc.Global.{Global}
use Rattle.json.specs.Json.{Json, null, boolean, number, string, array, object}
use Rattle.jsonptr.specs.Text.{Pointer}
use Rattle.json_text.specs.Cuts.{AllSuit, row_text}
use Rattle.json_text.specs.Less.{IsLeaf, IsNumberOf}
use Rattle.json_text.specs.Listing.{IsTextOf}
use Rattle.json_text.specs.Pointed.{child, put_at, tree_at, IsTight, IsWrittenAt, StandsBetween}
use Rattle.json_text.specs.Rows.{Child, tree_in}
use Rattle.json_lexemes.specs.Spelled.{Says}
use Rattle.long_vec.specs.Items.{items_of}
use Rattle.json_pieces.specs.Edits.{Alters, Exchanges, IsMade, Makes, PutsIn, TakesOut}
use Rattle.json_pieces.specs.Nodes.{IsOpened, IsSound, IsWhole, Tree, parts_of, row_view, shut, text_bytes, tree_text, view, wide}
use Rattle.json_pieces.specs.declared.edit.Edit.{Edit}
use Rattle.json_pieces.specs.declared.edit.Edit.TheVariants.{Read, Put, Take, Insert}
use Rattle.json_pieces.specs.declared.node.Node.{Node}
use Rattle.json_pieces.specs.declared.node.Node.TheVariants.{Open, Closed}
use Rattle.json_pieces.specs.declared.node.Row.{Row}
use Rattle.json_pieces.specs.declared.text.Text.{Text}
use Rattle.json_pieces.proofs.Levels.{row_sound, view_closed, view_open}
use Rattle.json_pieces.specs.PieceLists.{with_value}
use Rattle.json_pieces.proofs.Lifts.{lift, none_there}
use Rattle.json_pieces.proofs.Lists.{pieces_are, pieces_in, set_pieces, set_sound, value_sound, value_there}
use Rattle.json_pieces.proofs.Rows.Answers.{value_of_some}
use Rattle.json_pieces.proofs.Rows.Numbers.{Stands, has_text, put_size, value_at, value_fits}
use Rattle.json_pieces.proofs.Rows.Says.{row_is, tight_around}

-- ---- one level

pub row_whole : (r : Row) → IsSound (row_view r) → IsWhole (row_view r)
row_whole r h = (h, (tree_in r.named h.0.cs, row_is r.named (text_bytes r.hollow) h.0.cs _ h.0.suit h.0.whitespace))

pub open_whole : (node : Node) (b : Box Row Global) → node ≡ Open b → IsSound (row_view b.value) → IsWhole (view node)
open_whole node b e h = subst IsWhole (sym (ap view e ∙ view_open b)) (row_whole b.value h)

pub open_sound : (node : Node) (b : Box Row Global) → node ≡ Open b → IsWhole (view node) → IsSound (row_view b.value)
open_sound node b e h = row_sound node b e h.0

-- what is known of the value stays known where its row is seen as before
pub row_stays : (P : Tree → Type 0) (old new : Node) (b : Box Row Global) (r : Row) → old ≡ Open b → new ≡ Open (boxed_with b r) → row_view r ≡ row_view b.value → P (view old) → P (view new)
row_stays P old new b r is left same h = subst P (ap view is ∙ view_open b ∙ sym same ∙ sym (ap view left ∙ view_open (boxed_with b r))) h

-- what holds whether or not there was memory
pub known : {X E P : Type 0} (c : Result X E) → P → OnOk c P
known (Ok x) p = p
known (Err e) p = tt

-- a row was opened, and is another since
module _ (old opened new : Node) (copy : Row) (r s : Box Row Global) (same : tree_text (view opened) ≡ tree_text (view old)) (copied : copy ≡ r.value) (is : opened ≡ Open r) (left : new ≡ Open s) where
  old_text : tree_text (row_view copy) ≡ tree_text (view old)
  old_text = ap (λ x. tree_text (row_view x)) copied ∙ ap tree_text (sym (ap view is ∙ view_open r)) ∙ same

  new_text : tree_text (view new) ≡ tree_text (row_view s.value)
  new_text = ap tree_text (ap view left ∙ view_open s)

  pub open_text : tree_text (row_view s.value) ≡ tree_text (row_view copy) → tree_text (view new) ≡ tree_text (view old)
  open_text e = new_text ∙ e ∙ old_text

  pub open_grown : (room : ℕ) → IsSound (row_view copy) → IsSound (row_view s.value) → s.value.length ≤ copy.length + room → length (tree_text (view new)) ≤ length (tree_text (view old)) + room
  open_grown room h k e = omega (arith, e, h.0.size, k.0.size, ap length old_text, ap length new_text)

  pub open_room : (room : ℕ) → IsSound (row_view copy) → length (tree_text (view old)) + room < 2 ^ 64 → copy.length + room < 2 ^ 64
  open_room room h e = omega (arith, e, h.0.size, ap length old_text)

pub open_opened : (node : Node) (b : Box Row Global) → node ≡ Open b → IsOpened (view node)
open_opened node b e = subst IsOpened (sym (ap view e ∙ view_open b)) tt

-- what is made of the row, M, is made of the value
pub row_made : (M : List ℕ → Json → List ℕ → Type 0) (old opened new : Node) (copy : Row) (r s : Box Row Global) → tree_text (view opened) ≡ tree_text (view old) → copy ≡ r.value → opened ≡ Open r → new ≡ Open s
    → ((j : Json) → Says (tree_text (row_view copy)) j → M (tree_text (row_view copy)) j (tree_text (row_view s.value))) → (j : Json) → Says (tree_text (view old)) j → M (tree_text (view old)) j (tree_text (view new))
row_made M old opened new copy r s same copied is left given j says =
    let made : (j : Json) → Says (tree_text (row_view r.value)) j → M (tree_text (row_view r.value)) j (tree_text (row_view s.value)) =
    subst (λ x. (j : Json) → Says (tree_text (row_view x)) j → M (tree_text (row_view x)) j (tree_text (row_view s.value))) copied given in
    let text : tree_text (row_view r.value) ≡ tree_text (view old) = ap tree_text (sym (ap view is ∙ view_open r)) ∙ same in
    let after : tree_text (row_view s.value) ≡ tree_text (view new) = ap tree_text (sym (ap view left ∙ view_open s)) in
    subst (λ x. M (tree_text (view old)) j x) after (subst (λ x. M x j (tree_text (row_view s.value))) text (made j (subst (λ x. Says x j) (sym text) says)))

-- ---- where nothing can be made

leaf_child : (t : List ℕ) (j : Json) → IsLeaf j → child t j ≡ None
leaf_child t null h = refl
leaf_child t (boolean b) h = refl
leaf_child t (number s) h = refl
leaf_child t (string s) h = refl
leaf_child t (array js) h = absurd h
leaf_child t (object ms) h = absurd h

shut_leaf : (node : Node) (s : Text) (j : Json) → node ≡ Closed s → IsOpened (view node) → Says (tree_text (view node)) j → IsLeaf j
shut_leaf node s j e h says =
    let seen : view node ≡ shut (text_bytes s) = ap view e ∙ view_closed s in
    (subst IsOpened seen h) j (subst (λ x. Says (tree_text x) j) seen says)

pub nowhere : (e : Edit) (old opened : Node) (s : Text) (t : List ℕ) (P : Pointer) → tree_text (view opened) ≡ tree_text (view old) → opened ≡ Closed s → IsOpened (view opened) → (j : Json) → Says (tree_text (view old)) j → Makes e (tree_text (view old)) j (t ∷ P) (tree_text (view opened)) None
nowhere e old opened s t P same is h j says = (same, inl (ap (option_and_then (tree_at P)) (leaf_child t j (shut_leaf opened s j is h (subst (λ x. Says x j) (sym same) says)))))

-- ---- the edit of the value as a whole

pub whole_alters : (text : List ℕ) (j : Json) (new : List ℕ) → IsTextOf text j → Alters text j [] j text new new
whole_alters text j new h = record {
  before = [];
  behind = [];
  whole = sym (append-nil text);
  leads = refl;
  stood = record { says = h.0; tight = h.1; alone = λ u w says. subst (λ x. Says x w) (sym (append-nil u)) says };
  exchanged = sym (append-nil new);
}

text_of_tree : (t : Tree) (j : Json) → IsWhole t → Says (tree_text t) j → IsTextOf (tree_text t) j
text_of_tree t j h says = (says, h.1.1.1)

pub read_made : (old out : Node) (e : Edit) → IsWhole (view old) → e ≡ Read → tree_text (view out) ≡ tree_text (view old) → (j : Json) → Says (tree_text (view old)) j → Makes e (tree_text (view old)) j [] (tree_text (view old)) (Some out)
read_made old out e h is same j says =
    let text = tree_text (view old) in
    subst (λ x. Makes x text j [] text (Some out)) (sym is)
    (record { way = []; value = j; own = text; left = text; alters = whole_alters text j text (text_of_tree (view old) j h says); is_left = (refl, same); right = tt })

pub put_made : (old new x out : Node) (e : Edit) → IsWhole (view old) → e ≡ Put x → new ≡ x → (j : Json) → Says (tree_text (view old)) j → Makes e (tree_text (view old)) j [] (tree_text (view new)) (Some out)
put_made old new x out e h is left j says =
    let text = tree_text (view old) in
    subst (λ y. Makes y text j [] (tree_text (view new)) (Some out)) (sym is)
    (record { way = []; value = j; own = text; left = tree_text (view new); alters = whole_alters text j (tree_text (view new)) (text_of_tree (view old) j h says); is_left = ap (λ n. tree_text (view n)) left; right = tt })

-- ---- the edit where tokens lead, of a text that stays closed

-- the text of a value in the place of a stretch
module _ (text before own behind put new : List ℕ) (P : Pointer) (j : Json) (whole : text ≡ before ++ (own ++ behind)) (stands : StandsBetween before own behind j P) (is : new ≡ before ++ (put ++ behind)) where
  pub exchange_whole : (w : Json) → IsTextOf text j → IsTextOf put w → (k : Json) × IsTextOf new k
  exchange_whole w said put_said =
      let there : IsTextOf (before ++ (put ++ behind)) (put_at P w j) = (stands.2.alone put w put_said.0, tight_around before own behind put (subst IsTight whole said.1) put_said.1) in
      (put_at P w j, subst (λ s. IsTextOf s (put_at P w j)) (sym is) there)

  exchange_alters : Alters text j P stands.0 own put new
  exchange_alters = record { before = before; behind = behind; whole = whole; leads = stands.1; stood = stands.2; exchanged = is }

  pub exchange_is : Exchanges text j P put new
  exchange_is = (stands.0, own, exchange_alters)

pub exchanged_made : (text new : List ℕ) (x out : Node) (e : Edit) (P : Pointer) (j : Json) → e ≡ Put x → Exchanges text j P (tree_text (view x)) new → Makes e text j P new (Some out)
exchanged_made text new x out e P j is (v, own, a) =
    subst (λ y. Makes y text j P new (Some out)) (sym is)
    (record { way = []; value = v; own = own; left = tree_text (view x); alters = subst (λ Q. Alters text j Q v own (tree_text (view x)) new) (sym (append-nil P)) a; is_left = refl; right = tt })

pub copied_made : (text before own behind : List ℕ) (out : Node) (e : Edit) (P : Pointer) (j : Json) → text ≡ before ++ (own ++ behind) → StandsBetween before own behind j P → e ≡ Read → tree_text (view out) ≡ own → Makes e text j P text (Some out)
copied_made text before own behind out e P j whole stands is same =
    let a : Alters text j P stands.0 own own text = exchange_alters text before own behind own text P j whole stands whole in
    subst (λ y. Makes y text j P text (Some out)) (sym is)
    (record { way = []; value = stands.0; own = own; left = own; alters = subst (λ Q. Alters text j Q stands.0 own own text) (sym (append-nil P)) a; is_left = (refl, same); right = tt })

-- ---- in the object or the array

pub taken : (e : Edit) (t : Bor (List ℕ)) (r : Row) (new : List ℕ) (found : Option Node) → IsSound (row_view r) → e ≡ Take t → ((j : Json) → Says (tree_text (row_view r)) j → TakesOut (tree_text (row_view r)) j t.now new (is_some found))
    → IfSome found (λ v. (j : Json) → Says (tree_text (row_view r)) j → IsWrittenAt (tree_text (row_view r)) j (t.now ∷ []) (tree_text (view v))) → (j : Json) → Says (tree_text (row_view r)) j → Makes e (tree_text (row_view r)) j [] new found
taken e t r new found h is made at j says = subst (λ x. Makes x (tree_text (row_view r)) j [] new found) (sym is) (by_found found (made j says) at)
  where
    by_found : (o : Option Node) → TakesOut (tree_text (row_view r)) j t.now new (is_some o) → IfSome o (λ v. (i : Json) → Says (tree_text (row_view r)) i → IsWrittenAt (tree_text (row_view r)) i (t.now ∷ []) (tree_text (view v))) → Makes (Take t) (tree_text (row_view r)) j [] new o
    by_found (Some v) m w = record { way = []; value = j; own = tree_text (row_view r); left = new; alters = whole_alters (tree_text (row_view r)) j new (text_of_tree (row_view r) j (row_whole r h) says); is_left = (m, w j says); right = tt }
    by_found None m w = (m.0, inr (j, refl, m.1))

pub put_in : (e : Edit) (t : Bor (List ℕ)) (x : Node) (r : Row) (new : List ℕ) (found : Option Node) → IsSound (row_view r) → e ≡ Insert t x → ((j : Json) → Says (tree_text (row_view r)) j → PutsIn (tree_text (row_view r)) j t.now (tree_text (view x)) new (is_some found))
    → (j : Json) → Says (tree_text (row_view r)) j → Makes e (tree_text (row_view r)) j [] new found
put_in e t x r new found h is made j says = subst (λ y. Makes y (tree_text (row_view r)) j [] new found) (sym is) (by_found found (made j says))
  where
    either : PutsIn (tree_text (row_view r)) j t.now (tree_text (view x)) new true → (out : List ℕ) → IsMade (Insert t x) (tree_text (row_view r)) j [] new out
    either (inl m) out = record { way = []; value = j; own = tree_text (row_view r); left = new; alters = whole_alters (tree_text (row_view r)) j new (text_of_tree (row_view r) j (row_whole r h) says); is_left = m; right = tt }
    either (inr m) out = record { way = t.now ∷ []; value = m.value; own = m.own; left = tree_text (view x); alters = m.alters; is_left = (refl, refl); right = (j, refl, m.object) }

    by_found : (o : Option Node) → PutsIn (tree_text (row_view r)) j t.now (tree_text (view x)) new (is_some o) → Makes (Insert t x) (tree_text (row_view r)) j [] new o
    by_found (Some out) m = either m (tree_text (view out))
    by_found None m = (m.0, inr (j, refl, m.1))

-- the same of what a call answers
pub taken_by : (c : Result (Option Node) AllocError) (e : Edit) (t : Bor (List ℕ)) (r : Row) (new : List ℕ) → IsSound (row_view r) → e ≡ Take t → IfOk c (λ found. (j : Json) → Says (tree_text (row_view r)) j → TakesOut (tree_text (row_view r)) j t.now new (is_some found))
    → IfOk c (λ found. IfSome found (λ v. (j : Json) → Says (tree_text (row_view r)) j → IsWrittenAt (tree_text (row_view r)) j (t.now ∷ []) (tree_text (view v)))) → IfOk c (λ found. (j : Json) → Says (tree_text (row_view r)) j → Makes e (tree_text (row_view r)) j [] new found)
taken_by (Ok found) e t r new h is made at = taken e t r new found h is made at
taken_by (Err x) e t r new h is made at = tt

-- ---- a child

-- the value of this number is a whole one
pub value_whole : (r : Row) (n : ℕ) (v : Node) → IsSound (row_view r) → n < length (items_of r.values) → v ≡ get_or (items_of r.values) n v → IsWhole (view v)
value_whole r n v h l e =
    let at = has_text r.named n h.0.cs (pieces_in (items_of r.seams.all) (items_of r.values)) h.0.suit (omega (arith, pieces_are (items_of r.seams.all) (items_of r.values) h.1, l)) in
    (value_sound (items_of r.seams.all) (items_of r.values) n v h.1 l e, (at.0, subst (λ x. IsTextOf x at.0) (value_there (items_of r.seams.all) (items_of r.values) n v h.1 l e) at.1))

pub value_low : (r : Row) (n m : ℕ) (v : Node) → IsSound (row_view r) → n < length (items_of r.values) → v ≡ get_or (items_of r.values) n v → m ≡ length (tree_text (view v)) → m ≤ r.length
value_low r n m v h l e is =
    let low = value_fits r.named (text_bytes r.hollow) n r.length (pieces_in (items_of r.seams.all) (items_of r.values)) (omega (arith, pieces_are (items_of r.seams.all) (items_of r.values) h.1, l)) h.0.size in
    omega (arith, low, is, ap length (value_there (items_of r.seams.all) (items_of r.values) n v h.1 l e))

-- the row with another value there
module _ (r : Row) (n : ℕ) (v w : Node) (h : IsSound (row_view r)) (l : n < length (items_of r.values)) (e : v ≡ get_or (items_of r.values) n v) where
  count : n < length (pieces_in (items_of r.seams.all) (items_of r.values))
  count = omega (arith, pieces_are (items_of r.seams.all) (items_of r.values) h.1, l)

  set_text : row_text r.named (text_bytes r.hollow) (pieces_in (items_of r.seams.all) (slice_set (items_of r.values) n w)) ≡ row_text r.named (text_bytes r.hollow) (with_value n (tree_text (view w)) (pieces_in (items_of r.seams.all) (items_of r.values)))
  set_text = ap (row_text r.named (text_bytes r.hollow)) (set_pieces (items_of r.seams.all) (items_of r.values) n w)

  pub set_is_sound : (k : ℕ) → IsWhole (view w) → k + length (tree_text (view v)) ≡ r.length + length (tree_text (view w)) → IsSound (wide r.named k (text_bytes r.hollow) (parts_of (items_of r.seams.all) (map view (slice_set (items_of r.values) n w))))
  set_is_sound k whole size =
      let old = pieces_in (items_of r.seams.all) (items_of r.values) in
      let x = tree_text (view w) in
      let there : length (value_at n old) ≡ length (tree_text (view v)) = ap length (value_there (items_of r.seams.all) (items_of r.values) n v h.1 l e) in
      let fits : k ≡ length (row_text r.named (text_bytes r.hollow) (with_value n x old)) = put_size r.named (text_bytes r.hollow) n r.length k old x count h.0.size (omega (arith, size, there)) in
      let some = value_of_some r.named old n x whole.1.0 (h.0.cs, h.0.suit) count whole.1.1 in (
        record {
          cs = some.0;
          suit = subst (AllSuit r.named some.0) (sym (set_pieces (items_of r.seams.all) (items_of r.values) n w)) some.1;
          whitespace = h.0.whitespace;
          size = fits ∙ ap length (sym set_text);
        },
        set_sound (items_of r.seams.all) (items_of r.values) n w h.1 whole.0,
      )

  -- what is made of the value, M, makes N of the row
  pub set_makes : (M N : List ℕ → Json → List ℕ → Type 0) (t : List ℕ)
      → ((cs : List Child) → AllSuit r.named cs (pieces_in (items_of r.seams.all) (items_of r.values)) → IsNumberOf r.named cs t n)
      → ((cs : List Child) (s : Stands r.named t n cs (pieces_in (items_of r.seams.all) (items_of r.values))) → M (value_at n (pieces_in (items_of r.seams.all) (items_of r.values))) s.child_tree (tree_text (view w))
      → N (tree_text (row_view r)) (tree_in r.named cs) (row_text r.named (text_bytes r.hollow) (with_value n (tree_text (view w)) (pieces_in (items_of r.seams.all) (items_of r.values)))))
      → ((j : Json) → Says (tree_text (view v)) j → M (tree_text (view v)) j (tree_text (view w))) → (j : Json) → Says (tree_text (row_view r)) j
      → N (tree_text (row_view r)) j (row_text r.named (text_bytes r.hollow) (pieces_in (items_of r.seams.all) (slice_set (items_of r.values) n w)))
  set_makes M N t names lifts made j says =
      let old = pieces_in (items_of r.seams.all) (items_of r.values) in
      let x = tree_text (view w) in
      let there : value_at n old ≡ tree_text (view v) = value_there (items_of r.seams.all) (items_of r.values) n v h.1 l e in
      let inner : (j : Json) → Says (value_at n old) j → M (value_at n old) j x = subst (λ y. (j : Json) → Says y j → M y j x) (sym there) made in
      subst (λ y. N (tree_text (row_view r)) j y) (sym set_text)
      (lift r.named (text_bytes r.hollow) t n h.0.cs old x M N h.0.suit h.0.whitespace count (names h.0.cs h.0.suit) (lifts h.0.cs) inner j says)

  -- another with the same text
  pub set_same : tree_text (view w) ≡ tree_text (view v) → row_text r.named (text_bytes r.hollow) (pieces_in (items_of r.seams.all) (slice_set (items_of r.values) n w)) ≡ tree_text (row_view r)
  set_same same =
      let old = pieces_in (items_of r.seams.all) (items_of r.values) in
      set_text ∙ ap (λ x. row_text r.named (text_bytes r.hollow) (with_value n x old)) same
      ∙ ap (row_text r.named (text_bytes r.hollow)) (sym (set_pieces (items_of r.seams.all) (items_of r.values) n v) ∙ ap (pieces_in (items_of r.seams.all)) (ap (slice_set (items_of r.values) n) e ∙ set-get_or (items_of r.values) n v))

pub one_value : (vs : List Node) (n : ℕ) (v w : Node) → n < length vs → v ≡ get_or vs n v → w ≡ get_or vs n w → v ≡ w
one_value vs n v w l e f = e ∙ get_or_default vs n v w l ∙ sym f

-- a value that was out, and another in its place for that while
pub put_back : (vs between new : List Node) (n : ℕ) (a w : Node) → between ≡ slice_set vs n a → new ≡ slice_set between n w → new ≡ slice_set vs n w
put_back vs between new n a w e f = f ∙ ap (λ l. slice_set l n w) e ∙ set-set vs n a w

-- a number that was found
pub number_within : (r : Row) (found : Option ℕ) (n : ℕ) → found ≡ Some n → IfSome found (λ k. k < length (items_of r.values)) → n < length (items_of r.values)
number_within r found n is within = subst (λ o. IfSome o (λ k. k < length (items_of r.values))) is within

-- and that it is of the token
pub number_found : (r : Row) (t : List ℕ) (found : Option ℕ) (n : ℕ) → found ≡ Some n
    → ((cs : List Child) → AllSuit r.named cs (pieces_in (items_of r.seams.all) (items_of r.values)) → MatchOption found (child t (tree_in r.named cs) ≡ None) (IsNumberOf r.named cs t))
    → (cs : List Child) → AllSuit r.named cs (pieces_in (items_of r.seams.all) (items_of r.values)) → IsNumberOf r.named cs t n
number_found r t found n is told cs suit = subst (λ o. MatchOption o (child t (tree_in r.named cs) ≡ None) (IsNumberOf r.named cs t)) is (told cs suit)

-- no number was
pub number_none : (r : Row) (t : List ℕ) (found : Option ℕ) → found ≡ None
    → ((cs : List Child) → AllSuit r.named cs (pieces_in (items_of r.seams.all) (items_of r.values)) → MatchOption found (child t (tree_in r.named cs) ≡ None) (IsNumberOf r.named cs t))
    → (cs : List Child) → AllSuit r.named cs (pieces_in (items_of r.seams.all) (items_of r.values)) → child t (tree_in r.named cs) ≡ None
number_none r t found is told cs suit = subst (λ o. MatchOption o (child t (tree_in r.named cs) ≡ None) (IsNumberOf r.named cs t)) is (told cs suit)

pub none_made : (e : Edit) (t : List ℕ) (P : Pointer) (r : Row) → IsSound (row_view r) → ((cs : List Child) → AllSuit r.named cs (pieces_in (items_of r.seams.all) (items_of r.values)) → child t (tree_in r.named cs) ≡ None) → (j : Json) → Says (tree_text (row_view r)) j → Makes e (tree_text (row_view r)) j (t ∷ P) (tree_text (row_view r)) None
none_made e t P r h none j says =
    none_there r.named (text_bytes r.hollow) t h.0.cs (pieces_in (items_of r.seams.all) (items_of r.values)) e P h.0.suit h.0.whitespace (none h.0.cs h.0.suit) j says

-- the same of what a call answers, by the tokens that it was given
pub row_made_at : {X : Type 0} (c : Result X AllocError) (M : Pointer → X → List ℕ → Json → List ℕ → Type 0) (old opened new : Node) (copy : Row) (r s : Box Row Global) (P Q : Pointer) → Q ≡ P → tree_text (view opened) ≡ tree_text (view old) → copy ≡ r.value → opened ≡ Open r → new ≡ Open s
    → IfOk c (λ found. (j : Json) → Says (tree_text (row_view copy)) j → M P found (tree_text (row_view copy)) j (tree_text (row_view s.value))) → IfOk c (λ found. (j : Json) → Says (tree_text (view old)) j → M Q found (tree_text (view old)) j (tree_text (view new)))
row_made_at c M old opened new copy r s P Q tokens same copied is left given =
    IfOk-weaker c _ _ (λ found made j says. subst (λ T. M T found (tree_text (view old)) j (tree_text (view new))) (sym tokens) (row_made (M P found) old opened new copy r s same copied is left made j says)) given
