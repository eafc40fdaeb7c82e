-- What the calls of the pieces make of the text.
use Rattle.std.proofs.Common.{◌≡◌, inl, inr, ℕ, List, [], ◌∷◌, ◌++◌, Bool, true, false, Option, Some, None, option_and_then, refl, sym, ap, ap₂, ◌∙◌, subst, append-nil}
use Rattle.std.proofs.lemmas.Option.{none-some}
use Rattle.std.specs.Prelude.{IfSome, option_map, is_some}
use Rattle.std.specs.Borrow.{Bor}
use Rattle.json.specs.Json.{Json}
use Rattle.jsonptr.specs.Text.{Pointer}
use Rattle.json_text.specs.Added.{IsAdded, IsPutInto}
use Rattle.json_text.specs.Less.{IsObject, IsWithout}
use Rattle.json_text.specs.Changed.{add_at, add_child, remove_at, remove_child}
use Rattle.json_text.specs.Cuts.{IsWhitespace}
use Rattle.json_text.specs.Pointed.{child, put_at, put_child, tree_at, IsStretch, IsWrittenAt}
use Rattle.json_text.specs.Listing.{IsTextOf}
use Rattle.json_text.specs.Removed.{IsRemoved}
use Rattle.json_text.specs.Replaced.{IsReplaced}
use Rattle.json_lexemes.specs.Spelled.{IsShallowText, Says, spelled}
use Rattle.json_lexemes.proofs.Nests.{one_tree}
use Rattle.json_text.proofs.Along.{put_step}
use Rattle.json_text.proofs.Readable.{part_says}
use Rattle.json_text.proofs.Rows.Adding.{add_in, add_is, member_put, put_is}
use Rattle.json_text.proofs.Rows.Removing.{remove_is, tree_below}
use Rattle.json_lexemes.proofs.Steps.{follows}
use Rattle.json_pieces.specs.Changes.{Adds, IsValueIn, Removes, Replaces}
use Rattle.json_pieces.specs.Edits.{Alters, Fails, IsLeft, IsRightWay, Makes}
use Rattle.json_pieces.specs.declared.edit.Edit.{Edit}
use Rattle.json_pieces.specs.declared.edit.Edit.TheVariants.{Put, Take, Insert}
use Rattle.json_pieces.specs.Nodes.{IsSound, IsWhole, text_bytes, tree_text, view}
use Rattle.json_pieces.specs.declared.node.Node.{Node}
use Rattle.json_pieces.specs.declared.node.Node.TheVariants.{Closed}
use Rattle.json_pieces.specs.Whole.{IsTaken, taken_text}
use Rattle.json_pieces.specs.declared.taken.Taken.{Taken}
use Rattle.json_pieces.specs.declared.text.Text.{Text}
use Rattle.json_pieces.proofs.Levels.{view_closed}
use Rattle.json_pieces.proofs.Lifts.{regroup}
use Rattle.json_text.proofs.Rows.Leads.{value_before}
use Rattle.json_pieces.proofs.Rows.Says.{whitespace_lead}

-- ---- with the whitespace around it

pub says_around : (a s b : List ℕ) (j : Json) → IsWhitespace a → IsWhitespace b → Says s j → Says (a ++ (s ++ b)) j
says_around a s b j h k says = (whitespace_lead a h).lexed (s ++ b) ∙ value_before s j b says (ap follows k.0) ∙ ap (λ l. spelled j ++ l) k.0 ∙ append-nil (spelled j)

alters_around : (a b s new : List ℕ) (j : Json) (P : Pointer) (v : Json) (own left : List ℕ) → IsWhitespace a → IsWhitespace b → Alters s j P v own left new → Alters (a ++ (s ++ b)) j P v own left (a ++ (new ++ b))
alters_around a b s new j P v own left h k r = record {
  before = a ++ r.before;
  behind = r.behind ++ b;
  whole = ap (λ x. a ++ (x ++ b)) r.whole ∙ regroup a r.before own r.behind b;
  leads = r.leads;
  stood = record {
    says = r.stood.says;
    tight = r.stood.tight;
    alone = λ u w says. subst (λ x. Says x (put_at P w j)) (regroup a r.before u r.behind b) (says_around a (r.before ++ (u ++ r.behind)) b (put_at P w j) h k (r.stood.alone u w says));
  };
  exchanged = ap (λ x. a ++ (x ++ b)) r.exchanged ∙ regroup a r.before left r.behind b;
}

makes_around : (e : Edit) (a b s new : List ℕ) (j : Json) (P : Pointer) (found : Option Node) → IsWhitespace a → IsWhitespace b → Makes e s j P new found → Makes e (a ++ (s ++ b)) j P (a ++ (new ++ b)) found
makes_around e a b s new j P None h k m = (ap (λ x. a ++ (x ++ b)) m.0, m.1)
makes_around e a b s new j P (Some out) h k m = record {
  way = m.way;
  value = m.value;
  own = m.own;
  left = m.left;
  alters = alters_around a b s new j (P ++ m.way) m.value m.own m.left h k m.alters;
  is_left = m.is_left;
  right = m.right;
}

pub made_around : (e : Edit) (a b s new : List ℕ) (P : Pointer) (found : Option Node) → IsWhitespace a → IsWhitespace b → (i : Json) × Says s i → ((j : Json) → Says s j → Makes e s j P new found) → (j : Json) → Says (a ++ (s ++ b)) j → Makes e (a ++ (s ++ b)) j P (a ++ (new ++ b)) found
made_around e a b s new P found h k (i, root) made j says =
    subst (λ x. Makes e (a ++ (s ++ b)) x P (a ++ (new ++ b)) found) (one_tree (a ++ (s ++ b)) i j (says_around a s b i h k root) says) (makes_around e a b s new i P found h k (made i root))

-- ---- replaced

abbrev IsValuePut : List ℕ → List ℕ → Json → Type 0
IsValuePut value put w = IsShallowText value w × IsWrittenAt value w [] put × Says put w

-- the value's stretch in its text
pub value_put : (value a put b : List ℕ) → (w : Json) × IsShallowText value w → value ≡ a ++ (put ++ b) → ((j : Json) → Says value j → IsStretch a put b j (λ x. x)) → IsValueIn value put
value_put value a put b (w, shallow) whole stretch = let s = stretch w shallow.0 in (w, shallow, (a, b, whole, (w, refl, s)), s.says)

replaced_by : (text value new put : List ℕ) (P : Pointer) (j w v : Json) (own : List ℕ) → IsShallowText text j → IsValuePut value put w → Alters text j P v own put new → IsReplaced text P value new
replaced_by text value new put P j w v own shallow (value_shallow, written, says) a = record {
  tree = j;
  says = shallow;
  wanted = w;
  value_says = value_shallow;
  before = a.before;
  old = own;
  behind = a.behind;
  whole = a.whole;
  stood = (v, a.leads, a.stood);
  put = put;
  written = written;
  exchanged = a.exchanged;
  after = subst (λ x. Says x (put_at P w j)) (sym a.exchanged) (a.stood.alone put w says);
}

pub replaced : (text value new : List ℕ) (x : Node) (P : Pointer) (found : Option Node) → (j : Json) × IsShallowText text j → IsValueIn value (tree_text (view x)) → ((j : Json) → Says text j → Makes (Put x) text j P new found) → Replaces text P value new (is_some found)
replaced text value new x P None (j, shallow) put made = let m = made j shallow.0 in ((j, shallow.0, by_fault m.1), m.0)
  where
    by_fault : Fails (Put x) j P → tree_at P j ≡ None
    by_fault (inl e) = e
    by_fault (inr (v, e, never)) = absurd never
replaced text value new x P (Some out) (j, shallow) (w, value_shallow, written, said) made =
    let m = made j shallow.0 in
    by_way m.way m.value m.own m.left m.alters m.is_left
  where
    by_way : (way : Pointer) (v : Json) (own left : List ℕ) → Alters text j (P ++ way) v own left new → IsLeft (Put x) way v own left (tree_text (view out)) → IsReplaced text P value new
    by_way (u ∷ way) v own left a is = absurd is
    by_way [] v own left a is = replaced_by text value new (tree_text (view x)) P j w v own shallow (value_shallow, written, said) (subst (λ y. Alters text j P v own y new) is (subst (λ Q. Alters text j Q v own left new) (append-nil P) a))

-- ---- removed

pub removed : (text new : List ℕ) (t : Bor (List ℕ)) (u : List ℕ) (F P : Pointer) (found : Option Node) → (j : Json) × IsShallowText text j → P ≡ F ++ (u ∷ []) → t.now ≡ u → ((j : Json) → Says text j → Makes (Take t) text j F new found) → Removes text P new (is_some found)
removed text new t u F P None (j, shallow) split name made = let m = made j shallow.0 in (inl (j, shallow.0, ap (λ Q. tree_at Q j) split ∙ tree_below F u j ∙ by_fault m.1), m.0)
  where
    by_fault : Fails (Take t) j F → option_and_then (child u) (tree_at F j) ≡ None
    by_fault (inl e) = ap (option_and_then (child u)) e
    by_fault (inr (v, e, none)) = ap (option_and_then (child u)) e ∙ subst (λ x. child x v ≡ None) name none
removed text new t u F P (Some out) (j, shallow) split name made =
    let m = made j shallow.0 in
    by_way m.way m.value m.own m.left m.alters m.is_left
  where
    by_way : (way : Pointer) (v : Json) (own left : List ℕ) → Alters text j (F ++ way) v own left new → IsLeft (Take t) way v own left (tree_text (view out)) → IsRemoved text P new
    by_way (w ∷ way) v own left a is = absurd is
    by_way [] v own left a is =
        let b = subst (λ Q. Alters text j Q v own left new) (append-nil F) a in
        let without = subst (λ x. IsWithout own v x left) name is.0 in
        record {
          tree = j;
          says = shallow;
          at = record { front = F; last = u; split = split; parent = v; leads = b.leads; before = b.before; own = own; behind = b.behind; whole = b.whole; stood = b.stood };
          others = without.0.0;
          less = left;
          cut = without.0.1;
          exchanged = b.exchanged;
          after = subst (λ x. Says x (remove_at P j)) (sym b.exchanged) (subst (Says (b.before ++ (left ++ b.behind))) (sym (ap (λ Q. remove_at Q j) split ∙ remove_is F u j v b.leads)) (b.stood.alone left (remove_child u v) without.1));
        }

-- ---- added

pub added : (text value new : List ℕ) (t : Bor (List ℕ)) (x : Node) (u : List ℕ) (F P : Pointer) (found : Option Node) → (j : Json) × IsShallowText text j → IsValueIn value (tree_text (view x)) → P ≡ F ++ (u ∷ []) → t.now ≡ u → ((j : Json) → Says text j → Makes (Insert t x) text j F new found) → Adds text P value new (is_some found)
added text value new t x u F P None (j, shallow) put split name made =
    let m = made j shallow.0 in
    ((j, shallow.0, λ y. ap (λ Q. add_at Q y j) split ∙ add_is F u y j ∙ by_fault y m.1), m.0)
  where
    by_fault : (y : Json) → Fails (Insert t x) j F → option_and_then (λ c. option_map (λ d. put_at F d j) (add_child u y c)) (tree_at F j) ≡ None
    by_fault y (inl e) = ap (option_and_then (λ c. option_map (λ d. put_at F d j) (add_child u y c))) e
    by_fault y (inr (v, e, none)) = ap (option_and_then (λ c. option_map (λ d. put_at F d j) (add_child u y c))) e ∙ ap (option_map (λ d. put_at F d j)) (subst (λ k. add_child k y v ≡ None) name (none y))
added text value new t x u F P (Some out) (j, shallow) (w, value_shallow, written, said) split name made =
    let m = made j shallow.0 in
    by_way m.way m.value m.own m.left m.alters m.is_left m.right
  where
    -- a member that stood
    exchanged : (v : Json) (own : List ℕ) → Alters text j (F ++ (u ∷ [])) v own (tree_text (view x)) new → (c : Json) → tree_at F j ≡ Some c → IsObject c → IsAdded text P value new
    exchanged v own a c leads object =
        let b : Alters text j P v own (tree_text (view x)) new = subst (λ Q. Alters text j Q v own (tree_text (view x)) new) (sym split) a in
        let done : IsReplaced text P value new = replaced_by text value new (tree_text (view x)) P j w v own shallow (value_shallow, written, said) b in
        let there : child u c ≡ Some v = ap (option_and_then (child u)) (sym leads) ∙ sym (tree_below F u j) ∙ a.leads in
        record {
          tree = j;
          says = shallow;
          wanted = w;
          value_says = value_shallow;
          bytes = inl done;
          sum = put_at P w j;
          added = add_in P F u w j c split leads ∙ ap (option_map (λ d. put_at F d j)) (member_put u w c v object there) ∙ ap Some (sym (ap (λ Q. put_at Q w j) split ∙ put_is F u w j c v leads there));
          after = subst (λ x. Says x (put_at P w j)) (sym b.exchanged) (b.stood.alone (tree_text (view x)) w said);
        }

    by_way : (way : Pointer) (v : Json) (own left : List ℕ) → Alters text j (F ++ way) v own left new → IsLeft (Insert t x) way v own left (tree_text (view out)) → IsRightWay way F j → IsAdded text P value new
    by_way (k ∷ l ∷ way) v own left a is right = absurd is
    by_way (k ∷ []) v own left a is right =
        exchanged v own (subst (λ y. Alters text j (F ++ (u ∷ [])) v own y new) is.1 (subst (λ y. Alters text j (F ++ (y ∷ [])) v own left new) (is.0 ∙ name) a)) right.0 right.1 right.2
    by_way [] v own left a is right =
        let b = subst (λ Q. Alters text j Q v own left new) (append-nil F) a in
        let into = subst (λ k. IsPutInto own v k (tree_text (view x)) left) name is in
        let (y, sums, whole) = into.alone (tree_text (view x)) w said in
        record {
          tree = j;
          says = shallow;
          wanted = w;
          value_says = value_shallow;
          bytes = inr (record {
            at = record { front = F; last = u; split = split; parent = v; leads = b.leads; before = b.before; own = own; behind = b.behind; whole = b.whole; stood = b.stood };
            put = tree_text (view x);
            written = written;
            grown = left;
            into = into;
            exchanged = b.exchanged;
          });
          sum = put_at F y j;
          added = add_in P F u w j v split b.leads ∙ ap (option_map (λ d. put_at F d j)) sums;
          after = subst (λ z. Says z (put_at F y j)) (sym b.exchanged) (b.stood.alone left y (subst (λ z. Says z y) (sym into.put_in) whole));
        }

-- the whole is replaced
pub root_added : (text new : List ℕ) (P : Pointer) (value : List ℕ) (done : Bool) → P ≡ [] → Replaces text P value new done → Adds text P value new done
root_added text new P value true e r = record { tree = r.tree; says = r.says; wanted = r.wanted; value_says = r.value_says; bytes = inl r; sum = r.wanted; added = ap (λ Q. add_at Q r.wanted r.tree) e; after = subst (λ Q. Says new (put_at Q r.wanted r.tree)) e r.after }
root_added text new P value false e r = absurd (none-some r.0.0 (sym r.0.2 ∙ ap (λ Q. tree_at Q r.0.0) e))

-- ---- a closed text

pub closed_whole : (s : Text) (a b : List ℕ) (j : Json) → IsStretch a (text_bytes s) b j (λ w. w) → IsWhole (view (Closed s))
closed_whole s a b j h = subst IsWhole (sym (view_closed s)) (tt, (j, (h.says, h.tight)))

pub closed_text : (s : Text) (a b t : List ℕ) → t ≡ a ++ (text_bytes s ++ b) → a ++ (tree_text (view (Closed s)) ++ b) ≡ t
closed_text s a b t e = ap (λ x. a ++ (tree_text x ++ b)) (view_closed s) ∙ sym e

-- of a text of its own
pub made_whole : (y : Text) (v a b : List ℕ) (j : Json) → text_bytes y ≡ v → IsStretch a v b j (λ w. w) → IsWhole (view (Closed y))
made_whole y v a b j e h = subst IsWhole (sym (view_closed y)) (tt, (j, subst (λ s. IsTextOf s j) (sym e) (h.says, h.tight)))

pub made_text : (x y z : Text) (a v b t : List ℕ) → text_bytes x ≡ a → text_bytes y ≡ v → text_bytes z ≡ b → t ≡ a ++ (v ++ b) → text_bytes x ++ (tree_text (view (Closed y)) ++ text_bytes z) ≡ t
made_text x y z a v b t e f g is = ap₂ (λ k l. k ++ (l ++ text_bytes z)) e (ap tree_text (view_closed y) ∙ f) ∙ ap (λ l. a ++ (v ++ l)) g ∙ sym is

-- ---- for the code, which hands on copies

pub replaced_at : (text new : List ℕ) (x : Node) (P Q : Pointer) (found : Option Node) (done : Bool) → (j : Json) × IsShallowText text j → Q ≡ P → done ≡ is_some found → ((j : Json) → Says text j → Makes (Put x) text j Q new found)
    → (value : List ℕ) → IsValueIn value (tree_text (view x)) → Replaces text P value new done
replaced_at text new x P Q found done shallow f is made value put =
    subst (Replaces text P value new) (sym is) (replaced text value new x P found shallow put (subst (λ T. (j : Json) → Says text j → Makes (Put x) text j T new found) f made))

pub removed_at : (text new : List ℕ) (t : Bor (List ℕ)) (u : List ℕ) (F Q P : Pointer) (found : Option Node) (done : Bool) → (j : Json) × IsShallowText text j → P ≡ F ++ (u ∷ []) → t.now ≡ u → Q ≡ F → done ≡ is_some found
    → ((j : Json) → Says text j → Makes (Take t) text j Q new found) → Removes text P new done
removed_at text new t u F Q P found done shallow split name f is made =
    subst (Removes text P new) (sym is) (removed text new t u F P found shallow split name (subst (λ T. (j : Json) → Says text j → Makes (Take t) text j T new found) f made))

pub added_at : (text new : List ℕ) (t : Bor (List ℕ)) (x : Node) (u : List ℕ) (F Q P : Pointer) (found : Option Node) (done : Bool) → (j : Json) × IsShallowText text j → P ≡ F ++ (u ∷ []) → t.now ≡ u → Q ≡ F → done ≡ is_some found → ((j : Json) → Says text j → Makes (Insert t x) text j Q new found)
    → (value : List ℕ) → IsValueIn value (tree_text (view x)) → Adds text P value new done
added_at text new t x u F Q P found done shallow split name f is made value put =
    subst (Adds text P value new) (sym is) (added text value new t x u F P found shallow put split name (subst (λ T. (j : Json) → Says text j → Makes (Insert t x) text j T new found) f made))

-- ---- a value that was taken out

only_child : (o : Option Json) → option_and_then (tree_at []) o ≡ o
only_child None = refl
only_child (Some v) = refl

-- what is written in a part of the text
child_written : (text before own behind : List ℕ) (j v : Json) (F : Pointer) (u out : List ℕ) → text ≡ before ++ (own ++ behind) → tree_at F j ≡ Some v → IsStretch before own behind v (λ w. put_at F w j) → IsWrittenAt own v (u ∷ []) out → IsWrittenAt text j (F ++ (u ∷ [])) out
child_written text before own behind j v F u out whole leads stretch (b, h, part, (w, at, inner)) =
    let there : child u v ≡ Some w = sym (only_child (child u v)) ∙ at in (
      before ++ b,
      h ++ behind,
      whole ∙ ap (λ x. before ++ (x ++ behind)) part ∙ regroup before b out h behind,
      (
        w,
        tree_below F u j ∙ ap (option_and_then (child u)) leads ∙ there,
        record {
          says = inner.says;
          tight = inner.tight;
          alone = λ new x says.
              subst (λ y. Says y (put_at (F ++ (u ∷ [])) x j)) (regroup before b new h behind)
              (subst (Says (before ++ ((b ++ (new ++ h)) ++ behind))) (sym (put_is F u x j v w leads there))
              (stretch.alone (b ++ (new ++ h)) (put_child u x v) (subst (Says (b ++ (new ++ h))) (put_step u [] x v w there) (inner.alone new x says))));
        },
      ),
    )

-- it is what stood where P leads
abbrev pub IsOutOf : List ℕ → Pointer → Node → Type 0
IsOutOf text P v = IsTaken (record { node = v }) × ((j : Json) × IsShallowText text j × IsWrittenAt text j P (tree_text (view v)))

pub taken_out : (text new : List ℕ) (t : Bor (List ℕ)) (u : List ℕ) (F Q P : Pointer) (found : Option Node) (v : Node) → found ≡ Some v → (j : Json) × IsShallowText text j → P ≡ F ++ (u ∷ []) → t.now ≡ u → Q ≡ F
    → ((j : Json) → Says text j → Makes (Take t) text j Q new found) → IfSome found (λ x. IsSound (view x)) → IsOutOf text P v
taken_out text new t u F Q P found v is (j, shallow) split name tokens made sound =
    let m = subst (λ T. Makes (Take t) text j T new (Some v)) tokens (subst (Makes (Take t) text j Q new) is (made j shallow.0)) in
    let written : IsWrittenAt text j (F ++ (u ∷ [])) (tree_text (view v)) = by_way m.way m.value m.own m.left m.alters m.is_left in
    let (before, behind, whole, (w, leads, stretch)) = written in
    (record { whole = (subst (λ o. IfSome o (λ x. IsSound (view x))) is sound, (w, (stretch.says, stretch.tight))); shallow = part_says text before (tree_text (view v)) behind (F ++ (u ∷ [])) j shallow (w, leads, stretch) }, (j, shallow, subst (λ T. IsWrittenAt text j T (tree_text (view v))) (sym split) written))
  where
    by_way : (way : Pointer) (c : Json) (own left : List ℕ) → Alters text j (F ++ way) c own left new → IsLeft (Take t) way c own left (tree_text (view v)) → IsWrittenAt text j (F ++ (u ∷ [])) (tree_text (view v))
    by_way (k ∷ way) c own left a out = absurd out
    by_way [] c own left a out =
        let b = subst (λ T. Alters text j T c own left new) (append-nil F) a in
        child_written text b.before own b.behind j c F u (tree_text (view v)) b.whole b.leads b.stood (subst (λ k. IsWrittenAt own c (k ∷ []) (tree_text (view v))) name out.1)

-- one that is made of a text
pub made_taken : (value a put b : List ℕ) (s : Text) → text_bytes s ≡ put → (w : Json) × IsShallowText value w → ((j : Json) → Says value j → IsStretch a put b j (λ x. x)) → IsTaken (record { node = Closed s })
made_taken value a put b s e (w, shallow) stretch =
    let r = stretch w shallow.0 in
    let same : tree_text (view (Closed s)) ≡ put = ap tree_text (view_closed s) ∙ e in
    record { whole = (subst IsSound (sym (view_closed s)) tt, (w, subst (λ x. IsTextOf x w) (sym same) (r.says, r.tight))); shallow = (w, subst (λ x. IsShallowText x w) (sym same) (r.says, shallow.1)) }

pub taken_value : (value text a put b : List ℕ) (s : Text) → value ≡ text → text_bytes s ≡ put → (w : Json) × IsShallowText value w → value ≡ a ++ (put ++ b) → ((j : Json) → Says value j → IsStretch a put b j (λ x. x)) → IsValueIn text (tree_text (view (Closed s)))
taken_value value text a put b s is e shallow whole stretch = subst (IsValueIn text) (sym (ap tree_text (view_closed s) ∙ e)) (subst (λ x. IsValueIn x put) is (value_put value a put b shallow whole stretch))

pub value_itself : (t : Taken) → IsTaken t → IsValueIn (taken_text t) (taken_text t)
value_itself t h =
    let s = taken_text t in
    let (w, shallow) = h.shallow in
    (w, shallow, ([], [], sym (append-nil s), (w, refl, record { says = shallow.0; tight = h.whole.1.1.1; alone = λ new x says. subst (λ y. Says y x) (sym (append-nil new)) says })), shallow.0)
