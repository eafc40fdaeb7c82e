-- The texts of the values in a row, one after another.
use Rattle.std.proofs.Common.{◌≡◌, ◌≤◌, ◌+◌, ℕ, zero, suc, ◌∷◌, ◌++◌, Bool, true, false, cond, List, [], length, take, drop, arith, ◌-◌, Option, Some, None, refl, sym, ap, ap₂, ◌∙◌, subst, append_assoc, append-nil, drop-drop, length-append}
use Rattle.std.proofs.lemmas.Option.{none-some}
use Rattle.std.proofs.lemmas.Slice.Eq.{bytes_eq-Decides}
use Rattle.std.specs.Prelude.{MatchOption, option_map}
use Rattle.std.specs.Str.{bytes_eq}
use Rattle.json.specs.Find.{get_member}
use Rattle.json.specs.Json.{Json, null, boolean, number, string, array, object}
use Rattle.json.specs.Lex.{Lexeme, colon, comma}
use Rattle.jsonptr.specs.PlaceLaws.{place_is_token}
use Rattle.jsonptr.specs.Places.{decimal_token}
use Rattle.json_lexemes.specs.Found.{IsCut, IsWithin, or_else}
use Rattle.json_text.specs.Less.{IsLeaf}
use Rattle.json_text.specs.Listing.{AllStand, AreStretchesIn, AreStretchesOfElements, AreStretchesOfMembers, AreTextsIn, AreTextsOf, IsListed, IsNameOf, IsTextOf, NamesAt, StandsAs, Texts}
use Rattle.json_lexemes.specs.Places.{left_at}
use Rattle.json_text.specs.Pointed.{put_child}
use Rattle.json_text.specs.Rows.{Child, IsPart, inside, last_named, members_in, others, tree_in}
use Rattle.json_lexemes.specs.Spelled.{spelled, Says}
use Rattle.json_text.specs.declared.parts.Part.{Part}
use Rattle.json_lexemes.specs.declared.span.Span.{Span}
use Rattle.json_text.specs.Rows.{slice}
use Rattle.json_text.proofs.Around.{named_is}
use Rattle.json_text.proofs.Rows.Less.{child_stands, chosen}
use Rattle.json_text.proofs.Rows.Trees.{named_at}
use Rattle.json_text.proofs.Stretches.{cut_out, slice_says, not_empty, stretch, tight}

-- a stretch that no lexeme leaves is a text of the value there
pub text_of : (t : List ℕ) (j v : Json) (ls : List Lexeme) (s : Span) → Says t j → IsCut t s → left_at t s.start ≡ spelled v ++ ls → left_at t s.end ≡ ls → s.start ≤ s.end → s.end ≤ length t → IsTextOf (slice t s.start s.end) v
text_of t j v ls s says c at left h w =
    let there = slice_says t s.start s.end v ls c.begins at left c.ends h w in
    (there, tight t j s says c (not_empty t s.start s.end v there) w)

-- the name's text of the first of these children
pub name_of : (t : List ℕ) (j : Json) (b : Bool) (c : Child) (cs : List Child) (s : Span) → Says t j → IsCut t s → NamesAt t b (c ∷ cs) s → s.start ≤ s.end → s.end ≤ length t → IsNameOf b (slice t s.start s.end) c.0
name_of t j true c cs s says cut n h w = text_of t j (string c.0) (colon ∷ (spelled c.1 ++ others true cs)) s says cut n.0 n.1 h w
name_of t j false c cs s says cut n h w = let e : s.end - s.start ≡ 0 = omega (arith, n) in ap (λ m. take m (drop s.start t)) e

-- ---- where they stand

-- the first of these children, which come after n others, stands at each token that names its number
value_stands : (t : List ℕ) (b : Bool) (cs more : List Child) (n : ℕ) (p : Part) (e : Texts) → Says t (tree_in b cs) → drop n cs ≡ more → IsPart t b more p → IsCut t p.value → IsWithin t p.value → e.1.now ≡ slice t p.value.start p.value.end → StandsAs t b cs n e
value_stands t b cs more n p e says ahead h vc vw ve = λ k at.
    let c = chosen b cs k n h.child h.more at (ahead ∙ h.is) in
    let s = stretch t (tree_in b cs) h.child.1 (others b h.more) (λ w. put_child k w (tree_in b cs)) p.value says c.around c.follow h.value h.behind vc vw.order vw.fits in
    cut_out t (tree_in b cs) (k ∷ []) p.value e.1.now vw ve (child_stands (take p.value.start t) (slice t p.value.start p.value.end) (drop p.value.end t) k (tree_in b cs) h.child.1 c.is s)

one_more : (t : List ℕ) (b : Bool) (cs : List Child) (n : ℕ) (fs : List Texts) (e : Texts) → AllStand t b cs n fs → StandsAs t b cs (n + length fs) e → AllStand t b cs n (fs ++ e ∷ [])
one_more t b cs n [] e h g = let at : n + 0 ≡ n = omega arith in (subst (λ m. StandsAs t b cs m e) at g, tt)
one_more t b cs n (f ∷ fs) e h g = let at : n + suc (length fs) ≡ suc n + length fs = omega arith in (h.0, one_more t b cs (suc n) fs e h.1 (subst (λ m. StandsAs t b cs m e) at g))

next_ahead : (cs more : List Child) (c : Child) (fs : List Texts) (e : Texts) → drop (length fs) cs ≡ c ∷ more → drop (length (fs ++ e ∷ [])) cs ≡ more
next_ahead cs more c fs e h =
    let size : length (fs ++ e ∷ []) ≡ length fs + 1 = omega (arith, length-append fs (e ∷ [])) in
    ap (λ n. drop n cs) size ∙ sym (drop-drop 1 (length fs) cs) ∙ ap (drop 1) h

-- ---- one more

pub record OneListed (t : List ℕ) (b : Bool) (cs : List Child) (new : List Texts) (p : Part) : Type 0 where
  pub rest : List Child
  pub next : MatchOption p.next (rest ≡ []) (λ g. left_at t g ≡ inside b rest)
  pub listed : IsListed t b cs rest new

pub last_one : {t : List ℕ} {b : Bool} {cs : List Child} {new : List Texts} {p : Part} → p.next ≡ None → (one : OneListed t b cs new p) → one.rest ≡ []
last_one {t} {b} is one = subst (λ o. MatchOption o (one.rest ≡ []) (λ g. left_at t g ≡ inside b one.rest)) is one.next

pub next_one : {t : List ℕ} {b : Bool} {cs : List Child} {new : List Texts} {p : Part} (g : ℕ) → p.next ≡ Some g → (one : OneListed t b cs new p) → left_at t g ≡ inside b one.rest
next_one {t} {b} g is one = subst (λ o. MatchOption o (one.rest ≡ []) (λ g. left_at t g ≡ inside b one.rest)) is one.next

pub one_listed : (t : List ℕ) (b : Bool) (cs more : List Child) (fs new : List Texts) (p : Part) (name : Span) (e : Texts) → Says t (tree_in b cs) → IsListed t b cs more fs → IsPart t b more p → IsCut t p.value → IsWithin t p.value
    → IsCut t name → IsWithin t name → NamesAt t b more name → e.0.now ≡ slice t name.start name.end → e.1.now ≡ slice t p.value.start p.value.end → new ≡ fs ++ e ∷ [] → OneListed t b cs new p
one_listed t b cs more fs new p name e says l h vc vw nc nw n ne ve is =
    let j = tree_in b cs in
    let number : length fs ≡ 0 + length fs = omega arith in
    let nm : IsNameOf b e.0.now h.child.0 = subst (λ x. IsNameOf b x h.child.0) (sym ne) (name_of t j b h.child h.more name says nc (subst (λ m. NamesAt t b m name) h.is n) nw.order nw.fits) in
    let vl : IsTextOf e.1.now h.child.1 = subst (λ x. IsTextOf x h.child.1) (sym ve) (text_of t j h.child.1 (others b h.more) p.value says vc h.value h.behind vw.order vw.fits) in
    record {
      rest = h.more;
      next = by_next p.next h.next;
      listed = subst (IsListed t b cs h.more) (sym is) (record {
        ahead = next_ahead cs h.more h.child fs e (l.ahead ∙ h.is);
        texts = λ es q. subst (λ x. AreTextsOf b x cs) (sym (append_assoc fs (e ∷ []) es)) (l.texts (e ∷ es) (subst (AreTextsOf b (e ∷ es)) (sym h.is) (nm, vl, q)));
        stand = one_more t b cs zero fs e l.stand (subst (λ m. StandsAs t b cs m e) number (value_stands t b cs more (length fs) p e says l.ahead h vc vw ve));
      });
    }
  where
    by_next : (o : Option ℕ) → MatchOption o (h.more ≡ []) (λ g. (left_at t g ≡ inside b h.more) × (others b h.more ≡ comma ∷ inside b h.more)) → MatchOption o (h.more ≡ []) (λ g. left_at t g ≡ inside b h.more)
    by_next None q = q
    by_next (Some g) q = q.0

pub all_listed : (t : List ℕ) (b : Bool) (cs rest : List Child) (fs : List Texts) → IsListed t b cs rest fs → rest ≡ [] → AreTextsOf b fs cs
all_listed t b cs rest fs l is = subst (λ x. AreTextsOf b x cs) (append-nil fs) (l.texts [] (subst (AreTextsOf b []) (sym is) tt))

members_of : (cs : List Child) (es : List Texts) → AreTextsOf true es cs → AreTextsIn (tree_in true cs) es
members_of [] [] h = tt
members_of (c ∷ cs) [] h = absurd h
members_of [] (e ∷ es) h = absurd h
members_of (c ∷ cs) (e ∷ es) h = (h.0, h.1, members_of cs es h.2)

elements_of : (cs : List Child) (es : List Texts) → AreTextsOf false es cs → AreTextsIn (tree_in false cs) es
elements_of [] [] h = tt
elements_of (c ∷ cs) [] h = absurd h
elements_of [] (e ∷ es) h = absurd h
elements_of (c ∷ cs) (e ∷ es) h = (h.0, h.1, elements_of cs es h.2)

pub as_tree : (b : Bool) (cs : List Child) (es : List Texts) (j : Json) → j ≡ tree_in b cs → AreTextsOf b es cs → AreTextsIn j es
as_tree true cs es j is h = subst (λ v. AreTextsIn v es) (sym is) (members_of cs es h)
as_tree false cs es j is h = subst (λ v. AreTextsIn v es) (sym is) (elements_of cs es h)

-- ---- where they stand in the tree

none_later : (k : List ℕ) (cs : List Child) → get_member k (members_in cs) ≡ None → last_named k cs ≡ None
none_later k cs none = by (last_named k cs) refl
  where
    by : (o : Option ℕ) → last_named k cs ≡ o → o ≡ None
    by None e = refl
    by (Some n) e = let q = named_at k cs n e in absurd (none-some q.child.1 (sym none ∙ sym (named_is k (members_in cs)) ∙ ap (option_map (λ p. p.0)) q.value))

named_here : (k : List ℕ) → bytes_eq k k ≡ true
named_here k = (bytes_eq-Decides k k).1 refl

last_here : (front : List Child) (c : Child) (more : List Child) → get_member c.0 (members_in more) ≡ None → last_named c.0 (front ++ c ∷ more) ≡ Some (length front)
last_here [] c more none = ap₂ (λ o b. or_else (option_map suc o) (cond b (Some zero) None)) (none_later c.0 more none) (named_here c.0)
last_here (d ∷ front) c more none = ap (λ o. or_else (option_map suc o) (cond (bytes_eq d.0 c.0) (Some zero) None)) (last_here front c more none)

members_stand : (t : List ℕ) (all front cs : List Child) (es : List Texts) → all ≡ front ++ cs → AllStand t true all (length front) es → AreStretchesOfMembers t (tree_in true all) es (members_in cs)
members_stand t all front cs [] is h = tt
members_stand t all front [] (e ∷ es) is h = tt
members_stand t all front (c ∷ cs) (e ∷ es) is h =
    let size : suc (length front) ≡ length (front ++ c ∷ []) = omega (arith, length-append front (c ∷ [])) in (
      λ none. h.0 c.0 (ap (last_named c.0) is ∙ last_here front c cs none),
      members_stand t all (front ++ c ∷ []) cs es (is ∙ sym (append_assoc front (c ∷ []) cs)) (subst (λ n. AllStand t true all n es) size h.1),
    )

elements_stand : (t : List ℕ) (cs : List Child) (n : ℕ) (es : List Texts) → AllStand t false cs n es → AreStretchesOfElements t (tree_in false cs) n es
elements_stand t cs n [] h = tt
elements_stand t cs n (e ∷ es) h = (h.0 (decimal_token n) ((place_is_token (decimal_token n) n).1 refl), elements_stand t cs (suc n) es h.1)

pub as_stretches : (t : List ℕ) (b : Bool) (cs : List Child) (es : List Texts) (j : Json) → j ≡ tree_in b cs → AllStand t b cs zero es → AreStretchesIn t j es
as_stretches t true cs es j is h = subst (λ v. AreStretchesIn t v es) (sym is) (members_stand t cs [] cs es refl h)
as_stretches t false cs es j is h = subst (λ v. AreStretchesIn t v es) (sym is) (elements_stand t cs zero es h)

-- ---- where there are none

pub none_within : (j : Json) → IsLeaf j → AreTextsIn j []
none_within null h = refl
none_within (boolean b) h = refl
none_within (number s) h = refl
none_within (string s) h = refl
none_within (array js) h = absurd h
none_within (object ms) h = absurd h

pub no_stretches : (t : List ℕ) (j : Json) → IsLeaf j → AreStretchesIn t j []
no_stretches t null h = tt
no_stretches t (boolean b) h = tt
no_stretches t (number s) h = tt
no_stretches t (string s) h = tt
no_stretches t (array js) h = absurd h
no_stretches t (object ms) h = absurd h
