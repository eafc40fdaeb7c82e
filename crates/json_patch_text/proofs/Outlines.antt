-- An operation's outline.
use Rattle.std.proofs.Common.{◌≡◌, ◌≢◌, ◌<◌, ◌≤◌, ◌+◌, [], length, drop, get_or, Bor, BTreeMap, ℕ, List, ◌∷◌, Bool, true, false, cond, bytes_eq, Option, Some, None, option_map, refl, sym, ap, ap₂, ◌∙◌, subst, arith, Result, Ok, Err, String, Global}
use Rattle.std.proofs.lemmas.Slice.Eq.{bytes_eq-Decides}
use Rattle.std.specs.Prelude.{IfSome, codes, if◌then◌else◌, unwrap_or, IsErrAnd}
use Rattle.std.proofs.lemmas.List.{drop_more}
use Rattle.std.proofs.lemmas.Option.{none-some, same_Some}
use Rattle.json.specs.Find.{as_str}
use Rattle.json.specs.Find as tree
use Rattle.json.specs.Json as json
use Rattle.json.specs.Json.{Json, null, boolean, number, string, array, object, Members, no_members, member}
use Rattle.json.specs.Tree.{members_depth}
use Rattle.serde_json.specs.Data as values
use Rattle.serde_json.specs.Data.{Data, put}
use Rattle.serde_json.specs.Find.{get, get_member}
use Rattle.serde_json.specs.View.{view, members_view}
use Rattle.serde_json.specs.declared.value.Value.{Value, Object}
use Rattle.serde_json.proofs.Views.{get_member-put, get_member-put_other, view-Object}
use Rattle.json_patch_document.specs.Document.{IsDocument}
use Rattle.json_patch_operation.specs.Operation as document
use Rattle.json_patch_operation.specs.Operation.{Operation}
use Rattle.json_patch_operation.specs.PatchValue.{IfUnreadAlone, IsObject, OfKind, ReadsOperation, RefusesOperation}
use Rattle.json_patch_operation.specs.declared.read_error.ReadFault.{ReadFault}
use Rattle.json_patch_operation.specs.declared.read_error.ReadFault.TheVariants.{Refused, Memory}
use Rattle.json_patch_operation.specs.declared.read_error.ReadKind.{ReadKind}
use Rattle.json_patch_text.specs.Operations.{HasFields, add, remove, replace, move, copy, test, pointer_tree}
use Rattle.json_patch_text.specs.Outline.{outline, AreFields, Asked, HasField, IsAhead, IsLast, IsObjectTree, IsOutline, IsReadAs, IsWritten, field_of, its_from, its_op, its_path, its_value, name_asked, put_if, bytes_in}
use Rattle.json_patch_text.specs.TextOperations.{IsTexted, IsValueText}
use Rattle.json_patch_text.specs.declared.operation.TextOperation.{TextOperation}
use Rattle.json_patch_text.specs.declared.operation.TextOperation.TheVariants.{Add, Remove, Replace, Move, Copy, Test}
use Rattle.json_patch_text.specs.declared.reading.Fields.{Fields}
use Rattle.json_patch_text.proofs.Alike.{Alike, refuses_alike}
use Rattle.json_patch_text.proofs.Patches.{there, string_back, back, text_back, none_back}
use Rattle.json_reading.specs.Reading.{Reading}
use Rattle.json_reading.specs.Trees.{data_of}
use Rattle.json_reading.proofs.Documents.{IsDocument-data_of, at_name}
use Rattle.json_text.specs.Listing.{IsTextOf, Texts, AreStretchesIn, AreStretchesOfMembers, AreTextsIn, AreTextsOfMembers, shape_of}
use Rattle.json_text.specs.declared.listing.Shape.TheVariants.{Object as ObjectShape}
use Rattle.json_text.specs.Pointed.{IsWrittenAt}
use Rattle.json_lexemes.specs.Spelled.{IsShallowText}
use Rattle.jsonptr.specs.Text.{Pointer}

-- ---- the texts of its members

valued_at : (k l : List ℕ) (w : Json) (o last : Option Json) (b : Bool) → tree.later_or (tree.later_or o (cond b (Some w) None)) last ≡ tree.later_or o (tree.later_or (cond b (Some w) None) last)
valued_at k l w (Some x) last b = refl
valued_at k l w None last true = refl
valued_at k l w None last false = refl

written_at : (w : Json) (t : List ℕ) (last : Option Json) (s : Option (List ℕ)) (b : Bool) → IsValueText t w → IsWritten last s → IsWritten (tree.later_or (cond b (Some w) None) last) (if b then Some t else s)
written_at w t last s true h g = (w, refl, h)
written_at w t last s false h g = g

-- where the last value that was seen stands, if none is ahead that has its name
abbrev Stands : List ℕ → Json → Members → List ℕ → Option (List ℕ) → Type 0
Stands text j ahead k s = IfSome s (λ t. tree.get_member k ahead ≡ None → IsWrittenAt text j (k ∷ []) t)

stands_at : (text : List ℕ) (j : Json) (l : List ℕ) (w : Json) (more : Members) (k t : List ℕ) (s : Option (List ℕ)) (b : Bool) → b ≡ bytes_eq l k → (tree.get_member l more ≡ None → IsWrittenAt text j (l ∷ []) t) → Stands text j (member l w more) k s
    → Stands text j more k (if b then Some t else s)
stands_at text j l w more k t s true e here before = λ none.
    let is : l ≡ k = (bytes_eq-Decides l k).0 (sym e) in
    subst (λ x. IsWrittenAt text j (x ∷ []) t) is (here (ap (λ x. tree.get_member x more) is ∙ none))
stands_at text j l w more k t None false e here before = tt
stands_at text j l w more k t (Some u) false e here before = λ none. before (ap₂ (λ o b. tree.later_or o (cond b (Some w) None)) none (sym e))

one_seen : (text : List ℕ) (j : Json) (all : Members) (l : List ℕ) (w : Json) (more : Members) (k t : List ℕ) (s : Option (List ℕ)) → IsLast text j all (member l w more) k s → IsValueText t w → (tree.get_member l more ≡ None → IsWrittenAt text j (l ∷ []) t)
    → IsLast text j all more k (if bytes_eq l k then Some t else s)
one_seen text j all l w more k t s h said here = record {
  last = tree.later_or (cond (bytes_eq l k) (Some w) None) h.last;
  found = h.found ∙ valued_at l k w (tree.get_member k more) h.last (bytes_eq l k);
  written = written_at w t h.last s (bytes_eq l k) said h.written;
  stands = stands_at text j l w more k t s (bytes_eq l k) refl here h.stands;
}

chosen : (b : Bool) (x : Bor (List ℕ)) (found : Option (Bor (List ℕ))) → (if b then Some x.now else bytes_in found) ≡ bytes_in (if b then Some x else found)
chosen true x found = refl
chosen false x found = refl

-- g is f with one member more
abbrev Follows : Texts → Fields → Fields → Type 0
Follows e f g = (a : Asked) (l : List ℕ) → IsTextOf e.0.now (string l) → field_of g a ≡ (if bytes_eq l (name_asked a) then Some e.1.now else field_of f a)

next_seen : (text : List ℕ) (j : Json) (e : Texts) (es : List Texts) (f g : Fields) → IsAhead text j (e ∷ es) f → Follows e f g → IsAhead text j es g
next_seen text j e es f g h is = by h.rest h.texts h.shallow h.stretches h.seen
  where
    by : (rest : Members) → AreTextsOfMembers (e ∷ es) rest → members_depth rest ≤ json.max_depth → AreStretchesOfMembers text j (e ∷ es) rest → ((a : Asked) → IsLast text j h.all rest (name_asked a) (field_of f a)) → IsAhead text j es g
    by no_members texts low stretches seen = absurd texts
    by (member l w more) texts low stretches seen =
        let shallow : IsShallowText e.1.now w = (texts.1.0, omega (arith, low)) in
        record {
          all = h.all;
          rest = more;
          is = h.is;
          texts = texts.2;
          shallow = omega (arith, low);
          stretches = stretches.1;
          seen = λ a. subst (IsLast text j h.all more (name_asked a)) (sym (is a l texts.0)) (one_seen text j h.all l w more (name_asked a) e.1.now (field_of f a) (seen a) (shallow, texts.1.1) stretches.0);
        }

pub latest_is : (e : Texts) (f g : Fields) → ((l : List ℕ) → IsTextOf e.0.now (string l) → g.op ≡ (if bytes_eq l (codes "op") then Some e.1 else f.op)) → ((l : List ℕ) → IsTextOf e.0.now (string l) → g.from ≡ (if bytes_eq l (codes "from") then Some e.1 else f.from))
    → ((l : List ℕ) → IsTextOf e.0.now (string l) → g.path ≡ (if bytes_eq l (codes "path") then Some e.1 else f.path)) → ((l : List ℕ) → IsTextOf e.0.now (string l) → g.value ≡ (if bytes_eq l (codes "value") then Some e.1 else f.value)) → Follows e f g
latest_is e f g o r p v its_op l h = ap bytes_in (o l h) ∙ sym (chosen (bytes_eq l (codes "op")) e.1 f.op)
latest_is e f g o r p v its_from l h = ap bytes_in (r l h) ∙ sym (chosen (bytes_eq l (codes "from")) e.1 f.from)
latest_is e f g o r p v its_path l h = ap bytes_in (p l h) ∙ sym (chosen (bytes_eq l (codes "path")) e.1 f.path)
latest_is e f g o r p v its_value l h = ap bytes_in (v l h) ∙ sym (chosen (bytes_eq l (codes "value")) e.1 f.value)

pub member_seen : (text : List ℕ) (j : Json) (es : List Texts) (i : ℕ) (d : Texts) (f g : Fields) → IsAhead text j (drop i es) f → i < length es → Follows (get_or es i d) f g → IsAhead text j (drop (i + 1) es) g
member_seen text j es i d f g h low is = next_seen text j (get_or es i d) (drop (i + 1) es) f g (subst (λ x. IsAhead text j x f) (drop_more es i d low) h) is

none_asked : (f : Fields) → f.op ≡ None → f.from ≡ None → f.path ≡ None → f.value ≡ None → (a : Asked) → field_of f a ≡ None
none_asked f o r p v its_op = ap bytes_in o
none_asked f o r p v its_from = ap bytes_in r
none_asked f o r p v its_path = ap bytes_in p
none_asked f o r p v its_value = ap bytes_in v

-- of an object all members are ahead
pub none_seen : (text : List ℕ) (j : Json) (es : List Texts) (f : Fields) → IsShallowText text j → shape_of j ≡ ObjectShape → AreTextsIn j es → AreStretchesIn text j es → ((a : Asked) → field_of f a ≡ None) → IsAhead text j es f
none_seen text (object ms) es f says shape h stretches none = record {
  all = ms;
  rest = ms;
  is = refl;
  texts = h;
  shallow = omega (arith, says.1);
  stretches = stretches;
  seen = λ a. subst (IsLast text (object ms) ms ms (name_asked a)) (sym (none a)) (record { last = None; found = unchanged (tree.get_member (name_asked a) ms); written = refl; stands = tt });
}
  where
    unchanged : (o : Option Json) → o ≡ tree.later_or o None
    unchanged None = refl
    unchanged (Some w) = refl
none_seen text null es f says shape h stretches none = cc
none_seen text (boolean b) es f says shape h stretches none = cc
none_seen text (number s) es f says shape h stretches none = cc
none_seen text (string s) es f says shape h stretches none = cc
none_seen text (array js) es f says shape h stretches none = cc

no_rest : (es : List Texts) (rest : Members) → es ≡ [] → AreTextsOfMembers es rest → rest ≡ no_members
no_rest [] no_members e h = refl
no_rest [] (member k w ms) e h = absurd h
no_rest (x ∷ es) rest e h = cc

has_field : (text : List ℕ) (all : Members) (k : List ℕ) (s : Option (List ℕ)) → IsLast text (object all) all no_members k s → HasField text (object all) k s
has_field text all k None h = h.found ∙ h.written
has_field text all k (Some t) h = let (w, is, said) = h.written in (w, h.found ∙ is, said, h.stands refl)

pub all_seen : (text : List ℕ) (j : Json) (es : List Texts) (f : Fields) → IsAhead text j es f → es ≡ [] → AreFields text j f
all_seen text j es f h e a =
    let none : h.rest ≡ no_members = no_rest es h.rest e h.texts in
    let seen : IsLast text j h.all no_members (name_asked a) (field_of f a) = subst (λ r. IsLast text j h.all r (name_asked a) (field_of f a)) none (h.seen a) in
    subst (λ i. HasField text i (name_asked a) (field_of f a)) (sym h.is) (has_field text h.all (name_asked a) (field_of f a) (subst (λ i. IsLast text i h.all no_members (name_asked a) (field_of f a)) h.is seen))

-- what is no object has no members
pub nothing_had : (k : List ℕ) (j : Json) → shape_of j ≢ ObjectShape → tree.get k j ≡ None
nothing_had k (object ms) n = absurd (n refl)
nothing_had k null n = refl
nothing_had k (boolean b) n = refl
nothing_had k (number s) n = refl
nothing_had k (string s) n = refl
nothing_had k (array js) n = refl

pub no_fields : (text : List ℕ) (j : Json) (f : Fields) → shape_of j ≢ ObjectShape → ((a : Asked) → field_of f a ≡ None) → AreFields text j f
no_fields text j f n none a = subst (HasField text j (name_asked a)) (sym (none a)) (nothing_had (name_asked a) j n)

-- ---- an operation by its texts

pub value_had : (text : List ℕ) (j : Json) (o : Option (Bor (List ℕ))) (s : Bor (List ℕ)) → o ≡ Some s → HasField text j (codes "value") (bytes_in o) → HasField text j (codes "value") (Some s.now)
value_had text j o s e h = subst (HasField text j (codes "value")) (ap bytes_in e) h

pub is_named : {n m : List ℕ} (j : Json) → tree.get (codes "op") j ≡ Some (string n) → n ≡ m → tree.get (codes "op") j ≡ Some (string m)
is_named j h e = h ∙ ap (λ l. Some (string l)) e

-- of a text of which a pointer is read
abbrev Points : Option (List ℕ) → Pointer → Type 0
Points s P = (t k : List ℕ) (j : Json) → HasField t j k s → tree.get k j ≡ Some (pointer_tree P)

pub points : (s : Option (List ℕ)) (o : Option Pointer) (P : Pointer) → o ≡ Some P → IfSome o (Points s) → Points s P
points s o P e h = subst (λ x. IfSome x (Points s)) e h

pub from_and_path : (t : List ℕ) (j : Json) (f : Fields) (o p : Option Pointer) (F P : Pointer) → AreFields t j f → o ≡ Some F → IfSome o (Points (bytes_in f.from)) → p ≡ Some P → IfSome p (Points (bytes_in f.path)) → HasFields j ((codes "from", pointer_tree F) ∷ (codes "path", pointer_tree P) ∷ [])
from_and_path t j f o p F P fields here from there path = (points (bytes_in f.from) o F here from t (codes "from") j (fields its_from), (points (bytes_in f.path) p P there path t (codes "path") j (fields its_path), tt))

pub some_weaker : {A : Type 0} {P Q : A → Type 0} (o : Option A) → IfSome o P → ((x : A) → P x → Q x) → IfSome o Q
some_weaker None h g = tt
some_weaker (Some x) h g = g x h

-- ---- the outline is read as the tree is

string_seen : (w : Json) (t : List ℕ) → outline w ≡ values.string t → w ≡ string t
string_seen null t e = cc
string_seen (boolean b) t e = cc
string_seen (number s) t e = cc
string_seen (string s) t e = let f : s ≡ t = cc in ap string f
string_seen (array js) t e = cc
string_seen (object ms) t e = cc

outline_whole : (w : Json) → IsDocument (outline w)
outline_whole null = tt
outline_whole (boolean b) = tt
outline_whole (number s) = tt
outline_whole (string s) = tt
outline_whole (array js) = tt
outline_whole (object ms) = tt

seen_back : (o : Option Json) (d : Data) → option_map outline o ≡ Some d → (w : Json) × (o ≡ Some w) × (outline w ≡ d)
seen_back None d e = absurd (none-some d e)
seen_back (Some w) d e = (w, refl, same_Some (outline w) d e)

unseen : (o : Option Json) → option_map outline o ≡ None → o ≡ None
unseen None e = refl
unseen (Some w) e = absurd (none-some (outline w) (sym e))

object_tree : (r : Reading) (j : Json) → IsObject (data_of r j) → IsObjectTree j
object_tree r null (ms, e) = cc
object_tree r (boolean b) (ms, e) = cc
object_tree r (number t) (ms, e) = cc
object_tree r (string t) (ms, e) = cc
object_tree r (array js) (ms, e) = cc
object_tree r (object ms) h = (ms, refl)

-- ---- the outline, made of the texts

outline_put : (text k : List ℕ) (j : Json) (s : Bor (List ℕ)) (d : Data) (before : values.Members) → HasField text j k (bytes_in (Some s)) → ((w : Json) → IsShallowText s.now w → d ≡ outline w) → put k d before ≡ put_if k (option_map outline (tree.get k j)) before
outline_put text k j s d before h is = let (w, at, said, stands) = h in ap (λ x. put k x before) (is w said.0) ∙ ap (λ o. put_if k (option_map outline o) before) (sym at)

pub one_put : (text k : List ℕ) (j : Json) (s : Bor (List ℕ)) (d : Data) (before after : values.Members) → after ≡ put k d before → ((w : Json) → IsShallowText s.now w → d ≡ outline w) → HasField text j k (bytes_in (Some s)) → after ≡ put_if k (option_map outline (tree.get k j)) before
one_put text k j s d before after e is h = e ∙ outline_put text k j s d before h is

pub none_put : (text k : List ℕ) (j : Json) (before : values.Members) → HasField text j k None → before ≡ put_if k (option_map outline (tree.get k j)) before
none_put text k j before h = ap (λ o. put_if k (option_map outline o) before) (sym h)

got_if : (k : List ℕ) (o : Option Data) (ms : values.Members) → get_member k ms ≡ None → get_member k (put_if k o ms) ≡ o
got_if k None ms h = h
got_if k (Some d) ms h = get_member-put k d ms

other_if : (q k : List ℕ) (o : Option Data) (ms : values.Members) → (q ≡ k → ⊥) → get_member q (put_if k o ms) ≡ get_member q ms
other_if q k None ms n = refl
other_if q k (Some d) ms n = get_member-put_other q k d ms n

-- names of other lengths, or that begin otherwise
apart : (q k : List ℕ) → (length q ≡ length k → get_or q 0 0 ≡ get_or k 0 0 → ⊥) → q ≡ k → ⊥
apart q k n e = n (ap length e) (ap (λ l. get_or l 0 0) e)

-- the members that are put in, one by one
put_all : Option Data → Option Data → Option Data → Option Data → values.Members
put_all o r p v = put_if (codes "value") v (put_if (codes "path") p (put_if (codes "from") r (put_if (codes "op") o values.no_members)))

all_got : (f : Asked → Option Data) (a : Asked) → get_member (name_asked a) (put_all (f its_op) (f its_from) (f its_path) (f its_value)) ≡ f a
unfolding put_all
all_got f its_op =
    other_if (codes "op") (codes "value") (f its_value) _ (apart _ _ (λ l c. absurd (omega (arith, l)))) ∙ other_if (codes "op") (codes "path") (f its_path) _ (apart _ _ (λ l c. absurd (omega (arith, l))))
    ∙ other_if (codes "op") (codes "from") (f its_from) _ (apart _ _ (λ l c. absurd (omega (arith, l)))) ∙ got_if (codes "op") (f its_op) values.no_members refl
all_got f its_from =
    other_if (codes "from") (codes "value") (f its_value) _ (apart _ _ (λ l c. absurd (omega (arith, l)))) ∙ other_if (codes "from") (codes "path") (f its_path) _ (apart _ _ (λ l c. absurd (omega (arith, c))))
    ∙ got_if (codes "from") (f its_from) _ (other_if (codes "from") (codes "op") (f its_op) values.no_members (apart _ _ (λ l c. absurd (omega (arith, l)))))
all_got f its_path =
    other_if (codes "path") (codes "value") (f its_value) _ (apart _ _ (λ l c. absurd (omega (arith, l))))
    ∙ got_if (codes "path") (f its_path) _ (other_if (codes "path") (codes "from") (f its_from) _ (apart _ _ (λ l c. absurd (omega (arith, c)))) ∙ other_if (codes "path") (codes "op") (f its_op) values.no_members (apart _ _ (λ l c. absurd (omega (arith, l)))))
all_got f its_value =
    got_if (codes "value") (f its_value) _ (other_if (codes "value") (codes "path") (f its_path) _ (apart _ _ (λ l c. absurd (omega (arith, l)))) ∙ other_if (codes "value") (codes "from") (f its_from) _ (apart _ _ (λ l c. absurd (omega (arith, l))))
    ∙ other_if (codes "value") (codes "op") (f its_op) values.no_members (apart _ _ (λ l c. absurd (omega (arith, l)))))

-- what is put in of the tree at a name
abbrev Put : Json → List ℕ → values.Members → values.Members → Type 0
Put j k before after = after ≡ put_if k (option_map outline (tree.get k j)) before

pub all_put : (j : Json) (m : BTreeMap (String Global) Value) (m1 m2 m3 : values.Members) → shape_of j ≡ ObjectShape → Put j (codes "op") values.no_members m1 → Put j (codes "from") m1 m2 → Put j (codes "path") m2 m3 → Put j (codes "value") m3 (members_view m.entries) → IsOutline (view (Object m)) j
unfolding put_all
all_put j m m1 m2 m3 shape o r p v = record {
  object = (λ _. is_tree j shape, λ _. (members_view m.entries, view-Object m));
  members = λ a.
      ap (get (name_asked a)) (view-Object m)
      ∙ ap (get_member (name_asked a)) (v ∙ ap (put_if (codes "value") (of its_value)) (p ∙ ap (put_if (codes "path") (of its_path)) (r ∙ ap (put_if (codes "from") (of its_from)) o)))
      ∙ all_got of a;
}
  where
    of : Asked → Option Data
    of a = option_map outline (tree.get (name_asked a) j)

    is_tree : (j : Json) → shape_of j ≡ ObjectShape → IsObjectTree j
    is_tree (object ms) e = (ms, refl)
    is_tree null e = cc
    is_tree (boolean b) e = cc
    is_tree (number s) e = cc
    is_tree (string s) e = cc
    is_tree (array js) e = cc

pub null_outline : (j : Json) → shape_of j ≢ ObjectShape → IsOutline values.null j
null_outline j n = record {
  object = (λ (ms, e). cc, λ (ms, e). absurd (n (ap shape_of e)));
  members = λ a. ap (option_map outline) (sym (nothing_had (name_asked a) j n));
}

module _ (d : Data) (j : Json) (h : IsOutline d j) where
  seen_there : (a : Asked) (x : Data) → get (name_asked a) d ≡ Some x → (w : Json) × (tree.get (name_asked a) j ≡ Some w) × (outline w ≡ x)
  seen_there a x e = seen_back (tree.get (name_asked a) j) x (sym (h.members a) ∙ e)

  text_there : (a : Asked) (t : List ℕ) → get (name_asked a) d ≡ Some (values.string t) → tree.get (name_asked a) j ≡ Some (string t)
  text_there a t e = let (w, at, is) = seen_there a (values.string t) e in at ∙ ap Some (string_seen w t is)

  to_document : (r : Reading) → Alike d (data_of r j)
  to_document r = record {
    object = λ x. let (ms, e) = h.object.0 x in (_, ap (data_of r) e);
    none = λ a e. at_name r (name_asked a) j ∙ ap (option_map (data_of r)) (unseen (tree.get (name_asked a) j) (sym (h.members a) ∙ e));
    text = λ a t e. there r (name_asked a) j (string t) (text_there a t e);
    other = λ a x. let (w, at, is) = seen_there a x.0 x.1 in (data_of r w, there r (name_asked a) j w at, λ t f. x.2 t (sym is ∙ ap outline (string_back r w t f)));
    whole = λ a x e. let (w, at, is) = seen_there a x e in subst IsDocument is (outline_whole w);
  }

  from_document : (r : Reading) → Alike (data_of r j) d
  from_document r = record {
    object = λ x. h.object.1 (object_tree r j x);
    none = λ a e. h.members a ∙ ap (option_map outline) (none_back r (name_asked a) j e);
    text = λ a t e. h.members a ∙ ap (option_map outline) (text_back r (name_asked a) j t e);
    other = λ a x. let (w, at, is) = back r (name_asked a) j x.0 x.1 in (outline w, h.members a ∙ ap (option_map outline) at, λ t f. x.2 t (sym is ∙ ap (data_of r) (string_seen w t f)));
    whole = λ a x e. let (w, at, is) = back r (name_asked a) j x e in subst IsDocument is (IsDocument-data_of r w);
  }

  pub refused_too : (r : Reading) (kind : ReadKind) → RefusesOperation d kind → RefusesOperation (data_of r j) kind
  refused_too r kind f = refuses_alike (to_document r) (from_document r) kind f

  -- a value that is there, with its text
  value_there : (text : List ℕ) (s : Option (List ℕ)) (x : Data) → HasField text j (codes "value") s → get (codes "value") d ≡ Some x → HasField text j (codes "value") (Some (unwrap_or s []))
  value_there text None x none e = let (w, at, is) = seen_there its_value x e in absurd (none-some w (sym none ∙ at))
  value_there text (Some s) x some e = some

  pub operation_there : (text : List ℕ) (s : Option (List ℕ)) (op : Operation) (t : TextOperation) → HasField text j (codes "value") s → ReadsOperation d op → IsTexted op (unwrap_or s []) t → IsReadAs text j t
  operation_there text s (document.add P v) (Add Q u) f ((a, (b, (c, _))), whole) is = let (w, at, said, stands) = value_there text s v f c in (add P w, (text_there its_op _ a, (text_there its_path _ b, (at, tt))), (is.0, subst (λ x. IsValueText x w) (sym is.1) said), subst (IsWrittenAt text j (codes "value" ∷ [])) (sym is.1) stands)
  operation_there text s (document.remove P) (Remove Q) f ((a, (b, _)), whole) is = (remove P, (text_there its_op _ a, (text_there its_path _ b, tt)), is, tt)
  operation_there text s (document.replace P v) (Replace Q u) f ((a, (b, (c, _))), whole) is = let (w, at, said, stands) = value_there text s v f c in (replace P w, (text_there its_op _ a, (text_there its_path _ b, (at, tt))), (is.0, subst (λ x. IsValueText x w) (sym is.1) said), subst (IsWrittenAt text j (codes "value" ∷ [])) (sym is.1) stands)
  operation_there text s (document.move F P) (Move G Q) f ((a, (b, (c, _))), whole) is = (move F P, (text_there its_op _ a, (text_there its_from _ b, (text_there its_path _ c, tt))), is, tt)
  operation_there text s (document.copy F P) (Copy G Q) f ((a, (b, (c, _))), whole) is = (copy F P, (text_there its_op _ a, (text_there its_from _ b, (text_there its_path _ c, tt))), is, tt)
  operation_there text s (document.test P v) (Test Q u) f ((a, (b, (c, _))), whole) is = let (w, at, said, stands) = value_there text s v f c in (test P w, (text_there its_op _ a, (text_there its_path _ b, (at, tt))), (is.0, subst (λ x. IsValueText x w) (sym is.1) said), subst (IsWrittenAt text j (codes "value" ∷ [])) (sym is.1) stands)
  operation_there text s _ _ f h is = absurd is

pub alone_weaker : {P Q : ReadKind → Type 0} (f : ReadFault) → OfKind P f → ((k : ReadKind) → P k → Q k) → OfKind Q f
alone_weaker (Refused e) h g = (h.0, g e.kind h.1)
alone_weaker (Memory e) h g = tt

pub unread : {A : Type 0} (Q : ReadKind → Type 0) (r : Result A ReadFault) (f : ReadFault) → IsErrAnd r (λ x. x ≡ f) → OfKind Q f → IfUnreadAlone r Q
unread Q (Ok a) f e h = tt
unread Q (Err g) f e h = subst (OfKind Q) (sym e) h
