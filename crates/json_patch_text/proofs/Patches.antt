-- A tree reads as one patch, under each reading, or is refused for one kind, under each reading alike.
use Rattle.std.proofs.Common.{◌≡◌, ◌⊎◌, inl, inr, ⊎_elim, ℕ, zero, suc, List, [], ◌∷◌, map, codes, Option, Some, None, option_map, refl, sym, ap, ap₂, ◌∙◌, subst}
use Rattle.std.proofs.lemmas.Option.{none-some, same_Some}
use Rattle.json.specs.Find as tree
use Rattle.json.specs.Json as json
use Rattle.json.specs.Json.{Json, null, boolean, number, string, array, object, no_items, item}
use Rattle.serde_json.specs.Data as value
use Rattle.serde_json.specs.Data.{Data}
use Rattle.serde_json.specs.Find.{get}
use Rattle.json_patch_document.specs.Document.{IsDocument}
use Rattle.json_patch_operation.specs.Operation as document
use Rattle.json_patch_operation.specs.Operation.{Operation, IsWholeOp}
use Rattle.json_patch_operation.specs.PatchValue.{all_fields, HasMembers, ReadsOperation, ReadsItems, ReadsPatch, IsObject, RefusesOperation, RefusesItem, RefusesPatch}
use Rattle.json_patch_operation.specs.declared.read_error.ReadKind.{ReadKind}
use Rattle.json_patch_operation.proofs.PatchValues.{read_is, read_or_refused}
use Rattle.json_patch_text.specs.Operations.{TreeOperation, add, remove, replace, move, copy, test, under, all_under, tree_fields, HasFields, ReadsTrees, ReadsTreePatch, SaysOperations}
use Rattle.json_patch_text.specs.Outline.{name_asked}
use Rattle.json_patch_text.proofs.Alike.{Alike, refuses_alike}
use Rattle.json_patch_text.proofs.Runs.{whole}
use Rattle.json_reading.specs.Reading.{Reading}
use Rattle.json_reading.specs.Trees.{data_of, elements_of}
use Rattle.json_reading.proofs.Documents.{IsDocument-data_of, at_name}
use Rattle.json_reading.proofs.Told.{some_reading}
use Rattle.json_lexemes.proofs.Nests.{one_tree}

-- ---- from the tree to its document

abbrev field_under : Reading → List ℕ × Json → List ℕ × Data
field_under r f = (f.0, data_of r f.1)

pub there : (r : Reading) (k : List ℕ) (v w : Json) → tree.get k v ≡ Some w → get k (data_of r v) ≡ Some (data_of r w)
there r k v w e = at_name r k v ∙ ap (option_map (data_of r)) e

fields_there : (r : Reading) (v : Json) (fs : List (List ℕ × Json)) → HasFields v fs → HasMembers (data_of r v) (map (field_under r) fs)
fields_there r v [] h = tt
fields_there r v (f ∷ fs) h = (there r f.0 v f.1 h.0, fields_there r v fs h.1)

fields_are : (r : Reading) (op : TreeOperation) → map (field_under r) (tree_fields op) ≡ all_fields (under r op)
fields_are r (add P w) = refl
fields_are r (remove P) = refl
fields_are r (replace P w) = refl
fields_are r (move F P) = refl
fields_are r (copy F P) = refl
fields_are r (test P w) = refl

pub operation_read : (r : Reading) (v : Json) (op : TreeOperation) → HasFields v (tree_fields op) → ReadsOperation (data_of r v) (under r op)
operation_read r v op h = (subst (HasMembers (data_of r v)) (fields_are r op) (fields_there r v (tree_fields op) h), whole r op)

elements_read : (r : Reading) (js : json.Items) (ops : List TreeOperation) → ReadsTrees js ops → ReadsItems (elements_of r js) (all_under r ops)
elements_read r no_items [] h = tt
elements_read r (item v js) (op ∷ ops) h = (operation_read r v op h.0, elements_read r js ops h.1)
elements_read r _ _ h = absurd h

pub read_under : (p : Json) (ops : List TreeOperation) → ReadsTreePatch p ops → (r : Reading) → ReadsPatch (data_of r p) (all_under r ops)
read_under (array js) ops h r = elements_read r js ops h
read_under null ops h r = absurd h
read_under (boolean b) ops h r = absurd h
read_under (number s) ops h r = absurd h
read_under (string s) ops h r = absurd h
read_under (object ms) ops h r = absurd h

-- ---- and back

pub string_back : (r : Reading) (j : Json) (t : List ℕ) → data_of r j ≡ value.string t → j ≡ string t
string_back r null t e = cc
string_back r (boolean b) t e = cc
string_back r (number s) t e = cc
string_back r (string s) t e = let f : s ≡ t = cc in ap string f
string_back r (array js) t e = cc
string_back r (object ms) t e = cc

back_at : (r : Reading) (o : Option Json) (d : Data) → option_map (data_of r) o ≡ Some d → (w : Json) × (o ≡ Some w) × (data_of r w ≡ d)
back_at r None d e = absurd (none-some d e)
back_at r (Some w) d e = (w, refl, same_Some (data_of r w) d e)

pub back : (r : Reading) (k : List ℕ) (v : Json) (d : Data) → get k (data_of r v) ≡ Some d → (w : Json) × (tree.get k v ≡ Some w) × (data_of r w ≡ d)
back r k v d e = back_at r (tree.get k v) d (sym (at_name r k v) ∙ e)

pub text_back : (r : Reading) (k : List ℕ) (v : Json) (t : List ℕ) → get k (data_of r v) ≡ Some (value.string t) → tree.get k v ≡ Some (string t)
text_back r k v t e = let (w, at, is) = back r k v (value.string t) e in at ∙ ap Some (string_back r w t is)

none_at : (r : Reading) (o : Option Json) → option_map (data_of r) o ≡ None → o ≡ None
none_at r None e = refl
none_at r (Some w) e = absurd (none-some (data_of r w) (sym e))

pub none_back : (r : Reading) (k : List ℕ) (v : Json) → get k (data_of r v) ≡ None → tree.get k v ≡ None
none_back r k v e = none_at r (tree.get k v) (sym (at_name r k v) ∙ e)

abbrev OneTree : Json → Type 0
OneTree v = (op : TreeOperation) × HasFields v (tree_fields op)

operation_back : (r : Reading) (v : Json) (op : Operation) → HasMembers (data_of r v) (all_fields op) → OneTree v
operation_back r v (document.add P d) (o, (p, (x, t))) = let (w, at, is) = back r (codes "value") v d x in (add P w, (text_back r _ v _ o, (text_back r _ v _ p, (at, tt))))
operation_back r v (document.remove P) (o, (p, t)) = (remove P, (text_back r _ v _ o, (text_back r _ v _ p, tt)))
operation_back r v (document.replace P d) (o, (p, (x, t))) = let (w, at, is) = back r (codes "value") v d x in (replace P w, (text_back r _ v _ o, (text_back r _ v _ p, (at, tt))))
operation_back r v (document.move F P) (o, (f, (p, t))) = (move F P, (text_back r _ v _ o, (text_back r _ v _ f, (text_back r _ v _ p, tt))))
operation_back r v (document.copy F P) (o, (f, (p, t))) = (copy F P, (text_back r _ v _ o, (text_back r _ v _ f, (text_back r _ v _ p, tt))))
operation_back r v (document.test P d) (o, (p, (x, t))) = let (w, at, is) = back r (codes "value") v d x in (test P w, (text_back r _ v _ o, (text_back r _ v _ p, (at, tt))))

elements_back : (r : Reading) (js : json.Items) (ops : List Operation) → ReadsItems (elements_of r js) ops → (read : List TreeOperation) × ReadsTrees js read
elements_back r no_items [] h = ([], tt)
elements_back r no_items (op ∷ ops) h = absurd h
elements_back r (item v js) [] h = absurd h
elements_back r (item v js) (op ∷ ops) h = let (x, a) = operation_back r v op h.0.0 in let (xs, b) = elements_back r js ops h.1 in (x ∷ xs, (a, b))

pub patch_back : (r : Reading) (p : Json) (ops : List Operation) → ReadsPatch (data_of r p) ops → (read : List TreeOperation) × ReadsTreePatch p read
patch_back r (array js) ops h = elements_back r js ops h
patch_back r null ops h = absurd h
patch_back r (boolean b) ops h = absurd h
patch_back r (number s) ops h = absurd h
patch_back r (string s) ops h = absurd h
patch_back r (object ms) ops h = absurd h

-- ---- a fault under one reading is one under each

object_under : (r s : Reading) (v : Json) → IsObject (data_of r v) → IsObject (data_of s v)
object_under r s null (ms, e) = cc
object_under r s (boolean b) (ms, e) = cc
object_under r s (number t) (ms, e) = cc
object_under r s (string t) (ms, e) = cc
object_under r s (array js) (ms, e) = cc
object_under r s (object ms) h = (_, refl)

alike : (r s : Reading) (v : Json) → Alike (data_of r v) (data_of s v)
alike r s v = record {
  object = object_under r s v;
  none = λ a e. at_name s (name_asked a) v ∙ ap (option_map (data_of s)) (none_back r (name_asked a) v e);
  text = λ a t e. there s (name_asked a) v (string t) (text_back r (name_asked a) v t e);
  other = λ a h. let (w, at, is) = back r (name_asked a) v h.0 h.1 in (data_of s w, there s (name_asked a) v w at, λ t f. h.2 t (sym is ∙ ap (data_of r) (string_back s w t f)));
  whole = λ a d e. let (w, at, is) = back r (name_asked a) v d e in subst IsDocument is (IsDocument-data_of r w);
}

refuses_under : (r s : Reading) (v : Json) (kind : ReadKind) → RefusesOperation (data_of r v) kind → RefusesOperation (data_of s v) kind
refuses_under r s v kind f = refuses_alike (alike r s v) (alike s r v) kind f

element_under : (r s : Reading) (js : json.Items) (k : ℕ) (kind : ReadKind) → RefusesItem (elements_of r js) k kind → RefusesItem (elements_of s js) k kind
element_under r s no_items k kind f = absurd f
element_under r s (item v js) zero kind f = refuses_under r s v kind f
element_under r s (item v js) (suc k) kind (op, h, f) =
    let (x, a) = operation_back r v op h.0 in
    (under s x, operation_read s v x a, element_under r s js k kind f)

patch_under : (r s : Reading) (p : Json) (k : Option ℕ) (kind : ReadKind) → RefusesPatch (data_of r p) k kind → RefusesPatch (data_of s p) k kind
patch_under r s (array js) (Some k) kind f = element_under r s js k kind f
patch_under r s (array js) None kind f = absurd f
patch_under r s null (Some k) kind f = absurd f
patch_under r s null None kind f = f
patch_under r s (boolean b) (Some k) kind f = absurd f
patch_under r s (boolean b) None kind f = f
patch_under r s (number t) (Some k) kind f = absurd f
patch_under r s (number t) None kind f = f
patch_under r s (string t) (Some k) kind f = absurd f
patch_under r s (string t) None kind f = f
patch_under r s (object ms) (Some k) kind f = absurd f
patch_under r s (object ms) None kind f = f

pub read_or_not : (p : Json) → ((ops : List TreeOperation) × ReadsTreePatch p ops) ⊎ ((k : Option ℕ) × (kind : ReadKind) × ((r : Reading) → RefusesPatch (data_of r p) k kind))
read_or_not p =
    ⊎_elim (λ h. inl (patch_back some_reading p h.0 h.1.reads)) (λ h. inr (h.0, h.1, λ r. patch_under some_reading r p h.0 h.1 h.2.refuses))
    (read_or_refused (data_of some_reading p))

-- ---- one patch

same_value : (v : Json) (k : List ℕ) (w x : Json) → tree.get k v ≡ Some w → tree.get k v ≡ Some x → x ≡ w
same_value v k w x e f = same_Some x w (sym f ∙ e)

exactly : (r : Reading) (v : Json) (op other : TreeOperation) → HasFields v (tree_fields op) → HasFields v (tree_fields other) → under r other ≡ under r op → other ≡ op
exactly r v (add P w) (add Q x) h g e = let p : Q ≡ P = cc in ap₂ add p (same_value v _ w x h.1.1.0 g.1.1.0)
exactly r v (remove P) (remove Q) h g e = let p : Q ≡ P = cc in ap remove p
exactly r v (replace P w) (replace Q x) h g e = let p : Q ≡ P = cc in ap₂ replace p (same_value v _ w x h.1.1.0 g.1.1.0)
exactly r v (move F P) (move G Q) h g e = let f : G ≡ F = cc in let p : Q ≡ P = cc in ap₂ move f p
exactly r v (copy F P) (copy G Q) h g e = let f : G ≡ F = cc in let p : Q ≡ P = cc in ap₂ copy f p
exactly r v (test P w) (test Q x) h g e = let p : Q ≡ P = cc in ap₂ test p (same_value v _ w x h.1.1.0 g.1.1.0)
exactly r v _ _ h g e = cc

heads : (x y : Operation) (xs ys : List Operation) → x ∷ xs ≡ y ∷ ys → (x ≡ y) × (xs ≡ ys)
heads x y xs ys e = (cc, cc)

all_exactly : (r : Reading) (js : json.Items) (ops others : List TreeOperation) → ReadsTrees js ops → ReadsTrees js others → all_under r others ≡ all_under r ops → others ≡ ops
all_exactly r no_items [] [] h g e = refl
all_exactly r no_items [] (other ∷ others) h g e = absurd g
all_exactly r no_items (op ∷ ops) others h g e = absurd h
all_exactly r (item v js) [] others h g e = absurd h
all_exactly r (item v js) (op ∷ ops) [] h g e = absurd g
all_exactly r (item v js) (op ∷ ops) (other ∷ others) h g e =
    let both = heads _ _ _ _ e in
    ap₂ (λ x xs. x ∷ xs) (exactly r v op other h.0 g.0 both.0) (all_exactly r js ops others h.1 g.1 both.1)

one_list : (p : Json) (ops others : List TreeOperation) → ReadsTreePatch p ops → ReadsTreePatch p others → others ≡ ops
one_list (array js) ops others h g =
    all_exactly some_reading js ops others h g
    ((read_is (data_of some_reading (array js)) (all_under some_reading ops) (read_under (array js) ops h some_reading)).alone (all_under some_reading others) (read_under (array js) others g some_reading))
one_list null ops others h g = absurd h
one_list (boolean b) ops others h g = absurd h
one_list (number s) ops others h g = absurd h
one_list (string s) ops others h g = absurd h
one_list (object ms) ops others h g = absurd h

pub one_patch : (text : List ℕ) (ops others : List TreeOperation) → SaysOperations text ops → SaysOperations text others → others ≡ ops
one_patch text ops others (p, s, h) (q, t, g) = one_list p ops others h (subst (λ x. ReadsTreePatch x others) (one_tree text q p t s) g)
