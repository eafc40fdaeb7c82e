-- The faults of an operation value, in their order.
use Rattle.json_patch_operation.proofs.Common.{◌≡◌, ℕ, List, [], ◌∷◌, ◌⊎◌, Option, Some, None, refl, sym, ap, ◌∙◌, subst, inl, inr, ⊎_elim, codes, rules, Data, string, array, object, Items, item, get, Pointer, text_of, IsDocument, IsObject, Lacks, HasNoText, HasNoPointer, HasNoDocument, IsFieldFault, NoneBelow, IsFirst, rank, ◌<◌, zero, suc, ◌++◌, take, length, get_or, arith, Result, view, items_view, Value, Operation, AreWhole, operation_of, operations, IfUnreadAlone, OfKind, ReadsItems, ReadsOperation, ReadsPatch, RefusesItem, RefusesFields, RefusesOperation, name_of, field_names, PatchOperation, HasAnyFrom, IsPointerAt, ReadKind, BadFrom, BadPath, pointer_or_fault, pointer_has_no_fault, one_fault}
use Rattle.jsonptr.specs.Faults.{IsFault}
use Rattle.jsonptr.specs.declared.ParseError.{ParseError}
use Rattle.std.specs.Prelude.{IsErrAnd}
use Rattle.json_patch_operation.specs.declared.read_error.ReadFault.{ReadFault}
use Rattle.json_patch_document.proofs.DocumentOrNot.{document_or_not}

-- ---- what is found at a member

pub object_or_not : (v : Data) → IsObject v ⊎ (IsObject v → ⊥)
object_or_not (object ms) = inl (ms, refl)
object_or_not v = search rules

text_or_not : (d : Data) → ((t : List ℕ) × (d ≡ string t)) ⊎ ((t : List ℕ) → d ≡ string t → ⊥)
text_or_not (object ms) = inr (λ t e. cc)
text_or_not d = search rules

some_or_none : (o : Option Data) → ((d : Data) × (o ≡ Some d)) ⊎ (o ≡ None)
some_or_none None = inr refl
some_or_none (Some d) = inl (d, refl)

-- what is found of a member that is to be a pointer's string
pub data Text (v : Data) (k : List ℕ) : Type 0 where
  pointer : (P : Pointer) → get k v ≡ Some (string (text_of P)) → Text v k
  lacks : Lacks v k → Text v k
  no_text : HasNoText v k → Text v k
  no_pointer : (e : ParseError) → HasNoPointer v k e → Text v k

pub text_at : (v : Data) (k : List ℕ) → IsObject v → Text v k
text_at v k o =
    ⊎_elim (λ found. ⊎_elim (λ text. ⊎_elim (λ P. pointer P.0 (found.1 ∙ ap Some (text.1 ∙ ap string (sym P.1))))
    (λ f. no_pointer f.0 (text.0, (found.1 ∙ ap Some text.1), f.1)) (pointer_or_fault text.0))
    (λ other. no_text (found.0, found.1, other)) (text_or_not found.0))
    (λ none. lacks (o, none)) (some_or_none (get k v))

-- what is found of a member that is to be a document
pub data Held (v : Data) (k : List ℕ) : Type 0 where
  document : (d : Data) → get k v ≡ Some d → IsDocument d → Held v k
  lacks_it : Lacks v k → Held v k
  no_document : HasNoDocument v k → Held v k

pub held_at : (v : Data) (k : List ℕ) → IsObject v → Held v k
held_at v k o =
    ⊎_elim (λ found. ⊎_elim (λ doc. document found.0 found.1 doc) (λ n. no_document (found.0, found.1, n)) (document_or_not found.0))
    (λ none. lacks_it (o, none)) (some_or_none (get k v))

-- ---- what is found excludes the other findings

pub found_lacks : (v : Data) (k : List ℕ) (d : Data) → get k v ≡ Some d → Lacks v k → ⊥
found_lacks v k d e h = let n = h.1 in cc

pub found_text : (v : Data) (k t : List ℕ) → get k v ≡ Some (string t) → HasNoText v k → ⊥
found_text v k t e h = h.2 t (search rules)

pub found_pointer : (v : Data) (k : List ℕ) (P : Pointer) (e : ParseError) → get k v ≡ Some (string (text_of P)) → HasNoPointer v k e → ⊥
found_pointer v k P e f h =
    pointer_has_no_fault P e (subst (λ t. IsFault t e) (search rules) h.2)

pub found_document : (v : Data) (k : List ℕ) (d : Data) → get k v ≡ Some d → IsDocument d → HasNoDocument v k → ⊥
found_document v k d e doc h = h.2 (subst IsDocument (search rules) doc)

pub no_pointer_one : (v : Data) (k : List ℕ) (e f : ParseError) → HasNoPointer v k e → HasNoPointer v k f → e ≡ f
no_pointer_one v k e f h g = one_fault g.0 e f (subst (λ t. IsFault t e) (search rules) h.2) g.2

-- ---- the faults by their ranks

-- no fault is looked for before `path`
pub past_from : (names : List (List ℕ)) (v : Data) → IsObject v → HasAnyFrom names v → NoneBelow (IsFieldFault names v) 9
past_from names v o has (BadFrom e) l f = let F = has f.0 in found_pointer v (codes "from") F.0 e F.1 f.1
past_from names v o has kind l f = search rules

-- no fault is looked for before `value`
pub past_path : (v : Data) (P : Pointer) → IsPointerAt v (codes "path") P → NoneBelow (IsFieldFault (codes "path" ∷ codes "value" ∷ []) v) 12
past_path v P found (BadPath e) l f = found_pointer v (codes "path") P e found f
past_path v P found kind l f = search rules

-- ---- one first fault

module _ (F : ReadKind → Type 0) (from_one : (e f : ParseError) → F (BadFrom e) → F (BadFrom f) → e ≡ f) (path_one : (e f : ParseError) → F (BadPath e) → F (BadPath f) → e ≡ f) where
  same_rank : (kind other : ReadKind) → rank kind ≡ rank other → F kind → F other → other ≡ kind
  same_rank (BadFrom e) (BadFrom f) r h g = ap BadFrom (from_one f e g h)
  same_rank (BadPath e) (BadPath f) r h g = ap BadPath (path_one f e g h)
  same_rank kind other r h g = search rules

  pub first_one : (kind other : ReadKind) → IsFirst F kind → IsFirst F other → other ≡ kind
  first_one kind other h g = search (rules, same_rank)

-- ---- the operation that `op` names, and the elements of an array, read one by one

-- what is read is whole
pub reads_whole : (ds : Items) (ops : List Operation) → ReadsItems ds ops → AreWhole ops
reads_whole (item d ds) (op ∷ ops) h = (h.0.1, reads_whole ds ops h.1)
reads_whole ds ops h = search rules

pub patch_whole : (v : Data) (ops : List Operation) → ReadsPatch v ops → AreWhole ops
patch_whole (array ds) ops h = reads_whole ds ops h
patch_whole v ops h = absurd h

-- the next element is read
pub item_read : (vs : List Value) (os : List PatchOperation) (n : ℕ) (v : Value) (o : PatchOperation) → n < length vs → v ≡ get_or vs n v
    → ReadsItems (items_view (take n vs)) (operations os) → ReadsOperation (view v) (operation_of o) → ReadsItems (items_view (take (suc n) vs)) (operations (os ++ o ∷ []))
item_read (w ∷ vs) (p ∷ os) (suc n) v o l is h g = (h.0, item_read vs os n v o (omega arith) is h.1 g)
item_read vs os n v o l is h g = search rules

-- the next element is refused
pub item_refused : (vs : List Value) (os : List PatchOperation) (n : ℕ) (v : Value) (kind : ReadKind) → n < length vs → v ≡ get_or vs n v
    → ReadsItems (items_view (take n vs)) (operations os) → RefusesOperation (view v) kind → RefusesItem (items_view vs) n kind
item_refused (w ∷ vs) (p ∷ os) (suc n) v kind l is h g = (operation_of p, h.0, item_refused vs os n v kind (omega arith) is h.1 g)
item_refused (w ∷ vs) os zero v kind l is h g = subst (λ x. RefusesOperation (view x) kind) is g
item_refused vs os n v kind l is h g = search rules

-- the members of the operation that `op` names are at fault
pub named_fault : {U : Type 0} (op : Operation) (v : Data) (n : List ℕ) (f : ReadFault) (r : Result U ReadFault) → get (codes "op") v ≡ Some (string n) → n ≡ name_of op
    → OfKind (RefusesFields (field_names op) v) f → IsErrAnd r (λ g. g ≡ f) → IfUnreadAlone r (RefusesOperation v)
named_fault op v n f r e is h at = search rules
