-- A value reads as one patch, or is refused with one number and kind; what is written reads back.
use Rattle.json_patch_operation.proofs.Common.{◌≡◌, ℕ, zero, suc, List, [], ◌∷◌, map, ◌⊎◌, Option, Some, None, refl, sym, ◌∙◌}
use Rattle.json_patch_operation.proofs.Common.{inl, inr, ⊎_elim, codes, Bool, false, true≢false, rules, subst, bytes_eq-Decides}
use Rattle.json_patch_operation.proofs.Common.{Data, null, string, array, Items, no_items, item, get, items_of, Pointer, text_of}
use Rattle.json_patch_operation.proofs.Common.{IsDocument, AreDocuments, Operation, add, remove, replace, move, copy, test}
use Rattle.json_patch_operation.proofs.Common.{IsWholeOp, AreWhole, name_of, field_names, ReadsFields, ReadsOperation, ReadsItems}
use Rattle.json_patch_operation.proofs.Common.{ReadsPatch, IsObject, IsOneOf, IsFieldFault, IsOperationFault, RefusesFields}
use Rattle.json_patch_operation.proofs.Common.{RefusesOperation, RefusesItem, written_value, written_fields, written_patch}
use Rattle.json_patch_operation.proofs.Common.{HasAnyFrom, ReadKind, NotAList, NotAnObject, MissingOp, OpNotText, UnknownOp}
use Rattle.json_patch_operation.proofs.Common.{MissingFrom, FromNotText, BadFrom, MissingPath, PathNotText, BadPath, MissingValue}
use Rattle.json_patch_operation.proofs.Common.{ValueNotWhole, one_pointer}
use Rattle.std.specs.Str.{bytes_eq}
use Rattle.json_patch_operation.specs.ReadLaws.{IsRead, HasReadFault, IsReadAlone, HasReadFaultAlone, IsReadLike}
use Rattle.json_patch_operation.specs.ReadLaws.{HasReadFaultLike}
use Rattle.json_patch_operation.proofs.PatchFaults.{Text, pointer, lacks, no_text, no_pointer, text_at, Held, document, lacks_it}
use Rattle.json_patch_operation.proofs.PatchFaults.{no_document, held_at, object_or_not, found_lacks, found_text, found_pointer}
use Rattle.json_patch_operation.proofs.PatchFaults.{found_document, no_pointer_one, past_from, first_one, past_path}

-- ---- what is read

same_pointer : (v : Data) (k : List ℕ) (P Q : Pointer) → get k v ≡ Some (string (text_of P)) → get k v ≡ Some (string (text_of Q)) → P ≡ Q
same_pointer v k P Q e f = one_pointer P Q (search rules)

reads_from : (v : Data) (op : Operation) → ReadsFields v op → IsOneOf (field_names op) (codes "from") → (F : Pointer) × (get (codes "from") v ≡ Some (string (text_of F)))
reads_from v op h n = search rules

reads_path : (v : Data) (op : Operation) → ReadsFields v op → (P : Pointer) × (get (codes "path") v ≡ Some (string (text_of P)))
reads_path v op h = search rules

reads_value : (v : Data) (op : Operation) → ReadsFields v op → IsOneOf (field_names op) (codes "value") → (d : Data) × (get (codes "value") v ≡ Some d) × IsDocument d
reads_value v op h n = search rules

-- ---- what is read has no fault

reads_no_field_fault : (v : Data) (op : Operation) → ReadsFields v op → (kind : ReadKind) → IsFieldFault (field_names op) v kind → ⊥
reads_no_field_fault v op h (BadFrom e) f = let p = reads_from v op h f.0 in found_pointer v (codes "from") p.0 e p.1 f.1
reads_no_field_fault v op h (BadPath e) f = let p = reads_path v op h in found_pointer v (codes "path") p.0 e p.1 f
reads_no_field_fault v op h ValueNotWhole f = let x = reads_value v op h f.0 in found_document v (codes "value") x.0 x.1 x.2 f.1
reads_no_field_fault v op h kind f = search rules

apart : (a b : List ℕ) → bytes_eq a b ≡ false → a ≡ b → ⊥
apart a b differs e = true≢false (sym ((bytes_eq-Decides a b).1 e) ∙ differs)

-- operations of one name have members of the same names
same_field_names : (op other : Operation) → name_of op ≡ name_of other → field_names op ≡ field_names other
same_field_names op other e = search rules

reads_no_fault : (v : Data) (op : Operation) → ReadsOperation v op → (kind : ReadKind) → IsOperationFault v kind → ⊥
reads_no_fault v op h NotAnObject f = f (search rules)
reads_no_fault v op h MissingOp f = found_lacks v (codes "op") _ h.0.0 f
reads_no_fault v op h OpNotText f = found_text v (codes "op") _ h.0.0 f
reads_no_fault v op h UnknownOp f = f.2 op (search rules)
reads_no_fault v op h kind f = reads_no_field_fault v op (h.0.1, h.1) kind (search rules)

-- ---- one operation is read

same_operation : (v : Data) (op other : Operation) → ReadsOperation v op → ReadsOperation v other → other ≡ op
same_operation v op other h g = search (rules, same_pointer, apart)

-- ---- the members are read, or there is a first fault

abbrev FoundText : Data → List ℕ → Type 0
FoundText v k = (P : Pointer) × (get k v ≡ Some (string (text_of P)))

abbrev FoundDocument : Data → List ℕ → Type 0
FoundDocument v k = (d : Data) × (get k v ≡ Some d) × IsDocument d

abbrev Unread : List (List ℕ) → Data → Type 0
Unread names v = (kind : ReadKind) × RefusesFields names v kind

module _ (names : List (List ℕ)) (v : Data) (is : IsObject v) where
  read_from : IsOneOf names (codes "from") → Text v (codes "from") → FoundText v (codes "from") ⊎ Unread names v
  read_from has (pointer F e) = inl (F, e)
  read_from has (lacks h) = inr (MissingFrom, search rules)
  read_from has (no_text h) = inr (FromNotText, search rules)
  read_from has (no_pointer e h) = inr (BadFrom e, search rules)

  read_path : HasAnyFrom names v → Text v (codes "path") → FoundText v (codes "path") ⊎ Unread names v
  read_path from (pointer P e) = inl (P, e)
  read_path from (lacks h) = inr (MissingPath, search (rules, past_from))
  read_path from (no_text h) = inr (PathNotText, search (rules, past_from))
  read_path from (no_pointer e h) = inr (BadPath e, search (rules, past_from))

abbrev path_alone : List (List ℕ)
path_alone = codes "path" ∷ []

abbrev path_and_value : List (List ℕ)
path_and_value = codes "path" ∷ codes "value" ∷ []

abbrev from_and_path : List (List ℕ)
from_and_path = codes "from" ∷ codes "path" ∷ []

-- a first fault, or both
then : {A B U : Type 0} → A ⊎ U → (A → B ⊎ U) → (A × B) ⊎ U
then a b = ⊎_elim (λ x. ⊎_elim (λ y. inl (x, y)) inr (b x)) inr a

-- a first fault, or what is said of an object
of_object : {A : Type 0} (names : List (List ℕ)) (v : Data) → (IsObject v → A ⊎ Unread names v) → A ⊎ Unread names v
of_object names v rest = ⊎_elim rest (λ n. inr (NotAnObject, search rules)) (object_or_not v)

read_value : (v : Data) → FoundText v (codes "path") → Held v (codes "value") → FoundDocument v (codes "value") ⊎ Unread path_and_value v
read_value v P (document d e doc) = inl (d, e, doc)
read_value v P (lacks_it h) = inr (MissingValue, search (rules, past_path))
read_value v P (no_document h) = inr (ValueNotWhole, search (rules, past_path))

read_path_alone : (v : Data) → FoundText v (codes "path") ⊎ Unread path_alone v
read_path_alone v = of_object path_alone v (λ is. read_path path_alone v is (λ h. cc) (text_at v (codes "path") is))

read_path_and_value : (v : Data) → (FoundText v (codes "path") × FoundDocument v (codes "value")) ⊎ Unread path_and_value v
read_path_and_value v =
    of_object path_and_value v (λ is. then (read_path path_and_value v is (λ h. cc) (text_at v (codes "path") is)) (λ P. read_value v P (held_at v (codes "value") is)))

read_from_and_path : (v : Data) → (FoundText v (codes "from") × FoundText v (codes "path")) ⊎ Unread from_and_path v
read_from_and_path v = search (rules, of_object, then, read_from, text_at, read_path)

-- the members of an operation like this one are read, or there is a first fault
abbrev FieldsOutcome : Data → Operation → Type 0
FieldsOutcome v like = ((op : Operation) × (name_of op ≡ name_of like) × ReadsFields v op) ⊎ Unread (field_names like) v

fields_read_or_refused : (v : Data) (like : Operation) → FieldsOutcome v like
fields_read_or_refused v (add P x) = ⊎_elim (λ h. inl (add h.0.0 h.1.0, refl, ((h.0.1, (h.1.1, tt)), h.1.2))) inr (read_path_and_value v)
fields_read_or_refused v (remove P) = ⊎_elim (λ h. inl (remove h.0, refl, ((h.1, tt), tt))) inr (read_path_alone v)
fields_read_or_refused v (replace P x) = ⊎_elim (λ h. inl (replace h.0.0 h.1.0, refl, ((h.0.1, (h.1.1, tt)), h.1.2))) inr (read_path_and_value v)
fields_read_or_refused v (move F P) = ⊎_elim (λ h. inl (move h.0.0 h.1.0, refl, ((h.0.1, (h.1.1, tt)), tt))) inr (read_from_and_path v)
fields_read_or_refused v (copy F P) = ⊎_elim (λ h. inl (copy h.0.0 h.1.0, refl, ((h.0.1, (h.1.1, tt)), tt))) inr (read_from_and_path v)
fields_read_or_refused v (test P x) = ⊎_elim (λ h. inl (test h.0.0 h.1.0, refl, ((h.0.1, (h.1.1, tt)), h.1.2))) inr (read_path_and_value v)

fields_fault_one : (names : List (List ℕ)) (v : Data) (kind other : ReadKind) → RefusesFields names v kind → RefusesFields names v other → other ≡ kind
fields_fault_one names v = first_one (IsFieldFault names v) (λ e f h g. no_pointer_one v (codes "from") e f h.1 g.1) (λ e f h g. no_pointer_one v (codes "path") e f h g)

reads_no_like_fault : (v : Data) (op like : Operation) → name_of op ≡ name_of like → ReadsFields v op → (kind : ReadKind) → RefusesFields (field_names like) v kind → ⊥
reads_no_like_fault v op like e h kind f =
    reads_no_field_fault v op h kind (subst (λ names. IsFieldFault names v kind) (same_field_names like op (sym e)) f.here)

-- a value reads as one operation like this one, or is refused for one kind
pub read_like_or_refused : (like : Operation) (v : Data) → ((op : Operation) × IsReadLike like v op) ⊎ ((kind : ReadKind) × HasReadFaultLike like v kind)
read_like_or_refused like v = search (rules, same_pointer, apart, reads_no_like_fault v, fields_fault_one (field_names like) v, fields_read_or_refused v like, reads_no_like_fault, fields_fault_one, fields_read_or_refused)

-- ---- by the name in `op`

abbrev At : Data → ReadKind → Type 0
At v = IsOperationFault v

same_or_not : (a b : List ℕ) (r : Bool) → bytes_eq a b ≡ r → (a ≡ b) ⊎ (a ≡ b → ⊥)
same_or_not a b r e = search rules

abbrev Outcome : Data → Type 0
Outcome v = ((op : Operation) × ReadsOperation v op) ⊎ ((kind : ReadKind) × RefusesOperation v kind)

module _ (v : Data) where
  named_as : (n : List ℕ) → get (codes "op") v ≡ Some (string n) → (like : Operation) → n ≡ name_of like → Outcome v
  named_as n e like is = search (rules, fields_read_or_refused v like, fields_read_or_refused)

  by_name : (n : List ℕ) → get (codes "op") v ≡ Some (string n) → Outcome v
  by_name n e =
      ⊎_elim (named_as n e (add [] null)) (λ a.
      ⊎_elim (named_as n e (remove [])) (λ r.
      ⊎_elim (named_as n e (replace [] null)) (λ p.
      ⊎_elim (named_as n e (move [] [])) (λ m.
      ⊎_elim (named_as n e (copy [] [])) (λ c.
      ⊎_elim (named_as n e (test [] null)) (λ t.
      inr (UnknownOp, search rules))
      (same_or_not n (codes "test") _ refl)) (same_or_not n (codes "copy") _ refl)) (same_or_not n (codes "move") _ refl))
      (same_or_not n (codes "replace") _ refl)) (same_or_not n (codes "remove") _ refl)) (same_or_not n (codes "add") _ refl)

  by_text : Text v (codes "op") → Outcome v
  by_text (pointer P e) = by_name _ e
  by_text (lacks h) = inr (MissingOp, search rules)
  by_text (no_text h) = inr (OpNotText, search rules)
  by_text (no_pointer f h) = by_name h.0 h.1

  operation_read_or_refused : Outcome v
  operation_read_or_refused = ⊎_elim (λ is. by_text (text_at v (codes "op") is)) (λ n. inr (NotAnObject, search rules)) (object_or_not v)

operation_fault_one : (v : Data) (kind other : ReadKind) → RefusesOperation v kind → RefusesOperation v other → other ≡ kind
operation_fault_one v = first_one (At v) (λ e f h g. no_pointer_one v (codes "from") e f h.2.1 g.2.1) (λ e f h g. no_pointer_one v (codes "path") e f h.2 g.2)

-- a value reads as one operation, or is refused for one kind
pub read_alone_or_refused : (v : Data) → ((op : Operation) × IsReadAlone v op) ⊎ ((kind : ReadKind) × HasReadFaultAlone v kind)
read_alone_or_refused v =
    ⊎_elim (λ h. inl (h.0, record { reads = h.1; alone = λ other g. same_operation v h.0 other h.1 g; nowhere = λ kind g. reads_no_fault v h.0 h.1 kind g.here }))
    (λ h. inr (h.0, record { refuses = h.1; alone = λ other g. operation_fault_one v h.0 other h.1 g; never = λ op g. reads_no_fault v op g h.0 h.1.here }))
    (operation_read_or_refused v)

-- ---- arrays

items_read_or_refused : (ds : Items) → ((ops : List Operation) × ReadsItems ds ops) ⊎ ((k : ℕ) × (kind : ReadKind) × RefusesItem ds k kind)
items_read_or_refused no_items = inl ([], tt)
items_read_or_refused (item d ds) =
    ⊎_elim (λ h. ⊎_elim (λ g. inl (h.0 ∷ g.0, (h.1, g.1))) (λ g. inr (suc g.0, g.1, (h.0, h.1, g.2))) (items_read_or_refused ds))
    (λ h. inr (zero, h.0, h.1)) (operation_read_or_refused d)

items_exclude : (ds : Items) (ops : List Operation) (k : ℕ) (kind : ReadKind) → ReadsItems ds ops → RefusesItem ds k kind → ⊥
items_exclude (item d ds) (op ∷ ops) zero kind h g = reads_no_fault d op h.0 kind g.here
items_exclude (item d ds) (op ∷ ops) (suc k) kind h g = items_exclude ds ops k kind h.1 g.2
items_exclude ds ops k kind h g = search rules

same_items_read : (ds : Items) (ops others : List Operation) → ReadsItems ds ops → ReadsItems ds others → others ≡ ops
same_items_read (item d ds) (op ∷ ops) (other ∷ others) h g = search (rules, same_operation, same_items_read ds ops others)
same_items_read ds ops others h g = search rules

same_item_refused : (ds : Items) (k j : ℕ) (kind other : ReadKind) → RefusesItem ds k kind → RefusesItem ds j other → (j ≡ k) × (other ≡ kind)
same_item_refused (item d ds) zero (suc j) kind other h g = absurd (reads_no_fault d g.0 g.1 kind h.here)
same_item_refused (item d ds) (suc k) zero kind other h g = absurd (reads_no_fault d h.0 h.1 other g.here)
same_item_refused (item d ds) (suc k) (suc j) kind other h g = search (rules, same_item_refused ds k j kind other)
same_item_refused ds k j kind other h g = search (rules, operation_fault_one)

-- an array reads as one patch, or is refused at one element for one kind
list_read_or_refused : (ds : Items) → ((ops : List Operation) × IsRead (array ds) ops) ⊎ ((k : Option ℕ) × (kind : ReadKind) × HasReadFault (array ds) k kind)
list_read_or_refused ds =
    ⊎_elim (λ h. inl (h.0, search (rules, same_items_read, items_exclude))) (λ h. inr (Some h.0, h.1, search (rules, same_item_refused, items_exclude)))
    (items_read_or_refused ds)

-- a value reads as one patch, or is refused with one number and kind
pub read_or_refused : (v : Data) → ((ops : List Operation) × IsRead v ops) ⊎ ((k : Option ℕ) × (kind : ReadKind) × HasReadFault v k kind)
read_or_refused (array ds) = list_read_or_refused ds
read_or_refused v = inr (None, NotAList, search rules)

-- ---- what is written reads back

written_items_read : (ops : List Operation) → AreWhole ops → ReadsItems (items_of (map written_value ops)) ops
written_items_read [] w = tt
written_items_read (op ∷ ops) w = ((search rules), written_items_read ops w.1)

written_items_documents : (ops : List Operation) → AreWhole ops → AreDocuments (items_of (map written_value ops))
written_items_documents [] w = tt
written_items_documents (op ∷ ops) w = ((search rules), written_items_documents ops w.1)

pub written_patch_document : (ops : List Operation) → AreWhole ops → IsDocument (written_patch ops)
written_patch_document ops w = written_items_documents ops w

-- what reads is read: as that patch and no other, and refused for nothing
pub read_is : (v : Data) (ops : List Operation) → ReadsPatch v ops → IsRead v ops
read_is v ops h = search (rules, IsRead v, read_or_refused v, IsRead, read_or_refused)

pub written_reads_back : (ops : List Operation) → AreWhole ops → IsRead (written_patch ops) ops
written_reads_back ops w = read_is (written_patch ops) ops (written_items_read ops w)

read_alone_is : (v : Data) (op : Operation) → ReadsOperation v op → IsReadAlone v op
read_alone_is v op h = search (rules, IsReadAlone v, read_alone_or_refused v, IsReadAlone, read_alone_or_refused)

pub written_reads_alone : (op : Operation) → IsWholeOp op → IsReadAlone (written_value op) op
written_reads_alone op w = read_alone_is (written_value op) op (search rules)

pub written_fields_read_back : (op : Operation) → IsWholeOp op → IsReadLike op (written_fields op) op
written_fields_read_back op w = search (rules, IsReadLike op (written_fields op), read_like_or_refused op (written_fields op), IsReadLike, read_like_or_refused)
