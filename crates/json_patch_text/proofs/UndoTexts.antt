-- The text of what takes operations back says them, and how deep it nests.
use Rattle.std.proofs.Common.{◌≡◌, ◌≤◌, ◌+◌, ℕ, List, [], ◌∷◌, ◌++◌, map, true, false, codes, String, Global, string_bytes, refl, sym, ap, ap₂, ◌∙◌, subst, append-nil, append_assoc, arith}
use Rattle.std.proofs.lemmas.List.{map-append, reverse-append}
use Rattle.std.specs.Prelude.{reverse, ⊤}
use Rattle.json.specs.Json.{Json, string}
use Rattle.json.specs.Print.{escape_byte, quoted}
use Rattle.json.specs.Tree.{depth, items_depth}
use Rattle.jsonptr.specs.Text.{Pointer, text_of}
use Rattle.json_lexemes.specs.Skipped.{nesting}
use Rattle.json_lexemes.specs.Spelled.{Says}
use Rattle.json_lexemes.proofs.Nests.{nests}
use Rattle.json_patch_text.specs.Operations.{TreeOperation, add, remove, replace, move, copy, test, tree_fields, pointer_tree, HasFields, ReadsTrees, SaysOperations}
use Rattle.json_patch_text.specs.Undos.{element_text, member_text, undo_list, undo_members, undo_text}
use Rattle.json_patch_text.specs.declared.undo.Undo.{Undo}
use Rattle.json_patch_text.specs.declared.undo.Undo.TheVariants as undo
use Rattle.json_pieces.proofs.Rows.Put.{element_suits, new_label, quoted_text}
use Rattle.json_pieces.proofs.Rows.Says.{row_is, row_says}
use Rattle.json_pieces.proofs.Rows.Stands.{whitespace_nil}
use Rattle.json_text.specs.Cuts.{AllSuit, Suits, row_text}
use Rattle.json_text.specs.Listing.{IsTextOf}
use Rattle.json_text.specs.Rows.{Child, elements_in, tree_in}

-- u is this operation, and its text says the operation's value
abbrev pub IsSaid : Undo → TreeOperation → Type 0
IsSaid (undo.Add P s) (add Q w) = (Q ≡ P) × IsTextOf (string_bytes s) w
IsSaid (undo.Remove P) (remove Q) = Q ≡ P
IsSaid (undo.Replace P s) (replace Q w) = (Q ≡ P) × IsTextOf (string_bytes s) w
IsSaid u op = ⊥

abbrev pub AreSaid : List Undo → List TreeOperation → Type 0
AreSaid [] [] = ⊤
AreSaid (u ∷ us) (op ∷ ops) = IsSaid u op × AreSaid us ops
AreSaid us ops = ⊥

pub said_append : (us vs : List Undo) (xs ys : List TreeOperation) → AreSaid us xs → AreSaid vs ys → AreSaid (us ++ vs) (xs ++ ys)
said_append [] vs [] ys h k = k
said_append (u ∷ us) vs (x ∷ xs) ys h k = (h.0, said_append us vs xs ys h.1 k)
said_append [] vs (x ∷ xs) ys h k = absurd h
said_append (u ∷ us) vs [] ys h k = absurd h

pub reverse-map : {A B : Type 0} (f : A → B) (xs : List A) → reverse (map f xs) ≡ map f (reverse xs)
reverse-map f [] = refl
reverse-map f (x ∷ xs) = reverse-append (f x ∷ []) (map f xs) ∙ ap (λ l. l ++ f x ∷ []) (reverse-map f xs) ∙ sym (map-append f (reverse xs) (x ∷ [])) ∙ sym (ap (map f) (reverse-append (x ∷ []) xs))

-- ---- an operation

member_suits : (k s : List ℕ) (w : Json) → IsTextOf s w → Suits true (k, w) (member_text k s)
member_suits k s w e = record { whitespace = whitespace_nil; label = new_label k; value = e; trail = whitespace_nil }

path_suits : (P Q : Pointer) → Q ≡ P → Suits true (codes "path", pointer_tree Q) (member_text (codes "path") (quoted (text_of P)))
path_suits P Q e = member_suits (codes "path") (quoted (text_of P)) (pointer_tree Q) (subst (λ X. IsTextOf (quoted (text_of P)) (pointer_tree X)) (sym e) (quoted_text (text_of P)))

named : (k : List ℕ) → Suits true (codes "op", string k) (member_text (codes "op") (quoted k))
named k = member_suits (codes "op") (quoted k) (string k) (quoted_text k)

undo_suits : (u : Undo) (op : TreeOperation) → IsSaid u op → AllSuit true (tree_fields op) (undo_members u)
undo_suits (undo.Add P s) (add Q w) h = (named (codes "add"), (path_suits P Q h.0, (member_suits (codes "value") (string_bytes s) w h.1, tt)))
undo_suits (undo.Remove P) (remove Q) h = (named (codes "remove"), (path_suits P Q h, tt))
undo_suits (undo.Replace P s) (replace Q w) h = (named (codes "replace"), (path_suits P Q h.0, (member_suits (codes "value") (string_bytes s) w h.1, tt)))
undo_suits u op h = absurd h

abbrev operation_tree : TreeOperation → Json
operation_tree op = tree_in true (tree_fields op)

undo_says : (u : Undo) (op : TreeOperation) → IsSaid u op → IsTextOf (undo_text u) (operation_tree op)
undo_says u op h = row_is true [] (tree_fields op) (undo_members u) (undo_suits u op h) whitespace_nil

-- its members are found by their names
has_fields : (op : TreeOperation) → HasFields (operation_tree op) (tree_fields op)
has_fields (add P w) = (refl, (refl, (refl, tt)))
has_fields (remove P) = (refl, (refl, tt))
has_fields (replace P w) = (refl, (refl, (refl, tt)))
has_fields (move F P) = (refl, (refl, (refl, tt)))
has_fields (copy F P) = (refl, (refl, (refl, tt)))
has_fields (test P w) = (refl, (refl, (refl, tt)))

-- ---- its text, byte by byte

ends : (q v s e : List ℕ) → ((q ++ []) ++ (v ++ ((s ++ []) ++ []))) ++ e ≡ q ++ (v ++ (s ++ e))
ends q v s e =
    ap (λ x. (x ++ (v ++ ((s ++ []) ++ []))) ++ e) (append-nil q)
    ∙ append_assoc q (v ++ ((s ++ []) ++ [])) e
    ∙ ap (λ l. q ++ l) (append_assoc v ((s ++ []) ++ []) e ∙ ap (λ l. v ++ (l ++ e)) (append-nil (s ++ []) ∙ append-nil s))

ends_bare : (q e : List ℕ) → ((q ++ []) ++ []) ++ e ≡ q ++ e
ends_bare q e = ap (λ l. l ++ e) (append-nil (q ++ []) ∙ append-nil q)

abbrev add_ahead : List ℕ
add_ahead = codes "{\"op\":\"add\",\"path\":"

abbrev replace_ahead : List ℕ
replace_ahead = codes "{\"op\":\"replace\",\"path\":"

abbrev remove_ahead : List ℕ
remove_ahead = codes "{\"op\":\"remove\",\"path\":"

abbrev value_ahead : List ℕ
value_ahead = codes ",\"value\":"

add_is : (q s : List ℕ) → row_text true [] (member_text (codes "op") (quoted (codes "add")) ∷ member_text (codes "path") q ∷ member_text (codes "value") s ∷ []) ≡ add_ahead ++ (q ++ (value_ahead ++ (s ++ codes "}")))
unfolding escape_byte
add_is q s = ap (λ l. add_ahead ++ l) (ends q value_ahead s (codes "}"))

replace_is : (q s : List ℕ) → row_text true [] (member_text (codes "op") (quoted (codes "replace")) ∷ member_text (codes "path") q ∷ member_text (codes "value") s ∷ []) ≡ replace_ahead ++ (q ++ (value_ahead ++ (s ++ codes "}")))
unfolding escape_byte
replace_is q s = ap (λ l. replace_ahead ++ l) (ends q value_ahead s (codes "}"))

remove_is : (q : List ℕ) → row_text true [] (member_text (codes "op") (quoted (codes "remove")) ∷ member_text (codes "path") q ∷ []) ≡ remove_ahead ++ (q ++ codes "}")
unfolding escape_byte
remove_is q = ap (λ l. remove_ahead ++ l) (ends_bare q (codes "}"))

pub add_written : (u : Undo) (P Q : Pointer) (s : String Global) (v t : List ℕ) → u ≡ undo.Add P s → Q ≡ P → v ≡ string_bytes s → t ≡ add_ahead ++ (quoted (text_of Q) ++ (value_ahead ++ (v ++ codes "}"))) → t ≡ undo_text u
add_written u P Q s v t is same value e = e ∙ ap₂ (λ X x. add_ahead ++ (quoted (text_of X) ++ (value_ahead ++ (x ++ codes "}")))) same value ∙ sym (ap undo_text is ∙ add_is (quoted (text_of P)) (string_bytes s))

pub replace_written : (u : Undo) (P Q : Pointer) (s : String Global) (v t : List ℕ) → u ≡ undo.Replace P s → Q ≡ P → v ≡ string_bytes s → t ≡ replace_ahead ++ (quoted (text_of Q) ++ (value_ahead ++ (v ++ codes "}"))) → t ≡ undo_text u
replace_written u P Q s v t is same value e = e ∙ ap₂ (λ X x. replace_ahead ++ (quoted (text_of X) ++ (value_ahead ++ (x ++ codes "}")))) same value ∙ sym (ap undo_text is ∙ replace_is (quoted (text_of P)) (string_bytes s))

pub remove_written : (u : Undo) (P Q : Pointer) (t : List ℕ) → u ≡ undo.Remove P → Q ≡ P → t ≡ remove_ahead ++ (quoted (text_of Q) ++ codes "}") → t ≡ undo_text u
remove_written u P Q t is same e = e ∙ ap (λ X. remove_ahead ++ (quoted (text_of X) ++ codes "}")) same ∙ sym (ap undo_text is ∙ remove_is (quoted (text_of P)))

-- ---- a list

abbrev children : List TreeOperation → List Child
children ops = map (λ op. ([], operation_tree op)) ops

all_suit : (us : List Undo) (ops : List TreeOperation) → AreSaid us ops → AllSuit false (children ops) (map element_text (map undo_text us))
all_suit [] [] h = tt
all_suit (u ∷ us) (op ∷ ops) h = (element_suits [] (undo_text u) [] (operation_tree op) whitespace_nil whitespace_nil (undo_says u op h.0), all_suit us ops h.1)
all_suit [] (op ∷ ops) h = absurd h
all_suit (u ∷ us) [] h = absurd h

reads : (ops : List TreeOperation) → ReadsTrees (elements_in (children ops)) ops
reads [] = tt
reads (op ∷ ops) = (has_fields op, reads ops)

list_says : (us : List Undo) (ops : List TreeOperation) → AreSaid (reverse us) ops → Says (undo_list us) (tree_in false (children ops))
list_says us ops h =
    row_says false [] (children ops) (map element_text (reverse (map undo_text us)))
    (subst (λ ts. AllSuit false (children ops) (map element_text ts)) (sym (reverse-map undo_text us)) (all_suit (reverse us) ops h)) whitespace_nil

pub undo_says_operations : (us : List Undo) (ops : List TreeOperation) → AreSaid (reverse us) ops → SaysOperations (undo_list us) ops
undo_says_operations us ops h = (tree_in false (children ops), list_says us ops h, reads ops)

-- ---- how deep it nests

-- the operation's value nests no deeper
abbrev pub IsLow : ℕ → TreeOperation → Type 0
IsLow n (add P w) = depth w ≤ n
IsLow n (remove P) = ⊤
IsLow n (replace P w) = depth w ≤ n
IsLow n (move F P) = ⊤
IsLow n (copy F P) = ⊤
IsLow n (test P w) = depth w ≤ n

abbrev pub AreLow : ℕ → List TreeOperation → Type 0
AreLow n [] = ⊤
AreLow n (op ∷ ops) = IsLow n op × AreLow n ops

pub low_append : (n : ℕ) (xs ys : List TreeOperation) → AreLow n xs → AreLow n ys → AreLow n (xs ++ ys)
low_append n [] ys h k = k
low_append n (x ∷ xs) ys h k = (h.0, low_append n xs ys h.1 k)

operation_low : (n : ℕ) (op : TreeOperation) → IsLow n op → depth (operation_tree op) ≤ 1 + n
operation_low n (add P w) h = let low : depth w ≤ n = h in omega (arith, low)
operation_low n (remove P) h = omega arith
operation_low n (replace P w) h = let low : depth w ≤ n = h in omega (arith, low)
operation_low n (move F P) h = omega arith
operation_low n (copy F P) h = omega arith
operation_low n (test P w) h = let low : depth w ≤ n = h in omega (arith, low)

all_low : (n : ℕ) (ops : List TreeOperation) → AreLow n ops → items_depth (elements_in (children ops)) ≤ 1 + n
all_low n [] h = omega arith
all_low n (op ∷ ops) h = let one = operation_low n op h.0 in let more = all_low n ops h.1 in omega (arith, one, more)

pub undo_nests : (n : ℕ) (us : List Undo) (ops : List TreeOperation) → AreSaid (reverse us) ops → AreLow n ops → nesting (undo_list us) ≤ 2 + n
undo_nests n us ops h low =
    let same = nests (undo_list us) (tree_in false (children ops)) (list_says us ops h) in
    let inner = all_low n ops low in
    omega (arith, same, inner)
