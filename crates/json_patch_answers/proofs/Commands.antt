-- The commands of an array, read and done one by one.
use Rattle.std.proofs.Common.{◌≡◌, ◌<◌, ℕ, zero, suc, List, [], ◌∷◌, ◌++◌, map, take, length, get_or, Bool, inl, inr}
use Rattle.std.proofs.Common.{refl, sym, ap, ◌∙◌, subst, arith}
use Rattle.std.specs.Prelude.{◌↔◌, All, IsTrue}
use Rattle.std.proofs.lemmas.List.Elements.{All-cons, All-head, All-nil, All-tail}
use Rattle.serde_json.specs.Data.{Data, Items, no_items, item, array, boolean}
use Rattle.serde_json.specs.View.{view, items_view}
use Rattle.serde_json.specs.declared.value.Value.{Value}
use Rattle.json_patch.specs.Document.{IsDocument, AreDocuments}
use Rattle.json_patch.specs.Operation.{Operation, AreWhole, operations}
use Rattle.json_patch.specs.Refusal.{NamesFirst}
use Rattle.json_patch.specs.PatchError.{PatchError}
use Rattle.json_patch.specs.Patch.{Patch}
use Rattle.json_patch.specs.PatchOperation.{PatchOperation}
use Rattle.json_patch.specs.PatchValue.{ReadsPatch}
use Rattle.json_patch_editor.specs.Commands as editor
use Rattle.json_patch_editor.specs.Commands.{apply, undo, redo, Reply, refused, moved, Replies, RepliesInTurn}
use Rattle.json_patch_editor.specs.Commands.{IsWholeCommand}
use Rattle.json_patch_editor.specs.Versions.{Versions, after_undo, after_redo}
use Rattle.json_patch_answers.specs.CommandList.{command_of, commands_of, IsNoCommand, IsNoCommands, HasReplied}
use Rattle.json_patch_answers.specs.Editing.{ReadsCommand, ReadsItems, RefusesCommand, written_reply}
use Rattle.json_patch_answers.specs.declared.editing.Command.{Command}
use Rattle.json_patch_answers.specs.declared.editing.Command.TheVariants.{Apply, Undo, Redo}
use Rattle.json_patch_answers.specs.declared.fault.ToolFault.{ToolFault}
use Rattle.json_patch_answers.specs.declared.fault.ToolFault.TheVariants.{Unreadable, Memory}

-- ---- read

pub item_read : (vs : List Value) (cs : List Command) (n : ℕ) (v : Value) (c : Command) → n < length vs → v ≡ get_or vs n v
    → ReadsItems (items_view (take n vs)) (commands_of cs) → ReadsCommand (view v) (command_of c) → ReadsItems (items_view (take (suc n) vs)) (commands_of (cs ++ c ∷ []))
item_read [] cs n v c l is h g = absurd (omega arith)
item_read (w ∷ vs) [] zero v c l is h g = (subst (λ x. ReadsCommand (view x) (command_of c)) is g, tt)
item_read (w ∷ vs) (p ∷ cs) zero v c l is h g = absurd h
item_read (w ∷ vs) [] (suc n) v c l is h g = absurd h
item_read (w ∷ vs) (p ∷ cs) (suc n) v c l is h g = (h.0, item_read vs cs n v c (omega arith) is h.1 g)

pub item_fault : (vs : List Value) (cs : List Command) (n : ℕ) (v : Value) (f : ToolFault) → n < length vs → v ≡ get_or vs n v
    → ReadsItems (items_view (take n vs)) (commands_of cs) → IsNoCommand (view v) f → IsNoCommands (array (items_view vs)) f
item_fault [] cs n v f l is h g = absurd (omega arith)
item_fault (w ∷ vs) cs zero v (Unreadable e) l is h g = inl (subst (λ x. RefusesCommand (view x) e.operation e.kind) is g)
item_fault (w ∷ vs) cs zero v Memory l is h g = tt
item_fault (w ∷ vs) cs zero v f l is h g = absurd g
item_fault (w ∷ vs) [] (suc n) v f l is h g = absurd h
item_fault (w ∷ vs) (p ∷ cs) (suc n) v (Unreadable e) l is h g = inr (command_of p, h.0, item_fault vs cs n v (Unreadable e) (omega arith) is h.1 g)
item_fault (w ∷ vs) (p ∷ cs) (suc n) v Memory l is h g = tt
item_fault (w ∷ vs) (p ∷ cs) (suc n) v f l is h g = absurd g

abbrev pub ReadsWhole : Type 0
ReadsWhole = (v : Data) (ops : List Operation) → ReadsPatch v ops → AreWhole ops

command_whole : ReadsWhole → (v : Data) (c : editor.Command) → ReadsCommand v c → IsWholeCommand c
command_whole reads v (apply ops) h = reads v ops h
command_whole reads v undo h = tt
command_whole reads v redo h = tt

pub commands_whole : ReadsWhole → (ds : Items) (cs : List editor.Command) → ReadsItems ds cs → All IsWholeCommand cs
commands_whole reads no_items [] h = All-nil IsWholeCommand
commands_whole reads no_items (c ∷ cs) h = absurd h
commands_whole reads (item d ds) [] h = absurd h
commands_whole reads (item d ds) (c ∷ cs) h = All-cons IsWholeCommand c cs (command_whole reads d c h.0) (commands_whole reads ds cs h.1)

pub whole_at : (cs : List Command) (n : ℕ) (c : Command) → n < length cs → c ≡ get_or cs n c → All IsWholeCommand (commands_of cs) → IsWholeCommand (command_of c)
whole_at [] n c l is h = absurd (omega arith)
whole_at (b ∷ cs) zero c l is h = subst (λ x. IsWholeCommand (command_of x)) (sym is) (All-head IsWholeCommand (command_of b) (commands_of cs) h)
whole_at (b ∷ cs) (suc n) c l is h = whole_at cs n c (omega arith) is (All-tail IsWholeCommand (command_of b) (commands_of cs) h)

-- ---- done

one_taken : (cs : List Command) (n : ℕ) (c : Command) → n < length cs → c ≡ get_or cs n c → commands_of (take (suc n) cs) ≡ commands_of (take n cs) ++ command_of c ∷ []
one_taken [] n c l is = absurd (omega arith)
one_taken (b ∷ cs) zero c l is = ap (λ x. command_of x ∷ []) (sym is)
one_taken (b ∷ cs) (suc n) c l is = ap (λ xs. command_of b ∷ xs) (one_taken cs n c (omega arith) is)

pushed : {A B : Type 0} (f : A → B) (xs : List A) (x : A) → map f (xs ++ x ∷ []) ≡ map f xs ++ f x ∷ []
pushed f [] x = refl
pushed f (y ∷ xs) x = ap (λ ds. f y ∷ ds) (pushed f xs x)

one_viewed : (xs : List Value) (x : Value) (rs : List Reply) (r : Reply) → map view xs ≡ map written_reply rs → view x ≡ written_reply r
    → map view (xs ++ x ∷ []) ≡ map written_reply (rs ++ r ∷ [])
one_viewed xs x rs r h k =
    pushed view xs x ∙ ap (λ ds. ds ++ view x ∷ []) h ∙ ap (λ d. map written_reply rs ++ d ∷ []) k ∙ sym (pushed written_reply rs r)

abbrev pub OneMore : Type 0
OneMore = (vs ms ws : Versions) (cs : List editor.Command) (rs : List Reply) (c : editor.Command) (r : Reply)
    → RepliesInTurn vs cs rs ms → Replies ms c r ws → RepliesInTurn vs (cs ++ c ∷ []) (rs ++ r ∷ []) ws

pub one_replied : OneMore → (vs ms ws : Versions) (cs : List Command) (n : ℕ) (c : Command) (xs : List Value) (x : Value) → n < length cs → c ≡ get_or cs n c
    → HasReplied vs (commands_of (take n cs)) xs ms → (r : Reply) × Replies ms (command_of c) r ws × (view x ≡ written_reply r)
    → HasReplied vs (commands_of (take (suc n) cs)) (xs ++ x ∷ []) ws
one_replied one_more vs ms ws cs n c xs x l is h k = (
  h.0 ++ k.0 ∷ [],
  subst (λ bs. RepliesInTurn vs bs (h.0 ++ k.0 ∷ []) ws) (sym (one_taken cs n c l is)) (one_more vs ms ws (commands_of (take n cs)) h.0 (command_of c) k.0 h.1 k.1),
  one_viewed xs x h.0 k.0 h.2 k.2,
)

pub documents_more : (xs : List Value) (x : Value) → AreDocuments (items_view xs) → IsDocument (view x) → AreDocuments (items_view (xs ++ x ∷ []))
documents_more [] x h k = (k, tt)
documents_more (y ∷ xs) x h k = (h.0, documents_more xs x h.1 k)

pub refused_reply : (vs ws : Versions) (c : Command) (p : Patch) (xs : List PatchOperation) (e : PatchError) (v : Data) → c ≡ Apply p → xs ≡ p.0.items
    → NamesFirst vs.here (operations xs) e → ws ≡ vs → v ≡ written_reply (refused e) → (r : Reply) × Replies vs (command_of c) r ws × (v ≡ written_reply r)
refused_reply vs ws c p xs e v is same names unchanged written =
    (refused e, subst (λ b. Replies vs (command_of b) (refused e) ws) (sym is) (subst (λ ys. NamesFirst vs.here (operations ys) e) same names, unchanged), written)

pub undo_reply : (vs ws : Versions) (c : Command) (b : Bool) (v : Data) → v ≡ boolean b → c ≡ Undo → (IsTrue b ↔ (0 < length vs.before)) → ws ≡ after_undo vs
    → (r : Reply) × Replies vs (command_of c) r ws × (v ≡ written_reply r)
undo_reply vs ws c b v shown is took undone = (moved b, subst (λ d. Replies vs (command_of d) (moved b) ws) (sym is) (took, undone), shown)

pub redo_reply : (vs ws : Versions) (c : Command) (b : Bool) (v : Data) → v ≡ boolean b → c ≡ Redo → (IsTrue b ↔ (0 < length vs.after)) → ws ≡ after_redo vs
    → (r : Reply) × Replies vs (command_of c) r ws × (v ≡ written_reply r)
redo_reply vs ws c b v shown is took redone = (moved b, subst (λ d. Replies vs (command_of d) (moved b) ws) (sym is) (took, redone), shown)
