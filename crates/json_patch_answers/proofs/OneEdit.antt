-- A value reads as one list of commands at most, or as none for one cause, and an editor gives one value for it.
use Rattle.std.proofs.Common.{◌≡◌, ◌⊎◌, ℕ, List, [], ◌∷◌, Option, None, Bool, true, false, inl, inr, refl, sym, ap}
use Rattle.std.proofs.Common.{subst, ◌∙◌, arith}
use Rattle.std.specs.Prelude.{All, codes}
use Rattle.std.specs.Str.{bytes_eq}
use Rattle.std.proofs.lemmas.List.Elements.{All-nil}
use Rattle.std.proofs.lemmas.Slice.Eq.{bytes_eq-Decides}
use Rattle.serde_json.specs.Data.{Data, null, boolean, number, string, array, object, Items, no_items, item}
use Rattle.json_patch.specs.Document.{IsDocument}
use Rattle.json_patch.specs.Operation.{Operation}
use Rattle.json_patch.specs.PatchValue.{ReadsPatch, RefusesPatch}
use Rattle.json_patch.specs.ReadError.{ReadError}
use Rattle.json_patch.specs.ReadKind.{ReadKind}
use Rattle.json_patch.specs.ReadKind.TheVariants.{NotAList}
use Rattle.json_patch_editor.specs.Commands.{AreVersions, Command, apply, undo, redo, IsWholeCommand, RepliesInTurn}
use Rattle.json_patch_editor.specs.Versions.{initial}
use Rattle.json_patch_answers.specs.Editing.{ReadsCommand, RefusesCommand, ReadsItems, ReadsCommands, RefusesItems}
use Rattle.json_patch_answers.specs.Editing.{RefusesCommands, written_edit}
use Rattle.json_patch_answers.specs.Answer.{IsEdited, IsNotEdited}
use Rattle.json_patch_answers.specs.declared.fault.ToolFault.{ToolFault}
use Rattle.json_patch_answers.specs.declared.fault.ToolFault.TheVariants.{NotWhole, Unreadable}
use Rattle.json_patch_answers.proofs.Below.{Below}
use Rattle.json_patch_answers.proofs.Commands.{commands_whole}

-- a string is no patch
no_patch : (v : Data) (t : List ℕ) (ops : List Operation) → v ≡ string t → ReadsPatch v ops → ⊥
no_patch v t ops is h = subst (λ x. ReadsPatch x ops) is h

abbrev first_byte : Data → ℕ
first_byte (string (x ∷ xs)) = x
first_byte d = 0

words_differ : (v : Data) → v ≡ string (codes "undo") → v ≡ string (codes "redo") → ⊥
words_differ v h k = let e : 117 ≡ 114 = ap first_byte (sym h ∙ k) in absurd (omega (arith, e))

opened : (d : Data) → IsDocument d → AreVersions (initial 65536 d)
opened d h = record { before = All-nil IsDocument; here = h; after = All-nil IsDocument }

from_test : (s t : List ℕ) (b : Bool) → bytes_eq s t ≡ b → (s ≡ t) ⊎ (s ≡ t → ⊥)
from_test s t true is = inl ((bytes_eq-Decides s t).0 is)
from_test s t false is = inr (λ h. let k = (bytes_eq-Decides s t).1 h in cc)

texts_differ : (s t : List ℕ) → (s ≡ t) ⊎ (s ≡ t → ⊥)
texts_differ s t = from_test s t (bytes_eq s t) refl

module _ (below : Below) where
  patch_once : (v : Data) (xs ys : List Operation) → ReadsPatch v xs → ReadsPatch v ys → xs ≡ ys
  patch_once v xs ys h k = elim (below.read_or_refused v) [
    | inl w ↦ w.1.alone xs h ∙ sym (w.1.alone ys k)
    | inr w ↦ absurd (w.2.never xs h)
  ]

  patch_or_not : (v : Data) (ops : List Operation) (k : Option ℕ) (kind : ReadKind) → ReadsPatch v ops → RefusesPatch v k kind → ⊥
  patch_or_not v ops k kind h r = elim (below.read_or_refused v) [
    | inl w ↦ w.1.nowhere k kind r
    | inr w ↦ w.2.never ops h
  ]

  refused_patch_once : (v : Data) (j k : Option ℕ) (x y : ReadKind) → RefusesPatch v j x → RefusesPatch v k y → (j ≡ k) × (x ≡ y)
  refused_patch_once v j k x y h r = elim (below.read_or_refused v) [
    | inl w ↦ absurd (w.1.nowhere _ _ h)
    | inr w ↦ let a = w.2.alone _ _ h in let b = w.2.alone _ _ r in (a.0 ∙ sym b.0, a.1 ∙ sym b.1)
  ]

  command_once : (v : Data) (c b : Command) → ReadsCommand v c → ReadsCommand v b → c ≡ b
  command_once v (apply xs) (apply ys) h k = ap apply (patch_once v xs ys h k)
  command_once v (apply xs) undo h k = absurd (no_patch v _ xs k h)
  command_once v (apply xs) redo h k = absurd (no_patch v _ xs k h)
  command_once v undo (apply ys) h k = absurd (no_patch v _ ys h k)
  command_once v undo undo h k = refl
  command_once v undo redo h k = absurd (words_differ v h k)
  command_once v redo (apply ys) h k = absurd (no_patch v _ ys h k)
  command_once v redo undo h k = absurd (words_differ v k h)
  command_once v redo redo h k = refl

  command_or_not : (v : Data) (c : Command) (k : Option ℕ) (kind : ReadKind) → ReadsCommand v c → RefusesCommand v k kind → ⊥
  command_or_not v (apply ops) k kind h r = patch_or_not v ops k kind h r.no_patch
  command_or_not v undo k kind h r = r.no_undo h
  command_or_not v redo k kind h r = r.no_redo h

  items_once : (ds : Items) (cs bs : List Command) → ReadsItems ds cs → ReadsItems ds bs → cs ≡ bs
  items_once no_items [] [] h k = refl
  items_once no_items [] (b ∷ bs) h k = absurd k
  items_once no_items (c ∷ cs) bs h k = absurd h
  items_once (item d ds) [] bs h k = absurd h
  items_once (item d ds) (c ∷ cs) [] h k = absurd k
  items_once (item d ds) (c ∷ cs) (b ∷ bs) h k =
      let first = command_once d c b h.0 k.0 in
      let rest = items_once ds cs bs h.1 k.1 in
      ap (λ x. x ∷ cs) first ∙ ap (λ xs. b ∷ xs) rest

  items_or_not : (ds : Items) (cs : List Command) (k : Option ℕ) (kind : ReadKind) → ReadsItems ds cs → RefusesItems ds k kind → ⊥
  items_or_not no_items cs k kind h r = r
  items_or_not (item d ds) [] k kind h r = h
  items_or_not (item d ds) (c ∷ cs) k kind h (inl r) = command_or_not d c k kind h.0 r
  items_or_not (item d ds) (c ∷ cs) k kind h (inr r) = items_or_not ds cs k kind h.1 r.2

  items_refused_once : (ds : Items) (j k : Option ℕ) (x y : ReadKind) → RefusesItems ds j x → RefusesItems ds k y → (j ≡ k) × (x ≡ y)
  items_refused_once no_items j k x y h r = absurd h
  items_refused_once (item d ds) j k x y (inl h) (inl r) = refused_patch_once d j k x y h.no_patch r.no_patch
  items_refused_once (item d ds) j k x y (inl h) (inr r) = absurd (command_or_not d r.0 j x r.1 h)
  items_refused_once (item d ds) j k x y (inr h) (inl r) = absurd (command_or_not d h.0 k y h.1 r)
  items_refused_once (item d ds) j k x y (inr h) (inr r) = items_refused_once ds j k x y h.2 r.2

  pub commands_once : (v : Data) (cs bs : List Command) → ReadsCommands v cs → ReadsCommands v bs → cs ≡ bs
  commands_once (array ds) cs bs h k = items_once ds cs bs h k
  commands_once null cs bs h k = absurd h
  commands_once (boolean b) cs bs h k = absurd h
  commands_once (number n) cs bs h k = absurd h
  commands_once (string t) cs bs h k = absurd h
  commands_once (object ms) cs bs h k = absurd h

  commands_or_not : (v : Data) (cs : List Command) (k : Option ℕ) (kind : ReadKind) → ReadsCommands v cs → RefusesCommands v k kind → ⊥
  commands_or_not (array ds) cs k kind h r = items_or_not ds cs k kind h r
  commands_or_not null cs k kind h r = h
  commands_or_not (boolean b) cs k kind h r = h
  commands_or_not (number n) cs k kind h r = h
  commands_or_not (string t) cs k kind h r = h
  commands_or_not (object ms) cs k kind h r = h

  commands_refused_once : (v : Data) (j k : Option ℕ) (x y : ReadKind) → RefusesCommands v j x → RefusesCommands v k y → (j ≡ k) × (x ≡ y)
  commands_refused_once (array ds) j k x y h r = items_refused_once ds j k x y h r
  commands_refused_once null j k x y h r = (h.0 ∙ sym r.0, h.1 ∙ sym r.1)
  commands_refused_once (boolean b) j k x y h r = (h.0 ∙ sym r.0, h.1 ∙ sym r.1)
  commands_refused_once (number n) j k x y h r = (h.0 ∙ sym r.0, h.1 ∙ sym r.1)
  commands_refused_once (string t) j k x y h r = (h.0 ∙ sym r.0, h.1 ∙ sym r.1)
  commands_refused_once (object ms) j k x y h r = (h.0 ∙ sym r.0, h.1 ∙ sym r.1)

  commands_are_whole : (v : Data) (cs : List Command) → ReadsCommands v cs → All IsWholeCommand cs
  commands_are_whole (array ds) cs h = commands_whole below.read_is_whole ds cs h
  commands_are_whole null cs h = absurd h
  commands_are_whole (boolean b) cs h = absurd h
  commands_are_whole (number n) cs h = absurd h
  commands_are_whole (string t) cs h = absurd h
  commands_are_whole (object ms) cs h = absurd h

  pub edited_once : (d p e f : Data) → IsEdited d p e → IsEdited d p f → e ≡ f
  edited_once d p e f h k =
      let cs = h.1.0 in
      let same = commands_once p k.1.0 cs k.1.3 h.1.3 in
      let turns = subst (λ xs. RepliesInTurn (initial 65536 d) xs k.1.1 k.1.2) same k.1.4 in
      let one = below.replied_once (initial 65536 d) h.1.2 k.1.2 cs h.1.1 k.1.1 (opened d h.0) (commands_are_whole p cs h.1.3) h.1.4 turns in
      h.1.5 ∙ ap (λ rs. written_edit h.1.2 rs) one.0 ∙ ap (λ ws. written_edit ws k.1.1) one.1 ∙ sym k.1.5

  -- the two causes for which nothing is edited
  abbrev pub EditCause : Data → Data → ToolFault → Type 0
  EditCause d p f = ((f ≡ NotWhole) × (IsDocument d → ⊥))
      ⊎ ((e : ReadError) × (f ≡ Unreadable e) × IsDocument d × RefusesCommands p e.operation e.kind)

  edit_cause : (d p : Data) (f : ToolFault) → IsNotEdited d p f → EditCause d p f
  edit_cause d p NotWhole h = inl (refl, h)
  edit_cause d p (Unreadable e) h = inr (e, refl, h.0, h.1)
  edit_cause d p f h = absurd h

  edit_cause_once : (d p : Data) (f g : ToolFault) → EditCause d p f → EditCause d p g → f ≡ g
  edit_cause_once d p f g (inl a) (inl b) = a.0 ∙ sym b.0
  edit_cause_once d p f g (inl a) (inr b) = absurd (a.1 b.2)
  edit_cause_once d p f g (inr a) (inl b) = absurd (b.1 a.2)
  edit_cause_once d p f g (inr a) (inr b) =
      let same = commands_refused_once p a.0.operation b.0.operation a.0.kind b.0.kind a.3 b.3 in
      let errors : a.0 ≡ b.0 = (λ i. record { operation = same.0 i; kind = same.1 i }) in
      a.1 ∙ ap Unreadable errors ∙ sym b.1

  pub unedited_once : (d p : Data) (f g : ToolFault) → IsNotEdited d p f → IsNotEdited d p g → f ≡ g
  unedited_once d p f g h k = edit_cause_once d p f g (edit_cause d p f h) (edit_cause d p g k)

  edited_or_cause : (d p e : Data) (f : ToolFault) → IsEdited d p e → EditCause d p f → ⊥
  edited_or_cause d p e f h (inl a) = a.1 h.0
  edited_or_cause d p e f h (inr a) = commands_or_not p h.1.0 a.0.operation a.0.kind h.1.3 a.3

  pub edited_or_not : (d p e : Data) (f : ToolFault) → IsEdited d p e → IsNotEdited d p f → ⊥
  edited_or_not d p e f h k = edited_or_cause d p e f h (edit_cause d p f k)

  -- ---- one always

  abbrev IsCommandOrNot : Data → Type 0
  IsCommandOrNot v = ((c : Command) × ReadsCommand v c) ⊎ ((k : Option ℕ) × (kind : ReadKind) × RefusesCommand v k kind)

  no_word : (v : Data) → (v ≡ string (codes "undo") → ⊥) → (v ≡ string (codes "redo") → ⊥) → IsCommandOrNot v
  no_word v n m = elim (below.read_or_refused v) [
    | inl w ↦ inl (apply w.0, w.1.reads)
    | inr w ↦ inr (w.0, w.1, record { no_undo = n; no_redo = m; no_patch = w.2.refuses })
  ]

  same_text : (s t : List ℕ) → string s ≡ string t → s ≡ t
  same_text s t h = cc

  word_or_not : (s : List ℕ) → (s ≡ codes "undo") ⊎ (s ≡ codes "undo" → ⊥) → (s ≡ codes "redo") ⊎ (s ≡ codes "redo" → ⊥) → IsCommandOrNot (string s)
  word_or_not s (inl h) b = inl (undo, ap string h)
  word_or_not s (inr n) (inl h) = inl (redo, ap string h)
  word_or_not s (inr n) (inr m) = no_word (string s) (λ h. n (same_text s _ h)) (λ h. m (same_text s _ h))

  a_command : (v : Data) → IsCommandOrNot v
  a_command (string s) = word_or_not s (texts_differ s (codes "undo")) (texts_differ s (codes "redo"))
  a_command null = no_word null (λ h. cc) (λ h. cc)
  a_command (boolean b) = no_word (boolean b) (λ h. cc) (λ h. cc)
  a_command (number n) = no_word (number n) (λ h. cc) (λ h. cc)
  a_command (array ds) = no_word (array ds) (λ h. cc) (λ h. cc)
  a_command (object ms) = no_word (object ms) (λ h. cc) (λ h. cc)

  some_items : (ds : Items) → ((cs : List Command) × ReadsItems ds cs) ⊎ ((k : Option ℕ) × (kind : ReadKind) × RefusesItems ds k kind)
  some_items no_items = inl ([], tt)
  some_items (item d ds) = elim (a_command d) [
    | inr r ↦ inr (r.0, r.1, inl r.2)
    | inl c ↦ elim (some_items ds) [
      | inl cs ↦ inl (c.0 ∷ cs.0, (c.1, cs.1))
      | inr r ↦ inr (r.0, r.1, inr (c.0, c.1, r.2))
    ]
  ]

  pub some_commands : (v : Data) → ((cs : List Command) × ReadsCommands v cs) ⊎ ((k : Option ℕ) × (kind : ReadKind) × RefusesCommands v k kind)
  some_commands (array ds) = some_items ds
  some_commands null = inr (None, NotAList, (refl, refl))
  some_commands (boolean b) = inr (None, NotAList, (refl, refl))
  some_commands (number n) = inr (None, NotAList, (refl, refl))
  some_commands (string t) = inr (None, NotAList, (refl, refl))
  some_commands (object ms) = inr (None, NotAList, (refl, refl))

  pub edited_given : (d p : Data) → IsDocument d ⊎ (IsDocument d → ⊥) → ((e : Data) × IsEdited d p e) ⊎ ((f : ToolFault) × IsNotEdited d p f)
  edited_given d p (inr n) = inr (NotWhole, n)
  edited_given d p (inl document) = elim (some_commands p) [
    | inr r ↦ inr (Unreadable (record { operation = r.0; kind = r.1 }), (document, r.2))
    | inl w ↦
        let t = below.always_replied (initial 65536 d) w.0 (opened d document) (commands_are_whole p w.0 w.1) in
        inl (written_edit t.1 t.0, (document, (w.0, t.0, t.1, w.1, t.2, refl)))
  ]
