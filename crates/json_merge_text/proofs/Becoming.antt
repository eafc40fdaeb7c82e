-- One change of the texts after another.
use Rattle.std.proofs.Common.{◌≡◌, ℕ, List, Result, OnOk, ◌∙◌, subst}
use Rattle.std.proofs.lemmas.Result.{on_ok_weaker}
use Rattle.json_merge_text.specs.Steps.{Becomes}
use Rattle.json_merge_text.specs.declared.texts.Texts.{Texts}
use Rattle.json_pieces.specs.Whole.{text_of}

-- what is made, said in another way
pub becomes_as : {T E : Type 0} (old new : Texts) (Made Meant : List ℕ → List ℕ → List ℕ → Type 0) (r : Result T E) → (Made (text_of old.patch) (text_of old.document) (text_of new.document) → Meant (text_of old.patch) (text_of old.document) (text_of new.document))
    → OnOk r (Becomes old new Made) → OnOk r (Becomes old new Meant)
becomes_as old new Made Meant r f h = on_ok_weaker r (λ (b : Becomes old new Made). record { texts = b.texts; same = b.same; made = f b.made }) h

-- one thing made, and then another
pub becomes_then : {T E : Type 0} (old mid new : Texts) (First Then Meant : List ℕ → List ℕ → List ℕ → Type 0) (r : Result T E) → Becomes old mid First
    → (First (text_of old.patch) (text_of old.document) (text_of mid.document) → Then (text_of old.patch) (text_of mid.document) (text_of new.document) → Meant (text_of old.patch) (text_of old.document) (text_of new.document))
    → OnOk r (Becomes mid new Then) → OnOk r (Becomes old new Meant)
becomes_then old mid new First Then Meant r b f h =
    on_ok_weaker r (λ (c : Becomes mid new Then). record { texts = c.texts; same = c.same ∙ b.same; made = f b.made (subst (λ p. Then p (text_of mid.document) (text_of new.document)) b.same c.made) }) h

-- nothing made, and then one thing
pub becomes_kept : {T E : Type 0} (old mid new : Texts) (Made : List ℕ → List ℕ → List ℕ → Type 0) (r : Result T E) → Becomes old mid (λ patch text next. next ≡ text) → OnOk r (Becomes mid new Made) → OnOk r (Becomes old new Made)
becomes_kept old mid new Made r b h = becomes_then old mid new (λ patch text next. next ≡ text) Made Made r b (λ same made. subst (λ t. Made (text_of old.patch) t (text_of new.document)) same made) h
