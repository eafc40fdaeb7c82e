-- Steps along patches that are stored.
use Rattle.std.proofs.Common.{◌≡◌, ◌≤◌, ◌<◌, ◌+◌, inl, inr, ℕ, zero, suc, List, [], ◌∷◌, take, drop, length, get_or}
use Rattle.std.proofs.Common.{Result, Ok, Err, Bool, true, false, refl, sym, ap, subst, arith}
use Rattle.std.specs.Prelude.{◌↔◌, All}
use Rattle.std.proofs.lemmas.List.{length-take}
use Rattle.std.proofs.lemmas.List.Elements.{All-cons, All-nil}
use Rattle.std.specs.declared.alloc.AllocError.{AllocError}
use Rattle.serde_json.specs.Data.{Data}
use Rattle.json_patch.specs.Document.{IsDocument}
use Rattle.json_patch.specs.Operation.{Operation, AreWhole, operations_of}
use Rattle.json_patch.specs.Run.{Accepts, IsAccepted, Ends}
use Rattle.json_patch.specs.RunComputed.{Outcome, after_run}
use Rattle.json_patch.specs.Trails.{IfEnds, IsTrail}
use Rattle.json_patch.specs.Patch.{Patch}
use Rattle.json_patch_editor.specs.History.{documents_along, documents_from, Lead, AreKept, IsTaken, Shifts}
use Rattle.json_patch_editor.specs.Versions.{Versions, after_apply}

-- ---- one patch more or less

pub stored_more : (d e : Data) (q : Patch) (ps : List Patch) → AreWhole (operations_of q) → after_run e (operations_of q) ≡ Ok d → IsTrail d ps → IsTrail e (q ∷ ps)
stored_more d e q ps w is s = (w, rw is s)

pub documents_along-more : (d e : Data) (q : Patch) (ps : List Patch) → after_run e (operations_of q) ≡ Ok d → documents_along e (q ∷ ps) ≡ d ∷ documents_along d ps
documents_along-more d e q ps is = rw is refl

pub stored_less : (d e : Data) (p : Patch) (ps : List Patch) → after_run d (operations_of p) ≡ Ok e → IsTrail d (p ∷ ps) → IsTrail e ps
stored_less d e p ps is s = rw is at s.1

-- ---- some of the first

taken_on : (o : Outcome) (n : ℕ) (ps : List Patch) → ((e : Data) → IsTrail e ps → IsTrail e (take n ps)) → IfEnds o (λ e. IsTrail e ps) → IfEnds o (λ e. IsTrail e (take n ps))
taken_on (Ok e) n ps more s = more e s
taken_on (Err f) n ps more s = absurd s

pub stored_taken : (n : ℕ) (d : Data) (ps : List Patch) → IsTrail d ps → IsTrail d (take n ps)
stored_taken zero d ps s = tt
stored_taken (suc n) d [] s = tt
stored_taken (suc n) d (p ∷ ps) s = (s.0, taken_on (after_run d (operations_of p)) n ps (λ e. stored_taken n e ps) s.1)

documents_from-take : (o : Outcome) (n : ℕ) (ps : List Patch) → ((e : Data) → documents_along e (take n ps) ≡ take n (documents_along e ps)) → documents_from o (λ e. documents_along e (take n ps)) ≡ take (suc n) (documents_from o (λ e. documents_along e ps))
documents_from-take (Ok e) n ps more = ap (λ es. e ∷ es) (more e)
documents_from-take (Err f) n ps more = refl

pub documents_along-take : (n : ℕ) (d : Data) (ps : List Patch) → documents_along d (take n ps) ≡ take n (documents_along d ps)
documents_along-take zero d ps = refl
documents_along-take (suc n) d [] = refl
documents_along-take (suc n) d (p ∷ ps) = documents_from-take (after_run d (operations_of p)) n ps (λ e. documents_along-take n e ps)

length-documents_from : (o : Outcome) (ps : List Patch) → ((e : Data) → IsTrail e ps → length (documents_along e ps) ≡ length ps) → IfEnds o (λ e. IsTrail e ps) → length (documents_from o (λ e. documents_along e ps)) ≡ suc (length ps)
length-documents_from (Ok e) ps more s = ap suc (more e s)
length-documents_from (Err f) ps more s = absurd s

pub length-documents_along : (d : Data) (ps : List Patch) → IsTrail d ps → length (documents_along d ps) ≡ length ps
length-documents_along d [] s = refl
length-documents_along d (p ∷ ps) s = length-documents_from (after_run d (operations_of p)) ps (λ e. length-documents_along e ps) s.1

pub none_stored : (d : Data) (ps : List Patch) → IsTrail d ps → documents_along d ps ≡ [] → ps ≡ []
none_stored d [] s is = refl
none_stored d (p ∷ ps) s is = let n : length (documents_along d (p ∷ ps)) ≡ 0 = ap length is in absurd (omega (arith, n, length-documents_along d (p ∷ ps) s))

-- ---- the first

pub first_is : (ps : List Patch) (p : Patch) → 0 < length ps → p ≡ get_or ps 0 p → ps ≡ p ∷ drop 1 ps
first_is [] p lt is = absurd (omega arith)
first_is (x ∷ ps) p lt is = ap (λ y. y ∷ ps) (sym is)

pub first_whole : (d : Data) (ps : List Patch) (p : Patch) → 0 < length ps → p ≡ get_or ps 0 p → IsTrail d ps → AreWhole (operations_of p)
first_whole d [] p lt is s = absurd (omega arith)
first_whole d (x ∷ ps) p lt is s = subst (λ y. AreWhole (operations_of y)) (sym is) s.0

-- ---- what an editor keeps

pub record AreFit (depth : ℕ) (d : Data) (undos redos : List Patch) : Type 0 where
  pub undoable : IsTrail d undos
  pub redoable : IsTrail d redos
  pub bounded : length undos + length redos ≤ depth

fit_kept : (depth : ℕ) (d e : Data) (undos redos grown left : List Patch) → AreKept d undos redos e grown left → AreFit depth d undos redos → AreFit depth e grown left
fit_kept depth d e undos redos grown left k f = rw (k.0, k.1, k.2) f

fit_taken : (depth : ℕ) (d e : Data) (from to left grown : List Patch) → IsTaken d from to e left grown → AreFit depth d from to → AreFit depth e left grown
fit_taken depth d e from to left grown t f = record {
  undoable = stored_less d e t.p left t.leads (rw t.from_is at f.undoable);
  redoable = rw t.grown_is (stored_more d e t.q to t.whole t.leads_back f.redoable);
  bounded = (let h : suc (length left) + length to ≤ depth = (rw t.from_is at f.bounded) in let g : length grown ≡ suc (length to) = ap length t.grown_is in omega arith);
}

pub fit_shift : (r : Result Bool AllocError) (depth : ℕ) (d e : Data) (from to left grown : List Patch) → Shifts r d from to e left grown → AreFit depth d from to → AreFit depth e left grown
fit_shift (Ok true) depth d e from to left grown s f = fit_taken depth d e from to left grown s f
fit_shift (Ok false) depth d e from to left grown s f = fit_kept depth d e from to left grown s.1 f
fit_shift (Err x) depth d e from to left grown s f = fit_kept depth d e from to left grown s f

-- ---- versions

abbrev pub versions_of : ℕ → Data → List Patch → List Patch → Versions
versions_of depth d undos redos = record { before = documents_along d undos; here = d; after = documents_along d redos; depth = depth }

-- ---- a change that is made, and stored

-- q leads back from e to d, and is stored before the undos, of which `depth` are kept; there are no redos then
module _ (depth : ℕ) (d e : Data) (q : Patch) (undos grown left : List Patch) (whole : AreWhole (operations_of q)) (back : after_run e (operations_of q) ≡ Ok d)
    (grown_is : grown ≡ take depth (q ∷ undos)) (left_is : left ≡ []) where
  pub fit_recorded : IsTrail d undos → AreFit depth e grown left
  fit_recorded s = record {
    undoable = rw grown_is (stored_taken depth e (q ∷ undos) (stored_more d e q undos whole back s));
    redoable = rw left_is tt;
    bounded = rw (grown_is, left_is) (let h : length (take depth (q ∷ undos)) ≡ _ = length-take depth (q ∷ undos) in omega arith);
  }

  pub seen_recorded : (redos : List Patch) → versions_of depth e grown left ≡ after_apply e (versions_of depth d undos redos)
  seen_recorded redos = rw (grown_is, left_is, documents_along-take depth e (q ∷ undos), documents_along-more d e q undos back) refl

-- ---- what the patches lead to

abbrev pub Computed : Type 0
Computed = (d : Data) (ops : List Operation) → IsDocument d → AreWhole ops → (e : Data) → Accepts d ops e ↔ (after_run d ops ≡ Ok e)

abbrev pub OneEnd : Type 0
OneEnd = (d : Data) (ops : List Operation) → IsDocument d → AreWhole ops → Ends d ops

abbrev pub Keeping : Type 0
Keeping = (d : Data) (ops : List Operation) (e : Data) → IsDocument d → AreWhole ops → Accepts d ops e → IsDocument e

accepted : (d : Data) (ops : List Operation) (e : Data) → Accepts d ops e → Ends d ops → IsAccepted d ops e
accepted d ops e h (inl (f, a)) = subst (IsAccepted d ops) (sym (a.end e h)) a
accepted d ops e h (inr (k, kind, r)) = absurd (r.never e h)

module _ (computed : Computed) (one_end : OneEnd) (keeping : Keeping) where
  lead_on : (d : Data) (p : Patch) (ps : List Patch) (o : Outcome) → IsDocument d → AreWhole (operations_of p) → after_run d (operations_of p) ≡ o
      → ((e : Data) → IsDocument e → IsTrail e ps → Lead e ps (documents_along e ps)) → IfEnds o (λ e. IsTrail e ps) → Lead d (p ∷ ps) (documents_from o (λ e. documents_along e ps))
  lead_on d p ps (Ok e) hd w is more s =
      let h : Accepts d (operations_of p) e = (computed d (operations_of p) hd w e).1 is in
      (accepted d (operations_of p) e h (one_end d (operations_of p) hd w), more e (keeping d (operations_of p) e hd w h) s)
  lead_on d p ps (Err f) hd w is more s = absurd s

  pub lead : (d : Data) (ps : List Patch) → IsDocument d → IsTrail d ps → Lead d ps (documents_along d ps)
  lead d [] hd s = tt
  lead d (p ∷ ps) hd s = lead_on d p ps (after_run d (operations_of p)) hd s.0 refl (λ e he t. lead e ps he t) s.1

  documents_on : (d : Data) (ops : List Operation) (ps : List Patch) (o : Outcome) → IsDocument d → AreWhole ops → after_run d ops ≡ o
      → ((e : Data) → IsDocument e → IsTrail e ps → All IsDocument (documents_along e ps)) → IfEnds o (λ e. IsTrail e ps) → All IsDocument (documents_from o (λ e. documents_along e ps))
  documents_on d ops ps (Ok e) hd w is more s =
      let he : IsDocument e = keeping d ops e hd w ((computed d ops hd w e).1 is) in
      All-cons IsDocument e (documents_along e ps) he (more e he s)
  documents_on d ops ps (Err f) hd w is more s = absurd s

  pub documents_of : (d : Data) (ps : List Patch) → IsDocument d → IsTrail d ps → All IsDocument (documents_along d ps)
  documents_of d [] hd s = All-nil IsDocument
  documents_of d (p ∷ ps) hd s = documents_on d (operations_of p) ps (after_run d (operations_of p)) hd s.0 refl (λ e he t. documents_of e ps he t) s.1
