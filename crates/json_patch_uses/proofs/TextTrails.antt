-- What texts that say the same are led to, and the steps of an editor of a text.
use Rattle.std.proofs.Common.{◌≡◌, ◌⊎◌, ◌≤◌, ◌<◌, ◌∙◌, inl, inr, ℕ, zero, suc, List, [], ◌∷◌, take, length, Option, Some, None, Result, Ok, Err, Bool, true, false, refl, sym, ap, subst, arith}
use Rattle.std.specs.Prelude.{◌↔◌, IfErr, IfOk, IsSomeAnd, IsTrue, OnOk, option_map, string_bytes}
use Rattle.std.proofs.lemmas.Bool.{false≢true}
use Rattle.std.proofs.lemmas.Option.{same_Some}
use Rattle.std.specs.declared.alloc.Global.{Global}
use Rattle.std.specs.declared.string.String.{String}
use Rattle.json.specs.Json.{Json, max_depth}
use Rattle.json_diff_text.specs.Differences.{SaySame, most_levels}
use Rattle.json_kept_text.specs.Kept.{Change, IsReadable}
use Rattle.json_lexemes.specs.Skipped.{nesting}
use Rattle.json_lexemes.specs.Spelled.{Says}
use Rattle.json_patch_document.specs.Document.{IsDocument}
use Rattle.json_patch_document.specs.Same.{AreSame}
use Rattle.json_patch_laws.specs.Run.{Accepts}
use Rattle.json_patch_limits.specs.declared.limits.Limits.{Limits}
use Rattle.json_patch_operation.specs.Operation.{Operation}
use Rattle.json_patch_operation.specs.PatchValue.{ReadsPatch, RefusesPatch}
use Rattle.json_patch_operation.specs.ReadLaws.{HasReadFault, IsRead}
use Rattle.json_patch_operation.specs.declared.error.PatchError.{PatchError}
use Rattle.json_patch_operation.specs.declared.error.PatchErrorKind.{PatchErrorKind}
use Rattle.json_patch_operation.specs.declared.read_error.ReadError.{ReadError}
use Rattle.json_patch_operation.specs.declared.read_error.ReadKind.{ReadKind}
use Rattle.json_patch_text.specs.Operations.{TreeOperation, ReadsTreePatch, SaysOperations, all_under}
use Rattle.json_patch_text.specs.Patched.{AcceptsPatch, IsPatchTextFault}
use Rattle.json_patch_text.specs.Run.{AcceptsTree, RefusesTreeAt}
use Rattle.json_patch_text.specs.WayBack.{IsRecordLimitFault}
use Rattle.json_patch_text.specs.declared.fault.PatchTextFault.TheVariants.{Document, Patch, Unreadable, Refused, TooDeep, Memory}
use Rattle.json_patch_text.specs.declared.fault.TextLimitFault.{TextLimitFault}
use Rattle.json_patch_text.specs.declared.fault.TextLimitFault.TheVariants as within
use Rattle.json_reading.specs.Reading.{Reading}
use Rattle.json_reading.specs.Same.{SameTree}
use Rattle.json_reading.specs.Trees.{data_of}
use Rattle.json_text.specs.declared.fault.TextFault.TheVariants as text
use Rattle.serde_json.specs.Data.{Data}
use Rattle.json_patch_uses.specs.TextEditors.{Held, HasVersions, IsFirstHeldUp, IsHeldUp, IsStep, LeadAlong, TextVersions, after_apply, after_redo, after_undo, back_to, on_to}
use Rattle.json_patch_uses.specs.TextSteps.{AreUntouched, IsTaken, Steps}

-- ---- texts that say the same

pub same_exactly : ((i j : Json) → SameTree i j ↔ ((r : Reading) → AreSame (data_of r i) (data_of r j))) → ((d e : Data) → IsDocument d → (AreSame d e ↔ (d ≡ e))) → ((r : Reading) (j : Json) → IsDocument (data_of r j))
    → (i j : Json) → SameTree i j ↔ ((r : Reading) → data_of r i ≡ data_of r j)
same_exactly under same doc i j = (λ s r. (same (data_of r i) (data_of r j) (doc r i)).0 ((under i j).0 s r), λ e. (under i j).1 (λ r. (same (data_of r i) (data_of r j) (doc r i)).1 (e r)))

module _ (one_tree : (text : List ℕ) (i j : Json) → Says text i → Says text j → i ≡ j)
    (same_exactly : (i j : Json) → SameTree i j ↔ ((r : Reading) → data_of r i ≡ data_of r j)) where
  pub from_same : (t u p v : List ℕ) → SaySame t u → AcceptsPatch u p v → AcceptsPatch t p v
  from_same t u p v (i, j, a, b, same) (ops, says, (k, l, c, d, led)) =
      (ops, says, (i, l, a, d, λ r. subst (λ x. Accepts x (all_under r ops) (data_of r l)) (ap (data_of r) (one_tree u k j c b) ∙ sym ((same_exactly i j).0 same r)) (led r)))

  pub to_same : (t p u v : List ℕ) → AcceptsPatch t p u → SaySame u v → AcceptsPatch t p v
  to_same t p u v (ops, says, (k, l, c, d, led)) (i, j, a, b, same) =
      (ops, says, (k, j, c, b, λ r. subst (λ x. Accepts (data_of r k) (all_under r ops) x) (ap (data_of r) (one_tree u l i d a) ∙ (same_exactly i j).0 same r) (led r)))

module _ (one_tree : (text : List ℕ) (i j : Json) → Says text i → Says text j → i ≡ j)
    (one_patch : (text : List ℕ) (ops others : List TreeOperation) → SaysOperations text ops → SaysOperations text others → others ≡ ops) where
  pub one_end : ((i j k : Json) (ops : List TreeOperation) → AcceptsTree i ops j → AcceptsTree i ops k → SameTree j k) → (t p u v : List ℕ) → AcceptsPatch t p u → AcceptsPatch t p v → SaySame u v
  one_end ends t p u v (ops, says, (i, j, a, b, led)) (others, also, (k, l, c, d, led_too)) =
      (j, l, b, d, ends i j l ops led (subst (λ x. AcceptsTree x ops l) (one_tree t k i c a) (subst (λ os. AcceptsTree k os l) (one_patch p ops others says also) led_too)))

-- ---- what is accepted isn't refused, nor unreadable

module _ (one_tree : (text : List ℕ) (i j : Json) → Says text i → Says text j → i ≡ j) where
  pub unrefused : ((text : List ℕ) (ops others : List TreeOperation) → SaysOperations text ops → SaysOperations text others → others ≡ ops)
      → ((i j : Json) (ops : List TreeOperation) (k : ℕ) (kind : PatchErrorKind) → AcceptsTree i ops j → RefusesTreeAt i ops k kind → ⊥)
      → (t p u : List ℕ) (e : PatchError) → AcceptsPatch t p u → IsPatchTextFault t p (Refused e) → ⊥
  unrefused one_patch not_both t p u e (ops, says, (i, j, a, b, led)) (others, also, ((k, c, refused), at)) =
      not_both i j ops e.operation e.kind led
      (subst (λ x. RefusesTreeAt x ops e.operation e.kind) (one_tree t k i c a) (subst (λ os. RefusesTreeAt k os e.operation e.kind) (one_patch p ops others says also) refused))

  pub read : Reading → ((p : Json) (ops : List TreeOperation) → ReadsTreePatch p ops → (r : Reading) → ReadsPatch (data_of r p) (all_under r ops))
      → ((v : Data) → ((ops : List Operation) × IsRead v ops) ⊎ ((k : Option ℕ) × (kind : ReadKind) × HasReadFault v k kind))
      → (t p u : List ℕ) (e : ReadError) → AcceptsPatch t p u → IsPatchTextFault t p (Unreadable e) → ⊥
  read r under either t p u e (ops, (i, says, reads), led) (j, also, refused) = by (either (data_of r i))
    where
      here : RefusesPatch (data_of r i) e.operation e.kind
      here = subst (λ x. RefusesPatch (data_of r x) e.operation e.kind) (one_tree p j i also says) (refused r)

      by : ((os : List Operation) × IsRead (data_of r i) os) ⊎ ((k : Option ℕ) × (kind : ReadKind) × HasReadFault (data_of r i) k kind) → ⊥
      by (inl (os, w)) = w.nowhere e.operation e.kind here
      by (inr (k, kind, w)) = w.never (all_under r ops) (under i ops reads r)

-- ---- the patch that leads back

pub found_back : (P : List ℕ → Type 0) (last : Option Change) (found : Option (String Global)) → option_map string_bytes found ≡ option_map (λ (c : Change). c.inverse) last → IsSomeAnd last (λ c. P c.inverse) → IsSomeAnd found (λ s. P (string_bytes s))
found_back P (Some c) (Some s) is h = subst P (sym (same_Some _ _ is)) h
found_back P (Some c) None is h = cc
found_back P None found is h = absurd h

-- ---- where a step fails

too_deep : (l : Limits) (n : ℕ) → l.depth ≤ most_levels → n ≤ l.depth → (l.depth < n) ⊎ (max_depth < n) → ⊥
too_deep l n few fits (inl h) = omega (arith, fits, h)
too_deep l n few fits (inr h) = omega (arith, few, fits, h)

first_step : (here p : List ℕ) (ps us : List (List ℕ)) → LeadAlong here (p ∷ ps) us → (v : List ℕ) × IsStep here p v
first_step here p ps [] h = absurd h
first_step here p ps (v ∷ us) h = (v, h.0)

module _ (from_same : (t u p v : List ℕ) → SaySame t u → AcceptsPatch u p v → AcceptsPatch t p v)
    (unrefused : (t p u : List ℕ) (e : PatchError) → AcceptsPatch t p u → IsPatchTextFault t p (Refused e) → ⊥)
    (read : (t p u : List ℕ) (e : ReadError) → AcceptsPatch t p u → IsPatchTextFault t p (Unreadable e) → ⊥)
    (h : Held) (few : h.limits.depth ≤ most_levels) (readable : IsReadable h.limits h.text) where
  held_up : (p v : List ℕ) (f : TextLimitFault) → AcceptsPatch h.text p v → nesting p ≤ max_depth → IsRecordLimitFault h.limits h.text p f → IsHeldUp h p f
  held_up p v (within.Over e) led fits why = why
  held_up p v (within.Patch (Document text.NotJson)) led fits why = why.0 readable.1.0 readable.1.1
  held_up p v (within.Patch (Document text.TooDeep)) led fits why = too_deep h.limits (nesting h.text) few readable.2 why.0
  held_up p v (within.Patch (Document (text.Memory m))) led fits why = why.0
  held_up p v (within.Patch (Patch text.NotJson)) led fits why = why.0 led.1.0 led.1.1
  held_up p v (within.Patch (Patch text.TooDeep)) led fits why = let deep = why.0 in omega (arith, fits, deep)
  held_up p v (within.Patch (Patch (text.Memory m))) led fits why = why.0
  held_up p v (within.Patch (Unreadable e)) led fits why = read h.text p v e led why.0
  held_up p v (within.Patch (Refused e)) led fits why = unrefused h.text p v e led why.0.0
  held_up p v (within.Patch (TooDeep k)) led fits why = let deep = why.0.0 in omega (arith, few, deep)
  held_up p v (within.Patch (Memory m)) led fits why = tt

  first_held_up : (here : List ℕ) (from us : List (List ℕ)) (f : TextLimitFault) → ((p : List ℕ) × (ps : List (List ℕ)) × (from ≡ p ∷ ps) × IsRecordLimitFault h.limits h.text p f) → SaySame h.text here → LeadAlong here from us
      → IsFirstHeldUp h from f
  first_held_up here from us f (p, ps, from_is, why) same lead =
      let (v, step) = first_step here p ps us (subst (λ xs. LeadAlong here xs us) from_is lead) in
      subst (λ xs. IsFirstHeldUp h xs f) (sym from_is) (held_up p v f (from_same h.text here p v same step.0) step.1 why)

  pub undo_held_up : (r : Result Bool TextLimitFault) (u : List ℕ) (left grown : List (List ℕ)) → Steps h.limits r h.text h.undos h.redos u left grown → IfErr r (λ f. (vs : TextVersions) → HasVersions h vs → IsFirstHeldUp h h.undos f)
  undo_held_up (Ok b) u left grown s = tt
  undo_held_up (Err f) u left grown s = λ vs v. first_held_up vs.here h.undos vs.before f s.1 v.here v.before

  pub redo_held_up : (r : Result Bool TextLimitFault) (u : List ℕ) (left grown : List (List ℕ)) → Steps h.limits r h.text h.redos h.undos u left grown → IfErr r (λ f. (vs : TextVersions) → HasVersions h vs → IsFirstHeldUp h h.redos f)
  redo_held_up (Ok b) u left grown s = tt
  redo_held_up (Err f) u left grown s = λ vs v. first_held_up vs.here h.redos vs.after f s.1 v.here v.after

-- ---- whether there is a step

as_many : (t : List ℕ) (ps us : List (List ℕ)) → LeadAlong t ps us → length us ≡ length ps
as_many t [] [] h = refl
as_many t [] (u ∷ us) h = absurd h
as_many t (p ∷ ps) [] h = absurd h
as_many t (p ∷ ps) (u ∷ us) h = ap suc (as_many u ps us h.1)

answered : (b : Bool) (l : Limits) (t here u : List ℕ) (from to left grown us : List (List ℕ)) → Steps l (Ok b) t from to u left grown → LeadAlong here from us → IsTrue b ↔ (0 < length us)
answered true l t here u from to left grown us s lead =
    let some : length from ≡ suc (length left) = ap length s.from_is in let many = as_many here from us lead in (λ yes. omega (arith, some, many), λ more. refl)
answered false l t here u from to left grown us s lead =
    let none : length from ≡ 0 = ap length s.0 in let many = as_many here from us lead in (λ yes. absurd (false≢true yes), λ more. absurd (omega (arith, none, many, more)))

pub undo_answered : (r : Result Bool TextLimitFault) (h : Held) (u : List ℕ) (left grown : List (List ℕ)) → Steps h.limits r h.text h.undos h.redos u left grown → IfOk r (λ took. (vs : TextVersions) → HasVersions h vs → (IsTrue took ↔ (0 < length vs.before)))
undo_answered (Ok b) h u left grown s = λ vs v. answered b h.limits h.text vs.here u h.undos h.redos left grown vs.before s v.before
undo_answered (Err f) h u left grown s = tt

pub redo_answered : (r : Result Bool TextLimitFault) (h : Held) (u : List ℕ) (left grown : List (List ℕ)) → Steps h.limits r h.text h.redos h.undos u left grown → IfOk r (λ took. (vs : TextVersions) → HasVersions h vs → (IsTrue took ↔ (0 < length vs.after)))
redo_answered (Ok b) h u left grown s = λ vs v. answered b h.limits h.text vs.here u h.redos h.undos left grown vs.after s v.after
redo_answered (Err f) h u left grown s = tt

-- ---- versions

pub lead_take : (n : ℕ) (t : List ℕ) (ps us : List (List ℕ)) → LeadAlong t ps us → LeadAlong t (take n ps) (take n us)
lead_take zero t ps us h = tt
lead_take (suc n) t [] [] h = tt
lead_take (suc n) t [] (u ∷ us) h = absurd h
lead_take (suc n) t (p ∷ ps) [] h = absurd h
lead_take (suc n) t (p ∷ ps) (u ∷ us) (s, more) = (s, lead_take n u ps us more)

-- where a step leads from the versions on the one side and the other
record Moved (u here : List ℕ) (left grown from_vs to_vs : List (List ℕ)) : Type 0 where
  pub v : List ℕ
  pub rest : List (List ℕ)
  pub from_is : from_vs ≡ v ∷ rest
  pub same : SaySame u v
  pub lead : LeadAlong v left rest
  pub lead_back : LeadAlong v grown (here ∷ to_vs)

none_along : (here : List ℕ) (ps vs : List (List ℕ)) → ps ≡ [] → LeadAlong here ps vs → vs ≡ []
none_along here [] [] is h = refl
none_along here [] (v ∷ vs) is h = absurd h
none_along here (p ∷ ps) vs is h = cc

module _ (turned : (t u : List ℕ) → SaySame t u → SaySame u t)
    (from_same : (t u p v : List ℕ) → SaySame t u → AcceptsPatch u p v → AcceptsPatch t p v)
    (to_same : (t p u v : List ℕ) → AcceptsPatch t p u → SaySame u v → AcceptsPatch t p v)
    (one_end : (t p u v : List ℕ) → AcceptsPatch t p u → AcceptsPatch t p v → SaySame u v) where
  moved : (t u here : List ℕ) (from to left grown from_vs to_vs : List (List ℕ)) → IsTaken t from to u left grown → SaySame t here → LeadAlong here from from_vs → LeadAlong here to to_vs
      → Moved u here left grown from_vs to_vs
  moved t u here from to left grown from_vs to_vs k same a b = by from_vs (subst (λ ps. LeadAlong here ps from_vs) k.from_is a)
    where
      by : (xs : List (List ℕ)) → LeadAlong here (k.p ∷ left) xs → Moved u here left grown xs to_vs
      by [] h = absurd h
      by (v ∷ rest) (s, more) =
          let uv : SaySame u v = one_end t k.p u v k.leads (from_same t here k.p v same s.0) in
          record {
            v = v;
            rest = rest;
            from_is = refl;
            same = uv;
            lead = more;
            lead_back = subst (λ ps. LeadAlong v ps (here ∷ to_vs)) (sym k.grown_is) ((to_same v k.q t here (from_same v u k.q t (turned u v uv) k.leads_back) same, k.readable), b);
          }

  -- a change that is made, and recorded
  pub applied : (h k : Held) (q : List ℕ) → k.undos ≡ take h.depth (q ∷ h.undos) → k.redos ≡ [] → k.depth ≡ h.depth → SaySame k.text k.text → AcceptsPatch k.text q h.text → nesting q ≤ max_depth
      → (vs : TextVersions) → HasVersions h vs → HasVersions k (after_apply k.text vs)
  applied h k q undos_is redos_is depth_is same back fits vs v = record {
    here = same;
    before = subst (λ ps. LeadAlong k.text ps (take vs.depth (vs.here ∷ vs.before))) (sym undos_is)
        (subst (λ d. LeadAlong k.text (take h.depth (q ∷ h.undos)) (take d (vs.here ∷ vs.before))) v.depth
        (lead_take h.depth k.text (q ∷ h.undos) (vs.here ∷ vs.before) ((to_same k.text q h.text vs.here back v.here, fits), v.before)));
    after = subst (λ ps. LeadAlong k.text ps []) (sym redos_is) tt;
    depth = depth_is ∙ v.depth;
  }

  -- a step back
  module _ (h k : Held) (depth_is : k.depth ≡ h.depth) (vs : TextVersions) (v : HasVersions h vs) where
    went_back : IsTaken h.text h.undos h.redos k.text k.undos k.redos → HasVersions k (after_undo vs)
    went_back t =
        let m = moved h.text k.text vs.here h.undos h.redos k.undos k.redos vs.before vs.after t v.here v.before v.after in
        subst (λ b. HasVersions k (back_to b vs)) (sym m.from_is) (record { here = m.same; before = m.lead; after = m.lead_back; depth = depth_is ∙ v.depth })

    went_on : IsTaken h.text h.redos h.undos k.text k.redos k.undos → HasVersions k (after_redo vs)
    went_on t =
        let m = moved h.text k.text vs.here h.redos h.undos k.redos k.undos vs.after vs.before t v.here v.after v.before in
        subst (λ b. HasVersions k (on_to b vs)) (sym m.from_is) (record { here = m.same; before = m.lead_back; after = m.lead; depth = depth_is ∙ v.depth })

    stayed_before : (h.undos ≡ []) × AreUntouched h.text h.undos h.redos k.text k.undos k.redos → HasVersions k (after_undo vs)
    stayed_before (none, (text_is, undos_is, redos_is)) =
        subst (λ b. HasVersions k (back_to b vs)) (sym (none_along vs.here h.undos vs.before none v.before))
        (record { here = rw text_is v.here; before = rw undos_is v.before; after = rw redos_is v.after; depth = depth_is ∙ v.depth })

    stayed_after : (h.redos ≡ []) × AreUntouched h.text h.redos h.undos k.text k.redos k.undos → HasVersions k (after_redo vs)
    stayed_after (none, (text_is, redos_is, undos_is)) =
        subst (λ b. HasVersions k (on_to b vs)) (sym (none_along vs.here h.redos vs.after none v.after))
        (record { here = rw text_is v.here; before = rw undos_is v.before; after = rw redos_is v.after; depth = depth_is ∙ v.depth })

  pub undone : (r : Result Bool TextLimitFault) (h k : Held) → k.depth ≡ h.depth → Steps h.limits r h.text h.undos h.redos k.text k.undos k.redos → OnOk r ((vs : TextVersions) → HasVersions h vs → HasVersions k (after_undo vs))
  undone (Ok true) h k depth_is s = λ vs v. went_back h k depth_is vs v s
  undone (Ok false) h k depth_is s = λ vs v. stayed_before h k depth_is vs v s
  undone (Err f) h k depth_is s = tt

  pub redone : (r : Result Bool TextLimitFault) (h k : Held) → k.depth ≡ h.depth → Steps h.limits r h.text h.redos h.undos k.text k.redos k.undos → OnOk r ((vs : TextVersions) → HasVersions h vs → HasVersions k (after_redo vs))
  redone (Ok true) h k depth_is s = λ vs v. went_on h k depth_is vs v s
  redone (Ok false) h k depth_is s = λ vs v. stayed_after h k depth_is vs v s
  redone (Err f) h k depth_is s = tt
