-- Lists of commands: joined, with one list of replies, and with one always.
use Rattle.std.proofs.Common.{◌≡◌, ◌≤◌, ◌<◌, ◌+◌, inl, inr, ℕ, List, [], ◌∷◌, ◌++◌, take, length, Bool, true, false}
use Rattle.std.proofs.Common.{refl, sym, ap, ◌∙◌, subst, arith}
use Rattle.std.specs.Prelude.{◌↔◌, IsTrue, All}
use Rattle.std.proofs.lemmas.List.{length-take}
use Rattle.std.proofs.lemmas.List.Elements.{All-cons, All-head, All-nil, All-tail, All-take}
use Rattle.serde_json.specs.Data.{Data}
use Rattle.json_patch.specs.Document.{IsDocument}
use Rattle.json_patch.specs.Operation.{Operation, AreWhole}
use Rattle.json_patch.specs.Refusal.{NamesFirst}
use Rattle.json_patch.specs.RefusalLaws.{one_refusal, refusal_named}
use Rattle.json_patch.specs.Run.{Accepts, RefusesAt, Ends}
use Rattle.json_patch.specs.PatchError.{PatchError}
use Rattle.json_patch.specs.PatchErrorKind.{PatchErrorKind}
use Rattle.json_patch_editor.specs.Commands.{Command, apply, undo, redo, Reply, accepted, refused, moved, Replies}
use Rattle.json_patch_editor.specs.Commands.{RepliesInTurn, AreVersions, IsWholeCommand}
use Rattle.json_patch_editor.specs.Versions.{Versions, after_apply, after_undo, after_redo, back_to, on_to}

pub joined : (vs ms ws : Versions) (cs ds : List Command) (rs ss : List Reply) → RepliesInTurn vs cs rs ms → RepliesInTurn ms ds ss ws → RepliesInTurn vs (cs ++ ds) (rs ++ ss) ws
joined vs ms ws [] ds [] ss h k = subst (λ us. RepliesInTurn us ds ss ws) (sym h) k
joined vs ms ws [] ds (r ∷ rs) ss h k = absurd h
joined vs ms ws (c ∷ cs) ds [] ss h k = absurd h
joined vs ms ws (c ∷ cs) ds (r ∷ rs) ss h k = (h.0, h.1, joined h.0 ms ws cs ds rs ss h.2 k)

pub one_more : (vs ms ws : Versions) (cs : List Command) (rs : List Reply) (c : Command) (r : Reply) → RepliesInTurn vs cs rs ms → Replies ms c r ws → RepliesInTurn vs (cs ++ c ∷ []) (rs ++ r ∷ []) ws
one_more vs ms ws cs rs c r h k = joined vs ms ws cs (c ∷ []) rs (r ∷ []) h (ws, k, refl)

-- ---- at most `depth`

abbrev pub IsBounded : Versions → Type 0
IsBounded vs = length vs.before + length vs.after ≤ vs.depth

bounded_back : (ds : List Data) (vs : Versions) → length ds + length vs.after ≤ vs.depth → vs.before ≡ ds → IsBounded (back_to ds vs)
bounded_back [] vs h is = rw is h
bounded_back (d ∷ ds) vs h is = omega (arith, h)

bounded_on : (ds : List Data) (vs : Versions) → length vs.before + length ds ≤ vs.depth → vs.after ≡ ds → IsBounded (on_to ds vs)
bounded_on [] vs h is = rw is h
bounded_on (d ∷ ds) vs h is = omega (arith, h)

bounded_apply : (e : Data) (vs : Versions) → IsBounded (after_apply e vs)
bounded_apply e vs = let h : length (take vs.depth (vs.here ∷ vs.before)) ≡ _ = length-take vs.depth (vs.here ∷ vs.before) in omega arith

bounded_step : (vs ws : Versions) (c : Command) (r : Reply) → IsBounded vs → Replies vs c r ws → IsBounded ws
bounded_step vs ws (apply ops) accepted h k = subst IsBounded (sym k.1) (bounded_apply ws.here vs)
bounded_step vs ws (apply ops) (refused e) h k = subst IsBounded (sym k.1) h
bounded_step vs ws (apply ops) (moved b) h k = absurd k
bounded_step vs ws undo (moved b) h k = subst IsBounded (sym k.1) (bounded_back vs.before vs h refl)
bounded_step vs ws undo accepted h k = absurd k
bounded_step vs ws undo (refused e) h k = absurd k
bounded_step vs ws redo (moved b) h k = subst IsBounded (sym k.1) (bounded_on vs.after vs h refl)
bounded_step vs ws redo accepted h k = absurd k
bounded_step vs ws redo (refused e) h k = absurd k

pub bounded : (vs ws : Versions) (cs : List Command) (rs : List Reply) → IsBounded vs → RepliesInTurn vs cs rs ws → IsBounded ws
bounded vs ws [] [] h k = subst IsBounded k h
bounded vs ws [] (r ∷ rs) h k = absurd k
bounded vs ws (c ∷ cs) [] h k = absurd k
bounded vs ws (c ∷ cs) (r ∷ rs) h k = bounded k.0 ws cs rs (bounded_step vs k.0 c r h k.1) k.2

-- ---- one reply, and one always

abbrev pub OneEnd : Type 0
OneEnd = (d : Data) (ops : List Operation) → IsDocument d → AreWhole ops → Ends d ops

abbrev pub Keeping : Type 0
Keeping = (d : Data) (ops : List Operation) (e : Data) → IsDocument d → AreWhole ops → Accepts d ops e → IsDocument e

same_bool : (a b : Bool) (P : Type 0) → IsTrue a ↔ P → IsTrue b ↔ P → a ≡ b
same_bool true true P f g = refl
same_bool false false P f g = refl
same_bool true false P f g = sym (g.1 (f.0 refl))
same_bool false true P f g = f.1 (g.0 refl)

versions_back : (ds : List Data) (vs : Versions) → All IsDocument ds → AreVersions vs → AreVersions (back_to ds vs)
versions_back [] vs h a = a
versions_back (d ∷ ds) vs h a = record { before = All-tail IsDocument d ds h; here = All-head IsDocument d ds h; after = All-cons IsDocument vs.here vs.after a.here a.after }

versions_on : (ds : List Data) (vs : Versions) → All IsDocument ds → AreVersions vs → AreVersions (on_to ds vs)
versions_on [] vs h a = a
versions_on (d ∷ ds) vs h a = record { before = All-cons IsDocument vs.here vs.before a.here a.before; here = All-head IsDocument d ds h; after = All-tail IsDocument d ds h }

versions_apply : (e : Data) (vs : Versions) → IsDocument e → AreVersions vs → AreVersions (after_apply e vs)
versions_apply e vs he a = record { before = All-take IsDocument vs.depth (vs.here ∷ vs.before) (All-cons IsDocument vs.here vs.before a.here a.before); here = he; after = All-nil IsDocument }

went : (ds : List Data) → (b : Bool) × (IsTrue b ↔ (0 < length ds))
went [] = (false, ((λ h. cc), λ h. absurd (omega (arith, h))))
went (d ∷ ds) = (true, ((λ h. omega arith), λ h. refl))

module _ (one_end : OneEnd) (keeping : Keeping) where
  versions_step : (vs ws : Versions) (c : Command) (r : Reply) → AreVersions vs → IsWholeCommand c → Replies vs c r ws → AreVersions ws
  versions_step vs ws (apply ops) accepted a w k = subst AreVersions (sym k.1) (versions_apply ws.here vs (keeping vs.here ops ws.here a.here w k.0) a)
  versions_step vs ws (apply ops) (refused e) a w k = subst AreVersions (sym k.1) a
  versions_step vs ws (apply ops) (moved b) a w k = absurd k
  versions_step vs ws undo (moved b) a w k = subst AreVersions (sym k.1) (versions_back vs.before vs a.before a)
  versions_step vs ws undo accepted a w k = absurd k
  versions_step vs ws undo (refused e) a w k = absurd k
  versions_step vs ws redo (moved b) a w k = subst AreVersions (sym k.1) (versions_on vs.after vs a.after a)
  versions_step vs ws redo accepted a w k = absurd k
  versions_step vs ws redo (refused e) a w k = absurd k

  -- an accepted list has one end
  one_accepted : (d e f : Data) (ops : List Operation) → Ends d ops → Accepts d ops e → Accepts d ops f → e ≡ f
  one_accepted d e f ops (inl (m, a)) h k = a.end e h ∙ sym (a.end f k)
  one_accepted d e f ops (inr (n, kind, r)) h k = absurd (r.never e h)

  not_both : (d e : Data) (ops : List Operation) (k : ℕ) (kind : PatchErrorKind) → Ends d ops → Accepts d ops e → RefusesAt d ops k kind → ⊥
  not_both d e ops k kind (inl (m, a)) h r = a.nowhere k kind r
  not_both d e ops k kind (inr (n, other, s)) h r = s.never e h

  one_step : (vs ws us : Versions) (c : Command) (r s : Reply) → AreVersions vs → IsWholeCommand c → Replies vs c r ws → Replies vs c s us → (r ≡ s) × (ws ≡ us)
  one_step vs ws us (apply ops) accepted accepted a w h k =
      (refl, h.1 ∙ ap (λ e. after_apply e vs) (one_accepted vs.here ws.here us.here ops (one_end vs.here ops a.here w) h.0 k.0) ∙ sym k.1)
  one_step vs ws us (apply ops) accepted (refused e) a w h k = absurd (not_both vs.here ws.here ops e.operation e.kind (one_end vs.here ops a.here w) h.0 k.0.0)
  one_step vs ws us (apply ops) (refused e) accepted a w h k = absurd (not_both vs.here us.here ops e.operation e.kind (one_end vs.here ops a.here w) k.0 h.0.0)
  one_step vs ws us (apply ops) (refused e) (refused f) a w h k =
      (ap refused (one_refusal vs.here ops e f (one_end vs.here ops a.here w) h.0 k.0), h.1 ∙ sym k.1)
  one_step vs ws us (apply ops) accepted (moved b) a w h k = absurd k
  one_step vs ws us (apply ops) (refused e) (moved b) a w h k = absurd k
  one_step vs ws us (apply ops) (moved b) s a w h k = absurd h
  one_step vs ws us undo (moved b) (moved d) a w h k = (ap moved (same_bool b d (0 < length vs.before) h.0 k.0), h.1 ∙ sym k.1)
  one_step vs ws us undo (moved b) accepted a w h k = absurd k
  one_step vs ws us undo (moved b) (refused e) a w h k = absurd k
  one_step vs ws us undo accepted s a w h k = absurd h
  one_step vs ws us undo (refused e) s a w h k = absurd h
  one_step vs ws us redo (moved b) (moved d) a w h k = (ap moved (same_bool b d (0 < length vs.after) h.0 k.0), h.1 ∙ sym k.1)
  one_step vs ws us redo (moved b) accepted a w h k = absurd k
  one_step vs ws us redo (moved b) (refused e) a w h k = absurd k
  one_step vs ws us redo accepted s a w h k = absurd h
  one_step vs ws us redo (refused e) s a w h k = absurd h

  pub once : (vs ws us : Versions) (cs : List Command) (rs ss : List Reply) → AreVersions vs → All IsWholeCommand cs → RepliesInTurn vs cs rs ws → RepliesInTurn vs cs ss us → (rs ≡ ss) × (ws ≡ us)
  once vs ws us [] [] [] a w h k = (refl, sym h ∙ k)
  once vs ws us [] [] (s ∷ ss) a w h k = absurd k
  once vs ws us [] (r ∷ rs) ss a w h k = absurd h
  once vs ws us (c ∷ cs) [] ss a w h k = absurd h
  once vs ws us (c ∷ cs) (r ∷ rs) [] a w h k = absurd k
  once vs ws us (c ∷ cs) (r ∷ rs) (s ∷ ss) a w h k =
      let o : (r ≡ s) × (h.0 ≡ k.0) = one_step vs h.0 k.0 c r s a (All-head IsWholeCommand c cs w) h.1 k.1 in
      let m : (rs ≡ ss) × (ws ≡ us) = once k.0 ws us cs rs ss (versions_step vs k.0 c s a (All-head IsWholeCommand c cs w) k.1) (All-tail IsWholeCommand c cs w) (subst (λ ms. RepliesInTurn ms cs rs ws) o.1 h.2) k.2 in
      ((λ i. o.0 i ∷ m.0 i), m.1)

  step_on : (vs : Versions) (ops : List Operation) → Ends vs.here ops → (r : Reply) × (ws : Versions) × Replies vs (apply ops) r ws
  step_on vs ops (inl (e, a)) = (accepted, after_apply e vs, (a.accepts, refl))
  step_on vs ops (inr (k, kind, r)) = let e : (x : PatchError) × NamesFirst vs.here ops x = refusal_named vs.here ops k kind r.refuses in (refused e.0, vs, (e.1, refl))

  a_step : (vs : Versions) (c : Command) → AreVersions vs → IsWholeCommand c → (r : Reply) × (ws : Versions) × Replies vs c r ws
  a_step vs (apply ops) a w = step_on vs ops (one_end vs.here ops a.here w)
  a_step vs undo a w = let b : (t : Bool) × (IsTrue t ↔ (0 < length vs.before)) = went vs.before in (moved b.0, after_undo vs, (b.1, refl))
  a_step vs redo a w = let b : (t : Bool) × (IsTrue t ↔ (0 < length vs.after)) = went vs.after in (moved b.0, after_redo vs, (b.1, refl))

  pub always : (vs : Versions) (cs : List Command) → AreVersions vs → All IsWholeCommand cs → (rs : List Reply) × (ws : Versions) × RepliesInTurn vs cs rs ws × AreVersions ws
  always vs [] a w = ([], vs, refl, a)
  always vs (c ∷ cs) a w =
      let s : (r : Reply) × (ms : Versions) × Replies vs c r ms = a_step vs c a (All-head IsWholeCommand c cs w) in
      let t : (rs : List Reply) × (ws : Versions) × RepliesInTurn s.1 cs rs ws × AreVersions ws = always s.1 cs (versions_step vs s.1 c s.0 a (All-head IsWholeCommand c cs w) s.2) (All-tail IsWholeCommand c cs w) in
      (s.0 ∷ t.0, t.1, (s.1, s.2, t.2), t.3)
