-- `lends_tail`: a `&mut [T]` is lent on as its first elements and a `&mut [[T; 1]]` of the others, which it follows. Assumes `Logic`.
use mathlib.Core.Path.{◌≡◌, refl, sym, ap, ◌∙◌}
use Prim.Native.Nat.{ℕ, ◌+◌, ◌*◌}
use native.Mathlib.Omega.{arith}
use mathlib.Core.List.{List, [], ◌∷◌, ◌++◌}
use lib.ListN.{length, length-append}
use seplogic.Ra.Ura.{Ura}
use mir.Syntax.{Lifetime}
use mir.Val.{Val}
use base.Logic.{SProp, ent, sep, ex, emp}
use base.Stored.{coded_list}
use base.Fml.{Lft, GName, Share, flft, fobs, fbor}
use types.Logic.{Logic, sem}
use types.Kit.{Item, ‵, ◌⊛◌, raw, ◌$◌, ◌∵◌, !, qed, by, move, keep, drop, fsplit, fsplit3, fjoin, updating, await, later, some, use1, group, pick, now, show, done, split3, rewrite, feq_l, feq_i, split, use2, given, learn}
use types.SemTy.{SemTy, cells, Arr, Body}
use types.Follow.{after₂, takes_two}
use types.Mut.{open_ref}
use denote.RattleType.{RattleType}
use denote.Memory.{mem}
use denote.ArrayMemory.{Single}
use denote.Array.{Array}
use denote.Slice.{MutSlice, Room, slice_val}
use denote.Steps.{nothing}
use denote.FollowSlice.{heres_id, slice_of}
use borrow.Table.Elements.{at, cut_app, join_app}
use Rattle.std.specs.List.{flat_map}
use Rattle.std.specs.Simd.{first_chunks}
use Rattle.std.proofs.slice.Relends.{length-first_chunks, runs_in, runs_out}

module _ {M : Type 1} {𝓤 : Ura M} (𝓛 : Logic 𝓤) (ℓ : Lifetime) (κ : Lft) (q : Share) (b o : ℕ) (γ : GName) where
  open 𝓛 use {H, A}

  module _ (R : RattleType) (single : Single R.mir) (k : ℕ) (xs front back : List R.Denot) (cut : xs ≡ front ++ back) (p : ℕ) (on : at o (mem R).size (length front) ≡ p) (exact : k * 1 ≡ length back) where
    abbrev L : ℕ → SemTy
    L j = Arr (mem R) j

    abbrev L₁ : ℕ → SemTy
    L₁ j = Arr (mem (Array R 1)) j

    abbrev ys : List (List R.Denot)
    ys = first_chunks 1 k back

    abbrev whole_of : List R.Denot → List (List R.Denot) → List R.Denot
    whole_of ws zs = ws ++ flat_map (λ x. x) zs

    joined : (ws zs : List R.Denot) → length ws ≡ length front → length zs ≡ length back
        → ent 𝓤 (sep 𝓤 (sem 𝓛 (cells (mem R) ws b o)) (sem 𝓛 (cells (mem R) zs b p))) (sem 𝓛 ((L (length xs)).own_at (ws ++ zs) b o))
    joined ws zs e e' =
        let whole : length xs ≡ length front + length back = ap length cut ∙ length-append front back in
        let now_whole : length (ws ++ zs) ≡ length ws + length zs = length-append ws zs in
        qed 𝓛 (‵ (cells (mem R) ws b o) ∷ ‵ (cells (mem R) zs b p) ∷ []) ∵
        rewrite ! 1 (λ (j : ℕ). ‵ (cells (mem R) zs b j)) (sym (ap (at o (mem R).size) e ∙ on)) refl $
        use2 𝓛 (‵ (cells (mem R) (ws ++ zs) b o)) (join_app 𝓛 (mem R) ws zs b o) $ feq_i ! ℕ (length (ws ++ zs)) (length xs) (omega arith) $ fjoin ! $ done !

    apart : ent 𝓤 (sem 𝓛 (cells (mem R) xs b o)) (sep 𝓤 (sem 𝓛 (cells (mem R) front b o)) (sem 𝓛 (cells (mem R) back b p)))
    apart = qed 𝓛 (‵ (cells (mem R) xs b o) ∷ []) ∵ rewrite ! 0 (λ (l : List R.Denot). ‵ (cells (mem R) l b o)) cut refl $
        use1 𝓛 (‵ (cells (mem R) front b o) ⊛ ‵ (cells (mem R) back b (at o (mem R).size (length front)))) (cut_app 𝓛 (mem R) front back b o) $ split ! $
        rewrite ! 1 (λ (j : ℕ). ‵ (cells (mem R) back b j)) on refl $ done !

    abbrev pub tail_lent : GName × GName → Item 𝓤
    tail_lent δ = ‵ ((MutSlice ℓ κ R).own_val (record { ref_ptr = (b, o); ghost_name = δ.0; now = front }) (slice_val (b, o) (length front) ∷ [])) ⊛ ‵ ((MutSlice ℓ κ (Array R 1)).own_val (record { ref_ptr = (b, p); ghost_name = δ.1; now = ys }) (slice_val (b, p) (length ys) ∷ [])) ⊛ ‵ (flft κ q) ⊛ ‵ (after₂ (L 0) (L 0) (L₁ 0) γ δ.0 δ.1 whole_of)

    abbrev pub TailLent : GName × GName → SProp 𝓤
    TailLent δ = sep 𝓤 (sem 𝓛 ((MutSlice ℓ κ R).own_val (record { ref_ptr = (b, o); ghost_name = δ.0; now = front }) (slice_val (b, o) (length front) ∷ []))) (sep 𝓤 (sem 𝓛 ((MutSlice ℓ κ (Array R 1)).own_val (record { ref_ptr = (b, p); ghost_name = δ.1; now = ys }) (slice_val (b, p) (length ys) ∷ []))) (sep 𝓤 (A.lft κ q) (sem 𝓛 (after₂ (L 0) (L 0) (L₁ 0) γ δ.0 δ.1 whole_of))))

    put_tail : (ws : List R.Denot) (zs : List (List R.Denot)) → ent 𝓤 (sep 𝓤 (sem 𝓛 ((L (length front)).own_at ws b o)) (sep 𝓤 (sem 𝓛 ((L₁ (length ys)).own_at zs b p)) (emp 𝓤))) (sem 𝓛 ((L (length xs)).own_at (whole_of ws zs) b o))
    put_tail ws zs = qed 𝓛 (‵ ((L (length front)).own_at ws b o) ∷ ‵ ((L₁ (length ys)).own_at zs b p) ∷ raw (emp 𝓤) ∷ []) ∵ fsplit ! $ feq_l ! (λ e. move ! (1 ∷ []) $ fsplit ! $ feq_l ! (λ e'.
        use1 𝓛 (given (length (flat_map (λ x. x) zs) ≡ length zs * 1) (‵ (cells (mem R) (flat_map (λ x. x) zs) b p))) (runs_out 𝓛 R single 1 b zs p) $ learn ! (λ l.
        keep ! (1 ∷ 0 ∷ []) $ by ! (joined ws (flat_map (λ x. x) zs) e (l ∙ ap (λ (j : ℕ). j * 1) (e' ∙ length-first_chunks 1 k back) ∙ exact)))))

    pub lends_tail : Room R (length front) → Room (Array R 1) (length ys) → (vs : List Val)
        → ent 𝓤 (sep 𝓤 (sem 𝓛 ((MutSlice ℓ κ R).own_val (record { ref_ptr = (b, o); ghost_name = γ; now = xs }) vs)) (A.lft κ q)) (H.⇛ (ex 𝓤 TailLent))
    lends_tail rm rm' vs = qed 𝓛 (‵ ((MutSlice ℓ κ R).own_val (record { ref_ptr = (b, o); ghost_name = γ; now = xs }) vs) ∷ ‵ (flft κ q) ∷ []) ∵ updating ! $ fsplit3 ! $ drop ! $
        rewrite ! 0 (λ (l : List R.Denot). ‵ (fobs γ ((coded_list R.coded).code l))) (heres_id R xs) refl $ open_ref ! tt (Arr (mem R) (length xs)) {b = b} {o = o} $ fsplit ! $ drop ! $
        use1 𝓛 (‵ (cells (mem R) front b o) ⊛ ‵ (cells (mem R) back b p)) apart $ split ! $
        feq_i ! ℕ (length front) (length front) refl $ fjoin ! $ move ! (1 ∷ []) $
        use1 𝓛 (‵ (cells (mem (Array R 1)) ys b p)) (runs_in 𝓛 R single 1 b k back p exact) $ feq_i ! ℕ (length ys) (length ys) refl $ fjoin ! $ nothing ! $ move ! (3 ∷ 4 ∷ 5 ∷ 2 ∷ 1 ∷ 0 ∷ []) $ group ! 6 $
        use1 𝓛 (later (some (λ (δ : GName × GName). (‵ (fobs δ.0 ((coded_list R.coded).code front)) ⊛ ‵ (fbor κ (Body (L (length front)) b o δ.0))) ⊛ (‵ (fobs δ.1 ((coded_list (Array R 1).coded).code ys)) ⊛ ‵ (fbor κ (Body (L₁ (length ys)) b p δ.1))) ⊛ ‵ (flft κ q) ⊛ ‵ (after₂ (L 0) (L 0) (L₁ 0) γ δ.0 δ.1 whole_of))))
        (takes_two 𝓛 (L (length xs)) (L (length front)) (L₁ (length ys)) whole_of κ q b o b o b p γ (emp 𝓤) put_tail ((coded_list R.coded).code xs) ((coded_list R.coded).code xs) front ys) $ await ! tt $ pick ! (λ δ. split3 ! $
        use1 𝓛 (‵ ((MutSlice ℓ κ R).own_val (record { ref_ptr = (b, o); ghost_name = δ.0; now = front }) (slice_val (b, o) (length front) ∷ []))) (slice_of 𝓛 R ℓ κ b o δ.0 front rm) $ move ! (1 ∷ []) $
        use1 𝓛 (‵ ((MutSlice ℓ κ (Array R 1)).own_val (record { ref_ptr = (b, p); ghost_name = δ.1; now = ys }) (slice_val (b, p) (length ys) ∷ []))) (slice_of 𝓛 (Array R 1) ℓ κ b p δ.1 ys rm') $ move ! (1 ∷ 0 ∷ []) $ now ! $ show ! TailLent δ $ done !)
