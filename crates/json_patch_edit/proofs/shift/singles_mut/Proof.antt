-- `singles_mut` meets its contract: a walk of its MIR by hand, for every element type.
-- The slice is lent on as its two parts (`lends_tail`), whose addresses and lengths are those that the code puts into the pair.
use Rattle.std.proofs.Common.{◌≡◌, ℕ, ◌+◌, ◌-◌, ◌*◌, ◌^◌, ◌<◌, ◌≤◌, List, [], ◌∷◌, length, take, drop, sym, refl, ap, ap₂, subst, ◌∙◌, arith, w64, MutBor, length-drop}
use Rattle.std.proofs.raw_atomic.Walks.{proved}
use Rattle.std.proofs.slice.Relends.{uncapped, length-first_chunks}
use Rattle.std.specs.Simd.{first_chunks}
use lib.ListN.{take-append-drop}
use native.Mathlib.Nat.{mul-le-mul_right}
use seplogic.Ra.Ura.{Ura}
use base.Logic.{SProp, ent}
use base.Fml.{Lft, GName, Share, ftrue, flft}
use mir.MapTy.{inst_fn}
use mir.Syntax.{Body, Fn, named, a_type, seq, assign, place, rv_opd, copy, return}
use mir.Val.{Val, vint, vstruct, vcons, vnil}
use prog.Memory.{Memory, size}
use prog.Routine.{Routine}
use prog.Wp.{Calls, Loops, WpFn}
use contract.BorrowLft.{◌⊑◌}
use contract.Lifetimes.{AllOutlive}
use contract.Monad.{Fun, fact}
use contract.Running.{tables}
use types.Logic.{Logic}
use types.Kit.{‵, ◌⊛◌, raw, some, later, at_ret, ◌$◌, ◌∵◌, !, qed, by, move, keep, split, split3, join, fsplit, fjoin, fpack, feq_i, use2, await, pick, suffices, frame, done}
use types.Part.{whole, sub, agg}
use types.Run.{enter, stop, fld, hop, from, addr, bin, size_word, and_then, no_more, of_opd, first, blocks, exec, returns}
use types.ByLocal.{alloc_all, pass_all, free_all, look_at, look_in_at, get, sets, sets_last, env, is}
use borrow.Table.Elements.{at, at_mul, length-take-le}
use denote.Builtin.{usize}
use denote.Exit.{yes, no}
use denote.Follow.{both_by}
use denote.Param.{param, layout, layouts}
use denote.Plain.{uint_vals, uint_Tells}
use denote.Array.{Array}
use denote.RattleType.{RattleType, owns, Valss}
use denote.Signature.{plain, mut_slice_of}
use denote.Slice.{MutSlice, Room, slice_val, mut_slice_vals, mut_slice_Tells}
use denote.Steps.{nothing, heard}
use denote.Struct.Struct.{within as laid_within}
use denote.Struct.Tuple.{tuple_type}
use denote.Struct.Declared.{shape}
use denote.Triple.Clauses.{Clauses}
use denote.Triple.Entry.{on_entry}
use denote.Triple.Walked.{says, Stays, stay_dropped, walk_of, ends_at, Goes-dropped, Goes-spent_slice}
use Rattle.json_patch_edit.proofs.Lent.{tail_lent, lends_tail}
use Rattle.json_patch_edit.specs.contracts.shift.singles_mut as f
use Rattle.json_patch_edit.proofs.shift.singles_mut.Statement.{statement}
use Rattle.json_patch_edit.proofs.shift.singles_mut.Code as code

-- the code after the `unsafe` block: its value is the result
abbrev after_block : Body
after_block = seq (assign (place 0 []) (rv_opd (copy (place 5 [])))) return

module _ (T : RattleType) where
  abbrev Item : RattleType
  Item = param 0 T

  abbrev fn : Fn
  fn = inst_fn (layouts (a_type ∷ []) (T, tt)) code.function

  -- nothing is kept of the parameters: the slice is lent on
  abbrev stayed : Stays (f.ended T).signature.params (f.ended T).kept
  stayed = (stay_dropped (mut_slice_of (0 ∷ []) tt (plain (λ _. Item))) no, (stay_dropped (plain (λ _. usize)) yes, (stay_dropped (plain (λ _. usize)) yes, tt)))

  module _ {M : Type 1} {𝓤 : Ura M} (𝓛 : Logic 𝓤) (at_mem : Memory → SProp 𝓤) (run : Routine → Fun 𝓤) where
    open 𝓛 use {H}

    abbrev clauses : Clauses 𝓤 (f.ended T)
    clauses = f.clauses T 𝓛 at_mem run

    module _ (κ κT : Lft) (q qT : Share) (bounds : AllOutlive 2 (f.ended T).signature.outlives (κ, (κT, tt))) (b o : ℕ) (γ : GName) (xs : List Item.Denot) (mid count : ℕ) where
      abbrev whole_slice : MutBor (List Item.Denot)
      whole_slice = record { ref_ptr = (b, o); ghost_name = γ; now = xs }

      abbrev Entered : SProp 𝓤
      Entered = on_entry 𝓛 (f.ended T).signature (κ, (κT, tt)) (q, (qT, tt)) (whole_slice, (mid, (count, tt))) (mut_slice_vals whole_slice, (vint w64 mid ∷ [], (vint w64 count ∷ [], tt)))

      abbrev bound : (walk_of 𝓛 (f.ended T) stayed clauses).Ghost
      bound = (((κ, (κT, tt)), (q, (qT, tt)), bounds, (whole_slice, (mid, (count, tt))), (mut_slice_vals whole_slice, (vint w64 mid ∷ [], (vint w64 count ∷ [], tt)))), tt)

      abbrev Post : Val → SProp 𝓤
      Post = (walk_of 𝓛 (f.ended T) stayed clauses).post bound

      module _ (C : Calls 𝓤 H) (Λ : Loops 𝓤 H) where
        walk : Room Item (length xs) → mid < 2 ^ 64 → count < 2 ^ 64 → mid + count ≡ length xs
            → ent 𝓤 Entered (WpFn 𝓤 H C Λ fn (slice_val (b, o) (length xs) ∷ vint w64 mid ∷ vint w64 count ∷ []) Post)
        unfolding both_by
        walk room fits_mid fits_count all =
            let unit : ℕ = size (layout T) in
            let front : List T.Denot = take mid xs in
            let back : List T.Denot = drop mid xs in
            let singles : List (List T.Denot) = first_chunks 1 count back in
            let front_long : length front ≡ mid = length-take-le mid xs (omega arith) in
            let back_long : length back ≡ length xs - mid = length-drop mid xs in
            let exact : count * 1 ≡ length back = omega arith in
            let many : length singles ≡ count = length-first_chunks 1 count back in
            -- the bytes before the second part, and its own, are among the slice's
            let before : mid * unit ≤ length xs * unit = mul-le-mul_right unit (omega arith) in
            let behind : count * unit ≤ length xs * unit = mul-le-mul_right unit (omega arith) in
            let bytes : length xs * unit < 2 ^ 63 = room.1 in
            let offset : mid * unit < 2 ^ 64 = omega arith in
            let front_room : Room Item (length front) = subst (Room Item) (sym front_long) (fits_mid, omega arith) in
            let singles_room : Room (Array Item 1) (length singles) = subst (Room (Array Item 1)) (sym many) (fits_count, omega arith) in
            let p : ℕ = mid * unit + o in
            let on : at o unit (length front) ≡ p = at_mul o unit (length front) ∙ ap (λ (k : ℕ). k * unit + o) front_long in
            let parts : List RattleType = MutSlice (named 0) κ Item ∷ MutSlice (named 0) κ (Array Item 1) ∷ [] in
            let first_part : GName × GName → MutBor (List T.Denot) = λ δ. record { ref_ptr = (b, o); ghost_name = δ.0; now = front } in
            let second_part : GName × GName → MutBor (List (List T.Denot)) = λ δ. record { ref_ptr = (b, p); ghost_name = δ.1; now = singles } in
            let pair : ℕ → ℕ → Val = λ n m. vstruct (vcons (slice_val (b, o) n) (vcons (slice_val (b, p) m) vnil)) in
            qed 𝓛 ((‵ (flft κ q) ⊛ ‵ (flft κT qT) ⊛ ‵ ftrue) ∷ ‵ (owns (MutSlice (named 0) κ Item ∷ usize ∷ usize ∷ []) (whole_slice, (mid, (count, tt))) (mut_slice_vals whole_slice, (vint w64 mid ∷ [], (vint w64 count ∷ [], tt)))) ∷ []) ∵
            enter ! C Λ fn (slice_val (b, o) (length xs) ∷ vint w64 mid ∷ vint w64 count ∷ []) _ $
            alloc_all ! (λ l. pass_all ! refl ((tt, (tt, (record { fits = room.0 }, tt))), ((tt, record { fits = fits_mid }), ((tt, record { fits = fits_count }), tt))) $
            -- let start = items.as_mut_ptr();
            sets ! (addr ! (from ! (fld ! refl (hop ! (look_in_at ! 1 (sub ! 0 refl (whole !))) (stop !))))) refl (tt, tt) $
            first ! $ blocks ! $
            -- from_raw_parts_mut(start, mid)
            sets ! (agg ! (and_then ! (get ! refl) (and_then ! (get ! refl) (no_more !)))) refl (tt, (tt, (record { fits = fits_mid }, tt))) $
            -- start.add(mid) as *mut [T; 1]
            sets ! (is ! (bin ! (get ! refl) (size_word !) (record { fits = subst (λ (k : ℕ). k < 2 ^ 64) (sym (uncapped mid unit offset)) offset })) (ap (vint w64) (uncapped mid unit offset))) refl (tt, record { fits = offset }) $
            sets ! (bin ! (get ! refl) (get ! refl) tt) refl (tt, tt) $
            sets ! (of_opd ! (get ! refl)) refl (tt, tt) $
            -- from_raw_parts_mut(.., count)
            sets ! (agg ! (and_then ! (get ! refl) (and_then ! (get ! refl) (no_more !)))) refl (tt, (tt, (record { fits = fits_count }, tt))) $
            -- the pair, as the block's value and then as the result
            sets_last ! (agg ! (and_then ! (get ! refl) (and_then ! (get ! refl) (no_more !)))) refl (tt, ((tt, (record { fits = fits_mid }, tt)), ((tt, (record { fits = fits_count }, tt)), tt))) $
            exec ! C Λ (env fn.locals l) after_block (at_ret (env fn.locals l) Post) $
            sets ! (of_opd ! (get ! refl)) refl (tt, ((tt, (record { fits = fits_mid }, tt)), ((tt, (record { fits = fits_count }, tt)), tt))) $
            split ! $ move ! (2 ∷ []) $ fsplit ! $ move ! (0 ∷ 2 ∷ []) $
            -- [the slice; the token of κ; ..]
            use2 𝓛 (later (some (tail_lent 𝓛 (named 0) κ q b o γ Item tt count xs front back (sym (take-append-drop mid xs)) p on exact)))
            (lends_tail 𝓛 (named 0) κ q b o γ Item tt count xs front back (sym (take-append-drop mid xs)) p on exact front_room singles_room (mut_slice_vals whole_slice)) $ await ! tt $ pick ! (λ δ.
            -- [what is lent, in three; the numbers; the other tokens; ..]. The two parts are the pair.
            split3 ! $ move ! (1 ∷ []) $ nothing ! $ move ! (1 ∷ 0 ∷ []) $ fjoin ! $ move ! (1 ∷ 0 ∷ []) $ fjoin ! $
            feq_i ! (List Val) (pair mid count ∷ []) (pair (length front) (length singles) ∷ []) (ap₂ (λ (n m : ℕ). pair n m ∷ []) (sym front_long) (sym many)) $ fjoin ! $
            fpack ! (Valss parts) (laid_within (shape (tuple_type parts)) (first_part δ, (second_part δ, tt)) (pair mid count ∷ [])) (slice_val (b, o) (length front) ∷ [], (slice_val (b, p) (length singles) ∷ [], tt)) $
            returns ! (look_at ! 0 refl) $ free_all ! refl $ keep ! (1 ∷ 0 ∷ 3 ∷ []) $ split ! $ move ! (2 ∷ []) $
            -- [the pair; the token of κ; what the slice ends as; the other tokens]
            suffices ! _ (ends_at 𝓛 (f.ended T) stayed clauses bound (pair mid count) (first_part δ, second_part δ) (tt, (tt, (tt, tt))) (tt, (tt, (tt, tt)))) $
            nothing ! $ nothing ! $ fjoin ! $ nothing ! $ fjoin ! $ nothing ! $ fjoin ! $ join ! $ move ! (1 ∷ 3 ∷ []) $ join ! $ join ! $ frame ! $
            says ! (refl, refl, many) $ done !))

pub singles_mut_spec : {M : Type 1} → statement M
singles_mut_spec 𝓤 𝓛 𝓜 𝓡 wired T laws =
    let c = f.clauses T 𝓛 𝓜.mem 𝓡.returns in let 𝓣 = tables 𝓤 𝓛.H 𝓜 𝓡 𝓡.env in
    proved 𝓛 (f.ended T) (stayed T) c 𝓜 𝓡
    (Goes-spent_slice 𝓛 2 (0 ∷ []) tt (plain (λ _. Item T)), (Goes-dropped 𝓛 2 (plain (λ _. usize)) yes (λ κs x w. refl), (Goes-dropped 𝓛 2 (plain (λ _. usize)) yes (λ κs x w. refl), tt)))
    (f.Key.name (layouts (a_type ∷ []) (T, tt))) (fn T) (code.unfolded 𝓤 𝓛.H 𝓜 𝓡 wired (T, tt))
    (λ κs. (mut_slice_vals, (uint_vals w64, (uint_vals w64, tt)))) (λ κs. (mut_slice_Tells (named 0) κs.0 (Item T), (uint_Tells w64, (uint_Tells w64, tt))))
    (λ κs qs bounds a g are.
    let items = a.0 in let mid = a.1.0 in let count = a.1.1.0 in
    qed 𝓛 (raw (Entered T 𝓛 𝓜.mem 𝓡.returns κs.0 κs.1.0 qs.0 qs.1.0 bounds items.ref_ptr.0 items.ref_ptr.1 items.ghost_name items.now mid count) ∷
    (raw (fact 𝓤 (κs.1.0 ⊑ T.lives)) ⊛ raw (fact 𝓤 (1 * size (layout T) < 2 ^ 63)) ⊛ raw (fact 𝓤 (mid + count ≡ length items.now))) ∷ []) ∵
    move ! (1 ∷ []) $ split3 ! $ heard ! _ (λ _. heard ! _ (λ _. heard ! _ (λ all.
    by ! (walk T 𝓛 𝓜.mem 𝓡.returns κs.0 κs.1.0 qs.0 qs.1.0 bounds items.ref_ptr.0 items.ref_ptr.1 items.ghost_name items.now mid count 𝓣.C 𝓣.Λ are.0.0.1 are.1.0.1 are.1.1.0.1 all)))))
