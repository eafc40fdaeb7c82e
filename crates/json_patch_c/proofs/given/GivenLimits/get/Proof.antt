-- `get` reads the size behind the pointer, unless it is null, and lends the words to `named`.
use Rattle.std.proofs.Common.{◌≡◌, ℕ, ◌*◌, ◌^◌, ◌<◌, List, [], ◌∷◌, length, refl, sym, ap, ◌∙◌, subst, lit<, arith, w64, Bor}
use base.Fraction.{full_share}
use mir.Syntax.{named, ty_int}
use mir.Val.{Val, vint, of_list}
use base.Logic.{id⊢}
use base.Fml.{Lft, Share, ftrue, feq, fsep, fat, flft, flent, Incl-refl}
use prog.Wp.{WpFn}
use types.Match.{live}
use types.Tokens.{lft_new}
use contract.Monad.{fact}
use contract.Running.{tables}
use types.Kit.{at_ret, raw, prop, Sq, ‵, ◌⊛◌, some, later, ◌$◌, ◌∵◌, !, qed, keep, move, drop, use0, use1, use2, join, split, pick, await, fsplit, fpick, fjoin, feq_i, feq_l, rewrite, regoal, suffices, done}
use types.Part.{whole, sub, agg}
use types.Run.{well_typed, bin, lit, stop, fld, no_more, and_then, of_opd, load, look, returns, returns_within, enter, first, branches, skips, blocks, exec}
use types.ByLocal.{alloc_all, pass_all, free_all, look_at, get, get_in, through, sets, sets_last, lands_as, env}
use denote.Array.{Array}
use denote.ArrayMemory.{Array-apart}
use denote.Builtin.{usize}
use denote.Copied.{uint_Copied}
use denote.Exit.{yes}
use denote.Laws.{Is, shows}
use denote.Lend.{lends_shr_slice}
use denote.Memory.{part_at, mem, shares}
use denote.Param.{layout}
use denote.Plain.{uint_out, uint_Makes, uint_Tells}
use denote.RattleType.{RattleType}
use denote.RawPtr.{Ptr, block_ptr, null_ptr, in_a_block, Testable, tests_null, lies_at}
use denote.Signature.{plain}
use denote.Slice.{ShrSlice, slice_val}
use denote.Steps.{nothing, owned, only, peeks, heard}
use denote.Triple.Call.{calls_at}
use denote.Triple.Clauses.{lasts}
use denote.Triple.Spec.{triple_of}
use denote.Triple.Table.{framed}
use denote.Triple.Walked.{says, Stays, stay_dropped, ends_at, walk_of, Goes-dropped}
use types.Share.{parts}
use Rattle.std.specs.Prelude.{Option, option_map}
use Rattle.std.specs.declared.option.Option.TheVariants.{None, Some}
use Rattle.std.specs.contracts.option.Option as OP
use Rattle.std.specs.contracts.result.Result as RE
use Rattle.std.proofs.result.Result.TheLaws.{the_row_laws as result_laws}
use Rattle.std.proofs.ResultValues.{and_tt}
use Rattle.std.proofs.cell.Inside.{Good}
use Rattle.std.proofs.option.Made.{Some-of, none_of}
use Rattle.std.proofs.raw_atomic.Walks.{proved}
use Rattle.std.proofs.alloc.Shapes.{after}
use Rattle.json_patch_c.specs.Given.{Given, readable, word_count}
use Rattle.json_patch_c.specs.Limits.{named_limits}
use Rattle.json_patch_c.specs.contracts.given.CallLimits.{the_row as CallLimits}
use Rattle.json_patch_c.proofs.given.CallLimits.TheLaws.{the_row_laws as limits_laws}
use Rattle.json_patch_c.specs.contracts.given.WrongSize.{the_row as WrongSize}
use Rattle.json_patch_c.proofs.given.WrongSize.TheLaws.{the_row_laws as wrong_laws}
use Rattle.json_patch_c.specs.contracts.given.GivenLimits.{the_row as G}
use Rattle.json_patch_c.proofs.given.GivenLimits.TheLaws as given
use Rattle.json_patch_c.specs.contracts.given.word_count as count
use Rattle.json_patch_c.proofs.given.word_count.Met as count_thm
use Rattle.json_patch_c.specs.contracts.given.named as of
use Rattle.json_patch_c.proofs.given.named.Met as of_thm
use Rattle.json_patch_c.specs.contracts.given.GivenLimits.get as f
use Rattle.json_patch_c.proofs.given.GivenLimits.get.Statement.{statement}
use Rattle.json_patch_c.proofs.given.GivenLimits.get.Code as code

abbrev stayed : Stays f.ended.signature.params f.ended.kept
stayed = (stay_dropped (plain (λ _. G)) yes, tt)

-- what `named` returns
abbrev X : RattleType
X = RE.the_row CallLimits WrongSize

pub get_spec : {M : Type 1} → statement M
get_spec 𝓤 𝓛 𝓜 𝓡 wired =
    let c = f.clauses 𝓛 𝓜.mem 𝓡.returns in let W = walk_of 𝓛 f.ended stayed c in let 𝓣 = tables 𝓤 𝓛.H 𝓜 𝓡 𝓡.env in let fn = code.function in let fr = framed 𝓤 𝓛.H 𝓜 𝓣 in
    let Count = triple_of 𝓛 count.signature (count.spec 𝓛 𝓜.mem 𝓡.returns) in let Of = triple_of 𝓛 of.signature (of.spec 𝓛 𝓜.mem 𝓡.returns) in
    proved 𝓛 f.ended stayed c 𝓜 𝓡 (Goes-dropped 𝓛 0 (plain (λ _. G)) yes (λ κs x w. refl), tt) f.Key.name fn (code.unfolded 𝓤 𝓛.H 𝓜 𝓡 wired)
    (λ κs. ((λ g. given.lowered g ∷ []), tt)) (λ κs. ((λ g vs is. given.lowers.val_is g vs is), tt)) (λ κs qs bounds a _ are.
    let g = a.0 in let y : W.Ghost = ((κs, qs, bounds, a, (given.lowered g ∷ [], tt)), tt) in
    let Runs = λ (p : Ptr). WpFn 𝓤 𝓛.H 𝓣.C 𝓣.Λ fn (given.lowered (record g { at = p }) ∷ []) (W.post y) in
    let at_null : g.given ≡ None → Sq 𝓛 [] (prop (Runs null_ptr)) = λ none.
    enter ! _ _ _ _ _ $ alloc_all ! (λ l. pass_all ! refl ((tt, (record { fits = lit< tt }, tt)), tt) $
    sets ! (of_opd ! (get_in ! (fld ! refl (stop !)) (sub ! 0 refl (whole !)))) refl (tt, record { fits = lit< tt }) $
    sets ! (bin ! (get ! refl) (lit ! tt) (tests_null null_ptr (lit< tt))) refl (tt, tt) $
    first ! $ branches ! (get ! refl)
    (λ t. sets ! (agg ! (and_then ! (lit ! tt) (no_more !))) refl (tt, (record { fits = lit< tt }, tt)) $
    returns_within ! (W.post y) refl (look_at ! 0 refl) $ free_all ! refl $
    use0 𝓛 (‵ ((OP.the_row X).own_val None (live 0 (of_list []) ∷ []))) (none_of 𝓛 X) $
    suffices ! _ (ends_at 𝓛 f.ended stayed c y (live 0 (of_list [])) None (tt, tt) (tt, tt)) $ says ! (ap (option_map _) (sym none)) $
    nothing ! $ nothing ! $ fjoin ! $ join ! $ nothing ! $ join ! $ done !)
    (λ t. absurd t)) in
    let at_block : (s : Given) (b o : ℕ) (q r : Share) → g.given ≡ Some s → Testable (block_ptr b o) → Sq 𝓛 (‵ (part_at usize q s.size b o) ∷ ‵ (part_at (Array usize (word_count s.size)) r s.words b o) ∷ []) (prop (Runs (block_ptr b o))) = λ s b o q r given_is may.
    let n = s.size in let ws = s.words in let sl : Bor (List ℕ) = record { ref_ptr = (b, o); now = ws } in
    use1 𝓛 (‵ (fat q (ty_int w64) b o (vint w64 n))) (uint_out 𝓛 q w64 n b o) $ well_typed ! (λ good. move ! (1 ∷ []) $
    use1 𝓛 (‵ (fsep (feq ℕ (length ws) (word_count n)) (parts (mem usize) (shares usize) r ws b o))) (Array-apart 𝓛 usize r tt (word_count n) ws b o) $ fsplit ! $ feq_l ! (λ count_is. let fits : length ws < 2 ^ 64 = omega (arith, count_is) in let room : length ws * 8 < 2 ^ 63 = omega (arith, count_is) in
    feq_i ! ℕ (length ws) (length ws) refl $ fjoin ! $ move ! (1 ∷ []) $
    -- [the size; the words]
    enter ! _ _ _ _ _ $ alloc_all ! (λ l. pass_all ! refl ((tt, (tt, tt)), tt) $ let Ev = env fn.locals l in
    sets ! (of_opd ! (get_in ! (fld ! refl (stop !)) (sub ! 0 refl (whole !)))) refl (tt, tt) $
    sets ! (bin ! (get ! refl) (lit ! tt) (tests_null (block_ptr b o) may)) refl (tt, tt) $
    first ! $ branches ! (get ! refl) (λ t. absurd t) (λ t. skips ! $ exec ! 𝓣.C 𝓣.Λ Ev (after 3 fn.body) (at_ret Ev (W.post y)) $ first ! $ blocks ! $
    sets ! (of_opd ! (load ! (through ! refl (stop !)) (look ! 0 refl))) refl good $
    nothing ! $ nothing ! $ owned ! usize (Is usize) (uint_Makes 𝓛 w64) n _ (refl, good.1.fits) $ fjoin ! $ nothing ! $ join ! $ join ! $
    let zc : Count.Ghost = ((tt, tt, tt, (n, tt), (vint w64 n ∷ [], tt)), tt) in use1 𝓛 (raw (Count.pre zc)) (id⊢ 𝓤 _) $
    calls_at ! fr Count (count_thm.met 𝓤 𝓛 𝓜 𝓡 (code.calls-json_patch_c::given::word_count 𝓡.env wired)) zc (and_then ! (get ! refl) (no_more !)) (λ v.
    use1 𝓛 (later (some (λ (m : ℕ). (‵ ftrue ⊛ ‵ (usize.own_val m (v ∷ []))) ⊛ some (λ (us : Unit {0} × Unit {0}). ‵ (lasts count.ended tt (n, tt) us) ⊛ raw (fact 𝓤 (m ≡ word_count n)))))) (id⊢ 𝓤 _) $
    await ! tt $ pick ! (λ m. split ! $ move ! (1 ∷ []) $ pick ! (λ us. split ! $ drop ! $ heard ! _ (λ counted. split ! $ drop ! $ peeks ! usize (Is usize) (shows 𝓛 usize) m (v ∷ []) (λ is. drop ! $
    lands_as ! (ap only (uint_Tells w64 m (v ∷ []) is) ∙ ap (vint w64) (counted ∙ sym count_is)) refl (tt, record { fits = fits }) $
    sets ! (agg ! (and_then ! (get ! refl) (and_then ! (get ! refl) (no_more !)))) refl (tt, (tt, (record { fits = fits }, tt))) $
    -- [the size; the words]
    lft_new ! tt (λ α. let κ : Lft = α ∷ [] in move ! (2 ∷ 0 ∷ []) $
    use2 𝓛 (later ((‵ ((ShrSlice (named 0) κ usize).own_val sl (slice_val (b, o) (length ws) ∷ [])) ⊛ ‵ (flent κ (fsep (feq ℕ (length ws) (length ws)) (parts (mem usize) (shares usize) r ws b o)))) ⊛ ‵ (flft κ full_share)))
    (lends_shr_slice 𝓛 usize (named 0) κ r ws b o (fits, room) κ ((uint_Copied 𝓛 w64).shares r κ) ((κ, full_share) ∷ []) (Incl-refl κ) (Incl-refl κ)) $ await ! tt $ split ! $ split ! $ move ! (1 ∷ []) $ drop ! $
    -- [the slice; the token; the size]
    nothing ! $ move ! (1 ∷ 0 ∷ []) $ fjoin ! $ owned ! usize (Is usize) (uint_Makes 𝓛 w64) n _ (refl, good.1.fits) $ fjoin ! $
    nothing ! $ move ! (2 ∷ 0 ∷ []) $ join ! $ join ! $ nothing ! $ move ! (1 ∷ 0 ∷ []) $ join ! $
    let zo : Of.Ghost = (((κ, tt), (full_share, tt), tt, (n, (sl, tt)), (vint w64 n ∷ [], (slice_val (b, o) (length ws) ∷ [], tt))), tt) in use1 𝓛 (raw (Of.pre zo)) (id⊢ 𝓤 _) $
    calls_at ! fr Of (of_thm.met 𝓤 𝓛 𝓜 𝓡 (code.calls-json_patch_c::given::named 𝓡.env wired)) zo (and_then ! (get ! refl) (and_then ! (get ! refl) (no_more !))) (λ w.
    use1 𝓛 (later (some (λ (x : X.Denot). ((‵ (flft κ full_share) ⊛ ‵ ftrue) ⊛ ‵ (X.own_val x (w ∷ []))) ⊛ some (λ (us : Unit {0} × (Unit {0} × Unit {0})). ‵ (lasts of.ended (κ, tt) (n, (sl, tt)) us) ⊛ raw (fact 𝓤 (x ≡ named_limits n ws)))))) (id⊢ 𝓤 _) $
    await ! tt $ pick ! (λ x. split ! $ move ! (1 ∷ []) $ pick ! (λ us. split ! $ drop ! $ heard ! _ (λ named_is. split ! $ drop ! $
    peeks ! X (Is X) (shows 𝓛 X) x (w ∷ []) (λ is. let ok : Good (layout X) w = (((result_laws CallLimits WrongSize limits_laws wrong_laws).lawful 𝓛).typed x (w ∷ []) is).0 in
    lands_as ! refl refl ok $ let out : Val = live 1 (of_list (w ∷ [])) in let some_ok : Good (layout (OP.the_row X)) out = (and_tt _ ok.0, (record { fits = lit< tt }, (ok.1, tt))) in
    use1 𝓛 (‵ ((OP.the_row X).own_val (Some x) (out ∷ []))) (Some-of 𝓛 X x w) $
    sets_last ! (agg ! (and_then ! (lit ! tt) (and_then ! (get ! refl) (no_more !)))) refl some_ok $
    exec ! 𝓣.C 𝓣.Λ Ev (after 4 fn.body) (at_ret Ev (W.post y)) $ sets ! (of_opd ! (get ! refl)) refl some_ok $
    returns ! (look_at ! 0 refl) $ free_all ! refl $ keep ! (0 ∷ []) $
    suffices ! _ (ends_at 𝓛 f.ended stayed c y out (Some x) (tt, tt) (tt, tt)) $ says ! (ap Some named_is ∙ ap (option_map _) (sym given_is)) $
    nothing ! $ nothing ! $ fjoin ! $ join ! $ nothing ! $ join ! $ done !))))))))))))))) in
    let either : (k : Option Given) → g.given ≡ k → Sq 𝓛 (‵ (readable g.at k) ∷ []) (prop (Runs g.at)) = elim [
      | None ↦ λ is. feq_l ! (λ e. regoal ! (λ p. prop (Runs p)) e refl $ at_null is)
      | Some s ↦ λ is. fsplit ! $ fpick ! (λ may. drop ! $ fsplit ! $ fpick ! (λ q. in_a_block ! g.at (λ p. lies_at usize q p s.size) (id⊢ 𝓤 _) (λ b o e.
          move ! (1 ∷ []) $ fpick ! (λ r. rewrite ! 0 (λ (p : Ptr). ‵ (lies_at (Array usize (word_count s.size)) r p s.words)) e refl $ move ! (1 ∷ 0 ∷ []) $
          regoal ! (λ p. prop (Runs p)) e refl $ at_block s b o q r is (subst Testable e may)))))
    ] in
    qed 𝓛 ((‵ ftrue ⊛ ‵ (fsep (G.own_val g (given.lowered g ∷ [])) ftrue)) ∷ ‵ ftrue ∷ []) ∵ split ! $ drop ! $ fsplit ! $ fsplit ! $ drop ! $ keep ! (0 ∷ []) $ either g.given refl)
