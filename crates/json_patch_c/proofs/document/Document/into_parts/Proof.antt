-- `into_parts` hands on what the document owns, unless its pointer is null.
use Rattle.std.proofs.Common.{◌≡◌, List, [], ◌∷◌, ◌++◌, refl, sym, subst, lit<}
use mir.Raw.{raw as bare}
use mir.Val.{Val, of_list}
use base.Logic.{SProp, ent, sep, emp, via, guard_i, id⊢, never, fst∗, snd∗}
use base.Fml.{ftrue, fsep, feq}
use prog.Wp.{WpFn}
use types.Logic.{sem}
use types.Match.{live}
use contract.Monad.{fact_use}
use contract.Running.{tables}
use types.Kit.{at_ret, given, learn, rewrite, use0, ‵, raw, ◌⊛◌, ◌$◌, ◌∵◌, !, qed, by, keep, move, drop, use1, join}
use types.Kit.{split, fsplit, fjoin, feq_l, suffices, done}
use types.Part.{whole, sub, agg}
use types.Run.{bin, lit, stop, fld, no_more, and_then, of_opd, returns, returns_within, enter, first, branches, skips}
use types.Run.{exec}
use types.ByLocal.{alloc_all, pass_all, free_all, look_at, get, get_in, sets, env}
use denote.RattleType.{RattleType}
use denote.Exit.{yes}
use denote.Memory.{lone}
use denote.Param.{layout}
use denote.RawPtr.{Ptr, block_ptr, null_ptr, in_a_block, Testable, tests_null, lies_at}
use base.Fraction.{full_share}
use denote.Signature.{plain}
use denote.Steps.{nothing}
use denote.Triple.Walked.{says, Stays, stay_dropped, walk_of, ends_at, Goes-dropped}
use Rattle.std.specs.Prelude.{Option}
use Rattle.std.specs.declared.option.Option.TheVariants.{None, Some}
use Rattle.std.specs.contracts.option.Option as OP
use Rattle.std.specs.contracts.alloc.Global as Heap
use Rattle.std.specs.contracts.impls.GlobalAllocator.TheImpl.{ghosts}
use Rattle.std.specs.Box.Ownership.{box_owns}
use Rattle.std.proofs.alloc.Global.TheLaws as heap
use Rattle.std.proofs.alloc.Shapes.{after}
use Rattle.std.proofs.cell.Inside.{Good, one}
use Rattle.std.proofs.option.Made.{Some-of, none_of}
use Rattle.std.proofs.BoxSteps.Form.{B, word as box_word, box_typed}
use Rattle.std.proofs.BoxSteps.Form as box
use Rattle.std.proofs.BoxSteps.Steps.{box_in}
use Rattle.std.proofs.ResultValues.{and_tt}
use Rattle.std.proofs.GlobalToken.{dealloc_token-Testable}
use Rattle.std.proofs.raw_atomic.Walks.{proved_at}
use Rattle.json_patch_c.specs.declared.kept.Kept.{Kept}
use Rattle.json_patch_c.specs.contracts.kept.Kept as J
use Rattle.json_patch_c.specs.Documents.{owned}
use Rattle.json_patch_c.proofs.Owned.{E, P, D, word, doc_out}
use Rattle.json_patch_c.specs.contracts.document.Document.into_parts as F
use Rattle.json_patch_c.specs.contracts.document.Document.into_parts.Key.{name as #self}
use Rattle.json_patch_c.proofs.document.Document.into_parts.Statement.{statement}
use Rattle.json_patch_c.proofs.document.Document.into_parts.Code as code

abbrev Z : RattleType
Z = Heap.the_row

abbrev stayed : Stays (F.ended).signature.params (F.ended).kept
stayed = (stay_dropped (plain (λ _. D)) yes, (stay_dropped (plain (λ _. Z)) yes, tt))

pub into_parts_spec : {M : Type 1} → statement M
into_parts_spec 𝓤 𝓛 𝓜 𝓡 wired =
    let H = 𝓛.H in let 𝓣 = tables 𝓤 H 𝓜 𝓡 𝓡.env in let c = F.clauses 𝓛 𝓜.mem 𝓡.returns in let fn = code.function in
    proved_at 𝓛 F.ended stayed c 𝓜 𝓡 (Goes-dropped 𝓛 0 (plain (λ _. D)) yes (λ κs x f. refl), (Goes-dropped 𝓛 0 (plain (λ _. Z)) yes (λ κs x f. refl), tt)) #self fn (code.unfolded 𝓤 H 𝓜 𝓡 wired) (λ z are.
    let Post : Val → SProp 𝓤 = (walk_of 𝓛 F.ended stayed c).post z in let Run : List Val → SProp 𝓤 = λ ws. WpFn 𝓤 H 𝓣.C 𝓣.Λ fn ws Post in
    let d = z.0.3.0 in let a = z.0.3.1.0 in let h = one (layout Z) z.0.4.1.0 ((heap.the_row_laws.lawful 𝓛).typed a z.0.4.1.0 are.1.0) in let hv : Val = h.0 in
    -- null
    let at_null : d.held ≡ None → ent 𝓤 (sem 𝓛 (Z.own_val a (hv ∷ []))) (Run (word null_ptr ∷ hv ∷ [])) =
    λ none. qed 𝓛 (‵ (Z.own_val a (hv ∷ [])) ∷ []) ∵ drop ! $
    enter ! 𝓣.C 𝓣.Λ fn (word null_ptr ∷ hv ∷ []) Post $ alloc_all ! (λ l. pass_all ! refl ((tt, (record { fits = lit< tt }, tt)), (h.2, tt)) $
    sets ! (of_opd ! (get_in ! (fld ! refl (stop !)) (sub ! 0 refl (whole !)))) refl (tt, record { fits = lit< tt }) $
    sets ! (bin ! (get ! refl) (lit ! tt) (tests_null null_ptr (lit< tt))) refl (tt, tt) $
    first ! $ branches ! (get ! refl)
    (λ t. sets ! (agg ! (and_then ! (lit ! tt) (no_more !))) refl (tt, (record { fits = lit< tt }, tt)) $
    returns_within ! Post refl (look_at ! 0 refl) $ free_all ! refl $
    use0 𝓛 (‵ ((OP.the_row P).own_val None (live 0 (of_list []) ∷ []))) (none_of 𝓛 P) $
    suffices ! _ (ends_at 𝓛 F.ended stayed c z (live 0 (of_list [])) None (tt, (tt, tt)) (tt, (tt, tt))) $ says ! (sym none) $
    nothing ! $ nothing ! $ fjoin ! $ nothing ! $ fjoin ! $ join ! $ nothing ! $ join ! $ done !)
    (λ t. absurd t)) in
    -- a box
    let at_box : (x : Kept) (b o : _) → d.held ≡ Some x → ent 𝓤 (sep 𝓤 (sem 𝓛 (box_owns (ghosts.dealloc_token a) J.the_row (block_ptr b o) x)) (sem 𝓛 (Z.own_val a (hv ∷ [])))) (Run (word (block_ptr b o) ∷ hv ∷ [])) =
    λ x b o some. let p = block_ptr b o in let Owned = box_owns (ghosts.dealloc_token a) J.the_row p x in let w = box_word E hv b o in
    let v : box.D E = record { ptr = p; alloc = a; value = x } in let made : P.Denot = record { ptr = p; alloc = a; value = x } in let out : Val = live 1 (of_list (w ∷ [])) in
    let typed = box_typed E hv b o h.2 in let good : Good (layout (OP.the_row P)) out = (and_tt _ typed.0, (record { fits = lit< tt }, (typed.1, tt))) in
    qed 𝓛 (‵ Owned ∷ ‵ (Z.own_val a (hv ∷ [])) ∷ []) ∵
    use1 𝓛 (given (Testable p) (‵ Owned)) (fact_use 𝓤 (Testable p) (via 𝓤 _ (snd∗ 𝓤 (sem 𝓛 (lies_at J.the_row full_share p x)) (sem 𝓛 (ghosts.dealloc_token a (bare (lone (J.the_row).mir)) p))) (dealloc_token-Testable 𝓛 a (bare (lone (J.the_row).mir)) p)) (guard_i 𝓤 (Testable p) (sem 𝓛 Owned))) $ learn ! (λ may.
    fsplit ! $ box_in E ! {hv = hv} v b o x refl refl $ use1 𝓛 (‵ (P.own_val made (w ∷ []))) (id⊢ 𝓤 _) $ use1 𝓛 (‵ ((OP.the_row P).own_val (Some made) (out ∷ []))) (Some-of 𝓛 P made w) $
    enter ! 𝓣.C 𝓣.Λ fn (word p ∷ hv ∷ []) Post $ alloc_all ! (λ l. pass_all ! refl ((tt, (tt, tt)), (h.2, tt)) $ let Ev = env fn.locals l in
    sets ! (of_opd ! (get_in ! (fld ! refl (stop !)) (sub ! 0 refl (whole !)))) refl (tt, tt) $
    sets ! (bin ! (get ! refl) (lit ! tt) (tests_null p may)) refl (tt, tt) $
    first ! $ branches ! (get ! refl) (λ t. absurd t) (λ t. skips ! $ exec ! 𝓣.C 𝓣.Λ Ev (after 3 fn.body) (at_ret Ev Post) $
    sets ! (of_opd ! (get ! refl)) refl (tt, tt) $
    sets ! (agg ! (and_then ! (get ! refl) (and_then ! (get ! refl) (no_more !)))) refl typed $
    sets ! (agg ! (and_then ! (lit ! tt) (and_then ! (get ! refl) (no_more !)))) refl good $
    returns ! (look_at ! 0 refl) $ free_all ! refl $
    suffices ! _ (ends_at 𝓛 F.ended stayed c z out (Some made) (tt, (tt, tt)) (tt, (tt, tt))) $ says ! (sym some) $
    nothing ! $ nothing ! $ fjoin ! $ nothing ! $ fjoin ! $ join ! $ nothing ! $ join ! $ done !))) in
    let either : (k : Option Kept) → d.held ≡ k → ent 𝓤 (sep 𝓤 (sem 𝓛 (owned J.the_row d.at k)) (sem 𝓛 (Z.own_val a (hv ∷ [])))) (Run (word d.at ∷ hv ∷ [])) =
    elim [
      | None ↦ λ e. qed 𝓛 (‵ (feq Ptr d.at null_ptr) ∷ ‵ (Z.own_val a (hv ∷ [])) ∷ []) ∵ feq_l ! (λ n. by ! (subst (λ (q : Ptr). ent 𝓤 (sem 𝓛 (Z.own_val a (hv ∷ []))) (Run (word q ∷ hv ∷ []))) (sym n) (at_null e)))
      | Some x ↦ λ e. qed 𝓛 (‵ (owned J.the_row d.at (Some x)) ∷ ‵ (Z.own_val a (hv ∷ [])) ∷ []) ∵
          in_a_block ! d.at (λ p. box_owns (ghosts.dealloc_token a) J.the_row p x) (fst∗ 𝓤 (never 𝓤) (sem 𝓛 (ghosts.dealloc_token a (bare (lone (J.the_row).mir)) null_ptr))) (λ b o n.
          by ! (subst (λ (q : Ptr). ent 𝓤 (sep 𝓤 (sem 𝓛 (box_owns (ghosts.dealloc_token a) J.the_row (block_ptr b o) x)) (sem 𝓛 (Z.own_val a (hv ∷ [])))) (Run (word q ∷ hv ∷ []))) (sym n) (at_box x b o e)))
    ]
    in
    qed 𝓛 ((‵ ftrue ⊛ ‵ (fsep (D.own_val d z.0.4.0) (fsep (Z.own_val a z.0.4.1.0) ftrue))) ∷ raw (emp 𝓤) ∷ []) ∵ split ! $ drop ! $ fsplit ! $
    doc_out ! d z.0.4.0 (λ ws. move ! (1 ∷ []) $ fsplit ! $ rewrite ! 0 (λ (us : List Val). ‵ (Z.own_val a us)) h.1 refl $ keep ! (2 ∷ 0 ∷ []) $
    suffices ! (Run (word d.at ∷ hv ∷ [])) (subst (λ (us : List Val). ent 𝓤 (Run (word d.at ∷ hv ∷ [])) (Run us)) (sym (λ i. ws i ++ (h.1 i ++ []))) (id⊢ 𝓤 (Run (word d.at ∷ hv ∷ [])))) $
    by ! (either d.held refl)))
