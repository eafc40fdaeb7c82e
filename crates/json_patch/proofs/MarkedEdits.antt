-- Edits of a marked document where a pointer leads: what is seen of them, and what undoes them.
use Rattle.json_patch.proofs.Common.{◌≡◌, ℕ, List, [], ◌∷◌, false, Option, Some, option_and_then_some, Result, Ok, Err}
use Rattle.json_patch.proofs.Common.{refl, sym, ap, ◌∙◌, subst, rules, Data, child, segment_of, pointee, after_change}
use Rattle.json_patch.proofs.Common.{front_of, last_of, Pointer, Attempts, StepFault, Refused}
use Rattle.json_patch_edit.specs.declared.error.StepFault.TheVariants.{Memory}
use Rattle.json_patch_edit.specs.declared.edits.Edit.{Edit}
use Rattle.json_patch_edit.specs.declared.edits.Edit.TheVariants.{Insert, Take, Remove, Swap, Undo, Clear, Sweep}
use Rattle.json_patch_edit.specs.declared.edits.Found.{Found}
use Rattle.json_patch_edit.specs.declared.edits.Found.TheVariants.{Former}
use Rattle.json_patch_edit.proofs.Exchanges.{left_of}
use Rattle.json_patch_edit.proofs.Locations.{option_map_some, split_whole}
use Rattle.json_patch_document.proofs.Members.{child_set}
use Rattle.json_patch_laws.proofs.Parents.{replaced_in}
use Rattle.json_patch_document.proofs.Children.{step_of_set}
use Rattle.json_patch_edit.proofs.MarkedChanges.{Mirrors, change_seen, change_back, corr_some, corr_none, seen_as, made_seen}
use Rattle.json_patch_edit.proofs.MarkedChanges.{made_mark, made_back, put_comes_back}
use Rattle.json_patch.proofs.MarkedUnseen.{change_unseen, made_unseen, swept}
use Rattle.json_patch_edit.specs.Marked.{is_mark, seen, IsMarked, IsSeen, IsValue, Corresponds}
use Rattle.json_patch_edit.specs.Exchange.{made, made_where, Finds, FindsWhere, Exchanges}
use Rattle.json_patch_edit.specs.SeenEdits.{Suits, IsReversible, IsUnseen, seen_made, seen_where}

-- ---- what is seen

mirrors : (edit : Edit) (v : Data) (t : List ℕ) → Suits edit v → Mirrors (made edit v t) (seen_made edit (seen v) t)
mirrors edit v t hv = record { seen_as = λ c hc. made_seen edit v t c hv hc; refuses = made_mark edit v t }

seen_in : (edit : Edit) (v w d : Data) (t : List ℕ) (P : Pointer) → Suits edit v → seen_where edit w d (t ∷ P) ≡ after_change (seen_made edit w (last_of t P)) d (front_of t P)
seen_in Insert v w d t P hv = refl
seen_in Take v w d t P hv = refl
seen_in Remove v w d t P hv = refl
seen_in Swap v w d t P hv = replaced_in d (t ∷ P) (front_of t P) (last_of t P) w (split_whole t P)
seen_in edit v w d t P hv = absurd hv

-- an operation's edit of a marked document is seen as that of what is seen of it
pub where_seen : (edit : Edit) (v p : Data) (P : Pointer) → Suits edit v → IsValue p → Corresponds IsSeen (made_where edit v p P) (seen_where edit (seen v) (seen p) P)
where_seen Insert v p [] hv hp = seen_as v (seen v) hv.0 hv.1 refl
where_seen Take v p [] hv hp = tt
where_seen Remove v p [] hv hp = tt
where_seen Swap v p [] hv hp = seen_as v (seen v) hv.0 hv.1 refl
where_seen edit v p (t ∷ P) hv hp =
    subst (Corresponds IsSeen (made_where edit v p (t ∷ P))) (sym (seen_in edit v (seen v) (seen p) t P hv))
    (change_seen (made edit v (last_of t P)) (seen_made edit (seen v) (last_of t P)) p (front_of t P) (mirrors edit v (last_of t P) hv) hp)
where_seen edit v p P hv hp = absurd hv

-- one that changes marks alone isn't seen
pub where_unseen : (edit : Edit) (v p q : Data) (P : Pointer) → IsUnseen edit → IsValue p → made_where edit v p P ≡ Some q → IsSeen q (seen p)
where_unseen Clear v p q [] he hp is = cc
where_unseen Sweep v p q [] he hp is = let e : seen p ≡ q = cc in subst (λ x. IsSeen x (seen p)) e (swept p hp)
where_unseen edit v p q (t ∷ P) he hp is =
    change_unseen (made edit v (last_of t P)) p (front_of t P) q (λ c e hc at. made_unseen edit v (last_of t P) c e he hc at) (made_mark edit v (last_of t P)) hp is
where_unseen edit v p q P he hp is = absurd he

-- ---- what undoes it

-- by what an edit found the very document before it comes back
pub where_back : (edit : Edit) (v p q : Data) (P : Pointer) (found : Found) (w : Data) → IsReversible edit v → IsMarked p → FindsWhere edit p P found w → made_where edit v p P ≡ Some q → made_where (Undo found) w q P ≡ Some p
where_back Insert v p q [] Former w hv hp finds is = ap Some finds
where_back Swap v p q [] Former w hv hp finds is = ap Some finds
where_back edit v p q (t ∷ P) found w hv hp finds is =
    change_back (made edit v (last_of t P)) (made (Undo found) w (last_of t P)) p (front_of t P) q
    (λ c e hc at here. (let same : finds.0 ≡ c = cc in made_back edit v (last_of t P) c e found w hv hc (subst (λ x. Finds edit (last_of t P) x found w) same finds.2) here)) hp is
where_back edit v p q P found w hv hp finds is = search rules

-- what stands there after a change
pub changed_there : (f : Data → Option Data) (p q c : Data) (P : Pointer) → pointee p P ≡ Some c → after_change f p P ≡ Some q → (e : Data) × (f c ≡ Some e) × (pointee q P ≡ Some e)
changed_there f p q c [] at is = let e : p ≡ c = cc in (q, ap f (sym e) ∙ is, refl)
changed_there f p q c (t ∷ P) at is =
    option_and_then_some _ (segment_of p t) q is (λ s named more.
    option_and_then_some _ (child s p) q more (λ b stands rest.
    option_map_some _ (after_change f b P) q rest (λ x inner whole.
    (let below : pointee b P ≡ Some c = rw (named, stands) at at in
    let there = changed_there f b x c P below inner in
    (there.0, there.1, subst (λ y. pointee y (t ∷ P) ≡ Some there.0) whole (rw (step_of_set s p x t, named, child_set s p b x stands) there.2))))))

-- what was put in comes out again
pub put_comes_out : (v p q : Data) (P : Pointer) (found f : Found) (w x : Data) → is_mark v ≡ false → FindsWhere Insert p P found w → made_where Insert v p P ≡ Some q → FindsWhere (Undo found) q P f x → x ≡ v
put_comes_out v p q [] Former Former w x hv finds is out = let e : v ≡ q = cc in out ∙ sym e
put_comes_out v p q (t ∷ P) found f w x hv finds is out =
    let there = changed_there (made Insert v (last_of t P)) p q finds.0 (front_of t P) finds.1 is in
    let same : out.0 ≡ there.0 = (let both : ◌≡◌ {A = Option Data} (Some out.0) (Some there.0) = sym out.1 ∙ there.2 in cc) in
    put_comes_back v (last_of t P) finds.0 there.0 found f w x hv finds.2 there.1 (subst (λ y. Finds (Undo found) (last_of t P) y f x) same out.2)
put_comes_out v p q P found f w x hv finds is out = search rules

-- ---- from what the walk ensures

pub attempt_seen : {T : Type 0} (r : Result T StepFault) (o w : Option Data) (p q : Data) → IsValue p → Corresponds IsSeen o w → Attempts r o p q → Attempts r w (seen p) (seen q) × IsValue q
attempt_seen (Ok x) o w p q hp h is = let got = corr_some IsSeen o w q h is in (got.1 ∙ ap Some (sym got.2.is), (got.2.marked, got.2.stands))
attempt_seen (Err (Refused kind)) o w p q hp h is = (((is.0.0, corr_none IsSeen o w h is.0.1), ap seen is.1), subst IsValue (sym is.1) hp)
attempt_seen (Err (Memory e)) o w p q hp h is = ((is.0, ap seen is.1), subst IsValue (sym is.1) hp)

-- an attempt at an operation's edit is seen as the attempt at that of what is seen
pub exchange_seen : (r : Result Found StepFault) (edit : Edit) (v p q w : Data) (P : Pointer) → Suits edit v → IsValue p → Exchanges r (made_where edit v p P) (FindsWhere edit p P) p q v w
    → Attempts r (seen_where edit (seen v) (seen p) P) (seen p) (seen q) × IsValue q
exchange_seen r edit v p q w P hv hp h = attempt_seen r (made_where edit v p P) (seen_where edit (seen v) (seen p) P) p q hp (where_seen edit v p P hv hp) (left_of r _ _ _ _ v w h)

-- one that changes marks alone isn't seen, be it made or not
pub exchange_unseen : (r : Result Found StepFault) (edit : Edit) (v p q w : Data) (P : Pointer) → IsUnseen edit → IsValue p → Exchanges r (made_where edit v p P) (FindsWhere edit p P) p q v w → IsSeen q (seen p)
exchange_unseen (Ok found) edit v p q w P he hp h = where_unseen edit v p q P he hp h.0
exchange_unseen (Err fault) edit v p q w P he hp h = subst (λ x. IsSeen x (seen p)) (sym h.1) (seen_as p (seen p) hp.0 hp.1 refl)
