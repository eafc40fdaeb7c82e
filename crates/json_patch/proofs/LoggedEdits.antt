-- A logged edit of a marked document: what it comes to, what undoes it, and what the inverse says of it.
use Rattle.json_patch.proofs.Common.{◌≡◌, ◌++◌, ◌+◌, ◌≤◌, ℕ, List, [], ◌∷◌, Option, Some, None, Result, Ok, Err, refl, length-append}
use Rattle.json_patch.proofs.Common.{sym, ap, ◌∙◌, subst, rules, arith, append_assoc, Data, array, object, Items}
use Rattle.json_patch.proofs.Common.{no_items, item, Members, no_members, member, view, Pointer, StepFault, Refused}
use Rattle.json_patch.proofs.Common.{PatchErrorKind, InvalidPointer, Attempts, ComesTo, IsDocument, AreDocuments}
use Rattle.json_patch.proofs.Common.{AreMembers, IfOk, Value, after_add}
use Rattle.std.specs.Prelude.{IfErr, OnErr, OnOk}
use Rattle.jsonptr.specs.Pointers.{tokens_of}
use Rattle.json_patch_edit.specs.Attempt.{Excuses}
use Rattle.jsonptr.specs.declared.pointer.Pointer.{Pointer as PointerOf}
use Rattle.json_patch_document.specs.ChangeComputed.{pointee, after_remove, last_of}
use Rattle.json_patch_edit.specs.Exchange.{AreFitting, Exchanges, Finds, FindsWhere, made_where, room}
use Rattle.json_patch_edit.specs.InverseComputed.{block, undo_add}
use Rattle.json_patch.specs.Logged.{IsEnd, IsFor, IsKept, IsKeptBack, IsMade, IsRoomy, IsTakenFrom, IsUndone, Keeps}
use Rattle.json_patch.specs.Logged.{Logs, LogsAs, kept_block, kept_blocks, place_undone, put_back, takes, taken, held}
use Rattle.json_patch.specs.Logged.{Tells, lasting}
use Rattle.json_patch_edit.specs.Marked.{IsMarked, IsValue, seen, the_mark}
use Rattle.json_patch_edit.specs.MarkedComputed.{marks, marks_items, marks_members}
use Rattle.json_patch_operation.specs.Operation.{Operation, add, move, path_of}
use Rattle.json_patch_edit.specs.RunComputed.{after_step, or_refused}
use Rattle.json_patch_edit.specs.SeenEdits.{IsReversible, Suits, place_to_undo, found_marks, operation_at, put_marks}
use Rattle.json_patch_edit.specs.SeenEdits.{seen_where, undo_found}
use Rattle.json_patch_edit.specs.declared.edits.Edit.{Edit}
use Rattle.json_patch_edit.specs.declared.edits.Edit.TheVariants.{Insert, Take, Swap, Undo}
use Rattle.json_patch_edit.specs.declared.edits.Found.{Found}
use Rattle.json_patch_edit.specs.declared.edits.Found.TheVariants.{Nothing, Former, Taken}
use Rattle.json_patch_edit.specs.declared.error.StepFault.TheVariants.{Memory}
use Rattle.json_patch.specs.declared.log.Change.{Change}
use Rattle.json_patch.specs.declared.log.Keep.{Keep}
use Rattle.json_patch.specs.declared.log.Keep.TheVariants.{Inverse, Undo as undo_alone, Neither}
use Rattle.json_patch.specs.declared.log.Kept.{Kept}
use Rattle.json_patch.specs.declared.log.Log.{Log}
use Rattle.json_patch.proofs.Logged.{leads_pushed, roomy_more, roomy_pushed}
use Rattle.json_patch.proofs.MarkedCounts.{one_mark, where_counts}
use Rattle.json_patch.proofs.MarkedEdits.{attempt_seen, exchange_seen, put_comes_out, where_back, where_seen}
use Rattle.json_patch_edit.proofs.MarkedRuns.{document_seen, document_value}
use Rattle.json_patch.proofs.MarkedUndos.{edit_undoes, found_there, move_undoes, taken_seen}
use Rattle.json_patch_edit.proofs.StepOutcomes.{not_begins}
use Rattle.jsonptr.specs.Text.{IsProperPrefix}

-- ---- a document's values

mutual
  pub document_marks : (d : Data) → IsDocument d → marks d ≡ 0
  document_marks (array ds) h = documents_marks ds h
  document_marks (object ms) h = members_marks ms h
  document_marks d h = search rules

  documents_marks : (ds : Items) → AreDocuments ds → marks_items ds ≡ 0
  documents_marks no_items h = refl
  documents_marks (item d ds) h = rw (document_marks d h.0, documents_marks ds h.1) refl

  members_marks : (ms : Members) → AreMembers ms → marks_members ms ≡ 0
  members_marks no_members h = refl
  members_marks (member k d ms) h = rw (document_marks d h.1, members_marks ms h.2) refl

suits : (edit : Edit) (v : Data) → IsFor edit v → Suits edit v
suits Insert v h = document_value v h
suits Swap v h = document_value v h
suits Take v h = h
suits edit v h = absurd h

reverses : (edit : Edit) (v : Data) → IsFor edit v → IsReversible edit v
reverses Insert v h = (document_value v h).1
reverses Swap v h = tt
reverses Take v h = tt
reverses edit v h = absurd h

-- an edit as its operation
step_of : (edit : Edit) (v d : Data) (P : Pointer) → IsFor edit v → or_refused InvalidPointer (seen_where edit (seen v) d P) ≡ after_step d (operation_at edit P v)
step_of Insert v d P h = rw (document_seen v h) refl
step_of Swap v d P h = rw (document_seen v h) refl
step_of Take v d P h = refl
step_of edit v d P h = absurd h

-- ---- what is left of the document

comes_of : {T : Type 0} (r : Result T StepFault) (o : Option Data) (d e : Data) → Attempts r o d e → ComesTo r (or_refused InvalidPointer o) e
comes_of (Ok x) o d e h = ap (or_refused InvalidPointer) h
comes_of (Err (Refused kind)) o d e h = rw (h.0.1, h.0.0) refl
comes_of (Err (Memory error)) o d e h = tt

edit_left : (r : Result (Unit {0}) StepFault) (edit : Edit) (keep : Keep) (P : PointerOf) (F : Option PointerOf) (olds news : Log) (d e v w : Data)
    → OnOk r ((c : Change) × IsEnd P F olds news c × IsMade edit keep c d v e) → IfErr r (λ fault. Excuses fault (made_where edit v d (tokens_of P)))
    → OnErr r ((e ≡ d) × (w ≡ v) × (news.changes.items ≡ olds.changes.items)) → Attempts r (made_where edit v d (tokens_of P)) d e
edit_left (Ok x) edit keep P F olds news d e v w logged refused unchanged = rw logged.1.at at logged.2.makes
edit_left (Err fault) edit keep P F olds news d e v w logged refused unchanged = (refused, unchanged.0)

-- ---- the log with one change more

takes_pushed : (log : List Change) (c : Change) → takes (log ++ c ∷ []) ≡ takes log + taken c.found c.from
takes_pushed [] c = omega arith
takes_pushed (b ∷ log) c = let more : takes (log ++ c ∷ []) ≡ takes log + taken c.found c.from = takes_pushed log c in omega arith

held_pushed : (log : List Change) (c : Change) → held (log ++ c ∷ []) ≡ held log + found_marks c.found (view c.value)
held_pushed [] c = omega arith
held_pushed (b ∷ log) c = let more : held (log ++ c ∷ []) ≡ held log + found_marks c.found (view c.value) = held_pushed log c in omega arith

pub blocks_pushed : (log : List Change) (c : Change) → kept_blocks (log ++ c ∷ []) ≡ kept_block c.kept c.found (view c.value) ++ kept_blocks log
blocks_pushed [] c = search rules
blocks_pushed (b ∷ log) c = ap (λ x. x ++ kept_block b.kept b.found (view b.value)) (blocks_pushed log c) ∙ append_assoc (kept_block c.kept c.found (view c.value)) (kept_blocks log) (kept_block b.kept b.found (view b.value))

-- the changes of the log and the document are the old ones
pub logs_none : (olds news : Log) (d e : Data) → room olds.names ≤ room news.names → news.changes.items ≡ olds.changes.items → e ≡ d → Logs olds news d e
logs_none olds news d e grows same is = record {
  tells = record {
    roomy = λ h. rw same (roomy_more _ _ olds.changes.items grows h);
    counts = rw (same, is) (omega arith);
    longer = rw same (omega arith);
  };
  leads = λ p h. rw (same, is) h;
}

-- the log had less room before
pub logs_earlier : (first olds news : Log) (d e : Data) → room first.names ≤ room olds.names → olds.changes.items ≡ first.changes.items → Logs olds news d e → Logs first news d e
logs_earlier first olds news d e grows same l = record {
  tells = record {
    roomy = λ h. l.tells.roomy (rw same (roomy_more _ _ first.changes.items grows h));
    counts = rw same at l.tells.counts;
    longer = rw same at l.tells.longer;
  };
  leads = λ p h. l.leads p (rw same h);
}

logs_one : (olds news : Log) (c : Change) (d e : Data) → room olds.names ≤ room news.names → news.changes.items ≡ olds.changes.items ++ c ∷ [] → IsRoomy (room news.names) c → IsUndone c e d
    → marks e + found_marks c.found (view c.value) ≤ marks d + taken c.found c.from → Logs olds news d e
logs_one olds news c d e grows ends fits undone counted = record {
  tells = record {
    roomy = λ h. rw ends (roomy_pushed _ olds.changes.items c (roomy_more _ _ olds.changes.items grows h) fits);
    counts = rw ends (omega (arith, takes_pushed olds.changes.items c, held_pushed olds.changes.items c));
    longer = rw ends (omega (arith, length-append olds.changes.items (c ∷ [])));
  };
  leads = λ p h. rw ends (leads_pushed olds.changes.items c e d p undone h);
}

-- ---- what the inverse says

place_same : (edit : Edit) (d : Data) (P : Pointer) (v : Data) → place_undone edit d P ≡ place_to_undo d (operation_at edit P v)
place_same Insert d P v = refl
place_same Swap d P v = refl
place_same edit d P v = refl

abbrev put_back_of : Option PointerOf → Data → List Operation
put_back_of None v = []
put_back_of (Some F) v = add (tokens_of F) (seen v) ∷ []

kept_back : (F : Option PointerOf) (v : Data) (x : Option (Pointer × Value)) → IsKeptBack F v x → put_back x ≡ put_back_of F v
kept_back None v None h = refl
kept_back (Some F) v (Some x) h = rw (h.0, h.1) refl
kept_back F v x h = search rules

kept_says : (k : Option Kept) (Q : Pointer) (F : Option PointerOf) (v : Data) (found : Found) (w : Data) → IsKept Inverse Q F v k → kept_block k found w ≡ undo_found Q found w ∷ put_back_of F v
kept_says None Q F v found w h = absurd h
kept_says (Some k) Q F v found w h = rw (h.0, kept_back F v k.back h.1) refl

kept_one : (olds news : Log) (c : Change) (Q : Pointer) (F : Option PointerOf) (v : Data) (B : List Operation) → news.changes.items ≡ olds.changes.items ++ c ∷ [] → IsKept Inverse Q F v c.kept → B ≡ undo_found Q c.found (view c.value) ∷ put_back_of F v
    → kept_blocks news.changes.items ≡ B ++ kept_blocks olds.changes.items
kept_one olds news c Q F v B ends kept is = rw (ends, is, blocks_pushed olds.changes.items c, kept_says c.kept Q F v c.found (view c.value) kept) refl

-- ---- an edit by itself

took_at : (t : List ℕ) (c : Data) (found : Found) (w : Data) → Finds Take t c found w → found ≡ Taken
took_at t c Nothing w finds = absurd finds
took_at t c Former w finds = absurd finds
took_at t c Taken w finds = refl

took : (v d e : Data) (P : Pointer) (found : Found) (w : Data) → FindsWhere Take d P found w → made_where Take v d P ≡ Some e → found ≡ Taken
took v d e [] found w finds made = cc
took v d e (t ∷ P) found w finds made = took_at (last_of t P) finds.0 found w finds.2

puts : (edit : Edit) (v d e : Data) (P : Pointer) (found : Found) (w : Data) → IsFor edit v → FindsWhere edit d P found w → made_where edit v d P ≡ Some e → put_marks edit v ≤ taken found None
puts Insert v d e P found w hv finds made = rw (document_marks v hv) (omega arith)
puts Swap v d e P found w hv finds made = rw (document_marks v hv) (omega arith)
puts Take v d e P found w hv finds made = rw (one_mark v hv.1, took v d e P found w finds made) (omega arith)
puts edit v d e P found w hv finds made = absurd hv

-- a `remove` leaves a mark, and what puts a value in leaves none
edit_counts : (edit : Edit) (v d e : Data) (P : Pointer) (found : Found) (w : Data) → IsFor edit v → IsMarked d → FindsWhere edit d P found w → made_where edit v d P ≡ Some e → marks e + found_marks found w ≤ marks d + taken found None
edit_counts edit v d e P found w hv hd finds made =
    let counted : marks e + found_marks found w ≡ marks d + put_marks edit v = where_counts edit v d e P found w (suits edit v hv) hd finds made in
    let put : put_marks edit v ≤ taken found None = puts edit v d e P found w hv finds made in
    omega arith

module _ (r : Result (Unit {0}) StepFault) (edit : Edit) (keep : Keep) (P : PointerOf) (olds news : Log) (d e v w : Data) (hv : IsFor edit v) (hd : IsValue d)
    (logged : OnOk r ((c : Change) × IsEnd P None olds news c × IsMade edit keep c d v e)) (refused : IfErr r (λ fault. Excuses fault (made_where edit v d (tokens_of P))))
    (unchanged : OnErr r ((e ≡ d) × (w ≡ v) × (news.changes.items ≡ olds.changes.items))) where
  seen_left : Attempts r (seen_where edit (seen v) (seen d) (tokens_of P)) (seen d) (seen e) × IsValue e
  seen_left = attempt_seen r _ _ d e hd (where_seen edit v d (tokens_of P) (suits edit v hv) hd) (edit_left r edit keep P None olds news d e v w logged refused unchanged)

  pub edit_comes : ComesTo r (after_step (seen d) (operation_at edit (tokens_of P) v)) (seen e)
  edit_comes = subst (λ x. ComesTo r x (seen e)) (step_of edit v (seen d) (tokens_of P) hv) (comes_of r _ (seen d) (seen e) seen_left.0)

  pub edit_value : IsValue e
  edit_value = seen_left.1

  pub edit_logs : room olds.names ≤ room news.names → Logs olds news d e
  edit_logs grows = by_result r logged unchanged
    where
      -- what the log's new end has of the edit's place
      roomy_at : (c : Change) → IsEnd P None olds news c → IsRoomy (room news.names) c
      roomy_at c l = rw (l.at, l.from) (l.fits, tt)

      undone_at : (c : Change) → IsEnd P None olds news c → IsMade edit keep c d v e → IsUndone c e d
      undone_at c l m = rw l.from (edit_value.0, (d, where_back edit v d e (tokens_of c.path) c.found (view c.value) (reverses edit v hv) hd.0 m.finds m.makes, refl))

      counted : (c : Change) → IsEnd P None olds news c → IsMade edit keep c d v e → marks e + found_marks c.found (view c.value) ≤ marks d + taken c.found c.from
      counted c l m = rw l.from (edit_counts edit v d e (tokens_of c.path) c.found (view c.value) hv hd.0 m.finds m.makes)

      by_result : (r : Result (Unit {0}) StepFault) → OnOk r ((c : Change) × IsEnd P None olds news c × IsMade edit keep c d v e) → OnErr r ((e ≡ d) × (w ≡ v) × (news.changes.items ≡ olds.changes.items)) → Logs olds news d e
      by_result (Ok x) g same = logs_one olds news g.0 d e grows g.1.ends (roomy_at g.0 g.1) (undone_at g.0 g.1 g.2) (counted g.0 g.1 g.2)
      by_result (Err fault) g same = logs_none olds news d e grows same.2 same.0

  pub edit_keeps : IfOk r (λ x. Keeps keep olds news (block (seen d) (operation_at edit (tokens_of P) v)))
  edit_keeps = by_result r logged
    where
      -- what the log's new end says
      says : (c : Change) → IsEnd P None olds news c → IsMade edit keep c d v e → Keeps keep olds news (block (seen d) (operation_at edit (tokens_of P) v))
      says c l m = λ is. kept_one olds news c (place_undone edit (seen d) (tokens_of P)) None v _ l.ends (rw (is, l.at, l.from) at m.kept)
          (edit_undoes edit v v d e (tokens_of P) c.found (view c.value) (suits edit v hv) hd (rw l.at at m.finds) (rw l.at at m.makes) ∙ ap (λ Q. undo_found Q c.found (view c.value) ∷ []) (sym (place_same edit (seen d) (tokens_of P) v)))

      by_result : (r : Result (Unit {0}) StepFault) → OnOk r ((c : Change) × IsEnd P None olds news c × IsMade edit keep c d v e) → IfOk r (λ x. Keeps keep olds news (block (seen d) (operation_at edit (tokens_of P) v)))
      by_result (Ok x) g = says g.0 g.1 g.2
      by_result (Err fault) g = tt

-- ---- what isn't undone

pub logs_as : (r : Result (Unit {0}) StepFault) (keep : Keep) (olds news : Log) (d e : Data) → Logs olds news d e → LogsAs r keep olds news d e
logs_as (Ok x) Neither olds news d e l = l.tells
logs_as r keep olds news d e l = search rules

pub logs_kept : (r : Result (Unit {0}) StepFault) (keep : Keep) (olds news : Log) (d e : Data) → (keep ≡ Neither → ⊥) → LogsAs r keep olds news d e → Logs olds news d e
logs_kept (Ok x) Neither olds news d e kept l = absurd (kept refl)
logs_kept r keep olds news d e kept l = search rules

pub logs_tell : (r : Result (Unit {0}) StepFault) (keep : Keep) (olds news : Log) (d e : Data) → LogsAs r keep olds news d e → Tells olds news d e
logs_tell (Ok x) Neither olds news d e l = l
logs_tell (Ok x) Inverse olds news d e l = l.tells
logs_tell (Ok x) undo_alone olds news d e l = l.tells
logs_tell (Err fault) keep olds news d e l = l.tells

lasting_suits : (edit : Edit) (v : Data) → IsFor edit v → Suits (lasting edit) v
lasting_suits Insert v h = document_value v h
lasting_suits Swap v h = document_value v h
lasting_suits Take v h = tt
lasting_suits edit v h = absurd h

lasting_seen : (edit : Edit) (v d : Data) (P : Pointer) → seen_where (lasting edit) v d P ≡ seen_where edit v d P
lasting_seen Take v d P = refl
lasting_seen edit v d P = search rules

lasting_puts : (edit : Edit) (v : Data) → IsFor edit v → put_marks (lasting edit) v ≡ 0
lasting_puts Insert v h = document_marks v h
lasting_puts Swap v h = document_marks v h
lasting_puts Take v h = refl
lasting_puts edit v h = absurd h

module _ (r : Result Found StepFault) (edit : Edit) (P : Pointer) (d e v w : Data) (hv : IsFor edit v) (hd : IsValue d) (h : Exchanges r (made_where (lasting edit) v d P) (FindsWhere (lasting edit) d P) d e v w) where
  lasting_left : Attempts r (seen_where edit (seen v) (seen d) P) (seen d) (seen e) × IsValue e
  lasting_left =
      let left = exchange_seen r (lasting edit) v d e w P (lasting_suits edit v hv) hd h in
      (subst (λ o. Attempts r o (seen d) (seen e)) (lasting_seen edit (seen v) (seen d) P) left.0, left.1)

  pub lasting_comes : ComesTo r (after_step (seen d) (operation_at edit P v)) (seen e)
  lasting_comes = subst (λ x. ComesTo r x (seen e)) (step_of edit v (seen d) P hv) (comes_of r _ (seen d) (seen e) lasting_left.0)

  pub lasting_value : IsValue e
  lasting_value = lasting_left.1

pub lasting_tells : (edit : Edit) (found : Found) (P : Pointer) (olds news : Log) (d e v w : Data) → IsFor edit v → IsValue d → Exchanges (Ok found) (made_where (lasting edit) v d P) (FindsWhere (lasting edit) d P) d e v w → room olds.names ≤ room news.names → news.changes.items ≡ olds.changes.items → Tells olds news d e
lasting_tells edit found P olds news d e v w hv hd h grows same =
    let counted : marks e + found_marks found w ≡ marks d + put_marks (lasting edit) v = where_counts (lasting edit) v d e P found w (lasting_suits edit v hv) hd.0 h.1 h.0 in
    let none : put_marks (lasting edit) v ≡ 0 = lasting_puts edit v hv in
    record {
      roomy = λ roomy. rw same (roomy_more _ _ olds.changes.items grows roomy);
      counts = rw same (omega arith);
      longer = rw same (omega arith);
    }

-- ---- a `move`

taken_source : (found : Found) (F : PointerOf) → taken found (Some F) ≡ 1
taken_source Taken F = refl
taken_source found F = search rules

pub moves : {T : Type 0} (r : Result T StepFault) (d m e v : Data) (F P : Pointer) → (IsProperPrefix F P → ⊥) → after_remove d F ≡ Some m → pointee d F ≡ Some v → Attempts r (after_add m P v) m e → ComesTo r (after_step d (move F P)) e
moves r d m e v F P out gone stood h = search (rules, not_begins)

-- what can't be taken from a marked document can't be removed from what is seen of it
pub take_refused : (kind : PatchErrorKind) (d m v w : Data) (F : Pointer) → IsValue d → v ≡ the_mark → Exchanges (Err (Refused kind)) (made_where Take v d F) (FindsWhere Take d F) d m v w → after_remove (seen d) F ≡ None
take_refused kind d m v w F hd same h = (exchange_seen (Err (Refused kind)) Take v d m w F (rw same (tt, refl)) hd h).0.0.1

module _ (d m v : Data) (F : PointerOf) (P : PointerOf) (hd : IsValue d) (t : IsTakenFrom d m (tokens_of F) (tokens_of P) v) where
  left : (after_remove (seen d) (tokens_of F) ≡ Some (seen m)) × IsValue m
  left = taken_seen Take t.mark d m (tokens_of F) tt t.marks hd t.makes

  stood : (pointee (seen d) (tokens_of F) ≡ Some (seen v)) × IsValue v
  stood = found_there Take t.mark d m (tokens_of F) Taken v tt hd t.finds t.makes

  pub source_value : IsValue m
  source_value = left.1

  source_back : made_where (Undo Taken) v m (tokens_of F) ≡ Some d
  source_back = where_back Take t.mark d m (tokens_of F) Taken v tt hd.0 t.finds t.makes

  pub goes_back : (e w : Data) → e ≡ m → w ≡ v → made_where (Undo Taken) w e (tokens_of F) ≡ Some d
  goes_back e w left same = rw (left, same) source_back

  module _ (r : Result (Unit {0}) StepFault) (keep : Keep) (olds news : Log) (e w : Data)
      (logged : OnOk r ((c : Change) × IsEnd P (Some F) olds news c × IsMade Insert keep c m v e)) (refused : IfErr r (λ fault. Excuses fault (made_where Insert v m (tokens_of P))))
      (unchanged : OnErr r ((e ≡ m) × (w ≡ v) × (news.changes.items ≡ olds.changes.items))) where
    put_seen : Attempts r (seen_where Insert (seen v) (seen m) (tokens_of P)) (seen m) (seen e) × IsValue e
    put_seen = attempt_seen r _ _ m e left.1 (where_seen Insert v m (tokens_of P) stood.1 left.1) (edit_left r Insert keep P (Some F) olds news m e v w logged refused unchanged)

    pub move_comes : ComesTo r (after_step (seen d) (move (tokens_of F) (tokens_of P))) (seen e)
    move_comes = moves r (seen d) (seen m) (seen e) (seen v) (tokens_of F) (tokens_of P) t.out left.0 stood.0 put_seen.0

    pub move_value : IsValue e
    move_value = put_seen.1

  module _ (keep : Keep) (olds news : Log) (e : Data) (c : Change) (l : IsEnd P (Some F) olds news c) (put : IsMade Insert keep c m v e) where
    put_there : made_where Insert v m (tokens_of P) ≡ Some e
    put_there = rw l.at at put.makes

    found_in : FindsWhere Insert m (tokens_of P) c.found (view c.value)
    found_in = rw l.at at put.finds

    undone_move : IsUndone c e d
    undone_move =
        rw (l.at, l.from) (
          (move_value (Ok tt) keep olds news e v (c, l, put) tt tt).0,
          (
            m,
            where_back Insert v m e (tokens_of P) c.found (view c.value) stood.1.1 left.1.0 found_in put_there,
            (left.1.0, λ f x out. rw (put_comes_out v m e (tokens_of P) c.found f (view c.value) x stood.1.1 found_in put_there out) source_back),
          ),
        )

    counted_move : marks e + found_marks c.found (view c.value) ≤ marks d + taken c.found (Some F)
    counted_move =
        let sums : marks e + found_marks c.found (view c.value) ≡ marks m + marks v = where_counts Insert v m e (tokens_of P) c.found (view c.value) stood.1 left.1.0 found_in put_there in
        let took : marks m + marks v ≡ marks d + marks t.mark = where_counts Take t.mark d m (tokens_of F) Taken v t.marks hd.0 t.finds t.makes in
        let one : marks t.mark ≡ 1 = one_mark t.mark t.marks.1 in
        let here : taken c.found (Some F) ≡ 1 = taken_source c.found F in
        omega arith

    pub move_logs : room olds.names ≤ room news.names → AreFitting (room news.names) (tokens_of F) → Logs olds news d e
    move_logs grows fits =
        logs_one olds news c d e grows l.ends (rw (l.at, l.from) (l.fits, fits)) undone_move (rw l.from counted_move)

    pub move_keeps : Keeps keep olds news (block (seen d) (move (tokens_of F) (tokens_of P)))
    move_keeps = λ is. kept_one olds news c (path_of (undo_add (seen m) (tokens_of P))) (Some F) v _ l.ends (rw (is, l.at, l.from) at put.kept)
        (move_undoes Take t.mark d m (tokens_of F) (tokens_of P) Taken c.found v (view c.value) tt t.marks hd t.finds t.makes found_in)
