-- A patched text and what takes the patch back, from what a run leaves.
use Rattle.std.proofs.Common.{◌≡◌, ◌≤◌, ◌+◌, ℕ, List, [], ◌∷◌, length, map, true, Option, Some, None, string_bytes, refl, sym, ap, ◌∙◌, subst, arith}
use Rattle.json.specs.Json.{Json, null, boolean, number, string, array, object, max_depth}
use Rattle.json.specs.Lex.{lex}
use Rattle.json_lexemes.specs.Skipped.{nesting}
use Rattle.json_lexemes.specs.Spelled.{IsShallowText, Says, spelled}
use Rattle.json_lexemes.proofs.Nests.{nests}
use Rattle.json_patch_limits.specs.declared.limits.Limits.{Limits}
use Rattle.json_patch_text.specs.Bounded.{AreRecordedUnder, AreShort, IsLoggedUnder, IsUnder, most_of}
use Rattle.json_patch_text.specs.Operations.{TreeOperation}
use Rattle.json_patch_text.specs.Patched.{AcceptsPatch, HasTexts}
use Rattle.json_patch_text.specs.WayBack.{IsRecorded, IsRecordedWithin, IsUndoWithin}
use Rattle.json_patch_text.specs.Within.{most_bytes}
use Rattle.json_patch_text.specs.Run.{AcceptsText}
use Rattle.json_patch_text.specs.TextOperations.{AreWrittenAs}
use Rattle.json_patch_text.specs.Undos.{AreTakenFrom, backward_text, undo_list}
use Rattle.json_patch_text.specs.declared.bounds.Bounds.{Bounds}
use Rattle.json_patch_text.specs.declared.log.Log.{Log}
use Rattle.json_patch_text.specs.declared.operation.TextOperation.{TextOperation}
use Rattle.json_patch_text.specs.declared.undo.Undo.{Undo}
use Rattle.json_patch_text.proofs.Inverses.{back_is_plain, back_is_short, leads_back}
use Rattle.json_patch_text.proofs.UndoTexts.{undo_nests, undo_says_operations}
use Rattle.json_patch_text.proofs.Undoing.{IsLowText, back_found}

pub low_text : (n : ℕ) (t : List ℕ) → nesting t ≤ n → IsLowText n t
low_text n t h i said = let same = nests t i said in omega (arith, same, h)

pub recorded_text : (Fits : List ℕ → Type 0) (n : ℕ) (text patch new : List ℕ) (os : List TextOperation) (us : List Undo) (m : ℕ) → ((t : List ℕ) → Fits t → nesting t ≤ max_depth → IsLowText n t) → HasTexts patch os → AreTakenFrom Fits text os new us m
    → ((ops : List TreeOperation) → AreWrittenAs os ops → AcceptsText text ops new) → IsRecorded text patch new (undo_list us) × (nesting (undo_list us) ≤ 2 + n)
recorded_text Fits n text patch new os us m low (ops, says, w, in_patch) taken accepted =
    let (i, j, said, new_said, accepts) = accepted ops w in
    let b = back_found Fits n os ops text new us i j m low taken w said accepts in (
      record {
        i = i;
        j = j;
        ops = ops;
        back = b.back;
        says = (said, new_said);
        patched = (says, accepts);
        inverse = (undo_says_operations us b.back b.said, b.inverse);
        leads_back = leads_back i j ops b.back accepts b.inverse;
        short = back_is_short i j ops b.back accepts b.inverse;
        plain = back_is_plain i j ops b.back accepts b.inverse;
      },
      undo_nests n us b.back b.said b.low,
    )

pub leads : (text patch new undo : List ℕ) → IsRecorded text patch new undo → AcceptsPatch new undo text
leads text patch new undo r = (r.back, r.inverse.0, (r.j, r.i, r.says.1, r.says.0, r.leads_back))

-- ---- from a run that keeps what takes it back

pub undo_kept : (b : Option Bounds) (text new undo : List ℕ) (os : List TextOperation) (old log : Log) → old.kept ≡ true → (log.kept ≡ old.kept) × IsLoggedUnder b text os new log → undo ≡ backward_text (map string_bytes log.texts.items)
    → (us : List Undo) × AreRecordedUnder b text os new us log.cost × (undo ≡ undo_list us)
undo_kept b text new undo os old log on (same, logged) is = let (us, has, recorded) = logged (same ∙ on) in (us, recorded, is ∙ ap backward_text has.0)

pub recorded_all : (text patch new undo : List ℕ) (os : List TextOperation) (n : ℕ) → HasTexts patch os → ((ops : List TreeOperation) → AreWrittenAs os ops → AcceptsText text ops new) → (us : List Undo) × AreRecordedUnder None text os new us n × (undo ≡ undo_list us)
    → IsRecorded text patch new undo × (nesting undo ≤ 2 + max_depth)
recorded_all text patch new undo os n h accepted (us, (taken, short), is) =
    subst (λ l. IsRecorded text patch new l × (nesting l ≤ 2 + max_depth)) (sym is) (recorded_text (IsUnder None) max_depth text patch new os us n (λ t fits low. low_text max_depth t low) h taken accepted)

pub recorded_within : (b : Bounds) (text patch new undo : List ℕ) (os : List TextOperation) (n : ℕ) → HasTexts patch os → ((ops : List TreeOperation) → AreWrittenAs os ops → AcceptsText text ops new) → (us : List Undo) × AreRecordedUnder (Some b) text os new us n × (undo ≡ undo_list us)
    → IsRecorded text patch new undo × IsUndoWithin b.limits (most_of b) undo
recorded_within b text patch new undo os n h accepted (us, (taken, short), is) =
    let (recorded, low) = recorded_text (IsUnder (Some b)) b.limits.depth text patch new os us n (λ t fits low. low_text b.limits.depth t fits.0) h taken accepted in
    subst (λ l. IsRecorded text patch new l × IsUndoWithin b.limits (most_of b) l) (sym is) (recorded, (low, short.0))

-- ---- the shortest undo

some_spelled : (j : Json) → spelled j ≡ [] → ⊥
some_spelled null e = cc
some_spelled (boolean b) e = cc
some_spelled (number s) e = cc
some_spelled (string s) e = cc
some_spelled (array js) e = cc
some_spelled (object ms) e = cc

nothing_said : (j : Json) → Says [] j → ⊥
unfolding lex
nothing_said j e = some_spelled j (sym e)

some_text : (text : List ℕ) (j : Json) → Says text j → 1 ≤ length text
some_text [] j said = absurd (nothing_said j said)
some_text (x ∷ text) j said = omega arith

-- texts of a document and a patch are long enough for it
pub none_short : (b : Bounds) (text patch : List ℕ) (i p : Json) → Says text i → Says patch p → b.document ≡ length text → b.patch ≡ length patch → AreShort (Some b) [] 0
none_short b text patch i p said patch_said d e =
    let one = some_text text i said in
    let two = some_text patch p patch_said in
    let bare : length (undo_list []) ≡ 2 = refl in
    (omega (arith, one, two, d, e, bare), omega arith)

abbrev pub bounds_of : Limits → List ℕ → List ℕ → Bounds
bounds_of l text patch = record { limits = l; document = length text; patch = length patch }

-- where a run within limits begins
pub record_starts : (l : Limits) (text patch t : List ℕ) (os : List TextOperation) (A : Type 0) → t ≡ text → nesting text ≤ l.depth → (j : Json) × IsShallowText t j → HasTexts patch os → IsUnder (Some (bounds_of l text patch)) t × (A → AreShort (Some (bounds_of l text patch)) [] 0)
record_starts l text patch t os A e low (i, shallow) (ops, (p, patch_said, reads), w, in_patch) =
    let same : length t ≡ length text = ap length e in
    let most : most_of (bounds_of l text patch) ≡ length text + (length patch + l.copied) = refl in
    ((subst (λ x. nesting x ≤ l.depth) (sym e) low, omega (arith, same, most)), λ a. none_short (bounds_of l text patch) text patch i p (subst (λ x. Says x i) e shallow.0) patch_said refl refl)

-- all that is promised of a run within limits that keeps what takes it back
pub recorded_run : (l : Limits) (text patch new undo : List ℕ) (os : List TextOperation) (n : ℕ) → HasTexts patch os → ((ops : List TreeOperation) → AreWrittenAs os ops → AcceptsText text ops new)
    → (us : List Undo) × AreRecordedUnder (Some (bounds_of l text patch)) text os new us n × (undo ≡ undo_list us)
    → IsRecorded text patch new undo × AcceptsPatch new undo text × IsRecordedWithin l text patch new undo × IsUndoWithin l (most_bytes l text patch) undo
recorded_run l text patch new undo os n h accepted (us, kept, is) =
    let (recorded, low) = recorded_within (bounds_of l text patch) text patch new undo os n h accepted (us, kept, is) in
    (recorded, leads text patch new undo recorded, (os, us, n, h, (kept.0, kept.1.0, kept.1.1), is), low)
