-- What a document's handle and its parts own at their machine values. Assumes `Logic`.
use Rattle.std.proofs.Common.{◌≡◌, List, [], ◌∷◌, ◌++◌, refl, subst}
use mir.Syntax.{impl, tnil, dnil}
use mir.Val.{Val, vstruct, vcons, vnil, of_list}
use seplogic.Ra.Ura.{Ura}
use types.Logic.{Logic}
use types.Kit.{Item, Goal, Seq, Step, step, ‵, ◌$◌, drop, fsplit, fjoin, fpick, fpack, feq_i, feq_l}
use denote.RattleType.{RattleType, Valss}
use denote.RawPtr.{Ptr, RawPtr, ptr_val}
use denote.Steps.{nothing}
use denote.Struct.Struct.{within}
use denote.Struct.Owning.{shape}
use Rattle.std.specs.Prelude.{Option}
use Rattle.std.proofs.BoxSteps.Form.{Bx}
use Rattle.std.specs.contracts.alloc.Global as Heap
use Rattle.std.specs.contracts.impls.GlobalAllocator.TheImpl.{ghosts, dict}
use Rattle.std.proofs.alloc.Global.TheLaws as heap
use Rattle.json_patch_c.specs.declared.kept.Kept.{Kept}
use Rattle.json_patch_c.specs.contracts.kept.Kept as J
use Rattle.json_patch_c.proofs.kept.Kept.TheLaws as j
use Rattle.json_patch_c.specs.Documents.{owned}
use Rattle.json_patch_c.specs.contracts.parts.Parts as Parts
use Rattle.json_patch_c.specs.contracts.document.Document as Doc

abbrev pub E : Bx
E = record { row = J.the_row; laws = j.the_row_laws; al = record { row = Heap.the_row; laws = heap.the_row_laws; g = ghosts; d = dict; drops = impl [] tnil dnil } }

abbrev pub P : RattleType
P = Parts.the_row J.the_row Heap.the_row ghosts

abbrev pub D : RattleType
D = Doc.the_row

abbrev pub word : Ptr → Val
word p = vstruct (vcons (ptr_val p) vnil)

module _ {M : Type 1} {𝓤 : Ura M} {𝓛 : Logic 𝓤} {K : Type 0} {Γ : List (Item 𝓤)} {G : Goal 𝓤 𝓛.H} where
  pub doc_out : K → (d : D.Denot) (vs : List Val) → (vs ≡ word d.at ∷ [] → Seq K 𝓛 (‵ (owned J.the_row d.at d.held) ∷ Γ) G) → Seq K 𝓛 (‵ (D.own_val d vs) ∷ Γ) G
  doc_out t d vs k =
      fsplit t $ fpick t (λ vss. fsplit t $ feq_l t (λ ev. fsplit t $ feq_l t (λ ep. drop t $ k (subst (λ (ps : List Val). vs ≡ vstruct (of_list (ps ++ [])) ∷ []) ep ev))))

  pub doc_in : K → (p : Ptr) (h : Option Kept) → Step K 𝓛 (‵ (D.own_val (record { at = p; held = h }) (word p ∷ [])) ∷ Γ) G (‵ (owned J.the_row p h) ∷ Γ) G
  doc_in t p h = step (λ s. nothing t $ feq_i t (List Val) (ptr_val p ∷ []) (ptr_val p ∷ []) refl $ fjoin t $ feq_i t (List Val) (word p ∷ []) (word p ∷ []) refl $ fjoin t $
      fpack t (Valss (RawPtr ∷ [])) (within (shape Doc.the_type) (p, tt) (word p ∷ [])) (ptr_val p ∷ [], tt) $ fjoin t $ s)
