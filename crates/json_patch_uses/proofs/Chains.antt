-- Merge patches one after another.
use Rattle.std.proofs.Common.{◌≡◌, ◌+◌, ◌<◌, ℕ, List, [], ◌∷◌, ◌++◌, None, ap, sym, subst, ◌∙◌, map, take, length}
use Rattle.std.proofs.Common.{get_or, refl}
use Rattle.std.proofs.lemmas.List.{map-append, take_more}
use Rattle.serde_json.specs.Data.{Data}
use Rattle.serde_json.specs.Find.{get}
use Rattle.serde_json.specs.View.{view}
use Rattle.serde_json.specs.declared.value.Value.{Value}
use Rattle.json_patch.specs.Document.{sight_of}
use Rattle.json_patch.specs.Sight.{Sight}
use Rattle.json_patch.specs.Merged.{IsMerged}
use Rattle.json_patch_uses.specs.Layers.{AreMerged, LeavesOut}

one_more : (d : Data) (ps : List Data) (m p e : Data) → AreMerged d ps m → IsMerged m p e → AreMerged d (ps ++ p ∷ []) e
one_more d [] m p e h s = (e, rw h s, refl)
one_more d (q ∷ ps) m p e h s = (h.0, h.1, one_more h.0 ps m p e h.2 s)

pub layer_on_top : (d : Data) (ls : List Value) (i : ℕ) (x : Value) (m e : Data) → i < length ls → AreMerged d (map view (take i ls)) m → x ≡ get_or ls i x → IsMerged m (view x) e
    → AreMerged d (map view (take (i + 1) ls)) e
layer_on_top d ls i x m e lt so is merged =
    subst (λ qs. AreMerged d qs e) (sym (ap (map view) (take_more ls i x lt) ∙ map-append view (take i ls) (get_or ls i x ∷ [])))
    (one_more d (map view (take i ls)) m (view (get_or ls i x)) e so (subst (λ y. IsMerged m (view y) e) is merged))

abbrev pub Law : Type 0
Law = (d p e : Data) (k : List ℕ) → sight_of p ≡ Sight.object → IsMerged d p e → get k p ≡ None → get k e ≡ get k d

pub stays : Law → (k : List ℕ) (ls : List Value) (d e : Data) → AreMerged d (map view ls) e → LeavesOut k ls → get k e ≡ get k d
stays law k [] d e m out = ap (get k) (sym m)
stays law k (v ∷ vs) d e m out = stays law k vs m.0 e m.2 out.2 ∙ law d (view v) m.0 k out.0 m.1 out.1
