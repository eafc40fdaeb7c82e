-- The walk that composes two merge patches, and what the call promises.
use Rattle.json_patch_merge.proofs.Common.{◌≡◌, ◌≢◌, ◌↔◌, ℕ, List, ◌∷◌, Option, Some, None, refl, ap, ◌∙◌, String, Global, BTreeMap}
use Rattle.json_patch_merge.proofs.Common.{Data, Members, object, get_member, view, members_view, Value, Object, view-Object, IsDocument, sight_of, Sight}
use Rattle.std.proofs.Common.{IfSome}
use Rattle.json_merge_diff.specs.Leads.{DoesBoth, Resets, under}
use Rattle.json_merge_diff.specs.Least.{seen}
use Rattle.json_merge_diff.specs.Composed.{IsComposed, IsComposedMember, AreComposed, IsComposedAt, IsComposedOrNone, replaces, by_key, second, both}
use Rattle.json_merge_diff.proofs.Composing.{does}
use Rattle.json_merge_diff.proofs.Resetting.{never}

pub composed_other : (p q r : Data) → sight_of q ≢ Sight.object → r ≡ q → IsDocument q → IsComposed p q r × IsDocument r
composed_other p q r other is h = rw is (replaces other, h)

pub composed_objects : (one then r : Value) (ps qs rs : BTreeMap (String Global) Value) → one ≡ Object ps → then ≡ Object qs → r ≡ Object rs → AreComposed (members_view ps.entries) (members_view qs.entries) (Some rs) → IsComposed (view one) (view then) (view r) × IsDocument (view r)
composed_objects one then r ps qs rs a b c h = rw (a, b, c, view-Object ps, view-Object qs, view-Object rs) (by_key refl refl refl h.1, h.0)

pub resets_objects : (one then : Value) (ps qs : BTreeMap (String Global) Value) → one ≡ Object ps → then ≡ Object qs → AreComposed (members_view ps.entries) (members_view qs.entries) None → Resets (view one) (view then)
resets_objects one then ps qs a b h = rw (a, b, view-Object ps, view-Object qs) h

pub resets_below : (t : List ℕ) (ms ns : Members) (was : Option Data) (e : Data) → was ≡ get_member t ms → get_member t ns ≡ Some e → IsComposedAt was e None → Resets (object ms) (object ns)
resets_below t ms ns None e found next h = absurd h
resets_below t ms ns (Some p) e found next h =
    (t ∷ h.0, ap (λ o. seen o (under h.0)) next ∙ h.1, λ x. h.2 (ap (λ o. seen o (under h.0)) found ∙ x), λ x. h.3 (ap (λ o. seen o (under h.0)) found ∙ x))

pub composed_at : (was at goal : Option Data) (e : Data) (v : Value) → goal ≡ Some e → was ≡ at → IsComposedAt was e (Some v) → IsComposedMember at goal (Some (view v)) × IsDocument (view v)
composed_at None at goal e v found is h = rw (found, ← is, h.0) (second, h.1)
composed_at (Some p) at goal e v found is h = rw (found, ← is) (both h.0, h.1)

-- ---- what the call promises

pub it_does : (p q : Data) (o : Option Value) → IsComposedOrNone p q o → IfSome o (λ r. DoesBoth p q (view r))
it_does p q None h = tt
it_does p q (Some r) h = λ d c e hd hc he. does h.0

pub it_is_composed : (p q : Data) (o : Option Value) → IsComposedOrNone p q o → IfSome o (λ r. IsComposed p q (view r))
it_is_composed p q None h = tt
it_is_composed p q (Some r) h = h.0

pub it_never_does : (p q : Data) (o : Option Value) → IsDocument p → IsDocument q → IsComposedOrNone p q o → o ≡ None → (r : Data) → IsDocument r → DoesBoth p q r → ⊥
it_never_does p q None hp hq h is r hr = never h.0 p q r hp hq hr h.1 h.2 h.3
it_never_does p q (Some x) hp hq h is r hr = cc

pub it_resets : (p q : Data) (o : Option Value) → IsDocument p → IsDocument q → IsComposedOrNone p q o → (o ≡ None) ↔ Resets p q
it_resets p q None hp hq h = (λ is. h, λ w. refl)
it_resets p q (Some r) hp hq h = (λ is. cc, λ w. absurd (never w.0 p q (view r) hp hq h.1 w.1 w.2 w.3 (λ d c e hd hc he. does h.0)))
