-- The versions of a text, and what applying, undoing and redoing make of them. Of a version counts what it says.
use Rattle.std.specs.Prelude.{◌≡◌, ◌≤◌, ℕ, List, [], ◌∷◌, map, string_bytes, take, ⊤}
use Rattle.json.specs.Json.{max_depth}
use Rattle.json_diff_text.specs.Differences.{SaySame}
use Rattle.json_lexemes.specs.Skipped.{nesting}
use Rattle.json_patch_limits.specs.declared.limits.Limits.{Limits}
use Rattle.json_patch_text.specs.Patched.{AcceptsPatch}
use Rattle.json_patch_text.specs.WayBack.{IsRecordLimitFault}
use Rattle.json_patch_text.specs.declared.fault.PatchTextFault.TheVariants.{Document, Patch, Unreadable, Refused, TooDeep, Memory}
use Rattle.json_patch_text.specs.declared.fault.TextLimitFault.{TextLimitFault}
use Rattle.json_patch_text.specs.declared.fault.TextLimitFault.TheVariants as within
use Rattle.json_patch_uses.specs.declared.text_editor.TextEditor.{TextEditor}

-- the version here, those before it and those after it, the nearest first, and how many may stand before it
pub record TextVersions : Type 0 where
  pub before : List (List ℕ)
  pub here : List ℕ
  pub after : List (List ℕ)
  pub depth : ℕ

abbrev pub initial : ℕ → List ℕ → TextVersions
initial depth t = record { before = []; here = t; after = []; depth = depth }

-- what follows is cut, u is added, and the first is dropped where more than `depth` stand before it
abbrev pub after_apply : List ℕ → TextVersions → TextVersions
after_apply u vs = record { before = take vs.depth (vs.here ∷ vs.before); here = u; after = []; depth = vs.depth }

abbrev pub back_to : List (List ℕ) → TextVersions → TextVersions
back_to [] vs = vs
back_to (t ∷ ts) vs = record { before = ts; here = t; after = vs.here ∷ vs.after; depth = vs.depth }

abbrev pub on_to : List (List ℕ) → TextVersions → TextVersions
on_to [] vs = vs
on_to (t ∷ ts) vs = record { before = vs.here ∷ vs.before; here = t; after = ts; depth = vs.depth }

-- one version back, if one stands before, and one on, if one stands after
abbrev pub after_undo : TextVersions → TextVersions
after_undo vs = back_to vs.before vs

abbrev pub after_redo : TextVersions → TextVersions
after_redo vs = on_to vs.after vs

-- ---- what an editor holds

-- the text, the limits of its changes, the patches that lead back and those that lead on, the nearest first, and how many may lead back
pub record Held : Type 0 where
  pub text : List ℕ
  pub limits : Limits
  pub undos : List (List ℕ)
  pub redos : List (List ℕ)
  pub depth : ℕ

abbrev pub held : TextEditor → Held
held x = record { text = x.kept.text; limits = x.kept.limits; undos = map string_bytes x.undos.items; redos = map string_bytes x.redos.items; depth = x.depth }

-- the patch can be read, and leads from the one text to the other, whatever their numbers are read as
abbrev pub IsStep : List ℕ → List ℕ → List ℕ → Type 0
IsStep t patch u = AcceptsPatch t patch u × (nesting patch ≤ max_depth)

-- the patches lead from a text to these, one after another
abbrev pub LeadAlong : List ℕ → List (List ℕ) → List (List ℕ) → Type 0
LeadAlong t [] [] = ⊤
LeadAlong t (p ∷ ps) (u ∷ us) = IsStep t p u × LeadAlong u ps us
LeadAlong t ps us = ⊥

-- the text says what the version here says; the undos lead to the versions before, and the redos to those after
pub record HasVersions (h : Held) (vs : TextVersions) : Type 0 where
  pub here : SaySame h.text vs.here
  pub before : LeadAlong vs.here h.undos vs.before
  pub after : LeadAlong vs.here h.redos vs.after
  pub depth : h.depth ≡ vs.depth

-- why the patch isn't run, though it leads from the text: a text on the way is over the limits, or no memory was found
abbrev pub IsHeldUp : Held → List ℕ → TextLimitFault → Type 0
IsHeldUp h patch (within.Over e) = IsRecordLimitFault h.limits h.text patch (within.Over e)
IsHeldUp h patch (within.Patch (Document f)) = ⊥
IsHeldUp h patch (within.Patch (Patch f)) = ⊥
IsHeldUp h patch (within.Patch (Unreadable e)) = ⊥
IsHeldUp h patch (within.Patch (Refused e)) = ⊥
IsHeldUp h patch (within.Patch (TooDeep k)) = ⊥
IsHeldUp h patch (within.Patch (Memory m)) = ⊤

-- the same for the first of the patches
abbrev pub IsFirstHeldUp : Held → List (List ℕ) → TextLimitFault → Type 0
IsFirstHeldUp h [] f = ⊥
IsFirstHeldUp h (p ∷ ps) f = IsHeldUp h p f
