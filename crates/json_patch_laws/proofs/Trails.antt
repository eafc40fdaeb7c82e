-- What a trail says of its first patch, and of all.
use Rattle.json_patch_laws.proofs.Common.{◌≡◌, List, [], ◌∷◌, Ok, Err, refl, sym, ◌∙◌, subst, Data, IsDocument}
use Rattle.json_patch_laws.proofs.Common.{AreWhole, IsAccepted, after_run, Outcome}
use Rattle.json_patch_operation.specs.Operation.{operations_of}
use Rattle.json_patch_laws.specs.Trails.{AreEachWhole, IfEnds, IsTrail, LeadsTo}
use Rattle.json_patch_operation.specs.declared.operation.Patch.{Patch}
use Rattle.json_patch_laws.proofs.Blocks.{run_accepted}
use Rattle.json_patch_laws.proofs.Runs.{accepted, accepts_document}

-- the first patch is accepted, and the rest is a trail from its end
abbrev Begins : Data → Patch → List Patch → Type 0
Begins d p ps = (e : Data) × IsAccepted d (operations_of p) e × IsDocument e × IsTrail e ps

begins_with : (d : Data) (p : Patch) (ps : List Patch) (o : Outcome) → after_run d (operations_of p) ≡ o → IsDocument d → AreWhole (operations_of p) → IfEnds o (λ e. IsTrail e ps) → Begins d p ps
begins_with d p ps (Ok e) is hd w h =
    let a : IsAccepted d (operations_of p) e = accepted d (operations_of p) hd w e is in
    (e, a, accepts_document d (operations_of p) e hd w a.accepts, h)
begins_with d p ps (Err f) is hd w h = absurd h

pub trail_begins : (d : Data) (p : Patch) (ps : List Patch) → IsDocument d → IsTrail d (p ∷ ps) → Begins d p ps
trail_begins d p ps hd h = begins_with d p ps (after_run d (operations_of p)) refl hd h.0 h.1

pub trail_grows : (d e : Data) (p : Patch) (ps : List Patch) → IsDocument e → AreWhole (operations_of p) → IsAccepted e (operations_of p) d → IsTrail d ps → IsTrail e (p ∷ ps)
trail_grows d e p ps he w a h =
    (w, subst (λ o. IfEnds o (λ x. IsTrail x ps)) (sym ((run_accepted e (operations_of p) he w d).0 a.accepts)) h)

pub trail_leads : (d : Data) (ps : List Patch) → IsDocument d → IsTrail d ps → (e : Data) × LeadsTo d ps e
trail_leads d [] hd h = (d, refl)
trail_leads d (p ∷ ps) hd h =
    let b : Begins d p ps = trail_begins d p ps hd h in
    let l : (e : Data) × LeadsTo b.0 ps e = trail_leads b.0 ps b.2 b.3 in (l.0, (b.0, b.1, l.1))

pub leads_to_one : (d : Data) (ps : List Patch) (e f : Data) → LeadsTo d ps e → LeadsTo d ps f → f ≡ e
leads_to_one d [] e f h g = sym g ∙ h
leads_to_one d (p ∷ ps) e f h g = leads_to_one h.0 ps e f h.2 (subst (λ m. LeadsTo m ps f) (h.1.end g.0 g.1.accepts) g.2)

rest_whole : (ps : List Patch) (o : Outcome) → ((e : Data) → IsTrail e ps → AreEachWhole ps) → IfEnds o (λ e. IsTrail e ps) → AreEachWhole ps
rest_whole ps (Ok e) whole h = whole e h
rest_whole ps (Err f) whole h = absurd h

pub each_whole : (d : Data) (ps : List Patch) → IsTrail d ps → AreEachWhole ps
each_whole d [] h = tt
each_whole d (p ∷ ps) h = (h.0, rest_whole ps (after_run d (operations_of p)) (λ e. each_whole e ps) h.1)
