-- What takes changes back, to a mark, and from there to the one before.
use Rattle.std.specs.Prelude.{◌≡◌, ◌<◌, List, [], ◌∷◌, ◌++◌, Bool, true, false, None, Option, Some, Vec, vec_capacity, vec_len, ⊤}
use Rattle.std.specs.declared.alloc.Global.{Global}
use Rattle.json_pieces.specs.Backs.{LogLeads, PutsWhole}
use Rattle.json_pieces.specs.Held.{Held}
use Rattle.json_pieces.specs.declared.back.Back.{Back}
use Rattle.json_pieces.specs.declared.back.Change.{Change}
use Rattle.json_pieces.specs.declared.back.Level.{Level}
use Rattle.json_pieces.specs.declared.log.Log.{Log}
use Rattle.json_pieces.specs.declared.log.Log.TheVariants.{Off, On}

abbrev pub is_on : Log → Bool
is_on Off = false
is_on (On cs es) = true

-- there is a mark, and taking the changes since it back makes p of t
abbrev pub Leads : Log → Held → Held → Type 0
Leads Off t p = ⊥
Leads (On cs es) t p = LogLeads cs.items t p

-- so do these changes, if there are any
abbrev pub LeadsOn : Option (Vec Change Global) → Held → Held → Type 0
LeadsOn None p q = ⊥
LeadsOn (Some es) p q = LogLeads es.items p q

-- and there is one before it, back to which q is made
abbrev pub LeadsTwice : Log → Held → Held → Type 0
LeadsTwice Off t q = ⊥
LeadsTwice (On cs es) t q = (p : Held) × LogLeads cs.items t p × LeadsOn es p q

abbrev pub CanLeadOn : Option (Vec Change Global) → (Held → Type 0) → Held → Type 0
CanLeadOn None P p = ⊤
CanLeadOn (Some es) P p = (q : Held) × LogLeads es.items p q × P q

-- at each mark that there is something is made of t of which P holds
abbrev pub CanLead : Log → (Held → Type 0) → Held → Type 0
CanLead Off P t = ⊤
CanLead (On cs es) P t = (p : Held) × LogLeads cs.items t p × P p × CanLeadOn es P p

-- there is a mark, and no change since; before it stand those since the last one
abbrev pub IsMarked : Log → Log → Type 0
IsMarked old Off = ⊥
IsMarked Off (On cs es) = (cs.items ≡ []) × (es ≡ None)
IsMarked (On ds fs) (On cs es) = (cs.items ≡ []) × (es ≡ Some ds)

-- whatever the whole is, taking back begins by putting a value in its place
abbrev pub StartsOver : Log → Type 0
StartsOver Off = ⊥
StartsOver (On cs es) = (ds : List Change) × ((c : Change) × ((cs.items ≡ ds ++ c ∷ []) × PutsWhole c))

abbrev pub IsSameLog : Log → Log → Type 0
IsSameLog Off Off = ⊤
IsSameLog Off (On ds fs) = ⊥
IsSameLog (On cs es) Off = ⊥
IsSameLog (On cs es) (On ds fs) = (ds.items ≡ cs.items) × (fs ≡ es)

-- if there is a mark, there is room for a change more
abbrev pub HasRoom : Log → Type 0
HasRoom Off = ⊤
HasRoom (On cs es) = vec_len cs < vec_capacity cs

pub record IsKept (old : List Change) (place : List Level) (steps : List Back) (new : List Change) : Type 0 where
  pub change : Change
  pub place_is : change.place.items ≡ place
  pub steps_are : change.steps.items ≡ steps
  pub kept : new ≡ old ++ change ∷ []

-- if there is a mark, a change at this place is kept by these steps back, if there are any
abbrev pub IsMore : Log → List Level → List Back → Log → Type 0
IsMore Off place steps new = new ≡ Off
IsMore (On cs es) place steps Off = ⊥
IsMore (On cs es) place [] (On ds fs) = (ds.items ≡ cs.items) × (fs ≡ es)
IsMore (On cs es) place (b ∷ bs) (On ds fs) = IsKept cs.items place (b ∷ bs) ds.items × (fs ≡ es)

-- the mark before is the last one
abbrev pub earlier_log : Option (Vec Change Global) → Log
earlier_log None = Off
earlier_log (Some es) = On es None

-- of t is made u; without a mark they are the same
abbrev pub IsTakenBack : Log → Held → Log → Held → Type 0
IsTakenBack Off t new u = (new ≡ Off) × (u ≡ t)
IsTakenBack (On cs es) t new u = (new ≡ earlier_log es) × ((p : Held) → LogLeads cs.items t p → u ≡ p)
