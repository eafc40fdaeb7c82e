-- What takes changes back, since a mark.
use Rattle.std.proofs.Common.{◌≡◌, ◌+◌, ◌-◌, ◌≤◌, ◌<◌, ◌^◌, ℕ, zero, suc, true, false, List, [], ◌∷◌, ◌++◌, Vec, Global, length, length-append, refl, sym, ap, ◌∙◌, subst, arith}
use Rattle.std.specs.Bool.{◌==◌}
use Rattle.std.specs.Prelude.{None, Option, Some, slice_get, vec_len, ⊤}
use Rattle.std.proofs.lemmas.Bool.{true≢false}
use Rattle.std.proofs.lemmas.Option.{none-some, same_Some}
use Rattle.json_pieces.specs.Backs.{IsBackAt, LogLeads, PutsWhole}
use Rattle.json_pieces.specs.Finer.{IsOpenedFrom}
use Rattle.json_pieces.specs.Held.{Held}
use Rattle.json_pieces.specs.Logged.{IsLed}
use Rattle.json_pieces.specs.Logs.{CanLead, CanLeadOn, IsMarked, IsMore, IsSameLog, IsTakenBack, Leads, LeadsOn, LeadsTwice, StartsOver, is_on}
use Rattle.json_pieces.specs.Nodes.{tree_of, tree_text}
use Rattle.json_pieces.specs.Whole.{IsFit}
use Rattle.json_pieces.specs.declared.back.Back.{Back}
use Rattle.json_pieces.specs.declared.back.Change.{Change}
use Rattle.json_pieces.specs.declared.back.Level.{Level}
use Rattle.json_pieces.specs.declared.log.Log.{Log}
use Rattle.json_pieces.specs.declared.log.Log.TheVariants.{Off, On}
use Rattle.json_pieces.specs.declared.text.Text.{Text}
use Rattle.json_pieces.specs.Names.{text_bytes}
use Rattle.json_pieces.proofs.Backs.{anywhere, log_popped, log_pushed}
use Rattle.json_pieces.proofs.Finer.{finer_back}
use Rattle.json_pieces.proofs.Opened.{opened_text, opened_whole}

not_none : (n : ℕ) → (n == 0) ≡ false → 0 < n
not_none zero e = absurd (true≢false e)
not_none (suc n) e = omega arith

pub more_kept : (old : Log) (cs ds : Vec Change Global) (es : Option (Vec Change Global)) (w : Change) → old ≡ On cs es → (vec_len w.steps == 0) ≡ false → ds.items ≡ cs.items ++ w ∷ [] → IsMore old w.place.items w.steps.items (On ds es)
more_kept old cs ds es w e some is = subst (λ l. IsMore l w.place.items w.steps.items (On ds es)) (sym e) (by_steps w.steps.items refl (not_none (vec_len w.steps) some))
  where
    by_steps : (bs : List Back) → w.steps.items ≡ bs → 0 < vec_len w.steps → IsMore (On cs es) w.place.items bs (On ds es)
    by_steps [] f g = absurd (omega (arith, g, ap length f))
    by_steps (b ∷ bs) f g = (record { change = w; place_is = refl; steps_are = f; kept = is }, refl)

-- ---- the same log

pub same_leads : (l m : Log) (t p : Held) → IsSameLog l m → Leads l t p → Leads m t p
same_leads Off m t p e h = absurd h
same_leads (On cs es) Off t p e h = absurd e
same_leads (On cs es) (On ds fs) t p e h = subst (λ x. LogLeads x t p) (sym e.0) h

pub same_twice : (l m : Log) (t q : Held) → IsSameLog l m → LeadsTwice l t q → LeadsTwice m t q
same_twice Off m t q e h = absurd h
same_twice (On cs es) Off t q e h = absurd e
same_twice (On cs es) (On ds fs) t q e h = (h.0, subst (λ x. LogLeads x t h.0) (sym e.0) h.1, subst (λ x. LeadsOn x h.0 q) (sym e.1) h.2)

pub same_can : (l m : Log) (P : Held → Type 0) (t : Held) → IsSameLog l m → CanLead l P t → CanLead m P t
same_can Off Off P t e h = tt
same_can Off (On ds fs) P t e h = absurd e
same_can (On cs es) Off P t e h = absurd e
same_can (On cs es) (On ds fs) P t e h = (h.0, subst (λ x. LogLeads x t h.0) (sym e.0) h.1, h.2, subst (λ x. CanLeadOn x P h.0) (sym e.1) h.3)

-- ---- more opened

finer_on : (es : Option (Vec Change Global)) (p q r : Held) → IsOpenedFrom p q → LeadsOn es p r → (s : Held) × LeadsOn es q s × IsOpenedFrom r s
finer_on None p q r f h = absurd h
finer_on (Some es) p q r f h = finer_back es.items p r q h f

finer_can_on : (es : Option (Vec Change Global)) (P : Held → Type 0) (p q : Held) → ((a b : Held) → IsOpenedFrom a b → P a → P b) → IsOpenedFrom p q → CanLeadOn es P p → CanLeadOn es P q
finer_can_on None P p q stays f h = tt
finer_can_on (Some es) P p q stays f h =
    let b = finer_back es.items p h.0 q h.1 f in
    (b.0, b.1, stays h.0 b.0 b.2 h.2)

pub finer_leads : (l : Log) (t u p : Held) → IsOpenedFrom t u → Leads l t p → (q : Held) × Leads l u q × IsOpenedFrom p q
finer_leads Off t u p f h = absurd h
finer_leads (On cs es) t u p f h = finer_back cs.items t p u h f

pub finer_twice : (l : Log) (t u q : Held) → IsOpenedFrom t u → LeadsTwice l t q → (r : Held) × LeadsTwice l u r × IsOpenedFrom q r
finer_twice Off t u q f h = absurd h
finer_twice (On cs es) t u q f h =
    let b = finer_back cs.items t h.0 u h.1 f in
    let d = finer_on es h.0 b.0 q b.2 h.2 in
    (d.0, (b.0, b.1, d.1), d.2)

pub finer_can : (l : Log) (P : Held → Type 0) (t u : Held) → ((p q : Held) → IsOpenedFrom p q → P p → P q) → IsOpenedFrom t u → CanLead l P t → CanLead l P u
finer_can Off P t u stays f h = tt
finer_can (On cs es) P t u stays f h =
    let b = finer_back cs.items t h.0 u h.1 f in
    (b.0, b.1, stays h.0 b.0 b.2 h.2, finer_can_on es P h.0 b.0 stays b.2 h.3)

-- ---- a change more

same_earlier : (cs ds : Vec Change Global) (es fs : Option (Vec Change Global)) (place : List Level) (steps : List Back) → IsMore (On cs es) place steps (On ds fs) → fs ≡ es
same_earlier cs ds es fs place [] more = more.1
same_earlier cs ds es fs place (b ∷ bs) more = more.1

pub more_leads : (old new : Log) (place : List Level) (steps : List Back) (t u p : Held) → (is_on old ≡ true → IsLed steps [] place t u) → IsMore old place steps new → Leads old t p → (q : Held) × Leads new u q × IsOpenedFrom p q
more_leads Off new place steps t u p led more h = absurd h
more_leads (On cs es) Off place steps t u p led more h = absurd more
more_leads (On cs es) (On ds fs) place [] t u p led more h =
    let b = finer_back cs.items t p u h (led refl) in
    (b.0, subst (λ x. LogLeads x u b.0) (sym more.0) b.1, b.2)
more_leads (On cs es) (On ds fs) place (c ∷ bs) t u p led more h =
    let w = led refl in
    let k = more.0 in
    let b = finer_back cs.items t p w.was h w.opened in
    let back : IsBackAt k.change.place.items k.change.steps.items u w.was =
    subst (λ x. IsBackAt k.change.place.items x u w.was) (sym k.steps_are) (subst (λ x. IsBackAt x (c ∷ bs) u w.was) (sym (k.place_is ∙ w.are)) w.back) in
    (b.0, subst (λ x. LogLeads x u b.0) (sym k.kept) (log_pushed cs.items k.change u w.was b.0 back b.1), b.2)

pub more_twice : (old new : Log) (place : List Level) (steps : List Back) (t u q : Held) → (is_on old ≡ true → IsLed steps [] place t u) → IsMore old place steps new → LeadsTwice old t q → (r : Held) × LeadsTwice new u r × IsOpenedFrom q r
more_twice Off new place steps t u q led more h = absurd h
more_twice (On cs es) Off place steps t u q led more h = absurd more
more_twice (On cs es) (On ds fs) place steps t u q led more h =
    let b = more_leads (On cs es) (On ds fs) place steps t u h.0 led more h.1 in
    let d = finer_on es h.0 b.0 q b.2 h.2 in
    (d.0, (b.0, b.1, subst (λ x. LeadsOn x b.0 d.0) (sym (same_earlier cs ds es fs place steps more)) d.1), d.2)

pub more_can : (old new : Log) (place : List Level) (steps : List Back) (P : Held → Type 0) (t u : Held) → ((p q : Held) → IsOpenedFrom p q → P p → P q) → (is_on old ≡ true → IsLed steps [] place t u) → IsMore old place steps new → CanLead old P t → CanLead new P u
more_can Off new place steps P t u stays led more h = subst (λ l. CanLead l P u) (sym more) tt
more_can (On cs es) Off place steps P t u stays led more h = absurd more
more_can (On cs es) (On ds fs) place steps P t u stays led more h =
    let b = more_leads (On cs es) (On ds fs) place steps t u h.0 led more h.1 in
    (b.0, b.1, stays h.0 b.0 b.2 h.2, subst (λ x. CanLeadOn x P b.0) (sym (same_earlier cs ds es fs place steps more)) (finer_can_on es P h.0 b.0 stays b.2 h.3))

pub fit_stays : (before behind : Text) (p q : Held) → IsOpenedFrom p q → IsFit before behind p → IsFit before behind q
fit_stays before behind p q f h = (opened_whole p q f h.0, subst (λ s. length (text_bytes before ++ (s ++ text_bytes behind)) < 2 ^ 64) (sym (opened_text p q f)) h.1)

any_on : (es : Option (Vec Change Global)) (P : Held → Type 0) (p : Held) → CanLeadOn es P p → CanLeadOn es (λ q. ⊤) p
any_on None P p h = tt
any_on (Some es) P p h = (h.0, h.1, tt)

pub can_any : (l : Log) (P : Held → Type 0) (t : Held) → CanLead l P t → CanLead l (λ p. ⊤) t
can_any Off P t h = tt
can_any (On cs es) P t h = (h.0, h.1, tt, any_on es P h.0 h.3)

pub text_stays : (a b : List ℕ) (p q : Held) → IsOpenedFrom p q → a ++ (tree_text (tree_of p) ++ b) ≡ a ++ (tree_text (tree_of q) ++ b)
text_stays a b p q f = ap (λ s. a ++ (s ++ b)) (sym (opened_text p q f))

pub grown_fits : (a b s t : List ℕ) (n room : ℕ) → n ≡ length (a ++ (s ++ b)) → n + room < 2 ^ 64 → length t ≤ length s + room → length (a ++ (t ++ b)) < 2 ^ 64
grown_fits a b s t n room e h g = omega (arith, e, h, g, long s, long t)
  where
    long : (u : List ℕ) → length (a ++ (u ++ b)) ≡ length a + (length u + length b)
    long u = length-append a (u ++ b) ∙ ap (λ k. length a + k) (length-append u b)

-- ---- a mark

pub marked_leads : (l m : Log) (t : Held) → IsMarked l m → Leads m t t
marked_leads l Off t k = absurd k
marked_leads Off (On cs es) t k = subst (λ x. LogLeads x t t) (sym k.0) refl
marked_leads (On ds fs) (On cs es) t k = subst (λ x. LogLeads x t t) (sym k.0) refl

pub marked_twice : (l m : Log) (t p : Held) → IsMarked l m → Leads l t p → LeadsTwice m t p
marked_twice l Off t p k h = absurd k
marked_twice Off (On cs es) t p k h = absurd h
marked_twice (On ds fs) (On cs es) t p k h = (t, subst (λ x. LogLeads x t t) (sym k.0) refl, subst (λ x. LeadsOn x t p) (sym k.1) h)

pub marked_can : (l m : Log) (P : Held → Type 0) (t : Held) → IsMarked l m → P t → CanLead l P t → CanLead m P t
marked_can l Off P t k h can = absurd k
marked_can Off (On cs es) P t k h can = (t, subst (λ x. LogLeads x t t) (sym k.0) refl, h, subst (λ x. CanLeadOn x P t) (sym k.1) tt)
marked_can (On ds fs) (On cs es) P t k h can = (t, subst (λ x. LogLeads x t t) (sym k.0) refl, h, subst (λ x. CanLeadOn x P t) (sym k.1) (can.0, can.1, can.2))

-- ---- taken back

pub taken_to : (l m : Log) (t u p : Held) → IsTakenBack l t m u → Leads l t p → u ≡ p
taken_to Off m t u p k h = absurd h
taken_to (On cs es) m t u p k h = k.1 p h

pub taken_leads : (l m : Log) (t u q : Held) → IsTakenBack l t m u → LeadsTwice l t q → Leads m u q
taken_leads Off m t u q k h = absurd h
taken_leads (On cs None) m t u q k h = absurd h.2
taken_leads (On cs (Some es)) m t u q k h = subst (λ l. Leads l u q) (sym k.0) (subst (λ x. LogLeads es.items x q) (sym (k.1 h.0 h.1)) h.2)

-- what is left holds what it led to, or what it was
pub taken_holds : (l m : Log) (P : Held → Type 0) (t u : Held) → IsTakenBack l t m u → P t → CanLead l P t → P u × CanLead m P u
taken_holds Off m P t u k h can = (subst P (sym k.1) h, subst (λ x. CanLead x P u) (sym k.0) tt)
taken_holds (On cs None) m P t u k h can = (subst P (sym (k.1 can.0 can.1)) can.2, subst (λ x. CanLead x P u) (sym k.0) tt)
taken_holds (On cs (Some es)) m P t u k h can =
    let there = k.1 can.0 can.1 in
    let q = can.3 in
    (subst P (sym there) can.2, subst (λ x. CanLead x P u) (sym k.0) (q.0, subst (λ x. LogLeads es.items x q.0) (sym there) q.1, q.2, tt))

-- ---- going back begins with a value in the place of the whole

over_log : (ds cs : List Change) (c : Change) (t u p : Held) → cs ≡ ds ++ c ∷ [] → PutsWhole c → LogLeads cs t p → LogLeads cs u p
over_log ds cs c t u p is whole back =
    let popped = log_popped ds c t p (subst (λ l. LogLeads l t p) is back) in
    subst (λ l. LogLeads l u p) (sym is) (log_pushed ds c u popped.0 p (anywhere c t u popped.0 whole popped.1) popped.2)

pub over_leads : (l : Log) (t u p : Held) → StartsOver l → Leads l t p → Leads l u p
over_leads Off t u p over back = absurd over
over_leads (On cs es) t u p over back = over_log over.0 cs.items over.1.0 t u p over.1.1.0 over.1.1.1 back

pub over_twice : (l : Log) (t u q : Held) → StartsOver l → LeadsTwice l t q → LeadsTwice l u q
over_twice Off t u q over back = absurd over
over_twice (On cs es) t u q over back = (back.0, over_log over.0 cs.items over.1.0 t u back.0 over.1.1.0 over.1.1.1 back.1, back.2)

pub over_can : (l : Log) (P : Held → Type 0) (t u : Held) → StartsOver l → CanLead l P t → CanLead l P u
over_can Off P t u over can = absurd over
over_can (On cs es) P t u over can = (can.0, over_log over.0 cs.items over.1.0 t u can.0 over.1.1.0 over.1.1.1 can.1, can.2, can.3)

last_at : (cs : List Change) (x c : Change) → slice_get (x ∷ cs) (length cs) ≡ Some c → (ds : List Change) × (x ∷ cs ≡ ds ++ c ∷ [])
last_at [] x c e = ([], ap (λ y. y ∷ []) (same_Some x c e))
last_at (y ∷ cs) x c e = let more = last_at cs y c e in (x ∷ more.0, ap (λ l. x ∷ l) more.1)

last_split : (cs : List Change) (c : Change) → slice_get cs (length cs - 1) ≡ Some c → (ds : List Change) × (cs ≡ ds ++ c ∷ [])
last_split [] c e = absurd (none-some c e)
last_split (x ∷ cs) c e = last_at cs x c (subst (λ n. slice_get (x ∷ cs) n ≡ Some c) (one_less (length cs)) e)
  where
    one_less : (n : ℕ) → suc n - 1 ≡ n
    one_less n = omega arith

pub over_last : (l : Log) (cs : Vec Change Global) (es : Option (Vec Change Global)) (c : Change) → l ≡ On cs es → slice_get cs.items (length cs.items - 1) ≡ Some c → PutsWhole c → StartsOver l
over_last l cs es c is last whole =
    let split = last_split cs.items c last in
    subst StartsOver (sym is) (split.0, (c, (split.1, whole)))
