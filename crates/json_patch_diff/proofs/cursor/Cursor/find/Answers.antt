use Rattle.std.proofs.Common.{rules, ◌≡◌, ◌∙◌, ap, sym, subst, Greater, true≢false, nat_cmp, string_bytes}
use Rattle.std.specs.Cmp.Lexicographic.{slice_cmp}
use Rattle.serde_json.specs.Data.{member}
use Rattle.serde_json.specs.Find.{get_member}
use Rattle.serde_json.specs.View.{members_view, view}
use Rattle.json_patch.specs.Document.{AreMembers}
use Rattle.json_patch_diff.specs.Steps.{after}
use Rattle.json_patch_diff.proofs.Ascending.{first_is, passes, stands_first, stops, taken}
use Rattle.json_patch_diff.proofs.cursor.Cursor.find.Goals as goal

pub returns-then-eq-clause-found : goal.returns-then-eq-clause-found
returns-then-eq-clause-found c =
    let here = first_is c.loop-self.self.first c.loop-self.self.later c.in-Some.other c.in-Some.value c.in-Some.is in
    let same : string_bytes c.in-Some.other.now ≡ c.args.name.now = search rules in
    let at = stands_first c.args.name.now (string_bytes c.in-Some.other.now) (view c.in-Some.value.now) (members_view c.loop-self.self.later) same in
    sym at.0 ∙ ap (get_member c.args.name.now) (sym here) ∙ c.loop-self.invariant.found

pub returns-then-eq-clause-document : goal.returns-then-eq-clause-document
returns-then-eq-clause-document c =
    let here = first_is c.loop-self.self.first c.loop-self.self.later c.in-Some.other c.in-Some.value c.in-Some.is in
    let all = subst AreMembers here c.loop-self.invariant.members in
    all.1

pub returns-then-eq-clause-in_step : goal.returns-then-eq-clause-in_step
returns-then-eq-clause-in_step c none =
    let here = first_is c.loop-self.self.first c.loop-self.self.later c.in-Some.other c.in-Some.value c.in-Some.is in
    let same : string_bytes c.in-Some.other.now ≡ c.args.name.now = search rules in
    let rest = taken c.loop-self.self.later c.next-self.new.self c.next-self.result c.next-self.ensures.steps in
    let was = c.loop-self.invariant.in_step none in
    (was.0, sym was.1 ∙ here ∙ ap (λ k. member k (view c.in-Some.value.now) (members_view c.loop-self.self.later)) same ∙ ap (member c.args.name.now (view c.in-Some.value.now)) (sym rest))

pub returns-then-eq-clause-after : goal.returns-then-eq-clause-after
returns-then-eq-clause-after c =
    let here = first_is c.loop-self.self.first c.loop-self.self.later c.in-Some.other c.in-Some.value c.in-Some.is in
    let same : string_bytes c.in-Some.other.now ≡ c.args.name.now = search rules in
    let at = stands_first c.args.name.now (string_bytes c.in-Some.other.now) (view c.in-Some.value.now) (members_view c.loop-self.self.later) same in
    taken c.loop-self.self.later c.next-self.new.self c.next-self.result c.next-self.ensures.steps ∙ sym at.1 ∙ ap (after c.args.name.now) (sym here) ∙ c.loop-self.invariant.after

pub returns-in-Greater-clause-found : goal.returns-in-Greater-clause-found
returns-in-Greater-clause-found c =
    let here = first_is c.loop-self.self.first c.loop-self.self.later c.in-Some.other c.in-Some.value c.in-Some.is in
    let greater : slice_cmp nat_cmp (string_bytes c.in-Some.other.now) c.args.name.now ≡ Greater = search rules in
    let at = stops c.args.name.now (string_bytes c.in-Some.other.now) (view c.in-Some.value.now) (members_view c.loop-self.self.later) greater (subst AreMembers here c.loop-self.invariant.members) in
    sym at.0 ∙ ap (get_member c.args.name.now) (sym here) ∙ c.loop-self.invariant.found

pub returns-in-Greater-clause-after : goal.returns-in-Greater-clause-after
returns-in-Greater-clause-after c =
    let here = first_is c.loop-self.self.first c.loop-self.self.later c.in-Some.other c.in-Some.value c.in-Some.is in
    let greater : slice_cmp nat_cmp (string_bytes c.in-Some.other.now) c.args.name.now ≡ Greater = search rules in
    let at = stops c.args.name.now (string_bytes c.in-Some.other.now) (view c.in-Some.value.now) (members_view c.loop-self.self.later) greater (subst AreMembers here c.loop-self.invariant.members) in
    here ∙ sym at.1 ∙ ap (after c.args.name.now) (sym here) ∙ c.loop-self.invariant.after

pub loop-self-preserved : goal.loop-self-preserved
loop-self-preserved c =
    let here = first_is c.loop-self.self.first c.loop-self.self.later c.in-Some.other c.in-Some.value c.in-Some.is in
    let other : string_bytes c.in-Some.other.now ≡ c.args.name.now → ⊥ = search rules in
    let low : slice_cmp nat_cmp (string_bytes c.in-Some.other.now) c.args.name.now ≡ Greater → ⊥ = search rules in
    let step = passes c.args.name.now (string_bytes c.in-Some.other.now) (view c.in-Some.value.now) (members_view c.loop-self.self.later) other low in
    let rest = taken c.loop-self.self.later c.next-self-in-Some.new.self c.next-self-in-Some.result c.next-self-in-Some.ensures.steps in
    let all = subst AreMembers here c.loop-self.invariant.members in
    record {
      members = subst AreMembers (sym rest) all.2;
      found = ap (get_member c.args.name.now) rest ∙ sym step.found ∙ ap (get_member c.args.name.now) (sym here) ∙ c.loop-self.invariant.found;
      after = ap (after c.args.name.now) rest ∙ sym step.after ∙ ap (after c.args.name.now) (sym here) ∙ c.loop-self.invariant.after;
      in_step = λ none. absurd (true≢false none);
    }
