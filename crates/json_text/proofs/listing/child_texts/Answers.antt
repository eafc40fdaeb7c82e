use Rattle.std.proofs.Common.{sym, ap, ◌∙◌, subst}
use Rattle.json_text.specs.Listing.{AreStretchesIn, AreTextsIn}
use Rattle.json_lexemes.specs.Spelled.{Says}
use Rattle.json_text.specs.Rows.{slice}
use Rattle.json_text.proofs.Rows.Texts.{one_listed, last_one, next_one, all_listed, as_tree, as_stretches, none_within, no_stretches}
use Rattle.json_text.proofs.listing.child_texts.Goals as goal

pub returns-in_default-clause-texts : goal.returns-in_default-clause-texts
returns-in_default-clause-texts c = λ j says.
    subst (AreTextsIn j) (sym c.new-found.ensures.items) (none_within j (c.in_default.ensures.row j (subst (λ u. Says u j) (sym c.as_bytes-bytes.ensures.value) says)))

pub returns-in_default-clause-stretches : goal.returns-in_default-clause-stretches
returns-in_default-clause-stretches c = λ j says.
    subst (AreStretchesIn c.args.text.now j) (sym c.new-found.ensures.items) (no_stretches c.args.text.now j (c.in_default.ensures.row j (subst (λ u. Says u j) (sym c.as_bytes-bytes.ensures.value) says)))

pub returns-in_default-next-clause-texts : goal.returns-in_default-next-clause-texts
returns-in_default-next-clause-texts c = λ j given.
    let here = subst (λ u. Says u j) (sym c.as_bytes-bytes.ensures.value) given in
    let row = c.in-Some.ensures.row j here in
    let says = subst (Says c.as_bytes-bytes.result.now) row.1 here in
    let (mode, (more, left, listed)) = c.loop-part.invariant.listed row.0 says row.2 in
    let one = one_listed c.as_bytes-bytes.result.now c.in-Some.row.named row.0 more c.loop-part.found.items c.push.new.self.items c.in-Some-part_from.part c.name_from-name.result _ says listed (c.in-Some-part_from.ensures.part more left) (c.in-Some-part_from.ensures.places mode).cut (c.in-Some-part_from.ensures.boundary (λ u. c.loop-part.invariant.boundary.1)).value
    (c.name_from-name.ensures.cut mode) (c.name_from-name.ensures.within (λ u. c.loop-part.invariant.boundary.1)) (c.name_from-name.ensures.name more left) (c.range.ensures.value ∙ ap (λ u. slice u c.name_from-name.result.start c.name_from-name.result.end) (sym c.as_bytes-bytes.ensures.value)) (c.range-in-Some-part_from.ensures.value ∙ ap (λ u. slice u c.in-Some-part_from.part.value.start c.in-Some-part_from.part.value.end) (sym c.as_bytes-bytes.ensures.value)) c.in_ok-push.ensures.items in
    as_tree c.in-Some.row.named row.0 _ j row.1 (all_listed c.as_bytes-bytes.result.now c.in-Some.row.named row.0 one.rest _ one.listed (last_one c.in_default-next.is one))

pub returns-in_default-next-clause-stretches : goal.returns-in_default-next-clause-stretches
returns-in_default-next-clause-stretches c = λ j given.
    let here = subst (λ u. Says u j) (sym c.as_bytes-bytes.ensures.value) given in
    let row = c.in-Some.ensures.row j here in
    let says = subst (Says c.as_bytes-bytes.result.now) row.1 here in
    let (mode, (more, left, listed)) = c.loop-part.invariant.listed row.0 says row.2 in
    let one = one_listed c.as_bytes-bytes.result.now c.in-Some.row.named row.0 more c.loop-part.found.items c.push.new.self.items c.in-Some-part_from.part c.name_from-name.result _ says listed (c.in-Some-part_from.ensures.part more left) (c.in-Some-part_from.ensures.places mode).cut (c.in-Some-part_from.ensures.boundary (λ u. c.loop-part.invariant.boundary.1)).value
    (c.name_from-name.ensures.cut mode) (c.name_from-name.ensures.within (λ u. c.loop-part.invariant.boundary.1)) (c.name_from-name.ensures.name more left) (c.range.ensures.value ∙ ap (λ u. slice u c.name_from-name.result.start c.name_from-name.result.end) (sym c.as_bytes-bytes.ensures.value)) (c.range-in-Some-part_from.ensures.value ∙ ap (λ u. slice u c.in-Some-part_from.part.value.start c.in-Some-part_from.part.value.end) (sym c.as_bytes-bytes.ensures.value)) c.in_ok-push.ensures.items in
    subst (λ u. AreStretchesIn u j c.push.new.self.items) c.as_bytes-bytes.ensures.value (as_stretches c.as_bytes-bytes.result.now c.in-Some.row.named row.0 c.push.new.self.items j row.1 one.listed.stand)

pub returns-clause-texts : goal.returns-clause-texts
returns-clause-texts c = λ j given.
    let here = subst (λ u. Says u j) (sym c.as_bytes-bytes.ensures.value) given in
    let row = c.in-Some.ensures.row j here in
    let says = subst (Says c.as_bytes-bytes.result.now) row.1 here in
    let (mode, (more, left, listed)) = c.loop-part.invariant.listed row.0 says row.2 in
    as_tree c.in-Some.row.named row.0 _ j row.1 (all_listed c.as_bytes-bytes.result.now c.in-Some.row.named row.0 more _ listed (c.in_default-part_from.ensures.part more left))

pub returns-clause-stretches : goal.returns-clause-stretches
returns-clause-stretches c = λ j given.
    let here = subst (λ u. Says u j) (sym c.as_bytes-bytes.ensures.value) given in
    let row = c.in-Some.ensures.row j here in
    let says = subst (Says c.as_bytes-bytes.result.now) row.1 here in
    let (mode, (more, left, listed)) = c.loop-part.invariant.listed row.0 says row.2 in
    subst (λ u. AreStretchesIn u j c.loop-part.found.items) c.as_bytes-bytes.ensures.value (as_stretches c.as_bytes-bytes.result.now c.in-Some.row.named row.0 c.loop-part.found.items j row.1 listed.stand)

pub loop-part-preserved : goal.loop-part-preserved
loop-part-preserved c =
    let next = rw c.in-Some-next.is at c.in-Some-part_from.ensures.order.next in
    record {
      low = next.1;
      solid = next.2;
      boundary = (c.loop-part.invariant.boundary.0, (rw c.in-Some-next.is at (c.in-Some-part_from.ensures.boundary (λ u. c.loop-part.invariant.boundary.1)).next) c.loop-part.invariant.boundary.0);
      listed = λ cs says in_row.
          let (mode, (more, left, listed)) = c.loop-part.invariant.listed cs says in_row in
          let one = one_listed c.as_bytes-bytes.result.now c.in-Some.row.named cs more c.loop-part.found.items c.push.new.self.items c.in-Some-part_from.part c.name_from-name.result _ says listed (c.in-Some-part_from.ensures.part more left) (c.in-Some-part_from.ensures.places mode).cut (c.in-Some-part_from.ensures.boundary (λ u. c.loop-part.invariant.boundary.1)).value
          (c.name_from-name.ensures.cut mode) (c.name_from-name.ensures.within (λ u. c.loop-part.invariant.boundary.1)) (c.name_from-name.ensures.name more left) (c.range.ensures.value ∙ ap (λ u. slice u c.name_from-name.result.start c.name_from-name.result.end) (sym c.as_bytes-bytes.ensures.value)) (c.range-in-Some-part_from.ensures.value ∙ ap (λ u. slice u c.in-Some-part_from.part.value.start c.in-Some-part_from.part.value.end) (sym c.as_bytes-bytes.ensures.value)) c.in_ok-push.ensures.items in
          (rw c.in-Some-next.is at (c.in-Some-part_from.ensures.places mode).next, (one.rest, next_one c.in-Some-next.next c.in-Some-next.is one, one.listed));
    }

pub part_from-requires-clause-places : goal.part_from-requires-clause-places
part_from-requires-clause-places c = c.none.ensures c.as_bytes-bytes.result.now
