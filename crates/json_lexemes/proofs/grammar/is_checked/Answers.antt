use Rattle.std.proofs.Common.{rules, ◌≡◌, ◌<◌, ◌+◌, ◌-◌, [], true, cond, length, refl, inl, ◌∙◌, sym, subst, arith}
use Rattle.std.specs.Prelude.{IfSome, IfNone, nat_lt}
use Rattle.std.proofs.lemmas.Bool.Decides.{Decides-eqb, Decides-ltb}
use Rattle.std.proofs.lemmas.List.{length-set}
use Rattle.json_lexemes.specs.Places.{left_at, IsEnd}
use Rattle.json_lexemes.specs.Grammar.{Begins, Opens, Spells, innermost}
use Rattle.json_lexemes.proofs.Trimmed.{end_left}
use Rattle.json_lexemes.proofs.Completed.{opens_on, whole_begins, room_for}
use Rattle.json_lexemes.proofs.Following.{valued}
use Rattle.json_lexemes.proofs.grammar.is_checked.Goals as goal

pub past_closing-requires-clause-behind : goal.past_closing-requires-clause-behind
past_closing-requires-clause-behind c = λ w.
    let t = c.args.text.now in
    let d = c.loop-next.depth in
    let most = c.if-levels-lt-MOST.most in
    let whole = subst (λ r. IfNone r (Spells t (cond (nat_lt d most) 1 0) c.loop-next.i c.in-Some.next)) c.in_default-opened.is c.in-Some.ensures.whole in
    valued t c.loop-next.signposts _ d c.loop-next.i c.in-Some.next (omega (arith, c.in-Some.ensures.bounds)) whole (c.loop-next.invariant.ahead w)

pub loop-next-preserved-in-Some-opened : goal.loop-next-preserved-in-Some-opened
loop-next-preserved-in-Some-opened c =
    let t = c.args.text.now in
    let i = c.loop-next.i in
    let d = c.loop-next.depth in
    let most = c.if-levels-lt-MOST.most in
    let o = c.in-Some-opened.opened in
    let room : d < most = (Decides-ltb d most).0 (subst (λ r. IfSome r (λ o. nat_lt d most ≡ true)) c.in-Some-opened.is c.in-Some.ensures.room) in
    let opens = subst (λ r. IfSome r (λ o. Opens t o.object i c.in-Some.next)) c.in-Some-opened.is c.in-Some.ensures.opens in
    let start = subst (λ r. IfSome r (λ o. (o.start < c.in-Some.next) × (left_at t o.start ≡ left_at t i) × (IsEnd t i → IsEnd t o.start))) c.in-Some-opened.is c.in-Some.ensures.start in
    record {
      high = c.in-Some.ensures.bounds.1;
      size = length-set c.loop-next.objects d o.object ∙ c.loop-next.invariant.size;
      room = omega (arith, room);
      most = c.loop-next.invariant.most;
      levels = c.loop-next.invariant.levels;
      end = c.in-Some.ensures.end c.loop-next.invariant.end;
      ahead = λ w. c.enter.ensures w t o.object i c.in-Some.next (c.loop-next.invariant.ahead w) start.0 (omega (arith, c.in-Some.ensures.bounds)) start.1 (start.2 c.loop-next.invariant.end) opens;
      stops = c.in-Some.ensures.stops;
      follows = λ b. c.loop-next.invariant.follows (opens_on t c.loop-next.objects o.object most d i c.in-Some.next room (omega (arith, room, c.loop-next.invariant.size, c.loop-next.invariant.most)) opens b);
    }

pub returns-then-nested-eq0-clause-says : goal.returns-then-nested-eq0-clause-says
returns-then-nested-eq0-clause-says c = λ e.
    let t = c.args.text.now in
    let d = c.loop-next.depth in
    let most = c.if-levels-lt-MOST.most in
    let place = c.in-Some-past_closing.place in
    let end : c.whitespace_end.result ≡ length t = (Decides-eqb c.whitespace_end.result (length t)).0 e in
    let nothing : left_at t place ≡ [] = sym c.whitespace_end.ensures.left ∙ end_left t c.whitespace_end.result (omega (arith, end)) in
    let whole = subst (λ r. IfNone r (Spells t (cond (nat_lt d most) 1 0) c.loop-next.i c.in-Some.next)) c.in_default-opened.is c.in-Some.ensures.whole in
    c.loop-next.invariant.follows
    (whole_begins t (most - d) _ (innermost c.loop-next.objects d) c.loop-next.i c.in-Some.next (room_for d most) whole (c.in-Some-past_closing.ensures.last c.if-nested-eq0.true nothing (most - d)))

pub loop-next-init : goal.loop-next-init
loop-next-init c = record {
  high = omega arith;
  size = refl;
  room = omega arith;
  most = search rules;
  levels = search rules;
  end = inl refl;
  ahead = c.requires;
  stops = λ n. absurd (n refl);
  follows = search rules;
}

pub loop-next-preserved : goal.loop-next-preserved
loop-next-preserved c =
    let t = c.args.text.now in
    let d = c.loop-next.depth in
    let most = c.if-levels-lt-MOST.most in
    let e = c.in-Some-past_closing.ensures in
    let nested = c.in-Some-past_closing.nested in
    let some : 0 < nested = grind (arith, c.if-nested-eq0.false) in
    let whole = subst (λ r. IfNone r (Spells t (cond (nat_lt d most) 1 0) c.loop-next.i c.in-Some.next)) c.in_default-opened.is c.in-Some.ensures.whole in
    let more : most - d + (d - nested) ≡ most - nested = omega (arith, e.bounds, c.loop-next.invariant.room) in
    record {
      high = e.bounds.1;
      size = c.loop-next.invariant.size;
      room = omega (arith, e.bounds, c.loop-next.invariant.room);
      most = c.loop-next.invariant.most;
      levels = c.loop-next.invariant.levels;
      end = e.end;
      ahead = λ w. e.ahead w some;
      stops = e.stops;
      follows = λ b.
          c.loop-next.invariant.follows
          (whole_begins t (most - d) _ (innermost c.loop-next.objects d) c.loop-next.i c.in-Some.next (room_for d most) whole
          ((e.next some).1 (most - d) (subst (λ n. Begins n (innermost c.loop-next.objects nested) (left_at t c.in-Some-past_closing.place)) (sym more) b)));
    }
