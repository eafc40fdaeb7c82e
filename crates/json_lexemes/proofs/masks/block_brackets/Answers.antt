use Rattle.std.proofs.Common.{◌≡◌, ◌<◌, ◌+◌, ◌^◌, ℕ, suc, false, not, ◌&&◌, ◌==◌, get_or, sym, ap, ap₂, ◌∙◌, arith}
use Rattle.std.proofs.lemmas.Bool.{false≢true}
use Rattle.std.proofs.lemmas.Simd.{get_or-chunk}
use lib.Bits.{bit_and, bit_xor}
use Rattle.json.specs.Scan.{test, xor, parity, escaped_in}
use Rattle.json_lexemes.specs.Runs.{is_of_word}
use Rattle.json_lexemes.specs.Blocks.{is_opening, is_closing, carried}
use Rattle.json_lexemes.proofs.Bits.{flipped, test_and, test_not, top_bit}
use Rattle.json_lexemes.proofs.Masked.{Fair, along, outside_at, has_brackets, quiet, quiet_escaped, inside_from, begins_from, spread, strings_are, strings_lt, neither, not_before}
use Rattle.json_lexemes.proofs.masks.block_brackets.Goals as goal

-- ---- where neither a quote nor a backslash stands

none_there : (c : goal.After-unmarked) → (i : ℕ) → (test c.equal_to-backslashes.result i ≡ false) × (test c.equal_to-quotes.result i ≡ false)
none_there c i = neither c.equal_to-backslashes.result c.equal_to-quotes.result i c.if-backslashes-quotes-eq0.true

plain : (c : goal.After-unmarked) → Fair c.args.text.now c.args.at c.args.carry.inside c.args.carry.escaped c.equal_to-backslashes.result c.equal_to-quotes.result
plain c =
    let t = c.args.text.now in
    let at = c.args.at in
    let b = c.equal_to-backslashes.result in
    let q = c.equal_to-quotes.result in
    let same = λ (i : ℕ) (h : i < 64). get_or-chunk at 64 t i 0 h in
    record {
      order = c.requires.order;
      before = c.requires.carry;
      backslashes = λ i h. c.equal_to-backslashes.ensures i h ∙ ap (λ x. x == 92) (same i h);
      quotes = λ i h.
          let no : (get_or t (at + i) 0 == 34) ≡ false = sym (c.equal_to-quotes.ensures i h ∙ ap (λ x. x == 34) (same i h)) ∙ (none_there c i).1 in
          (none_there c i).1 ∙ sym (ap (λ v. v && not (escaped_in c.args.carry.escaped b i)) no);
      inside = λ i h p. absurd (false≢true (sym (none_there c i).0 ∙ p));
      apart = λ i h p o. absurd (false≢true (sym (none_there c i).1 ∙ p));
    }

pub returns-then-backslashes-quotes-eq0-clause-has : goal.returns-then-backslashes-quotes-eq0-clause-has
returns-then-backslashes-quotes-eq0-clause-has c =
    let t = c.args.text.now in
    let at = c.args.at in
    let s = c.args.carry.inside in
    let e = c.args.carry.escaped in
    let b = c.equal_to-backslashes.result in
    let q = c.equal_to-quotes.result in
    let outside = λ (i : ℕ) (h : i < 64). outside_at t at s e b q (plain c) i (omega (arith, h)) ∙ ap not (quiet t at s e b q (λ j lt. (none_there c j).1) i (omega (arith, h))) in
    record {
      opening = λ i h. c.unmarked.ensures.opens i h ∙ ap₂ (λ x v. is_opening x && v) (get_or-chunk at 64 t i 0 h) (sym (outside i h));
      closing = λ i h. c.unmarked.ensures.shuts i h ∙ ap₂ (λ x v. is_closing x && v) (get_or-chunk at 64 t i 0 h) (sym (outside i h));
    }

pub returns-then-backslashes-quotes-eq0-clause-mode : goal.returns-then-backslashes-quotes-eq0-clause-mode
returns-then-backslashes-quotes-eq0-clause-mode c =
    let t = c.args.text.now in
    let at = c.args.at in
    let s = c.args.carry.inside in
    let e = c.args.carry.escaped in
    let b = c.equal_to-backslashes.result in
    let q = c.equal_to-quotes.result in
    ap₂ (carried t (at + 64))
    (c.unmarked.ensures.carry.0 ∙ sym (quiet t at s e b q (λ j lt. (none_there c j).1) 64 (omega arith)))
    (c.unmarked.ensures.carry.1 ∙ sym (quiet_escaped t at s e b q (none_there c 63).0))
    ∙ sym (along t at s e b q (plain c) 64 (omega arith)).0

-- ---- where one does

abbrev quotes_of : goal.After-closings → ℕ
quotes_of c = bit_and c.equal_to-quotes.result (flipped c.find_escaped-escaped.result.0)

abbrev strings_of : goal.After-closings → ℕ
strings_of c = bit_xor c.prefix_xor.result (spread c.args.carry.inside)

strings : (c : goal.After-closings) (i : ℕ) → i < 64 → test (strings_of c) i ≡ xor (parity (quotes_of c) (suc i)) c.args.carry.inside
strings c = strings_are (quotes_of c) c.prefix_xor.result c.args.carry.inside c.prefix_xor.ensures

strings_small : (c : goal.After-closings) → strings_of c < 2 ^ 64
strings_small c = strings_lt c.prefix_xor.result c.args.carry.inside (omega arith)

fair : (c : goal.After-closings) → Fair c.args.text.now c.args.at c.args.carry.inside c.args.carry.escaped c.equal_to-backslashes.result (quotes_of c)
fair c =
    let t = c.args.text.now in
    let at = c.args.at in
    let s = c.args.carry.inside in
    let e = c.args.carry.escaped in
    let b = c.equal_to-backslashes.result in
    let q = quotes_of c in
    let same = λ (i : ℕ) (h : i < 64). get_or-chunk at 64 t i 0 h in
    let hb : (i : ℕ) → i < 64 → test b i ≡ (get_or t (at + i) 0 == 92) = λ i h. c.equal_to-backslashes.ensures i h ∙ ap (λ x. x == 92) (same i h) in
    let hq : (i : ℕ) → i < 64 → test q i ≡ ((get_or t (at + i) 0 == 34) && not (escaped_in e b i)) =
    λ i h. test_and c.equal_to-quotes.result _ i
    ∙ ap₂ (λ v w. v && w) (c.equal_to-quotes.ensures i h ∙ ap (λ x. x == 34) (same i h)) (test_not c.find_escaped-escaped.result.0 i (omega arith) h ∙ ap not (c.find_escaped-escaped.ensures.bits i h)) in
    record {
      order = c.requires.order;
      before = c.requires.carry;
      backslashes = hb;
      quotes = hq;
      inside = inside_from t at s e b q (strings_of c) (strings_small c) (strings c) hb hq (omega (arith, c.if-backslashes-strings-ne0.false));
      apart = λ i h p o.
          not_before t at i h (bit_and q (strings_of c)) (begins_from t at s e b q (strings_of c) (strings c) i h p o)
          (λ z. ap not (sym c.is_of_word.ensures) ∙ c.may_begin.ensures.first c.if-not-may_begin.false z)
          (λ j lt z. sym (ap is_of_word (get_or-chunk at 64 t j 0 (omega (arith, lt)))) ∙ c.may_begin.ensures.behind c.if-not-may_begin.false j lt z);
    }

pub returns-clause-has : goal.returns-clause-has
returns-clause-has c =
    let t = c.args.text.now in
    let at = c.args.at in
    has_brackets t at c.args.carry.inside c.args.carry.escaped c.equal_to-backslashes.result (quotes_of c) (fair c) (strings_of c) c.openings-opens.result c.closings.result
    (strings_small c) (strings c)
    (λ i h. c.openings-opens.ensures i h ∙ ap is_opening (get_or-chunk at 64 t i 0 h)) (λ i h. c.closings.ensures i h ∙ ap is_closing (get_or-chunk at 64 t i 0 h))

pub returns-clause-mode : goal.returns-clause-mode
returns-clause-mode c =
    let t = c.args.text.now in
    let at = c.args.at in
    ap₂ (carried t (at + 64)) (top_bit (strings_of c) (strings_small c) ∙ strings c 63 (omega arith)) c.find_escaped-escaped.ensures.carry
    ∙ sym (along t at c.args.carry.inside c.args.carry.escaped c.equal_to-backslashes.result (quotes_of c) (fair c) 64 (omega arith)).0

pub returns-clause-carry : goal.returns-clause-carry
returns-clause-carry c = λ p.
    top_bit (strings_of c) (strings_small c) ∙ strings c 63 (omega arith)
    ∙ (along c.args.text.now c.args.at c.args.carry.inside c.args.carry.escaped c.equal_to-backslashes.result (quotes_of c) (fair c) 64 (omega arith)).1 (sym c.find_escaped-escaped.ensures.carry ∙ p)
