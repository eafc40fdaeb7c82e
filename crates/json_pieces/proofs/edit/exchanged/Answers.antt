use Rattle.std.proofs.Common.{◌≡◌, ℕ, List, [], ◌++◌, ◌∙◌, ap, append_assoc}
use Rattle.json_pieces.specs.Nodes.{tree_text, view}
use Rattle.json_pieces.proofs.Walks.{exchange_is, exchange_whole}
use Rattle.json_pieces.proofs.edit.exchanged.Goals as goal

-- what is written one behind the other
joined : (a b d none first second all : List ℕ) → none ≡ [] → first ≡ none ++ a → second ≡ first ++ b → all ≡ second ++ d → all ≡ a ++ (b ++ d)
joined a b d none first second all e f g h = h ∙ ap (λ l. l ++ d) (g ∙ ap (λ l. l ++ b) (f ∙ ap (λ l. l ++ a) e)) ∙ append_assoc a b d

pub returns-clause-text : goal.returns-clause-text
returns-clause-text c =
    let said = c.requires.text in
    let value = c.requires.value.1 in
    let whole = rw c.in-Some.is at c.in_ok-before.ensures.whole in
    let stands = rw c.in-Some.is at (c.in_ok-before.ensures.stands said.0 said.1.0) in
    exchange_whole c.args.text.now c.in-Some.before.now c.in-Some.own.now c.in-Some.behind.now (tree_text (view c.args.value.now)) _ _ said.0 whole stands
    (joined _ _ _ _ _ _ _ c.in_ok-new.ensures.bytes c.in_ok-push_str.ensures.bytes c.in_ok-write.ensures c.in_ok-push_str-2.ensures.bytes) value.0 said.1 value.1

pub returns-clause-exchanges : goal.returns-clause-exchanges
returns-clause-exchanges c = λ j says.
    let whole = rw c.in-Some.is at c.in_ok-before.ensures.whole in
    let stands = rw c.in-Some.is at (c.in_ok-before.ensures.stands j says) in
    exchange_is c.args.text.now c.in-Some.before.now c.in-Some.own.now c.in-Some.behind.now (tree_text (view c.args.value.now)) _ _ j whole stands
    (joined _ _ _ _ _ _ _ c.in_ok-new.ensures.bytes c.in_ok-push_str.ensures.bytes c.in_ok-write.ensures c.in_ok-push_str-2.ensures.bytes)
