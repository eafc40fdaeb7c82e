use Rattle.std.proofs.Common.{◌≡◌, ◌++◌, ◌∷◌, [], List, ℕ, ap, ap₂, ◌∙◌, append-nil}
use Rattle.json.specs.Print.{print, print_from, quoted}
use Rattle.json.specs.Token.{Token, string}
use Rattle.json_text.proofs.growing.quoted.Goals as goal

printed : (k : List ℕ) → print (string k ∷ []) ≡ quoted k
unfolding print_from
printed k = append-nil (quoted k)

one_printed : (before items k : List ℕ) (tokens : List Token) → items ≡ before ++ print tokens → before ≡ [] → tokens ≡ string k ∷ [] → items ≡ quoted k
one_printed before items k tokens e b t = e ∙ ap₂ (λ x y. x ++ print y) b t ∙ printed k

pub returns : goal.returns
returns c = ap (λ v. v.items) c.in-Ok.ensures.ok ∙ one_printed _ _ c.args.name.now _ c.into_inner.ensures.items (c.string.ensures.room.0 ∙ c.new-out.ensures.before ∙ c.new.ensures.items) (c.in_ok-string.ensures.ok ∙ ap (λ ts. ts ++ string c.args.name.now ∷ []) c.new-out.ensures.tokens)
