-- What a pointer, a token and an iterator over tokens stand for. Only this crate's proofs unfold
-- these words: `as_str` ensures that a pointer's text is `text_of` of its tokens, and
-- `Token::encoded` that a token's text is `encoded` of what it stands for.
use Rattle.std.specs.Prelude.{ℕ, List}
use Rattle.jsonptr.specs.declared.pointer.Pointer.{Pointer}
use Rattle.jsonptr.specs.declared.token.Token.{Token}
use Rattle.jsonptr.specs.declared.token.Tokens.{Tokens}
use Rattle.jsonptr.specs.Scanning.{tokens_of_text}
use Rattle.jsonptr.specs.Text.{decoded}

-- the tokens of a pointer
unfoldable pub tokens_of : Pointer → List (List ℕ)
tokens_of p = tokens_of_text p.text.now

-- the text that a token stands for
unfoldable pub token_of : Token → List ℕ
token_of t = decoded t.text.now

-- the tokens that an iterator has left
unfoldable pub tokens_left : Tokens → List (List ℕ)
tokens_left i = tokens_of i.rest
