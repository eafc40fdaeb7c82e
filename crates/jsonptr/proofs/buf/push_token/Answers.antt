use Rattle.jsonptr.proofs.Texts.{encoded_push, written}
use Rattle.jsonptr.proofs.buf.push_token.Goals as goal

pub loop-c-preserved : goal.loop-c-preserved
loop-c-preserved c = written _ _ _ _ _ _ c.loop-c.invariant c.in_ok-push_encoded.ensures (encoded_push _ _)
