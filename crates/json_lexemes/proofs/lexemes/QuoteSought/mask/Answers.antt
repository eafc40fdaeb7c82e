use Rattle.std.proofs.Common.{cond, eqb, refl, arith}
use Rattle.std.proofs.lemmas.Simd.{zip2_splat}
use Rattle.json_lexemes.specs.Runs.{is_quote}
use Rattle.json_lexemes.proofs.Wide.{quoted, mask_is}
use Rattle.json_lexemes.proofs.lexemes.QuoteSought.mask.Goals as goal

pub returns : goal.returns
returns c =
    let v = c.args.bytes in
    let long = c.fits-bytes.0 in
    mask_is quoted is_quote refl v _ (omega arith) c.fits-bytes.1 (zip2_splat (λ a b. cond (eqb a b) 255 0) v 16 34 long)
