use Rattle.std.proofs.Common.{cond, eqb, ltb, refl, arith}
use Rattle.std.proofs.lemmas.Simd.{zip2_splat, zip2_of_maps}
use Rattle.json_lexemes.specs.Grammar.{is_stop}
use Rattle.json_lexemes.proofs.Wide.{compared, mask_is}
use Rattle.json_lexemes.proofs.leaves.StopSought.mask.Goals as goal

pub returns : goal.returns
returns c =
    let v = c.args.bytes in
    let long = c.fits-bytes.0 in
    mask_is compared is_stop refl v _ (omega arith) c.fits-bytes.1
    (zip2_of_maps _ _ _ v (zip2_of_maps _ _ _ v (zip2_splat (λ a b. cond (eqb a b) 255 0) v 16 34 long) (zip2_splat (λ a b. cond (eqb a b) 255 0) v 16 92 long)) (zip2_splat (λ a b. cond (ltb a b) 255 0) v 16 32 long))
