use Rattle.std.proofs.Common.{◌||◌, ◌==◌, cond, eqb, refl, ap, ◌∙◌, arith}
use Rattle.std.proofs.lemmas.Simd.{zip2_splat, zip2_of_maps}
use lib.Bits.{bit_or}
use Rattle.json.specs.Scan.{test}
use Rattle.json_lexemes.proofs.Bits.{test_mask}
use Rattle.json_lexemes.proofs.Wide.{mask_is}
use Rattle.json_lexemes.proofs.masks.commas.Goals as goal

pub returns : goal.returns
returns c i h =
    let v = c.args.v in
    let long = c.fits-v.0 in
    ap (λ n. test n i)
    (mask_is (λ x. bit_or (cond (eqb x 44) 255 0) (cond (eqb x 58) 255 0)) (λ x. (x == 44) || (x == 58)) refl v _ (omega (arith, long)) c.fits-v.1
    (zip2_of_maps bit_or _ _ v (zip2_splat (λ a b. cond (eqb a b) 255 0) v 64 44 long) (zip2_splat (λ a b. cond (eqb a b) 255 0) v 64 58 long)))
    ∙ test_mask (λ x. (x == 44) || (x == 58)) v i (omega (arith, long))
