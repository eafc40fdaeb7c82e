use Rattle.std.proofs.Common.{cond, eqb, refl, ap, ◌∙◌, arith}
use Rattle.std.proofs.lemmas.Simd.{zip2_splat, zip2_of_maps, splat_is_map}
use lib.Bits.{bit_or}
use Rattle.json.specs.Scan.{test}
use Rattle.json_lexemes.specs.Blocks.{is_opening}
use Rattle.json_lexemes.proofs.Bits.{test_mask}
use Rattle.json_lexemes.proofs.Wide.{mask_is}
use Rattle.json_lexemes.proofs.masks.openings.Goals as goal

pub returns : goal.returns
returns c i h =
    let v = c.args.v in
    let long = c.fits-v.0 in
    ap (λ n. test n i)
    (mask_is (λ x. cond (eqb (bit_or x 32) 123) 255 0) is_opening refl v _ (omega (arith, long)) c.fits-v.1
    (zip2_of_maps (λ a b. cond (eqb a b) 255 0) _ _ v (zip2_splat bit_or v 64 32 long) (splat_is_map v 64 123 long)))
    ∙ test_mask is_opening v i (omega (arith, long))
