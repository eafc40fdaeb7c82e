use Rattle.std.proofs.Common.{cond, eqb, refl, arith}
use Rattle.std.proofs.lemmas.Simd.{zip2_splat, zip2_of_maps, splat_is_map}
use lib.Bits.{bit_or}
use Rattle.json_lexemes.specs.Runs.{is_mark}
use Rattle.json_lexemes.proofs.Wide.{marked, mask_is}
use Rattle.json_lexemes.proofs.lexemes.MarkSought.mask.Goals as goal

pub returns : goal.returns
returns c =
    let v = c.args.bytes in
    let long = c.fits-bytes.0 in
    mask_is marked is_mark refl v _ (omega (arith, long)) c.fits-bytes.1
    (zip2_of_maps _ _ _ v
    (zip2_of_maps _ _ _ v
    (zip2_of_maps (λ a b. cond (eqb a b) 255 0) _ _ v (zip2_splat bit_or v 16 32 long) (splat_is_map v 16 123 long))
    (zip2_of_maps (λ a b. cond (eqb a b) 255 0) _ _ v (zip2_splat bit_or v 16 32 long) (splat_is_map v 16 125 long)))
    (zip2_splat (λ a b. cond (eqb a b) 255 0) v 16 34 long))
