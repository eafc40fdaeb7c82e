use Rattle.std.proofs.Common.{◌+◌, ◌-◌, ◌%◌, cond, leb, refl, arith}
use Rattle.std.proofs.lemmas.Simd.{zip2_splat, zip2_of_maps, splat_is_map}
use Rattle.json_lexemes.specs.Grammar.{is_no_digit}
use Rattle.json_lexemes.proofs.Wide.{shifted, mask_is}
use Rattle.json_lexemes.proofs.leaves.NonDigitSought.mask.Goals as goal

pub returns : goal.returns
returns c =
    let v = c.args.bytes in
    let long = c.fits-bytes.0 in
    mask_is shifted is_no_digit refl v _ (omega arith) c.fits-bytes.1 (zip2_of_maps (λ a b. cond (leb a b) 255 0) _ _ v (splat_is_map v 16 10 long) (zip2_splat (λ a b. (a + (256 - b)) % 256) v 16 48 long))
