use Rattle.std.proofs.Common.{cond, eqb, ltb, refl, ap, ◌∙◌, arith}
use Rattle.std.proofs.lemmas.Simd.{zip2_splat, zip2_of_maps}
use Rattle.json.specs.Scan.{test}
use Rattle.json_lexemes.specs.Grammar.{is_stop}
use Rattle.json_lexemes.proofs.Bits.{test_mask}
use Rattle.json_lexemes.proofs.Wide.{compared, mask_is}
use Rattle.json_lexemes.proofs.stops.stop_bits.Goals as goal

pub returns : goal.returns
returns c i h =
    let v = c.args.v in
    let long = c.fits-v.0 in
    ap (λ n. test n i)
    (mask_is compared is_stop refl v _ (omega (arith, long)) c.fits-v.1
    (zip2_of_maps _ _ _ v (zip2_of_maps _ _ _ v (zip2_splat (λ a b. cond (eqb a b) 255 0) v 64 34 long) (zip2_splat (λ a b. cond (eqb a b) 255 0) v 64 92 long)) (zip2_splat (λ a b. cond (ltb a b) 255 0) v 64 32 long)))
    ∙ test_mask is_stop v i (omega (arith, long))
