use Rattle.std.proofs.Common.{eqb, ap, ◌∙◌, arith, w8}
use Rattle.std.proofs.lemmas.Simd.{bitmask_splat}
use Rattle.json.specs.Scan.{test}
use Rattle.json_lexemes.proofs.Bits.{test_mask}
use Rattle.json_lexemes.proofs.masks.equal_to.Goals as goal

pub returns : goal.returns
returns c i h =
    ap (λ n. test n i) (bitmask_splat w8 eqb c.args.v 64 c.args.byte c.fits-v.0 (omega arith)) ∙ test_mask (λ x. eqb x c.args.byte) c.args.v i (omega (arith, c.fits-v.0))
