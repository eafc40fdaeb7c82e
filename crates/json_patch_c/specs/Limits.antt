-- The limits that a struct of words says.
use Rattle.std.specs.Prelude.{ℕ, eqb, cond, List, Option, Some, None, Result, Ok, Err, slice_index_or}
use Rattle.json_patch_bytes.specs.Bounds.{the_limits, within_most}
use Rattle.json_patch_c.specs.Given.{Given}
use Rattle.json_patch_c.specs.declared.given.CallLimits.{CallLimits}
use Rattle.json_patch_c.specs.declared.given.WrongSize.{WrongSize}

-- of a call that is given none
abbrev pub the_call_limits : CallLimits
the_call_limits = record { texts = the_limits; operations = None }

-- the greatest word is no limit
abbrev pub most_said : ℕ → Option ℕ
most_said n = cond (eqb n 18446744073709551615) None (Some n)

-- the words are the size, the depth, what may be copied, and how many operations there may be
abbrev pub limits_said : List ℕ → CallLimits
limits_said ws = record {
  texts = within_most (record {
    depth = slice_index_or ws 1 the_limits.depth;
    copied = slice_index_or ws 2 the_limits.copied;
  });
  operations = most_said (slice_index_or ws 3 18446744073709551615);
}

-- a struct of four words is known, and no other
abbrev pub named_limits : ℕ → List ℕ → Result CallLimits WrongSize
named_limits size ws = cond (eqb size 32) (Ok (limits_said ws)) (Err (record {}))

-- those of a call: the default ones where none are given
abbrev pub limits_of : Option Given → Result CallLimits WrongSize
limits_of None = Ok the_call_limits
limits_of (Some g) = named_limits g.size g.words
