-- The limits of the calls. A document has at most 124 levels, so that each text that a call writes is read again: the array
-- of a document and its inverse has three levels more, and the reader of JSON reads 127.
use Rattle.std.specs.Prelude.{min}
use Rattle.json_patch.specs.Limits.{Limits}

-- of a call that is given none: what it may copy takes less than a GiB of memory
abbrev pub the_limits : Limits
the_limits = record { depth = 124; copied = 500000 }

-- of a call that is given these: no more levels than 124
abbrev pub within_most : Limits → Limits
within_most l = record l { depth = min l.depth 124 }
