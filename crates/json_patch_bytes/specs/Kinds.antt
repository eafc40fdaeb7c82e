-- The numbers that C is told for what is at fault.
use Rattle.std.specs.Prelude.{ℕ}
use Rattle.json_patch.specs.PatchErrorKind.{PatchErrorKind}
use Rattle.json_patch.specs.PatchErrorKind.TheVariants.{TestFailed, InvalidFromPointer, InvalidPointer}
use Rattle.json_patch.specs.PatchErrorKind.TheVariants.{CannotMoveInsideItself}
use Rattle.json_patch.specs.LimitKind.{LimitKind}
use Rattle.json_patch.specs.LimitKind.TheVariants.{TooDeep, TooMuch}
use Rattle.json_patch.specs.ReadKind.{ReadKind}
use Rattle.json_patch.specs.ReadKind.TheVariants.{NotAList, NotAnObject, MissingOp, OpNotText, UnknownOp, MissingFrom, FromNotText, BadFrom, MissingPath, PathNotText, BadPath, MissingValue, ValueNotWhole}
use Rattle.json_patch_bytes.specs.declared.kinds.TheConstants.{TEST_FAILED, INVALID_FROM_POINTER, INVALID_POINTER, CANNOT_MOVE_INSIDE_ITSELF, TOO_DEEP, TOO_MUCH}
use Rattle.json_patch_bytes.specs.declared.kinds.TheConstants.{NOT_A_LIST, NOT_AN_OBJECT, MISSING_OP, OP_NOT_TEXT, UNKNOWN_OP, MISSING_FROM, FROM_NOT_TEXT, BAD_FROM, MISSING_PATH, PATH_NOT_TEXT, BAD_PATH, MISSING_VALUE, VALUE_NOT_WHOLE}

-- the kind of a refusal
abbrev pub refusal_kind : PatchErrorKind → ℕ
refusal_kind TestFailed = TEST_FAILED
refusal_kind InvalidFromPointer = INVALID_FROM_POINTER
refusal_kind InvalidPointer = INVALID_POINTER
refusal_kind CannotMoveInsideItself = CANNOT_MOVE_INSIDE_ITSELF

-- how an operation is over the limits
abbrev pub limit_kind : LimitKind → ℕ
limit_kind TooDeep = TOO_DEEP
limit_kind TooMuch = TOO_MUCH

-- why a patch can't be read, in the order in which it is looked for
abbrev pub reading_kind : ReadKind → ℕ
reading_kind NotAList = NOT_A_LIST
reading_kind NotAnObject = NOT_AN_OBJECT
reading_kind MissingOp = MISSING_OP
reading_kind OpNotText = OP_NOT_TEXT
reading_kind UnknownOp = UNKNOWN_OP
reading_kind MissingFrom = MISSING_FROM
reading_kind FromNotText = FROM_NOT_TEXT
reading_kind (BadFrom e) = BAD_FROM
reading_kind MissingPath = MISSING_PATH
reading_kind PathNotText = PATH_NOT_TEXT
reading_kind (BadPath e) = BAD_PATH
reading_kind MissingValue = MISSING_VALUE
reading_kind ValueNotWhole = VALUE_NOT_WHOLE
