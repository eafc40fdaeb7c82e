-- A struct that C hands in, by a pointer that may be null.
use Rattle.std.specs.Prelude.{ℕ, ◌/◌, List, Option, Some, None, min}
use base.Fml.{Fml, Share, ftrue, fsep, fex, feq}
use denote.Array.{Array}
use denote.Builtin.{usize}
use denote.RawPtr.{Ptr, null_ptr, Testable, lies_at}

-- the size in bytes, as the first word says it, and the words that are read, the first among them
pub record Given : Type 0 where
  pub size : ℕ
  pub words : List ℕ

-- how many words are read: those that the size covers, of the 32 bytes that are known
abbrev pub word_count : ℕ → ℕ
word_count size = min size 32 / 8

-- Nothing where the pointer is null, and else a share of the size and of the words, so that others may read them too. The
-- place may be compared with null, as each place in an object of C may.
abbrev pub readable : Ptr → Option Given → Fml
readable p None = feq Ptr p null_ptr
readable p (Some g) = fsep (fex (Testable p) (λ _. ftrue)) (fsep (fex Share (λ q. lies_at usize q p g.size))
    (fex Share (λ q. lies_at (Array usize (word_count g.size)) q p g.words)))
