-- What a draft leads back to, over several calls.
use Rattle.std.proofs.Common.{◌≡◌, arith, refl, subst}
use Rattle.std.specs.Prelude.{codes}
use Rattle.json.specs.Json.{Json, array, no_items}
use Rattle.json.specs.Lex.{lex}
use Rattle.json_lexemes.specs.Spelled.{IsShallowText}
use Rattle.json_pieces.specs.Whole.{KeepsBack}
use Rattle.json_pieces.specs.declared.pieces.Pieces.{Pieces as InPieces}
use Rattle.json_patch_text.specs.Drafts.{IsInPieces, KeepsDraft}
use Rattle.json_patch_text.specs.declared.draft.Draft.{Draft}
use Rattle.json_patch_text.specs.declared.draft.Draft.TheVariants.{Whole, Pieces}

pub kept_first : (d : Draft) → KeepsDraft d d
kept_first (Whole a) = tt
kept_first (Pieces p) = (λ t h. h, λ t h. h)

pub kept_more : (d e f : Draft) → KeepsDraft d e → KeepsDraft e f → KeepsDraft d f
kept_more (Whole a) (Whole b) (Whole x) h k = tt
kept_more (Whole a) (Whole b) (Pieces x) h k = absurd k
kept_more (Whole a) (Pieces b) f h k = absurd h
kept_more (Pieces a) (Whole b) f h k = absurd h
kept_more (Pieces a) (Pieces b) (Whole x) h k = absurd k
kept_more (Pieces a) (Pieces b) (Pieces x) h k = (λ t g. k.0 t (h.0 t g), λ t g. k.1 t (h.1 t g))

-- a text in pieces stays one
pub in_pieces : (p : InPieces) (d : Draft) → KeepsDraft (Pieces p) d → IsInPieces d
in_pieces p (Whole a) h = absurd h
in_pieces p (Pieces q) h = tt

pub pieces_kept : (p q : InPieces) (d : Draft) → KeepsDraft (Pieces p) d → d ≡ Pieces q → KeepsBack p q
pieces_kept p q d h e = subst (KeepsDraft (Pieces p)) e h

-- what stands in the place of the pieces
pub nothing_there : (j : Json) × IsShallowText (codes "[]") j
unfolding lex
nothing_there = (array no_items, (refl, omega arith))
