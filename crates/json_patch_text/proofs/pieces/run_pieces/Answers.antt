use Rattle.json_patch_text.proofs.pieces.run_pieces.Goals as goal

pub returns-in-Ok-clause-further : goal.returns-in-Ok-clause-further
returns-in-Ok-clause-further c = λ t b. c.made_in.ensures.back.1 t (c.in_ok-mark.ensures.further t b)
