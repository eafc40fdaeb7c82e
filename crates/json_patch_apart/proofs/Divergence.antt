-- Pointers that diverge do so both ways.
use Rattle.json_patch_apart.proofs.Common.{List, [], ◌∷◌, Pointer}
use Rattle.json_patch_apart.specs.Apart.{Diverge, DivergesFrom, AllDiverge}

pub diverge_back : (P Q : Pointer) → Diverge P Q → Diverge Q P
diverge_back P Q h = (h.1, h.0)

pub diverges_nil : (Ps : List Pointer) → AllDiverge Ps []
diverges_nil [] = tt
diverges_nil (P ∷ Ps) = (tt, diverges_nil Ps)

pub diverges_cons : (Q : Pointer) (Ps Qs : List Pointer) → DivergesFrom Q Ps → AllDiverge Ps Qs → AllDiverge Ps (Q ∷ Qs)
diverges_cons Q [] Qs h g = tt
diverges_cons Q (P ∷ Ps) Qs h g = ((diverge_back Q P h.0, g.0), diverges_cons Q Ps Qs h.1 g.1)

pub all_back : (Ps Qs : List Pointer) → AllDiverge Ps Qs → AllDiverge Qs Ps
all_back [] Qs h = diverges_nil Qs
all_back (P ∷ Ps) Qs h = diverges_cons P Qs Ps h.0 (all_back Ps Qs h.1)
