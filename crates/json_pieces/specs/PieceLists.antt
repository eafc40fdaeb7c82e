-- The pieces of a row with one changed, taken out or put in.
use Rattle.std.specs.Prelude.{ℕ, zero, suc, List, [], ◌∷◌, ◌++◌, take, drop}
use Rattle.json_text.specs.Cuts.{Piece}
use Rattle.json_text.specs.Styled.{colons_like, whitespace_like}

-- with another value's text, with other whitespace before it, and with other behind it
abbrev pub valued : List ℕ → Piece → Piece
valued s p = record { whitespace = p.whitespace; name = p.name; colons = p.colons; value = s; trail = p.trail }

abbrev pub led : List ℕ → Piece → Piece
led s p = record { whitespace = s; name = p.name; colons = p.colons; value = p.value; trail = p.trail }

abbrev pub trailed : List ℕ → Piece → Piece
trailed s p = record { whitespace = p.whitespace; name = p.name; colons = p.colons; value = p.value; trail = s }

-- the one of number n has the value's text s
abbrev pub with_value : ℕ → List ℕ → List Piece → List Piece
with_value n s [] = []
with_value zero s (p ∷ ps) = valued s p ∷ ps
with_value (suc n) s (p ∷ ps) = p ∷ with_value n s ps

-- behind the last stands the whitespace s
abbrev pub with_last_trail : List ℕ → List Piece → List Piece
with_last_trail s [] = []
with_last_trail s (p ∷ []) = trailed s p ∷ []
with_last_trail s (p ∷ q ∷ ps) = p ∷ with_last_trail s (q ∷ ps)

-- ---- taken out

-- between these p is taken out: its whitespace goes to the next, or that behind it to the one before
abbrev pub taken_from : List Piece → Piece → List Piece → List Piece
taken_from pre p [] = with_last_trail p.trail pre
taken_from pre p (q ∷ post) = pre ++ (led p.whitespace q ∷ post)

abbrev pub taken_by : List Piece → List Piece → List Piece
taken_by pre [] = pre
taken_by pre (p ∷ post) = taken_from pre p post

-- without the one of number n
abbrev pub taken : ℕ → List Piece → List Piece
taken n ps = taken_by (take n ps) (drop n ps)

-- ---- put in

-- what comes behind p as p does, by the text of its name and of its value; and what comes alone in a row with this whitespace
abbrev pub member_like : Piece → List ℕ → List ℕ → Piece
member_like p name s = record { whitespace = whitespace_like p.whitespace; name = name; colons = colons_like p.colons; value = s; trail = p.trail }

abbrev pub member_alone : List ℕ → List ℕ → List ℕ → Piece
member_alone hollow name s = record { whitespace = []; name = name; colons = 58 ∷ []; value = s; trail = hollow }

abbrev pub element_between : List ℕ → List ℕ → List ℕ → Piece
element_between whitespace s trail = record { whitespace = whitespace; name = []; colons = []; value = s; trail = trail }

-- a member more behind the last
abbrev pub member_pushed : List ℕ → List ℕ → List ℕ → List Piece → List Piece
member_pushed hollow name s [] = member_alone hollow name s ∷ []
member_pushed hollow name s (p ∷ []) = trailed [] p ∷ member_like p name s ∷ []
member_pushed hollow name s (p ∷ q ∷ ps) = p ∷ member_pushed hollow name s (q ∷ ps)

-- an element more behind the last
abbrev pub element_pushed : List ℕ → List ℕ → List Piece → List Piece
element_pushed hollow s [] = element_between [] s hollow ∷ []
element_pushed hollow s (p ∷ []) = trailed [] p ∷ element_between (whitespace_like p.whitespace) s p.trail ∷ []
element_pushed hollow s (p ∷ q ∷ ps) = p ∷ element_pushed hollow s (q ∷ ps)

-- the whitespace like which that of the element p between these is once another stands before it: of the first the second's
abbrev pub neighbour_whitespace : List Piece → Piece → List Piece → List ℕ
neighbour_whitespace [] p [] = p.whitespace
neighbour_whitespace [] p (q ∷ post) = q.whitespace
neighbour_whitespace (o ∷ pre) p post = p.whitespace

abbrev pub element_put_by : List ℕ → List Piece → List Piece → List Piece
element_put_by s pre [] = pre
element_put_by s pre (p ∷ post) = pre ++ (element_between p.whitespace s [] ∷ led (whitespace_like (neighbour_whitespace pre p post)) p ∷ post)

-- an element more before the one of number n
abbrev pub element_put : ℕ → List ℕ → List Piece → List Piece
element_put n s ps = element_put_by s (take n ps) (drop n ps)
