-- For private clauses: what a run keeps to take its operations back.
use Rattle.std.specs.Prelude.{◌≡◌, ◌+◌, ℕ, zero, suc, List, [], ◌∷◌, ◌++◌, length, map, true}
use Rattle.std.specs.String.{string_bytes}
use Rattle.json_patch_text.specs.Undos.{undo_list, undo_text}
use Rattle.json_patch_text.specs.declared.log.Log.{Log}
use Rattle.json_patch_text.specs.declared.undo.Undo.{Undo}

-- what stands before an element of this number
abbrev pub comma_before : ℕ → List ℕ
comma_before zero = []
comma_before (suc n) = 44 ∷ []

-- the log has the texts of these, and the length of their list's
abbrev pub HasLog : Log → List Undo → Type 0
HasLog l us = (map string_bytes l.texts.items ≡ map undo_text us) × (l.size ≡ length (undo_list us))

-- vs are logged behind the others
abbrev pub AreLogged : Log → List Undo → Log → Type 0
AreLogged old vs new = (us : List Undo) → HasLog old us → HasLog new (us ++ vs)

-- what is so is logged, if anything is to be
abbrev pub Logs : Log → (List Undo → Type 0) → Log → Type 0
Logs old Is new = (new.kept ≡ old.kept) × (old.kept ≡ true → (vs : List Undo) × Is vs × AreLogged old vs new)

-- the cost is so many bytes more
abbrev pub Counts : Log → (ℕ → Type 0) → Log → Type 0
Counts old Are new = (n : ℕ) × Are n × (new.cost ≡ old.cost + n)
