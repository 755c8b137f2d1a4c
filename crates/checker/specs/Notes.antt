-- The notes of a table: one for each node, by its number.
use Rattle.std.specs.Prelude.{ℕ, zero, suc, ◌-◌, false, List, [], ◌∷◌, slice_set}
use Rattle.checker.specs.declared.note.Note.{Note}

-- nothing is noted
abbrev pub unnoted : Note
unnoted = record { ty = 0; turned = false; declaration = 0 }

-- the note of node n is now x
abbrev pub put : ℕ → Note → List Note → List Note
put n x notes = slice_set notes (n - 1) x

-- the first count notes are taken back
abbrev pub cleared : ℕ → List Note → List Note
cleared zero notes = notes
cleared (suc n) [] = []
cleared (suc n) (x ∷ notes) = unnoted ∷ cleared n notes
