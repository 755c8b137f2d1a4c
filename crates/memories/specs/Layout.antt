-- Cells in bytes: five bytes a cell, its type and then its word, high byte first.
use Rattle.std.specs.Prelude.{ℕ, ◌+◌, ◌*◌, ◌/◌, ◌%◌, List, [], ◌∷◌, Option, slice_set}
use Rattle.memories.specs.declared.value.Value.{Value}
use Rattle.memories.specs.Cells.{record_cell}

-- what five bytes mean
abbrev pub byte_cell : ℕ → ℕ → ℕ → ℕ → ℕ → Option Value
byte_cell t a b c d = record_cell (record { ty = t; word = a * 16777216 + b * 65536 + c * 256 + d })

-- a row of bytes: a cell for each five of them; a rest of fewer is no cell
unfoldable pub byte_cells : List ℕ → List (Option Value)
byte_cells [] = []
byte_cells (t ∷ []) = []
byte_cells (t ∷ a ∷ []) = []
byte_cells (t ∷ a ∷ b ∷ []) = []
byte_cells (t ∷ a ∷ b ∷ c ∷ []) = []
byte_cells (t ∷ a ∷ b ∷ c ∷ d ∷ rest) = byte_cell t a b c d ∷ byte_cells rest

-- the bytes once the five of cell i hold a type and a word
abbrev pub put_cell : List ℕ → ℕ → Value → List ℕ
put_cell bytes i v =
    let ty = slice_set bytes (5 * i) v.ty in
    let first = slice_set ty (5 * i + 1) (v.word / 16777216 % 256) in
    let second = slice_set first (5 * i + 2) (v.word / 65536 % 256) in
    let third = slice_set second (5 * i + 3) (v.word / 256 % 256) in
    slice_set third (5 * i + 4) (v.word % 256)
