-- Why every value that is seen has a type from 1 to 6, in each kind of memory.
use Rattle.std.specs.Prelude.{◌≡◌, ℕ, zero, suc, ◌+◌, ◌*◌, true, false, List, [], ◌∷◌, drop, Some, None, Option}
use Rattle.std.proofs.Common.{sym, ◌∙◌, inl, inr, arith}
use Rattle.std.proofs.lemmas.List.{get_or-drop}
use Rattle.std.proofs.lemmas.Bool.{cases_Bool}
use Rattle.memories.specs.declared.value.Value.{Value}
use Rattle.memories.specs.Cells.{typed, AllTyped, record_cell, record_cells}
use Rattle.memories.specs.Layout.{byte_cells}

-- a place with a type is a value
pub typed_cell : (v : Value) → typed v.ty ≡ true → record_cell v ≡ Some v
typed_cell v h = rw h

-- a place with none is unset
pub untyped_cell : (v : Value) → typed v.ty ≡ false → record_cell v ≡ None
untyped_cell v h = rw h

-- a place that is seen as a value has a type
pub seen_typed : (v w : Value) → record_cell v ≡ Some w → typed w.ty ≡ true
seen_typed v w e =
    elim (cases_Bool (typed v.ty)) [
      | inl t ↦ let s = typed_cell v t in let q : v ≡ w = cc in rw q at t
      | inr f ↦ let s = untyped_cell v f in let z : ◌≡◌ {A = ℕ} 0 1 = cc in absurd (omega arith)
    ]

-- where there is no cell there is no value
pub nothing_typed : AllTyped []
nothing_typed i w e = let z : ◌≡◌ {A = ℕ} 0 1 = cc in absurd (omega arith)

-- in records
pub records_typed : (vs : List Value) → AllTyped (record_cells vs)
records_typed [] i w e = nothing_typed i w e
records_typed (v ∷ vs) zero w e = seen_typed v w e
records_typed (v ∷ vs) (suc i) w e = records_typed vs i w e

-- in bytes
pub bytes_typed : (bytes : List ℕ) → AllTyped (byte_cells bytes)
unfolding byte_cells
bytes_typed [] i w e = nothing_typed i w e
bytes_typed (t ∷ []) i w e = nothing_typed i w e
bytes_typed (t ∷ a ∷ []) i w e = nothing_typed i w e
bytes_typed (t ∷ a ∷ b ∷ []) i w e = nothing_typed i w e
bytes_typed (t ∷ a ∷ b ∷ c ∷ []) i w e = nothing_typed i w e
bytes_typed (t ∷ a ∷ b ∷ c ∷ d ∷ rest) zero w e =
    seen_typed (record { ty = t; word = a * 16777216 + b * 65536 + c * 256 + d }) w e
bytes_typed (t ∷ a ∷ b ∷ c ∷ d ∷ rest) (suc i) w e = bytes_typed rest i w e

-- in a window, where it is so below
pub window_typed : (shift : ℕ) (cells : List (Option Value)) → AllTyped cells → AllTyped (drop shift cells)
window_typed shift cells all i v e = all (shift + i) v (sym (get_or-drop shift cells i None) ∙ e)
