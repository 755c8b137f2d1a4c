-- What a script is given, and whether it may be.
use Rattle.std.specs.Prelude.{ℕ, Bool, true, false, if◌then◌else◌, not, ◌&&◌, ◌||◌, List, length, ◌==◌, from_bits, is_nan, nat_le}
use Rattle.std.specs.List.{list_all}
use Rattle.std.specs.Float.{binary32}
use Rattle.memories.specs.declared.value.Value.{Value}
use Rattle.arrayvec.specs.ArrayVec.{ArrayVec}

abbrev pub given : ArrayVec Value → List Value
given i = i.items

-- the values as they are kept
abbrev pub kept : List Value → ArrayVec Value
kept vs = record { items = vs }

-- there is one NaN
abbrev pub lawful_float : ℕ → Bool
lawful_float word = not (is_nan (from_bits binary32 word)) || word == 0x7FC0_0000

-- a boolean (1) is 0 or 1, an int (2) any word, a float (3) any but the other NaNs; there are no more
abbrev pub lawful : Value → Bool
lawful v =
    if v.ty == 1 then nat_le v.word 1
    else if v.ty == 2 then true
    else if v.ty == 3 then lawful_float v.word
    else false

abbrev pub all_lawful : List Value → Bool
all_lawful vs = list_all lawful vs

-- at most 64 inputs, each lawful
abbrev pub acceptable : List Value → Bool
acceptable vs = nat_le (length vs) 64 && all_lawful vs
