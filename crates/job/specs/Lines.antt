-- A text in pieces, and a line as its letter and its numbers.
use Rattle.std.specs.Prelude.{ℕ, zero, suc, Bool, false, if◌then◌else◌, ◌&&◌, List, [], ◌∷◌, length, Some, None, Option, ◌==◌, nat_le}
use Rattle.std.specs.List.{slice_split}
use Rattle.std.specs.Str.Parse.{digits_value}
use Rattle.std.specs.Str.{all_ascii_digits}

-- the pieces of a text between its marks: one more than it has marks
abbrev pub cut : ℕ → List ℕ → List (List ℕ)
cut mark text = slice_split (λ byte. byte == mark) text

-- a number is written by 1 to 13 decimal digits
abbrev pub written : List ℕ → Bool
written piece = nat_le 1 (length piece) && (nat_le (length piece) 13 && all_ascii_digits piece)

abbrev pub number_of : List ℕ → Option ℕ
number_of piece = if written piece then Some (digits_value 10 piece) else None

-- a number before others, where all are there
abbrev pub and_numbers : Option ℕ → Option (List ℕ) → Option (List ℕ)
and_numbers None others = None
and_numbers (Some n) None = None
and_numbers (Some n) (Some ns) = Some (n ∷ ns)

-- the numbers of just so many pieces
abbrev pub numbers_of : ℕ → List (List ℕ) → Option (List ℕ)
numbers_of zero [] = Some []
numbers_of zero (piece ∷ pieces) = None
numbers_of (suc count) [] = None
numbers_of (suc count) (piece ∷ pieces) = and_numbers (number_of piece) (numbers_of count pieces)

-- a piece that is this letter alone
abbrev pub is_letter : ℕ → List ℕ → Bool
is_letter letter [] = false
is_letter letter (byte ∷ []) = byte == letter
is_letter letter (byte ∷ next ∷ more) = false

abbrev pub after_letter : (letter count : ℕ) → List (List ℕ) → Option (List ℕ)
after_letter letter count [] = None
after_letter letter count (first ∷ pieces) = if is_letter letter first then numbers_of count pieces else None

-- the numbers of a line that is this letter and then so many fields, parted by commas
abbrev pub fields_of : (letter count : ℕ) → List ℕ → Option (List ℕ)
fields_of letter count line = after_letter letter count (cut 44 line)
