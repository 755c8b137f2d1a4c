-- What is printed, and how much of it fits.
use Rattle.std.specs.Prelude.{ℕ, ◌+◌, Bool, List, ◌++◌, length, nat_le}
use Rattle.numbers.specs.declared.text.Ending.TheVariants.{Newline}
use Rattle.numbers.specs.Shown.{ending_text}
pub use Rattle.numbers.specs.Printed.{int_text}

abbrev pub newline : List ℕ
newline = ending_text Newline

-- a text and a newline
abbrev pub line_of : List ℕ → List ℕ
line_of text = text ++ newline

-- 4,096 bytes are all that is printed
abbrev pub output_fits : List ℕ → List ℕ → Bool
output_fits output text = nat_le (length output + length text) 4096
