-- What a text shows.
use Rattle.std.specs.Prelude.{ℕ, List, [], ◌∷◌}
use Rattle.numbers.specs.declared.text.Ending.{Ending}
use Rattle.numbers.specs.declared.text.Ending.TheVariants.{Nothing, Newline}
use Rattle.numbers.specs.declared.text.Text.{Text}

-- its bytes
abbrev pub shown : Text → List ℕ
shown t = t.chars.bytes

-- what stands behind a value
abbrev pub ending_text : Ending → List ℕ
ending_text Nothing = []
ending_text Newline = 10 ∷ []
