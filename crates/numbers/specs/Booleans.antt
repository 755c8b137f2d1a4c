-- Booleans as words.
use Rattle.std.specs.Prelude.{ℕ, Bool, not, ◌==◌}

-- the boolean of a word
abbrev pub holds : ℕ → Bool
holds word = not (word == 0)
