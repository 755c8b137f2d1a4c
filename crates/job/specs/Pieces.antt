-- What is left of a text after a mark.
use Rattle.std.specs.Prelude.{ℕ, suc, List, [], length, Some, None, Option}
use Rattle.std.specs.Borrow.{Bor}
use Rattle.job.specs.Lines.{cut}

-- the pieces that follow
abbrev pub further : ℕ → Option (Bor (List ℕ)) → List (List ℕ)
further mark None = []
further mark (Some text) = cut mark text.now

abbrev pub rest_length : Option (Bor (List ℕ)) → ℕ
rest_length None = 0
rest_length (Some text) = suc (length text.now)
