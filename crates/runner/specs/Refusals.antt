-- The numbers that hosts know refusals by, and what they name.
use Rattle.std.specs.Prelude.{ℕ, Some, None, Option}
use Rattle.checker.specs.Questions.{question_number}
use Rattle.checker.specs.declared.refusal.Refusal.{Refusal}
use Rattle.runner.specs.declared.refusal.OpenRefusal.{OpenRefusal}
use Rattle.runner.specs.declared.refusal.OpenRefusal.TheVariants.{Check, CellLimit, Inputs}
use Rattle.runner.specs.declared.refusal.GrantRefusal.{GrantRefusal}
use Rattle.runner.specs.declared.refusal.GrantRefusal.TheVariants.{NotOpen, GrantTooLarge, TooManySteps}

abbrev pub open_number : OpenRefusal → ℕ
open_number (Check e) = question_number e.question
open_number CellLimit = 31
open_number Inputs = 32

-- what the check refused, if it was the check
abbrev pub of_check : OpenRefusal → Option Refusal
of_check (Check e) = Some e
of_check CellLimit = None
of_check Inputs = None

-- the node that is refused, and its line, or 0
abbrev pub open_node : OpenRefusal → ℕ
open_node (Check e) = e.node
open_node CellLimit = 0
open_node Inputs = 0

abbrev pub open_line : OpenRefusal → ℕ
open_line (Check e) = e.line
open_line CellLimit = 0
open_line Inputs = 0

abbrev pub grant_number : GrantRefusal → ℕ
grant_number NotOpen = 40
grant_number GrantTooLarge = 41
grant_number TooManySteps = 42
