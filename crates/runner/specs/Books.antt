-- What is told of a session.
use Rattle.std.specs.Prelude.{ℕ, List, ℤ}
use Rattle.runner.specs.declared.verdict.Verdict.{Verdict}
use Rattle.runner.specs.declared.verdict.Verdict.TheVariants.{Running, Ended, Trapped}
use Rattle.runner.specs.State.{State, Cell}
use Rattle.runner.specs.Verdicts.{verdict_number, verdict_value}

-- the node of the trap, or else the one begun last
abbrev pub place_of : Verdict → ℕ → ℕ
place_of Running last = last
place_of (Ended value) last = last
place_of (Trapped trap place) last = place

pub record Books : Type 0 where
  pub steps : ℕ
  -- 0 running, 1 ended, 2 trapped
  pub verdict : ℕ
  -- 0, main's answer, or the trap's number
  pub value : ℤ
  pub place : ℕ
  -- how many inputs are taken
  pub taken : ℕ
  pub output : List ℕ
  -- those below the limit
  pub cells : List Cell

abbrev pub books_of : State → Books
books_of s = record {
  steps = s.steps;
  verdict = verdict_number s.core.verdict;
  value = verdict_value s.core.verdict;
  place = place_of s.core.verdict s.last;
  taken = s.core.world.taken;
  output = s.core.world.output;
  cells = s.cells;
}
