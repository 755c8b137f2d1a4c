-- The numbers that hosts know traps and verdicts by.
use Rattle.std.specs.Prelude.{ℕ, ℤ, pos}
use Rattle.runner.specs.declared.trap.Trap.{Trap}
use Rattle.runner.specs.declared.trap.Trap.TheVariants.{OutputFull, TooDeep, NoRule}
use Rattle.runner.specs.declared.verdict.Verdict.{Verdict}
use Rattle.runner.specs.declared.verdict.Verdict.TheVariants.{Running, Ended, Trapped}

abbrev pub trap_number : Trap → ℕ
trap_number OutputFull = 9
trap_number TooDeep = 10
trap_number NoRule = 11

abbrev pub verdict_number : Verdict → ℕ
verdict_number Running = 0
verdict_number (Ended value) = 1
verdict_number (Trapped trap place) = 2

-- 0 while it runs, main's answer, or the trap's number
abbrev pub verdict_value : Verdict → ℤ
verdict_value Running = pos 0
verdict_value (Ended value) = value
verdict_value (Trapped trap place) = pos (trap_number trap)
