use Rattle.runner.specs.Calls.{is_open, seen}
use Rattle.job.proofs.Spent.{Spending}
use Rattle.job.proofs.run.spend.Given as goal

abbrev pub invariant-loop-left : goal.invariant-loop-left
invariant-loop-left g l =
    Spending l.table l.notes l.steps (seen l.initial.session (g.M.Memory.cells l.initial.memory)) l.left (is_open l.session)
    (seen l.session (g.M.Memory.cells l.memory))

abbrev pub decreases-loop-left : goal.decreases-loop-left
decreases-loop-left g l = l.left
