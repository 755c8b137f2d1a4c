use Rattle.std.proofs.Common.{◌≡◌, ◌+◌, take, drop}
use Rattle.runner.specs.State.{view}
use Rattle.runner.specs.Run.{ran}
use Rattle.runner.proofs.step.walk.Given as goal

abbrev pub invariant-loop-count : goal.invariant-loop-count
invariant-loop-count g l =
    (view l.course (take l.limit (g.M.Memory.cells l.memory))
    ≡ ran l.script.table.now l.script.notes.now l.count (view l.initial.course (take l.limit (g.M.Memory.cells l.initial.memory))))
    × (l.course.steps ≡ l.initial.course.steps + l.count)
    × (drop l.limit (g.M.Memory.cells l.memory) ≡ drop l.limit (g.M.Memory.cells l.initial.memory))
