use Rattle.std.proofs.Common.{◌≡◌, length, take}
use Rattle.runner.specs.Newest.{held}
use Rattle.runner.specs.State.{scene}
use Rattle.runner.specs.Run.{settles}
use Rattle.runner.proofs.step.settle.Given as goal

-- What is left to settle comes to the same as the whole.
abbrev pub invariant-loop-frame : goal.invariant-loop-frame
invariant-loop-frame g l =
    settles l.script.table.now (scene l.initial.machine (take l.limit (g.M.Memory.cells l.memory))) l.initial.signal (held l.initial.machine.frames)
    ≡ settles l.script.table.now (scene l.machine (take l.limit (g.M.Memory.cells l.memory))) l.signal (held l.machine.frames)

abbrev pub decreases-loop-frame : goal.decreases-loop-frame
decreases-loop-frame g l = length l.machine.frames.items
