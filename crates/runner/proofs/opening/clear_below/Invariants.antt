use Rattle.std.proofs.Common.{◌≡◌, length, take, drop, replicate, None}
use Rattle.runner.proofs.opening.clear_below.Given as goal

abbrev pub invariant-loop-cell : goal.invariant-loop-cell
invariant-loop-cell g l =
    (length (g.M.Memory.cells l.memory) ≡ length (g.M.Memory.cells l.initial.memory))
    × (take l.cell (g.M.Memory.cells l.memory) ≡ replicate l.cell None)
    × (drop l.limit (g.M.Memory.cells l.memory) ≡ drop l.limit (g.M.Memory.cells l.initial.memory))
