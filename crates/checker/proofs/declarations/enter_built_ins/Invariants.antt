use Rattle.std.proofs.Common.{◌≡◌}
use Rattle.checker.specs.Search.{newest_first}
use Rattle.checker.specs.Scope.{built_ins}
use Rattle.checker.proofs.declarations.enter_built_ins.Given as goal

abbrev pub invariant-loop-i : goal.invariant-loop-i
invariant-loop-i l = newest_first l.place-items l.i ≡ built_ins l.i
