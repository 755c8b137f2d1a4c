use Rattle.std.proofs.Common.{arith}
use Rattle.std.proofs.lemmas.List.{drop-set-add}
use Rattle.memories.proofs.window.WindowMemory.clear.Goals as goal

pub returns-in-Some-clause-after : goal.returns-in-Some-clause-after
returns-in-Some-clause-after g c = grind (arith, drop-set-add, c.clear.ensures.after, c.in-Some.ensures)
