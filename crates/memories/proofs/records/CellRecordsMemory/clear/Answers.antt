use Rattle.std.proofs.Common.{arith}
use Rattle.std.proofs.lemmas.List.{map-set}
use Rattle.memories.proofs.records.CellRecordsMemory.clear.Goals as goal

pub returns-clause-after : goal.returns-clause-after
returns-clause-after c = grind (arith, map-set, c.put.ensures, c.default.ensures)
