use Rattle.std.proofs.Common.{sym, arith}
use Rattle.std.proofs.lemmas.List.{map-set}
use Rattle.memories.specs.Typed.{typed_cell}
use Rattle.memories.proofs.records.CellRecordsMemory.write.Goals as goal

pub returns-then-is_type-clause-after : goal.returns-then-is_type-clause-after
returns-then-is_type-clause-after c =
    grind (arith, map-set, c.put.ensures, typed_cell c.args.value (sym c.if-is_type.ensures))
