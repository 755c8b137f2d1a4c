use Rattle.std.proofs.Common.{sym, arith}
use Rattle.memories.specs.Typed.{typed_cell}
use Rattle.memories.proofs.Fives.{put_changed}
use Rattle.memories.proofs.bytes.CellBytesMemory.write.Goals as goal

pub returns-then-is_type-clause-after : goal.returns-then-is_type-clause-after
returns-then-is_type-clause-after c =
    put_changed _ _ c.args.cell c.args.value _ _ (grind (arith, c.put.ensures)) (omega arith) (typed_cell c.args.value (sym c.if-is_type.ensures)) (grind (arith, c.put.ensures))
