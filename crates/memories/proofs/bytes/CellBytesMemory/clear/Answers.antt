use Rattle.std.proofs.Common.{arith}
use Rattle.memories.proofs.Fives.{put_changed}
use Rattle.memories.proofs.bytes.CellBytesMemory.clear.Goals as goal

pub returns-clause-after : goal.returns-clause-after
returns-clause-after c =
    let e = c.default.ensures in
    put_changed _ _ _ c.default.result _ _ c.put.ensures.says (omega (arith, e.1)) (rw e.0) c.put.ensures.bytes
