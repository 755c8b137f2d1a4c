use Rattle.memories.proofs.Fives.{put_row}
use Rattle.memories.proofs.bytes.CellBytes.put.Goals as goal

pub returns-then-inside-clause-bytes : goal.returns-then-inside-clause-bytes
returns-then-inside-clause-bytes c =
    put_row _ _ _ _ c.args.value c.if-inside.true c.to_be_bytes.ensures c.copy_from_slice.ensures.after
