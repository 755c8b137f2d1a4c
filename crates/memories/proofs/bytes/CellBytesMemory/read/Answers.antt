use Rattle.std.proofs.Common.{sym, ◌∙◌, arith}
use Rattle.std.proofs.lemmas.List.{get_or_past}
use Rattle.memories.specs.Layout.{byte_cells}
use Rattle.memories.proofs.Fives.{length_bytes, seen_chunk}
use Rattle.memories.proofs.bytes.CellBytesMemory.read.Goals as goal

pub returns-in_err-ty : goal.returns-in_err-ty
returns-in_err-ty c =
    let l = length_bytes c.args.self.now.bytes.now in
    c.from_residual.ensures ∙ sym (get_or_past (byte_cells c.args.self.now.bytes.now) c.args.cell _ (omega (arith, c.as_chunks.ensures.front_len, c.in_err-ty.ensures.lookup.3)))

pub returns : goal.returns
returns c =
    c.seen.ensures
    ∙ seen_chunk c.args.self.now.bytes.now c.in_ok-ty.field-0.now _ _ _ c.as_chunks.ensures.front
    (omega (arith, c.as_chunks.ensures.front_len, c.in_ok-ty.ensures.lookup.3))
    c.in_ok-ty.ensures.lookup.1 c.from_be_bytes-word.ensures
