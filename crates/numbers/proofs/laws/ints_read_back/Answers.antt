use Rattle.std.proofs.Common.{w32, to_z}
use Rattle.numbers.proofs.Reading.{reads, small}
use Rattle.numbers.proofs.laws.ints_read_back.Goals as goal

pub returns : goal.returns
returns c = λ word h. reads (to_z w32 word) (small word h)
