use Rattle.job.proofs.Digits.{Read}
use Rattle.job.proofs.cut.number.Given as goal

abbrev pub invariant-loop-byte : goal.invariant-loop-byte
invariant-loop-byte l = Read l.piece l.byte-index l.value
