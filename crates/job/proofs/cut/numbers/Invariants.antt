use Rattle.job.specs.Pieces.{further}
use Rattle.job.proofs.Fields.{Taken}
use Rattle.job.proofs.cut.numbers.Given as goal

abbrev pub invariant-loop-place : goal.invariant-loop-place
invariant-loop-place g l = Taken g.row.N (further 44 l.pieces) l.place-items l.place-index (further 44 l.rest)
