use Rattle.std.proofs.Common.{◌≡◌, ◌∷◌}
use Rattle.job.specs.Lines.{cut}
use Rattle.job.specs.Pieces.{further, rest_length}
use Rattle.job.specs.Format.{later_lines}
use Rattle.job.specs.Meant.{meant}
use Rattle.job.proofs.sheet.Sheet.add_lines.Given as goal

abbrev pub invariant-loop-first : goal.invariant-loop-first
invariant-loop-first l = later_lines (meant l.initial.self) (cut 10 l.text) ≡ later_lines (meant l.self) (l.first.piece.now ∷ further 10 l.first.rest)

abbrev pub decreases-loop-first : goal.decreases-loop-first
decreases-loop-first l = rest_length l.first.rest
