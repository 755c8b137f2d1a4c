use Rattle.std.proofs.Common.{sym, ◌∙◌}
use Rattle.std.proofs.lemmas.List.{take_rest}
use Rattle.job.proofs.Pieces.{cut_found, cut_unfound}
use Rattle.job.proofs.cut.cut_first.Goals as goal

pub returns-in-Some-clause-pieces : goal.returns-in-Some-clause-pieces
returns-in-Some-clause-pieces c =
    simp take_rest (cut_found c.args.mark c.args.bytes.now c.in-Some.at (sym c.in-Some.is ∙ c.first_mark.ensures))

pub returns-in-None-clause-pieces : goal.returns-in-None-clause-pieces
returns-in-None-clause-pieces c = cut_unfound c.args.mark c.args.bytes.now (sym c.in-None.is ∙ c.first_mark.ensures)
