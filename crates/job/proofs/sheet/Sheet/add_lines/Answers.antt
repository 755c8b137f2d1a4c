use Rattle.std.proofs.Common.{◌∷◌, sym, ap, ◌∙◌}
use Rattle.std.proofs.lemmas.Result.{err_from_is_err_and}
use Rattle.job.specs.Lines.{cut}
use Rattle.job.specs.Format.{later_line, later_lines, next_line}
use Rattle.job.specs.Pieces.{further}
use Rattle.job.specs.Meant.{meant}
use Rattle.job.proofs.Sheets.{lines_on, went_wrong}
use Rattle.job.proofs.sheet.Sheet.add_lines.Goals as goal

pub returns-in_err-add_next : goal.returns-in_err-add_next
returns-in_err-add_next c =
    let line = c.loop-first.first.piece.now in
    let s = meant c.loop-first.self in
    let p = err_from_is_err_and c.from_residual.result c.from_residual.ensures.1 in
    rw (p.1, p.2) (sym (c.loop-first.invariant ∙ ap (λ r. later_lines s (line ∷ further 10 r)) c.in-Some.is
    ∙ lines_on line c.in-Some.rest.now s
    ∙ went_wrong (next_line s) (λ t. later_lines t (cut 10 c.in-Some.rest.now)) (later_line s line) _ c.in_err-add_next.ensures))
