use Rattle.std.proofs.Common.{◌≡◌, ◌∷◌, Some, Ok, arith, sym, ap, ◌∙◌, rules}
use Rattle.job.specs.Lines.{cut}
use Rattle.job.specs.Pieces.{further}
use Rattle.job.specs.Format.{and_then, first_line, later_lines, sheet_lines, sheet_of}
use Rattle.job.specs.Meant.{meant, meaning}
use Rattle.job.proofs.Readback.{back}
use Rattle.job.proofs.Sheets.{sheet_on}
use Rattle.job.proofs.sheet.read_sheet.Goals as goal

pub returns-in_err-rest-clause-back : goal.returns-in_err-rest-clause-back
returns-in_err-rest-clause-back c = back c.args.bytes.now (meaning c.from_residual.result) (search rules)

pub returns-in_err-sheet-clause-back : goal.returns-in_err-sheet-clause-back
returns-in_err-sheet-clause-back c = back c.args.bytes.now (meaning c.from_residual-in_err-sheet.result) (search rules)

pub returns-in_err-add_lines-clause-back : goal.returns-in_err-add_lines-clause-back
returns-in_err-add_lines-clause-back c = back c.args.bytes.now (meaning c.from_residual-in_err-add_lines.result) (search rules)

pub returns : goal.returns
returns c =
    let line = c.cut_first-first.result.piece.now in
    let rest : c.cut_first-first.result.rest ≡ Some c.in_ok-rest.rest = grind arith in
    let read : c.read_first.result ≡ Ok c.in_ok-sheet.sheet = search rules in
    let first : first_line line ≡ Ok (meant c.in_ok-sheet.sheet) = sym (ap meaning (sym read) ∙ c.read_first.ensures) in
    let exact : Ok (meant c.add_lines.new.self) ≡ sheet_of c.args.bytes.now =
    c.in_ok-add_lines.ensures
    ∙ sym (ap sheet_lines (c.cut_first-first.ensures.pieces ∙ ap (λ r. line ∷ further 10 r) rest) ∙ sheet_on line c.in_ok-rest.rest.now
    ∙ ap (λ r. and_then 1 r (λ s. later_lines s (cut 10 c.in_ok-rest.rest.now))) first) in
    record { exact = exact; back = back c.args.bytes.now (Ok (meant c.add_lines.new.self)) exact }
