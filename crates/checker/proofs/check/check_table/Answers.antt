use Rattle.std.proofs.Common.{◌≡◌, true, false, is_err, ◌∙◌}
use Rattle.checker.proofs.Exprs.{broken}
use Rattle.checker.proofs.Whole.{good_size, size_yes, size_refused, judged_no, judged_yes}
use Rattle.checker.proofs.check.check_table.Goals as goal

pub returns-in_err-ask_size : goal.returns-in_err-ask_size
returns-in_err-ask_size c =
    size_refused c.args.table.now c.args.notes.now c.in_err-ask_size.field-0.0 c.from_residual.result c.in_err-ask_size.ensures (broken _ _ c.from_residual.ensures.1)

pub returns-then-refused : goal.returns-then-refused
returns-then-refused c =
    let no : true ≡ is_err c.judge_table-result.result = cc in
    judged_no c.args.table.now c.args.notes.now c.judge_table-result.new.notes
    (size_yes c.args.table.now c.args.notes.now c.in_ok-ask_size.ensures) c.judge_table-result.ensures.beyond
    c.judge_table-result.result c.clear_notes.new.notes (good_size c.args.table.now c.args.notes.now (size_yes c.args.table.now c.args.notes.now c.in_ok-ask_size.ensures) ∙ c.judge_table-result.ensures.result) no c.judge_table-result.auto.notes c.clear_notes.ensures

pub returns-else-refused : goal.returns-else-refused
returns-else-refused c =
    let yes : false ≡ is_err c.judge_table-result.result = cc in
    judged_yes c.args.table.now c.args.notes.now c.judge_table-result.new.notes
    (size_yes c.args.table.now c.args.notes.now c.in_ok-ask_size.ensures) c.judge_table-result.ensures.beyond
    c.judge_table-result.result (good_size c.args.table.now c.args.notes.now (size_yes c.args.table.now c.args.notes.now c.in_ok-ask_size.ensures) ∙ c.judge_table-result.ensures.result) yes
