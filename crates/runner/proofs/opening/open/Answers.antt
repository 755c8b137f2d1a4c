use Rattle.std.proofs.Common.{sym, ◌∙◌}
use Rattle.runner.specs.Calls.{Opening}
use Rattle.runner.proofs.Opens.{refuses}
use Rattle.runner.proofs.opening.open.Goals as goal

pub returns-in-Err-clause-does : goal.returns-in-Err-clause-does
returns-in-Err-clause-does g c =
    let o : Opening = record { script = c.args.table.now; inputs = c.args.inputs.now; limit = c.args.limit } in
    let checks = c.check_table.ensures in
    refuses o c.args.notes.now c.check_table.new.notes _ c.args.session.now (g.M.Memory.cells c.args.memory.now) c.size.result c.in-Err.refusal
    c.size.ensures c.in-Err.ensures (sym c.in_ok-check_table.was ∙ checks.answered) c.check_table.auto.notes checks.beyond c.clear_notes.ensures
