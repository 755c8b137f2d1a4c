use Rattle.std.proofs.Common.{sym}
use Rattle.checker.proofs.Forms.{formed_linked}
use Rattle.checker.proofs.form.ask_nodes.Goals as goal

pub invariant_of-script-clause-linked : goal.invariant_of-script-clause-linked
invariant_of-script-clause-linked c = formed_linked c.args.table.nodes.now (sym c.in_ok-ask_form.ensures)
