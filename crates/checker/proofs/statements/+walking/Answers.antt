use Rattle.std.proofs.Common.{arith}
use Rattle.checker.proofs.Trees.{item_here, less_b}
use Rattle.checker.proofs.Chains.{came, none_came}
use Rattle.checker.proofs.Exprs.{broken}
use Rattle.checker.proofs.Walking.{empty_statement, statements_refused, statements_on, statements_done}
use Rattle.checker.proofs.statements.+walking.Goals as goal

pub walk_statement-walk_statements-requires : goal.walk_statement-walk_statements-requires
walk_statement-walk_statements-requires t c =
    let less = less_b c.args.place.script.linked (item_here c.args.place.script.nodes.now c.args.place.number c.args.place.node c.args.place.is) in
    (omega arith, omega arith)

pub walk_statement-returns-in-18 : goal.walk_statement-returns-in-18
walk_statement-returns-in-18 t c = empty_statement c.args.names.now c.args.shelf.now.count c.args.place.number c.args.place.node c.in-18.is c.if-node-eq0.true

pub walk_statements-returns-in_err-walk_statement : goal.walk_statements-returns-in_err-walk_statement
walk_statements-returns-in_err-walk_statement t c =
    statements_refused c.args.script.linked (came c.args.script.linked c.loop-number.invariant.2.table c.in-Some.ensures.steps)
    c.loop-number.invariant.2 c.in_err-walk_statement.ensures (broken _ _ c.from_residual.ensures.1)

pub walk_statements-loop-number-preserved : goal.walk_statements-loop-number-preserved
walk_statements-loop-number-preserved t c =
    let on = statements_on c.args.script.linked (came c.args.script.linked c.loop-number.invariant.2.table c.in-Some.ensures.steps)
    c.loop-number.invariant.2 c.in_ok-walk_statement.ensures in
    (tt, tt, on)

pub walk_statements-returns : goal.walk_statements-returns
walk_statements-returns t c =
    statements_done c.loop-number.invariant.2 (none_came c.loop-number.invariant.2.table c.in-None.ensures.steps)
