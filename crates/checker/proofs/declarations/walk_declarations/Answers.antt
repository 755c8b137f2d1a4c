use Rattle.checker.proofs.Chains.{came, none_came}
use Rattle.checker.proofs.Exprs.{broken}
use Rattle.checker.proofs.Walking.{declarations_refused, declarations_on, declarations_done}
use Rattle.checker.proofs.declarations.walk_declarations.Goals as goal

pub returns-in_err-walk_function : goal.returns-in_err-walk_function
returns-in_err-walk_function c =
    declarations_refused c.args.script.linked (came c.args.script.linked c.loop-number.invariant.2.table c.in-Some.ensures.steps)
    c.loop-number.invariant.2 c.in_err-walk_function.ensures (broken _ _ c.from_residual.ensures.1)

pub loop-number-preserved : goal.loop-number-preserved
loop-number-preserved c =
    let on = declarations_on c.args.script.linked (came c.args.script.linked c.loop-number.invariant.2.table c.in-Some.ensures.steps)
    c.loop-number.invariant.2 c.in_ok-walk_function.ensures c.walk_function.array_long in
    (tt, tt, on)

pub returns : goal.returns
returns c = declarations_done c.loop-number.invariant.2 (none_came c.loop-number.invariant.2.table c.in-None.ensures.steps)
