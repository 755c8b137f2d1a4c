use Rattle.std.proofs.Common.{arith}
use Rattle.checker.proofs.Trees.{item_here, less_a}
use Rattle.checker.proofs.Chains.{came, none_came}
use Rattle.checker.proofs.Exprs.{broken, chain_begun, chain_refused, chain_on, chain_done}
use Rattle.checker.proofs.expressions.+typing.Goals as goal

pub type_chain-loop-number-init : goal.type_chain-loop-number-init
type_chain-loop-number-init t c =
    (tt, tt, rw (c.into_iter-number-iterator.ensures.into_iter_gives, c.chain-number-items.ensures.table, c.chain-number-items.ensures.first) (chain_begun c.args.first))

pub type_chain-returns-in_err-ty : goal.type_chain-returns-in_err-ty
type_chain-returns-in_err-ty t c =
    chain_refused c.args.script.linked (came c.args.script.linked c.loop-number.invariant.2.table c.in-Some.ensures.steps)
    c.loop-number.invariant.2 c.in_err-ty.ensures (broken _ _ c.from_residual.ensures.1)

pub type_chain-loop-number-preserved : goal.type_chain-loop-number-preserved
type_chain-loop-number-preserved t c =
    let on = chain_on c.args.script.linked (came c.args.script.linked c.loop-number.invariant.2.table c.in-Some.ensures.steps)
    c.loop-number.invariant.2 c.in_ok-ty.ensures c.note_of.ensures c.first_unfit.ensures in
    (tt, tt, on)

pub type_chain-returns : goal.type_chain-returns
type_chain-returns t c =
    chain_done c.loop-number.invariant.2 (none_came c.loop-number.invariant.2.table c.in-None.ensures.steps)

pub type_expression-type_chain-requires : goal.type_expression-type_chain-requires
type_expression-type_chain-requires t c =
    let less = less_a c.args.place.script.linked (item_here c.args.place.script.nodes.now c.args.place.number c.args.place.node c.args.place.is) in
    (omega arith, omega arith)
