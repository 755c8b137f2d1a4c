use Rattle.std.proofs.Common.{sym}
use Rattle.checker.proofs.Chains.{gives_item, gives_none, less_left}
use Rattle.checker.proofs.chain.ChainIterator.next.Goals as goal

pub returns-in_err-node-clause-steps : goal.returns-in_err-node-clause-steps
returns-in_err-node-clause-steps c = gives_none c.args.self.now.table.now c.args.self.now.at _ (sym c.in_err-node.ensures) c.from_residual.ensures

pub returns-clause-steps : goal.returns-clause-steps
returns-clause-steps c =
    gives_item c.args.self.now.table.now c.args.self.now.at _ c.in_ok-node.node (sym c.in_ok-node.ensures) c.following-self.ensures

pub returns-clause-goes : goal.returns-clause-goes
returns-clause-goes c =
    let less = less_left c.args.self.now.table.now c.args.self.now.at _ c.in_ok-node.node (sym c.in_ok-node.ensures) c.following-self.ensures in
    record { on = λ _. (tt, tt, less); keeps = tt; rests = λ _. tt }
