use Rattle.std.proofs.Common.{◌≡◌, ◌+◌, ◌*◌, ◌≤◌, drop}
use Rattle.checker.specs.Form.{times_linked}
use Rattle.checker.proofs.form.times_linked.Given as goal

abbrev pub invariant-loop-node : goal.invariant-loop-node
invariant-loop-node l =
    (l.times ≤ 4 * l.node-index)
    × (l.times + times_linked (drop l.node-index l.table.nodes.now) l.number ≡ times_linked l.table.nodes.now l.number)
