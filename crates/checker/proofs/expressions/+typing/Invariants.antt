use Rattle.std.proofs.Common.{◌+◌, ◌*◌}
use Rattle.checker.specs.Tree.{left}
use Rattle.checker.specs.Search.{newest_first}
use Rattle.checker.proofs.Exprs.{Gathering}
use Rattle.checker.proofs.expressions.+typing.Given as goal

abbrev pub decreases-type_chain : goal.decreases-type_chain
decreases-type_chain l = 2 * left l.script.nodes.now l.first + 1

abbrev pub decreases-type_expression : goal.decreases-type_expression
decreases-type_expression l = 2 * left l.place.script.nodes.now l.place.number

abbrev pub invariant-type_chain-loop-number : goal.invariant-type_chain-loop-number
invariant-type_chain-loop-number l =
    (goal.iterator-type_chain-loop-number).can_next l.number-iterator
    × (goal.iterator-type_chain-loop-number).is_finite l.number-iterator
    × Gathering l.script.nodes.now (newest_first l.names l.count) l.first l.initial.notes l.number-iterator.table.now l.number-iterator.at l.so_far l.notes
