use Rattle.std.proofs.Common.{◌+◌, ◌*◌}
use Rattle.checker.specs.Tree.{left}
use Rattle.checker.proofs.Walking.{Going}
use Rattle.checker.proofs.statements.+walking.Given as goal

abbrev pub decreases-walk_statement : goal.decreases-walk_statement
decreases-walk_statement l = 2 * left l.place.script.nodes.now l.place.number

abbrev pub decreases-walk_statements : goal.decreases-walk_statements
decreases-walk_statements l = 2 * left l.script.nodes.now l.first + 1

abbrev pub invariant-walk_statements-loop-number : goal.invariant-walk_statements-loop-number
invariant-walk_statements-loop-number l =
    (goal.iterator-walk_statements-loop-number).can_next l.number-iterator
    × (goal.iterator-walk_statements-loop-number).is_finite l.number-iterator
    × Going l.script.nodes.now l.names l.initial.shelf.count l.first l.initial.notes l.number-iterator.table.now l.number-iterator.at l.shelf.count l.notes
