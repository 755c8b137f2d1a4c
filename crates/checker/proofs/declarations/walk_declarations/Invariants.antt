use Rattle.checker.proofs.Walking.{Coming}
use Rattle.checker.proofs.declarations.walk_declarations.Given as goal

abbrev pub invariant-loop-number : goal.invariant-loop-number
invariant-loop-number l =
    (goal.iterator-loop-number).can_next l.number-iterator
    × (goal.iterator-loop-number).is_finite l.number-iterator
    × Coming l.script.nodes.now l.first l.initial.names l.initial.shelf.count l.initial.notes l.number-iterator.table.now l.number-iterator.at l.names l.shelf.count l.notes
