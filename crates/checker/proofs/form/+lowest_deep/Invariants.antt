use Rattle.checker.specs.Tree.{left}
use Rattle.checker.proofs.form.+lowest_deep.Given as goal

abbrev pub decreases-lowest_deep : goal.decreases-lowest_deep
decreases-lowest_deep l = left l.script.nodes.now l.link
