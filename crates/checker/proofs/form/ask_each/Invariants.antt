use Rattle.std.proofs.Common.{◌≡◌, ℕ, Bool}
use Rattle.checker.specs.declared.node.Node.{Node}
use Rattle.checker.proofs.Forms.{Asking}
use Rattle.checker.proofs.form.ask_each.Given as goal

abbrev pub invariant-loop-i : goal.invariant-loop-i
invariant-loop-i g l =
    (answers : ℕ → Node → Bool) → ((n : ℕ) (d : Node) (b : Bool) → goal.F-post g l.test n d b → b ≡ answers n d) → Asking answers l.question l.table.nodes.now l.i
