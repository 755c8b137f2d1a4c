use Rattle.runner.specs.Calls.{is_open, seen}
use Rattle.job.proofs.Spent.{begun, spent_on, spent_early}
use Rattle.job.proofs.run.spend.Goals as goal

pub loop-left-init : goal.loop-left-init
loop-left-init g c = begun c.args.table.now c.args.notes.now c.args.steps _ _ c.requires.opened c.requires.few

pub returns-then-taken-grant : goal.returns-then-taken-grant
returns-then-taken-grant g c =
    let answered = c.in-Ok.ensures.does in
    spent_early c.args.table.now c.args.notes.now c.args.steps (seen c.args.session.now (g.M.Memory.cells c.args.memory.now))
    c.loop-left.left (is_open c.loop-left.session) (seen c.loop-left.session (g.M.Memory.cells c.loop-left.memory)) c.loop-left.invariant
    c.loop-left-test.true c.min-grant.result c.min-grant.ensures c.in-Ok.taken _ answered.answer c.if-taken-grant.true answered.after.shown

pub loop-left-preserved : goal.loop-left-preserved
loop-left-preserved g c =
    let answered = c.in-Ok.ensures.does in
    spent_on c.args.table.now c.args.notes.now c.args.steps (seen c.args.session.now (g.M.Memory.cells c.args.memory.now))
    c.loop-left.left (is_open c.loop-left.session) (seen c.loop-left.session (g.M.Memory.cells c.loop-left.memory)) c.loop-left.invariant
    c.loop-left-test.true c.min-grant.result c.min-grant.ensures c.in-Ok.taken _ _ answered.answer c.if-taken-grant.false answered.after.shown
    answered.after.opened
