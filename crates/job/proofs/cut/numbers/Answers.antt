use Rattle.std.proofs.Common.{ap, ◌∙◌}
use Rattle.job.specs.Pieces.{further}
use Rattle.job.proofs.Pieces.{cut_some}
use Rattle.job.proofs.Fields.{taken_more, too_many}
use Rattle.job.proofs.cut.numbers.Goals as goal

pub loop-place-preserved : goal.loop-place-preserved
loop-place-preserved g c =
    taken_more _ _ _ _ _ c.loop-place.invariant _ _ _ c.loop-place-test.true
    (ap (further 44) c.in_ok-rest.was ∙ c.cut_first-first.ensures.pieces) c.in_ok-place.ensures

pub returns-in-Some : goal.returns-in-Some
returns-in-Some g c =
    let some = cut_some 44 c.in-Some.field-0.now in
    too_many _ _ _ _ _ c.loop-place.invariant _ _ c.loop-place-test.false
    (ap (further 44) c.in-Some.is ∙ some.1.1)
