use Rattle.std.proofs.Common.{arith}
use Rattle.std.proofs.lemmas.Int.{to_z-of_z}
use Rattle.numbers.proofs.Division.{stored_quotient}
use Rattle.numbers.proofs.number.I32Number.over.Goals as goal

pub returns-else-other-eq0 : goal.returns-else-other-eq0
returns-else-other-eq0 c =
    let s = stored_quotient c.args.self c.args.other c.ranges.self.sfits in
    grind (arith, to_z-of_z)
