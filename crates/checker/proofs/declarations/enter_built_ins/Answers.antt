use Rattle.std.proofs.Common.{◌≡◌, length, take, reverse, refl, ap, ◌∙◌, arith}
use Rattle.std.proofs.lemmas.List.{length-take-le, take-append-le}
use Rattle.checker.specs.Search.{newest_first}
use Rattle.checker.proofs.declarations.enter_built_ins.Goals as goal

pub returns : goal.returns
returns c =
    let nine : length (take 9 c.args.names.now) ≡ 9 = length-take-le 9 c.args.names.now (omega arith) in
    let all : 9 ≡ c.loop-i.i = omega arith in
    ap reverse (take-append-le 9 c.loop-i.place-items _ (omega arith)) ∙ ap (newest_first c.loop-i.place-items) all ∙ c.loop-i.invariant ∙ rw (← all) refl
