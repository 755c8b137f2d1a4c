use Rattle.std.proofs.Common.{◌≡◌, length, take, replicate, arith, rules}
use Rattle.std.proofs.lemmas.List.{length-take-le}
use Rattle.checker.specs.Notes.{unnoted}
use Rattle.checker.proofs.Noted.{filled}
use Rattle.checker.proofs.check.clear_notes.Goals as goal

pub returns : goal.returns
returns c =
    let blank : c.default.result ≡ unnoted = search rules in
    let long : length (take c.min-end.result c.args.notes.now) ≡ c.min-end.result = length-take-le c.min-end.result c.args.notes.now (omega arith) in
    let all : c.fill.new.self ≡ replicate c.min-end.result unnoted = rw (← long, ← blank) (c.fill.ensures.after (λ y h. h)) in
    rw all (filled c.min-end.result c.args.count c.args.notes.now c.min-end.ensures)
