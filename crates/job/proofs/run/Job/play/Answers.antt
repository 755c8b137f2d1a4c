use Rattle.std.proofs.Common.{◌≡◌, replicate, Err, ap, ◌∙◌, rules}
use Rattle.std.proofs.lemmas.Result.{err_from_is_err_and}
use Rattle.checker.specs.Notes.{unnoted}
use Rattle.job.specs.Jobs.{fresh}
use Rattle.job.specs.Meant.{meant}
use Rattle.job.proofs.Played.{play_refused, play_done}
use Rattle.job.proofs.run.Job.play.Goals as goal

pub returns-in_err-open : goal.returns-in_err-open
unfolding fresh
returns-in_err-open g c =
    let blank : c.default-notes.result ≡ unnoted = search rules in
    let p = err_from_is_err_and c.from_residual.result c.from_residual.ensures.1 in
    play_refused (meant c.args.self.now.sheet) c.table-table.result.now c.inputs-inputs.result.now _ _ c.table-table.ensures.rows c.inputs-inputs.ensures.rows c.requires (ap (replicate 4096) blank)
    c.from_residual.result c.in_err-open.field-0.0 c.open.new.session c.in_err-open.ensures.does.answer (p.1 ∙ ap Err p.2)

pub returns : goal.returns
unfolding fresh
returns g c =
    let blank : c.default-notes.result ≡ unnoted = search rules in
    let d = c.in_ok-open.ensures.does in
    play_done (meant c.args.self.now.sheet) c.table-table.result.now c.inputs-inputs.result.now _ _ c.table-table.ensures.rows c.inputs-inputs.ensures.rows c.requires (ap (replicate 4096) blank)
    c.in_ok-open.field-0 c.open.new.notes c.open.new.session c.spend.new.session _ _ d.answer d.noted d.after.shown c.spend.ensures
