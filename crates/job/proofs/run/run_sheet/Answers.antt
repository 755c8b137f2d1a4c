use Rattle.job.specs.Meant.{meant}
use Rattle.job.proofs.Played.{few_steps}
use Rattle.job.proofs.run.run_sheet.Goals as goal

pub invariant_of-job : goal.invariant_of-job
invariant_of-job c = record { few = few_steps c.args.bytes.now (meant c.in_ok-read_sheet.field-0) c.in_ok-read_sheet.ensures.exact }
