-- What a job comes to: from the bytes of its sheet to the bytes that it prints.
use Rattle.std.specs.Prelude.{◌≡◌, ℕ, true, if◌then◌else◌, List, [], length, replicate, pos, is_ok, Ok, Err, Result, ◌==◌, nat_le}
use Rattle.checker.specs.declared.node.Node.{Node}
use Rattle.checker.specs.declared.note.Note.{Note}
use Rattle.checker.specs.Notes.{unnoted}
use Rattle.checker.specs.Tree.{node_at}
use Rattle.checker.specs.Check.{checked, notes_left}
use Rattle.runner.specs.declared.refusal.OpenRefusal.{OpenRefusal}
use Rattle.runner.specs.declared.session.Session.{Session}
use Rattle.runner.specs.declared.verdict.Verdict.{Verdict as RunVerdict}
use Rattle.runner.specs.declared.verdict.Verdict.TheVariants.{Running as StillRuns, Ended as HasEnded, Trapped as HasTrapped}
use Rattle.runner.specs.Refusals.{open_number, open_node, open_line}
use Rattle.runner.specs.Verdicts.{verdict_value}
use Rattle.runner.specs.State.{State, view}
use Rattle.runner.specs.Run.{ran}
use Rattle.runner.specs.Books.{place_of}
use Rattle.runner.specs.Calls.{Opening as OpenedOn, start, open_answer}
use Rattle.job.specs.declared.fault.Fault.{Fault}
use Rattle.job.specs.declared.fault.Fault.TheVariants.{Sheet, Opening}
use Rattle.job.specs.declared.report.Headline.{Headline}
use Rattle.job.specs.declared.report.Verdict.{Verdict}
use Rattle.job.specs.declared.report.Verdict.TheVariants.{Running, Ended, Trapped, Refused}
use Rattle.job.specs.declared.sheet.SheetRefusal.{SheetRefusal}
use Rattle.job.specs.Format.{SheetMeaning, question_number, sheet_of}
use Rattle.job.specs.Printed.{printed}

-- What is told of a script: all of its books but the cells.
pub record Told : Type 0 where
  pub steps : ℕ
  pub verdict : RunVerdict
  pub place : ℕ
  pub output : List ℕ

abbrev pub told_of : State → Told
told_of s = record {
  steps = s.steps;
  verdict = s.core.verdict;
  place = place_of s.core.verdict s.last;
  output = s.core.world.output;
}

-- the same of a session
abbrev pub told : Session → Told
told s = told_of (view s.course [])

-- the line of a node, 0 where there is none
abbrev pub line_of : List Node → ℕ → ℕ
line_of t n = if n == 0 then 0 else if nat_le n (length t) then (node_at t n).line else 0

abbrev pub verdict_of : RunVerdict → Verdict
verdict_of StillRuns = Running
verdict_of (HasEnded value) = Ended
verdict_of (HasTrapped trap place) = Trapped

-- the headline of a job that was opened
abbrev pub head_of : List Node → Told → Headline
head_of t x = record {
  verdict = verdict_of x.verdict;
  value = verdict_value x.verdict;
  node = x.place;
  line = line_of t x.place;
  steps = x.steps;
}

-- the headline of a job that is refused: a sheet's refusal has no node, and the sheet's line
abbrev pub refused_head : Fault → Headline
refused_head (Sheet e) = record { verdict = Refused; value = pos (question_number e.question); node = 0; line = e.line; steps = 0 }
refused_head (Opening e) = record { verdict = Refused; value = pos (open_number e); node = open_node e; line = open_line e; steps = 0 }

-- the places for notes, where nothing is noted yet
unfoldable pub fresh : List Note
fresh = replicate 4096 unnoted

abbrev pub opening_of : SheetMeaning → OpenedOn
opening_of m = record { script = m.table; inputs = m.inputs; limit = m.cells }

-- the sheet's script is opened over 4,096 cells
abbrev pub opens : SheetMeaning → Result (Unit {0}) OpenRefusal
opens m = open_answer (opening_of m) 4096 (checked m.table fresh)

-- the notes of a script that is accepted
abbrev pub script_notes : List Node → List Note
script_notes t = notes_left t fresh (checked t fresh)

-- where the script stands after the sheet's steps, however they were granted
abbrev pub standing : SheetMeaning → State
standing m = ran m.table (script_notes m.table) m.steps (start (opening_of m))

-- What is printed of a job: a headline, and the output.
pub record Report : Type 0 where
  pub head : Headline
  pub output : List ℕ

abbrev pub refused_report : Fault → Report
refused_report f = record { head = refused_head f; output = [] }

abbrev pub told_report : List Node → Told → Report
told_report t x = record { head = head_of t x; output = x.output }

-- a job whose sheet is read, by what its opening answers
abbrev pub opened_report : SheetMeaning → Result (Unit {0}) OpenRefusal → Report
opened_report m (Ok u) = told_report m.table (told_of (standing m))
opened_report m (Err e) = refused_report (Opening e)

abbrev pub report_of : Result SheetMeaning SheetRefusal → Report
report_of (Ok m) = opened_report m (opens m)
report_of (Err e) = refused_report (Sheet e)

-- the bytes that the job of a sheet prints
abbrev pub prints : List ℕ → List ℕ
prints sheet = let r = report_of (sheet_of sheet) in printed r.head r.output

-- A session was opened on a sheet's script and granted its steps.
pub record Plays (m : SheetMeaning) (r : Result (Unit {0}) OpenRefusal) (s : Session) : Type 0 where
  pub answer : r ≡ opens m
  pub after : is_ok r ≡ true → told s ≡ told_of (standing m)

-- the report of an answer, and of a session where the answer is a headline
abbrev pub reported : Result Headline Fault → Session → Report
reported (Ok head) s = record { head = head; output = (told s).output }
reported (Err f) s = refused_report f
