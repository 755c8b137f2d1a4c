-- How a session opens.
use Rattle.std.proofs.Common.{◌≡◌, ℕ, Bool, true, false, if◌then◌else◌, not, List, length, drop, Ok, Err, Result, sym, refl, ap, ◌∙◌, arith}
use Rattle.checker.specs.declared.note.Note.{Note}
use Rattle.checker.specs.declared.refusal.Refusal.{Refusal}
use Rattle.checker.specs.Check.{checked, answer}
use Rattle.checker.specs.Notes.{cleared}
use Rattle.checker.proofs.Noted.{cleared_same, cleared_beyond}
use Rattle.runner.specs.declared.session.Session.{Session}
use Rattle.runner.specs.declared.refusal.OpenRefusal.{OpenRefusal}
use Rattle.runner.specs.declared.refusal.OpenRefusal.TheVariants.{CellLimit, Inputs}
use Rattle.runner.specs.Given.{acceptable}
use Rattle.runner.specs.State.{Cell}
use Rattle.runner.specs.Calls.{Opening, limit_fits, placed, open_answer, open_notes, Opened}

-- Where a question after the check refuses.

checked_on : (o : Opening) (size : ℕ) (k : Result (List Note) Refusal) → Ok tt ≡ answer k → open_answer o size k ≡ placed o size
checked_on o size (Ok after) e = refl
checked_on o size (Err x) e = let z : ◌≡◌ {A = ℕ} 0 1 = cc in absurd (omega arith)

-- the check's notes are taken back
late_of : (o : Opening) (notes : List Note) (fits lawful : Bool) (e : OpenRefusal) → ◌≡◌ {A = Result (Unit {0}) OpenRefusal} (Err e) (if not fits then Err CellLimit else if not lawful then Err Inputs else Ok tt) → open_notes o notes (Err e) ≡ cleared (length o.script) notes
late_of o notes false lawful e h = let q : e ≡ CellLimit = cc in rw q refl
late_of o notes true false e h = let q : e ≡ Inputs = cc in rw q refl
late_of o notes true true e h = let z : ◌≡◌ {A = ℕ} 0 1 = cc in absurd (omega arith)

pub refuses : (o : Opening) (notes n₁ n₂ : List Note) (s : Session) (cells : List Cell) (size : ℕ) (e : OpenRefusal) → size ≡ length cells → Err e ≡ placed o size → Ok tt ≡ answer (checked o.script notes) → length n₁ ≡ length notes → drop (length o.script) n₁ ≡ drop (length o.script) notes → n₂ ≡ cleared (length o.script) n₁ → Opened o notes n₂ s cells (Err e) s cells
refuses o notes n₁ n₂ s cells size e all refused ok same beyond left =
    let n = length o.script in
    record {
      answer = refused ∙ ap (placed o) all ∙ sym (checked_on o (length cells) (checked o.script notes) ok);
      noted = left ∙ cleared_same n n₁ notes same beyond ∙ sym (late_of o notes (limit_fits o.limit size) (acceptable o.inputs) e refused);
      beyond = ap (drop n) left ∙ cleared_beyond n n₁ ∙ beyond;
      after = record { session = refl; memory = refl };
    }
