-- What a check answers, and all that it leaves.
use Rattle.std.specs.Prelude.{◌≡◌, ℕ, cond, List, length, drop, Ok, Err, Result}
use Rattle.checker.specs.declared.node.Node.{Node}
use Rattle.checker.specs.declared.note.Note.{Note}
use Rattle.checker.specs.declared.refusal.Refusal.{Refusal}
use Rattle.checker.specs.Questions.{then}
use Rattle.checker.specs.Notes.{cleared}
use Rattle.checker.specs.Form.{sized, ask_size, formed}
use Rattle.checker.specs.Judge.{program}

-- All questions in their order: the table's notes, with those beyond it as they were, or the first no.
unfoldable pub checked : List Node → List Note → Result (List Note) Refusal
checked t notes =
    then (ask_size (length t) (length notes)) (λ _. then (formed t) (λ _. program t (cleared (length t) notes)))

-- what the call answers
abbrev pub answer : Result (List Note) Refusal → Result (Unit {0}) Refusal
answer (Ok after) = Ok tt
answer (Err e) = Err e

-- The notes afterwards. A table of a wrong size leaves them all, any other refusal takes the table's notes back.
abbrev pub notes_left : List Node → List Note → Result (List Note) Refusal → List Note
notes_left t notes (Ok after) = after
notes_left t notes (Err e) = cond (sized (length t) (length notes)) (cleared (length t) notes) notes

-- A check of table t over these notes answered r and left these notes and so many names on the shelf.
-- What the places of names hold afterwards is left open: none of them is in use.
pub record Checked (t : List Node) (notes : List Note) (r : Result (Unit {0}) Refusal) (notes' : List Note) (count : ℕ) : Type 0 where
  pub answered : r ≡ answer (checked t notes)
  pub noted : notes' ≡ notes_left t notes (checked t notes)
  pub beyond : drop (length t) notes' ≡ drop (length t) notes
  pub emptied : count ≡ 0
