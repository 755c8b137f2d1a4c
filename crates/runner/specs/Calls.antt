-- What each call answers, and what it leaves.
use Rattle.std.specs.Prelude.{◌≡◌, ℕ, ◌+◌, Bool, true, false, if◌then◌else◌, not, ◌&&◌, List, [], length, take, drop, replicate, Some, None, Option, is_some, Ok, Err, Result, MatchResult, ◌==◌, nat_le}
use Rattle.std.specs.List.{find}
use Rattle.memories.specs.declared.value.Value.{Value}
use Rattle.checker.specs.declared.node.Node.{Node}
use Rattle.checker.specs.declared.note.Note.{Note}
use Rattle.checker.specs.declared.refusal.Refusal.{Refusal}
use Rattle.checker.specs.Notes.{cleared}
use Rattle.checker.specs.Check.{checked, notes_left}
use Rattle.runner.specs.declared.session.Session.{Session}
use Rattle.runner.specs.declared.session.OpenedWith.{OpenedWith}
use Rattle.runner.specs.declared.refusal.OpenRefusal.{OpenRefusal}
use Rattle.runner.specs.declared.refusal.OpenRefusal.TheVariants.{Check, CellLimit, Inputs}
use Rattle.runner.specs.declared.refusal.GrantRefusal.{GrantRefusal}
use Rattle.runner.specs.declared.refusal.GrantRefusal.TheVariants.{NotOpen, GrantTooLarge, TooManySteps}
use Rattle.runner.specs.State.{State, Cell, resting, view}
use Rattle.runner.specs.Rules.{with_next}
use Rattle.runner.specs.Run.{ran, steps_taken}
use Rattle.runner.specs.Books.{Books, books_of}
use Rattle.runner.specs.Given.{given, acceptable}

-- is it open?
abbrev pub is_open : Session → Bool
is_open s = is_some s.opened

abbrev pub limit_in : Option OpenedWith → ℕ
limit_in (Some o) = o.limit
limit_in None = 0

abbrev pub inputs_in : Option OpenedWith → List Value
inputs_in (Some o) = given o.inputs
inputs_in None = []

-- the script has the cells below this one: none before it is opened
abbrev pub limit_of : Session → ℕ
limit_of s = limit_in s.opened

-- what the script was given: nothing before it is opened
abbrev pub inputs_of : Session → List Value
inputs_of s = inputs_in s.opened

-- a session with all the cells of its memory: the script has those below the limit
abbrev pub seen : Session → List Cell → State
seen s cells = view s.course (take (limit_of s) cells)

abbrev pub books : Session → List Cell → Books
books s cells = books_of (seen s cells)

-- What a session is opened on.
pub record Opening : Type 0 where
  pub script : List Node
  pub inputs : List Value
  pub limit : ℕ

-- main is the function (2) of the name 10
abbrev pub is_main : Node → Bool
is_main d = d.kind == 2 && d.value == 10

-- the block of a function, or 0 for none
abbrev pub block_of : Option Node → ℕ
block_of (Some d) = d.b
block_of None = 0

-- the block of the first main
abbrev pub main_body : List Node → ℕ
main_body ds = block_of (find is_main ds)

-- a session that has just been opened
abbrev pub start : Opening → State
start o = record {
  core = with_next (main_body o.script) resting;
  cells = replicate o.limit None;
  steps = 0;
  last = 0;
}

abbrev pub nothing : Opening
nothing = record { script = []; inputs = []; limit = 0 }

-- a session that was never opened
pub record Fresh (s : Session) : Type 0 where
  pub closed : is_open s ≡ false
  pub shown : seen s [] ≡ start nothing
  pub limited : limit_of s ≡ 0
  pub inputs : inputs_of s ≡ []

-- a refusal changes nothing
pub record Same (s : Session) (cells : List Cell) (s' : Session) (cells' : List Cell) : Type 0 where
  pub session : s' ≡ s
  pub memory : cells' ≡ cells

-- Opens.

-- a session that stands at the start of its script
pub record AtStart (o : Opening) (s : Session) : Type 0 where
  pub shown : view s.course (replicate o.limit None) ≡ start o
  pub opened : is_open s ≡ true
  pub limited : limit_of s ≡ o.limit
  pub inputs : inputs_of s ≡ o.inputs

-- 1 to 65,535 cells, which the memory has
abbrev pub limit_fits : ℕ → ℕ → Bool
limit_fits limit size = nat_le 1 limit && (nat_le limit 65_535 && nat_le limit size)

-- the questions after the check, for a memory of so many cells
abbrev pub asked : List Value → ℕ → ℕ → Result (Unit {0}) OpenRefusal
asked inputs limit size =
    if not (limit_fits limit size) then Err CellLimit
    else if not (acceptable inputs) then Err Inputs
    else Ok tt

abbrev pub placed : Opening → ℕ → Result (Unit {0}) OpenRefusal
placed o size = asked o.inputs o.limit size

-- all questions in their order
abbrev pub open_answer : Opening → ℕ → Result (List Note) Refusal → Result (Unit {0}) OpenRefusal
open_answer o size (Ok after) = placed o size
open_answer o size (Err e) = Err (Check e)

-- the notes afterwards: those of the check, taken back where a later question refuses
abbrev pub open_notes : Opening → List Note → Result (Unit {0}) OpenRefusal → List Note
open_notes o notes (Ok u) = notes_left o.script notes (checked o.script notes)
open_notes o notes (Err (Check e)) = notes_left o.script notes (checked o.script notes)
open_notes o notes (Err CellLimit) = cleared (length o.script) notes
open_notes o notes (Err Inputs) = cleared (length o.script) notes

-- an accepted open: the session stands at the start, and the cells beyond the limit are as they were
pub record Begun (o : Opening) (cells : List Cell) (s' : Session) (cells' : List Cell) : Type 0 where
  pub shown : seen s' cells' ≡ start o
  pub opened : is_open s' ≡ true
  pub limited : limit_of s' ≡ o.limit
  pub inputs : inputs_of s' ≡ o.inputs
  pub beyond : drop o.limit cells' ≡ drop o.limit cells

pub record Opened (o : Opening) (notes notes' : List Note) (s : Session) (cells : List Cell) (r : Result (Unit {0}) OpenRefusal) (s' : Session) (cells' : List Cell) : Type 0 where
  pub answer : r ≡ open_answer o (length cells) (checked o.script notes)
  pub noted : notes' ≡ open_notes o notes r
  pub beyond : drop (length o.script) notes' ≡ drop (length o.script) notes
  pub after : MatchResult r (λ _. Begun o cells s' cells') (λ _. Same s cells s' cells')

-- Grants.

abbrev pub grant_answer : List Node → List Note → Bool → ℕ → State → Result ℕ GrantRefusal
grant_answer t notes opened grant s =
    if not opened then Err NotOpen
    else if not (nat_le grant 1_000_000) then Err GrantTooLarge
    else if not (nat_le (s.steps + grant) 1_099_511_627_776) then Err TooManySteps
    else Ok (steps_taken t notes grant s)

-- an accepted grant: so many steps are taken, and the cells beyond the limit are as they were
pub record Moved (t : List Node) (notes : List Note) (grant : ℕ) (s : Session) (cells : List Cell) (s' : Session) (cells' : List Cell) : Type 0 where
  pub shown : seen s' cells' ≡ ran t notes grant (seen s cells)
  pub opened : is_open s' ≡ is_open s
  pub limited : limit_of s' ≡ limit_of s
  pub inputs : inputs_of s' ≡ inputs_of s
  pub beyond : drop (limit_of s) cells' ≡ drop (limit_of s) cells

pub record Advanced (t : List Node) (notes : List Note) (grant : ℕ) (s : Session) (cells : List Cell) (r : Result ℕ GrantRefusal) (s' : Session) (cells' : List Cell) : Type 0 where
  pub answer : r ≡ grant_answer t notes (is_open s) grant (seen s cells)
  pub after : MatchResult r (λ _. Moved t notes grant s cells s' cells') (λ _. Same s cells s' cells')
