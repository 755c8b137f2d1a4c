-- The walk: statements, declarations and the whole program, in order.
use Rattle.std.specs.Prelude.{◌≡◌, ℕ, ◌≤◌, Bool, true, cond, List, ◌∷◌, length, drop, is_some, is_ok, Ok, Err, Result, ◌==◌, nat_lt}
use Rattle.checker.specs.declared.node.Node.{Node}
use Rattle.checker.specs.declared.note.Note.{Note}
use Rattle.checker.specs.declared.refusal.Refusal.{Refusal}
use Rattle.checker.specs.declared.refusal.Question.TheVariants.{NodeForm, NewName, MainForm, ShelfRoom}
use Rattle.checker.specs.declared.shelf.Name.{Name}
use Rattle.checker.specs.declared.types.Valued.{Valued}
use Rattle.checker.specs.Questions.{refuse, then}
use Rattle.checker.specs.Search.{newest_first}
use Rattle.checker.specs.Scope.{means, declared, outermost}
use Rattle.checker.specs.Tree.{Tree, none, at, tree, node_at}
use Rattle.checker.specs.Typing.{Out, values}

-- the notes after the values of a chain
abbrev pub notes_of : Out (List Valued) → Result (List Note) Refusal
notes_of (Ok p) = Ok p.1
notes_of (Err e) = Err e

-- The statement at node n: a block is its statements, an expression statement its expression.
abbrev pub statement_at : ℕ → Node → (List Note → Out (List Valued)) → (List Note → Result (List Note) Refusal) → List Note → Result (List Note) Refusal
statement_at n d expression inner notes =
    cond (d.kind == 10) (inner notes)
    (cond (d.kind == 18) (notes_of (expression notes)) (refuse NodeForm n d.line))

-- a chain of statements
abbrev pub statements : List Name → Tree → List Note → Result (List Note) Refusal
statements scope none notes = Ok notes
statements scope (at n d a b c next) notes =
    then (statement_at n d (values scope a) (statements scope b) notes) (statements scope next)

-- main answers an int
abbrev pub main_form : Node → Bool
main_form d = d.ty == 2

-- A declaration is judged, then entered. At most 512 names are on the shelf.
abbrev pub enter : List Name → ℕ → Node → Result (List Name) Refusal
enter scope n d =
    cond (is_some (means scope d.value)) (refuse NewName n d.line)
    (cond (nat_lt (length scope) 512)
    (cond (main_form d) (Ok (declared n d ∷ scope)) (refuse MainForm n d.line))
    (refuse ShelfRoom n d.line))

-- A function is entered, then its body is walked with it in scope; the body's own names are off again after it.
abbrev pub function : List Name → ℕ → Node → Tree → List Note → Out (List Name)
function scope n d body notes =
    then (enter scope n d) (λ inside. then (statements inside body notes) (λ after. Ok (inside, after)))

abbrev pub declarations : List Name → Tree → List Note → Out (List Name)
declarations scope none notes = Ok (scope, notes)
declarations scope (at n d a b c next) notes =
    then (function scope n d b notes) (λ p. declarations p.0 next p.1)

-- there is a main
abbrev pub has_main : List Node → List Name → Bool
has_main t scope = is_some (means scope 10)

abbrev pub ended : List Node → Out (List Name) → Result (List Note) Refusal
ended t (Ok p) = cond (has_main t p.0) (Ok p.1) (refuse MainForm 1 (node_at t 1).line)
ended t (Err e) = Err e

-- the whole program, over notes that are taken back
abbrev pub program : List Node → List Note → Result (List Note) Refusal
program t notes = ended t (declarations outermost (tree t (node_at t 1).a) notes)

-- an answer and the notes that were left, as one
abbrev pub leaves : Result (Unit {0}) Refusal → List Note → Result (List Note) Refusal
leaves (Ok u) notes = Ok notes
leaves (Err e) notes = Err e

-- A call that was to come to out answered r: its answer and the notes after it are out's, those beyond the table are
-- as they were, and as many names are on the shelf as before, whatever it answered.
pub record Walks (t : List Node) (out : Result (List Note) Refusal) (count : ℕ) (notes : List Note) (r : Result (Unit {0}) Refusal) (count' : ℕ) (notes' : List Note) : Type 0 where
  pub result : out ≡ leaves r notes'
  pub beyond : drop (length t) notes' ≡ drop (length t) notes
  pub kept : count' ≡ count

-- an answer, the names in scope and the notes that were left, as one
abbrev pub leaves_names : Result (Unit {0}) Refusal → List Name → List Note → Out (List Name)
leaves_names (Ok u) scope notes = Ok (scope, notes)
leaves_names (Err e) scope notes = Err e

-- A call that was to come to out answered r, with these names in scope and these notes after it. The shelf has room for
-- them, where it had room for those before.
pub record Declares (t : List Node) (out : Out (List Name)) (before : ℕ) (notes : List Note) (r : Result (Unit {0}) Refusal) (names : List Name) (count : ℕ) (notes' : List Note) : Type 0 where
  pub result : out ≡ leaves_names r (newest_first names count) notes'
  pub beyond : drop (length t) notes' ≡ drop (length t) notes
  pub room : before ≤ 512 → is_ok r ≡ true → count ≤ 512

abbrev pub leaves_scope : Result (Unit {0}) Refusal → List Name → Result (List Name) Refusal
leaves_scope (Ok u) scope = Ok scope
leaves_scope (Err e) scope = Err e

-- A declaration was to be entered: where it was, the shelf has room for all of its names.
pub record Enters (out : Result (List Name) Refusal) (r : Result (Unit {0}) Refusal) (names : List Name) (count : ℕ) : Type 0 where
  pub result : out ≡ leaves_scope r (newest_first names count)
  pub room : is_ok r ≡ true → count ≤ 512
