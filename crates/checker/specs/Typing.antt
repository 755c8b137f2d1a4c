-- What an expression's type is, and what is noted of it.
use Rattle.std.specs.Prelude.{◌≡◌, ℕ, ◌+◌, Bool, true, false, cond, ◌||◌, List, [], ◌∷◌, length, drop, Some, None, Ok, Err, Option, Result, ◌==◌}
use Rattle.checker.specs.declared.node.Node.{Node}
use Rattle.checker.specs.declared.note.Note.{Note}
use Rattle.checker.specs.declared.refusal.Refusal.{Refusal}
use Rattle.checker.specs.declared.refusal.Question.TheVariants.{NodeForm, InScope, ArgumentCount, WantedType, NotMain}
use Rattle.checker.specs.declared.shelf.Name.{Name}
use Rattle.checker.specs.declared.types.Ty.{Ty}
use Rattle.checker.specs.declared.types.Ty.TheVariants.{Void, Int}
use Rattle.checker.specs.declared.types.Valued.{Valued}
use Rattle.checker.specs.declared.types.Arguments.{Arguments}
use Rattle.checker.specs.Questions.{refuse, then}
use Rattle.checker.specs.Notes.{put}
use Rattle.checker.specs.Scope.{means}
use Rattle.checker.specs.Tree.{Tree, none, at, tree}

-- the number of a type in a note: 2 int, 7 a call without a value
abbrev pub type_number : Ty → ℕ
type_number Void = 7
type_number Int = 2

-- the note of an expression that is used as it is
abbrev pub note_of : Ty → Note
note_of ty = record { ty = type_number ty; turned = false; declaration = 0 }

-- an answer, and the notes after it
abbrev pub Out : Type 0 → Type 0
Out X = Result (X × List Note) Refusal

-- a value of the expression at node n
abbrev pub valued : ℕ → Node → Ty → Valued
valued n d ty = record { node = n; line = d.line; ty = ty }

-- how many parameters a built-in has: putInt and putIntLn one, putLn none. All are int.
abbrev pub parameters : ℕ → ℕ
parameters name = cond (name == 2 || name == 3) 1 0

abbrev pub is_int : Ty → Bool
is_int Void = false
is_int Int = true

-- the first of the arguments that is no int
abbrev pub first_unfit : List Valued → Option Valued
first_unfit [] = None
first_unfit (x ∷ xs) = cond (is_int x.ty) (first_unfit xs) (Some x)

-- the arguments have the types that are wanted
abbrev pub arguments_fit : Option Valued → Result Ty Refusal
arguments_fit None = Ok Void
arguments_fit (Some x) = refuse WantedType x.node x.line

-- the first of two that is there
abbrev pub earlier : Option Valued → Option Valued → Option Valued
earlier (Some x) y = Some x
earlier None y = y

abbrev pub no_arguments : Arguments
no_arguments = record { count = 0; unfit = None }

-- what the arguments of a call come to, after some that came before them
abbrev pub after : Arguments → Out (List Valued) → Out Arguments
after s (Ok p) = Ok (record { count = s.count + length p.0; unfit = earlier s.unfit (first_unfit p.0) }, p.1)
after s (Err e) = Err e

-- a call that means this declaration: it is not main, and its arguments are as many as the parameters and fit
abbrev pub call_of : ℕ → Node → Option Name → ℕ → Option Valued → Result Ty Refusal
call_of n d None count unfit = refuse InScope n d.line
call_of n d (Some e) count unfit =
    cond (e.declaration == 0)
    (cond (count == parameters d.value) (arguments_fit unfit) (refuse ArgumentCount n d.line))
    (refuse NotMain n d.line)

abbrev pub with_notes : {X : Type 0} → List Note → Result X Refusal → Out X
with_notes notes (Ok x) = Ok (x, notes)
with_notes notes (Err e) = Err e

-- The expression at node n, where arguments says what the chain on its link a comes to.
abbrev pub type_at : List Name → ℕ → Node → (List Note → Out (List Valued)) → List Note → Out Ty
type_at scope n d arguments notes =
    cond (d.kind == 20) (Ok (Int, notes))
    (cond (d.kind == 25)
    (then (arguments notes) (λ p. with_notes p.1 (call_of n d (means scope d.value) (length p.0) (first_unfit p.0))))
    (refuse NodeForm n d.line))

-- A chain of expressions: each has its type and its note, one after the other.
abbrev pub values : List Name → Tree → List Note → Out (List Valued)
values scope none notes = Ok ([], notes)
values scope (at n d a b c next) notes =
    then (type_at scope n d (values scope a) notes)
    (λ p. then (values scope next (put n (note_of p.0) p.1))
    (λ q. Ok (valued n d p.0 ∷ q.0, q.1)))

-- an answer and the notes that were left, as one
abbrev pub carries : {X : Type 0} → Result X Refusal → List Note → Out X
carries (Ok x) notes = Ok (x, notes)
carries (Err e) notes = Err e

-- The expression d at node n was typed with these names in scope: the answer was r, with these notes after it.
pub record Types (t : List Node) (scope : List Name) (n : ℕ) (d : Node) (notes : List Note) (r : Result Ty Refusal) (notes' : List Note) : Type 0 where
  pub result : type_at scope n d (values scope (tree t d.a)) notes ≡ carries r notes'
  pub beyond : drop (length t) notes' ≡ drop (length t) notes

-- The chain of expressions on a link was typed.
pub record Gathers (t : List Node) (scope : List Name) (first : ℕ) (notes : List Note) (r : Result Arguments Refusal) (notes' : List Note) : Type 0 where
  pub result : after no_arguments (values scope (tree t first) notes) ≡ carries r notes'
  pub beyond : drop (length t) notes' ≡ drop (length t) notes
