-- The rules: what begins at each node, and what each frame does with what it is handed.
use Rattle.std.specs.Prelude.{◌≡◌, ℕ, if◌then◌else◌, not, ◌&&◌, ◌||◌, List, ◌∷◌, ◌++◌, pos, Some, None, Option, ◌==◌}
use Rattle.std.specs.declared.ops.ControlFlow.{ControlFlow}
use Rattle.std.specs.declared.ops.ControlFlow.TheVariants.{Continue, Break}
use Rattle.numbers.specs.Shown.{shown}
use Rattle.memories.specs.declared.value.Value.{Value}
use Rattle.checker.specs.declared.node.Node.{Node}
use Rattle.checker.specs.declared.note.Note.{Note}
use Rattle.checker.specs.Tree.{item_at}
use Rattle.runner.specs.declared.frame.Frame.{Frame}
use Rattle.runner.specs.declared.frame.Frame.TheVariants.{InBlock, InStatement, InCall}
use Rattle.runner.specs.declared.turn.Turn.{Turn}
use Rattle.runner.specs.declared.turn.Turn.TheVariants.{Hands, Waits, Prints, Traps}
use Rattle.runner.specs.declared.trap.Trap.{Trap}
use Rattle.runner.specs.declared.trap.Trap.TheVariants.{OutputFull, TooDeep, NoRule}
use Rattle.runner.specs.declared.verdict.Verdict.{Verdict}
use Rattle.runner.specs.declared.verdict.Verdict.TheVariants.{Ended, Trapped}
use Rattle.runner.specs.Newest.{room}
use Rattle.runner.specs.Printed.{int_text, line_of, newline, output_fits}
use Rattle.runner.specs.State.{Core, World}

-- A core with one part changed.
abbrev pub with_frames : List Frame → Core → Core
with_frames fs s = record { frames = fs; next = s.next; verdict = s.verdict; world = s.world }

abbrev pub with_next : ℕ → Core → Core
with_next n s = record { frames = s.frames; next = n; verdict = s.verdict; world = s.world }

abbrev pub with_verdict : Verdict → Core → Core
with_verdict v s = record { frames = s.frames; next = s.next; verdict = v; world = s.world }

abbrev pub with_world : World → Core → Core
with_world w s = record { frames = s.frames; next = s.next; verdict = s.verdict; world = w }

abbrev pub printed : List ℕ → World → World
printed text w = record { output = w.output ++ text; taken = w.taken }

-- what a node that is finished hands down: its value, or none where it is only done
abbrev pub Signal : Type 0
Signal = Option Value

-- How a rule ends: the step is over, or the frame below is handed something.
pub data Flow : Type 0 where
  stop : Core → Flow
  again : World → Signal → Flow

abbrev pub signal_of : Flow → ControlFlow (Unit {0}) Signal
signal_of (stop s) = Break tt
signal_of (again w g) = Continue g

abbrev pub core_after : Core → Flow → Core
core_after s (stop s') = s'
core_after s (again w g) = with_world w s

-- what a function that follows a rule answers, and the core that it leaves
pub record Follows (s : Core) (f : Flow) (r : ControlFlow (Unit {0}) Signal) (v : Core) : Type 0 where
  pub says : r ≡ signal_of f
  pub after : v ≡ core_after s f

-- a trap at a node
abbrev pub traps : Trap → ℕ → Core → Flow
traps trap n s = stop (with_verdict (Trapped trap n) s)

abbrev pub no_rule : ℕ → Core → Flow
no_rule n s = traps NoRule n s

-- a frame more, and the node that it waits for
abbrev pub awaits : Frame → ℕ → Core → Flow
awaits f n s = stop (with_next n (with_frames (f ∷ s.frames) s))

-- a text is printed whole, or not at all
abbrev pub put : ℕ → List ℕ → Core → Flow
put n text s =
    if output_fits s.world.output text then again (printed text s.world) None
    else traps OutputFull n s

-- what a turn comes to
abbrev pub flow_of : Turn → Core → Flow
flow_of (Hands g) s = again s.world g
flow_of (Waits f n) s = awaits f n s
flow_of (Prints n text) s = put n (shown text) s
flow_of (Traps trap n) s = traps trap n s

abbrev pub if_some : {X Y : Type 0} → Option X → (X → Y) → Y → Y
if_some (Some x) k other = k x
if_some None k other = other

abbrev pub if_done : {Y : Type 0} → Signal → Y → Y → Y
if_done None k other = k
if_done (Some v) k other = other

-- an int, whose type is 2
abbrev pub integer : ℕ → Value
integer word = record { ty = 2; word = word }

-- What begins at a node n, by its kind.

-- a block begins with its first statement
abbrev pub begin_block : ℕ → Node → Core → Flow
begin_block n d s = if d.b == 0 then again s.world None else awaits (InBlock n d.b) d.b s

abbrev pub begin_statement : ℕ → Node → Core → Flow
begin_statement n d s = if d.a == 0 then again s.world None else awaits (InStatement n) d.a s

abbrev pub begin_literal : Node → Core → Flow
begin_literal d s = again s.world (Some (integer d.value))

-- the built-ins: putInt is 2, putIntLn 3 and putLn 9
abbrev pub begin_put : ℕ → Node → Core → Flow
begin_put n d s =
    if d.value == 9 && d.a == 0 then put n newline s
    else if (d.value == 2 || d.value == 3) && not (d.a == 0) then awaits (InCall n) d.a s
    else no_rule n s

-- a call is of a built-in where its note has no declaration
abbrev pub begin_call : ℕ → Node → Note → Core → Flow
begin_call n d m s = if m.declaration == 0 then begin_put n d s else no_rule n s

abbrev pub begin_node : ℕ → Node → Note → Core → Flow
begin_node n d m s =
    if d.kind == 10 then begin_block n d s
    else if d.kind == 18 then begin_statement n d s
    else if d.kind == 20 then begin_literal d s
    else if d.kind == 25 then begin_call n d m s
    else no_rule n s

-- what begins at a number: there is a rule only for a node that has its note
abbrev pub begin_at : List Node → List Note → ℕ → Core → Flow
begin_at t notes n s = if_some (item_at t n) (λ d. if_some (item_at notes n) (λ m. begin_node n d m s) (no_rule n s)) (no_rule n s)

-- 1,024 nodes may be begun and unfinished
abbrev pub begins : List Node → List Note → Core → Flow
begins t notes s = if room 1024 s.frames then begin_at t notes s.next s else traps TooDeep s.next s

-- What each frame, taken off, does with what it is handed.

-- a statement is done: its block goes on with the next one, or is done too
abbrev pub in_block : List Node → Signal → ℕ → ℕ → Core → Flow
in_block t g b n s =
    if_done g
    (if_some (item_at t n)
    (λ d. if d.next == 0 then again s.world None else awaits (InBlock b d.next) d.next s)
    (no_rule b s))
    (no_rule b s)

-- the value of an expression statement is dropped
abbrev pub in_statement : Signal → Core → Flow
in_statement g s = again s.world None

-- what a built-in prints of its argument
abbrev pub put_value : ℕ → ℕ → Value → Core → Flow
put_value n name v s =
    if name == 2 && v.ty == 2 then put n (int_text v.word) s
    else if name == 3 && v.ty == 2 then put n (line_of (int_text v.word)) s
    else no_rule n s

abbrev pub in_call : List Node → Signal → ℕ → Core → Flow
in_call t g n s = if_some g (λ v. if_some (item_at t n) (λ d. put_value n d.value v s) (no_rule n s)) (no_rule n s)

abbrev pub resumes : List Node → Signal → Frame → Core → Flow
resumes t g (InBlock b n) s = in_block t g b n s
resumes t g (InStatement n) s = in_statement g s
resumes t g (InCall n) s = in_call t g n s

-- No frame is left: main's block is done, and the script ends with 0.
abbrev pub bottom : Signal → Core → Core
bottom None s = with_verdict (Ended (pos 0)) s
bottom (Some v) s = with_verdict (Trapped NoRule s.next) s
