-- What a session is, from what each rule may change to the whole.
use Rattle.std.specs.Prelude.{ℕ, List, [], Option}
use Rattle.memories.specs.declared.value.Value.{Value}
use Rattle.runner.specs.declared.frame.Frame.{Frame}
use Rattle.runner.specs.declared.verdict.Verdict.{Verdict}
use Rattle.runner.specs.declared.verdict.Verdict.TheVariants.{Running}
use Rattle.runner.specs.declared.machine.Machine.{Machine}
use Rattle.runner.specs.declared.machine.Course.{Course}
use Rattle.runner.specs.Newest.{held}
use Rattle.runner.specs.Written.{written}

-- a cell is unset or holds a value
abbrev pub Cell : Type 0
Cell = Option Value

-- what a node that is finished may leave behind
pub record World : Type 0 where
  pub output : List ℕ
  -- how many inputs are taken
  pub taken : ℕ

-- what a rule may change
pub record Core : Type 0 where
  -- what is begun and unfinished, the newest first
  pub frames : List Frame
  -- the node to begin next
  pub next : ℕ
  pub verdict : Verdict
  pub world : World

-- nothing is begun, printed or taken, and the next node is to be set
abbrev pub resting : Core
resting = record { frames = []; next = 0; verdict = Running; world = record { output = []; taken = 0 } }

-- what all that follows a node may change
pub record Scene : Type 0 where
  pub core : Core
  pub cells : List Cell

-- what a step may change: the cells are those below the limit
pub record State : Type 0 where
  pub core : Core
  pub cells : List Cell
  pub steps : ℕ
  -- the node begun last
  pub last : ℕ

abbrev pub core_of : Machine → Core
core_of m = record {
  frames = held m.frames;
  next = m.next;
  verdict = m.verdict;
  world = record { output = written m.output; taken = m.taken };
}

abbrev pub scene : Machine → List Cell → Scene
scene m cells = record { core = core_of m; cells = cells }

abbrev pub view : Course → List Cell → State
view c cells = record { core = core_of c.machine; cells = cells; steps = c.steps; last = c.last }
