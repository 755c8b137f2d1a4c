-- Steps, and runs of steps.
use Rattle.std.specs.Prelude.{ℕ, zero, suc, ◌+◌, ◌-◌, Bool, true, false, List, [], ◌∷◌}
use Rattle.checker.specs.declared.node.Node.{Node}
use Rattle.checker.specs.declared.note.Note.{Note}
use Rattle.runner.specs.declared.frame.Frame.{Frame}
use Rattle.runner.specs.declared.verdict.Verdict.{Verdict}
use Rattle.runner.specs.declared.verdict.Verdict.TheVariants.{Running, Ended, Trapped}
use Rattle.runner.specs.State.{Core, Scene, State}
use Rattle.runner.specs.Rules.{Signal, Flow, stop, again, with_frames, with_world, begins, resumes, bottom}

-- a scene with another core
abbrev pub with_core : Core → Scene → Scene
with_core c s = record { core = c; cells = s.cells }

-- What follows once something is handed down: one frame after the other is taken off.
unfoldable pub settles : List Node → Scene → Signal → List Frame → Scene
settles t s g [] = with_core (bottom g (with_frames [] s.core)) s
settles t s g (f ∷ fs) =
    elim (resumes t g f (with_frames fs s.core)) [
      | stop c ↦ with_core c s
      | again w g' ↦ settles t (with_core (with_world w (with_frames fs s.core)) s) g' fs
    ]

abbrev pub follow : List Node → Scene → Flow → Scene
follow t s (stop c) = with_core c s
follow t s (again w g) = settles t (with_core (with_world w s.core) s) g s.core.frames

-- all that one node begins
unfoldable pub played : List Node → List Note → Scene → Scene
played t notes s = follow t s (begins t notes s.core)

-- a step, while the script runs
abbrev pub step_at : List Node → List Note → State → Verdict → State
step_at t notes s Running =
    let p = played t notes (record { core = s.core; cells = s.cells }) in
    record { core = p.core; cells = p.cells; steps = s.steps + 1; last = s.core.next }
step_at t notes s (Ended value) = s
step_at t notes s (Trapped trap place) = s

unfoldable pub stepped : List Node → List Note → State → State
stepped t notes s = step_at t notes s s.core.verdict

-- n steps; none once the script has ended or trapped
unfoldable pub ran : List Node → List Note → ℕ → State → State
ran t notes zero s = s
ran t notes (suc k) s = stepped t notes (ran t notes k s)

abbrev pub is_running : Verdict → Bool
is_running Running = true
is_running (Ended value) = false
is_running (Trapped trap place) = false

abbrev pub running : State → Bool
running s = is_running s.core.verdict

-- how many steps a grant comes to
abbrev pub steps_taken : List Node → List Note → ℕ → State → ℕ
steps_taken t notes grant s = (ran t notes grant s).steps - s.steps
