-- One turn of what follows.
use Rattle.std.proofs.Common.{◌≡◌, ℕ, ◌<◌, List, [], ◌∷◌, ◌++◌, reverse, length, sym, ap, ◌∙◌, arith}
use Rattle.std.specs.declared.ops.ControlFlow.TheVariants.{Continue, Break}
use Rattle.checker.specs.declared.node.Node.{Node}
use Rattle.checker.specs.declared.note.Note.{Note}
use Rattle.runner.specs.declared.frame.Frame.{Frame}
use Rattle.runner.specs.declared.machine.Machine.{Machine}
use Rattle.arrayvec.specs.ArrayVec.{ArrayVec}
use Rattle.runner.specs.declared.turn.Turn.{Turn}
use Rattle.runner.specs.Newest.{held}
use Rattle.runner.proofs.Held.{popped, emptied}
use Rattle.runner.specs.State.{Core, Scene, Cell, core_of, scene}
use Rattle.runner.specs.Rules.{Signal, Flow, stop, again, Follows, flow_of, with_frames, with_world, bottom, begins, resumes}
use Rattle.runner.specs.Run.{with_core, settles, follow, played}

-- no frame is left
settles_none : (t : List Node) (s : Scene) (g : Signal) (fs : List Frame) (v : Core) → fs ≡ [] → v ≡ bottom g (with_frames [] s.core) → settles t s g fs ≡ with_core v s
unfolding settles
settles_none t s g fs v e h = ap (settles t s g) e ∙ ap (λ (c : Core). with_core c s) (sym h)

module _ (t : List Node) (s : Scene) (g : Signal) (fs xs : List Frame) (x : Frame) where
  -- the frame on top ends the step
  settles_stop : (v : Core) (k : Flow) → fs ≡ x ∷ xs → resumes t g x (with_frames xs s.core) ≡ k → Follows (with_frames xs s.core) k (Break tt) v → settles t s g fs ≡ with_core v s
  unfolding settles
  settles_stop v (stop c) e w l = ap (settles t s g) e ∙ rw (w, settles) (ap (λ (y : Core). with_core y s) (sym l.after))
  settles_stop v (again w' g') e w l = let q = l.says in let z : ◌≡◌ {A = ℕ} 0 1 = cc in absurd (omega arith)

  -- the frame on top hands something on
  settles_again : (g₁ : Signal) (v : Core) (k : Flow) → fs ≡ x ∷ xs → resumes t g x (with_frames xs s.core) ≡ k → Follows (with_frames xs s.core) k (Continue g₁) v → settles t s g fs ≡ settles t (with_core v s) g₁ v.frames
  unfolding settles
  settles_again g₁ v (stop c) e w l = let q = l.says in let z : ◌≡◌ {A = ℕ} 0 1 = cc in absurd (omega arith)
  settles_again g₁ v (again w' g') e w l =
      let q = l.says in
      let gs : g' ≡ g₁ = cc in
      ap (settles t s g) e
      ∙ rw (w, settles)
      (ap (λ y. settles t (with_core (with_world w' (with_frames xs s.core)) s) y xs) gs
      ∙ ap (λ (y : Core). settles t (with_core y s) g₁ y.frames) (sym l.after))

-- the frame on top is taken off and told; what it comes to is done
module _ (t : List Node) (m n : Machine) (cells : List Cell) (p : ArrayVec Frame) (x : Frame) (turn : Turn) (g : Signal) (off : m.frames.items ≡ p.items ++ x ∷ []) (told : (s : Core) → flow_of turn s ≡ resumes t g x s) where
  pub settled_stop : Follows (with_frames (held p) (core_of m)) (flow_of turn (with_frames (held p) (core_of m))) (Break tt) (core_of n) → scene n cells ≡ settles t (scene m cells) g (held m.frames)
  settled_stop l = sym (settles_stop t (scene m cells) g _ _ x (core_of n) _ (popped _ _ x off) (sym (told _)) l)

  pub settled_again : (g₁ : Signal) → Follows (with_frames (held p) (core_of m)) (flow_of turn (with_frames (held p) (core_of m))) (Continue g₁) (core_of n) → settles t (scene m cells) g (held m.frames) ≡ settles t (scene n cells) g₁ (held n.frames)
  settled_again g₁ l = settles_again t (scene m cells) g _ _ x g₁ (core_of n) _ (popped _ _ x off) (sym (told _)) l

-- no frame is left
pub settled_last : (t : List Node) (m n : Machine) (cells : List Cell) (p : ArrayVec Frame) (g : Signal) → (0 < length m.frames.items → ⊥) → p ≡ m.frames → core_of n ≡ bottom g (with_frames (held p) (core_of m)) → scene n cells ≡ settles t (scene m cells) g (held m.frames)
settled_last t m n cells p g none same done =
    let e = emptied m.frames.items none in
    sym (settles_none t (scene m cells) g _ (core_of n) (ap reverse e)
    (done
    ∙ ap (λ (fs : ArrayVec Frame). bottom g (with_frames (held fs) (core_of m))) same
    ∙ ap (λ (fs : List Frame). bottom g (with_frames (reverse fs) (core_of m))) e))

module _ (t : List Node) (s : Scene) (v : Core) where
  follow-stop : (k : Flow) → Follows s.core k (Break tt) v → with_core v s ≡ follow t s k
  follow-stop (stop c) l = ap (λ (y : Core). with_core y s) l.after
  follow-stop (again w g) l = let q = l.says in let z : ◌≡◌ {A = ℕ} 0 1 = cc in absurd (omega arith)

  follow-again : (k : Flow) (g : Signal) → Follows s.core k (Continue g) v → settles t (with_core v s) g v.frames ≡ follow t s k
  follow-again (stop c) g l = let q = l.says in let z : ◌≡◌ {A = ℕ} 0 1 = cc in absurd (omega arith)
  follow-again (again w g') g l =
      let q = l.says in
      let gs : g ≡ g' = cc in
      ap (λ (y : Core). settles t (with_core y s) g y.frames) l.after
      ∙ ap (λ y. settles t (with_core (with_world w s.core) s) y s.core.frames) gs

module _ (t : List Node) (notes : List Note) (m n : Machine) (cells : List Cell) where
  -- what begins ends the step
  pub played_stop : Follows (core_of m) (begins t notes (core_of m)) (Break tt) (core_of n) → scene n cells ≡ played t notes (scene m cells)
  unfolding played
  played_stop l = follow-stop t (scene m cells) (core_of n) (begins t notes (core_of m)) l

  -- what begins hands something on
  pub played_again : (g : Signal) → Follows (core_of m) (begins t notes (core_of m)) (Continue g) (core_of n) → settles t (scene n cells) g (held n.frames) ≡ played t notes (scene m cells)
  unfolding played
  played_again g l = follow-again t (scene m cells) (core_of n) (begins t notes (core_of m)) g l
