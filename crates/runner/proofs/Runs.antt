-- Laws of runs: steps one after the other.
use Rattle.std.proofs.Common.{◌≡◌, ℕ, zero, suc, ◌+◌, ◌-◌, ◌≤◌, true, false, ◌⊎◌, List, sym, refl, ap, ◌∙◌, inl, inr, add-one, arith}
use Rattle.std.proofs.lemmas.Bool.{both_ways, cases_Bool}
use Rattle.checker.specs.declared.node.Node.{Node}
use Rattle.checker.specs.declared.note.Note.{Note}
use Rattle.runner.specs.declared.verdict.Verdict.{Verdict}
use Rattle.runner.specs.declared.verdict.Verdict.TheVariants.{Running, Ended, Trapped}
use Rattle.runner.specs.State.{State}
use Rattle.runner.specs.Run.{step_at, stepped, ran, is_running, running}

module _ (t : List Node) (notes : List Note) where
  still_at : (s : State) (v : Verdict) → is_running v ≡ false → step_at t notes s v ≡ s
  still_at s Running h = absurd (both_ways true h refl)
  still_at s (Ended value) h = refl
  still_at s (Trapped trap place) h = refl

  -- a script that is over stays as it is
  pub still : (s : State) → running s ≡ false → stepped t notes s ≡ s
  unfolding stepped
  still s h = still_at s s.core.verdict h

  counts_at : (s : State) (v : Verdict) → is_running v ≡ true → (step_at t notes s v).steps ≡ s.steps + 1
  counts_at s Running h = refl
  counts_at s (Ended value) h = absurd (both_ways false refl h)
  counts_at s (Trapped trap place) h = absurd (both_ways false refl h)

  -- each step of one that runs counts
  pub counts : (s : State) → running s ≡ true → (stepped t notes s).steps ≡ s.steps + 1
  unfolding stepped
  counts s h = counts_at s s.core.verdict h

  pub ran_none : (s : State) → ran t notes 0 s ≡ s
  unfolding ran
  ran_none s = refl

  pub ran_more : (k : ℕ) (s : State) → ran t notes (k + 1) s ≡ stepped t notes (ran t notes k s)
  unfolding ran
  ran_more k s = rw add-one refl

  -- steps after steps
  pub ran_add : (k j : ℕ) (s : State) → ran t notes j (ran t notes k s) ≡ ran t notes (k + j) s
  ran_add k zero s = ran_none (ran t notes k s) ∙ ap (λ n. ran t notes n s) (omega arith)
  ran_add k (suc j) s =
      let e : suc j ≡ j + 1 = omega arith in
      let f : k + j + 1 ≡ k + suc j = omega arith in
      ap (λ n. ran t notes n (ran t notes k s)) e
      ∙ ran_more j (ran t notes k s)
      ∙ ap (stepped t notes) (ran_add k j s)
      ∙ sym (ran_more (k + j) s)
      ∙ ap (λ n. ran t notes n s) f

  over_on : (j : ℕ) (s : State) → running s ≡ false → ran t notes j s ≡ s
  over_on zero s h = ran_none s
  over_on (suc j) s h =
      let e : suc j ≡ j + 1 = omega arith in
      ap (λ n. ran t notes n s) e ∙ ran_more j s ∙ ap (stepped t notes) (over_on j s h) ∙ still s h

  -- once it is over, more steps change nothing
  pub ran_past : (k n : ℕ) (s : State) → running (ran t notes k s) ≡ false → k ≤ n → ran t notes n s ≡ ran t notes k s
  ran_past k n s h l =
      let e : n ≡ k + (n - k) = omega arith in
      ap (λ i. ran t notes i s) e ∙ sym (ran_add k (n - k) s) ∙ over_on (n - k) (ran t notes k s) h

  -- what runs has run all along
  pub ran_before : (i k : ℕ) (s : State) → i ≤ k → running (ran t notes k s) ≡ true → running (ran t notes i s) ≡ true
  ran_before i k s h r = go (cases_Bool (running (ran t notes i s)))
    where
      go : (running (ran t notes i s) ≡ true) ⊎ (running (ran t notes i s) ≡ false) → running (ran t notes i s) ≡ true
      go (inl e) = e
      go (inr e) = absurd (both_ways (running (ran t notes k s)) (ap running (ran_past i k s e h) ∙ e) r)

  -- while it runs, each step counts
  pub ran_counts : (k : ℕ) (s : State) → running (ran t notes k s) ≡ true → (ran t notes k s).steps ≡ s.steps + k
  ran_counts zero s r = ap (λ (x : State). x.steps) (ran_none s) ∙ omega arith
  ran_counts (suc k) s r =
      let e : suc k ≡ k + 1 = omega arith in
      let r₁ = ran_before k (suc k) s (omega arith) r in
      let a = ap (λ n. (ran t notes n s).steps) e ∙ ap (λ (x : State). x.steps) (ran_more k s) ∙ counts (ran t notes k s) r₁ in
      let b = ran_counts k s r₁ in
      omega (arith, a, b)
