-- Steps that are granted in pieces come to the same as all of them at once.
use Rattle.std.proofs.Common.{◌≡◌, ℕ, ◌+◌, ◌-◌, ◌<◌, ◌≤◌, min, Bool, true, false, leb, ◌⊎◌, List, Ok, sym, refl, ap, ◌∙◌, inl, inr, arith}
use Rattle.std.proofs.lemmas.Bool.{cases_Bool, le-leb}
use Rattle.checker.specs.declared.node.Node.{Node}
use Rattle.checker.specs.declared.note.Note.{Note}
use Rattle.runner.specs.State.{State}
use Rattle.runner.specs.Run.{ran, running, steps_taken}
use Rattle.runner.specs.Calls.{grant_answer}
use Rattle.runner.proofs.Runs.{ran_none, ran_add, ran_past, ran_counts}

-- So many of the steps are left, and those before them were taken.
pub record Spending (t : List Node) (notes : List Note) (steps : ℕ) (s₀ : State) (left : ℕ) (opened : Bool) (s : State) : Type 0 where
  pub within : left ≤ steps
  pub open_still : opened ≡ true
  pub few : s.steps + left ≤ 1_099_511_627_776
  pub shown : s ≡ ran t notes (steps - left) s₀

pub begun : (t : List Node) (notes : List Note) (steps : ℕ) (opened : Bool) (s : State) → opened ≡ true → s.steps + steps ≤ 1_099_511_627_776 → Spending t notes steps s steps opened s
begun t notes steps opened s o f =
    let none : steps - steps ≡ 0 = omega arith in
    record { within = omega arith; open_still = o; few = f; shown = sym (ap (λ (n : ℕ). ran t notes n s) none ∙ ran_none t notes s) }

module _ (t : List Node) (notes : List Note) (steps : ℕ) (s₀ : State) (left : ℕ) (opened : Bool) (s : State) (spending : Spending t notes steps s₀ left opened s) (some : 0 < left) (grant : ℕ) (is : grant ≡ min left 1_000_000) where
  accepted : grant_answer t notes opened grant s ≡ Ok (steps_taken t notes grant s)
  accepted =
      let a : leb grant 1_000_000 ≡ true = le-leb _ _ (omega arith) in
      let b : leb (s.steps + grant) 1_099_511_627_776 ≡ true = le-leb _ _ (omega (arith, spending.few)) in
      rw (spending.open_still, a, b) refl

  took : (taken : ℕ) → Ok taken ≡ grant_answer t notes opened grant s → taken ≡ steps_taken t notes grant s
  took taken r = let x = r ∙ accepted in cc

  -- all steps of the grant were taken
  pub spent_on : (taken : ℕ) (s' : State) (opened' : Bool) → Ok taken ≡ grant_answer t notes opened grant s → taken ≡ grant → s' ≡ ran t notes grant s → opened' ≡ opened → Spending t notes steps s₀ (left - grant) opened' s'
  spent_on taken s' opened' r all e o =
      let k = took taken r in
      let c = ap (λ (x : State). x.steps) e in
      let same : steps - left + grant ≡ steps - (left - grant) = omega (arith, spending.within) in
      record {
        within = omega (arith, spending.within);
        open_still = o ∙ spending.open_still;
        few = omega (arith, spending.few);
        shown =
            e ∙ ap (ran t notes grant) spending.shown ∙ ran_add t notes (steps - left) grant s₀ ∙ ap (λ (n : ℕ). ran t notes n s₀) same;
      }

  -- fewer were taken, so the script has stopped
  pub spent_early : (taken : ℕ) (s' : State) → Ok taken ≡ grant_answer t notes opened grant s → (taken ≡ grant → ⊥) → s' ≡ ran t notes grant s → s' ≡ ran t notes steps s₀
  spent_early taken s' r fewer e = go (cases_Bool (running (ran t notes grant s)))
    where
      all : steps - left + left ≡ steps
      all = omega (arith, spending.within)

      rest : ran t notes left s ≡ ran t notes steps s₀
      rest = ap (ran t notes left) spending.shown ∙ ran_add t notes (steps - left) left s₀ ∙ ap (λ (n : ℕ). ran t notes n s₀) all

      go : (running (ran t notes grant s) ≡ true) ⊎ (running (ran t notes grant s) ≡ false) → s' ≡ ran t notes steps s₀
      go (inl runs) = absurd (fewer (let k = took taken r in let c = ran_counts t notes grant s runs in omega arith))
      go (inr stopped) = e ∙ sym (ran_past t notes grant left s stopped (omega arith)) ∙ rest
