-- What the public call answers and leaves, over plain values.
use Rattle.std.proofs.Common.{◌≡◌, ℕ, true, false, List, length, drop, is_err, Ok, Err, Result, sym, refl, ap, ◌∙◌, inl, inr, arith}
use Rattle.std.proofs.lemmas.Bool.{cases_Bool, false≢true, cond-true, cond-false}
use Rattle.checker.specs.declared.node.Node.{Node}
use Rattle.checker.specs.declared.note.Note.{Note}
use Rattle.checker.specs.declared.refusal.Refusal.{Refusal}
use Rattle.checker.specs.declared.refusal.Question.TheVariants.{TableSize}
use Rattle.checker.specs.Questions.{refuse, then}
use Rattle.checker.specs.Notes.{cleared}
use Rattle.checker.specs.Form.{sized, ask_size, formed}
use Rattle.checker.specs.Judge.{program, leaves}
use Rattle.checker.specs.Check.{checked, answer, notes_left, Checked}
use Rattle.checker.proofs.Noted.{cleared_same, cleared_beyond}

module _ (t : List Node) (notes : List Note) where
  passes : sized (length t) (length notes) ≡ true → ask_size (length t) (length notes) ≡ Ok tt
  passes s = cond-true _ _ _ s

  -- a table of a good size, by what the questions about its nodes come to
  pub good_size : sized (length t) (length notes) ≡ true → checked t notes ≡ then (formed t) (λ (_ : Unit {0}). program t (cleared (length t) notes))
  unfolding checked
  good_size s = rw (passes s) refl

  pub size_yes : Ok tt ≡ ask_size (length t) (length notes) → sized (length t) (length notes) ≡ true
  size_yes e =
      elim (cases_Bool (sized (length t) (length notes))) [
        | inl s ↦ s
        | inr s ↦
            let x = e ∙ cond-false (sized (length t) (length notes)) (Ok tt) (refuse TableSize 0 0) s in
            let z : ◌≡◌ {A = ℕ} 0 1 = cc in absurd (omega arith)
      ]

  pub size_refused : (f : Refusal) (r : Result (Unit {0}) Refusal) → Err f ≡ ask_size (length t) (length notes) → r ≡ Err f → Checked t notes r notes 0
  unfolding checked
  size_refused f r e b =
      elim (cases_Bool (sized (length t) (length notes))) [
        | inl s ↦ let x = e ∙ passes s in let z : ◌≡◌ {A = ℕ} 0 1 = cc in absurd (omega arith)
        | inr s ↦ record { answered = rw (← e) b; noted = rw (← e, s) refl; beyond = refl; emptied = refl }
      ]

  module _ (notes₁ : List Note) (s : sized (length t) (length notes) ≡ true) (beyond : drop (length t) notes₁ ≡ drop (length t) notes) where
    pub judged_no : (r : Result (Unit {0}) Refusal) (notes₂ : List Note) → checked t notes ≡ leaves r notes₁ → true ≡ is_err r → length notes₁ ≡ length notes → notes₂ ≡ cleared (length t) notes₁ → Checked t notes r notes₂ 0
    judged_no (Ok u) notes₂ c i l e = absurd (false≢true (sym i))
    judged_no (Err f) notes₂ c i l e =
        let back : notes₂ ≡ cleared (length t) notes = e ∙ cleared_same (length t) notes₁ notes l beyond in
        record {
          answered = sym (ap answer c);
          noted = back ∙ sym (ap (notes_left t notes) c ∙ cond-true _ _ _ s);
          beyond = ap (drop (length t)) back ∙ cleared_beyond (length t) notes;
          emptied = refl;
        }

    pub judged_yes : (r : Result (Unit {0}) Refusal) → checked t notes ≡ leaves r notes₁ → false ≡ is_err r → Checked t notes r notes₁ 0
    judged_yes (Ok u) c i = record { answered = sym (ap answer c); noted = sym (ap (notes_left t notes) c); beyond = beyond; emptied = refl }
    judged_yes (Err f) c i = absurd (false≢true i)
