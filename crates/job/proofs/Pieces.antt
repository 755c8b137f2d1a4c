-- A text is cut at its first mark. Assumes nothing.
use Rattle.std.proofs.Common.{◌≡◌, ℕ, ◌+◌, ◌<◌, eqb, ltb, List, [], ◌∷◌, length, take, drop, Some, None, refl, inl, inr, arith}
use Rattle.std.specs.List.{position, position_or_len}
use Rattle.std.proofs.lemmas.Bool.{cases_Bool, ltb-true, ltb-false}
use Rattle.std.proofs.lemmas.List.Splits.{slice_split_first, slice_split_none, length-slice_split}
use Rattle.std.proofs.lemmas.List.Sums.{fails_before_first}
use Rattle.job.specs.Lines.{cut}

module _ (mark : ℕ) (text : List ℕ) where
  pub cut_found : (i : ℕ) → Some i ≡ position (λ byte. eqb byte mark) text → cut mark text ≡ take i text ∷ cut mark (drop (i + 1) text)
  cut_found i e = elim (cases_Bool (ltb (position_or_len (λ byte. eqb byte mark) text) (length text))) [
    | inl h ↦
        let at = rw h at e in
        let same : i ≡ position_or_len (λ byte. eqb byte mark) text = cc in
        rw same (slice_split_first (λ byte. eqb byte mark) text 0 (ltb-true _ _ h))
    | inr h ↦ let at = rw h at e in cc
  ]

  pub cut_unfound : None ≡ position (λ byte. eqb byte mark) text → cut mark text ≡ text ∷ []
  cut_unfound e = elim (cases_Bool (ltb (position_or_len (λ byte. eqb byte mark) text) (length text))) [
    | inl h ↦ let at = rw h at e in cc
    | inr h ↦
        let past = ltb-false _ _ h in
        slice_split_none (λ byte. eqb byte mark) text (λ k d l. fails_before_first (λ byte. eqb byte mark) text k d (omega arith))
  ]

first_piece : (pieces : List (List ℕ)) → 0 < length pieces → (p : List ℕ) × ((ps : List (List ℕ)) × (pieces ≡ p ∷ ps))
first_piece [] h = absurd (omega arith)
first_piece (p ∷ ps) h = (p, (ps, refl))

-- a text has a piece
pub cut_some : (mark : ℕ) (text : List ℕ) → (p : List ℕ) × ((ps : List (List ℕ)) × (cut mark text ≡ p ∷ ps))
cut_some mark text = let l = length-slice_split (λ byte. eqb byte mark) text in first_piece (cut mark text) (omega arith)
