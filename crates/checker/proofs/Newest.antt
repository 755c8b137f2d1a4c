-- One entry after the other, the newest first.
use Rattle.std.proofs.Common.{◌≡◌, ℕ, ◌+◌, ◌<◌, min, List, [], ◌∷◌, reverse, length, take, set, sym, ap, ◌∙◌, inl, inr, arith}
use Rattle.std.proofs.lemmas.List.{take_more_set, take_all, reverse-append}
use Rattle.std.proofs.lemmas.Bool.{cases_lt}
use Rattle.checker.specs.Search.{newest_first}

module _ {E : Type 0} where
  -- an entry put behind the others is the newest
  pub newest_set : (es : List E) (i : ℕ) (e : E) → i < length es → newest_first (set es i e) (i + 1) ≡ e ∷ newest_first es i
  newest_set es i e h = ap reverse (take_more_set es i e h) ∙ reverse-append (take i es) (e ∷ [])

  -- places past the last are none
  pub newest_min : (es : List E) (n : ℕ) → newest_first es n ≡ newest_first es (min n (length es))
  newest_min es n =
      elim (cases_lt n (length es)) [
        | inl h ↦ let e : n ≡ min n (length es) = omega arith in ap (newest_first es) e
        | inr h ↦
            let e : length es ≡ min n (length es) = omega arith in
            ap reverse (take_all n es h ∙ sym (take_all (length es) es (omega arith))) ∙ ap (newest_first es) e
      ]
