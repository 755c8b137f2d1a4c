-- Numbers are read piece by piece. Assumes nothing.
use Rattle.std.proofs.Common.{◌≡◌, ℕ, suc, ◌+◌, ◌-◌, ◌<◌, ◌≤◌, List, [], ◌∷◌, ◌++◌, length, take, set, Some, None, Option, sym, refl, ap, ◌∙◌, append_assoc, arith}
use Rattle.std.proofs.lemmas.List.{take_more_set, length-set}
use Rattle.job.specs.Lines.{number_of, and_numbers, numbers_of}

-- numbers in front of others, where these are there
abbrev pub after_numbers : List ℕ → Option (List ℕ) → Option (List ℕ)
after_numbers front None = None
after_numbers front (Some others) = Some (front ++ others)

-- i numbers are found, and the pieces left decide the others
pub record Taken (count : ℕ) (pieces : List (List ℕ)) (found : List ℕ) (i : ℕ) (left : List (List ℕ)) : Type 0 where
  pub size : length found ≡ count
  pub so : numbers_of count pieces ≡ after_numbers (take i found) (numbers_of (count - i) left)

after_more : (front : List ℕ) (n : ℕ) (o : Option (List ℕ)) → after_numbers front (and_numbers (Some n) o) ≡ after_numbers (front ++ n ∷ []) o
after_more front n None = refl
after_more front n (Some others) = ap Some (sym (append_assoc front (n ∷ []) others))

module _ (count : ℕ) (pieces : List (List ℕ)) (found : List ℕ) (i : ℕ) (left : List (List ℕ)) (t : Taken count pieces found i left) where
  one_more : i < count → (l : List (List ℕ)) → left ≡ l → numbers_of count pieces ≡ after_numbers (take i found) (numbers_of (suc (count - (i + 1))) l)
  one_more h l e =
      let n : count - i ≡ suc (count - (i + 1)) = omega arith in
      t.so ∙ ap (λ (k : ℕ). after_numbers (take i found) (numbers_of k left)) n
      ∙ ap (λ (x : List (List ℕ)). after_numbers (take i found) (numbers_of (suc (count - (i + 1))) x)) e

  no_more : count ≤ i → (l : List (List ℕ)) → left ≡ l → numbers_of count pieces ≡ after_numbers (take i found) (numbers_of 0 l)
  no_more h l e =
      let n : count - i ≡ 0 = omega arith in
      t.so ∙ ap (λ (k : ℕ). after_numbers (take i found) (numbers_of k left)) n
      ∙ ap (λ (x : List (List ℕ)). after_numbers (take i found) (numbers_of 0 x)) e

  pub taken_more : (piece : List ℕ) (more : List (List ℕ)) (v : ℕ) → i < count → left ≡ piece ∷ more → Some v ≡ number_of piece → Taken count pieces (set found i v) (i + 1) more
  taken_more piece more v h e some =
      let l = t.size in
      let room : i < length found = omega arith in
      record {
        size = length-set found i v ∙ l;
        so =
            one_more h (piece ∷ more) e
            ∙ ap (λ (o : Option ℕ). after_numbers (take i found) (and_numbers o (numbers_of (count - (i + 1)) more))) (sym some)
            ∙ after_more (take i found) v (numbers_of (count - (i + 1)) more)
            ∙ ap (λ (f : List ℕ). after_numbers f (numbers_of (count - (i + 1)) more)) (sym (take_more_set found i v room));
      }

  pub too_many : (piece : List ℕ) (more : List (List ℕ)) → count ≤ i → left ≡ piece ∷ more → None ≡ numbers_of count pieces
  too_many piece more h e = sym (no_more h (piece ∷ more) e)
