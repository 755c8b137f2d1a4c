-- What is cleared below a limit.
use Rattle.std.proofs.Common.{◌≡◌, ℕ, ◌+◌, ◌<◌, ◌≤◌, Bool, cond, ltb, List, [], ◌∷◌, ◌++◌, length, take, drop, set, replicate, ap, ◌∙◌, arith}
use Rattle.std.proofs.lemmas.List.{drop-set-lt, length-set, take_more_set, replicate_more}
use Rattle.std.proofs.lemmas.Bool.{lt-ltb}

module _ {X : Type 0} where
  -- one more place is filled
  pub fills : (n : ℕ) (xs ys zs : List X) (i : ℕ) (x : X) (b : Bool) → i < n → n ≤ length zs → length xs ≡ length zs → b ≡ ltb i (length xs) → ys ≡ cond b (set xs i x) xs → take i xs ≡ replicate i x → drop n xs ≡ drop n zs → (length ys ≡ length zs) × (take (i + 1) ys ≡ replicate (i + 1) x) × (drop n ys ≡ drop n zs)
  fills n xs ys zs i x b h k l e w f d =
      let inside : i < length xs = omega arith in
      let all = w ∙ ap (λ c. cond c (set xs i x) xs) (e ∙ lt-ltb i (length xs) inside) in (
        ap length all ∙ length-set xs i x ∙ l,
        ap (take (i + 1)) all ∙ take_more_set xs i x inside ∙ ap (λ q. q ++ x ∷ []) f ∙ replicate_more i x,
        ap (drop n) all ∙ drop-set-lt n xs i x h ∙ d,
      )
