-- What a pop does to the list of what a stack holds.
use Rattle.std.proofs.Common.{◌≡◌, ◌<◌, ◌≤◌, true, List, [], ◌∷◌, ◌++◌, reverse, length, length-append, refl, ap, ◌∙◌, arith}
use Rattle.std.proofs.lemmas.List.{reverse-append, length-reverse}
use Rattle.std.proofs.lemmas.Bool.{lt-ltb}
use Rattle.runner.specs.Newest.{room}

module _ {T : Type 0} (xs ys : List T) (f : T) where
  -- where something was taken off, there is room
  pub popped_room : length xs ≤ 1024 → xs ≡ ys ++ f ∷ [] → room 1024 (reverse ys) ≡ true
  popped_room h e =
      let l = ap length e ∙ length-append ys (f ∷ []) in
      let r = length-reverse ys in
      lt-ltb (length (reverse ys)) 1024 (omega (arith, l, r, h))

  -- the last that was pushed is the newest
  pub popped : xs ≡ ys ++ f ∷ [] → reverse xs ≡ f ∷ reverse ys
  popped e = ap reverse e ∙ reverse-append ys (f ∷ [])

-- what is not longer than nothing holds nothing
pub emptied : {T : Type 0} (xs : List T) → (0 < length xs → ⊥) → xs ≡ []
emptied [] h = refl
emptied (x ∷ xs) h = absurd (h (omega arith))
