-- The newest entry with a key.
use Rattle.std.specs.Prelude.{ℕ, List, reverse, take, Option, ◌==◌}
use Rattle.std.specs.List.{find as first_that}

module _ {E : Type 0} where
  -- the entries in the first count places, the newest first
  abbrev pub newest_first : List E → ℕ → List E
  newest_first places count = reverse (take count places)

  -- the first entry with that key
  abbrev pub find : (E → ℕ) → List E → ℕ → Option E
  find key es k = first_that (λ e. key e == k) es
