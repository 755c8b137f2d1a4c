-- A stack as the list of what it holds, the newest first.
use Rattle.std.specs.Prelude.{ℕ, Bool, List, reverse, length, nat_lt}
use Rattle.arrayvec.specs.ArrayVec.{ArrayVec}

module _ {T : Type 0} where
  abbrev pub held : ArrayVec T → List T
  held s = reverse s.items

  abbrev pub room : ℕ → List T → Bool
  room n xs = nat_lt (length xs) n
