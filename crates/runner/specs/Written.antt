-- An output as the bytes that are written.
use Rattle.std.specs.Prelude.{ℕ, List}
use Rattle.arrayvec.specs.ArrayVec.{ArrayVec}

abbrev pub written : ArrayVec ℕ → List ℕ
written o = o.items
