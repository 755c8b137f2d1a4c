-- Which floats are lawful.
use Rattle.std.proofs.Common.{◌≡◌, ℕ, ◌%◌, ◌^◌, ◌<◌, not, ◌||◌, eqb, sym, ap, ◌∙◌}
use lib.Ieee.{binary32}
use lib.Ieee.Bits.{nan_bits_is, nan_bits_above}
use Rattle.std.proofs.lemmas.Bool.{lt-ltb}
use Rattle.runner.specs.Given.{lawful_float}

-- of the NaNs one is lawful
pub nan_lawful : (b : ℕ) → 0x7F80_0000 < b % 2 ^ 31 → eqb b 0x7FC0_0000 ≡ lawful_float b
nan_lawful b h =
    let nan = sym (nan_bits_is binary32 b) ∙ nan_bits_above binary32 b ∙ lt-ltb _ _ h in
    sym (ap (λ n. not n || eqb b 0x7FC0_0000) nan)
