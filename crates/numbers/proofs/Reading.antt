-- The digits of an integer are read as that integer.
use Rattle.std.proofs.Common.{◌≡◌, ℕ, zero, suc, ◌^◌, ◌<◌, ◌≤◌, false, eqb, List, get_or, ℤ, pos, negsuc, neg_ℤ, decimal, ap, ◌∙◌, arith, w32, to_z}
use lib.Signed.{mag}
use Rattle.std.specs.Str.Parse.{digits_value, signed_digits_value}
use Rattle.std.specs.Fmt.{signed_decimal}
use Rattle.std.proofs.lemmas.Fmt.{decimal_is_IsNumeral, decimal_digit, first_decimal}
use mir.ValLaws.{to_z-Fits}
use Rattle.std.proofs.lemmas.Bool.{ne_eqb}

-- a number begins with a digit
first : (n : ℕ) → n < 2 ^ 64 → 48 ≤ get_or (decimal n) 0 0
first zero h = omega (arith, ap (λ (l : List ℕ). get_or l 0 0) (decimal_digit 0 (omega arith)))
first (suc n) h = omega (arith, first_decimal (suc n) (omega arith) h)

-- and so with no sign
unsigned : (bs : List ℕ) → eqb (get_or bs 0 0) 45 ≡ false → eqb (get_or bs 0 0) 43 ≡ false → signed_digits_value 10 bs ≡ pos (digits_value 10 bs)
unsigned bs m p = simp (m, p)

pub reads : (z : ℤ) → mag z < 2 ^ 63 → signed_digits_value 10 (signed_decimal z) ≡ z
reads (pos n) h =
    let f = first n (omega arith) in
    unsigned (decimal n) (ne_eqb (get_or (decimal n) 0 0) 45 (λ e. omega arith)) (ne_eqb (get_or (decimal n) 0 0) 43 (λ e. omega arith))
    ∙ ap pos (decimal_is_IsNumeral n (omega arith)).1
reads (negsuc n) h = ap (λ (v : ℕ). neg_ℤ (pos v)) (decimal_is_IsNumeral (suc n) (omega arith)).1

pub small : (word : ℕ) → word < 2 ^ 32 → mag (to_z w32 word) < 2 ^ 63
small word h = let f = (to_z-Fits w32 word (record { fits = h })).sfits in omega arith
