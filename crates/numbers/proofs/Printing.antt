-- What is printed of a float, by its word.
use Rattle.std.proofs.Common.{◌≡◌, ℕ, ◌+◌, ◌-◌, ◌*◌, ◌/◌, ◌%◌, ◌^◌, ◌<◌, ◌≤◌, Bool, true, leb, codes, sym, refl, ap, ◌∙◌, subst, inl, inr, le_trans, le_of_eq, lt_of_lt_of_le, lt_of_le_of_lt, mul-le-mul_right, mul-le-mul, lt_of_mul-lt-mul_right, mul-lt-mul_of_pos_right, mul_right_comm, le_of_mul-le-mul_right, arith, pow_pos, pow_mono}
use mathlib.Core.Bool.{false≢true}
use lib.Ieee.{Float, nan, inf, fin, binary32, up, down, of_fields, of_bits, is_nan}
use lib.Ieee.Bits.{nan_bits_is, nan_bits_above}
use lib.Ieee.Exact.{HasValue}
use lib.Ieee.Fits.{down_pos}
use Rattle.std.proofs.lemmas.Bool.{cond-true, cond-false, lt-ltb, le-ltb, cases_eq}
use Rattle.numbers.specs.Printed.{thousandths_of, rounded, over, text_of, float_text}
use Rattle.numbers.proofs.Fields.{no_field, with_field}

-- ---- a NaN
of_nan : (x : Float) → is_nan x ≡ true → text_of x ≡ codes "nan"
unfolding is_nan text_of
of_nan nan h = refl
of_nan (inf s) h = absurd (false≢true h)
of_nan (fin s m e) h = absurd (false≢true h)

pub text_nan : (b : ℕ) → 0x7F80_0000 < b % 2 ^ 31 → float_text b ≡ codes "nan"
text_nan b h = of_nan (of_bits binary32 b) (sym (nan_bits_is binary32 b) ∙ nan_bits_above binary32 b ∙ lt-ltb _ _ h)

-- ---- a number a / c, below the limit and from it on
pub text_small : (x : Float) (s : Bool) (a c : ℕ) → 0 < c → HasValue x s a c → a < 2 ^ 31 * c → text_of x ≡ rounded s (thousandths_of x)
unfolding text_of
text_small nan s a c C h l = absurd h
text_small (inf t) s a c C h l = absurd h
text_small (fin t m e) s a c C h l =
    let p : m * up e * c < 2 ^ 31 * down e * c =
    lt_of_le_of_lt (le_of_eq h.1) (lt_of_lt_of_le (mul-lt-mul_of_pos_right l (down_pos e)) (le_of_eq (mul_right_comm (2 ^ 31) c (down e)))) in
    cond-true _ (rounded t (thousandths_of (fin t m e))) (over t) (lt-ltb (m * up e) (2 ^ 31 * down e) (lt_of_mul-lt-mul_right c p))
    ∙ ap (λ (z : Bool). rounded z (thousandths_of (fin t m e))) h.0

pub text_large : (x : Float) (s : Bool) (a c : ℕ) → 0 < c → HasValue x s a c → 2 ^ 31 * c ≤ a → text_of x ≡ over s
unfolding text_of
text_large nan s a c C h l = absurd h
text_large (inf t) s a c C h l = absurd h
text_large (fin t m e) s a c C h l =
    let p : 2 ^ 31 * down e * c ≤ m * up e * c =
    le_trans (le_of_eq (mul_right_comm (2 ^ 31) (down e) c)) (le_trans (mul-le-mul_right (down e) l) (le_of_eq (sym h.1))) in
    cond-false _ (rounded t (thousandths_of (fin t m e))) (over t) (le-ltb (m * up e) (2 ^ 31 * down e) (le_of_mul-le-mul_right p C))
    ∙ ap over h.0

-- ---- by the word
under_limit : (m k : ℕ) → m < 2 ^ 24 → k < 157 → m * 2 ^ k < 2 ^ 31 * 2 ^ 149
under_limit m k h g =
    let d : m ≤ 16777215 = omega arith in
    let q : k ≤ 156 = omega arith in
    let p : m * 2 ^ k ≤ 16777215 * 2 ^ 156 = mul-le-mul d (pow_mono q) in
    omega arith

past_limit : (m k : ℕ) → 2 ^ 23 ≤ m → 157 ≤ k → 2 ^ 31 * 2 ^ 149 ≤ m * 2 ^ k
past_limit m k h g =
    let p : 2 ^ 23 * 2 ^ 157 ≤ m * 2 ^ k = mul-le-mul h (pow_mono g) in
    omega arith

pub text_number : (b m k : ℕ) → HasValue (of_bits binary32 b) (leb (2 ^ 31) b) (m * 2 ^ k) (2 ^ 149) → m < 2 ^ 24 → k < 157 → float_text b ≡ rounded (leb (2 ^ 31) b) (thousandths_of (of_bits binary32 b))
text_number b m k h d p = text_small (of_bits binary32 b) (leb (2 ^ 31) b) (m * 2 ^ k) (2 ^ 149) (pow_pos 149) h (under_limit m k d p)

pub text_finite : (b : ℕ) → b % 2 ^ 31 < 0x4F00_0000 → float_text b ≡ rounded (leb (2 ^ 31) b) (thousandths_of (of_bits binary32 b))
text_finite b h =
    elim (cases_eq (b % 2 ^ 31 / 8388608) 0) [
      | inl e ↦ text_number b (b % 8388608) 0 (no_field b e) (omega arith) (omega arith)
      | inr n ↦ text_number b (8388608 + b % 8388608) (b % 2 ^ 31 / 8388608 - 1) (with_field b (b % 2 ^ 31 / 8388608 - 1) (omega arith) (omega arith)) (omega arith) (omega arith)
    ]

infinite : (s : Bool) (x t : ℕ) → x ≡ 255 → t ≡ 0 → text_of (of_fields binary32 s x t) ≡ over s
unfolding of_fields text_of
infinite s x t e z = subst (λ (y : ℕ). text_of (of_fields binary32 s y t) ≡ over s) (sym e) (subst (λ (y : ℕ). text_of (of_fields binary32 s 255 y) ≡ over s) (sym z) refl)

pub text_over : (b : ℕ) → 0x4F00_0000 ≤ b % 2 ^ 31 → b % 2 ^ 31 ≤ 0x7F80_0000 → float_text b ≡ over (leb (2 ^ 31) b)
unfolding of_bits
text_over b h g =
    elim (cases_eq (b % 2 ^ 31 / 8388608) 255) [
      | inl e ↦ infinite (leb (2 ^ 31) b) (b % 2 ^ 31 / 8388608) (b % 8388608) e (omega arith)
      | inr n ↦
          text_large (of_bits binary32 b) (leb (2 ^ 31) b) ((8388608 + b % 8388608) * 2 ^ (b % 2 ^ 31 / 8388608 - 1)) (2 ^ 149) (pow_pos 149)
          (with_field b (b % 2 ^ 31 / 8388608 - 1) (omega arith) (omega arith))
          (past_limit (8388608 + b % 8388608) (b % 2 ^ 31 / 8388608 - 1) (omega arith) (omega arith))
    ]
