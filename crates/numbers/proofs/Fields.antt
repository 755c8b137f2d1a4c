-- The fields of a float's word, and its size in thousandths.
use Rattle.std.proofs.Common.{◌≡◌, ℕ, suc, ◌+◌, ◌-◌, ◌*◌, ◌/◌, ◌%◌, ◌^◌, ◌<◌, ◌≤◌, Bool, cond, eqb, leb, sym, ap, ◌∙◌, subst, le_of_lt, mul-le-mul_right, mul_assoc, add-sub_of_le, mul-le-mul, mul-one, sub-add_cancel, mul_right_comm, div-one, arith, pow_pos, pow_mono, pow-add}
use native.Mathlib.Nat.{mod-one}
use lib.Ieee.{Float, nan, inf, fin, binary32, up, down, of_fields, of_bits, odd}
use lib.Ieee.Exact.{HasValue, odd_sign}
use lib.Ieee.Fits.{down_pos}
use lib.Ieee.Nearest.{closest, closest_same, closest_mono}
use Rattle.std.proofs.lemmas.Bool.{cond-false, ne_eqb}
use Rattle.numbers.specs.Printed.{thousandths_of}

-- ---- the value of a word, by its exponent's field
pub no_field : (b : ℕ) → b % 2 ^ 31 / 8388608 ≡ 0 → HasValue (of_bits binary32 b) (leb (2 ^ 31) b) (b % 8388608 * 2 ^ 0) (2 ^ 149)
unfolding of_bits of_fields
no_field b h =
    subst (λ (x : ℕ). HasValue (of_fields binary32 (leb (2 ^ 31) b) x (b % 8388608)) (leb (2 ^ 31) b) (b % 8388608 * 2 ^ 0) (2 ^ 149)) (sym h)
    (odd_sign 24 (leb (2 ^ 31) b) (b % 8388608) 0 149)

some_field : (s : Bool) (x t : ℕ) → suc x < 255 → HasValue (of_fields binary32 s (suc x) t) s ((8388608 + t) * 2 ^ x) (2 ^ 149)
unfolding of_fields
some_field s x t h =
    subst (λ (v : Float). HasValue v s ((8388608 + t) * 2 ^ x) (2 ^ 149))
    (sym (cond-false (eqb (suc x) 255) (cond (eqb t 0) (inf s) nan) (odd 24 s (8388608 + t) x 149) (ne_eqb (suc x) 255 (λ e. omega arith))))
    (odd_sign 24 s (8388608 + t) x 149)

pub with_field : (b x : ℕ) → b % 2 ^ 31 / 8388608 ≡ suc x → suc x < 255 → HasValue (of_bits binary32 b) (leb (2 ^ 31) b) ((8388608 + b % 8388608) * 2 ^ x) (2 ^ 149)
unfolding of_bits
with_field b x h k =
    subst (λ (y : ℕ). HasValue (of_fields binary32 (leb (2 ^ 31) b) y (b % 8388608)) (leb (2 ^ 31) b) ((8388608 + b % 8388608) * 2 ^ x) (2 ^ 149)) (sym h)
    (some_field (leb (2 ^ 31) b) x (b % 8388608) k)

-- ---- its size in thousandths
thousandths_are : (x : Float) (s : Bool) (a c : ℕ) → 0 < c → HasValue x s a c → thousandths_of x ≡ closest (a * 1000) c
unfolding thousandths_of
thousandths_are nan s a c C h = absurd h
thousandths_are (inf t) s a c C h = absurd h
thousandths_are (fin t m e) s a c C h =
    closest_same (m * up e * 1000) (down e) (a * 1000) c (down_pos e) C
    (mul_right_comm (m * up e) 1000 c ∙ ap (λ (z : ℕ). z * 1000) h.1 ∙ mul_right_comm a (down e) 1000)

-- of the smallest floats, m * 2 ^ k
pub thousandths_closest : (b m k : ℕ)
    → HasValue (of_bits binary32 b) (leb (2 ^ 31) b) (m * 2 ^ k) (2 ^ 149)
    → thousandths_of (of_bits binary32 b) ≡ closest (m * 2 ^ k * 1000) (2 ^ 149)
thousandths_closest b m k h = thousandths_are (of_bits binary32 b) (leb (2 ^ 31) b) (m * 2 ^ k) (2 ^ 149) (pow_pos 149) h

closest_one : (n : ℕ) → closest n 1 ≡ n
closest_one n = rw (mod-one, div-one)

-- m * 2 ^ k of the smallest floats: from 2 ^ 149 on the thousandths are whole, and below they are cut to 149 - k places
whole_places : (m k : ℕ) → 149 ≤ k → m * 2 ^ k * 1000 * 1 ≡ m * 1000 * 2 ^ (k - 149) * 2 ^ 149
whole_places m k h =
    mul-one (m * 2 ^ k * 1000) ∙ mul_right_comm m (2 ^ k) 1000
    ∙ ap (λ (z : ℕ). m * 1000 * 2 ^ z) (sym (sub-add_cancel h))
    ∙ ap (λ (z : ℕ). m * 1000 * z) (pow-add 2 (k - 149) 149)
    ∙ sym (mul_assoc (m * 1000) (2 ^ (k - 149)) (2 ^ 149))

some_places : (m k : ℕ) → k ≤ 149 → m * 2 ^ k * 1000 * 2 ^ (149 - k) ≡ m * 1000 * 2 ^ 149
some_places m k h =
    ap (λ (z : ℕ). z * 2 ^ (149 - k)) (mul_right_comm m (2 ^ k) 1000)
    ∙ mul_assoc (m * 1000) (2 ^ k) (2 ^ (149 - k))
    ∙ ap (λ (z : ℕ). m * 1000 * z) (sym (pow-add 2 k (149 - k)))
    ∙ ap (λ (z : ℕ). m * 1000 * 2 ^ z) (add-sub_of_le h)

pub thousandths_whole : (m k : ℕ) → 149 ≤ k → closest (m * 2 ^ k * 1000) (2 ^ 149) ≡ m * 1000 * 2 ^ (k - 149)
thousandths_whole m k h =
    closest_same (m * 2 ^ k * 1000) (2 ^ 149) (m * 1000 * 2 ^ (k - 149)) 1 (pow_pos 149) (pow_pos 0) (whole_places m k h)
    ∙ closest_one (m * 1000 * 2 ^ (k - 149))

pub thousandths_some : (m k : ℕ) → k ≤ 149 → closest (m * 2 ^ k * 1000) (2 ^ 149) ≡ closest (m * 1000) (2 ^ (149 - k))
thousandths_some m k h = closest_same (m * 2 ^ k * 1000) (2 ^ 149) (m * 1000) (2 ^ (149 - k)) (pow_pos 149) (pow_pos (149 - k)) (some_places m k h)

-- a * 1000 / 2 ^ 149 rounds to no more than its limit does, and that computes
under : (a l : ℕ) → a ≤ l → closest (a * 1000) (2 ^ 149) ≤ closest (l * 1000) (2 ^ 149)
under a l h = closest_mono (a * 1000) (2 ^ 149) (l * 1000) (2 ^ 149) (pow_pos 149) (pow_pos 149) (mul-le-mul_right (2 ^ 149) (mul-le-mul_right 1000 h))

product_le : (m k i j : ℕ) → m < 2 ^ i → k ≤ j → m * 2 ^ k ≤ 2 ^ i * 2 ^ j
product_le m k i j h g = mul-le-mul (le_of_lt h) (pow_mono g)

pub thousandths_none : (m k : ℕ) → m < 2 ^ 24 → k < 114 → closest (m * 2 ^ k * 1000) (2 ^ 149) ≡ 0
thousandths_none m k h g =
    let u : closest (m * 2 ^ k * 1000) (2 ^ 149) ≤ 0 = under (m * 2 ^ k) (2 ^ 24 * 2 ^ 113) (product_le m k 24 113 h (omega arith)) in
    omega arith

pub thousandths_bound : (m k : ℕ) → m < 2 ^ 24 → k < 157 → closest (m * 2 ^ k * 1000) (2 ^ 149) ≤ 2147483648000
thousandths_bound m k h g = under (m * 2 ^ k) (2 ^ 24 * 2 ^ 156) (product_le m k 24 156 h (omega arith))
