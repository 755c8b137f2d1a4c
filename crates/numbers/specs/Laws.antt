-- What the definitions amount to, in the words of their subject.
use Rattle.std.specs.Prelude.{◌≡◌, ℕ, ◌+◌, ◌-◌, ◌*◌, ◌%◌, ◌^◌, ◌<◌, ◌≤◌, Bool, true, false, ◌⊎◌, ℤ, pos, negsuc, Some, None, codes, is_nan, Float}
use Rattle.std.specs.Float.{nan, fin, binary32}
use Rattle.std.specs.Float.Ieee.{up, down, of_int}
use Rattle.std.specs.Int.{cast_signed, w32}
use Rattle.std.specs.Str.Parse.{signed_digits_value}
use Rattle.numbers.specs.declared.operator.Comparison.{Comparison}
use Rattle.numbers.specs.declared.operator.Comparison.TheVariants.{Equal, NotEqual, Less, LessOrEqual, Greater, GreaterOrEqual}
use Rattle.numbers.specs.Arithmetic.{ints, floats, compared}
use Rattle.numbers.specs.Printed.{int_text, text_of, thousandths_of}

-- how far the whole number n lies from the fraction a / b, in parts of 1 / b
abbrev pub gap : ℕ → ℕ → ℕ → ℕ
gap a b n = (a - n * b) + (n * b - a)

-- no whole number lies nearer to a / b than n, and where another is as near, n is even
pub record Nearest (a b n : ℕ) : Type 0 where
  pub least : (m : ℕ) → gap a b n ≤ gap a b m
  pub even : (m : ℕ) → gap a b m ≡ gap a b n → (m ≡ n) ⊎ (n % 2 ≡ 0)

-- and n is the only such number
pub record TheNearest (a b n : ℕ) : Type 0 where
  pub nearest : Nearest a b n
  pub alone : (m : ℕ) → Nearest a b m → m ≡ n

-- the thousandths that are printed of the float m * 2 ^ e are the nearest to its size
abbrev pub ThousandthsAreNearest : Type 0
ThousandthsAreNearest = (s : Bool) (m : ℕ) (e : ℤ) → TheNearest (m * up e * 1000) (down e) (thousandths_of (fin s m e))

-- the digits that are printed of an int are read as that int
abbrev pub IntsReadBack : Type 0
IntsReadBack = (word : ℕ) → word < 2 ^ 32 → signed_digits_value 10 (int_text word) ≡ cast_signed w32 word

-- what is not a number has one word, and a number's word is kept when it is read and stored again
pub record OneWordEach : Type 0 where
  pub no_number : (x : Float) → is_nan x ≡ true → floats.bits x ≡ 0x7FC0_0000
  pub number : (word : ℕ) → word < 2 ^ 32 → is_nan (floats.value word) ≡ false → floats.bits (floats.value word) ≡ word

-- != alone
abbrev pub unlike : Comparison → Bool
unlike Equal = false
unlike NotEqual = true
unlike Less = false
unlike LessOrEqual = false
unlike Greater = false
unlike GreaterOrEqual = false

-- what is not a number is unlike everything, itself too, and every other comparison with it is false
abbrev pub NanIsUnlikeAll : Type 0
NanIsUnlikeAll = (c : Comparison) (x : Float) → (compared floats c nan x ≡ unlike c) × (compared floats c x nan ≡ unlike c)

-- Worked examples: -7 / 2 is -3, the lowest int over -1 is itself, and over zero there is no quotient;
-- 16777219 becomes 16777220.0 = 4194305 * 2 ^ 2, and 0.0625 = 2 ^ -4 prints 0.062.
pub record WorkedExamples : Type 0 where
  pub cut : ints.quotient (negsuc 6) (pos 2) ≡ Some (negsuc 2)
  pub lowest : ints.quotient (negsuc 2147483647) (negsuc 0) ≡ Some (negsuc 2147483647)
  pub none : (a : ℤ) → ints.quotient a (pos 0) ≡ None
  pub turned : of_int binary32 (pos 16777219) ≡ fin false 4194305 (pos 2)
  pub tie : text_of (fin false 1 (negsuc 3)) ≡ codes "0.062"
