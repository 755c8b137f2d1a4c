-- What the two kinds of number and their operators mean: integers by ℤ, wrapped to 32 bits, and floats by IEEE 754's binary32.
use Rattle.std.specs.Prelude.{ℕ, Bool, if◌then◌else◌, not, ◌||◌, ℤ, pos, ◌+ℤ◌, ◌-ℤ◌, ◌*ℤ◌, neg_ℤ, Some, None, Option, int_div, int_lt, Float}
use Rattle.std.specs.Ordering.{int_eq}
use Rattle.std.specs.Float.Ieee as Ieee
use Rattle.std.specs.Float.{binary32}
use Rattle.std.specs.Int.{cast_signed, cast_unsigned, int_wrap, w32}
use Rattle.numbers.specs.declared.operator.Calculation.{Calculation}
use Rattle.numbers.specs.declared.operator.Calculation.TheVariants.{Add, Subtract, Multiply, Divide}
use Rattle.numbers.specs.declared.operator.Comparison.{Comparison}
use Rattle.numbers.specs.declared.operator.Comparison.TheVariants.{Equal, NotEqual, Less, LessOrEqual, Greater, GreaterOrEqual}

-- A kind of number: the type of its values, the word of its zero, what a word stands for and which word is stored, and the operators.
-- A quotient may be missing.
pub record Arithmetic (N : Type 0) : Type 0 where
  pub code : ℕ
  pub zero : ℕ
  pub value : ℕ → N
  pub bits : N → ℕ
  pub sum : N → N → N
  pub difference : N → N → N
  pub product : N → N → N
  pub quotient : N → N → Option N
  pub negative : N → N
  pub equal : N → N → Bool
  pub less : N → N → Bool

-- Integers of 32 bits in two's complement. Results wrap, a quotient is cut toward zero, and there is none by zero.
abbrev pub ints : Arithmetic ℤ
ints = record {
  code = 2;
  zero = 0;
  value = cast_signed w32;
  bits = cast_unsigned w32;
  sum = λ a b. int_wrap w32 (a +ℤ b);
  difference = λ a b. int_wrap w32 (a -ℤ b);
  product = λ a b. int_wrap w32 (a *ℤ b);
  quotient = λ a b. if int_eq b (pos 0) then None else Some (int_wrap w32 (int_div a b));
  negative = λ a. int_wrap w32 (neg_ℤ a);
  equal = int_eq;
  less = int_lt;
}

-- IEEE 754's single floats. The word of every NaN is 0x7FC00000.
abbrev pub floats : Arithmetic Float
floats = record {
  code = 3;
  zero = 0;
  value = Ieee.of_bits binary32;
  bits = Ieee.to_bits binary32;
  sum = Ieee.add binary32;
  difference = Ieee.sub binary32;
  product = Ieee.mul binary32;
  quotient = λ a b. Some (Ieee.div binary32 a b);
  negative = Ieee.neg;
  equal = Ieee.eq;
  less = Ieee.lt;
}

-- == != < <= > >=
abbrev pub compared : {N : Type 0} → Arithmetic N → Comparison → N → N → Bool
compared n Equal x y = n.equal x y
compared n NotEqual x y = not (n.equal x y)
compared n Less x y = n.less x y
compared n LessOrEqual x y = n.less x y || n.equal x y
compared n Greater x y = n.less y x
compared n GreaterOrEqual x y = n.less y x || n.equal y x

-- + - * /
abbrev pub calculated : {N : Type 0} → Arithmetic N → Calculation → N → N → Option N
calculated n Add x y = Some (n.sum x y)
calculated n Subtract x y = Some (n.difference x y)
calculated n Multiply x y = Some (n.product x y)
calculated n Divide x y = n.quotient x y
