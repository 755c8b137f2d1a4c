-- What is not a number: its word, and how it compares.
use Rattle.std.proofs.Common.{◌≡◌, ℕ, ◌^◌, ◌<◌, Bool, true, false, not, T, sym, refl, subst}
use mathlib.Core.Bool.{false≢true}
use lib.Ieee.{Float, nan, inf, fin, binary32, is_nan, of_bits, to_bits, eq, lt}
use lib.Ieee.Bits.{to_bits-of_bits}
use Rattle.numbers.specs.declared.operator.Comparison.{Comparison}
use Rattle.numbers.specs.declared.operator.Comparison.TheVariants.{Equal, NotEqual, Less, LessOrEqual, Greater, GreaterOrEqual}
use Rattle.numbers.specs.Arithmetic.{floats, compared}
use Rattle.numbers.specs.Laws.{unlike}

pub word : (x : Float) → is_nan x ≡ true → to_bits binary32 x ≡ 0x7FC0_0000
unfolding is_nan to_bits
word nan h = refl
word (inf s) h = absurd (false≢true h)
word (fin s m e) h = absurd (false≢true h)

pub kept : (w : ℕ) → w < 2 ^ 32 → is_nan (of_bits binary32 w) ≡ false → to_bits binary32 (of_bits binary32 w) ≡ w
kept w h n = to_bits-of_bits binary32 w h (subst (λ (b : Bool). T (not b)) (sym n) tt)

-- beside it, nothing is equal, less or more
pub left : (c : Comparison) (x : Float) → compared floats c nan x ≡ unlike c
unfolding eq lt
left Equal x = refl
left NotEqual x = refl
left Less x = refl
left LessOrEqual x = refl
left Greater nan = refl
left Greater (inf s) = refl
left Greater (fin s m e) = refl
left GreaterOrEqual nan = refl
left GreaterOrEqual (inf s) = refl
left GreaterOrEqual (fin s m e) = refl

pub right : (c : Comparison) (x : Float) → compared floats c x nan ≡ unlike c
unfolding eq lt
right Equal nan = refl
right Equal (inf s) = refl
right Equal (fin s m e) = refl
right NotEqual nan = refl
right NotEqual (inf s) = refl
right NotEqual (fin s m e) = refl
right Less nan = refl
right Less (inf s) = refl
right Less (fin s m e) = refl
right LessOrEqual nan = refl
right LessOrEqual (inf s) = refl
right LessOrEqual (fin s m e) = refl
right Greater x = refl
right GreaterOrEqual x = refl
