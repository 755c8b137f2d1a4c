-- The kinds of the nodes that stand for operators.
use Rattle.std.specs.Prelude.{◌≡◌, ℕ, Ok, Err, Result, ◌≢◌}
use Rattle.numbers.specs.declared.operator.Calculation.{Calculation}
use Rattle.numbers.specs.declared.operator.Calculation.TheVariants.{Add, Subtract, Multiply, Divide}
use Rattle.numbers.specs.declared.operator.Comparison.{Comparison}
use Rattle.numbers.specs.declared.operator.Comparison.TheVariants.{Equal, NotEqual, Less, LessOrEqual, Greater, GreaterOrEqual}
use Rattle.numbers.specs.declared.operator.Operator.{Operator}
use Rattle.numbers.specs.declared.operator.Operator.TheVariants.{Compare, Calculate}
use Rattle.numbers.specs.declared.operator.Prefix.{Prefix}
use Rattle.numbers.specs.declared.operator.Prefix.TheVariants.{Plus, Minus, Not}

-- == != < <= > >=
abbrev pub comparison_kind : Comparison → ℕ
comparison_kind Equal = 29
comparison_kind NotEqual = 30
comparison_kind Less = 31
comparison_kind LessOrEqual = 32
comparison_kind Greater = 33
comparison_kind GreaterOrEqual = 34

-- + - * /
abbrev pub calculation_kind : Calculation → ℕ
calculation_kind Add = 35
calculation_kind Subtract = 36
calculation_kind Multiply = 37
calculation_kind Divide = 38

abbrev pub operator_kind : Operator → ℕ
operator_kind (Compare comparison) = comparison_kind comparison
operator_kind (Calculate calculation) = calculation_kind calculation

-- + - ! before a value
abbrev pub prefix_kind : Prefix → ℕ
prefix_kind Plus = 39
prefix_kind Minus = 40
prefix_kind Not = 41

-- a kind is read as the operator that has it, and as none where none has it
abbrev pub Decodes : {O E : Type 0} → (O → ℕ) → ℕ → Result O E → Type 0
Decodes kind_of kind (Ok o) = kind_of o ≡ kind
Decodes {O} kind_of kind (Err e) = (o : O) → kind_of o ≢ kind
