-- What the operators answer on words, by the type of the operands.
use Rattle.std.specs.Prelude.{ℕ, Bool, if◌then◌else◌, not, Some, None, Option, Ok, Err, Result, ◌==◌}
use Rattle.std.specs.Bool.{beq}
use Rattle.std.specs.Int.{from_bool}
use Rattle.memories.specs.declared.value.Value.{Value}
use Rattle.numbers.specs.declared.answer.NoAnswer.{NoAnswer}
use Rattle.numbers.specs.declared.answer.NoAnswer.TheVariants.{ZeroDivisor, NoRule}
use Rattle.numbers.specs.declared.operator.Comparison.{Comparison}
use Rattle.numbers.specs.declared.operator.Comparison.TheVariants.{Equal, NotEqual, Less, LessOrEqual, Greater, GreaterOrEqual}
use Rattle.numbers.specs.declared.operator.Operator.{Operator}
use Rattle.numbers.specs.declared.operator.Operator.TheVariants.{Compare, Calculate}
use Rattle.numbers.specs.declared.operator.Prefix.{Prefix}
use Rattle.numbers.specs.declared.operator.Prefix.TheVariants.{Plus, Minus, Not}
use Rattle.numbers.specs.Arithmetic.{Arithmetic, ints, floats, compared, calculated}
use Rattle.numbers.specs.Booleans.{holds}

-- a value, or why there is none
abbrev pub Answer : Type 0
Answer = Result Value NoAnswer

-- a boolean as an answer
abbrev pub says : Bool → Answer
says b = Ok (record { ty = 1; word = from_bool b })

-- a number of a kind as an answer
abbrev pub gives : {N : Type 0} → Arithmetic N → N → Answer
gives n x = Ok (record { ty = n.code; word = n.bits x })

-- where there is no quotient, the divisor was zero
abbrev pub outcome : {N : Type 0} → Arithmetic N → Option N → Answer
outcome n (Some x) = gives n x
outcome n None = Err ZeroDivisor

-- an operator between two numbers of a kind
abbrev pub on_numbers : {N : Type 0} → Arithmetic N → Operator → ℕ → ℕ → Answer
on_numbers n (Compare comparison) a b = says (compared n comparison (n.value a) (n.value b))
on_numbers n (Calculate calculation) a b = outcome n (calculated n calculation (n.value a) (n.value b))

-- an operator before a number of a kind
abbrev pub on_number : {N : Type 0} → Arithmetic N → Prefix → ℕ → Answer
on_number n Plus a = gives n (n.value a)
on_number n Minus a = gives n (n.negative (n.value a))
on_number n Not a = Err NoRule

-- booleans are compared by == and != alone
abbrev pub compared_booleans : Comparison → Bool → Bool → Answer
compared_booleans Equal x y = says (beq x y)
compared_booleans NotEqual x y = says (not (beq x y))
compared_booleans Less x y = Err NoRule
compared_booleans LessOrEqual x y = Err NoRule
compared_booleans Greater x y = Err NoRule
compared_booleans GreaterOrEqual x y = Err NoRule

-- an operator between two booleans
abbrev pub on_booleans : Operator → ℕ → ℕ → Answer
on_booleans (Compare comparison) a b = compared_booleans comparison (holds a) (holds b)
on_booleans (Calculate calculation) a b = Err NoRule

-- an operator before a boolean
abbrev pub on_boolean : Prefix → ℕ → Answer
on_boolean Plus a = Err NoRule
on_boolean Minus a = Err NoRule
on_boolean Not a = says (not (holds a))

-- by the operands' type: 1 boolean, 2 int, 3 float
abbrev pub applied : Operator → ℕ → ℕ → ℕ → Answer
applied operator ty a b =
    if ty == 1 then on_booleans operator a b
    else if ty == 2 then on_numbers ints operator a b
    else if ty == 3 then on_numbers floats operator a b
    else Err NoRule

-- the same of one value
abbrev pub prefixed : Prefix → Value → Answer
prefixed prefix v =
    if v.ty == 1 then on_boolean prefix v.word
    else if v.ty == 2 then on_number ints prefix v.word
    else if v.ty == 3 then on_number floats prefix v.word
    else Err NoRule

-- the word of false, of 0 and of 0.0
abbrev pub zero_of : ℕ → Option ℕ
zero_of ty =
    if ty == 1 then Some 0
    else if ty == 2 then Some ints.zero
    else if ty == 3 then Some floats.zero
    else None
