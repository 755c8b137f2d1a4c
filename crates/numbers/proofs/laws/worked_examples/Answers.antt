use Rattle.std.proofs.Common.{refl}
use lib.Ieee.{of_bits, of_int, to_bits}
use Rattle.std.specs.Fmt.{digits}
use Rattle.std.specs.Int.{int_wrap}
use Rattle.numbers.specs.Printed.{text_of, thousandths_of}
use Rattle.numbers.proofs.laws.worked_examples.Goals as goal

pub returns : goal.returns
unfolding of_bits of_int to_bits digits int_wrap text_of thousandths_of
returns c = record {
  defined = record { cut = refl; lowest = refl; none = λ _. refl; turned = refl; tie = refl };
  quotient = c.apply.ensures;
  turned = c.to_float.ensures;
  text = c.print_float.ensures;
}
