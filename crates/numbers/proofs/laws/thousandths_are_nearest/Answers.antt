use lib.Ieee.{up, down}
use lib.Ieee.Fits.{down_pos}
use Rattle.numbers.proofs.Rounding.{closest_alone}
use Rattle.numbers.specs.Printed.{thousandths_of}
use Rattle.std.proofs.Common.{◌*◌}
use Rattle.numbers.proofs.laws.thousandths_are_nearest.Goals as goal

pub returns : goal.returns
unfolding thousandths_of
returns c = λ s m e. closest_alone (m * up e * 1000) (down e) (down_pos e)
