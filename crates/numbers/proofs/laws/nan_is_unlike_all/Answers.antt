use Rattle.numbers.proofs.NoNumber.{left, right}
use Rattle.numbers.proofs.laws.nan_is_unlike_all.Goals as goal

pub returns : goal.returns
returns c = λ comparison x. (left comparison x, right comparison x)
