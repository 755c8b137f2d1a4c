use Rattle.numbers.proofs.NoNumber.{word, kept}
use Rattle.numbers.proofs.laws.floats_keep_their_words.Goals as goal

pub returns : goal.returns
returns c = record { no_number = word; number = kept }
