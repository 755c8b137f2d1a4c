-- The number of each question that a check asks.
use Rattle.std.specs.Prelude.{ℕ, Ok, Err, Result}
use Rattle.checker.specs.declared.refusal.Question.{Question}
use Rattle.checker.specs.declared.refusal.Question.TheVariants.{TableSize, NodeForm, LinkedOnce, Depth, NewName, InScope, ArgumentCount, WantedType, MainForm, NotMain, ShelfRoom}
use Rattle.checker.specs.declared.refusal.Refusal.{Refusal}

abbrev pub question_number : Question → ℕ
question_number TableSize = 1
question_number NodeForm = 2
question_number LinkedOnce = 3
question_number Depth = 4
question_number NewName = 5
question_number InScope = 9
question_number ArgumentCount = 11
question_number WantedType = 12
question_number MainForm = 18
question_number NotMain = 19
question_number ShelfRoom = 20

-- a no to a question, at a node of a line
abbrev pub refuse : {X : Type 0} → Question → ℕ → ℕ → Result X Refusal
refuse q n l = Err (record { question = q; node = n; line = l })

-- the next question, where the answers so far were yes
abbrev pub then : {X Y : Type 0} → Result X Refusal → (X → Result Y Refusal) → Result Y Refusal
then (Ok x) k = k x
then (Err e) k = Err e
