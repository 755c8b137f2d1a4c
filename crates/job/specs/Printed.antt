-- What is printed of a job.
use Rattle.std.specs.Prelude.{ℕ, List, [], ◌∷◌, ◌++◌, decimal}
use Rattle.std.specs.Fmt.{signed_decimal}
use Rattle.job.specs.declared.report.Verdict.{Verdict}
use Rattle.job.specs.declared.report.Verdict.TheVariants.{Running, Ended, Trapped, Refused}
use Rattle.job.specs.declared.report.Headline.{Headline}

-- the number that hosts know a verdict by
abbrev pub verdict_number : Verdict → ℕ
verdict_number Running = 0
verdict_number Ended = 1
verdict_number Trapped = 2
verdict_number Refused = 3

-- one text, a comma, and another
abbrev pub comma : List ℕ → List ℕ → List ℕ
comma before after = before ++ (44 ∷ after)

-- V and the five numbers, parted by commas, and a newline
abbrev pub headline : Headline → List ℕ
headline h =
    comma (86 ∷ [])
    (comma (decimal (verdict_number h.verdict))
    (comma (signed_decimal h.value)
    (comma (decimal h.node)
    (comma (decimal h.line)
    (decimal h.steps ++ (10 ∷ []))))))

-- the headline, and then the output as it is
abbrev pub printed : Headline → List ℕ → List ℕ
printed h output = headline h ++ output
