-- A sheet is read line by line. Assumes nothing.
use Rattle.std.proofs.Common.{◌≡◌, ℕ, List, ◌∷◌, Ok, Err, Result, sym, refl, ap, subst}
use Rattle.job.specs.declared.sheet.SheetQuestion.{SheetQuestion}
use Rattle.job.specs.declared.sheet.SheetRefusal.{SheetRefusal}
use Rattle.job.specs.Lines.{cut}
use Rattle.job.specs.Format.{SheetMeaning, and_then, first_line, later_line, later_lines, next_line, sheet_lines}
use Rattle.job.proofs.Pieces.{cut_some}

-- a line, and the text after its newline
module _ (line rest : List ℕ) where
  pub lines_on : (s : SheetMeaning) → later_lines s (line ∷ cut 10 rest) ≡ and_then (next_line s) (later_line s line) (λ t. later_lines t (cut 10 rest))
  lines_on s =
      let some = cut_some 10 rest in
      let P : List (List ℕ) → Type 0 = λ ps. later_lines s (line ∷ ps) ≡ and_then (next_line s) (later_line s line) (λ t. later_lines t ps) in
      subst P (sym some.1.1) refl

  pub sheet_on : sheet_lines (line ∷ cut 10 rest) ≡ and_then 1 (first_line line) (λ t. later_lines t (cut 10 rest))
  sheet_on =
      let some = cut_some 10 rest in
      let P : List (List ℕ) → Type 0 = λ ps. sheet_lines (line ∷ ps) ≡ and_then 1 (first_line line) (λ t. later_lines t ps) in
      subst P (sym some.1.1) refl

-- a step that is taken alone decides where it leads with others after it
module _ (n : ℕ) (after : SheetMeaning → Result SheetMeaning SheetRefusal) where
  pub went_wrong : (x : Result SheetMeaning SheetQuestion) (f : SheetRefusal) → Err f ≡ and_then n x (λ s. Ok s) → and_then n x after ≡ Err f
  went_wrong (Ok s) f e = cc
  went_wrong (Err question) f e = sym e
