-- What a sheet's text says: line by line, and the first line with a fault decides.
use Rattle.std.specs.Prelude.{ℕ, ◌+◌, ◌-◌, ◌^◌, Bool, true, false, if◌then◌else◌, ◌&&◌, List, [], ◌∷◌, ◌++◌, map, length, Some, None, Ok, Err, Option, Result, nat_le, nat_lt, slice_index}
use Rattle.checker.specs.declared.node.Node.{Node}
use Rattle.memories.specs.declared.value.Value.{Value}
use Rattle.job.specs.declared.sheet.SheetQuestion.{SheetQuestion}
use Rattle.job.specs.declared.sheet.SheetQuestion.TheVariants.{FirstLine, LineForm, FieldWidth, LineCount}
use Rattle.job.specs.declared.sheet.SheetRefusal.{SheetRefusal}
use Rattle.job.specs.Lines.{cut, fields_of}

pub record SheetMeaning : Type 0 where
  pub cells : ℕ
  pub steps : ℕ
  pub inputs : List Value
  pub table : List Node

-- the number that hosts know a question by
abbrev pub question_number : SheetQuestion → ℕ
question_number FirstLine = 21
question_number LineForm = 22
question_number FieldWidth = 23
question_number LineCount = 24

-- the question of a test that fails is the answer
abbrev pub asked : {X : Type 0} → SheetQuestion → Bool → Result X SheetQuestion → Result X SheetQuestion
asked question true answer = answer
asked question false answer = Err question

abbrev pub if_some : {X Y : Type 0} → Option X → (X → Y) → Y → Y
if_some None some none = none
if_some (Some x) some none = some x

abbrev pub is_empty : {X : Type 0} → List X → Bool
is_empty [] = true
is_empty (x ∷ xs) = false

-- each number is at most the largest at its place
abbrev pub none_above : List ℕ → List ℕ → Bool
none_above [] numbers = true
none_above (most ∷ mosts) [] = true
none_above (most ∷ mosts) (n ∷ ns) = nat_le n most && none_above mosts ns

-- the largest numbers of fields of these widths in bits
abbrev pub largest : List ℕ → List ℕ
largest widths = map (λ w. 2 ^ w - 1) widths

abbrev pub input_largest : List ℕ
input_largest = largest (8 ∷ 32 ∷ [])

abbrev pub node_largest : List ℕ
node_largest = largest (8 ∷ 8 ∷ 32 ∷ 16 ∷ 16 ∷ 16 ∷ 16 ∷ 16 ∷ [])

abbrev pub field : List ℕ → ℕ → ℕ
field numbers i = slice_index numbers i

-- a sheet of the first line alone
abbrev pub opened : (cells steps : ℕ) → SheetMeaning
opened cells steps = record { cells = cells; steps = steps; inputs = []; table = [] }

-- the first line: C with 1 to 65,535 cells and 1 to 2 ^ 40 steps
abbrev pub usable : List ℕ → Bool
usable ns = nat_le 1 (field ns 0) && (nat_le 1 (field ns 1) && none_above (65535 ∷ 2 ^ 40 ∷ []) ns)

abbrev pub first_line : List ℕ → Result SheetMeaning SheetQuestion
first_line line =
    if_some (fields_of 67 2 line) (λ ns. asked FirstLine (usable ns) (Ok (opened (field ns 0) (field ns 1))))
    (Err FirstLine)

abbrev pub input_of : List ℕ → Value
input_of ns = record { ty = field ns 0; word = field ns 1 }

abbrev pub with_input : SheetMeaning → Value → SheetMeaning
with_input s v = record { cells = s.cells; steps = s.steps; inputs = s.inputs ++ v ∷ []; table = s.table }

-- I with a type of 8 bits and a word of 32, before any node; at most 64
abbrev pub input_line : SheetMeaning → List ℕ → Result SheetMeaning SheetQuestion
input_line s ns =
    asked LineForm (is_empty s.table)
    (asked FieldWidth (none_above input_largest ns)
    (asked LineCount (nat_lt (length s.inputs) 64)
    (Ok (with_input s (input_of ns)))))

abbrev pub node_of : List ℕ → Node
node_of ns = record {
  kind = field ns 0;
  ty = field ns 1;
  value = field ns 2;
  a = field ns 3;
  b = field ns 4;
  c = field ns 5;
  next = field ns 6;
  line = field ns 7;
}

abbrev pub with_node : SheetMeaning → Node → SheetMeaning
with_node s n = record { cells = s.cells; steps = s.steps; inputs = s.inputs; table = s.table ++ n ∷ [] }

-- N with a kind and a type of 8 bits, a value of 32, three children, the next node and a line of 16; at most 4,096
abbrev pub node_line : SheetMeaning → List ℕ → Result SheetMeaning SheetQuestion
node_line s ns =
    asked FieldWidth (none_above node_largest ns)
    (asked LineCount (nat_lt (length s.table) 4096)
    (Ok (with_node s (node_of ns))))

-- a later line gives an input or a node to the sheet so far
abbrev pub later_line : SheetMeaning → List ℕ → Result SheetMeaning SheetQuestion
later_line s line =
    if_some (fields_of 73 2 line) (input_line s)
    (if_some (fields_of 78 8 line) (node_line s)
    (Err LineForm))

abbrev pub refused : SheetQuestion → ℕ → Result SheetMeaning SheetRefusal
refused question n = Err (record { question = question; line = n })

-- what the line of number n says, and then the lines after it
abbrev pub and_then : ℕ → Result SheetMeaning SheetQuestion → (SheetMeaning → Result SheetMeaning SheetRefusal) →
    Result SheetMeaning SheetRefusal
and_then n (Ok s) after = after s
and_then n (Err question) after = refused question n

-- each line so far but the first has given an input or a node
abbrev pub next_line : SheetMeaning → ℕ
next_line s = 2 + (length s.inputs + length s.table)

-- each piece but the last is a line, and nothing follows the last newline
abbrev pub later_lines : SheetMeaning → List (List ℕ) → Result SheetMeaning SheetRefusal
later_lines s [] = Ok s
later_lines s (end ∷ []) = if is_empty end then Ok s else refused LineForm (next_line s)
later_lines s (line ∷ next ∷ more) = and_then (next_line s) (later_line s line) (λ t. later_lines t (next ∷ more))

abbrev pub sheet_lines : List (List ℕ) → Result SheetMeaning SheetRefusal
sheet_lines [] = refused FirstLine 1
sheet_lines (end ∷ []) = refused FirstLine 1
sheet_lines (line ∷ next ∷ more) = and_then 1 (first_line line) (λ s. later_lines s (next ∷ more))

-- the sheet that a text writes, or its first fault
abbrev pub sheet_of : List ℕ → Result SheetMeaning SheetRefusal
sheet_of text = sheet_lines (cut 10 text)
