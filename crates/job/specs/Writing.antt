-- A sheet's text as it is written.
use Rattle.std.specs.Prelude.{◌≡◌, ℕ, ◌≤◌, true, List, [], ◌∷◌, ◌++◌, length, Ok, decimal, Result}
use Rattle.std.specs.List.{AllByRecursion}
use Rattle.checker.specs.declared.node.Node.{Node}
use Rattle.memories.specs.declared.value.Value.{Value}
use Rattle.job.specs.declared.sheet.SheetRefusal.{SheetRefusal}
use Rattle.job.specs.Format.{SheetMeaning, none_above, usable, input_largest, node_largest}

-- each number after a comma
abbrev pub field_texts : List ℕ → List ℕ
field_texts [] = []
field_texts (n ∷ ns) = 44 ∷ (decimal n ++ field_texts ns)

-- a line, its newline and the text after it
abbrev pub line_before : (letter : ℕ) → List ℕ → List ℕ → List ℕ
line_before letter ns rest = (letter ∷ field_texts ns) ++ (10 ∷ rest)

abbrev pub input_fields : Value → List ℕ
input_fields v = v.ty ∷ v.word ∷ []

abbrev pub node_fields : Node → List ℕ
node_fields n = n.kind ∷ n.ty ∷ n.value ∷ n.a ∷ n.b ∷ n.c ∷ n.next ∷ n.line ∷ []

abbrev pub nodes_text : List Node → List ℕ
nodes_text [] = []
nodes_text (n ∷ ns) = line_before 78 (node_fields n) (nodes_text ns)

-- input lines before the text of the nodes
abbrev pub inputs_text : List Value → List ℕ → List ℕ
inputs_text [] rest = rest
inputs_text (v ∷ vs) rest = line_before 73 (input_fields v) (inputs_text vs rest)

abbrev pub sheet_text : SheetMeaning → List ℕ
sheet_text s = line_before 67 (s.cells ∷ s.steps ∷ []) (inputs_text s.inputs (nodes_text s.table))

-- a sheet within the limits of the format
pub record Writable (s : SheetMeaning) : Type 0 where
  pub job : usable (s.cells ∷ s.steps ∷ []) ≡ true
  pub inputs : AllByRecursion (λ v. none_above input_largest (input_fields v) ≡ true) s.inputs
  pub table : AllByRecursion (λ n. none_above node_largest (node_fields n) ≡ true) s.table
  pub few_inputs : length s.inputs ≤ 64
  pub few_nodes : length s.table ≤ 4096

-- where the text is what is written of a sheet, that sheet is the answer
abbrev pub ReadsBack : List ℕ → Result SheetMeaning SheetRefusal → Type 0
ReadsBack text answer = (s : SheetMeaning) → Writable s → text ≡ sheet_text s → answer ≡ Ok s
