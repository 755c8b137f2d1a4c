-- What is written of a sheet reads back to that sheet. Assumes nothing.
use Rattle.std.proofs.Common.{◌≡◌, ℕ, ◌+◌, ◌^◌, ◌<◌, ◌≤◌, true, false, ◌&&◌, eqb, leb, List, [], ◌∷◌, ◌++◌, map, length, Some, None, Ok, Err, decimal, Option, Result, sym, refl, ap, ◌∙◌, append_assoc, append-nil, arith, lit<}
use Rattle.std.specs.Char.{is_ascii_digit}
use Rattle.std.specs.Str.{all_ascii_digits}
use Rattle.checker.specs.declared.node.Node.{Node}
use Rattle.memories.specs.declared.value.Value.{Value}
use Rattle.std.specs.List.{All, AllByRecursion}
use Rattle.std.proofs.lemmas.List.Elements.{All-nil, All-cons, All-append}
use Rattle.std.proofs.lemmas.List.Splits.{slice_split_at, slice_split_none}
use Rattle.std.proofs.lemmas.Fmt.{decimal_nonempty, length-decimal-le, digits_decimal, digits_value-decimal}
use Rattle.std.proofs.lemmas.Bool.{and_parts, cond-true, cond-false, eq-eqb, ne_eqb, le-leb, leb-true, lt-ltb}
use Rattle.std.proofs.lemmas.List.{length_push}
use Rattle.job.specs.Lines.{cut, number_of, numbers_of, after_letter, fields_of}
use Rattle.job.specs.Format.{SheetMeaning, if_some, is_empty, none_above, usable, input_largest, node_largest, opened, with_input, with_node}
use Rattle.job.specs.declared.sheet.SheetQuestion.TheVariants.{LineForm}
use Rattle.job.specs.declared.sheet.SheetQuestion.{SheetQuestion}
use Rattle.job.specs.declared.sheet.SheetRefusal.{SheetRefusal}
use Rattle.job.specs.Format.{and_then, first_line, input_line, node_line, later_line, later_lines, next_line, sheet_lines, sheet_of}
use Rattle.job.specs.Writing.{field_texts, line_before, input_fields, node_fields, inputs_text, nodes_text, sheet_text, Writable, ReadsBack}
use Rattle.job.proofs.Digits.{numerals, in_range}
use Rattle.job.proofs.Sheets.{lines_on, sheet_on}

-- no byte is the mark
abbrev Lacks : ℕ → List ℕ → Type 0
Lacks mark text = All (λ byte. eqb byte mark ≡ false) text

-- each number has at most 13 digits
abbrev Short : List ℕ → Type 0
Short [] = Unit {0}
Short (n ∷ ns) = (n < 10 ^ 13) × Short ns

lacks_one : (mark byte : ℕ) (text : List ℕ) → (byte ≡ mark → ⊥) → Lacks mark text → Lacks mark (byte ∷ text)
lacks_one mark byte text other h = All-cons (λ b. eqb b mark ≡ false) byte text (ne_eqb byte mark other) h

cut_lacks : (mark : ℕ) (p q : List ℕ) → Lacks mark p → cut mark (p ++ (mark ∷ q)) ≡ p ∷ cut mark q
cut_lacks mark p q h = slice_split_at (λ byte. eqb byte mark) p mark q h (eq-eqb mark mark refl)

digits_lack : (mark : ℕ) (ds : List ℕ) → mark < 48 → all_ascii_digits ds ≡ true → Lacks mark ds
digits_lack mark [] low h = All-nil (λ byte. eqb byte mark ≡ false)
digits_lack mark (d ∷ ds) low h =
    let both = and_parts (is_ascii_digit d) (all_ascii_digits ds) h in
    let least : 48 ≤ d = (in_range d both.0).0 in
    lacks_one mark d ds (λ e. omega arith) (digits_lack mark ds low both.1)

fits : (n : ℕ) → n < 10 ^ 13 → n < 2 ^ 64
fits n h = omega arith

decimal_lacks : (mark n : ℕ) → mark < 48 → n < 10 ^ 13 → Lacks mark (decimal n)
decimal_lacks mark n low h = digits_lack mark (decimal n) low (digits_decimal numerals n (fits n h))

number_back : (n : ℕ) → n < 10 ^ 13 → number_of (decimal n) ≡ Some n
number_back n h =
    let some : 1 ≤ length (decimal n) = decimal_nonempty n (fits n h) in
    let few : length (decimal n) ≤ 13 = length-decimal-le 13 n (lit< tt) h (fits n h) in
    rw (le-leb 1 (length (decimal n)) some, le-leb (length (decimal n)) 13 few, digits_decimal numerals n (fits n h))
    (ap Some (digits_value-decimal numerals n (fits n h)))

fields_lack : (mark : ℕ) (ns : List ℕ) → mark < 44 → Short ns → Lacks mark (field_texts ns)
fields_lack mark [] low h = All-nil (λ byte. eqb byte mark ≡ false)
fields_lack mark (n ∷ ns) low h =
    lacks_one mark 44 _ (λ e. omega arith)
    (All-append (λ byte. eqb byte mark ≡ false) (decimal n) (field_texts ns) (decimal_lacks mark n (omega arith) h.0) (fields_lack mark ns low h.1))

fields_pieces : (p ns : List ℕ) → Lacks 44 p → Short ns → cut 44 (p ++ field_texts ns) ≡ p ∷ map decimal ns
fields_pieces p [] l h = ap (cut 44) (append-nil p) ∙ slice_split_none (λ byte. eqb byte 44) p l
fields_pieces p (n ∷ ns) l h =
    cut_lacks 44 p (decimal n ++ field_texts ns) l
    ∙ ap (λ (ps : List (List ℕ)). p ∷ ps) (fields_pieces (decimal n) ns (decimal_lacks 44 n (lit< tt) h.0) h.1)

numbers_back : (ns : List ℕ) → Short ns → numbers_of (length ns) (map decimal ns) ≡ Some ns
numbers_back [] h = refl
numbers_back (n ∷ ns) h = rw (number_back n h.0, numbers_back ns h.1)

pub fields_back : (letter : ℕ) (ns : List ℕ) → (letter ≡ 44 → ⊥) → Short ns → fields_of letter (length ns) (letter ∷ field_texts ns) ≡ Some ns
fields_back letter ns l h =
    ap (after_letter letter (length ns)) (fields_pieces (letter ∷ []) ns (lacks_one 44 letter [] l (All-nil (λ byte. eqb byte 44 ≡ false))) h)
    ∙ cond-true _ _ _ (eq-eqb letter letter refl) ∙ numbers_back ns h

pub fields_other : (letter other count : ℕ) (ns : List ℕ) → (letter ≡ 44 → ⊥) → (letter ≡ other → ⊥) → Short ns → fields_of other count (letter ∷ field_texts ns) ≡ None
fields_other letter other count ns l d h =
    ap (after_letter other count) (fields_pieces (letter ∷ []) ns (lacks_one 44 letter [] l (All-nil (λ byte. eqb byte 44 ≡ false))) h)
    ∙ cond-false _ _ _ (ne_eqb letter other d)

short_from : (mosts ns : List ℕ) → length ns ≤ length mosts → Short mosts → none_above mosts ns ≡ true → Short ns
short_from mosts [] l h e = tt
short_from [] (n ∷ ns) l h e = absurd (omega arith)
short_from (most ∷ mosts) (n ∷ ns) l h e =
    let both = and_parts (leb n most) (none_above mosts ns) e in
    let low : n ≤ most = leb-true n most both.0 in
    let high = h.0 in
    (omega arith, short_from mosts ns (omega arith) h.1 both.1)

line_pieces : (letter : ℕ) (ns rest : List ℕ) → (letter ≡ 10 → ⊥) → Short ns → cut 10 (line_before letter ns rest) ≡ (letter ∷ field_texts ns) ∷ cut 10 rest
line_pieces letter ns rest l h = cut_lacks 10 (letter ∷ field_texts ns) rest (lacks_one 10 letter (field_texts ns) l (fields_lack 10 ns (lit< tt) h))

-- a good line leads on to the lines after it
line_good : (line rest : List ℕ) (s t : SheetMeaning) → Ok t ≡ later_line s line → later_lines s (line ∷ cut 10 rest) ≡ later_lines t (cut 10 rest)
line_good line rest s t f = lines_on line rest s ∙ ap (λ (r : Result SheetMeaning SheetQuestion). and_then (next_line s) r (λ u. later_lines u (cut 10 rest))) (sym f)

first_good : (line rest : List ℕ) (s : SheetMeaning) → Ok s ≡ first_line line → sheet_lines (line ∷ cut 10 rest) ≡ later_lines s (cut 10 rest)
first_good line rest s f = sheet_on line rest ∙ ap (λ (r : Result SheetMeaning SheetQuestion). and_then 1 r (λ u. later_lines u (cut 10 rest))) (sym f)

module _ (s : SheetMeaning) (n : Node) (fit : none_above node_largest (node_fields n) ≡ true) where
  node_short : Short (node_fields n)
  node_short =
      short_from node_largest (node_fields n) (omega arith)
      (lit< tt, (lit< tt, (lit< tt, (lit< tt, (lit< tt, (lit< tt, (lit< tt, (lit< tt, tt)))))))) fit

  node_given : length s.table < 4096 → node_line s (node_fields n) ≡ Ok (with_node s n)
  node_given h = rw (fit, lt-ltb (length s.table) 4096 h)

  node_line_lem : length s.table < 4096 → Ok (with_node s n) ≡ later_line s (78 ∷ field_texts (node_fields n))
  node_line_lem h =
      let text = 78 ∷ field_texts (node_fields n) in
      let other = fields_other 78 73 2 (node_fields n) (λ e. omega arith) (λ e. omega arith) node_short in
      let back : fields_of 78 8 text ≡ Some (node_fields n) = fields_back 78 (node_fields n) (λ e. omega arith) node_short in
      sym (ap (λ (o : Option (List ℕ)). if_some o (input_line s) (if_some (fields_of 78 8 text) (node_line s) (Err LineForm))) other
      ∙ ap (λ (o : Option (List ℕ)). if_some o (node_line s) (Err LineForm)) back ∙ node_given h)

abbrev with_nodes : SheetMeaning → List Node → SheetMeaning
with_nodes s ns = record { cells = s.cells; steps = s.steps; inputs = s.inputs; table = s.table ++ ns }

nodes_back : (s : SheetMeaning) (ns : List Node) → AllByRecursion (λ n. none_above node_largest (node_fields n) ≡ true) ns → length s.table + length ns ≤ 4096 → later_lines s (cut 10 (nodes_text ns)) ≡ Ok (with_nodes s ns)
nodes_back s [] fit h = ap (λ (t : List Node). Ok (record { cells = s.cells; steps = s.steps; inputs = s.inputs; table = t })) (sym (append-nil s.table))
nodes_back s (n ∷ ns) fit h =
    let more = length_push s.table n in
    ap (later_lines s) (line_pieces 78 (node_fields n) (nodes_text ns) (λ e. omega arith) (node_short s n fit.0))
    ∙ line_good (78 ∷ field_texts (node_fields n)) (nodes_text ns) s (with_node s n) (node_line_lem s n fit.0 (omega arith))
    ∙ nodes_back (with_node s n) ns fit.1 (omega arith)
    ∙ ap (λ (t : List Node). Ok (record { cells = s.cells; steps = s.steps; inputs = s.inputs; table = t })) (append_assoc s.table (n ∷ []) ns)

module _ (s : SheetMeaning) (v : Value) (fit : none_above input_largest (input_fields v) ≡ true) where
  input_short : Short (input_fields v)
  input_short = short_from input_largest (input_fields v) (omega arith) (lit< tt, (lit< tt, tt)) fit

  input_given : is_empty s.table ≡ true → length s.inputs < 64 → input_line s (input_fields v) ≡ Ok (with_input s v)
  input_given none h = rw (none, fit, lt-ltb (length s.inputs) 64 h)

  input_line_lem : is_empty s.table ≡ true → length s.inputs < 64 → Ok (with_input s v) ≡ later_line s (73 ∷ field_texts (input_fields v))
  input_line_lem none h =
      let back : fields_of 73 2 (73 ∷ field_texts (input_fields v)) ≡ Some (input_fields v) = fields_back 73 (input_fields v) (λ e. omega arith) input_short in
      sym (rw back (input_given none h))

abbrev with_inputs : SheetMeaning → List Value → SheetMeaning
with_inputs s vs = record { cells = s.cells; steps = s.steps; inputs = s.inputs ++ vs; table = s.table }

inputs_back : (s : SheetMeaning) (vs : List Value) (rest : List ℕ) → is_empty s.table ≡ true → AllByRecursion (λ v. none_above input_largest (input_fields v) ≡ true) vs → length s.inputs + length vs ≤ 64 → later_lines s (cut 10 (inputs_text vs rest)) ≡ later_lines (with_inputs s vs) (cut 10 rest)
inputs_back s [] rest none fit h = ap (λ (i : List Value). later_lines (record { cells = s.cells; steps = s.steps; inputs = i; table = s.table }) (cut 10 rest)) (sym (append-nil s.inputs))
inputs_back s (v ∷ vs) rest none fit h =
    let more = length_push s.inputs v in
    ap (later_lines s) (line_pieces 73 (input_fields v) (inputs_text vs rest) (λ e. omega arith) (input_short s v fit.0))
    ∙ line_good (73 ∷ field_texts (input_fields v)) (inputs_text vs rest) s (with_input s v) (input_line_lem s v fit.0 none (omega arith))
    ∙ inputs_back (with_input s v) vs rest none fit.1 (omega arith)
    ∙ ap (λ (i : List Value). later_lines (record { cells = s.cells; steps = s.steps; inputs = i; table = s.table }) (cut 10 rest)) (append_assoc s.inputs (v ∷ []) vs)

module _ (cells steps : ℕ) (fit : usable (cells ∷ steps ∷ []) ≡ true) where
  first_short : Short (cells ∷ steps ∷ [])
  first_short =
      let most = 65535 ∷ 2 ^ 40 ∷ [] in
      let small = none_above most (cells ∷ steps ∷ []) in
      let some = and_parts (leb 1 cells) (leb 1 steps && small) fit in
      let both = and_parts (leb 1 steps) small some.1 in
      short_from most (cells ∷ steps ∷ []) (omega arith) (lit< tt, (lit< tt, tt)) both.1

  first_line_lem : Ok (opened cells steps) ≡ first_line (67 ∷ field_texts (cells ∷ steps ∷ []))
  first_line_lem =
      let back : fields_of 67 2 (67 ∷ field_texts (cells ∷ steps ∷ [])) ≡ Some (cells ∷ steps ∷ []) = fields_back 67 (cells ∷ steps ∷ []) (λ e. omega arith) first_short in
      sym (rw (back, fit))

reads_back : (s : SheetMeaning) → Writable s → sheet_of (sheet_text s) ≡ Ok s
reads_back s w =
    let job = s.cells ∷ s.steps ∷ [] in
    let rest = inputs_text s.inputs (nodes_text s.table) in
    let few = w.few_inputs in
    let nodes = w.few_nodes in
    ap sheet_lines (line_pieces 67 job rest (λ e. omega arith) (first_short s.cells s.steps w.job))
    ∙ first_good (67 ∷ field_texts job) rest (opened s.cells s.steps) (first_line_lem s.cells s.steps w.job)
    ∙ inputs_back (opened s.cells s.steps) s.inputs (nodes_text s.table) refl w.inputs (omega arith)
    ∙ nodes_back (with_inputs (opened s.cells s.steps) s.inputs) s.table w.table (omega arith)

pub back : (text : List ℕ) (answer : Result SheetMeaning SheetRefusal) → answer ≡ sheet_of text → ReadsBack text answer
back text answer e s w t = e ∙ ap sheet_of t ∙ reads_back s w
