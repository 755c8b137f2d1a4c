-- A job's session, from what its opening and its grants ensure.
use Rattle.std.proofs.Common.{◌≡◌, ℕ, ◌^◌, ◌≤◌, Bool, true, false, ◌&&◌, ltb, leb, List, [], ◌∷◌, length, IfOk, Some, None, Ok, Err, Option, Result, sym, refl, ap, ◌∙◌, subst, arith}
use Rattle.std.proofs.lemmas.Bool.{false≢true, and_parts, leb-true}
use Rattle.checker.specs.declared.node.Node.{Node}
use Rattle.checker.specs.declared.note.Note.{Note}
use Rattle.checker.specs.Check.{checked}
use Rattle.memories.specs.declared.value.Value.{Value}
use Rattle.runner.specs.declared.refusal.OpenRefusal.{OpenRefusal}
use Rattle.runner.specs.declared.session.Session.{Session}
use Rattle.runner.specs.State.{Cell}
use Rattle.runner.specs.Run.{ran}
use Rattle.runner.specs.Calls.{seen, start, open_answer, open_notes}
use Rattle.job.specs.declared.sheet.SheetQuestion.{SheetQuestion}
use Rattle.job.specs.declared.sheet.SheetRefusal.{SheetRefusal}
use Rattle.job.specs.declared.sheet.SheetQuestion.TheVariants.{FirstLine, LineForm, FieldWidth, LineCount}
use Rattle.job.specs.Format.{SheetMeaning, sheet_of, sheet_lines, later_lines, later_line, first_line, input_line, node_line, and_then, asked, if_some, usable, field, none_above, is_empty, next_line, with_input, with_node, input_of, node_of, input_largest, node_largest, opened}
use Rattle.job.specs.Lines.{cut, fields_of}
use Rattle.job.specs.Jobs.{fresh, opening_of, opens, script_notes, standing, told_of, Plays}

module _ (m : SheetMeaning) (t : List Node) (ins : List Value) (size : ℕ) (notes : List Note) (table : t ≡ m.table) (inputs : ins ≡ m.inputs) (cells : size ≡ 4096) (blank : notes ≡ fresh) where
  answers : open_answer (record { script = t; inputs = ins; limit = m.cells }) size (checked t notes) ≡ opens m
  answers = rw (table, inputs, cells, blank) refl

  pub play_refused : (r : Result (Unit {0}) OpenRefusal) (e : OpenRefusal) (s : Session) → Err e ≡ open_answer (record { script = t; inputs = ins; limit = m.cells }) size (checked t notes) → r ≡ Err e → Plays m r s
  play_refused r e s a b = rw b (record { answer = a ∙ answers; after = λ x. absurd (false≢true x) })

  pub play_done : (u : Unit {0}) (notes' : List Note) (s₁ s₂ : Session) (cells₁ cells₂ : List Cell)
      → Ok u ≡ open_answer (record { script = t; inputs = ins; limit = m.cells }) size (checked t notes)
      → notes' ≡ open_notes (record { script = t; inputs = ins; limit = m.cells }) notes (Ok u)
      → seen s₁ cells₁ ≡ start (record { script = t; inputs = ins; limit = m.cells })
      → seen s₂ cells₂ ≡ ran t notes' m.steps (seen s₁ cells₁)
      → Plays m (Ok tt) s₂
  play_done u notes' s₁ s₂ cells₁ cells₂ a n b e =
      let noted : notes' ≡ script_notes m.table = n ∙ rw (table, blank) refl in
      let from : seen s₁ cells₁ ≡ start (opening_of m) = b ∙ rw table refl in
      let all : seen s₂ cells₂ ≡ standing m = e ∙ rw (table, noted, from) refl in
      record { answer = a ∙ answers; after = λ _. ap told_of all }

-- The steps of a sheet are few, whatever lines follow its first.
abbrev IsFew : SheetMeaning → Type 0
IsFew m = m.steps ≤ 1_099_511_627_776

asked_few : (q : SheetQuestion) (b : Bool) (r : Result SheetMeaning SheetQuestion) → IfOk r IsFew → IfOk (asked q b r) IsFew
asked_few q true r h = h
asked_few q false r h = tt

some_few : (o : Option (List ℕ)) (f : List ℕ → Result SheetMeaning SheetQuestion) (none : Result SheetMeaning SheetQuestion) →
    ((ns : List ℕ) → IfOk (f ns) IsFew) → IfOk none IsFew → IfOk (if_some o f none) IsFew
some_few None f none h k = k
some_few (Some ns) f none h k = h ns

then_few : (n : ℕ) (r : Result SheetMeaning SheetQuestion) (after : SheetMeaning → Result SheetMeaning SheetRefusal) →
    IfOk r IsFew → ((s : SheetMeaning) → IsFew s → IfOk (after s) IsFew) → IfOk (and_then n r after) IsFew
then_few n (Ok s) after h k = k s h
then_few n (Err question) after h k = tt

line_few : (s : SheetMeaning) (line : List ℕ) → IsFew s → IfOk (later_line s line) IsFew
line_few s line h =
    some_few (fields_of 73 2 line) (input_line s) (if_some (fields_of 78 8 line) (node_line s) (Err LineForm)) input
    (some_few (fields_of 78 8 line) (node_line s) (Err LineForm) node tt)
  where
    input : (ns : List ℕ) → IfOk (input_line s ns) IsFew
    input ns =
        let counted = asked LineCount (ltb (length s.inputs) 64) (Ok (with_input s (input_of ns))) in
        asked_few LineForm (is_empty s.table) (asked FieldWidth (none_above input_largest ns) counted)
        (asked_few FieldWidth (none_above input_largest ns) counted
        (asked_few LineCount (ltb (length s.inputs) 64) (Ok (with_input s (input_of ns))) h))

    node : (ns : List ℕ) → IfOk (node_line s ns) IsFew
    node ns =
        let counted = asked LineCount (ltb (length s.table) 4096) (Ok (with_node s (node_of ns))) in
        asked_few FieldWidth (none_above node_largest ns) counted
        (asked_few LineCount (ltb (length s.table) 4096) (Ok (with_node s (node_of ns))) h)

lines_few : (s : SheetMeaning) (pieces : List (List ℕ)) → IsFew s → IfOk (later_lines s pieces) IsFew
lines_few s [] h = h
lines_few s ([] ∷ []) h = h
lines_few s ((byte ∷ end) ∷ []) h = tt
lines_few s (line ∷ next ∷ more) h =
    then_few (next_line s) (later_line s line) (λ t. later_lines t (next ∷ more)) (line_few s line h) (λ t k. lines_few t (next ∷ more) k)

usable_few : (ns : List ℕ) → usable ns ≡ true → field ns 1 ≤ 1_099_511_627_776
usable_few [] h = omega arith
usable_few (x ∷ []) h = omega arith
usable_few (x ∷ y ∷ ns) h =
    let some = and_parts (leb 1 x) (leb 1 y && none_above (65535 ∷ 2 ^ 40 ∷ []) (x ∷ y ∷ ns)) h in
    let both = and_parts (leb 1 y) (none_above (65535 ∷ 2 ^ 40 ∷ []) (x ∷ y ∷ ns)) some.1 in
    let most = and_parts (leb x 65535) (leb y (2 ^ 40) && true) both.1 in
    leb-true _ _ (and_parts (leb y (2 ^ 40)) true most.1).0

first_few : (line : List ℕ) → IfOk (first_line line) IsFew
first_few line = some_few (fields_of 67 2 line) (λ ns. asked FirstLine (usable ns) (Ok (opened (field ns 0) (field ns 1)))) (Err FirstLine) (λ ns. by_test ns (usable ns) refl) tt
  where
    by_test : (ns : List ℕ) (b : Bool) → usable ns ≡ b → IfOk (asked FirstLine b (Ok (opened (field ns 0) (field ns 1)))) IsFew
    by_test ns true e = usable_few ns e
    by_test ns false e = tt

pieces_few : (pieces : List (List ℕ)) → IfOk (sheet_lines pieces) IsFew
pieces_few [] = tt
pieces_few (end ∷ []) = tt
pieces_few (line ∷ next ∷ more) = then_few 1 (first_line line) (λ s. later_lines s (next ∷ more)) (first_few line) (λ s h. lines_few s (next ∷ more) h)

pub few_steps : (bytes : List ℕ) (m : SheetMeaning) → Ok m ≡ sheet_of bytes → m.steps ≤ 1_099_511_627_776
few_steps bytes m e = let P : Result SheetMeaning SheetRefusal → Type 0 = λ r. IfOk r IsFew in subst P (sym e) (pieces_few (cut 10 bytes))
