-- What a sheet in memory means, and what a reading answers.
use Rattle.std.specs.Prelude.{Ok, Err, Result}
use Rattle.job.specs.declared.sheet.Sheet.{Sheet}
use Rattle.job.specs.Format.{SheetMeaning}

abbrev pub meant : Sheet → SheetMeaning
meant s = record { cells = s.cells; steps = s.steps; inputs = s.inputs.items; table = s.table.items }

-- the sheet so far where a step succeeds, and else its fault
abbrev pub carried : {E : Type 0} → Result (Unit {0}) E → SheetMeaning → Result SheetMeaning E
carried (Ok done) s = Ok s
carried (Err fault) s = Err fault

abbrev pub meaning : {E : Type 0} → Result Sheet E → Result SheetMeaning E
meaning (Ok s) = Ok (meant s)
meaning (Err fault) = Err fault
