use Rattle.std.proofs.Common.{◌-◌, ◌*◌, ◌^◌, ◌<◌, sym, ◌∙◌, mod-eq_of_lt, arith}
use Rattle.numbers.proofs.Fields.{thousandths_closest, thousandths_whole, thousandths_some, thousandths_none, thousandths_bound}
use Rattle.numbers.proofs.thousandths.thousandths.Goals as goal

pub returns-then-power-ge149 : goal.returns-then-power-ge149
returns-then-power-ge149 c =
    let m = c.parts-digits.result.0 in
    let k = c.parts-digits.result.1 in
    let w = thousandths_whole m k c.if-power-ge149.true in
    let b = thousandths_bound m k c.parts-digits.ensures.digits (c.parts-digits.ensures.power c.requires) in
    let small : m * 1000 * 2 ^ (k - 149) < 2 ^ 41 = omega arith in
    record {
      value = mod-eq_of_lt (omega arith) ∙ sym (thousandths_closest c.args.word m k c.parts-digits.ensures.value ∙ w);
      bound = omega arith;
    }

pub returns-then-power-lt114-clause-value : goal.returns-then-power-lt114-clause-value
returns-then-power-lt114-clause-value c =
    sym (
    thousandths_closest c.args.word _ _ c.parts-digits.ensures.value
    ∙ thousandths_none _ _ c.parts-digits.ensures.digits c.if-power-lt114.true
    )

pub returns-else-power-lt114-clause-value : goal.returns-else-power-lt114-clause-value
returns-else-power-lt114-clause-value c =
    c.halved.ensures
    ∙ sym (thousandths_closest c.args.word _ _ c.parts-digits.ensures.value ∙ thousandths_some _ c.parts-digits.result.1 (omega arith))
