use Rattle.std.proofs.Common.{◌≤◌, length, get_or, refl, sym, arith}
use Rattle.job.proofs.Digits.{fits, in_range, read_on, read_not, read_all, no_digits, many_digits}
use Rattle.job.proofs.cut.number.Goals as goal

pub returns-then-is_empty : goal.returns-then-is_empty
returns-then-is_empty c = grind (arith, no_digits, many_digits)

pub loop-byte-init : goal.loop-byte-init
loop-byte-init c = record { small = omega arith; so = refl; digits = refl }

pub loop-byte-preserved : goal.loop-byte-preserved
loop-byte-preserved c =
    read_on c.args.piece.now c.loop-byte.byte-index c.loop-byte.value c.from.result c.loop-byte-test.true
    (sym c.if-not-is_ascii_digit.ensures.value) c.from.ensures c.loop-byte.invariant

pub overflow_mul-value : goal.overflow_mul-value
overflow_mul-value c =
    let f = fits c.loop-byte.byte-index c.loop-byte.value 0 (omega arith) c.loop-byte.invariant.small (omega arith) in
    omega arith

pub overflow_add-value : goal.overflow_add-value
overflow_add-value c =
    let within = in_range (get_or c.args.piece.now c.loop-byte.byte-index 0) (sym c.if-not-is_ascii_digit.ensures.value) in
    let high = within.1 in
    let f = fits c.loop-byte.byte-index c.loop-byte.value c.from.result (omega arith) c.loop-byte.invariant.small (omega arith) in
    omega arith

pub returns-then-not-is_ascii_digit : goal.returns-then-not-is_ascii_digit
returns-then-not-is_ascii_digit c =
    read_not c.args.piece.now c.loop-byte.byte-index c.loop-byte.value c.loop-byte-test.true
    (sym c.if-not-is_ascii_digit.ensures.value) c.loop-byte.invariant

pub returns : goal.returns
returns c =
    let some : 1 ≤ length c.args.piece.now = grind arith in
    read_all c.args.piece.now c.loop-byte.byte-index c.loop-byte.value some
    (omega arith) c.loop-byte-test.false c.loop-byte.invariant
