-- A number is read digit by digit. Assumes nothing.
use Rattle.std.proofs.Common.{◌≡◌, ℕ, ◌+◌, ◌-◌, ◌*◌, ◌^◌, ◌<◌, ◌≤◌, true, false, ◌&&◌, leb, List, length, get_or, take, drop, Some, None, sym, ap, ◌∙◌, pow-suc, add-one, arith, lit<}
use native.Mathlib.Nat.{pow-le-pow_right}
use Rattle.std.specs.Str.Parse.{digits_value}
use Rattle.std.specs.Int.{IsInRange}
use Rattle.std.specs.Char.{is_ascii_digit}
use Rattle.std.specs.Str.{all_ascii_digits}
use Rattle.std.proofs.lemmas.Int.Digits.{digits_value_more}
use Rattle.std.proofs.lemmas.List.{at_drop_more, at_drop_all, take_all}
use Rattle.std.proofs.lemmas.Bool.{and_parts, and_left, and_right, cond-false, le-leb, lt-leb, leb-true}
use Rattle.std.proofs.lemmas.Str.{digit_value_digit}
use Rattle.std.proofs.lemmas.Str.Parse.{IsNumeralModel, numerals_by_value, tells_all_ascii_digits}
use Rattle.job.specs.Lines.{written, number_of}

pub numerals : IsNumeralModel (λ ds. all_ascii_digits ds ≡ true) (digits_value 10)
numerals = numerals_by_value (λ ds. all_ascii_digits ds ≡ true) tells_all_ascii_digits

-- v is what the first i bytes write, and the others decide whether all are digits
pub record Read (piece : List ℕ) (i v : ℕ) : Type 0 where
  pub small : v < 10 ^ i
  pub so : v ≡ digits_value 10 (take i piece)
  pub digits : all_ascii_digits piece ≡ all_ascii_digits (drop i piece)

grown : (i v d : ℕ) → v < 10 ^ i → d < 10 → v * 10 + d < 10 ^ (i + 1)
grown i v d h k = let e : 10 ^ (i + 1) ≡ 10 ^ i * 10 = rw add-one (pow-suc 10 i) in omega arith

pub fits : (i v d : ℕ) → i < 13 → v < 10 ^ i → d < 10 → v * 10 + d < 2 ^ 64
fits i v d short h k =
    let up : i + 1 ≤ 13 = omega arith in
    let p : 10 ^ (i + 1) ≤ 10 ^ 13 = pow-le-pow_right (lit< tt) up in
    let g = grown i v d h k in
    omega arith

pub in_range : (byte : ℕ) → is_ascii_digit byte ≡ true → IsInRange 48 57 byte
in_range byte e = let p = and_parts _ _ e in (leb-true _ _ p.0, leb-true _ _ p.1)

pub read_on : (piece : List ℕ) (i v d : ℕ) → i < length piece → is_ascii_digit (get_or piece i 0) ≡ true → d ≡ get_or piece i 0 - 48 →
    Read piece i v → Read piece (i + 1) (v * 10 + d)
read_on piece i v d h digit same r =
    let within = in_range (get_or piece i 0) digit in
    let low = within.0 in
    let high = within.1 in
    let is = digit_value_digit (get_or piece i 0) within in
    let more = digits_value_more 10 piece i h in
    let was = r.so in
    let next : all_ascii_digits (drop i piece) ≡ (is_ascii_digit (get_or piece i 0) && all_ascii_digits (drop (i + 1) piece)) = at_drop_more all_ascii_digits piece i 0 h in
    record {
      small = grown i v d r.small (omega arith);
      so = omega arith;
      digits = r.digits ∙ next ∙ ap (λ b. b && all_ascii_digits (drop (i + 1) piece)) digit;
    }

pub read_not : (piece : List ℕ) (i v : ℕ) → i < length piece → is_ascii_digit (get_or piece i 0) ≡ false →
    Read piece i v → None ≡ number_of piece
read_not piece i v h other r =
    let next : all_ascii_digits (drop i piece) ≡ (is_ascii_digit (get_or piece i 0) && all_ascii_digits (drop (i + 1) piece)) = at_drop_more all_ascii_digits piece i 0 h in
    let none : all_ascii_digits piece ≡ false = r.digits ∙ next ∙ and_left _ _ other in
    sym (cond-false (written piece) (Some (digits_value 10 piece)) None
    (and_right (leb 1 (length piece)) _ (and_right (leb (length piece) 13) (all_ascii_digits piece) none)))

pub read_all : (piece : List ℕ) (i v : ℕ) → 1 ≤ length piece → length piece ≤ 13 → length piece ≤ i →
    Read piece i v → Some v ≡ number_of piece
read_all piece i v some few end r =
    let done : all_ascii_digits (drop i piece) ≡ true = at_drop_all all_ascii_digits piece i end in
    let v-is : v ≡ digits_value 10 piece = r.so ∙ ap (digits_value 10) (take_all i piece end) in
    rw (le-leb 1 (length piece) some, le-leb (length piece) 13 few, r.digits ∙ done) (ap Some v-is)

pub no_digits : (piece : List ℕ) → length piece < 1 → None ≡ number_of piece
no_digits piece h = rw (lt-leb 1 (length piece) h)

pub many_digits : (piece : List ℕ) → 13 < length piece → None ≡ number_of piece
many_digits piece h =
    sym (cond-false (written piece) (Some (digits_value 10 piece)) None
    (and_right (leb 1 (length piece)) _ (and_left (leb (length piece) 13) (all_ascii_digits piece) (lt-leb (length piece) 13 h))))
