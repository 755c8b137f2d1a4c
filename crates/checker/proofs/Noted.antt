-- Notes that are taken back.
use Rattle.std.proofs.Common.{◌≡◌, ℕ, zero, suc, min, List, [], ◌∷◌, ◌++◌, length, drop, replicate, sym, refl, ap, arith}
use Rattle.checker.specs.declared.note.Note.{Note}
use Rattle.checker.specs.Notes.{cleared, unnoted}

pub cleared_none : (n : ℕ) → cleared n [] ≡ []
cleared_none zero = refl
cleared_none (suc n) = refl

-- what a fill of the first places leaves
pub filled : (m n : ℕ) (notes : List Note) → m ≡ min n (length notes) → replicate m unnoted ++ drop m notes ≡ cleared n notes
filled zero n [] e = sym (cleared_none n)
filled zero zero (x ∷ notes) e = refl
filled zero (suc n) (x ∷ notes) e = absurd (omega arith)
filled (suc m) n [] e = absurd (omega arith)
filled (suc m) zero (x ∷ notes) e = absurd (omega arith)
filled (suc m) (suc n) (x ∷ notes) e = ap (λ (r : List Note). unnoted ∷ r) (filled m n notes (omega arith))

pub cleared_beyond : (n : ℕ) (notes : List Note) → drop n (cleared n notes) ≡ drop n notes
cleared_beyond zero notes = refl
cleared_beyond (suc n) [] = refl
cleared_beyond (suc n) (x ∷ notes) = cleared_beyond n notes

-- notes that differ in the table alone are the same once they are taken back
pub cleared_same : (n : ℕ) (notes others : List Note) → length notes ≡ length others → drop n notes ≡ drop n others → cleared n notes ≡ cleared n others
cleared_same zero notes others l e = e
cleared_same (suc n) [] [] l e = refl
cleared_same (suc n) [] (y ∷ others) l e = absurd (omega arith)
cleared_same (suc n) (x ∷ notes) [] l e = absurd (omega arith)
cleared_same (suc n) (x ∷ notes) (y ∷ others) l e =
    ap (λ (r : List Note). unnoted ∷ r) (cleared_same n notes others (omega arith) e)
