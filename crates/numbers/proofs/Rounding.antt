-- `closest` is the nearest whole number, a tie to the even one, and no other is.
use Rattle.std.proofs.Common.{◌≡◌, ℕ, suc, ◌+◌, ◌*◌, ◌/◌, ◌%◌, ◌<◌, ◌≤◌, sym, refl, subst, inl, inr, mul-le-mul_right, mod-lt, suc-mul, div-add-mod', arith}
use Prim.Native.Nat.{compare, Ordering}
use native.Mathlib.Omega.{compare-lt, compare-eq, compare-gt}
use lib.Ieee.{nearest}
use lib.Ieee.Nearest.{closest}
use Rattle.std.proofs.lemmas.Bool.{cases_eq, cases_lt, cases_order}
use Rattle.numbers.specs.Laws.{gap, Nearest, TheNearest}

-- where n is above m, n / 1 lies at least b parts of 1 / b above m
above : (b m n : ℕ) → m < n → m * b + b ≤ n * b
above b m n h = let p = mul-le-mul_right b h in let s = suc-mul m b in omega arith

-- with a = q * b + r: no number lies nearer than q or q + 1, and which of the two is nearer is told by r
down_least : (a b q r m : ℕ) → a ≡ q * b + r → r < b → r * 2 ≤ b → gap a b q ≤ gap a b m
down_least a b q r m e l h =
    elim (cases_lt q m) [
      | inl k ↦ let p = above b q m k in omega arith
      | inr k ↦ let p = mul-le-mul_right b k in omega arith
    ]

up_least : (a b q r m : ℕ) → a ≡ q * b + r → r < b → b ≤ r * 2 → gap a b (suc q) ≤ gap a b m
up_least a b q r m e l h =
    let s = suc-mul q b in
    elim (cases_lt q m) [
      | inl k ↦ let p = mul-le-mul_right b k in omega arith
      | inr k ↦ let p = mul-le-mul_right b k in omega arith
    ]

down_alone : (a b q r m : ℕ) → a ≡ q * b + r → r < b → r * 2 < b → gap a b m ≡ gap a b q → m ≡ q
down_alone a b q r m e l h g =
    elim (cases_order m q) [
      | inl k ↦ k
      | inr k ↦ elim k [ inl j ↦ let p = above b m q j in omega arith | inr j ↦ let p = above b q m j in omega arith ]
    ]

up_alone : (a b q r m : ℕ) → a ≡ q * b + r → r < b → b < r * 2 → gap a b m ≡ gap a b (suc q) → m ≡ suc q
up_alone a b q r m e l h g =
    let s = suc-mul q b in
    elim (cases_order m (suc q)) [
      | inl k ↦ k
      | inr k ↦ elim k [ inl j ↦ let p = above b m (suc q) j in omega arith | inr j ↦ let p = above b (suc q) m j in omega arith ]
    ]

-- at a tie both are nearest
tied : (a b q r m : ℕ) → a ≡ q * b + r → r < b → r * 2 ≡ b → gap a b (q + q % 2) ≤ gap a b m
tied a b q r m e l h =
    elim (cases_eq (q % 2) 0) [
      | inl z ↦ subst (λ (n : ℕ). gap a b n ≤ gap a b m) (omega arith) (down_least a b q r m e l (omega arith))
      | inr z ↦ subst (λ (n : ℕ). gap a b n ≤ gap a b m) (omega arith) (up_least a b q r m e l (omega arith))
    ]

-- by how twice the remainder compares with b
by_order : (a b q r : ℕ) → a ≡ q * b + r → r < b → (o : Ordering) → compare (r * 2) b ≡ o → Nearest a b (nearest q o)
by_order a b q r e l Ordering.lt h =
    let k = compare-lt (r * 2) b h in
    record { least = λ m. down_least a b q r m e l (omega arith); even = λ m g. inl (down_alone a b q r m e l k g) }
by_order a b q r e l Ordering.eq h =
    let k = compare-eq (r * 2) b h in
    record { least = λ m. tied a b q r m e l k; even = λ m g. inr (omega arith) }
by_order a b q r e l Ordering.gt h =
    let k = compare-gt (r * 2) b h in
    record { least = λ m. up_least a b q r m e l (omega arith); even = λ m g. inl (up_alone a b q r m e l k g) }

pub closest_nearest : (a b : ℕ) → 0 < b → Nearest a b (closest a b)
closest_nearest a b h = by_order a b (a / b) (a % b) (sym (div-add-mod' a b)) (mod-lt a h) (compare (a % b * 2) b) refl

-- two even numbers are two apart, and then the one between them is nearer
apart : (a b m n : ℕ) → 0 < b → Nearest a b m → gap a b m ≡ gap a b n → m % 2 ≡ 0 → n % 2 ≡ 0 → m < n → ⊥
apart a b m n h w g x y l =
    let s = suc-mul m b in
    let k : suc m < n = omega arith in
    let p = above b (suc m) n k in
    let c = w.least (suc m) in
    omega arith

pub nearest_alone : (a b m n : ℕ) → 0 < b → Nearest a b m → Nearest a b n → m ≡ n
nearest_alone a b m n h v w =
    let g : gap a b m ≡ gap a b n = omega (arith, v.least n, w.least m) in
    elim (w.even m g) [
      | inl e ↦ e
      | inr y ↦ elim (v.even n (sym g)) [
        | inl e ↦ sym e
        | inr x ↦ elim (cases_order m n) [
          | inl e ↦ e
          | inr k ↦ elim k [ inl j ↦ absurd (apart a b m n h v g x y j) | inr j ↦ absurd (apart a b n m h w (sym g) y x j) ]
        ]
      ]
    ]

pub closest_alone : (a b : ℕ) → 0 < b → TheNearest a b (closest a b)
closest_alone a b h = record { nearest = closest_nearest a b h; alone = λ m w. nearest_alone a b m (closest a b) h w (closest_nearest a b h) }
