-- Bytes read and written five at a time, seen as cells.
use Rattle.std.specs.Prelude.{if◌then◌else◌, nat_lt}
use Rattle.std.specs.Simd.{first_chunks}
use borrow.Rule.Slice.PartMut.{put_mid}
use Rattle.std.proofs.lemmas.Bool.{lt-ltb}
use Rattle.std.proofs.Common.{◌≡◌, ℕ, zero, suc, ◌+◌, ◌-◌, ◌*◌, ◌/◌, ◌%◌, ◌^◌, ◌<◌, ◌≤◌, Bool, true, false, List, [], ◌∷◌, ◌++◌, length, get_or, take, drop, set, None, Option, rules, refl, ap, ◌∙◌, arith}
use Rattle.std.proofs.lemmas.Nat.{from_be_bytes-to_be_bytes_4}
use Rattle.memories.specs.declared.value.Value.{Value}
use Rattle.memories.specs.Cells.{record_cell}
use Rattle.memories.specs.Layout.{byte_cell, byte_cells, put_cell}

pub length_bytes : (bytes : List ℕ) → length (byte_cells bytes) ≡ length bytes / 5
unfolding byte_cells
length_bytes [] = refl
length_bytes (t ∷ []) = refl
length_bytes (t ∷ a ∷ []) = refl
length_bytes (t ∷ a ∷ b ∷ []) = refl
length_bytes (t ∷ a ∷ b ∷ c ∷ []) = refl
length_bytes (t ∷ a ∷ b ∷ c ∷ d ∷ rest) = let e = length_bytes rest in omega arith

-- what a chunk of five bytes means
abbrev chunk_cell : List ℕ → Option Value
chunk_cell l = byte_cell (get_or l 0 0) (get_or l 1 0) (get_or l 2 0) (get_or l 3 0) (get_or l 4 0)

-- the cell at i is what its five bytes mean
read_chunk : (bytes none : List ℕ) (i k : ℕ)
    → k ≡ length bytes / 5
    → i < k
    → chunk_cell (get_or (first_chunks 5 k bytes) i none) ≡ get_or (byte_cells bytes) i None
unfolding byte_cells
read_chunk [] none i k e h = absurd (omega arith)
read_chunk (t ∷ []) none i k e h = absurd (omega arith)
read_chunk (t ∷ a ∷ []) none i k e h = absurd (omega arith)
read_chunk (t ∷ a ∷ b ∷ []) none i k e h = absurd (omega arith)
read_chunk (t ∷ a ∷ b ∷ c ∷ []) none i k e h = absurd (omega arith)
read_chunk (t ∷ a ∷ b ∷ c ∷ d ∷ rest) none i zero e h = absurd (omega arith)
read_chunk (t ∷ a ∷ b ∷ c ∷ d ∷ rest) none zero (suc k) e h = refl
read_chunk (t ∷ a ∷ b ∷ c ∷ d ∷ rest) none (suc i) (suc k) e h = read_chunk rest none i k (omega arith) (omega arith)

pub seen_chunk : (bytes chunk : List ℕ) (chunks : List (List ℕ)) (i w : ℕ)
    → chunks ≡ first_chunks 5 (length bytes / 5) bytes
    → i < length bytes / 5
    → chunk ≡ get_or chunks i chunk
    → w ≡ get_or chunk 1 0 * 16777216 + get_or chunk 2 0 * 65536 + get_or chunk 3 0 * 256 + get_or chunk 4 0
    → record_cell (record { ty = get_or chunk 0 0; word = w }) ≡ get_or (byte_cells bytes) i None
seen_chunk bytes chunk chunks i w e h f g =
    ap (λ (n : ℕ). record_cell (record { ty = get_or chunk 0 0; word = n })) g
    ∙ ap chunk_cell (f ∙ ap (λ (l : List (List ℕ)). get_or l i chunk) e)
    ∙ read_chunk bytes chunk i _ refl h

-- five bytes that lie in a row are written one by one
five_set : (at t a b c d : ℕ) (bytes : List ℕ)
    → at + 5 ≤ length bytes
    → take at bytes ++ t ∷ a ∷ b ∷ c ∷ d ∷ drop 5 (drop at bytes)
    ≡ set (set (set (set (set bytes at t) (at + 1) a) (at + 2) b) (at + 3) c) (at + 4) d
five_set zero t a b c d [] h = absurd (omega arith)
five_set zero t a b c d (u ∷ []) h = absurd (omega arith)
five_set zero t a b c d (u ∷ v ∷ []) h = absurd (omega arith)
five_set zero t a b c d (u ∷ v ∷ w ∷ []) h = absurd (omega arith)
five_set zero t a b c d (u ∷ v ∷ w ∷ x ∷ []) h = absurd (omega arith)
five_set zero t a b c d (u ∷ v ∷ w ∷ x ∷ y ∷ rest) h = refl
five_set (suc at) t a b c d [] h = absurd (omega arith)
five_set (suc at) t a b c d (u ∷ rest) h =
    let next : (k : ℕ) → suc at + k ≡ suc (at + k) = λ k. omega arith in
    rw (next 1, next 2, next 3, next 4) (ap (λ (l : List ℕ). u ∷ l) (five_set at t a b c d rest (omega arith)))

set_five : (t a b c d : ℕ) (rest : List ℕ) (n m x : ℕ) → n ≡ 5 + m → set (t ∷ a ∷ b ∷ c ∷ d ∷ rest) n x ≡ t ∷ a ∷ b ∷ c ∷ d ∷ set rest m x
set_five t a b c d rest n m x e = let k : n ≡ suc (suc (suc (suc (suc m)))) = omega arith in rw k

put_five : (t a b c d : ℕ) (rest : List ℕ) (i : ℕ) (v : Value) → put_cell (t ∷ a ∷ b ∷ c ∷ d ∷ rest) (suc i) v ≡ t ∷ a ∷ b ∷ c ∷ d ∷ put_cell rest i v
put_five t a b c d rest i v =
    rw (
      set_five t a b c d rest (5 * suc i) (5 * i) _ (omega arith),
      set_five t a b c d _ (5 * suc i + 1) (5 * i + 1) _ (omega arith),
      set_five t a b c d _ (5 * suc i + 2) (5 * i + 2) _ (omega arith),
      set_five t a b c d _ (5 * suc i + 3) (5 * i + 3) _ (omega arith),
      set_five t a b c d _ (5 * suc i + 4) (5 * i + 4) _ (omega arith),
    )

-- what was put is seen in its cell, and every other cell is as it was
pub put_bytes : (bytes : List ℕ) (i : ℕ) (v : Value)
    → i < length bytes / 5
    → v.word < 2 ^ 32
    → byte_cells (put_cell bytes i v) ≡ set (byte_cells bytes) i (record_cell v)
unfolding byte_cells
put_bytes [] i v h l = absurd (omega arith)
put_bytes (t ∷ []) i v h l = absurd (omega arith)
put_bytes (t ∷ a ∷ []) i v h l = absurd (omega arith)
put_bytes (t ∷ a ∷ b ∷ []) i v h l = absurd (omega arith)
put_bytes (t ∷ a ∷ b ∷ c ∷ []) i v h l = absurd (omega arith)
put_bytes (t ∷ a ∷ b ∷ c ∷ d ∷ rest) zero v h l =
    ap (λ (w : ℕ). record_cell (record { ty = v.ty; word = w }) ∷ byte_cells rest) (from_be_bytes-to_be_bytes_4 v.word l)
put_bytes (t ∷ a ∷ b ∷ c ∷ d ∷ rest) (suc i) v h l =
    let k : i < length rest / 5 = omega arith in
    ap byte_cells (put_five t a b c d rest i v) ∙ ap (λ (cells : List (Option Value)). byte_cell t a b c d ∷ cells) (put_bytes rest i v k l)

-- the cells once a value was put, or was refused
pub put_changed : (bytes new : List ℕ) (i : ℕ) (v : Value) (x : Option Value) (r : Bool)
    → r ≡ nat_lt i (length bytes / 5)
    → v.word < 2 ^ 32
    → record_cell v ≡ x
    → new ≡ (if r then put_cell bytes i v else bytes)
    → byte_cells new ≡ (if r then set (byte_cells bytes) i x else byte_cells bytes)
put_changed bytes new i v x true e l g f = ap byte_cells f ∙ put_bytes bytes i v (search (rules, e)) l ∙ ap (set (byte_cells bytes) i) g
put_changed bytes new i v x false e l g f = ap byte_cells f

-- five bytes put at once
pub put_row : (bytes word row : List ℕ) (i : ℕ) (v : Value)
    → i < length bytes / 5
    → word ≡ v.word / 16777216 % 256 ∷ v.word / 65536 % 256 ∷ v.word / 256 % 256 ∷ v.word % 256 ∷ []
    → row ≡ v.ty ∷ get_or word 0 0 ∷ get_or word 1 0 ∷ get_or word 2 0 ∷ get_or word 3 0 ∷ []
    → put_mid (5 * i) (5 * i + 5 - 5 * i) bytes row ≡ (if nat_lt i (length bytes / 5) then put_cell bytes i v else bytes)
put_row bytes word row i v h e f =
    let n : 5 * i + 5 - 5 * i ≡ 5 = omega arith in
    let w = v.word in
    rw (n, f, e, lt-ltb i (length bytes / 5) h)
    (five_set (5 * i) v.ty (w / 16777216 % 256) (w / 65536 % 256) (w / 256 % 256) (w % 256) bytes (omega arith))
