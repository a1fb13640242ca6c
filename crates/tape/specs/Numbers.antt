-- Reading the numbers of a tape line: what is read at the front of bytes, and the bytes after it. docs/TAPE.md has the format. Assumes nothing.
use Rattle.std.specs.Prelude.{◌≡◌, ℕ, ◌+◌, ◌-◌, ◌*◌, Bool, cond, ◌&&◌, List, [], ◌∷◌, drop, ℤ, pos, neg_ℤ, Some, None, Option, ◌==◌, nat_le, nat_lt, slice_index, MatchOption}
use Rattle.std.specs.Borrow.{Bor}

-- what is read, and the bytes after it; or nothing, where the bytes do not begin with it
abbrev pub Read : Type 0 → Type 0
Read A = Option (A × List ℕ)

-- a function's result is this reading
abbrev pub IsRead : {A : Type 0} → Read A → Option (A × Bor (List ℕ)) → Type 0
IsRead reading result = MatchOption result (reading ≡ None) (λ p. reading ≡ Some (p.0, p.1.now))

-- after what was read, the rest is read on
abbrev pub and_then : {A B : Type 0} → Read A → (A → List ℕ → Option B) → Option B
and_then None next = None
and_then (Some p) next = next p.0 p.1

abbrev pub is_digit : ℕ → Bool
is_digit byte = nat_le 48 byte && nat_le byte 57

-- the number that a digit more makes
abbrev pub one_more : ℕ → ℕ → ℕ
one_more number byte = number * 10 + (byte - 48)

-- the number that digits go on with, as far as they go, where it stays within `most`
abbrev pub digits_after : ℕ → ℕ → List ℕ → Read ℕ
digits_after most number [] = Some (number, [])
digits_after most number (byte ∷ bytes) =
    cond (is_digit byte) (cond (nat_lt most (one_more number byte)) None (digits_after most (one_more number byte) bytes)) (Some (number, byte ∷ bytes))

-- a number without a leading zero: 0 stands alone
abbrev pub read_number : ℕ → List ℕ → Read ℕ
read_number most bytes = cond (slice_index bytes 0 == 48) (Some (0, drop 1 bytes)) (cond (is_digit (slice_index bytes 0)) (digits_after most 0 bytes) None)

-- a field after its space goes to 255
abbrev pub read_field : List ℕ → Read ℕ
read_field bytes = cond (slice_index bytes 0 == 32) (read_number 255 (drop 1 bytes)) None

-- a minus stands before no 0
abbrev pub below_zero : Read ℕ → Read ℤ
below_zero magnitude = and_then magnitude (λ n rest. cond (n == 0) None (Some (neg_ℤ (pos n), rest)))

abbrev pub not_below_zero : Read ℕ → Read ℤ
not_below_zero magnitude = and_then magnitude (λ n rest. Some (pos n, rest))

-- a signed number of 32 bits
abbrev pub read_signed : List ℕ → Read ℤ
read_signed bytes = cond (slice_index bytes 0 == 45) (below_zero (read_number 2147483648 (drop 1 bytes))) (not_below_zero (read_number 2147483647 bytes))

-- a value after its space
abbrev pub read_value : List ℕ → Read ℤ
read_value bytes = cond (slice_index bytes 0 == 32) (read_signed (drop 1 bytes)) None
