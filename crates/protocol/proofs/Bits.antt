-- Words made of the bits of a test: which bits are set, and which is the lowest.
use Rattle.std.proofs.Common.{◌≡◌, ℕ, zero, suc, ◌+◌, ◌*◌, ◌/◌, ◌%◌, ◌^◌, ◌<◌, ◌≤◌, Bool, true, false, cond, sym, refl, ap, ◌∙◌, div-one, arith}
use native.Mathlib.Nat.{pow-succ', zero-div, div-div-eq-div-mul}
use Rattle.std.proofs.lemmas.Bool.{cond-true, cond-false}
use lib.Count.{count_trailing_zeros, under}

-- the word whose bit i, of n bits, is the test of k + i
abbrev pub word : (ℕ → Bool) → ℕ → ℕ → ℕ
word f k zero = 0
word f k (suc n) = cond (f k) 1 0 + 2 * word f (suc k) n

-- its lowest bit, and the rest
word_low : (f : ℕ → Bool) (k n : ℕ) → word f k (suc n) % 2 ≡ cond (f k) 1 0
word_low f k n = go (f k) (word f (suc k) n)
  where
    go : (b : Bool) (w : ℕ) → (cond b 1 0 + 2 * w) % 2 ≡ cond b 1 0
    go true w = omega arith
    go false w = omega arith

-- the other bits
word_rest : (f : ℕ → Bool) (k n : ℕ) → word f k (suc n) / 2 ≡ word f (suc k) n
word_rest f k n = go (f k) (word f (suc k) n)
  where
    go : (b : Bool) (w : ℕ) → (cond b 1 0 + 2 * w) / 2 ≡ w
    go true w = omega arith
    go false w = omega arith

-- one bit less
pub bit_shift : (w i : ℕ) → w / 2 ^ suc i ≡ w / 2 / 2 ^ i
bit_shift w i = ap (λ x. w / x) (pow-succ' 2 i) ∙ sym (div-div-eq-div-mul w 2 (2 ^ i))

-- bit i is the test of k + i, if i is below n
pub word_bit : (f : ℕ → Bool) (n k i m : ℕ) → m ≡ k + i → i < n → word f k n / 2 ^ i % 2 ≡ cond (f m) 1 0
word_bit f zero k i m e l = absurd (omega arith)
word_bit f (suc n) k zero m e l = let same : m ≡ k = omega arith in rw same (ap (λ x. x % 2) (div-one (word f k (suc n))) ∙ word_low f k n)
word_bit f (suc n) k (suc i) m e l = rw (bit_shift (word f k (suc n)) i, word_rest f k n) (word_bit f n (suc k) i m (omega arith) (omega arith))

-- and not set from n on
pub word_past : (f : ℕ → Bool) (n k i : ℕ) → n ≤ i → word f k n / 2 ^ i % 2 ≡ 0
word_past f zero k i l = ap (λ x. x % 2) (zero-div (2 ^ i))
word_past f (suc n) k zero l = absurd (omega arith)
word_past f (suc n) k (suc i) l = rw (bit_shift (word f k (suc n)) i, word_rest f k n) (word_past f n (suc k) i (omega arith))

-- a word with no bit set is 0
pub word_none : (f : ℕ → Bool) (n k : ℕ) → ((m : ℕ) → f m ≡ false) → word f k n ≡ 0
word_none f zero k none = refl
word_none f (suc n) k none = rw (none k, word_none f n (suc k) none) refl

-- the lowest bit that is set is the first number from k on that passes
pub word_lowest : (f : ℕ → Bool) (n k i : ℕ) → i < n → ((m : ℕ) → m ≡ k + i → f m ≡ true) → ((m : ℕ) → k ≤ m → m < k + i → f m ≡ false) → count_trailing_zeros n (word f k n) ≡ i
unfolding count_trailing_zeros
word_lowest f zero k i l here below = absurd (omega arith)
word_lowest f (suc n) k zero l here below =
    let low : word f k (suc n) % 2 ≡ 1 = word_low f k n ∙ cond-true (f k) 1 0 (here k (omega arith)) in
    ap (λ r. under r (count_trailing_zeros n (word f k (suc n) / 2))) low
word_lowest f (suc n) k (suc i) l here below =
    let low : word f k (suc n) % 2 ≡ 0 = word_low f k n ∙ cond-false (f k) 1 0 (below k (omega arith) (omega arith)) in
    ap (λ r. under r (count_trailing_zeros n (word f k (suc n) / 2))) low ∙
    (ap (λ w. suc (count_trailing_zeros n w)) (word_rest f k n) ∙
    ap suc (word_lowest f n (suc k) i (omega arith) (λ m e. here m (omega arith)) (λ m low' high. below m (omega arith) (omega arith))))
