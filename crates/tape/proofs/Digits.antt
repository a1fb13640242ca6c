-- Steps through the digits of a number. Assumes nothing.
use Rattle.std.proofs.Common.{◌≡◌, ℕ, false, List, [], ◌∷◌, get_or, Some, refl}
use Rattle.tape.specs.Numbers.{is_digit, digits_after}

-- no digit is in front
pub digits_stop : (most number : ℕ) (bytes : List ℕ) → is_digit (get_or bytes 0 0) ≡ false → digits_after most number bytes ≡ Some (number, bytes)
digits_stop most number [] none = refl
digits_stop most number (byte ∷ bytes) none = rw none
