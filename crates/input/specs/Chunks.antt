-- What one reading adds, and what all of them give. Assumes nothing.
use Rattle.std.specs.Prelude.{◌≡◌, ℕ, ◌≤◌, List, ◌++◌, length, Option}
use Rattle.std.specs.Io.KnownBytes.{Consumes, IsAtEnd}

-- n bytes more, at most a page of 4,096, behind those that were there; the reader, whose bytes may be known, loses them, and is at its end where they are none
abbrev pub Longer : Option (List ℕ) → Option (List ℕ) → List ℕ → ℕ → List ℕ → Type 0
Longer left left_after before n after =
    (n ≤ 4096) × (more : List ℕ) × (length more ≡ n) × (after ≡ before ++ more) × Consumes left left_after more × (n ≡ 0 → IsAtEnd left_after)

-- what was taken came off the front of the reader's bytes, where those are known, and is all of them unless it is more than `most`
abbrev pub Taken : Option (List ℕ) → Option (List ℕ) → ℕ → List ℕ → Type 0
Taken left left_after most taken = Consumes left left_after taken × (length taken ≤ most → IsAtEnd left_after)
