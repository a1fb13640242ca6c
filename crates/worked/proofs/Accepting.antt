-- The worked plan's bytes are bytes, and it keeps its limits since it is accepted. Assumes nothing.
use Rattle.std.proofs.Common.{◌≡◌, ℕ, zero, suc, Bool, true, ◌&&◌, ltb, List, [], ◌∷◌, refl, arith}
use Rattle.std.proofs.lemmas.Bool.{and_parts, ltb-true}
use Rattle.rules.specs.Meaning.{read_write}
use Rattle.plans.specs.Limits.{Limits}
use Rattle.plans.proofs.Chains.{Bytes}
use Rattle.plans.proofs.Written.{accepted_exactly}
use Rattle.worked.specs.Heading.{heading, heading_bytes}

abbrev every_byte : List ℕ → Bool
every_byte [] = true
every_byte (b ∷ bs) = ltb b 256 && every_byte bs

bytes_are : (bs : List ℕ) → every_byte bs ≡ true → Bytes bs
bytes_are [] all i = omega arith
bytes_are (b ∷ bs) all zero = ltb-true b 256 (and_parts (ltb b 256) (every_byte bs) all).0
bytes_are (b ∷ bs) all (suc i) = bytes_are bs (and_parts (ltb b 256) (every_byte bs) all).1 i

pub heading_limits : Limits read_write heading
heading_limits = ((accepted_exactly read_write heading_bytes (bytes_are heading_bytes refl) heading []).0 refl).1
