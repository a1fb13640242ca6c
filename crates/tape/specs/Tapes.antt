-- How a tape splits into lines, and what its lines say at their places. docs/TAPE.md has the format. Assumes nothing.
use Rattle.std.specs.Prelude.{◌≡◌, ℕ, suc, ◌+◌, ◌-◌, Bool, cond, not, ◌&&◌, List, [], ◌∷◌, ◌++◌, length, take, drop, Some, None, Option, ◌==◌, ◌≢◌, nat_lt, slice_index}
use Rattle.std.specs.List.{flat_map, AllByRecursion}
use Rattle.protocol.specs.declared.words.Call.{Call}
use Rattle.tape.specs.Lines.{read_line}

-- a byte before the first line
abbrev pub onto : ℕ → List (List ℕ) → List (List ℕ)
onto byte [] = (byte ∷ []) ∷ []
onto byte (line ∷ more) = (byte ∷ line) ∷ more

-- a byte 10 ends a line; the last line may lack it
abbrev pub lines : List ℕ → List (List ℕ)
lines [] = []
lines (byte ∷ tape) = cond (byte == 10) ([] ∷ lines tape) (onto byte (lines tape))

-- the bytes before the first line end, or all of them
abbrev pub line_length : List ℕ → ℕ
line_length [] = 0
line_length (byte ∷ tape) = cond (byte == 10) 0 (suc (line_length tape))

-- what a line says: a call, or nothing that can be read, with the line and the number of tape bytes before it
pub data Entry : Type 0 where
  call : Call → Entry
  unreadable : List ℕ → ℕ → Entry

abbrev pub said : List ℕ → ℕ → Option Call → Entry
said line place (Some c) = call c
said line place None = unreadable line place

-- the lines after one another from a place on, each with its end
abbrev pub entries : ℕ → List (List ℕ) → List Entry
entries place [] = []
entries place (line ∷ more) = said line place (read_line line) ∷ entries (place + length line + 1) more

-- a tape with the end of its last line, which it may lack
abbrev pub lacks_end : List ℕ → Bool
lacks_end tape = nat_lt 0 (length tape) && not (slice_index tape (length tape - 1) == 10)

abbrev pub with_end : List ℕ → List ℕ
with_end tape = cond (lacks_end tape) (tape ++ (10 ∷ [])) tape

-- an unreadable line stands in the tape at its place
abbrev pub InPlace : List ℕ → Entry → Type 0
InPlace tape (call c) = Unit {0}
InPlace tape (unreadable line place) = take (length line) (drop place tape) ≡ line

pub record Splits (tape : List ℕ) : Type 0 where
  -- the lines with their ends put together are the tape again
  pub whole : flat_map (λ line. line ++ (10 ∷ [])) (lines tape) ≡ with_end tape
  -- no line holds a line end
  pub apart : AllByRecursion (AllByRecursion (λ byte. byte ≢ 10)) (lines tape)
  pub in_place : AllByRecursion (InPlace tape) (entries 0 (lines tape))
