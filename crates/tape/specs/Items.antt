-- What the reader of a tape has still to give. Assumes nothing.
use Rattle.std.specs.Prelude.{◌≡◌, ℕ, ◌-◌, List, [], ◌∷◌, length, drop, Ok, Err, Option, Result, MatchOption}
use Rattle.tape.specs.Tapes.{lines, Entry, call, unreadable, entries}
use Rattle.protocol.specs.declared.words.Call.{Call}
use Rattle.tape.specs.declared.items.Unreadable.{Unreadable}
use Rattle.tape.specs.declared.items.Tape.{Tape}

abbrev pub entry : Result Call Unreadable → Entry
entry (Ok c) = call c
entry (Err line) = unreadable line.line.now line.place

-- the entries from its place on
abbrev pub to_come : Tape → List Entry
to_come t = entries t.place (lines (drop t.place t.bytes.now))

-- every item takes a byte or more
abbrev pub bytes_left : Tape → ℕ
bytes_left t = length t.bytes.now - t.place

-- a step gives the first of what was to come, and the rest is still to come
abbrev pub Steps : Tape → Option (Result Call Unreadable) → Tape → Type 0
Steps before given after = MatchOption given ((to_come before ≡ []) × (after ≡ before)) (λ item. to_come before ≡ entry item ∷ to_come after)
