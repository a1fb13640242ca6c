-- Playing a tape from a plan's bytes: the sheet that it fills, and the line of calls that it makes. Assumes nothing.
use Rattle.std.specs.Prelude.{◌≡◌, ℕ, ◌*◌, cond, List, [], ◌∷◌, ◌++◌, length, take, replicate, pos, Ok, Err, Result, nat_lt}
use Rattle.rules.specs.Meaning.{Meaning}
use Rattle.plans.specs.Contents.{Contents}
use Rattle.plans.specs.Reading.{Read, read_plan}
use Rattle.plans.specs.declared.refusal.Refusal.{Refusal}
use Rattle.plans.specs.declared.refusal.Refusal.TheVariants.{CountOutOfLimits, UnreadableLine, ShortSheet}
use Rattle.protocol.specs.Laws.{Laws}
use Rattle.protocol.specs.Lines.{Event}
use Rattle.protocol.specs.Machine.{Setup, State, Outcome, refuse, made, step}
use Rattle.protocol.specs.Tasks.{running}
use Rattle.tape.specs.Tapes.{lines, Entry, call, unreadable, entries}
use Rattle.sheets.specs.Sheets.{Put, sheet_line}

-- what an entry is answered and leaves; an unreadable line makes no call
abbrev pub outcome : Setup → State → Entry → Outcome
outcome setup s (call c) = step setup s c
outcome setup s (unreadable line place) = refuse s UnreadableLine

-- a sheet line for each entry, with the task that runs after it
abbrev pub play_sheet : Setup → State → List Entry → List ℕ
play_sheet setup s [] = []
play_sheet setup s (e ∷ more) = let o = outcome setup s e in sheet_line o.answer (running o.left.tasks) ++ play_sheet setup o.left more

-- what the entries leave
abbrev pub play_state : Setup → State → List Entry → State
play_state setup s [] = s
play_state setup s (e ∷ more) = play_state setup (outcome setup s e).left more

-- the line of calls that they make after an earlier one; as every line, it stands newest first
abbrev pub play_line : Setup → State → List Event → List Entry → List Event
play_line setup s line [] = line
play_line setup s line (call c ∷ more) = play_line setup (step setup s c).left (record { call = c; answer = (step setup s c).answer } ∷ line) more
play_line setup s line (unreadable text place ∷ more) = play_line setup s line more

-- a player has 64 lock records, 64 images and 128 cells
abbrev pub player_setup : Meaning → Contents → Setup
player_setup m plan = record { rule = m; plan = plan; lock_room = 64; journal_room = 64 }

abbrev pub player_start : Meaning → Contents → State
player_start m plan = made (player_setup m plan) (replicate 128 (pos 0))

-- the sheet of a tape that is played after its plan
abbrev pub tape_sheet : Meaning → Contents → List ℕ → List ℕ
tape_sheet m plan tape = play_sheet (player_setup m plan) (player_start m plan) (entries 0 (lines tape))

-- at most 1,000 lines, and 32 bytes of sheet for each
abbrev pub play_after : Meaning → ℕ → Read Contents → Result (List ℕ) Refusal
play_after m room (Ok p) =
    cond (nat_lt 1000 (length (lines p.1))) (Err CountOutOfLimits)
    (cond (nat_lt room (32 * length (lines p.1))) (Err ShortSheet)
    (Ok (tape_sheet m p.0 p.1)))
play_after m room (Err why) = Err why

-- an input of at most 60,000 bytes, played onto a sheet with so much room: what it fills, or the first fault
abbrev pub play_input : Meaning → List ℕ → ℕ → Result (List ℕ) Refusal
play_input m input room = cond (nat_lt 60000 (length input)) (Err CountOutOfLimits) (play_after m room (read_plan m input))

-- after every entry of the tape, all of the laws hold of the line of calls that it has made
abbrev pub PlayLaws : Meaning → List ℕ → Type 0
PlayLaws m input = (plan : Contents) (tape : List ℕ) → read_plan m input ≡ Ok (plan, tape) → (n : ℕ) →
    (let played = take n (entries 0 (lines tape)) in
    Laws (player_setup m plan) (player_start m plan) (play_line (player_setup m plan) (player_start m plan) [] played) (play_state (player_setup m plan) (player_start m plan) played))

-- what was played fills the front of the sheet, and the bytes behind it stay; a refused play leaves all of it
abbrev pub Plays : Result (List ℕ) Refusal → List ℕ → List ℕ → Result ℕ Refusal → Type 0
Plays (Ok text) before after (Ok count) = Put before 0 text after count
Plays (Ok text) before after (Err given) = ⊥
Plays (Err why) before after (Ok count) = ⊥
Plays (Err why) before after (Err given) = (given ≡ why) × (after ≡ before)
