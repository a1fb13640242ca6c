-- The worked plan, examples/heading.plan: fusing writes the heading, steering reads it, logging trails behind. Assumes nothing.
use Rattle.std.specs.Prelude.{ℕ, List, [], ◌∷◌, ◌++◌, replicate, pos, codes}
use Rattle.plans.specs.Contents.{Contents}
use Rattle.plans.specs.declared.parts.Row.{Row}
use Rattle.plans.specs.declared.parts.Use.{Use}
use Rattle.rules.specs.Meaning.{read_write}
use Rattle.protocol.specs.Machine.{Setup, State, made}
use Rattle.protocol.specs.declared.words.Call.{Call}
use Rattle.protocol.specs.declared.words.Call.TheVariants.{Arrive, Lock, Read, Close, Tick}

-- its bytes
abbrev pub heading_bytes : List ℕ
heading_bytes =
    2
    ∷ 0 ∷ 0 ∷ 3 ∷ 132 ∷ 0 ∷ 0 ∷ 3 ∷ 137 ∷ 0 ∷ 0 ∷ 0 ∷ 0 ∷ 0 ∷ 0 ∷ 0 ∷ 0
    ∷ 0 ∷ 0 ∷ 0 ∷ 0 ∷ 0 ∷ 0 ∷ 0 ∷ 0 ∷ 0 ∷ 0 ∷ 0 ∷ 0 ∷ 0 ∷ 0 ∷ 0 ∷ 0
    ∷ 3
    ∷ 0 ∷ 10 ∷ 0 ∷ 2
    ∷ 0 ∷ 20 ∷ 0 ∷ 4
    ∷ 0 ∷ 50 ∷ 0 ∷ 6
    ∷ 0 ∷ 5
    ∷ 0 ∷ 0 ∷ 0
    ∷ 1 ∷ 0 ∷ 1
    ∷ 1 ∷ 1 ∷ 0
    ∷ 2 ∷ 0 ∷ 0
    ∷ 2 ∷ 1 ∷ 1
    ∷ []

abbrev row : ℕ → ℕ → Row
row period budget = record { period = period; budget = budget }

abbrev a_use : ℕ → ℕ → ℕ → Use
a_use task object mode = record { task = task; object = object; mode = mode }

-- what it says
abbrev pub heading : Contents
heading = record {
  objects = record { start = pos 900 ∷ pos 905 ∷ pos 0 ∷ pos 0 ∷ [] } ∷ record { start = pos 0 ∷ pos 0 ∷ pos 0 ∷ pos 0 ∷ [] } ∷ [];
  rows = row 10 2 ∷ row 20 4 ∷ row 50 6 ∷ [];
  uses = a_use 0 0 0 ∷ a_use 1 0 1 ∷ a_use 1 1 0 ∷ a_use 2 0 0 ∷ a_use 2 1 1 ∷ [];
}

-- the same with every use in mode 0, for the exclusive rule
abbrev pub heading_alone : Contents
heading_alone = record {
  objects = heading.objects;
  rows = heading.rows;
  uses = a_use 0 0 0 ∷ a_use 1 0 0 ∷ a_use 1 1 0 ∷ a_use 2 0 0 ∷ a_use 2 1 0 ∷ [];
}

-- a fresh manager of it under read/write, with room for 64 locks and 64 images
abbrev pub heading_setup : Setup
heading_setup = record { rule = read_write; plan = heading; lock_room = 64; journal_room = 64 }

abbrev pub heading_start : State
heading_start = made heading_setup (replicate 128 (pos 0))

-- the worked calls up to the wait: logging reads the heading, steering reads it and closes, fusing runs a tick and is told to wait
abbrev pub up_to_the_wait : List Call
up_to_the_wait = Arrive 2 ∷ Lock 2 0 0 ∷ Arrive 0 ∷ Lock 0 0 0 ∷ Read 0 0 1 ∷ Close 0 ∷ Arrive 1 ∷ Tick ∷ Lock 1 0 1 ∷ []

-- examples/heading.tape, and the sheet that it fills
abbrev pub heading_tape : List ℕ
heading_tape = codes "A 2\nL 2 0 0\nA 0\nL 0 0 0\nR 0 0 1\nF 0\nA 1\nT\nL 1 0 1\nT\nF 2\nL 1 0 1\nW 1 0 1 912\nF 1\n"

abbrev pub heading_sheet : List ℕ
heading_sheet = codes "open run 2\ngranted run 2\nopen run 0\ngranted run 0\nvalue 905 run 0\nclosed 0 0 - run 2\nopen run 1\nran 1 run 1\nwait 2 run 2\nran 2 run 2\nclosed 1 0 - run 1\ngranted run 1\nwritten run 1\nclosed 1 1 2 run -\n"

-- the report on the plan under read/write
abbrev pub heading_report : List ℕ
heading_report =
    codes "rule: read/write\n"
    ++ (codes "\n"
    ++ (codes "object  start values\n"
    ++ (codes "0       900 905 0 0\n"
    ++ (codes "1       0 0 0 0\n"
    ++ (codes "\n"
    ++ (codes "object  mode  ceiling  because\n"
    ++ (codes "0       0     1        task 1 may want it in mode 1\n"
    ++ (codes "0       1     0        task 0 may want it in mode 0\n"
    ++ (codes "1       0     2        task 2 may want it in mode 1\n"
    ++ (codes "1       1     1        task 1 may want it in mode 0\n"
    ++ (codes "\n"
    ++ (codes "task  period  budget  bound  because\n"
    ++ (codes "0     10      2       4      task 1 may hold object 0 in mode 1, ceiling 0\n"
    ++ (codes "1     20      4       6      task 2 may hold object 0 in mode 0, ceiling 1\n"
    ++ (codes "2     50      6       0      no lower task can hold it up\n")))))))))))))))
