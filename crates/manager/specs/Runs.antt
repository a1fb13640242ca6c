-- Calls one after the other, and what holds of a line of calls that they make longer. Assumes nothing.
use Rattle.std.specs.Prelude.{List, [], ◌∷◌, ℤ}
use Rattle.protocol.specs.Laws.{Laws}
use Rattle.protocol.specs.Lines.{Event, Started, Line}
use Rattle.protocol.specs.Machine.{Setup, State, step}
use Rattle.protocol.specs.declared.words.Answer.{Answer}
use Rattle.protocol.specs.declared.words.Call.{Call}

-- whatever line from an accepted making led to the state before, the longer line leads to the state after, and all laws hold of it
abbrev pub LeadsOn : Setup → State → State → (List Event → List Event) → Type 0
LeadsOn setup before after longer =
    (cells : List ℤ) (start : State) (line : List Event) → Started setup cells start → Line setup start line before →
    Line setup start (longer line) after × Laws setup start (longer line) after

-- what the calls leave
abbrev pub final : Setup → State → List Call → State
final setup s [] = s
final setup s (c ∷ cs) = final setup (step setup s c).left cs

-- what they are answered, in their order
abbrev pub answers_to : Setup → State → List Call → List Answer
answers_to setup s [] = []
answers_to setup s (c ∷ cs) = (step setup s c).answer ∷ answers_to setup (step setup s c).left cs

-- the line with them, the newest in front
abbrev pub line_with : Setup → State → List Call → List Event → List Event
line_with setup s [] line = line
line_with setup s (c ∷ cs) line = line_with setup (step setup s c).left cs (record { call = c; answer = (step setup s c).answer } ∷ line)
