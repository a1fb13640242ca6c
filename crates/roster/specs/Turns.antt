-- What a call makes of its task's record, by how the task stands. Assumes nothing.
use Rattle.std.specs.Prelude.{Bool, true, false}
use Rattle.protocol.specs.declared.words.Standing.{Standing}
use Rattle.protocol.specs.declared.words.Standing.TheVariants.{Resting, Ready, Waiting}
use Rattle.protocol.specs.declared.words.Task.{Task}
use Rattle.protocol.specs.Machine.{arrived, stand}
use Rattle.roster.specs.declared.turns.Turn.{Turn}
use Rattle.roster.specs.declared.turns.Turn.TheVariants.{Arrive, Wait, End}

-- who rests may arrive, and who is ready may be told to wait, or end
abbrev pub allows : Standing → Turn → Bool
allows Resting Arrive = true
allows Resting (Wait h) = false
allows Resting End = false
allows Ready Arrive = false
allows Ready (Wait h) = true
allows Ready End = true
allows (Waiting g) turn = false

abbrev pub turned : Turn → Task → Task
turned Arrive t = arrived
turned (Wait h) t = stand (Waiting h) t
turned End t = stand Resting t
