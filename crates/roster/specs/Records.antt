-- The records that a roster keeps. Assumes nothing.
use Rattle.std.specs.Prelude.{List}
use Rattle.protocol.specs.declared.words.Task.{Task}
use Rattle.roster.specs.declared.roster.Roster.{Roster}

-- one for each task, the task with number 0 first
abbrev pub tasks_of : Roster → List Task
tasks_of roster = roster.tasks
