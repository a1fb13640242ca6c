-- That the laws speak of something: an accepted making, a wait, a bound that is reached, closed instances that read and write, in the laws' own words. Assumes nothing.
use Rattle.std.specs.Prelude.{◌≡◌, List, [], ◌∷◌, take, drop, replicate, pos}
use Rattle.rules.specs.Meaning.{read_write}
use Rattle.plans.specs.Ceilings.{bound}
use Rattle.protocol.specs.Laws.{Instance}
use Rattle.protocol.specs.Lines.{Event, Started, Line, count, told_to_wait, lower_ticks, serial}
use Rattle.protocol.specs.Lines.Deed.{got, put}
use Rattle.protocol.specs.declared.words.Call.{Call}
use Rattle.protocol.specs.declared.words.Call.TheVariants.{Arrive, Lock, Read, Write, Close, Tick}
use Rattle.manager.specs.Runs.{final, line_with}
use Rattle.worked.specs.Heading.{heading, heading_setup, heading_start}

-- the line that these calls make of a fresh manager, the newest in front
abbrev pub line_of : List Call → List Event
line_of calls = line_with heading_setup heading_start calls []

-- steering is told to wait for fusing, which runs its whole budget meanwhile
abbrev pub delayed : List Call
delayed = Arrive 1 ∷ Lock 1 0 1 ∷ Arrive 0 ∷ Lock 0 0 0 ∷ Tick ∷ Tick ∷ Tick ∷ Tick ∷ Close 1 ∷ Lock 0 0 0 ∷ Close 0 ∷ []

-- what steering sees of it, from its arrival, which is the third call, to its close
abbrev pub seen : List Event
seen = take 7 (drop 1 (line_of delayed))

-- fusing writes the heading and closes, then steering reads it and closes
abbrev pub handed_on : List Call
handed_on = Arrive 1 ∷ Lock 1 0 1 ∷ Write 1 0 1 (pos 912) ∷ Close 1 ∷ Arrive 0 ∷ Lock 0 0 0 ∷ Read 0 0 1 ∷ Close 0 ∷ []

pub record NotEmpty : Type 0 where
  -- the worked making is accepted
  pub started : Started heading_setup (replicate 128 (pos 0)) heading_start
  -- and any calls make a line from it
  pub any_calls : (calls : List Call) → Line heading_setup heading_start (line_of calls) (final heading_setup heading_start calls)
  -- the delayed line has an instance of steering
  pub instance : Instance (line_of delayed) 0 seen
  -- in which it is told to wait, once
  pub one_wait : count (told_to_wait 0) seen ≡ 1
  -- and lower tasks run just as many ticks as its bound
  pub bound_reached : count (lower_ticks 0) seen ≡ bound read_write heading 0
  -- run whole, in the order of closing, there is a write and a read of what it wrote
  pub read_and_written : serial (line_of handed_on) ≡ put 1 (pos 912) ∷ got 1 (pos 912) ∷ []
