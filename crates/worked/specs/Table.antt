-- The worked examples, as one table of facts about the definitions that the code is held to. Assumes nothing.
use Rattle.std.specs.Prelude.{◌≡◌, ℕ, [], ◌∷◌, ◌++◌, pos, Some, None, Ok, Err, codes, slice_index_or}
use Rattle.rules.specs.Meaning.{exclusive}
use Rattle.rules.specs.Meaning.{read_write}
use Rattle.plans.specs.Ceilings.{ceiling, bound}
use Rattle.plans.specs.Reading.{read_whole, read_rows}
use Rattle.plans.specs.Written.{plan_bytes}
use Rattle.plans.specs.declared.parts.Row.{Row}
use Rattle.plans.specs.declared.refusal.Refusal.TheVariants.{CountOutOfLimits, BadRow, PeriodFalls}
use Rattle.plans.specs.declared.refusal.Refusal.TheVariants.{BudgetSpent}
use Rattle.protocol.specs.Tasks.{served, standing_at}
use Rattle.protocol.specs.declared.words.Standing.TheVariants.{Waiting}
use Rattle.protocol.specs.declared.words.Answer.TheVariants.{Open, Granted, Wait, Closed, Ran, Refused}
use Rattle.protocol.specs.declared.words.Call.TheVariants.{Arrive, Lock, Write, Close, Drop, Tick}
use Rattle.manager.specs.Runs.{final, answers_to}
use Rattle.player.specs.Playing.{play_input}
use Rattle.report_pages.specs.Reports.{report_text}
use Rattle.worked.specs.Heading.{heading_bytes, heading, heading_alone, heading_setup, heading_start, up_to_the_wait, heading_tape, heading_sheet, heading_report}

abbrev row : ℕ → ℕ → Row
row period budget = record { period = period; budget = budget }

pub record WorkedExamples : Type 0 where
  -- the plan's bytes are read as the plan, and are the plan written out
  pub heading_read : read_whole read_write heading_bytes ≡ Ok heading
  pub heading_written : plan_bytes heading ≡ heading_bytes
  pub alone_read : read_whole exclusive (plan_bytes heading_alone) ≡ Ok heading_alone
  -- its ceilings under read/write, the reader's and then the writer's
  pub heading_read_ceiling : ceiling read_write heading.uses 0 0 ≡ 1
  pub heading_write_ceiling : ceiling read_write heading.uses 0 1 ≡ 0
  pub log_read_ceiling : ceiling read_write heading.uses 1 0 ≡ 2
  pub log_write_ceiling : ceiling read_write heading.uses 1 1 ≡ 1
  -- its bounds
  pub steering_bound : bound read_write heading 0 ≡ 4
  pub fusing_bound : bound read_write heading 1 ≡ 6
  pub logging_bound : bound read_write heading 2 ≡ 0
  -- with every use in mode 0 under the exclusive rule
  pub heading_alone_ceiling : ceiling exclusive heading_alone.uses 0 0 ≡ 0
  pub log_alone_ceiling : ceiling exclusive heading_alone.uses 1 0 ≡ 1
  pub steering_alone_bound : bound exclusive heading_alone 0 ≡ 6
  pub fusing_alone_bound : bound exclusive heading_alone 1 ≡ 6
  pub logging_alone_bound : bound exclusive heading_alone 2 ≡ 0
  -- a budget may fill its period, and not pass it
  pub budget_fills : read_rows (1 ∷ 0 ∷ 10 ∷ 0 ∷ 10 ∷ []) ≡ Ok (row 10 10 ∷ [], [])
  pub budget_passes : read_rows (1 ∷ 0 ∷ 10 ∷ 0 ∷ 11 ∷ []) ≡ Err BadRow
  -- a period may equal the one before, and not fall below it
  pub periods_equal : read_rows (2 ∷ 0 ∷ 20 ∷ 0 ∷ 1 ∷ 0 ∷ 20 ∷ 0 ∷ 1 ∷ []) ≡ Ok (row 20 1 ∷ row 20 1 ∷ [], [])
  pub period_falls : read_rows (2 ∷ 0 ∷ 20 ∷ 0 ∷ 1 ∷ 0 ∷ 19 ∷ 0 ∷ 1 ∷ []) ≡ Err PeriodFalls
  -- there are at most 32 objects
  pub objects_too_many : read_whole read_write (33 ∷ []) ≡ Err CountOutOfLimits
  -- after the wait in the worked tape fusing waits for logging, which has its place: the served word is 2
  pub fusing_waits : standing_at (final heading_setup heading_start up_to_the_wait).tasks 1 ≡ Waiting 2
  pub served_after_wait : served (final heading_setup heading_start up_to_the_wait).tasks ≡ 2
  -- part 1 of the heading holds 905; writes of 7 and 9, and then a drop, give 905 again
  pub course_at_first : slice_index_or heading_start.cells 1 (pos 0) ≡ pos 905
  pub course_written : slice_index_or (final heading_setup heading_start (Arrive 1 ∷ Lock 1 0 1 ∷ Write 1 0 1 (pos 7) ∷ Write 1 0 1 (pos 9) ∷ [])).cells 1 (pos 0) ≡ pos 9
  pub course_dropped : slice_index_or (final heading_setup heading_start (Arrive 1 ∷ Lock 1 0 1 ∷ Write 1 0 1 (pos 7) ∷ Write 1 0 1 (pos 9) ∷ Drop 1 ∷ [])).cells 1 (pos 0) ≡ pos 905
  -- steering's budget is 2: of three ticks after its arrival the third is refused
  pub third_tick : answers_to heading_setup heading_start (Arrive 0 ∷ Tick ∷ Tick ∷ Tick ∷ []) ≡ Open ∷ Ran 0 ∷ Ran 0 ∷ Refused BudgetSpent ∷ []
  -- the bound is reached: steering waits for fusing, which runs its whole budget of 4 ticks meanwhile, and steering's account says so
  pub bound_reached : answers_to heading_setup heading_start (Arrive 1 ∷ Lock 1 0 1 ∷ Arrive 0 ∷ Lock 0 0 0 ∷ Tick ∷ Tick ∷ Tick ∷ Tick ∷ Close 1 ∷ Lock 0 0 0 ∷ Close 0 ∷ []) ≡
      Open ∷ Granted ∷ Open ∷ Wait 1 ∷ Ran 1 ∷ Ran 1 ∷ Ran 1 ∷ Ran 1 ∷ Closed (record { used = 4; lost = 0; lost_to = None }) ∷ Granted ∷ Closed (record { used = 0; lost = 4; lost_to = Some 1 }) ∷ []
  -- the worked tape fills the worked sheet: 14 lines want room for 14 times 32 bytes
  pub tape_played : play_input read_write (heading_bytes ++ heading_tape) 448 ≡ Ok heading_sheet
  -- the report on the plan, after the byte of the read/write rule; and on no byte at all
  pub heading_reported : report_text (2 ∷ heading_bytes) ≡ heading_report
  pub nothing_reported : report_text [] ≡ codes "refused 9: there is no such rule\n"
