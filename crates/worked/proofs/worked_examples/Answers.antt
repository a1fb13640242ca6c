-- Every line is computed.
use Rattle.std.proofs.Common.{refl}
use Rattle.std.specs.Fmt.{digits}
use Rattle.worked.proofs.worked_examples.Goals as goal

pub returns : goal.returns
unfolding digits
returns c = record {
  heading_read = refl;
  heading_written = refl;
  alone_read = refl;
  heading_read_ceiling = refl;
  heading_write_ceiling = refl;
  log_read_ceiling = refl;
  log_write_ceiling = refl;
  steering_bound = refl;
  fusing_bound = refl;
  logging_bound = refl;
  heading_alone_ceiling = refl;
  log_alone_ceiling = refl;
  steering_alone_bound = refl;
  fusing_alone_bound = refl;
  logging_alone_bound = refl;
  budget_fills = refl;
  budget_passes = refl;
  periods_equal = refl;
  period_falls = refl;
  objects_too_many = refl;
  fusing_waits = refl;
  served_after_wait = refl;
  course_at_first = refl;
  course_written = refl;
  course_dropped = refl;
  third_tick = refl;
  bound_reached = refl;
  tape_played = refl;
  heading_reported = refl;
  nothing_reported = refl;
}
