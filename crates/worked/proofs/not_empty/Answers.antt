-- Making is accepted, a line is built call by call, and the rest is computed.
use Rattle.std.proofs.Common.{[], take, drop, refl, arith}
use Rattle.protocol.specs.Lines.Line.{none}
use Rattle.protocol.specs.declared.words.Answer.TheVariants.{Open}
use Rattle.protocol.specs.declared.words.Call.TheVariants.{Arrive}
use Rattle.manager.proofs.LineLaws.{line_more}
use Rattle.worked.specs.Heading.{heading_setup, heading_start}
use Rattle.worked.specs.NotEmpty.{line_of, delayed}
use Rattle.worked.proofs.Accepting.{heading_limits}
use Rattle.worked.proofs.not_empty.Goals as goal

pub returns : goal.returns
returns c = record {
  started = record { limits = heading_limits; enough = omega arith; left = refl };
  any_calls = λ calls. line_more heading_setup heading_start calls heading_start [] none;
  instance = record {
    before = drop 9 (line_of delayed);
    arrival = record { call = Arrive 0; answer = Open };
    after = take 1 (line_of delayed);
    begun = refl;
    splits = refl;
    lasting = (refl, (refl, (refl, (refl, (refl, (refl, (refl, tt)))))));
  };
  one_wait = refl;
  bound_reached = refl;
  read_and_written = refl;
}
