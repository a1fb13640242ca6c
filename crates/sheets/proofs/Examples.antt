-- What some sheet lines look like, computed. Assumes nothing.
use Rattle.std.proofs.Common.{refl}
use Rattle.std.specs.Fmt.{digits}
use Rattle.sheets.specs.Sheets.{SheetExamples}

pub sheet_examples : SheetExamples
unfolding digits
sheet_examples = record {
  opens = refl;
  waits = refl;
  reads = refl;
  reads_below_zero = refl;
  closes = refl;
  closes_undisturbed = refl;
  refuses = refl;
  longest = refl;
}
