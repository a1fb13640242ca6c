-- The number stands to the left in its column.
use Rattle.std.proofs.Common.{rules}
use Rattle.report_pages.proofs.Columns.{left_of_column}
use Rattle.report_pages.proofs.sink.FormatterSink.add_column.Goals as goal

pub returns : goal.returns
returns g c = let wrote = rw (c.laid_out.ensures, left_of_column) at c.write.ensures.writes in search rules
