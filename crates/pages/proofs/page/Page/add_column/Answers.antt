-- The number, then the blanks.
use Rattle.std.proofs.Common.{min, decimal, rules}
use Rattle.pages.specs.Pages.{Added, padded}
use Rattle.pages.proofs.Adding.{adds_then}
use Rattle.pages.proofs.page.Page.add_column.Goals as goal

pub returns : goal.returns
returns c =
    let number : Added c.args.self.now (padded (min c.args.width 11) (decimal c.args.number)) c.add_padded.new.self = search rules in
    adds_then number c.add.ensures
