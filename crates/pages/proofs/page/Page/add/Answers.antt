-- As much as there is room for was written behind what was there.
-- By `take_all` a page that was cut to its own length is whole, so that must-fail/written_over_the_page is refused for the half that it cuts off.
use Rattle.std.proofs.Common.{rules}
use Rattle.std.proofs.lemmas.List.{take_all}
use Rattle.pages.proofs.Adding.{written_behind}
use Rattle.pages.proofs.page.Page.add.Goals as goal

pub returns : goal.returns
returns c = record { says = search (rules, written_behind, take_all) }
