-- The page was empty, and the report is not longer than it.
use Rattle.std.proofs.Common.{◌++◌, take, ap, ◌∙◌}
use Rattle.std.proofs.lemmas.List.{take_all}
use Rattle.report_pages.specs.Reports.{report_text}
use Rattle.report_pages.proofs.Lengths.{report_fits}
use Rattle.report_pages.proofs.reports.page_on.Goals as goal

pub returns : goal.returns
returns c =
    let text = report_text c.args.input.now in
    c.in-Ok.ensures.says ∙ ap (λ page. take 8192 (page ++ text)) c.empty-page.ensures ∙ take_all 8192 text (report_fits c.args.input.now (λ i. (c.type_inv.input i).fits))
