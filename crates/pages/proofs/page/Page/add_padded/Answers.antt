-- The cells hold the number, and blanks behind it.
use Rattle.std.proofs.Common.{replicate, subst, w32, arith}
use Rattle.std.specs.Fmt.{signed_decimal}
use Rattle.std.proofs.lemmas.Int.{to_z-of_z}
use Rattle.sheets.specs.Sheets.{Put}
use Rattle.pages.specs.Pages.{Added}
use Rattle.pages.proofs.Adding.{blanks_behind}
use Rattle.pages.proofs.page.Page.add_padded.Goals as goal

pub returns-in-Ok : goal.returns-in-Ok
returns-in-Ok c =
    let put : Put (replicate 11 32) 0 (signed_decimal c.args.number) c.write_number.new.sheet c.in-Ok.end = rw (to_z-of_z w32 c.args.number c.ranges.number) at c.in-Ok.ensures.put in
    subst (λ text. Added c.args.self.now text c.add.new.self) (blanks_behind _ _ _ c.args.width put c.write_number.auto.sheet (omega arith)) c.add.ensures
