-- The report on a refused input is the line that says so. Assumes nothing.
use Rattle.std.proofs.Common.{◌≡◌, ℕ, Bool, true, false, cond, eqb, List, length, get_or, drop, Ok, Err, Result, IfErr, codes, refl}
use Rattle.rules.specs.Meaning.{Meaning, exclusive, read_write}
use Rattle.plans.specs.Contents.{Contents}
use Rattle.plans.specs.Reading.{read_whole}
use Rattle.plans.specs.declared.refusal.Refusal.{Refusal}
use Rattle.plans.specs.declared.refusal.Refusal.TheVariants.{NumberNotThere}
use Rattle.report_pages.specs.Reports.{refusal_words, refused_text, told, text_under, report_text}
use Rattle.reports.specs.Lines.{RefusalLine, ToldUnder, Told}

line_of : (why : Refusal) → RefusalLine why (refused_text why)
line_of why = (refusal_words why, refl)

line_read : (m : Meaning) (name : List ℕ) (read : Result Contents Refusal) → IfErr read (λ why. RefusalLine why (told m name read))
line_read m name (Ok plan) = tt
line_read m name (Err why) = line_of why

module _ (bytes : List ℕ) where
  abbrev by_rule : Bool → Bool → List ℕ
  by_rule one two =
      cond one (told exclusive (codes "exclusive") (read_whole exclusive bytes)) (cond two (told read_write (codes "read/write") (read_whole read_write bytes)) (refused_text NumberNotThere))

  line_under : (one two : Bool)
      → cond one (IfErr (read_whole exclusive bytes) (λ why. RefusalLine why (by_rule one two)))
      (cond two (IfErr (read_whole read_write bytes) (λ why. RefusalLine why (by_rule one two))) (RefusalLine NumberNotThere (by_rule one two)))
  line_under true two = line_read exclusive (codes "exclusive") (read_whole exclusive bytes)
  line_under false true = line_read read_write (codes "read/write") (read_whole read_write bytes)
  line_under false false = line_of NumberNotThere

line_there : (none : Bool) (number : ℕ) (bytes : List ℕ) → cond none (RefusalLine NumberNotThere (cond none (refused_text NumberNotThere) (text_under number bytes))) (ToldUnder number bytes (cond none (refused_text NumberNotThere) (text_under number bytes)))
line_there true number bytes = line_of NumberNotThere
line_there false number bytes = line_under bytes (eqb number 1) (eqb number 2)

pub refused_in_line : (input text : List ℕ) → text ≡ report_text input → Told input text
refused_in_line input text is = rw is (line_there (eqb (length input) 0) (get_or input 0 0) (drop 1 input))
