-- The laws of a sink hold of a page and of a formatter. Assumes nothing.
use Rattle.std.proofs.Common.{ℕ, List, [], ◌++◌, refl}
use Rattle.std.proofs.lemmas.Grind.{put_two}
use Rattle.std.specs.Fmt.{IsPlainFormatter, HasWritten}
use Rattle.std.specs.declared.fmt.Formatter.{Formatter}
use Rattle.pages.specs.Pages.{Added}
use Rattle.pages.specs.declared.page.Page.{Page}
use Rattle.pages.proofs.Adding.{adds_then, adds_none}

pub page_keeps : (page : Page) → Added page [] page
page_keeps = adds_none

pub page_joins : (a b c : Page) (s t : List ℕ) → Added a s b → Added b t c → Added a (s ++ t) c
page_joins a b c s t one two = adds_then one two

module _ {W : Type 0} (took : W → List ℕ → W → Type 0) where
  pub formatter_keeps : (f : Formatter W) → IsPlainFormatter f → HasWritten took f [] f
  formatter_keeps f plain = record { wrote = record { parts = []; calls = refl; whole = refl }; plain = plain }

  pub formatter_joins : (f g h : Formatter W) (s t : List ℕ) → (IsPlainFormatter f → HasWritten took f s g) → (IsPlainFormatter g → HasWritten took g t h) → IsPlainFormatter f → HasWritten took f (s ++ t) h
  formatter_joins f g h s t one two plain = let first = one plain in put_two took f g h s t (s ++ t) first (two first.plain) refl
