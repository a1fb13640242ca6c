-- What is on a page, and what it means to add to it. Assumes nothing.
use Rattle.std.specs.Prelude.{◌≡◌, ℕ, ◌-◌, List, ◌++◌, length, take, replicate, codes, decimal}
use Rattle.std.specs.List.{range_with_len, flat_map}
use Rattle.pages.specs.declared.page.Page.{Page}

abbrev pub text_of : Page → List ℕ
text_of page = page.bytes.items

-- the text stands behind what was on the page; what is past the page's end is left out
pub record Added (before : Page) (text : List ℕ) (after : Page) : Type 0 where
  pub says : text_of after ≡ take 8192 (text_of before ++ text)

-- a text, and blanks behind it up to the width of its column
abbrev pub padded : ℕ → List ℕ → List ℕ
padded width text = text ++ replicate (width - length text) 32

-- a number in its column, which is as wide as the word above it, and the two blanks before the next
abbrev pub column : ℕ → ℕ → List ℕ
column width n = padded width (decimal n) ++ codes "  "

-- the lines of 0, 1 and so on, n of them
abbrev pub numbered_lines : ℕ → (ℕ → List ℕ) → List ℕ
numbered_lines n line = flat_map line (range_with_len 0 n)
