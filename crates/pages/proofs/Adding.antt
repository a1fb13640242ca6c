-- Adding one text after another. Assumes nothing.
use Rattle.std.proofs.Common.{◌≡◌, ℕ, zero, suc, ◌+◌, ◌-◌, ◌≤◌, min, max, List, [], ◌∷◌, ◌++◌, length, take, drop, replicate, sym, refl, ap, ◌∙◌, Some, Result, Ok, arith}
use Rattle.std.specs.Io.KnownBytes.{WriteAppends}
use lib.Seq.{take-append-add}
use Rattle.std.proofs.lemmas.List.{append_assoc, append-nil, length-append, take_all, take_min, drop-replicate, take-replicate}
use Rattle.sheets.specs.Sheets.{Put}
use Rattle.pages.specs.Pages.{text_of, Added, padded}
use Rattle.pages.specs.declared.page.Page.{Page}

-- cutting early leaves out nothing that is not cut later
cut_early : (n : ℕ) (x b : List ℕ) → take n (take n x ++ b) ≡ take n (x ++ b)
cut_early zero x b = refl
cut_early (suc n) [] b = refl
cut_early (suc n) (y ∷ ys) b = ap (λ l. y ∷ l) (cut_early n ys b)

-- one text, and then another behind it
pub adds_then : {p q r : Page} {a b : List ℕ} → Added p a q → Added q b r → Added p (a ++ b) r
adds_then {p} {q} {r} {a} {b} one two =
    record { says = two.says ∙ ap (λ t. take 8192 (t ++ b)) one.says ∙ cut_early 8192 (text_of p ++ a) b ∙ ap (take 8192) (append_assoc (text_of p) a b) }

pub adds_none : (p : Page) → Added p [] p
adds_none p =
    record { says = sym (ap (take 8192) (append-nil (text_of p)) ∙ take_all 8192 (text_of p) p.fits) }

-- a text that was written over eleven blanks, with the blanks up to a width
pub blanks_behind : (text cells : List ℕ) (end width : ℕ) {n : ℕ} → Put (replicate 11 32) 0 text cells end → length cells ≡ 11 → n ≡ max end (min width 11) → take n cells ≡ padded (min width 11) text
blanks_behind text cells end width {n} put kept most =
    let short : length text ≤ 11 = omega (arith, kept, ap length put.bytes, length-append text (drop (0 + length text) (replicate 11 32))) in
    let blanks = min width 11 - length text in
    let split : n ≡ length text + blanks = omega (arith, most, put.behind) in
    let fits : blanks ≤ 11 - (0 + length text) = omega arith in
    rw (put.bytes, split, drop-replicate, take-append-add, take-replicate)

-- a writer that took as much of the text as there was room for wrote it behind what it held
pub written_behind : {E : Type 0} (old text : List ℕ) {new : List ℕ} {answer : Result ℕ E} → length old ≤ 8192 → answer ≡ Ok (min (8192 - length old) (length text)) → WriteAppends (Some old) (Some new) answer text → new ≡ take 8192 (old ++ text)
written_behind old text fits count bytes =
    let room = 8192 - length old in
    let whole : length old + room ≡ 8192 = omega (arith, fits) in
    (rw count at bytes) ∙ ap (λ l. old ++ l) (take_min room text) ∙ sym (take-append-add old text room) ∙ ap (λ n. take n (old ++ text)) whole
