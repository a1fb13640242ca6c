-- Texts that are added one after another. Assumes nothing.
use Rattle.std.proofs.Common.{◌≡◌, ℕ, ◌+◌, List, [], ◌∷◌, ◌++◌, sym, ap, ◌∙◌, subst, arith}
use Rattle.std.specs.List.{range_with_len, flat_map}
use Rattle.std.proofs.lemmas.List.{append-nil, map-id}
use Rattle.std.proofs.lemmas.List.Concat.{flat_map-append}
use Rattle.std.proofs.lemmas.List.FromFn.{map-range_with_len_more}
use Rattle.pages.specs.Pages.{numbered_lines}

one_more : (n : ℕ) → range_with_len 0 (n + 1) ≡ range_with_len 0 n ++ n ∷ []
one_more n = sym (map-id (range_with_len 0 (n + 1))) ∙ map-range_with_len_more (λ i. i) 0 n n (omega arith) ∙ ap (λ ns. ns ++ n ∷ []) (map-id (range_with_len 0 n))

line_more : (line : ℕ → List ℕ) (n : ℕ) → numbered_lines (n + 1) line ≡ numbered_lines n line ++ line n
line_more line n = ap (flat_map line) (one_more n) ∙ flat_map-append line (range_with_len 0 n) (n ∷ []) ∙ ap (λ text. numbered_lines n line ++ text) (append-nil (line n))

module _ {S : Type 0} {adds : S → List ℕ → S → Type 0} (joins : (a b c : S) (s t : List ℕ) → adds a s b → adds b t c → adds a (s ++ t) c) where
  -- one text, and then another behind it
  pub then : {a b c : S} {s t : List ℕ} → adds a s b → adds b t c → adds a (s ++ t) c
  then {a} {b} {c} {s} {t} one two = joins a b c s t one two

  -- one line more
  pub then_line : (line : ℕ → List ℕ) (n : ℕ) {a b c : S} → adds a (numbered_lines n line) b → adds b (line n) c → adds a (numbered_lines (n + 1) line) c
  then_line line n {a} {b} {c} so_far more = subst (λ text. adds a text c) (sym (line_more line n)) (then so_far more)
