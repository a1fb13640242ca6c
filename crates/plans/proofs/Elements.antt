-- The readers of values, objects, rows and uses accept exactly what is written. Assumes nothing.
use Rattle.std.proofs.Common.{◌≡◌, ℕ, ◌+◌, ◌*◌, ◌/◌, ◌%◌, ◌<◌, ◌≤◌, true, false, not, ltb, List, [], ◌∷◌, ◌++◌, length, get_or, drop, Ok, Decides, sym, refl, ap, ◌∙◌, ap₂, arith, w32, SFits, to_z, of_z}
use borrow.Author.Gap.{read_sfits}
use Rattle.std.specs.List.{ContainsAt}
use Rattle.std.proofs.lemmas.List.{drop_more}
use Rattle.std.proofs.lemmas.Int.{to_z-of_z, of_z-to_z}
use Rattle.std.proofs.lemmas.Bool.{le-ltb, ltb-false, not-true, not-false}
use Rattle.std.proofs.lemmas.Bool.Decides.{nat_tests, Decides-by_or, Decides-not, not_from_Decides}
use Rattle.rules.specs.Meaning.{Meaning}
use Rattle.plans.specs.Contents.{Contents}
use Rattle.plans.specs.Limits.{ObjectLimits, RowLimits, UseLimits}
use Rattle.plans.specs.Reading.{read_value, value_in, read_object, read_row, row_in, is_bad, last_row, read_use, use_in, is_there, same_use, stands_in, read_some, and_then}
use Rattle.plans.specs.Written.{two_bytes, four_bytes, object_bytes, row_bytes, use_bytes}
use Rattle.plans.specs.declared.parts.Row.{Row}
use Rattle.plans.specs.declared.parts.Use.{Use}
use Rattle.plans.specs.declared.refusal.Refusal.TheVariants.{PlanEnds, BadRow, PeriodFalls, UseNotThere, UseAgain}
use Rattle.plans.proofs.Chains.{Exact, passed, same_read, by_steps, and_then_assoc, free_chain, whole_sound, some_complete}

-- what is read where no check fails
value_read : (bytes : List ℕ) → 4 ≤ length bytes → read_value bytes ≡ Ok (value_in bytes, drop 4 bytes)
value_read bytes long = rw (le-ltb (length bytes) 4 long)

row_read : (before : List Row) (bytes : List ℕ) (row : Row) → 4 ≤ length bytes → row ≡ row_in bytes → is_bad row ≡ false → (last_row before).period ≤ row.period → read_row before bytes ≡ Ok (row, drop 4 bytes)
row_read before bytes row long e good rises = rw (e, le-ltb (length bytes) 4 long, rw e at good, le-ltb _ _ (rw e at rises))

use_read : (tasks objects modes : ℕ) (before : List Use) (bytes : List ℕ) → 3 ≤ length bytes → is_there tasks objects modes (use_in bytes) ≡ true → stands_in (use_in bytes) before ≡ false → read_use tasks objects modes before bytes ≡ Ok (use_in bytes, drop 3 bytes)
use_read tasks objects modes before bytes long there once = rw (le-ltb (length bytes) 3 long, there, once)

-- the first numbers of a list that is long enough
pub front_two : (bytes : List ℕ) → 2 ≤ length bytes → bytes ≡ get_or bytes 0 0 ∷ (get_or bytes 1 0 ∷ drop 2 bytes)
front_two bytes long = cc (drop_more bytes 0 0 (omega arith), drop_more bytes 1 0 (omega arith))

front_three : (bytes : List ℕ) → 3 ≤ length bytes → bytes ≡ get_or bytes 0 0 ∷ (get_or bytes 1 0 ∷ (get_or bytes 2 0 ∷ drop 3 bytes))
front_three bytes long = cc (front_two bytes (omega arith), drop_more bytes 2 0 (omega arith))

front_four : (bytes : List ℕ) → 4 ≤ length bytes → bytes ≡ get_or bytes 0 0 ∷ (get_or bytes 1 0 ∷ (get_or bytes 2 0 ∷ (get_or bytes 3 0 ∷ drop 4 bytes)))
front_four bytes long = cc (front_three bytes (omega arith), drop_more bytes 3 0 (omega arith))

-- four bytes, and the number in them written out
four_back : (a b c d : ℕ) → a < 256 → b < 256 → c < 256 → d < 256 → four_bytes (to_z w32 (a * 16777216 + b * 65536 + c * 256 + d)) ≡ a ∷ (b ∷ (c ∷ (d ∷ [])))
four_back a b c d ha hb hc hd =
    let n = a * 16777216 + b * 65536 + c * 256 + d in
    let e₀ : n / 16777216 ≡ a = omega arith in
    let e₁ : n / 65536 % 256 ≡ b = omega arith in
    let e₂ : n / 256 % 256 ≡ c = omega arith in
    let e₃ : n % 256 ≡ d = omega arith in
    rw (of_z-to_z w32 n (omega arith), e₀, e₁, e₂, e₃)

-- a number written out in four bytes, and read back
four_forth : (n : ℕ) → n / 16777216 * 16777216 + n / 65536 % 256 * 65536 + n / 256 % 256 * 256 + n % 256 ≡ n
four_forth n = omega arith

value_exact : Exact (λ _. read_value) four_bytes (SFits w32) (λ _ _. Unit {0})
value_exact = record {
  sound = λ before bytes z rest are e.
      let p = passed (ltb (length bytes) 4) PlanEnds (Ok (value_in bytes, drop 4 bytes)) (z, rest) e in
      let s = same_read (value_in bytes) z (drop 4 bytes) rest p.1 in
      rw (← s.0, ← s.1) (front_four bytes (ltb-false (length bytes) 4 p.0) ∙ ap (λ front. front ++ drop 4 bytes) (sym (four_back (get_or bytes 0 0) (get_or bytes 1 0) (get_or bytes 2 0) (get_or bytes 3 0) (are 0) (are 1) (are 2) (are 3))), read_sfits w32 _, tt);
  complete = λ before z rest fits u. value_read (four_bytes z ++ rest) (omega arith) ∙ ap (λ v. Ok (v, rest)) (ap (to_z w32) (four_forth (of_z w32 z)) ∙ to_z-of_z w32 z fits);
}

-- an object is four values, read one after the other
object_as_some : (bytes : List ℕ) → read_object bytes ≡ and_then (read_some (λ _. read_value) 4 [] bytes) (λ values rest. Ok (record { start = values }, rest))
object_as_some bytes = simp and_then_assoc

pub object_exact : Exact (λ _. read_object) object_bytes ObjectLimits (λ _ _. Unit {0})
object_exact = record {
  sound = λ before bytes o rest are e.
      by_steps (read_some (λ _. read_value) 4 [] bytes) (λ values left. Ok (record { start = values }, left)) (o, rest) (rw object_as_some at e) (λ values left e₁ e₂.
      let s = same_read (record { start = values }) o left rest e₂ in
      let t = whole_sound (λ _. read_value) four_bytes (SFits w32) (λ _ _. Unit {0}) value_exact 4 bytes values left are e₁ in
      rw (← s.0, ← s.1) (t.1, record { four = t.0; signed = t.2 }, tt));
  complete = λ before o rest keep u.
      object_as_some (object_bytes o ++ rest) ∙ ap (λ r. and_then r (λ values left. Ok (record { start = values }, left)))
      (rw keep.four at (some_complete (λ _. read_value) four_bytes (SFits w32) (λ _ _. Unit {0}) value_exact [] o.start rest keep.signed (free_chain [] o.start)));
}

-- the same of two bytes
pub two_back : (a b : ℕ) → b < 256 → two_bytes (a * 256 + b) ≡ a ∷ (b ∷ [])
two_back a b hb =
    let e₀ : (a * 256 + b) / 256 ≡ a = omega arith in
    let e₁ : (a * 256 + b) % 256 ≡ b = omega arith in
    rw (e₀, e₁)

pub two_forth : (n : ℕ) → n / 256 * 256 + n % 256 ≡ n
two_forth n = omega arith

-- what the test on a row leaves, and what it needs
good_row : (row : Row) → is_bad row ≡ false → (1 ≤ row.budget) × (row.budget ≤ row.period)
good_row row good = grind (arith, nat_tests)

is_good : (row : Row) → RowLimits row → is_bad row ≡ false
is_good row keep = grind (arith, nat_tests)

pub row_exact : Exact read_row row_bytes RowLimits (λ before row. (last_row before).period ≤ row.period)
row_exact = record {
  sound = λ before bytes row rest are e.
      let long = passed (ltb (length bytes) 4) PlanEnds _ (row, rest) e in
      let good = passed (is_bad (row_in bytes)) BadRow _ (row, rest) long.1 in
      let rises = passed (ltb (row_in bytes).period (last_row before).period) PeriodFalls (Ok (row_in bytes, drop 4 bytes)) (row, rest) good.1 in
      let s = same_read (row_in bytes) row (drop 4 bytes) rest rises.1 in
      let g = good_row (row_in bytes) good.0 in
      rw (← s.0, ← s.1) (
        front_four bytes (ltb-false (length bytes) 4 long.0) ∙ ap₂ (λ front back. front ++ (back ++ drop 4 bytes)) (sym (two_back (get_or bytes 0 0) (get_or bytes 1 0) (are 1))) (sym (two_back (get_or bytes 2 0) (get_or bytes 3 0) (are 3))),
        record { some = g.0; within = g.1; short = omega (arith, are 0, are 1) },
        ltb-false (row_in bytes).period (last_row before).period rises.0,
      );
  complete = λ before row rest keep rises.
      let same : row_in (row_bytes row ++ rest) ≡ row = λ i. record { period = two_forth row.period i; budget = two_forth row.budget i } in
      row_read before (row_bytes row ++ rest) row (omega arith) (sym same) (is_good row keep) rises;
}

-- the test is whether the use keeps its limits
there_tells : (m : Meaning) (plan : Contents) (u : Use) → Decides (is_there (length plan.rows) (length plan.objects) m.modes u) (UseLimits m plan u)
there_tells m plan u = ((λ e. grind (arith, nat_tests)), (λ keep. grind (arith, nat_tests)))

same_use_tells : (u v : Use) → Decides (same_use u v) (u ≡ v)
same_use_tells u v = ((λ e. let h : (u.task ≡ v.task) × (u.object ≡ v.object) × (u.mode ≡ v.mode) = grind (arith, nat_tests) in λ i. record { task = h.0 i; object = h.1 i; mode = h.2 i }), (λ e. let h = ap (λ w. w.task) e in let k = ap (λ w. w.object) e in let l = ap (λ w. w.mode) e in grind (arith, nat_tests)))

-- the test is whether the list has the use
stands_tells : (u : Use) (uses : List Use) → Decides (stands_in u uses) (ContainsAt uses u)
stands_tells u uses = Decides-by_or (λ v. same_use v u) (λ v. v ≡ u) (stands_in u) (λ v. same_use_tells v u) refl (λ _ _. refl) uses

pub use_exact : (m : Meaning) (plan : Contents) → Exact (read_use (length plan.rows) (length plan.objects) m.modes) use_bytes (UseLimits m plan) (λ before u. ContainsAt before u → ⊥)
use_exact m plan = record {
  sound = λ before bytes u rest are e.
      let long = passed (ltb (length bytes) 3) PlanEnds _ (u, rest) e in
      let there = passed (not (is_there (length plan.rows) (length plan.objects) m.modes (use_in bytes))) UseNotThere _ (u, rest) long.1 in
      let once = passed (stands_in (use_in bytes) before) UseAgain (Ok (use_in bytes, drop 3 bytes)) (u, rest) there.1 in
      let s = same_read (use_in bytes) u (drop 3 bytes) rest once.1 in
      rw (← s.0, ← s.1) (
        front_three bytes (ltb-false (length bytes) 3 long.0),
        (there_tells m plan (use_in bytes)).0 (not-false _ there.0),
        not_from_Decides _ (stands_tells (use_in bytes) before) once.0,
      );
  complete = λ before u rest keep once.
      use_read (length plan.rows) (length plan.objects) m.modes before (use_bytes u ++ rest) (omega arith) ((there_tells m plan u).1 keep) (not-true _ ((Decides-not _ (stands_tells u before)).1 once));
}
