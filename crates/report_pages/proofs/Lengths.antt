-- No report is longer than a page. Assumes nothing.
use Rattle.std.proofs.Common.{◌≡◌, ℕ, zero, suc, ◌+◌, ◌-◌, ◌*◌, ◌^◌, ◌<◌, ◌≤◌, eqb, List, ◌∷◌, ◌++◌, length, get_or, drop, replicate, pos, Some, None, Ok, Err, codes, decimal, Option, Result, refl, suc-mul, arith, lit≤, w32, SFits}
use Rattle.std.specs.List.{range_with_len, flat_map, ContainsAt}
use Rattle.std.specs.Fmt.{signed_decimal}
use Rattle.std.proofs.lemmas.Fmt.{length-decimal-le}
use Rattle.std.proofs.ByRecursion.{All-get_or, all-has}
use Rattle.std.proofs.lemmas.List.{get_or-drop, length-append, length-replicate}
use Rattle.std.proofs.lemmas.Bool.{cond_both}
use Rattle.rules.specs.Meaning.{Meaning, exclusive, read_write}
use Rattle.plans.specs.Ceilings.{ceiling, ceiling_reason, bound, bound_reason, CeilingLaw, BoundLaw}
use Rattle.plans.specs.Contents.{Contents, no_row}
use Rattle.plans.specs.Limits.{Limits, ObjectLimits, RowLimits, UseLimits}
use Rattle.plans.specs.Reading.{read_whole}
use Rattle.plans.specs.Refusals.{number_of}
use Rattle.plans.specs.declared.parts.Object.{Object}
use Rattle.plans.specs.declared.parts.Use.{Use}
use Rattle.plans.specs.declared.refusal.Refusal.{Refusal}
use Rattle.plans.specs.declared.refusal.Refusal.TheVariants.{PlanEnds, CountOutOfLimits, BadRow, PeriodFalls, UseNotThere, UseAgain, BytesAfterPlan, FewCells, NumberNotThere, AlreadyOpen, NotRunning, NoSuchUse, AlreadyHeld, LocksFull, NotCovered, JournalFull, BudgetSpent, UnreadableLine, ShortSheet}
use Rattle.plans.proofs.Chains.{Bytes}
use Rattle.plans.proofs.Reasons.{ceiling_le, ceiling_law, bound_law}
use Rattle.sheets.proofs.Lengths.{value_short, few}
use Rattle.report_pages.specs.Reports.{no_object, start_value, values_text, object_line, objects_text, ceiling_because, ceiling_line, ceilings_text, lock_text, bound_because, bound_line, bounds_text, plan_text, refusal_words, refused_text, told, text_under, report_text}
use Rattle.pages.specs.Pages.{padded, column, numbered_lines}
use Rattle.plans.proofs.Written.{accepted_whole}

-- so many lines of at most so many bytes
lines_from : (line : ℕ → List ℕ) (k a n : ℕ) → ((i : ℕ) → i < a + n → length (line i) ≤ k) → length (flat_map line (range_with_len a n)) ≤ n * k
lines_from line k a zero short = omega arith
lines_from line k a (suc n) short =
    omega (arith, suc-mul n k, length-append (line a) (flat_map line (range_with_len (a + 1) n)), short a (omega arith), lines_from line k (a + 1) n (λ i l. short i (omega arith)))

lines_short : (line : ℕ → List ℕ) (k n : ℕ) → ((i : ℕ) → i < n → length (line i) ≤ k) → length (numbered_lines n line) ≤ n * k
lines_short line k n short = lines_from line k 0 n (λ i l. short i (omega arith))

column_size : (width n : ℕ) → length (decimal n) ≤ width → length (column width n) ≡ width + 2
column_size width n short =
    let d = decimal n in
    omega (arith, length-append (padded width d) (codes "  "), length-append d (replicate (width - length d) 32), length-replicate {A = ℕ} (width - length d) 32)

-- a number below 100, and one of 16 bits
two : (n : ℕ) → n < 100 → length (decimal n) ≤ 2
two n small = length-decimal-le 2 n (omega arith) (omega arith) (omega arith)

five : (n : ℕ) → n < 2 ^ 16 → length (decimal n) ≤ 5
five n small = length-decimal-le 5 n (omega arith) (omega arith) (omega arith)

-- ---- objects

module _ (o : Object) (keep : ObjectLimits o) where
  value : (part : ℕ) → part < 4 → length (signed_decimal (start_value o part)) ≤ 11
  value part l = value_short _ (All-get_or (SFits w32) o.start part (pos 0) (omega (arith, keep.four)) keep.signed)

  values_short : length (values_text o) ≤ 47
  values_short =
      let s₀ = signed_decimal (start_value o 0) in
      let s₁ = signed_decimal (start_value o 1) in
      let s₂ = signed_decimal (start_value o 2) in
      let s₃ = signed_decimal (start_value o 3) in
      omega (arith, length-append s₀ (32 ∷ (s₁ ++ (32 ∷ (s₂ ++ (32 ∷ s₃))))), length-append s₁ (32 ∷ (s₂ ++ (32 ∷ s₃))), length-append s₂ (32 ∷ s₃), value 0 (omega arith), value 1 (omega arith), value 2 (omega arith), value 3 (omega arith))

object_short : (objects : List Object) (object : ℕ) → object < 32 → ObjectLimits (get_or objects object no_object) → length (object_line objects object) ≤ 56
object_short objects object there keep =
    let o = get_or objects object no_object in
    omega (arith, length-append (column 6 object) (values_text o ++ codes "\n"), length-append (values_text o) (codes "\n"), column_size 6 object (omega (arith, two object (omega arith))), values_short o keep)

-- ---- ceilings and bounds of a plan that keeps its limits, under at most two modes

module _ (m : Meaning) (plan : Contents) (keep : Limits m plan) (few_modes : m.modes ≤ 2) where
  uses : List Use
  uses = plan.uses

  there : (u : Use) → ContainsAt plan.uses u → UseLimits m plan u
  there u has = all-has (UseLimits m plan) plan.uses u keep.uses_keep has

  want_short : (object mode : ℕ) (reason : Option Use) → CeilingLaw m plan.uses object mode (ceiling m plan.uses object mode) reason → length (ceiling_because reason) ≤ 40
  want_short object mode None law = lit≤ tt
  want_short object mode (Some u) law =
      let at = there u (law.attained u refl).0 in
      let t = decimal u.task in
      let d = decimal u.mode in
      omega (arith, length-append t (codes " may want it in mode " ++ (d ++ codes "\n")), length-append d (codes "\n"), two u.task (omega (arith, at.task_there, keep.few_tasks)), two u.mode (omega (arith, at.mode_there)))

  ceiling_short : (object mode : ℕ) → object < 32 → mode < 2 → length (ceiling_line m plan.uses object mode) ≤ 63
  ceiling_short object mode small-object small-mode =
      let c = ceiling m plan.uses object mode in
      let because = ceiling_because (ceiling_reason m plan.uses object mode) in
      omega (
        arith,
        length-append (column 6 object) (column 4 mode ++ (column 7 c ++ because)),
        length-append (column 4 mode) (column 7 c ++ because),
        length-append (column 7 c) because,
        column_size 6 object (omega (arith, two object (omega arith))),
        column_size 4 mode (omega (arith, two mode (omega arith))),
        column_size 7 c (omega (arith, two c (omega (arith, ceiling_le m object mode plan.uses)))),
        want_short object mode (ceiling_reason m plan.uses object mode) (ceiling_law m object mode plan.uses),
      )

  lock_short : (u : Use) → UseLimits m plan u → length (lock_text m plan.uses u) ≤ 50
  lock_short u at =
      let c = ceiling m plan.uses u.object u.mode in
      let t = decimal u.task in
      let o = decimal u.object in
      let d = decimal u.mode in
      let r₁ = codes ", ceiling " ++ (decimal c ++ codes "\n") in
      let r₂ = codes " in mode " ++ (d ++ r₁) in
      omega (
        arith,
        length-append t (codes " may hold object " ++ (o ++ r₂)),
        length-append o r₂,
        length-append d r₁,
        length-append (decimal c) (codes "\n"),
        two u.task (omega (arith, at.task_there, keep.few_tasks)),
        two u.object (omega (arith, at.object_there, keep.few_objects)),
        two u.mode (omega (arith, at.mode_there)),
        two c (omega (arith, ceiling_le m u.object u.mode plan.uses)),
      )

  row : (task : ℕ) → task < length plan.rows → RowLimits (get_or plan.rows task no_row)
  row task l = All-get_or RowLimits plan.rows task no_row l keep.rows_keep

  hold_short : (task b : ℕ) (reason : Option Use) → BoundLaw m plan task b reason → (b < 2 ^ 16) × (length (bound_because m plan.uses reason) ≤ 50)
  hold_short task b None law = (omega (arith, law.free refl), lit≤ tt)
  hold_short task b (Some u) law =
      let at = there u (law.attained u refl).0 in
      let r = row u.task at.task_there in
      (omega (arith, (law.attained u refl).2, r.within, r.short), lock_short u at)

  bound_short : (task : ℕ) → task < length plan.rows → length (bound_line m plan task) ≤ 79
  bound_short task l =
      let r = row task l in
      let p = (get_or plan.rows task no_row).period in
      let q = (get_or plan.rows task no_row).budget in
      let b = bound m plan task in
      let because = bound_because m plan.uses (bound_reason m plan task) in
      let known = hold_short task b (bound_reason m plan task) (bound_law m plan task) in
      omega (
        arith,
        length-append (column 4 task) (column 6 p ++ (column 6 q ++ (column 5 b ++ because))),
        length-append (column 6 p) (column 6 q ++ (column 5 b ++ because)),
        length-append (column 6 q) (column 5 b ++ because),
        length-append (column 5 b) because,
        column_size 4 task (omega (arith, two task (omega (arith, keep.few_tasks)))),
        column_size 6 p (omega (arith, five p r.short)),
        column_size 6 q (omega (arith, five q (omega (arith, r.within, r.short)))),
        column_size 5 b (five b known.0),
        known.1,
      )

  objects_size : length (objects_text plan.objects) ≤ 1814
  objects_size =
      let objects = plan.objects in
      omega (arith, keep.few_objects, lines_short (object_line objects) 56 (length objects) (λ i l. object_short objects i (omega (arith, keep.few_objects)) (All-get_or ObjectLimits objects i no_object l keep.objects_keep)))

  ceilings_of : (object : ℕ) → object < 32 → length (numbered_lines m.modes (ceiling_line m plan.uses object)) ≤ 126
  ceilings_of object small = omega (arith, few_modes, lines_short (ceiling_line m plan.uses object) 63 m.modes (λ i l. ceiling_short object i small (omega (arith, few_modes))))

  ceilings_size : length (ceilings_text m plan) ≤ 4064
  ceilings_size =
      omega (arith, keep.few_objects, lines_short (λ object. numbered_lines m.modes (ceiling_line m plan.uses object)) 126 (length plan.objects) (λ i l. ceilings_of i (omega (arith, keep.few_objects))))

  bounds_size : length (bounds_text m plan) ≤ 1302
  bounds_size = omega (arith, keep.few_tasks, lines_short (bound_line m plan) 79 (length plan.rows) bound_short)

  plan_short : (name : List ℕ) → length name ≤ 10 → length (plan_text m name plan) ≤ 8192
  plan_short name short =
      let a = objects_text plan.objects in
      let b = ceilings_text m plan in
      let d = bounds_text m plan in
      omega (arith, short, length-append name (codes "\n" ++ (a ++ (b ++ d))), length-append a (b ++ d), length-append b d, objects_size, ceilings_size, bounds_size)

-- ---- refusals

words_short : (why : Refusal) → length (refusal_words why) ≤ 58
words_short PlanEnds = lit≤ tt
words_short CountOutOfLimits = lit≤ tt
words_short BadRow = lit≤ tt
words_short PeriodFalls = lit≤ tt
words_short UseNotThere = lit≤ tt
words_short UseAgain = lit≤ tt
words_short BytesAfterPlan = lit≤ tt
words_short FewCells = lit≤ tt
words_short NumberNotThere = lit≤ tt
words_short AlreadyOpen = lit≤ tt
words_short NotRunning = lit≤ tt
words_short NoSuchUse = lit≤ tt
words_short AlreadyHeld = lit≤ tt
words_short LocksFull = lit≤ tt
words_short NotCovered = lit≤ tt
words_short JournalFull = lit≤ tt
words_short BudgetSpent = lit≤ tt
words_short UnreadableLine = lit≤ tt
words_short ShortSheet = lit≤ tt

refused_short : (why : Refusal) → length (refused_text why) ≤ 8192
refused_short why =
    let n = decimal (number_of why) in
    let words = refusal_words why in
    omega (arith, length-append n (codes ": " ++ (words ++ codes "\n")), length-append words (codes "\n"), words_short why, two (number_of why) (omega (arith, few why)))

-- ---- all inputs

told_short : (m : Meaning) (name : List ℕ) → m.modes ≤ 2 → length name ≤ 10 → (r : Result Contents Refusal) → ((plan : Contents) → r ≡ Ok plan → Limits m plan) → length (told m name r) ≤ 8192
told_short m name few_modes short (Ok plan) keeps = plan_short m plan (keeps plan refl) few_modes name short
told_short m name few_modes short (Err why) keeps = refused_short why

under_short : (number : ℕ) (bytes : List ℕ) → Bytes bytes → length (text_under number bytes) ≤ 8192
under_short number bytes are =
    cond_both (eqb number 1) _ _ (λ text. length text ≤ 8192)
    (λ _. told_short exclusive (codes "exclusive") (omega arith) (lit≤ tt) (read_whole exclusive bytes) (λ plan is. ((accepted_whole exclusive bytes are plan).0 is).1))
    (λ _. cond_both (eqb number 2) _ _ (λ text. length text ≤ 8192)
    (λ _. told_short read_write (codes "read/write") (omega arith) (lit≤ tt) (read_whole read_write bytes) (λ plan is. ((accepted_whole read_write bytes are plan).0 is).1))
    (λ _. refused_short NumberNotThere))

pub report_fits : (input : List ℕ) → Bytes input → length (report_text input) ≤ 8192
report_fits input are =
    cond_both (eqb (length input) 0) _ _ (λ text. length text ≤ 8192) (λ _. refused_short NumberNotThere)
    (λ _. under_short (get_or input 0 0) (drop 1 input) (λ i. rw (get_or-drop 1 input i 0) (are (1 + i))))
