-- What the line says of an instance: where it begins, its delay, and the account that its end answers.
use Rattle.std.proofs.Common.{◌≡◌, ℕ, ◌+◌, ◌≤◌, min, max, Bool, true, false, cond, List, [], ◌∷◌, ◌++◌, length, ℤ, Some, sym, refl, ap, ◌∙◌, inl, inr, arith}
use Rattle.std.proofs.lemmas.List.{get_or_past}
use Rattle.std.proofs.ByRecursion.{All-get_or}
use Rattle.std.proofs.lemmas.Bool.{cond_both, cases_lt}
use Rattle.plans.specs.Contents.{budget_of, no_row}
use Rattle.plans.specs.Limits.{RowLimits}
use Rattle.plans.specs.Ceilings.{bound, bound_over, delays}
use Rattle.plans.specs.declared.parts.Row.{Row}
use Rattle.plans.specs.declared.parts.Use.{Use}
use Rattle.protocol.specs.declared.words.Task.{Task}
use Rattle.protocol.specs.declared.words.Account.{Account}
use Rattle.protocol.specs.Tasks.{task_at, is_open}
use Rattle.protocol.specs.Machine.{Setup, State, step, arrived, account_of}
use Rattle.protocol.specs.Lines.{Event, Started, Line, none, more, count, begins, ends, told_to_wait, ticks, lower_ticks, runner, last_lower}
use Rattle.protocol.specs.Laws.{NoEnd, Instance, Whole, account_in}
use Rattle.protocol.proofs.Outcomes.{member, kind}
use Rattle.protocol.proofs.Reached.{Kept, kept, kept_line}
use Rattle.protocol.proofs.Counts.{counted, used_after, lost_after, lost_to_after, in_budget}
use Rattle.protocol.proofs.Stretches.{cut, newest, begins_is, ends_answers, instance_stretch}
use Rattle.protocol.proofs.Delays.{OneLower, Delay, delay}

-- an instance of task i is seen from what its arrival left to the state `last`, where `during` led
pub record Seen (setup : Setup) (i : ℕ) (during : List Event) (last : State) : Type 0 where
  pub first : State
  pub kept_first : Kept setup first
  pub anew : task_at first.tasks i ≡ arrived
  pub passed : Line setup first during last
  pub lasting : NoEnd i during

-- what the record of task i says of its instance so far; lost stops at 65,535
pub record Tally (i : ℕ) (during : List Event) (t : Task) : Type 0 where
  pub used : t.used ≡ count (ticks i) during
  pub lost : t.lost ≡ min (count (lower_ticks i) during) 65535
  pub lost_to : t.lost_to ≡ last_lower i during

-- one more lost tick, up to 65,535
one_more_lost : (b : Bool) (n m : ℕ) → n ≡ min m 65535 → cond b (min (n + 1) 65535) n ≡ min (cond b 1 0 + m) 65535
one_more_lost true n m e = omega arith
one_more_lost false n m e = omega arith

-- it does, from its arrival on
tally : (setup : Setup) (i : ℕ) (first s : State) (during : List Event) → length setup.plan.rows ≤ 16 → Kept setup first → task_at first.tasks i ≡ arrived → Line setup first during s → NoEnd i during → Tally i during (task_at s.tasks i)
tally setup i first s during few k new none lasting = record {
  used = ap (λ (t : Task). t.used) new;
  lost = ap (λ (t : Task). t.lost) new;
  lost_to = ap (λ (t : Task). t.lost_to) new;
}
tally setup i first s during few k new (more {line = line} {s = t} before c) lasting =
    let e = member setup t c in
    let old = tally setup i first t line few k new before lasting.1 in
    let op = (instance_stretch setup i first t line few k (ap (λ (x : Task). is_open x.standing) new) before lasting.1).1 in
    let here = counted setup t i (rw (kept_line setup first t line few k before).sized few) (kind setup t c) in
    record {
      used = used_after here op ∙ (let u = old.used in omega arith);
      lost = lost_after here op ∙ one_more_lost (lower_ticks i e) (task_at t.tasks i).lost (count (lower_ticks i) line) old.lost;
      lost_to = lost_to_after here op ∙ ap (cond (lower_ticks i e) (runner e.answer)) old.lost_to;
    }

module _ (setup : Setup) (cells : List ℤ) (start : State) (made : Started setup cells start) where
  -- there are at most 16 tasks
  few : length setup.plan.rows ≤ 16
  few = made.limits.few_tasks

  -- of a line that ends with an instance's stretch
  seen : (i : ℕ) (s : State) (during before : List Event) (arrival : Event) → begins i arrival ≡ true → NoEnd i during → Line setup start (during ++ (arrival ∷ before)) s → Seen setup i during s
  seen i s during before arrival begun lasting line_to =
      let (t, older, passed) = cut setup start s (during ++ (arrival ∷ before)) line_to during (arrival ∷ before) refl in
      let n = newest setup start t (arrival ∷ before) older arrival before refl in
      let k = kept setup cells start n.found before made n.before in
      let new : task_at (step setup n.found n.made).left.tasks i ≡ arrived = begins_is setup n.found i (rw k.sized few) (kind setup n.found n.made) (ap (begins i) (sym n.is) ∙ begun) in
      record {
        first = t;
        kept_first = kept setup cells start t (arrival ∷ before) made older;
        anew = ap (λ (x : State). task_at x.tasks i) n.leaves ∙ new;
        passed = passed;
        lasting = lasting;
      }

  -- the delay of the instance
  seen_delay : (i : ℕ) (s : State) (during : List Event) → Seen setup i during s → Delay setup i during s
  seen_delay i s during x = (delay setup i x.first s during few x.kept_first (instance_stretch setup i x.first s during few x.kept_first (ap (λ (t : Task). is_open t.standing) x.anew) x.passed x.lasting).0).1

  -- a budget is a number of 16 bits
  budget_small : (task : ℕ) → budget_of setup.plan task ≤ 65535
  budget_small task = elim (cases_lt task (length setup.plan.rows)) [
    | inl l ↦ (let row = All-get_or RowLimits setup.plan.rows task no_row l made.limits.rows_keep in omega (arith, row.within, row.short))
    | inr past ↦ omega (arith, ap (λ (r : Row). r.budget) (get_or_past setup.plan.rows task no_row past))
  ]

  -- and so is a bound
  bound_small : (i : ℕ) (us : List Use) → bound_over setup.rule setup.plan i us ≤ 65535
  bound_small i [] = omega arith
  bound_small i (u ∷ us) =
      let rest = bound_over setup.rule setup.plan i us in
      let h = bound_small i us in
      let b = budget_small u.task in
      cond_both (delays setup.rule setup.plan.uses i u) (max (budget_of setup.plan u.task) rest) rest (λ x. x ≤ 65535) (λ _. omega arith) (λ _. h)

  module _ (s : State) (line : List Event) (line_to : Line setup start line s) where
    -- the delay of an instance of the line, or of the older members of it
    instance_delay : (i : ℕ) (during : List Event) → Instance line i during → (t : State) × Delay setup i during t
    instance_delay i during x =
        let (t, older, newer) = cut setup start s line line_to x.after (during ++ (x.arrival ∷ x.before)) x.splits in
        (t, seen_delay i t during (seen i t during x.before x.arrival x.begun x.lasting older))

    -- in each instance a task is told to wait at most once
    pub one_wait : (i : ℕ) (during : List Event) → Instance line i during → count (told_to_wait i) during ≤ 1
    one_wait i during x = (instance_delay i during x).1.once

    -- all ticks of lower tasks come from one instance of one of them
    pub one_lower : (i : ℕ) (during : List Event) → Instance line i during → OneLower i during
    one_lower i during x = (instance_delay i during x).1.one

    -- they are no more than the task's bound
    pub bounded : (i : ℕ) (during : List Event) → Instance line i during → count (lower_ticks i) during ≤ bound setup.rule setup.plan i
    bounded i during x = (instance_delay i during x).1.bounded

    -- an instance runs no more ticks than its budget
    pub ticks_in_budget : (i : ℕ) (during : List Event) → Instance line i during → count (ticks i) during ≤ budget_of setup.plan i
    ticks_in_budget i during x =
        let (t, older, newer) = cut setup start s line line_to x.after (during ++ (x.arrival ∷ x.before)) x.splits in
        let v = seen i t during x.before x.arrival x.begun x.lasting older in
        let says = tally setup i v.first t during few v.kept_first v.anew v.passed v.lasting in
        omega (arith, says.used, in_budget setup cells start t (during ++ (x.arrival ∷ x.before)) made older i)

    -- the account of a whole instance is its tally
    whole_tally : (i : ℕ) (during : List Event) (a : Account) → Whole line i during a → (t : State) × (a ≡ account_of t i) × Tally i during (task_at t.tasks i) × (count (lower_ticks i) during ≤ 65535)
    whole_tally i during a x =
        let (t, older, newer) = cut setup start s line line_to x.after (x.finish ∷ (during ++ (x.arrival ∷ x.before))) x.splits in
        let n = newest setup start t (x.finish ∷ (during ++ (x.arrival ∷ x.before))) older x.finish (during ++ (x.arrival ∷ x.before)) refl in
        let v = seen i n.found during x.before x.arrival x.begun x.lasting n.before in
        let answers = ends_answers setup n.found i (kind setup n.found n.made) (ap (ends i) (sym n.is) ∙ x.over) in
        let says : Some a ≡ Some (account_of n.found i) = sym x.answers ∙ (ap (λ (e : Event). account_in e.answer) n.is ∙ answers) in
        let account : a ≡ account_of n.found i = cc in
        let d = seen_delay i n.found during v in
        (n.found, account, tally setup i v.first n.found during few v.kept_first v.anew v.passed v.lasting, omega (arith, d.bounded, bound_small i setup.plan.uses))

    -- a close or drop answers the ticks that its instance ran
    pub used_counted : (i : ℕ) (during : List Event) (a : Account) → Whole line i during a → a.used ≡ count (ticks i) during
    used_counted i during a x = let (t, account, says, small) = whole_tally i during a x in ap (λ (b : Account). b.used) account ∙ says.used

    -- and the ticks that lower tasks ran meanwhile
    pub lost_counted : (i : ℕ) (during : List Event) (a : Account) → Whole line i during a → a.lost ≡ count (lower_ticks i) during
    lost_counted i during a x = let (t, account, says, small) = whole_tally i during a x in ap (λ (b : Account). b.lost) account ∙ (says.lost ∙ omega arith)

    -- and whom they were lost to
    pub lost_to_named : (i : ℕ) (during : List Event) (a : Account) → Whole line i during a → a.lost_to ≡ last_lower i during
    lost_to_named i during a x = let (t, account, says, small) = whole_tally i during a x in ap (λ (b : Account). b.lost_to) account ∙ says.lost_to
