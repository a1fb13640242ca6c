-- Locks held at one time do not clash, and a task waits only for a lower one that blocks it.
use Rattle.std.proofs.Common.{◌≡◌, ℕ, ◌<◌, false, List, ◌∷◌, ◌++◌, ℤ, sym, subst, arith}
use Rattle.std.specs.List.{ContainsAt}
use Rattle.std.proofs.ByRecursion.{has_append_right}
use Rattle.protocol.specs.declared.words.Standing.TheVariants.{Ready, Waiting}
use Rattle.protocol.specs.declared.words.LockRecord.{LockRecord}
use Rattle.protocol.specs.Tasks.{standing_at}
use Rattle.protocol.specs.Machine.{Setup, State}
use Rattle.protocol.specs.Lines.{Event, Started, Line}
use Rattle.protocol.specs.Answers.{BlockedBy}
use Rattle.protocol.proofs.Lists.{has_here, has_there, Pairs, pairs_two}
use Rattle.protocol.proofs.Invariant.{NotLower, awaited_ready}
use Rattle.protocol.proofs.Reached.{kept, no_clash}

module _ (setup : Setup) (cells : List ℤ) (start s : State) (line : List Event) (made : Started setup cells start) (line_to : Line setup start line s) where
  -- of two records of different tasks on one object, the newer is in no mode that clashes with the older
  pub exclusion : (older between newer : List LockRecord) (held wanted : LockRecord) → s.locks ≡ older ++ (held ∷ (between ++ (wanted ∷ newer))) → (held.task ≡ wanted.task → ⊥) → held.object ≡ wanted.object → setup.rule.clashes held.mode wanted.mode ≡ false
  exclusion older between newer held wanted e other same =
      let order = pairs_two NotLower older between newer held wanted (subst (Pairs NotLower) e (kept setup cells start s line made line_to).sound.by_priority) in
      no_clash setup cells start s line made line_to held wanted
      (subst (λ ls. ContainsAt ls held) (sym e) (has_append_right older (held ∷ (between ++ (wanted ∷ newer))) held (has_here held (between ++ (wanted ∷ newer)))))
      (subst (λ ls. ContainsAt ls wanted) (sym e) (has_append_right older (held ∷ (between ++ (wanted ∷ newer))) wanted (has_there held (between ++ (wanted ∷ newer)) wanted (has_append_right between (wanted ∷ newer) wanted (has_here wanted newer)))))
      (omega arith) same

  -- a task waits for a lower one, which is ready, and which holds a record whose ceiling is at most the waiter's number
  pub why_waits : (i h : ℕ) → standing_at s.tasks i ≡ Waiting h → (i < h) × (standing_at s.tasks h ≡ Ready) × BlockedBy setup s i h
  why_waits i h e =
      let sound = (kept setup cells start s line made line_to).sound in
      let b = sound.why i h e in
      (b.lower, awaited_ready sound i h e, record { lock = b.lock; held = b.held; own = b.own; reaches = b.reaches })
