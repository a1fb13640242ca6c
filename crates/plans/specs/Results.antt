-- What a function that reads gives back. Assumes nothing.
use Rattle.std.specs.Prelude.{◌≡◌, List, ℕ, Ok, Err, Result}
use Rattle.std.specs.Result.{MatchResult}
use denote.Ref.{Bor}
use denote.Param.Members.{Shared}
use Rattle.plans.specs.Reading.{Read}
use Rattle.plans.specs.declared.refusal.Refusal.{Refusal}

-- the result is this reading: what was made of it, as `view` sees it, or the fault
abbrev pub Reads : {A B : Type 0} → (A → B) → Result A Refusal → Result B Refusal → Type 0
Reads view result reading = MatchResult result (λ x. reading ≡ Ok (view x)) (λ why. reading ≡ Err why)

-- what was made, and the bytes after it
abbrev pub and_rest : {A B : Type 0} → (A → B) → A × Bor (List ℕ) → B × List ℕ
and_rest view p = (view p.0, p.1.now)

-- the calls of a reader of elements give what `one` reads, after the elements before it
abbrev pub ReadsBy : {F T : Type 0} → Shared F (Bor (List T) × (Bor (List ℕ) × Unit {0})) (Result (T × Bor (List ℕ)) Refusal) → F → (List T → List ℕ → Read T) → Type 0
ReadsBy {F} {T} calls f one = (before : Bor (List T)) (bytes : Bor (List ℕ)) (result : Result (T × Bor (List ℕ)) Refusal) → calls.post f (before, (bytes, tt)) result → Reads (and_rest (λ x. x)) result (one before.now bytes.now)
