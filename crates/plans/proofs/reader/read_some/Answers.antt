-- A fault ends the section; else the element is pushed, and reading goes on after it.
use Rattle.std.proofs.Common.{rules, ◌≡◌, ℕ, suc, ◌+◌, ◌-◌, ◌<◌, List, [], ◌∷◌, ◌++◌, Ok, Err, sym, ◌∙◌, arith}
use Rattle.std.proofs.lemmas.List.{length_push}
use Rattle.plans.specs.Reading.{Read, read_some}
use Rattle.plans.specs.declared.refusal.Refusal.{Refusal}
use Rattle.plans.proofs.reader.read_some.Goals as goal

-- one element more of a section, or a fault in it
module _ {A : Type 0} (one : List A → List ℕ → Read A) (count k : ℕ) (before : List A) (bytes : List ℕ) (left : k < count) where
  next : count - k ≡ suc (count - (k + 1))
  next = omega arith

  section_more : (x : A) (rest : List ℕ) (after : List A) → one before bytes ≡ Ok (x, rest) → after ≡ before ++ (x ∷ []) → read_some one (count - k) before bytes ≡ read_some one (count - (k + 1)) after rest
  section_more x rest after e pushed = rw (pushed, next, e)

  section_fault : (why : Refusal) → one before bytes ≡ Err why → read_some one (count - k) before bytes ≡ Err why
  section_fault why e = rw (next, e)

pub returns-in_err-item : goal.returns-in_err-item
returns-in_err-item g c one reads =
    let fault = rw c.deref.ensures.0 at (reads _ _ _ c.in_err-item.ensures) in
    let ends = sym (c.loop.invariant.1 one reads) ∙ section_fault one c.args.count c.loop.counter c.loop.items.items c.loop.rest.now (omega arith) _ fault in
    search (rules, ends)

pub loop-preserved : goal.loop-preserved
loop-preserved g c = (
  rw (c.push.ensures.items, length_push, c.loop.invariant.0),
  λ one reads.
      let read = rw c.deref.ensures.0 at (reads _ _ _ c.in_ok-item.ensures) in
      let more = section_more one c.args.count c.loop.counter c.loop.items.items c.loop.rest.now (omega arith) _ _ _ read c.push.ensures.items in
      sym more ∙ c.loop.invariant.1 one reads,
)
