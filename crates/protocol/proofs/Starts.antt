-- What making leaves in the cells, and that no call changes how many there are.
use Rattle.std.proofs.Common.{◌≡◌, ℕ, zero, suc, ◌+◌, ◌-◌, ◌*◌, ◌<◌, ◌≤◌, List, [], ◌∷◌, ◌++◌, length, get_or, drop, ℤ, pos, filter, sym, refl, ap, ◌∙◌, ap₂, arith}
use Rattle.std.specs.List.{flat_map, AllByRecursion}
use Rattle.std.proofs.lemmas.List.{append_assoc, length-set, length-drop, length-append, get_or_append_left, get_or-append-add, get_or-drop}
use Rattle.plans.specs.Limits.{ObjectLimits}
use Rattle.plans.specs.declared.parts.Object.{Object}
use Rattle.protocol.specs.declared.words.Image.{Image}
use Rattle.protocol.specs.declared.words.Call.{Call}
use Rattle.protocol.specs.Machine.{Setup, State, Outcome, step, cell_of, put_back, own_image}
use Rattle.protocol.specs.Lines.{Event, Started, Line, none, more}
use Rattle.protocol.specs.Laws.{StartValues}
use Rattle.protocol.proofs.Steps.{Step, step_is}

-- ---- the number of cells

-- putting back keeps it
length_put_back : (journal : List Image) (cells : List ℤ) → length (put_back journal cells) ≡ length cells
length_put_back [] cells = refl
length_put_back (i ∷ is) cells = length-set (put_back is cells) i.cell i.old ∙ length_put_back is cells

-- so does each outcome
cells_step : (setup : Setup) (s : State) (c : Call) (o : Outcome) → Step setup s c o → length o.left.cells ≡ length s.cells
cells_step setup s c o (Step.refuses _ why) = refl
cells_step setup s c o (Step.arrives task there rest) = refl
cells_step setup s c o (Step.waits task object mode h b run is_planned not_held held own t) = refl
cells_step setup s c o (Step.grants task object mode run is_planned not_held free room) = refl
cells_step setup s c o (Step.reads task object part run may) = refl
cells_step setup s c o (Step.writes task object part value run may room) = length-set s.cells _ value
cells_step setup s c o (Step.closes task run) = refl
cells_step setup s c o (Step.drops task run) = length_put_back (filter (own_image task) s.journal) s.cells
cells_step setup s c o (Step.ticks j run less) = refl
cells_step setup s c o (Step.idles nobody) = refl

-- and a line
pub as_many_cells : (setup : Setup) (start s : State) (line : List Event) → Line setup start line s → length s.cells ≡ length start.cells
as_many_cells setup start s line none = refl
as_many_cells setup start s line (more {line = l} {s = t} before c) = cells_step setup t c (step setup t c) (step_is setup t c) ∙ as_many_cells setup start t l before

-- ---- making

-- the start values of an object
abbrev starts_of : Object → List ℤ
starts_of o = o.start

-- there are four for each object
length_starts : (objects : List Object) → AllByRecursion ObjectLimits objects → length (flat_map starts_of objects) ≡ 4 * length objects
length_starts [] h = refl
length_starts (o ∷ os) h = let four = h.0.four in let rest = length_starts os h.1 in length-append o.start (flat_map starts_of os) ∙ omega arith

-- they stand one object after the other
starts_at : (objects : List Object) (rest : List ℤ) → AllByRecursion ObjectLimits objects → (o p : ℕ) (d : Object) → o < length objects → p < 4 → get_or (flat_map starts_of objects ++ rest) (cell_of o p) (pos 0) ≡ get_or (get_or objects o d).start p (pos 0)
starts_at [] rest h o p d l small = absurd (omega arith)
starts_at (x ∷ os) rest h zero p d l small =
    let four = h.0.four in
    let first : cell_of 0 p ≡ p = omega arith in
    ap₂ (λ cs k. get_or cs k (pos 0)) (append_assoc x.start (flat_map starts_of os) rest) first ∙ get_or_append_left x.start (flat_map starts_of os ++ rest) (pos 0) p (omega arith)
starts_at (x ∷ os) rest h (suc o) p d l small =
    let four = h.0.four in
    let next : cell_of (suc o) p ≡ length x.start + cell_of o p = omega arith in
    ap₂ (λ cs k. get_or cs k (pos 0)) (append_assoc x.start (flat_map starts_of os) rest) next ∙ (get_or-append-add x.start (flat_map starts_of os ++ rest) (cell_of o p) (pos 0) ∙ starts_at os rest h.1 o p d (omega arith) small)

module _ (setup : Setup) (cells : List ℤ) (start : State) (begun : Started setup cells start) where
  -- making keeps the number of cells
  pub made_as_many : length start.cells ≡ length cells
  made_as_many =
      let starts = flat_map starts_of setup.plan.objects in
      let long = length_starts setup.plan.objects begun.limits.objects_keep in
      ap (λ (t : State). length t.cells) begun.left ∙ (length-append starts (drop (length starts) cells) ∙ (let d = length-drop (length starts) cells in omega (arith, begun.enough, begun.limits.few_objects)))

  -- so there are enough wherever a line leads
  pub enough_cells : (s : State) (line : List Event) → Line setup start line s → 128 ≤ length s.cells
  enough_cells s line to = omega (arith, as_many_cells setup start s line to, made_as_many, begun.enough)

  -- what making leaves in the cells
  pub start_values : StartValues setup cells start.cells
  start_values =
      let objects = setup.plan.objects in
      let starts = flat_map starts_of objects in
      let long = length_starts objects begun.limits.objects_keep in
      record {
        of_objects = λ o p d l small. ap (λ (t : State). get_or t.cells (cell_of o p) (pos 0)) begun.left ∙ starts_at objects (drop (length starts) cells) begun.limits.objects_keep o p d l small;
        past_objects = λ k past.
            let at : k ≡ length starts + (k - length starts) = omega arith in
            ap (λ (t : State). get_or t.cells k (pos 0)) begun.left ∙ (ap (λ n. get_or (starts ++ drop (length starts) cells) n (pos 0)) at ∙ (get_or-append-add starts (drop (length starts) cells) (k - length starts) (pos 0) ∙ (get_or-drop (length starts) cells (k - length starts) (pos 0) ∙ ap (λ n. get_or cells n (pos 0)) (sym at))));
        as_many = made_as_many;
      }
