use Rattle.std.proofs.Common.{◌≡◌, ◌*◌, ◌++◌, length, take, drop}
use Rattle.std.specs.List.{flat_map}
use Rattle.plans.specs.declared.parts.Object.{Object}
use Rattle.charts.proofs.starts.start_all.Given as goal

-- the objects so far have started, and the cells behind them are as they were
abbrev pub invariant-loop-i : goal.invariant-loop-i
invariant-loop-i l =
    let starts = flat_map (λ (o : Object). o.start) (take l.i l.objects) in
    (length starts ≡ 4 * l.i) × (l.cells ≡ starts ++ drop (4 * l.i) l.initial.cells)
