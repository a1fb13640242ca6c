use Rattle.std.proofs.Common.{◌≡◌, ◌++◌, take, drop}
use Rattle.manager.specs.Runs.{final, answers_to}
use Rattle.manager.specs.View.{setup_of, view}
use Rattle.manager.proofs.manager.Manager.play.Given as goal

-- the calls so far are made, and their answers stand in front
abbrev pub invariant-loop-i : goal.invariant-loop-i
invariant-loop-i g l =
    let setup = setup_of g.R.LockRule.meaning l.initial.self in
    let s = view l.initial.self l.initial.cells in record {
      keeps : setup_of g.R.LockRule.meaning l.self ≡ setup;
      leaves : view l.self l.cells ≡ final setup s (take l.i l.fn.calls);
      answered : l.answers ≡ answers_to setup s (take l.i l.fn.calls) ++ drop l.i l.fn.answers;
    }
