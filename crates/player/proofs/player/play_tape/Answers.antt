-- The manager that is made is in the state that a player starts from.
use Rattle.std.proofs.Common.{ℕ, List, replicate, pos, subst, MatchResult}
use Rattle.plans.specs.Plans.{contents}
use Rattle.manager.specs.View.{setup_of}
use Rattle.tape.specs.Tapes.{lines, entries}
use Rattle.sheets.specs.Sheets.{Put}
use Rattle.player.specs.Playing.{player_setup}
use Rattle.player.proofs.Plays.{same_play}
use Rattle.player.proofs.player.play_tape.Goals as goal

pub returns : goal.returns
returns g c =
    let meaning = g.R.LockRule.meaning in
    let planned = c.args.planned in
    let manager = c.in_ok-manager.manager in
    let started = c.in_ok-manager.ensures.started in
    subst (λ (text : List ℕ). MatchResult c.play_lines.result (λ n. Put c.args.sheet.now 0 text c.play_lines.new.sheet n) (λ _. ⊥))
    (same_play (setup_of meaning manager) (player_setup (meaning planned.rule) (contents planned.chart.plan)) _ (replicate 128 (pos 0)) (entries 0 (lines c.args.tape.now)) c.in_ok-manager.ensures.setup started.left)
    c.play_lines.ensures.sheet
