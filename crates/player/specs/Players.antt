-- A player as the machine sees it: its manager with its cells. Assumes nothing.
use Rattle.rules.specs.Meaning.{Meaning}
use Rattle.protocol.specs.Machine.{Setup, State}
use Rattle.manager.specs.View.{setup_of, view}
use Rattle.player.specs.declared.player.Player.{Player}

abbrev pub setup : {R : Type 0} → (R → Meaning) → Player R → Setup
setup meaning p = setup_of meaning p.manager

abbrev pub state : {R : Type 0} → Player R → State
state p = view p.manager p.cells
