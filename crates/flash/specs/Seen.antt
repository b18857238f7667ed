-- A flash as it is seen through its ghost members.
use Rattle.flash.specs.FlashState.{FlashState, flash_state}
use Rattle.flash.specs.declared.interface.Flash.{Ghosts}

abbrev pub seen : {X Y : Type 0} → Ghosts X Y → X → FlashState
seen g f = flash_state (g.units f) (g.width f) (g.power f) (g.charge f)
