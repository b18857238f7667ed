-- What a bank of a flash shows to a reader, for contracts of private functions alone.
use Rattle.std.specs.Prelude.{List}
use Rattle.flash.specs.declared.interface.Flash.{Ghosts}
use Rattle.flash.specs.declared.units.Unit.{Unit as Cell}
use Rattle.flash.specs.Seen.{seen}
use Rattle.layout.specs.declared.meanings.Meaning.{Meaning}
use Rattle.journal.specs.Reading.{bank, meanings}
use Rattle.journal.specs.Log.{visible}
use Rattle.journal.specs.declared.views.BankView.{BankView}

-- its units: all of them where the flash is on, none where it is off
abbrev pub shown : {X Y : Type 0} → Ghosts X Y → BankView X → List Cell
shown g v = bank v.bank (visible (seen g v.flash.now))

-- what these say
abbrev pub meanings_shown : {X Y : Type 0} → Ghosts X Y → BankView X → List Meaning
meanings_shown g v = meanings (shown g v)
