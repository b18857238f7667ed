-- Every call follows the ledger.
use Rattle.store.specs.declared.entries.Entry.{Entry}
use Rattle.store.specs.declared.entries.Entry.TheVariants.{Recover, Begin, Put, Commit, Abandon, Get, Temperature, Pressure}
use Rattle.store.specs.Moments.{Moment}
use Rattle.store.specs.Calls.{Does}
use Rattle.store.specs.Law.{FollowsLedger}
use Rattle.store.proofs.Plainly.{begin_follows, put_follows, abandon_follows, get_follows, temperature_follows, pressure_follows}
use Rattle.store.proofs.Writing.{recover_follows, commit_follows}

pub follows_ledger : (m : Moment) (e : Entry) (m' : Moment) → Does m e m' → FollowsLedger m e m'
follows_ledger m (Recover r) m' d first past a = recover_follows first past m a m.memory a.memory r m' d
follows_ledger m (Begin r) m' d first past a = begin_follows first past m.flash m.next m.memory a r m' d
follows_ledger m (Put shown k v r) m' d first past a = put_follows first past m.flash m.next shown k v m.memory a r m' d
follows_ledger m (Commit shown r) m' d first past a = commit_follows first past m.flash m.next shown m.memory a r m' d
follows_ledger m (Abandon shown r) m' d first past a = abandon_follows first past m.flash m.next shown m.memory a r m' d
follows_ledger m (Get k r) m' d first past a = get_follows first past m.flash m.next k m.memory a r m' d
follows_ledger m (Temperature ut r) m' d first past a = temperature_follows first past m.flash m.next ut m.memory a r m' d
follows_ledger m (Pressure st up r) m' d first past a = pressure_follows first past m.flash m.next st up m.memory a r m' d
