-- What a put makes of an open change.
use Rattle.std.specs.Prelude.{ℕ, Bool, cond, not, ◌&&◌, List, length, is_some, Ok, Err, Result, nat_le}
use Rattle.layout.specs.declared.meanings.Pair.{Pair}
use Rattle.layout.specs.Catalogue.{is_key, admits}
use Rattle.layout.specs.PairLists.{value_of, with_pair}
use Rattle.store.specs.declared.refusals.Refusal.{Refusal}
use Rattle.store.specs.declared.refusals.Refusal.TheVariants.{UnknownKey, NotAdmitted, ChangeFull}

-- the change has 12 pairs, none of this key
abbrev pub is_full : List Pair → ℕ → Bool
is_full change key = nat_le 12 (length change) && not (is_some (value_of change key))

-- the answer of a put into an open change: how many pairs it then has, or 7, 8 or 9 in this order
abbrev pub put_answer : List Pair → Pair → Result ℕ Refusal
put_answer change p =
    cond (is_key p.key)
    (cond (admits p) (cond (is_full change p.key) (Err ChangeFull) (Ok (length (with_pair p change)))) (Err NotAdmitted))
    (Err UnknownKey)

-- the change afterwards: with the pair where it was accepted, else as it was
abbrev pub put_change : List Pair → Pair → List Pair
put_change change p = cond (is_key p.key) (cond (admits p) (cond (is_full change p.key) change (with_pair p change)) change) change
