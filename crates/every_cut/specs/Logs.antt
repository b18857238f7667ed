-- What is read off the log of a run.
use Rattle.std.specs.Prelude.{ℕ, Bool, false, List, Option, Some, None, Ok, Err, fold}
use Rattle.std.specs.Option.{option_eq}
use Rattle.std.specs.Ordering.{int_eq}
use Rattle.layout.specs.declared.meanings.Pair.{Pair}
use Rattle.layout.specs.PairLists.{value_of}
use Rattle.store.specs.declared.entries.Entry.{Entry}
use Rattle.store.specs.declared.entries.Entry.TheVariants.{Recover, Commit, Get}
use Rattle.store.specs.declared.refusals.Refusal.TheVariants.{WriteStopped}

-- a get that answered the value that these pairs have for its key
abbrev pub is_read : List Pair → Option Entry → Bool
is_read ps (Some (Get key (Ok (Some v)))) = option_eq int_eq (value_of ps key) (Some v)
is_read ps _ = false

-- where the last commit was cut, if it was: by one call after the other
abbrev pub cut_with : Option (ℕ × Option ℕ) → Option Entry → Option (ℕ × Option ℕ)
cut_with cut (Some (Commit ticket (Err (WriteStopped place)))) = Some place
cut_with cut (Some (Commit ticket _)) = None
cut_with cut _ = cut

abbrev pub last_cut : List (Option Entry) → Option (ℕ × Option ℕ)
last_cut log = fold cut_with None log

-- the number that the last recover answered, unless it was refused
abbrev pub number_with : Option ℕ → Option Entry → Option ℕ
number_with number (Some (Recover (Ok n))) = Some n
number_with number (Some (Recover (Err why))) = None
number_with number _ = number

abbrev pub last_number : List (Option Entry) → Option ℕ
last_number log = fold number_with None log
