-- The run of a reading, in the words of the layout: the counted units directly before a commit unit are valid records, all after
-- the mark, which is the place after the header's records or the last commit that counted.
use Rattle.std.specs.Prelude.{◌≡◌, ℕ, ◌+◌, ◌-◌, cond, List, [], ◌∷◌, length, drop, Some, None, Option, nat_le}
use Rattle.layout.specs.declared.meanings.Pair.{Pair}
use Rattle.layout.specs.declared.meanings.Meaning.{Meaning}
use Rattle.layout.specs.declared.meanings.Meaning.TheVariants.{Noise, Record, Commit, Header}
use Rattle.journal.specs.Reading.{Progress, newest, counts, step, steps}

abbrev pub cons_to : Pair → Option (List Pair) → Option (List Pair)
cons_to p None = None
cons_to p (Some ps) = Some (p ∷ ps)

-- the pairs of units that are all valid records
abbrev pub all_records : List Meaning → Option (List Pair)
all_records [] = Some []
all_records (Noise ∷ ms) = None
all_records (Record p ∷ ms) = cons_to p (all_records ms)
all_records (Commit c n ∷ ms) = None
all_records (Header c n ∷ ms) = None

-- the pairs of the c units at the end of the units so far, if those are valid records, all from the mark on
abbrev pub directly : ℕ → ℕ → List Meaning → Option (List Pair)
directly c mark front = cond (nat_le (mark + c) (length front)) (all_records (drop (length front - c) front)) None

-- the mark after one unit more, at this place
abbrev pub mark_after : Progress → Meaning → ℕ → ℕ → ℕ
mark_after s Noise place mark = mark
mark_after s (Record p) place mark = mark
mark_after s (Commit c n) place mark = cond (counts c n s) (place + 1) mark
mark_after s (Header c n) place mark = mark

abbrev pub marks : Progress → List Meaning → ℕ → ℕ → ℕ
marks s [] place mark = mark
marks s (m ∷ ms) place mark = marks (step s m) ms (place + 1) (mark_after s m place mark)

abbrev pub fresh : ℕ → List Pair → Progress
fresh n ps = record { number = n; pairs = ps; run = [] }

-- At any place behind the header's records, the c newest of the run are the c units directly before it.
abbrev pub RunStandsDirectlyBefore : Type 0
RunStandsDirectlyBefore =
    (n : ℕ) (ps : List Pair) (front : List Meaning) (c : ℕ) →
    directly c (marks (fresh n ps) front 0 0) front
    ≡ cond (nat_le c (length (steps (fresh n ps) front).run)) (Some (newest c (steps (fresh n ps) front).run)) None
