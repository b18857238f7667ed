-- The rows of the table: what each says, and of which run.
use Rattle.std.specs.Prelude.{◌≡◌, ℕ, ◌+◌, Bool, true, false, ◌&&◌, ◌⊎◌, cond, ◌==◌, List, ◌++◌, map, length, Option, Some, is_some, count_by, All}
use Rattle.flash.specs.declared.interface.Flash.{Ghosts}
use Rattle.simulator.specs.declared.simulators.Simulator.{Simulator}
use Rattle.figures.specs.Figures.{example_pairs}
use Rattle.store.specs.declared.entries.Entry.{Entry}
use Rattle.runs.specs.States.{StoreState}
use Rattle.runs.specs.Whole.{WholeRun}
use Rattle.every_cut.specs.declared.rows.Row.{Row}
use Rattle.every_cut.specs.declared.rows.Stands.{Stands}
use Rattle.every_cut.specs.declared.rows.Stands.TheVariants.{First, Second, Mixed}
use Rattle.every_cut.specs.declared.rows.Totals.{Totals}
use Rattle.every_cut.specs.declared.tables.Part.{Part}
use Rattle.every_cut.specs.declared.tables.Table.{Table}
use Rattle.every_cut.specs.declared.ways.Case.{Case}
use Rattle.every_cut.specs.declared.ways.Way.{Way}
use Rattle.every_cut.specs.declared.ways.Way.TheVariants.{InPlace, OtherBank}
use Rattle.every_cut.specs.Cases.{cases_of, BlankStore}
use Rattle.every_cut.specs.Asked.{second_pairs, number_before, requests, expected_log}
use Rattle.every_cut.specs.Logs.{is_read, last_cut, last_number}

-- Of the coefficients that were read all 11 are the first calibration's and none the second's, or
-- the other way round; all else is mixed.
abbrev pub stands_by : ℕ → ℕ → Stands
stands_by first second =
    cond (first == 11 && second == 0) First (cond (first == 0 && second == 11) Second Mixed)

abbrev pub stands_of : Row → Stands
stands_of row = stands_by row.first row.second

-- One calibration stands, whole: the first, and the recover answered the number of before, or the
-- second, and it answered one more.
abbrev pub OneStands : ℕ → Row → Type 0
OneStands number row =
    ((stands_of row ≡ First) × (row.number ≡ Some number))
    ⊎ ((stands_of row ≡ Second) × (row.number ≡ Some (number + 1)))

-- The log of a whole run: on a blank store, of the calls that are asked for in this way, and up to
-- the commit that may be cut each was made and answered what is expected.
pub record RunOf {Y : Type 0} (g : Ghosts Simulator Y) (way : Way) (case : Case)
    (log : List (Option Entry)) : Type 0 where
  pub store : StoreState Simulator
  pub blank : BlankStore case store
  pub after : StoreState Simulator
  pub run : WholeRun g store (requests way) log after
  pub rest : List (Option Entry)
  pub begins : log ≡ expected_log way ++ rest

-- what a row says of a log
pub record ReadOff (log : List (Option Entry)) (row : Row) : Type 0 where
  pub cut : row.cut ≡ last_cut log
  pub number : row.number ≡ last_number log
  pub first : row.first ≡ count_by (is_read example_pairs) log
  pub second : row.second ≡ count_by (is_read second_pairs) log

-- A row is that of one whole run of its case, and by the law of that run one calibration stands.
pub record RowOf {Y : Type 0} (g : Ghosts Simulator Y) (way : Way) (row : Row) : Type 0 where
  pub log : List (Option Entry)
  pub run : RunOf g way row.case log
  pub read : ReadOff log row
  pub one : OneStands (number_before way) row

-- ---- the table

abbrev pub case_in : Row → Case
case_in row = row.case

-- a way has a row for each of its cases, in their order
pub record RowsOf {Y : Type 0} (g : Ghosts Simulator Y) (way : Way) (rows : List Row) : Type 0 where
  pub cases : map case_in rows ≡ cases_of way
  pub each : All (RowOf g way) rows

abbrev pub same_stands : Stands → Stands → Bool
same_stands First First = true
same_stands Second Second = true
same_stands Mixed Mixed = true
same_stands _ _ = false

abbrev pub stands_as : Stands → Row → Bool
stands_as stands row = same_stands (stands_of row) stands

abbrev pub is_cut : Row → Bool
is_cut row = is_some row.cut

-- what rows come to
abbrev pub totals_of : List Row → Totals
totals_of rows = record {
  rows = length rows;
  cut = count_by is_cut rows;
  first = count_by (stands_as First) rows;
  second = count_by (stands_as Second) rows;
  mixed = count_by (stands_as Mixed) rows;
}

-- no row of a way is mixed
pub record PartOf {Y : Type 0} (g : Ghosts Simulator Y) (way : Way) (part : Part) : Type 0 where
  pub rows : RowsOf g way part.rows.items
  pub totals : part.totals ≡ totals_of part.rows.items
  pub none_mixed : part.totals.mixed ≡ 0

-- nor of both
pub record TableOf {Y : Type 0} (g : Ghosts Simulator Y) (table : Table) : Type 0 where
  pub in_place : PartOf g InPlace table.in_place
  pub other_bank : PartOf g OtherBank table.other_bank
  pub both : table.both ≡ totals_of (table.in_place.rows.items ++ table.other_bank.rows.items)
  pub none_mixed : table.both.mixed ≡ 0
