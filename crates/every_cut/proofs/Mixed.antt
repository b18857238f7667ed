-- No row is mixed.
use Rattle.std.proofs.Common.{◌≡◌, ℕ, ◌+◌, false, cond, List, [], ◌∷◌, ◌++◌, ap, ◌∙◌, refl, inl, inr}
use Rattle.std.specs.List.{count_by, All}
use Rattle.std.proofs.lemmas.List.Elements.{All-head, All-tail}
use Rattle.std.proofs.lemmas.List.Sums.{sum_by-cons, sum_by-append}
use Rattle.flash.specs.declared.interface.Flash.{Ghosts}
use Rattle.simulator.specs.declared.simulators.Simulator.{Simulator}
use Rattle.every_cut.specs.declared.rows.Row.{Row}
use Rattle.every_cut.specs.declared.rows.Stands.{Stands}
use Rattle.every_cut.specs.declared.rows.Stands.TheVariants.{Mixed}
use Rattle.every_cut.specs.declared.ways.Way.{Way}
use Rattle.every_cut.specs.Rows.{OneStands, RowOf, same_stands, stands_as}

not_mixed : (n : ℕ) (row : Row) → OneStands n row → stands_as Mixed row ≡ false
not_mixed n row (inl (e, f)) = ap (λ (s : Stands). same_stands s Mixed) e
not_mixed n row (inr (e, f)) = ap (λ (s : Stands). same_stands s Mixed) e

pub none_mixed : {Y : Type 0} (g : Ghosts Simulator Y) (way : Way) (rows : List Row) → All (RowOf g way) rows → count_by (stands_as Mixed) rows ≡ 0
none_mixed g way [] h = refl
none_mixed g way (row ∷ rows) h =
    sum_by-cons (λ row'. cond (stands_as Mixed row') 1 0) row rows
    ∙ λ i. cond (not_mixed _ row (All-head (RowOf g way) row rows h).one i) 1 0 + none_mixed g way rows (All-tail (RowOf g way) row rows h) i

pub none_mixed_both : (xs ys : List Row) → count_by (stands_as Mixed) xs ≡ 0 → count_by (stands_as Mixed) ys ≡ 0 → count_by (stands_as Mixed) (xs ++ ys) ≡ 0
none_mixed_both xs ys e f = sum_by-append (λ row. cond (stands_as Mixed row) 1 0) xs ys ∙ λ i. e i + f i
