use Rattle.std.proofs.Common.{◌≡◌, ℕ, ◌++◌, vec_items, sym, ap, ◌∙◌}
use Rattle.every_cut.specs.declared.rows.Totals.{Totals}
use Rattle.every_cut.specs.Rows.{totals_of}
use Rattle.every_cut.proofs.Mixed.{none_mixed_both}
use Rattle.every_cut.proofs.tables.make_table.Goals as goal

pub returns : goal.returns
returns c =
    let xs = vec_items c.in_ok-in_place.in_place.rows in
    let ys = vec_items c.in_ok-other_bank.other_bank.rows in
    let one = c.in_ok-in_place.ensures in
    let other = c.in_ok-other_bank.ensures in
    let first : c.extend_from_slice.new.self.items ≡ xs = c.in_ok-extend_from_slice.ensures.items ∙ λ i. c.new-all.ensures.items i ++ c.deref.ensures.value i in
    let all : c.extend_from_slice-2.new.self.items ≡ xs ++ ys = c.in_ok-extend_from_slice-2.ensures.items ∙ λ i. first i ++ c.deref-2.ensures.value i in
    let both : c.of-both.result ≡ totals_of (xs ++ ys) = c.of-both.ensures ∙ ap totals_of (c.deref-3.ensures.value ∙ all) in
    let mixed : Totals → ℕ = λ t. t.mixed in
    record {
      in_place = one;
      other_bank = other;
      both = both;
      none_mixed = ap mixed both ∙ none_mixed_both xs ys (sym (ap mixed one.totals) ∙ one.none_mixed) (sym (ap mixed other.totals) ∙ other.none_mixed);
    }
