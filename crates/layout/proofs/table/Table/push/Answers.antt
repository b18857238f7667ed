use Rattle.std.proofs.Common.{◌≡◌, ◌+◌, suc, length, ap, set, take, ◌∙◌, arith, w32, SFits, rules}
use Rattle.std.specs.List.{insert}
use mir.Val.{to_z, of_z}
use Rattle.std.proofs.lemmas.Int.{to_z-of_z}
use Rattle.layout.proofs.Paired.{listed_inserted, pushed}
use Rattle.layout.proofs.table.Table.push.Goals as goal

pub returns-clause-pairs : goal.returns-clause-pairs
returns-clause-pairs c =
    let s = c.args.self.now in
    let h : length s.keys ≡ 13 = search rules in
    let k : length s.values ≡ 13 = search rules in
    let f : SFits w32 c.args.pair.value = search rules in
    let room = c.requires in
    let more : s.len + 1 ≡ suc s.len = omega arith in
    let v = to_z w32 (of_z w32 c.args.pair.value) in
    listed_inserted s.keys s.values s.len (omega arith) (omega arith) _ _ s.len c.args.pair.key c.args.pair.value
    (ap (λ n. take n (set s.keys s.len c.args.pair.key)) more ∙ pushed s.keys s.len c.args.pair.key (omega arith))
    (ap (λ n. take n (set s.values s.len v)) more ∙ pushed s.values s.len v (omega arith) ∙ ap (insert (take s.len s.values) s.len) (to_z-of_z w32 c.args.pair.value f))
