use Rattle.std.proofs.Common.{◌≡◌, ℕ, ◌+◌, ◌-◌, ◌<◌, ◌≤◌, List, ◌++◌, length, take, refl, ap, ◌∙◌, arith, w32, SFits, rules}
use Rattle.std.specs.List.{insert}
use Rattle.std.proofs.lemmas.Int.{to_z-of_z}
use Rattle.std.proofs.lemmas.List.{length-take-le, take-take, take-append-le, take_all}
use Rattle.std.proofs.lemmas.List.Edits.{length-insert}
use Rattle.layout.proofs.Paired.{listed_inserted}
use Rattle.layout.proofs.table.Table.insert.Goals as goal

-- the first n + 1 places, after an element was put among them
grown : {X : Type 0} (xs ys rest : List X) (n i : ℕ) (x : X) → n < length xs → i ≤ n →
    ys ≡ insert (take (length (take (n + 1) xs) - 1) (take (n + 1) xs)) i x → take (n + 1) (ys ++ rest) ≡ insert (take n xs) i x
grown xs ys rest n i x lt le e =
    let l = length-take-le (n + 1) xs (omega arith) in
    let m : length (take (n + 1) xs) - 1 ≡ n = omega arith in
    let t : ys ≡ insert (take n xs) i x = e ∙ ap (λ j. insert (take j (take (n + 1) xs)) i x) m ∙ ap (λ zs. insert zs i x) (take-take n (n + 1) xs (omega arith)) in
    let b = length-take-le n xs (omega arith) in
    let k : length ys ≡ n + 1 = omega (arith, ap length t, length-insert (take n xs) i x (omega arith)) in
    take-append-le (n + 1) ys rest (omega arith) ∙ take_all (n + 1) ys (omega arith) ∙ t

pub returns : goal.returns
returns c =
    let s = c.args.self.now in
    let h : length s.keys ≡ 13 = search rules in
    let k : length s.values ≡ 13 = search rules in
    let f : SFits w32 c.args.pair.value = search rules in
    let room : (s.len < length s.keys) × (s.len < length s.values) = (omega (arith, c.requires.room), omega (arith, c.requires.room)) in
    record {
      pairs =
          listed_inserted s.keys s.values s.len (omega arith) (omega arith) _ _ c.args.at c.args.pair.key c.args.pair.value
          (grown s.keys c.insert_at.new.xs _ s.len c.args.at c.args.pair.key room.0 c.requires.within c.insert_at.ensures)
          (grown s.values c.insert_at-2.new.xs _ s.len c.args.at _ room.1 c.requires.within c.insert_at-2.ensures
          ∙ ap (insert (take s.len s.values) c.args.at) (to_z-of_z w32 c.args.pair.value f));
      len = refl;
    }
