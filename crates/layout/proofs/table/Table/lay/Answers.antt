use Rattle.std.proofs.Common.{◌≡◌, length, sym, ap, ◌∙◌, arith, rules}
use Rattle.std.specs.List.{insert}
use Rattle.layout.specs.Tables.{pairs_in}
use Rattle.layout.proofs.Inserts.{place_within, laid_replaced, laid_inserted, laid_room}
use Rattle.layout.proofs.table.Table.lay.Goals as goal

-- behind the others: no key stands at the place
pub push-requires : goal.push-requires
push-requires c =
    let s = c.args.self.now in
    let h : length s.keys ≡ 13 = search rules in
    let k : length s.values ≡ 13 = search rules in
    let few = c.requires.few in
    record {
      room = laid_room s.keys s.values s.len (omega arith) (omega arith) c.args.pair.key c.args.pair.value c.place-at.result 13 c.place-at.ensures (λ b e. omega (arith, c.if-at-self.true)) c.requires.room;
    }

pub returns-then-at-self : goal.returns-then-at-self
returns-then-at-self c =
    let s = c.args.self.now in
    let h : length s.keys ≡ 13 = search rules in
    let k : length s.values ≡ 13 = search rules in
    let few = c.requires.few in
    let here = c.if-at-self.true in
    let e = laid_inserted s.keys s.values s.len (omega arith) (omega arith) c.args.pair.key c.args.pair.value c.place-at.result c.place-at.ensures (λ b e. omega arith) in
    let r = laid_room s.keys s.values s.len (omega arith) (omega arith) c.args.pair.key c.args.pair.value c.place-at.result 13 c.place-at.ensures (λ b e. omega arith) c.requires.room in
    record {
      pairs = c.push.ensures.pairs ∙ ap (λ i. insert (pairs_in s) i c.args.pair) (sym here) ∙ sym e;
      few = omega (arith, c.push.ensures.len);
    }

-- before the end there is a key
pub bounds-self-at : goal.bounds-self-at
bounds-self-at c =
    let s = c.args.self.now in
    let h : length s.keys ≡ 13 = search rules in
    let k : length s.values ≡ 13 = search rules in
    let few = c.requires.few in
    let le = place_within s.keys s.values s.len (omega arith) (omega arith) c.args.pair.key in
    omega (arith, c.place-at.ensures, c.if-at-self.false)

pub replace-requires-clause-within : goal.replace-requires-clause-within
replace-requires-clause-within c =
    let s = c.args.self.now in
    let h : length s.keys ≡ 13 = search rules in
    let k : length s.values ≡ 13 = search rules in
    let few = c.requires.few in
    let le = place_within s.keys s.values s.len (omega arith) (omega arith) c.args.pair.key in
    omega (arith, c.place-at.ensures, c.if-at-self.false)

pub returns-then-self-at-clause-pairs : goal.returns-then-self-at-clause-pairs
returns-then-self-at-clause-pairs c =
    let s = c.args.self.now in
    let h : length s.keys ≡ 13 = search rules in
    let k : length s.values ≡ 13 = search rules in
    let few = c.requires.few in
    let le = place_within s.keys s.values s.len (omega arith) (omega arith) c.args.pair.key in
    let e = laid_replaced s.keys s.values s.len (omega arith) (omega arith) c.args.pair.key c.args.pair.value c.place-at.result c.place-at.ensures (omega (arith, c.place-at.ensures, c.if-at-self.false)) c.if-self-at.true in
    c.replace.ensures.pairs ∙ sym e

pub insert-requires : goal.insert-requires
insert-requires c =
    let s = c.args.self.now in
    let h : length s.keys ≡ 13 = search rules in
    let k : length s.values ≡ 13 = search rules in
    let few = c.requires.few in
    let le = place_within s.keys s.values s.len (omega arith) (omega arith) c.args.pair.key in
    record {
      within = omega (arith, c.place-at.ensures);
      room = laid_room s.keys s.values s.len (omega arith) (omega arith) c.args.pair.key c.args.pair.value c.place-at.result 13 c.place-at.ensures (λ b e. c.if-self-at.false e) c.requires.room;
    }

pub returns-else-self-at : goal.returns-else-self-at
returns-else-self-at c =
    let s = c.args.self.now in
    let h : length s.keys ≡ 13 = search rules in
    let k : length s.values ≡ 13 = search rules in
    let few = c.requires.few in
    let e = laid_inserted s.keys s.values s.len (omega arith) (omega arith) c.args.pair.key c.args.pair.value c.place-at.result c.place-at.ensures (λ b e. c.if-self-at.false e) in
    let r = laid_room s.keys s.values s.len (omega arith) (omega arith) c.args.pair.key c.args.pair.value c.place-at.result 13 c.place-at.ensures (λ b e. c.if-self-at.false e) c.requires.room in
    record { pairs = c.insert.ensures.pairs ∙ sym e; few = omega (arith, c.insert.ensures.len) }
