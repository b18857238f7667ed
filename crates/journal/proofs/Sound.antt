-- The pairs that are read have rising keys, and the catalogue admits each.
use Rattle.std.proofs.Common.{◌≡◌, ℕ, zero, suc, ◌+◌, ◌^◌, ◌<◌, Bool, true, false, cond, eqb, leb, List, [], ◌∷◌, length, take, drop, Some, None, sym, refl, subst}
use Rattle.std.proofs.lemmas.Bool.{and_parts, and_from, cond_both}
use Rattle.flash.specs.declared.units.Unit.{Unit as Cell}
use Rattle.flash.specs.declared.units.Unit.TheVariants.{Blank, Programmed, Unreadable}
use Rattle.layout.specs.declared.meanings.Pair.{Pair}
use Rattle.layout.specs.declared.meanings.Meaning.{Meaning}
use Rattle.layout.specs.declared.meanings.Meaning.TheVariants.{Noise, Record, Commit, Header}
use Rattle.layout.specs.Catalogue.{admits}
use Rattle.layout.specs.PairLists.{rising, all_admitted}
use Rattle.layout.specs.Codec.{meaning_of}
use Rattle.layout.proofs.Decoding.{SoundAt, decoded_sound}
use Rattle.layout.proofs.WellFormed.{rising_merged, admitted_merged, admitted_take, admitted_reverse}
use Rattle.journal.specs.Reading.{meanings, Progress, newest, counts, taken, passed, step, steps, leading, lawful, Opening, opening, closing}
use Rattle.journal.proofs.Growth.{none_some, some_inj}

abbrev pub Sound : List Meaning → Type 0
Sound [] = Unit {0}
Sound (m ∷ ms) = SoundAt m × Sound ms

pub sound_at : (u : Cell) → SoundAt (meaning_of u)
sound_at Blank = tt
sound_at (Programmed v) = decoded_sound v
sound_at Unreadable = tt

pub sound : (us : List Cell) → Sound (meanings us)
sound [] = tt
sound (u ∷ us) = (sound_at u, sound us)

sound_leading : (ms : List Meaning) → Sound ms → all_admitted (leading ms) ≡ true
sound_leading [] s = refl
sound_leading (Noise ∷ ms) s = refl
sound_leading (Record p ∷ ms) s = and_from _ _ s.0 (sound_leading ms s.1)
sound_leading (Commit c n ∷ ms) s = refl
sound_leading (Header c n ∷ ms) s = refl

sound_drop : (c : ℕ) (ms : List Meaning) → Sound ms → Sound (drop c ms)
sound_drop zero ms s = s
sound_drop (suc c) [] s = tt
sound_drop (suc c) (m ∷ ms) s = sound_drop c ms s.1

pub record Good (ps : List Pair) : Type 0 where
  pub rises : rising ps ≡ true
  pub admits : all_admitted ps ≡ true

record GoodRun (s : Progress) : Type 0 where
  stand : Good s.pairs
  bits : s.number < 2 ^ 32
  run : all_admitted s.run ≡ true

good_step : (s : Progress) (m : Meaning) → GoodRun s → SoundAt m → GoodRun (step s m)
good_step s Noise g h = record { stand = g.stand; bits = g.bits; run = refl }
good_step s (Record p) g h = record { stand = g.stand; bits = g.bits; run = and_from _ _ h g.run }
good_step s (Commit c n) g h =
    cond_both (counts c n s) (taken c n s) (passed s) GoodRun
    (λ e.
    let q = and_parts (eqb n (s.number + 1)) _ e in
    let q' = and_parts (leb c (length s.run)) _ q.1 in
    let a : all_admitted (newest c s.run) ≡ true = admitted_reverse (take c s.run) [] (admitted_take c s.run g.run) refl in
    record {
      stand = record {
        rises = rising_merged 0 (newest c s.run) s.pairs q'.1 g.stand.rises;
        admits = admitted_merged (newest c s.run) s.pairs a g.stand.admits;
      };
      bits = h.1;
      run = refl;
    })
    (λ _. record { stand = g.stand; bits = g.bits; run = refl })
good_step s (Header c n) g h = record { stand = g.stand; bits = g.bits; run = refl }

good_steps : (s : Progress) (ms : List Meaning) → GoodRun s → Sound ms → GoodRun (steps s ms)
good_steps s [] g h = g
good_steps s (m ∷ ms) g h = good_steps (step s m) ms (good_step s m g h.0) h.1

record GoodOpening (o : Opening) : Type 0 where
  stand : Good o.pairs
  bits : o.number < 2 ^ 32
  rest : Sound o.rest

good_cond : (b : Bool) (o p : Opening) → (b ≡ true → GoodOpening p) → cond b (Some p) None ≡ Some o → GoodOpening o
good_cond true o p g e = subst GoodOpening (some_inj e) (g refl)
good_cond false o p g e = none_some (GoodOpening o) e

good_opening : (ms : List Meaning) (o : Opening) → Sound ms → opening ms ≡ Some o → GoodOpening o
good_opening [] o s e = none_some (GoodOpening o) e
good_opening (Noise ∷ ms) o s e = none_some (GoodOpening o) e
good_opening (Record p ∷ ms) o s e = none_some (GoodOpening o) e
good_opening (Commit c n ∷ ms) o s e = none_some (GoodOpening o) e
good_opening (Header c n ∷ ms) o s e =
    good_cond (lawful c ms) o _
    (λ h. record {
      stand = record {
        rises = (and_parts (leb c (length (leading ms))) _ h).1;
        admits = admitted_take c (leading ms) (sound_leading ms s.1);
      };
      bits = s.0.1;
      rest = sound_drop c ms s.1;
    }) e

closing_run : (us : List Cell) (o : Opening) → opening (meanings us) ≡ Some o → GoodRun (closing o)
closing_run us o e =
    let g = good_opening (meanings us) o (sound us) e in
    good_steps (record { number = o.number; pairs = o.pairs; run = [] }) o.rest (record { stand = g.stand; bits = g.bits; run = refl }) g.rest

pub good_closing : (us : List Cell) (o : Opening) → opening (meanings us) ≡ Some o → Good (closing o).pairs
good_closing us o e = (closing_run us o e).stand

pub closing_bits : (us : List Cell) (o : Opening) → opening (meanings us) ≡ Some o → (closing o).number < 2 ^ 32
closing_bits us o e = (closing_run us o e).bits

pub record_admitted : (u : Cell) (p : Pair) → Record p ≡ meaning_of u → admits p ≡ true
record_admitted u p e = subst SoundAt (sym e) (sound_at u)
