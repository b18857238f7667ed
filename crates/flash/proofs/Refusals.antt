-- Facts of a well-formed flash, and of the refusals. Assumes nothing.
use Rattle.std.proofs.Common.{◌≡◌, ℕ, ◌<◌, true, cond, eqb, [], length, arith}
use Rattle.std.proofs.ByRecursion.{All-get_or}
use Rattle.std.proofs.lemmas.Bool.{lt-ltb, ne_eqb}
use Rattle.std.proofs.lemmas.Bool.Decides.{nat_tests}
use Rattle.flash.specs.declared.units.Unit.TheVariants.{Blank}
use Rattle.flash.specs.FlashState.{FlashState, unit_at, bank_of, WellFormed}
use Rattle.flash.specs.Calls.{read_refusal, program_refusal, erase_refusal, by_refusal}

pub bank_length : (c : FlashState) (b : ℕ) → WellFormed c → b < length c.units → length (bank_of c b) ≡ c.width
bank_length c b s h = All-get_or (λ bank. length bank ≡ c.width) c.units b [] h s.shape

-- a write where only the charge can stop it
pub program_refusal_open : (c : FlashState) (b u : ℕ) → c.on ≡ true → b < length c.units → u < c.width → unit_at c b u ≡ Blank → program_refusal c b u ≡ cond (eqb c.charge 0) 24 0
program_refusal_open c b u on hb hu hf = simp (on, lt-ltb b (length c.units) hb, lt-ltb u c.width hu, hf)

pub read_refusal_open : (c : FlashState) (b u : ℕ) → c.on ≡ true → b < length c.units → u < c.width → read_refusal c b u ≡ 0
read_refusal_open c b u on hb hu = simp (on, lt-ltb b (length c.units) hb, lt-ltb u c.width hu)

pub erase_refusal_open : (c : FlashState) (b : ℕ) → c.on ≡ true → b < length c.units → erase_refusal c b ≡ cond (eqb c.charge 0) 24 0
erase_refusal_open c b on hb = simp (on, lt-ltb b (length c.units) hb)

-- what no refusal of a read says
pub read_refusal_parts : (c : FlashState) (b u : ℕ) → read_refusal c b u ≡ 0 → (c.on ≡ true) × (b < length c.units) × (u < c.width)
read_refusal_parts c b u z = (grind (arith, nat_tests), grind (arith, nat_tests), grind (arith, nat_tests))

-- a write that only the charge can stop: what its number says
pub charge_left : (n refusal : ℕ) → refusal ≡ cond (eqb n 0) 24 0 → refusal ≡ 0 → 0 < n
charge_left n refusal e z = grind (arith, nat_tests)

pub charge_out : (n refusal : ℕ) → refusal ≡ cond (eqb n 0) 24 0 → 0 < refusal → (n ≡ 0) × (refusal ≡ 24)
charge_out n refusal e z = (grind (arith, nat_tests), grind (arith, nat_tests))

pub number_cut : (n refusal : ℕ) → refusal ≡ cond (eqb n 0) 24 0 → n ≡ 0 → refusal ≡ 24
number_cut n refusal e z = grind (arith, nat_tests)

pub number_done : (n refusal : ℕ) → refusal ≡ cond (eqb n 0) 24 0 → 0 < n → refusal ≡ 0
number_done n refusal e z = grind (arith, nat_tests)

-- which of its three ways a write goes
module _ {X : Type 0} (n : ℕ) (done cut same : X) where
  pub by_done : n ≡ 0 → done ≡ by_refusal n done cut same
  by_done h = simp h

  pub by_cut : n ≡ 24 → cut ≡ by_refusal n done cut same
  by_cut h = simp h

  pub by_same : 0 < n → n < 24 → same ≡ by_refusal n done cut same
  by_same h k = simp (ne_eqb n 0 (omega arith), ne_eqb n 24 (omega arith))
