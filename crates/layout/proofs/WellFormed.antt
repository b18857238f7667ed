-- Laws of lists of pairs: rising keys and the catalogue under `with_pair` and `merged`, and look-ups.
use Rattle.std.proofs.Common.{◌≡◌, ℕ, zero, suc, ◌+◌, ◌<◌, ◌≤◌, Bool, true, false, cond, ◌&&◌, eqb, ltb, leb, List, [], ◌∷◌, ◌++◌, length, get_or, take, ℤ, pos, negsuc, sym, refl, ap, ◌∙◌, arith, w32, SFits}
use mathlib.Core.List.{reverse_aux}
use lib.Signed.{le_z, mag}
use Rattle.std.proofs.lemmas.Int.{ints}
use Rattle.std.proofs.lemmas.Bool.Decides.{nat_tests}
use Rattle.std.proofs.lemmas.Bool.{and_parts, and_from, lt-ltb, leb-true, ltb-true, ltb-false, eqb-true, eqb-false, cond_both}
use Rattle.layout.specs.Catalogue.{Limits, limits, limits_by, signed_key, unsigned_key, is_key, in_limits, admits}
use Rattle.layout.specs.PairLists.{rising_above, rising, all_admitted, well_formed, with_pair, merged}
use Rattle.layout.specs.declared.meanings.Pair.{Pair}

pub rising_with : (b : ℕ) (p : Pair) (ps : List Pair) → b < p.key → rising_above b ps ≡ true → rising_above b (with_pair p ps) ≡ true
rising_with b p [] h r = and_from _ _ (lt-ltb b p.key h) refl
rising_with b p (q ∷ qs) h r =
    let rs = and_parts (ltb b q.key) (rising_above q.key qs) r in
    cond_both (ltb q.key p.key) (q ∷ with_pair p qs) (cond (eqb q.key p.key) (p ∷ qs) (p ∷ q ∷ qs)) (λ l. rising_above b l ≡ true)
    (λ e. and_from _ _ rs.0 (rising_with q.key p qs (ltb-true q.key p.key e) rs.1))
    (λ e. cond_both (eqb q.key p.key) (p ∷ qs) (p ∷ q ∷ qs) (λ l. rising_above b l ≡ true)
    (λ e'. and_from _ _ (lt-ltb b p.key h) (ap (λ n. rising_above n qs) (sym (eqb-true q.key p.key e')) ∙ rs.1))
    (λ e'. let above : p.key < q.key = omega (arith, ltb-false q.key p.key e, eqb-false q.key p.key e') in
    and_from _ _ (lt-ltb b p.key h) (and_from _ _ (lt-ltb p.key q.key above) rs.1)))

pub rising_merged : (b : ℕ) (cs ps : List Pair) → rising_above b cs ≡ true → rising ps ≡ true → rising (merged ps cs) ≡ true
rising_merged b [] ps c r = r
rising_merged b (c ∷ cs) ps h r =
    let hs = and_parts (ltb b c.key) (rising_above c.key cs) h in
    let above : 0 < c.key = omega (arith, ltb-true b c.key hs.0) in
    rising_merged c.key cs (with_pair c ps) hs.1 (rising_with 0 c ps above r)

pub admitted_with : (p : Pair) (ps : List Pair) → admits p ≡ true → all_admitted ps ≡ true → all_admitted (with_pair p ps) ≡ true
admitted_with p [] h r = and_from _ _ h refl
admitted_with p (q ∷ qs) h r =
    let rs = and_parts (admits q) (all_admitted qs) r in
    cond_both (ltb q.key p.key) (q ∷ with_pair p qs) (cond (eqb q.key p.key) (p ∷ qs) (p ∷ q ∷ qs)) (λ l. all_admitted l ≡ true)
    (λ e. and_from _ _ rs.0 (admitted_with p qs h rs.1))
    (λ e. cond_both (eqb q.key p.key) (p ∷ qs) (p ∷ q ∷ qs) (λ l. all_admitted l ≡ true)
    (λ e'. and_from _ _ h rs.1)
    (λ e'. and_from _ _ h r))

pub admitted_merged : (cs ps : List Pair) → all_admitted cs ≡ true → all_admitted ps ≡ true → all_admitted (merged ps cs) ≡ true
admitted_merged [] ps h r = r
admitted_merged (c ∷ cs) ps h r =
    let hs = and_parts (admits c) (all_admitted cs) h in
    admitted_merged cs (with_pair c ps) hs.1 (admitted_with c ps hs.0 r)

pub admitted_take : (n : ℕ) (ps : List Pair) → all_admitted ps ≡ true → all_admitted (take n ps) ≡ true
admitted_take zero ps h = refl
admitted_take (suc n) [] h = refl
admitted_take (suc n) (p ∷ ps) h =
    let hs = and_parts (admits p) (all_admitted ps) h in and_from _ _ hs.0 (admitted_take n ps hs.1)

pub admitted_reverse : (ps qs : List Pair) → all_admitted ps ≡ true → all_admitted qs ≡ true → all_admitted (reverse_aux ps qs) ≡ true
admitted_reverse [] qs h r = r
admitted_reverse (p ∷ ps) qs h r =
    let hs = and_parts (admits p) (all_admitted ps) h in admitted_reverse ps (p ∷ qs) hs.1 (and_from _ _ hs.0 r)

-- a pair that stands among others is admitted
pub admitted_among : (before : List Pair) (p : Pair) (after : List Pair) → all_admitted (before ++ p ∷ after) ≡ true → admits p ≡ true
admitted_among [] p after h = (and_parts (admits p) (all_admitted after) h).0
admitted_among (q ∷ before) p after h = admitted_among before p after (and_parts (admits q) (all_admitted (before ++ p ∷ after)) h).1

-- each pair of the list is admitted
pub admitted_at : (ps : List Pair) (i : ℕ) (d : Pair) → i < length ps → all_admitted ps ≡ true → admits (get_or ps i d) ≡ true
admitted_at [] i d h t = absurd (omega arith)
admitted_at (p ∷ ps) zero d h t = (and_parts (admits p) (all_admitted ps) t).0
admitted_at (p ∷ ps) (suc i) d h t = admitted_at ps i d (omega arith) (and_parts (admits p) (all_admitted ps) t).1

-- an admitted key lies from 1 to 13
pub key_bounds : (p : Pair) → admits p ≡ true → (1 ≤ p.key) × (p.key ≤ 13)
unfolding admits
key_bounds p a =
    let t = and_parts (leb 1 p.key) (leb p.key 13) (and_parts (is_key p.key) (in_limits (limits p.key) p.value) a).0 in
    (leb-true 1 p.key t.0, leb-true p.key 13 t.1)

-- so there are at most 13 rising keys
rising_few : (b : ℕ) (ps : List Pair) → b ≤ 13 → rising_above b ps ≡ true → all_admitted ps ≡ true → length ps + b ≤ 13
rising_few b [] h r a = omega arith
rising_few b (p ∷ ps) h r a =
    let rs = and_parts (ltb b p.key) (rising_above p.key ps) r in
    let hs = and_parts (admits p) (all_admitted ps) a in
    omega (arith, ltb-true b p.key rs.0, rising_few p.key ps (key_bounds p hs.0).1 rs.1 hs.1)

pub well_formed_parts : (ps : List Pair) → well_formed ps ≡ true → (rising ps ≡ true) × (all_admitted ps ≡ true)
well_formed_parts ps h = and_parts (rising ps) (all_admitted ps) h

pub well_formed_few : (ps : List Pair) → well_formed ps ≡ true → length ps ≤ 13
well_formed_few ps h = let p = well_formed_parts ps h in omega (arith, rising_few 0 ps (omega arith) p.0 p.1)

pub well_formed_with : (p : Pair) (ps : List Pair) → admits p ≡ true → well_formed ps ≡ true → well_formed (with_pair p ps) ≡ true
well_formed_with p ps a h =
    let t = well_formed_parts ps h in
    and_from _ _ (rising_with 0 p ps (key_bounds p a).0 t.0) (admitted_with p ps a t.1)

pub well_formed_merged : (ps cs : List Pair) → well_formed ps ≡ true → well_formed cs ≡ true → well_formed (merged ps cs) ≡ true
well_formed_merged ps cs h k =
    let t = well_formed_parts ps h in
    let u = well_formed_parts cs k in
    and_from _ _ (rising_merged 0 cs ps u.0 t.0) (admitted_merged cs ps u.1 t.1)

-- admitted values fit 32 bits
abbrev Small : Limits → Type 0
Small l = (le_z (negsuc 65535) l.low ≡ true) × (le_z l.high (pos 65535) ≡ true)

kinds_small : (a b c : Bool) → Small (limits_by a b c)
kinds_small true b c = (refl, refl)
kinds_small false true c = (refl, refl)
kinds_small false false true = (refl, refl)
kinds_small false false false = (refl, refl)

limits_small : (k : ℕ) → Small (limits k)
limits_small k = kinds_small (signed_key k) (unsigned_key k) (eqb k 12)

between_mag : (v low high : ℤ) → le_z (negsuc 65535) low ≡ true → le_z high (pos 65535) ≡ true → le_z low v ≡ true → le_z v high ≡ true → mag v < 2147483648
between_mag v low high p q a b = grind (arith, ints, nat_tests)

between : (v : ℤ) (l : Limits) → Small l → le_z l.low v ≡ true → le_z v l.high ≡ true → SFits w32 v
between v l s a b = record { sfits = between_mag v l.low l.high s.0 s.1 a b }

pub admits_fits : (p : Pair) → admits p ≡ true → SFits w32 p.value
unfolding admits
admits_fits p a =
    let v = p.value in
    let k = p.key in
    let t = and_parts (is_key k) (in_limits (limits k) v) a in
    let u = and_parts (le_z (limits k).low v && le_z v (limits k).high) _ t.1 in
    let w = and_parts (le_z (limits k).low v) (le_z v (limits k).high) u.0 in
    between v (limits k) (limits_small k) w.0 w.1
