-- Reading digits one after the other.
use Rattle.std.proofs.Common.{◌≡◌, ℕ, ◌+◌, ◌-◌, ◌*◌, ◌<◌, ◌≤◌, Bool, true, false, cond, ◌&&◌, leb, drop, drop-cons, get_or, suc, sym, List, [], ◌∷◌, length, Some, None, Option, refl, ap, ◌∙◌, arith}
use Rattle.std.proofs.lemmas.Bool.Decides.{nat_tests}
use Rattle.std.proofs.lemmas.List.{drop_all}
use Rattle.std.proofs.lemmas.Option.{cond_some}
use Rattle.std.specs.Char.{is_ascii_digit}
use Rattle.std.specs.Str.{all_ascii_digits}
use Rattle.lines.specs.Numbers.{value_after, unsigned_of}

-- the number of at most `most` that bytes write when they follow the digits of n
abbrev pub number_after : ℕ → ℕ → List ℕ → Option ℕ
number_after most n bs = cond (all_ascii_digits bs && leb (value_after n bs) most) (Some (value_after n bs)) None

pub whole_number : (most : ℕ) (bs : List ℕ) → 0 < length bs → number_after most 0 bs ≡ unsigned_of most bs
whole_number most [] h = absurd (omega arith)
whole_number most (b ∷ bs) h = refl

pub digit_taken : (most n b : ℕ) (bs : List ℕ) → is_ascii_digit b ≡ true → number_after most n (b ∷ bs) ≡ number_after most (n * 10 + (b - 48)) bs
digit_taken most n b bs h = simp h

pub no_digit : (most n b : ℕ) (bs : List ℕ) → is_ascii_digit b ≡ false → number_after most n (b ∷ bs) ≡ None
no_digit most n b bs h = simp h

grows : (n : ℕ) (bs : List ℕ) → n ≤ value_after n bs
grows n [] = omega arith
grows n (b ∷ bs) = omega (arith, grows (n * 10 + (b - 48)) bs)

none_left : (b : Bool) (n : ℕ) → cond (b && false) (Some n) None ≡ None
none_left true n = refl
none_left false n = refl

too_large : (most n : ℕ) (bs : List ℕ) → most < n → number_after most n bs ≡ None
too_large most n bs h =
    let g = grows n bs in
    let e : leb (value_after n bs) most ≡ false = grind (arith, nat_tests) in
    simp e (none_left (all_ascii_digits bs) (value_after n bs))

-- the digit at a place makes the number too large, and so no digits after it make it fit again
pub overflows : (most n i d : ℕ) (bs : List ℕ) → i < length bs → Some d ≡ cond (is_ascii_digit (get_or bs i 0)) (Some (get_or bs i 0 - 48)) None →
    most < n * 10 + d → number_after most n (drop i bs) ≡ None
overflows most n i d bs within digit large =
    let is = cond_some (is_ascii_digit (get_or bs i 0)) (get_or bs i 0 - 48) d (sym digit) in
    ap (number_after most n) (drop-cons bs i 0 within) ∙ digit_taken most n (get_or bs i 0) (drop (suc i) bs) is.0
    ∙ too_large most (n * 10 + (get_or bs i 0 - 48)) (drop (suc i) bs) (omega (arith, large, is.1))

pub at_the_end : (most n i : ℕ) (bs : List ℕ) → length bs ≤ i → n ≤ most → number_after most n (drop i bs) ≡ Some n
at_the_end most n i bs h le =
    let e : leb n most ≡ true = grind (arith, nat_tests) in
    ap (number_after most n) (drop_all i bs h) ∙ simp e
