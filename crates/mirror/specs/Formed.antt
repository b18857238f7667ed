-- Why a mirror keeps the law of a flash: lemmas that its impl cites. Nothing here has to be believed.
use Rattle.std.specs.Prelude.{◌≡◌, ℕ, ◌≤◌, min, List, [], ◌∷◌, length}
use Rattle.std.proofs.Common.{mul-le-mul, arith}
use Rattle.std.specs.List.{AllByRecursion}
use Rattle.flash.specs.declared.units.Unit.{Unit as Cell}
use Rattle.flash.specs.declared.units.Unit.TheVariants.{Blank, Programmed, Unreadable}
use Rattle.flash.specs.FlashState.{FlashState, WellFormed, ValueFits}
use Rattle.mirror.specs.Mirrored.{mixed, beside, mixed_units, mirrored}

pub beside_length : {X Y Z : Type 0} (f : X → Y → Z) (xs : List X) (ys : List Y) → length (beside f xs ys) ≡ min (length xs) (length ys)
beside_length f [] ys = omega arith
beside_length f (x ∷ xs) [] = omega arith
beside_length f (x ∷ xs) (y ∷ ys) = omega (arith, beside_length f xs ys)

-- the shape, and the values
shape : (m n : ℕ) (xs ys : List (List Cell)) → AllByRecursion (λ bank. length bank ≡ m) xs → AllByRecursion (λ bank. length bank ≡ n) ys → AllByRecursion (λ bank. length bank ≡ min m n) (mixed_units xs ys)
shape m n [] ys h k = tt
shape m n (x ∷ xs) [] h k = tt
shape m n (x ∷ xs) (y ∷ ys) h k = (let e = beside_length mixed x y in let p = h.0 in let q = k.0 in omega arith, shape m n xs ys h.1 k.1)

mixed_fits : (x y : Cell) → ValueFits x → ValueFits y → ValueFits (mixed x y)
mixed_fits Blank Blank h k = tt
mixed_fits Blank (Programmed v) h k = tt
mixed_fits Blank Unreadable h k = tt
mixed_fits (Programmed v) y h k = h
mixed_fits Unreadable Blank h k = tt
mixed_fits Unreadable (Programmed v) h k = k
mixed_fits Unreadable Unreadable h k = tt

bank_fits : (xs ys : List Cell) → AllByRecursion ValueFits xs → AllByRecursion ValueFits ys → AllByRecursion ValueFits (beside mixed xs ys)
bank_fits [] ys h k = tt
bank_fits (x ∷ xs) [] h k = tt
bank_fits (x ∷ xs) (y ∷ ys) h k = (mixed_fits x y h.0 k.0, bank_fits xs ys h.1 k.1)

values : (xs ys : List (List Cell)) → AllByRecursion (AllByRecursion ValueFits) xs → AllByRecursion (AllByRecursion ValueFits) ys → AllByRecursion (AllByRecursion ValueFits) (mixed_units xs ys)
values [] ys h k = tt
values (x ∷ xs) [] h k = tt
values (x ∷ xs) (y ∷ ys) h k = (bank_fits x y h.0 k.0, values xs ys h.1 k.1)

pub mirrored_formed : (a b : FlashState) → WellFormed a → WellFormed b → WellFormed (mirrored a b)
mirrored_formed a b s t =
    let size = beside_length (beside mixed) a.units b.units in
    let banks : length (mixed_units a.units b.units) ≤ length a.units = omega arith in
    let wide : min a.width b.width ≤ a.width = omega arith in
    let most = mul-le-mul banks wide in
    record { shape = shape a.width b.width a.units b.units s.shape t.shape; size = omega (arith, most, s.size); fits = omega (arith, s.fits); values = values a.units b.units s.values t.values }
