-- The names of the catalogue are text, so bytes that are no text name no key.
use Rattle.std.proofs.Common.{◌≡◌, ℕ, ◌+◌, Bool, zero, suc, true, false, cond, ◌&&◌, ltb, arith, List, [], ◌∷◌, subst, refl, ap, ◌∙◌}
use borrow.Author.Tests.{ltb-true}
use Rattle.std.proofs.lemmas.Slice.Eq.{bytes_eq-Decides}
use Rattle.std.proofs.lemmas.Str.{IsUtf8-from_ascii}
use Rattle.std.specs.Str.{bytes_eq, IsAscii, IsUtf8}
use Rattle.layout.specs.Catalogue.{key_named, key_from, names}

ascii : List ℕ → Bool
ascii [] = true
ascii (b ∷ bs) = ltb b 128 && ascii bs

both : (a b : Bool) → (a && b) ≡ true → (a ≡ true) × (b ≡ true)
both true b h = (refl, h)
both false b h = absurd (cc)

ascii_at : (bs : List ℕ) → ascii bs ≡ true → IsAscii bs
unfolding ascii
ascii_at [] h i = omega arith
ascii_at (b ∷ bs) h zero = let l = ltb-true _ _ (both (ltb b 128) (ascii bs) h).0 in omega arith
ascii_at (b ∷ bs) h (suc i) = ascii_at bs (both (ltb b 128) (ascii bs) h).1 i

all_text : List (List ℕ) → Bool
all_text [] = true
all_text (n ∷ ns) = ascii n && all_text ns

other_name : (n w : List ℕ) (b : Bool) → bytes_eq n w ≡ b → ascii n ≡ true → ¬ (IsUtf8 w) → b ≡ false
other_name n w true e t not_utf8 = absurd (not_utf8 (subst IsUtf8 ((bytes_eq-Decides n w).0 e) (IsUtf8-from_ascii n (ascii_at n t))))
other_name n w false e t not_utf8 = refl

no_key : (k : ℕ) (ns : List (List ℕ)) (w : List ℕ) → all_text ns ≡ true → ¬ (IsUtf8 w) → key_from k ns w ≡ 0
unfolding all_text
no_key k [] w t not_utf8 = refl
no_key k (n ∷ ns) w t not_utf8 =
    let ts = both (ascii n) (all_text ns) t in
    ap (λ b. cond b k (key_from (k + 1) ns w)) (other_name n w (bytes_eq n w) refl ts.0 not_utf8) ∙ no_key (k + 1) ns w ts.1 not_utf8

pub no_text : (w : List ℕ) → ¬ (IsUtf8 w) → key_named w ≡ 0
unfolding key_named all_text ascii
no_text w not_utf8 = no_key 1 names w refl not_utf8
