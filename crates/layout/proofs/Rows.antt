-- A table whose rows say what they should: which pairs it admits, which key it gives a name, and which name a key.
use Rattle.std.proofs.Common.{⊎_elim, true, ℤ, ◌%◌, ◌<◌, ◌≤◌, Bor, None, ◌≡◌, ℕ, zero, suc, ◌+◌, Bool, true, false, cond, ◌&&◌, ◌==◌, ltb, List, [], ◌∷◌, map, length, Some, Option, option_map, sym, refl, ap, ◌∙◌, add-one, arith}
use Rattle.std.proofs.lemmas.Bool.Decides.{nat_tests}
use Rattle.std.proofs.lemmas.Bool.{cases_Bool, lt-ltb}
use Rattle.std.specs.Option.{option_map_or}
use Rattle.std.specs.Str.{bytes_eq}
use Rattle.std.specs.List.{find, slice_get}
use Rattle.std.specs.Slice.{IsItemAt}
use Rattle.std.proofs.lemmas.Option.{slice_get_past, slice_get_read}
use Rattle.layout.specs.Catalogue.{is_key, limits, in_limits, key_from, name_from}
use Rattle.layout.specs.Rows.{limits_of, row_says, rows_from}
use Rattle.layout.specs.declared.catalogue.Row.{Row}

-- what `get` lends of a list, if there is an element at the place
pub lent_at : {X : Type 0} (xs : List X) (i : ℕ) (r : Option (Bor X)) → IsItemAt xs i r → option_map (λ x. x.now) r ≡ slice_get xs i
lent_at xs i None h = sym (slice_get_past xs i h.3)
lent_at xs i (Some x) h = sym (slice_get_read xs (length xs) i x.now refl h.3.0 h.1)

-- one place further in one row more
same_below : (i n : ℕ) → ltb i n ≡ ltb (suc i) (suc n)
same_below i n = grind (arith, nat_tests)

-- what the row at a place says of a value, if there is a row
pub row_admits : (rows : List Row) (k : ℕ) (ns : List (List ℕ)) (i : ℕ) (v : ℤ) → map row_says rows ≡ rows_from k ns →
    option_map_or (λ (r : Row). in_limits (limits_of r.limits) v) (slice_get rows i) false ≡ (ltb i (length ns) && in_limits (limits (suc k + i)) v)
row_admits [] k [] i v e = grind (arith, nat_tests)
row_admits [] k (n ∷ ns) i v e = cc
row_admits (r ∷ rs) k [] i v e = cc
row_admits (r ∷ rs) k (n ∷ ns) zero v e =
    let first : row_says r ≡ (suc k, n, limits (suc k)) = cc in
    let here : suc k ≡ suc k + 0 = omega arith in
    ap (λ l. in_limits l v) (ap (λ s. s.2) first) ∙ ap (λ j. in_limits (limits j) v) here
    ∙ ap (λ b. b && in_limits (limits (suc k + 0)) v) (sym (lt-ltb 0 (suc (length ns)) (omega arith)))
row_admits (r ∷ rs) k (n ∷ ns) (suc i) v e =
    let here : suc (suc k) + i ≡ suc k + suc i = omega arith in
    row_admits rs (suc k) ns i v (cc) ∙ ap (λ j. ltb i (length ns) && in_limits (limits j) v) here
    ∙ ap (λ b. b && in_limits (limits (suc k + suc i)) v) (same_below i (length ns))

-- there is a row at the place one below a key of the catalogue
is_key_at : (key at : ℕ) → at ≡ (key + 18446744073709551615) % 18446744073709551616 → key < 256 → ltb at 13 ≡ is_key key
is_key_at key at e h = grind (arith, nat_tests)

-- and the key one above that place is the key
pub key_at : (w : ℕ → Bool) (key at : ℕ) → at ≡ (key + 18446744073709551615) % 18446744073709551616 → key < 256 → (ltb at 13 && w (1 + at)) ≡ (is_key key && w key)
key_at w key at e h =
    ap (λ b. b && w (1 + at)) (is_key_at key at e h)
    ∙ ⊎_elim
    (λ (t : is_key key ≡ true).
    let some : 1 ≤ key = grind (arith, nat_tests) in
    let same : 1 + at ≡ key = omega arith in
    ap (λ j. is_key key && w j) same)
    (λ (t : is_key key ≡ false). ap (λ b. b && w (1 + at)) t ∙ sym (ap (λ b. b && w key) t))
    (cases_Bool (is_key key))

key_of_first : (b : Bool) (r : Row) (o : Option Row) →
    option_map_or (λ (r : Row). r.key) (cond b (Some r) o) 0 ≡ cond b r.key (option_map_or (λ (r : Row). r.key) o 0)
key_of_first true r o = refl
key_of_first false r o = refl

pub rows_name : (rows : List Row) (k : ℕ) (ns : List (List ℕ)) (w : List ℕ) → map row_says rows ≡ rows_from k ns →
    option_map_or (λ (r : Row). r.key) (find (λ (r : Row). bytes_eq r.name.now w) rows) 0 ≡ key_from (suc k) ns w
rows_name [] k [] w e = refl
rows_name [] k (n ∷ ns) w e = cc
rows_name (r ∷ rs) k [] w e = cc
rows_name (r ∷ rs) k (n ∷ ns) w e =
    let first : row_says r ≡ (suc k, n, limits (suc k)) = cc in
    let others = option_map_or (λ (r : Row). r.key) (find (λ (r : Row). bytes_eq r.name.now w) rs) 0 in
    key_of_first (bytes_eq r.name.now w) r (find (λ (r : Row). bytes_eq r.name.now w) rs)
    ∙ ap (λ m. cond (bytes_eq m w) r.key others) (ap (λ s. s.1) first)
    ∙ ap (λ j. cond (bytes_eq n w) j others) (ap (λ s. s.0) first)
    ∙ ap (cond (bytes_eq n w) (suc k)) (rows_name rs (suc k) ns w (cc) ∙ ap (λ j. key_from j ns w) (sym (add-one (suc k))))

name_of_first : (b : Bool) (r : Row) (o : Option Row) →
    option_map (λ (r : Row). r.name.now) (cond b (Some r) o) ≡ cond b (Some r.name.now) (option_map (λ (r : Row). r.name.now) o)
name_of_first true r o = refl
name_of_first false r o = refl

pub rows_key : (rows : List Row) (k : ℕ) (ns : List (List ℕ)) (q : ℕ) → map row_says rows ≡ rows_from k ns →
    option_map (λ (r : Row). r.name.now) (find (λ (r : Row). r.key == q) rows) ≡ name_from (suc k) ns q
rows_key [] k [] q e = refl
rows_key [] k (n ∷ ns) q e = cc
rows_key (r ∷ rs) k [] q e = cc
rows_key (r ∷ rs) k (n ∷ ns) q e =
    let first : row_says r ≡ (suc k, n, limits (suc k)) = cc in
    let others = option_map (λ (r : Row). r.name.now) (find (λ (r : Row). r.key == q) rs) in
    name_of_first (r.key == q) r (find (λ (r : Row). r.key == q) rs)
    ∙ ap (λ m. cond (r.key == q) (Some m) others) (ap (λ s. s.1) first)
    ∙ ap (λ j. cond (j == q) (Some n) others) (ap (λ s. s.0) first)
    ∙ ap (cond (suc k == q) (Some n)) (rows_key rs (suc k) ns q (cc) ∙ ap (λ j. name_from j ns q) (sym (add-one (suc k))))
