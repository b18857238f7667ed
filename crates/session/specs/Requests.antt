-- What the arguments of the program ask for.
use Rattle.std.specs.Prelude.{◌≡◌, ℕ, Bool, cond, ◌||◌, List, [], ◌∷◌, codes, Option, Result, Ok}
use Rattle.std.specs.Str.{bytes_eq}
use Rattle.std.specs.Io.KnownBytes.{Keeps}
use Rattle.lines.specs.Outputs.{Writes}
use Rattle.session.specs.declared.requests.Request.{Request}
use Rattle.session.specs.declared.requests.Request.TheVariants.{Lines, Usage, Unknown}

abbrev pub is_help : List ℕ → Bool
is_help argument = bytes_eq argument (codes "--help") || bytes_eq argument (codes "-h")

-- the usage is asked for by one argument alone
abbrev pub request_of : List (List ℕ) → Request
request_of [] = Lines
request_of (a ∷ []) = cond (is_help a) Usage Unknown
request_of (a ∷ b ∷ more) = Unknown

-- what is shown on the output, which held o before and o' after, and on the errors, which held e
-- before and e' after
abbrev pub Shows : {E : Type 0} → List ℕ → Request →
    Option (List ℕ) → Option (List ℕ) → Option (List ℕ) → Option (List ℕ) →
    Result (Unit {0}) E → Type 0
Shows usage Lines o o' e e' r = Keeps o o' × Keeps e e' × (r ≡ Ok tt)
Shows usage Usage o o' e e' r = Writes o o' r usage × Keeps e e'
Shows usage Unknown o o' e e' r = Keeps o o' × Writes e e' r usage
