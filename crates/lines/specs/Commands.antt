-- The command of a line, by its words.
use Rattle.std.specs.Prelude.{ℕ, cond, List, [], ◌∷◌, map, length, codes, Some, None, Option, nat_le}
use Rattle.std.specs.Option.{option_map}
use Rattle.std.specs.Str.{bytes_eq}
use Rattle.layout.specs.Catalogue.{key_named}
use Rattle.lines.specs.Numbers.{unsigned_of, signed_of}
use Rattle.lines.specs.Words.{words}
use Rattle.lines.specs.declared.commands.Command.{Command}
use Rattle.lines.specs.declared.commands.Command.TheVariants.{Plan, Format, Recover, Begin, Put, Commit, Abandon, Get, Temperature, Pressure}

abbrev pub alone : List ℕ → Option Command
alone w =
    cond (bytes_eq w (codes "format")) (Some Format)
    (cond (bytes_eq w (codes "recover")) (Some Recover)
    (cond (bytes_eq w (codes "begin")) (Some Begin)
    (cond (bytes_eq w (codes "commit")) (Some Commit) (cond (bytes_eq w (codes "abandon")) (Some Abandon) None))))

abbrev pub with_one : List ℕ → List ℕ → Option Command
with_one w a =
    cond (bytes_eq w (codes "get")) (Some (Get (key_named a)))
    (cond (bytes_eq w (codes "temp")) (option_map Temperature (signed_of a))
    (cond (bytes_eq w (codes "press")) (option_map Pressure (signed_of a)) None))

abbrev pub with_two : List ℕ → List ℕ → List ℕ → Option Command
with_two w a b = cond (bytes_eq w (codes "put")) (option_map (Put (key_named a)) (signed_of b)) None

abbrev pub plan_of : Option ℕ → Option ℕ → Option ℕ → Option Command
plan_of (Some c) (Some r) (Some p) = Some (Plan c r p)
plan_of (Some c) (Some r) None = None
plan_of (Some c) None p = None
plan_of None r p = None

abbrev pub with_three : List ℕ → List ℕ → List ℕ → List ℕ → Option Command
with_three w a b c =
    cond (bytes_eq w (codes "plan")) (plan_of (unsigned_of 4294967295 a) (unsigned_of 255 b) (unsigned_of 18446744073709551615 c)) None

-- the command that the words of a line make
abbrev pub command_in : List (List ℕ) → Option Command
command_in [] = None
command_in (w ∷ []) = alone w
command_in (w ∷ a ∷ []) = with_one w a
command_in (w ∷ a ∷ b ∷ []) = with_two w a b
command_in (w ∷ a ∷ b ∷ c ∷ []) = with_three w a b c
command_in (w ∷ a ∷ b ∷ c ∷ d ∷ more) = None

-- a line has at most 80 bytes
abbrev pub command_of : List ℕ → Option Command
command_of line = cond (nat_le (length line) 80) (command_in (map (λ w. w.1) (words line))) None
