-- The words of a line: its longest stretches of bytes without a space, each with its place, the number of bytes before it.
use Rattle.std.specs.Prelude.{◌≡◌, ℕ, ◌+◌, ◌<◌, ◌≤◌, slice_index, slice_range, length, Bool, true, false, cond, not, ◌&&◌, ◌||◌, List, [], ◌∷◌, ◌==◌}
use Rattle.std.specs.Char.{is_ascii_digit}
use Rattle.std.specs.List.{before_first}

-- only the byte 32 parts words
abbrev pub is_space : ℕ → Bool
is_space b = b == 32

-- The words that begin in the bytes from the place `at` on; `gap` says that a space or nothing stands before these bytes.
-- A word begins at each byte after such a gap that is no space, and goes on to the next space.
abbrev pub words_from : Bool → ℕ → List ℕ → List (ℕ × List ℕ)
words_from gap at [] = []
words_from gap at (b ∷ bs) =
    cond (gap && not (is_space b)) ((at, before_first is_space (b ∷ bs)) ∷ words_from false (at + 1) bs)
    (words_from (is_space b) (at + 1) bs)

abbrev pub words : List ℕ → List (ℕ × List ℕ)
words line = words_from true 0 line

-- a digit or a minus sign (45) comes first
abbrev pub begins_number : List ℕ → Bool
begins_number [] = false
begins_number (b ∷ bs) = is_ascii_digit b || (b == 45)

-- a word as a token says it: whether it begins as a number does, its place and its bytes
abbrev pub saying : (ℕ × List ℕ) → (Bool × ℕ × List ℕ)
saying w = (begins_number w.1, w.0, w.1)

-- each byte from a place up to another is a space
abbrev pub Spaces : List ℕ → ℕ → ℕ → Type 0
Spaces line from to = (k : ℕ) → from ≤ k → k < to → is_space (slice_index line k) ≡ true

-- A word is the part of its line at its place, of one byte or more and no space, and goes on to a space or to the line's end.
pub record IsWord (line : List ℕ) (at : ℕ) (text : List ℕ) : Type 0 where
  pub part : text ≡ slice_range line at (at + length text)
  pub some : 0 < length text
  pub solid : (k : ℕ) → k < length text → is_space (slice_index text k) ≡ false
  pub whole : at + length text < length line → is_space (slice_index line (at + length text)) ≡ true

-- The words of a line from a place on come in their order, and all else is spaces: none is left out and none is invented.
abbrev pub AreWords : List ℕ → ℕ → List (ℕ × List ℕ) → Type 0
AreWords line from [] = Spaces line from (length line)
AreWords line from (w ∷ ws) = (from ≤ w.0) × Spaces line from w.0 × IsWord line w.0 w.1 × AreWords line (w.0 + length w.1) ws
