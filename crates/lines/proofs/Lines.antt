-- From the tokens of a line to its words.
use Rattle.std.proofs.Common.{◌≡◌, ℕ, Bool, List, [], ◌∷◌, map, sym, refl, ap, ◌∙◌, subst}
use Rattle.lines.specs.Words.{words, saying, begins_number}
use Rattle.lines.specs.Commands.{command_in}

texts_same : (ws : List (ℕ × List ℕ)) → map (λ w. w.1) ws ≡ map (λ s. s.2) (map saying ws)
texts_same [] = refl
texts_same (w ∷ ws) = ap (λ ts. w.1 ∷ ts) (texts_same ws)

pub command_by : (line : List ℕ) (ss : List (Bool × ℕ × List ℕ)) → map saying (words line) ≡ ss →
    command_in (map (λ s. s.2) ss) ≡ command_in (map (λ w. w.1) (words line))
command_by line ss e = ap (λ ts. command_in (map (λ s. s.2) ts)) (sym e) ∙ ap command_in (sym (texts_same (words line)))

-- each says what its word is
abbrev pub AreOfTheirKind : List (Bool × ℕ × List ℕ) → Type 0
AreOfTheirKind [] = Unit {0}
AreOfTheirKind (s ∷ ss) = (s.0 ≡ begins_number s.2) × AreOfTheirKind ss

all_of_their_kind : (ws : List (ℕ × List ℕ)) → AreOfTheirKind (map saying ws)
all_of_their_kind [] = tt
all_of_their_kind (w ∷ ws) = (refl, all_of_their_kind ws)

pub of_their_kind : (ws : List (ℕ × List ℕ)) (ss : List (Bool × ℕ × List ℕ)) → map saying ws ≡ ss → AreOfTheirKind ss
of_their_kind ws ss e = subst AreOfTheirKind e (all_of_their_kind ws)

-- the words of a line, one token after the other
pub then : {A : Type 0} {all xs ys : List A} (x : A) → all ≡ x ∷ xs → xs ≡ ys → all ≡ x ∷ ys
then x e f = e ∙ ap (λ xs. x ∷ xs) f
