-- What a writer holds once the front of a text was written.
use Rattle.std.proofs.Common.{◌≡◌, ℕ, List, [], ◌∷◌, ◌++◌, length, take, drop, Option, Result, Ok, Err, sym, ap, subst, ◌∙◌, arith, append-nil, append_assoc}
use Rattle.std.proofs.Math.Seq.{take-append_seam}
use Rattle.std.proofs.lemmas.List.{take-append-drop}
use Rattle.std.proofs.KnownBytes.{Appends-kept, Appends-trans}
use Rattle.std.specs.Io.KnownBytes.{Appends, Keeps}
use Rattle.lines.specs.Outputs.{Writes}

-- a text, of which the front was written between a writer that held a and now holds b
abbrev pub Fronts : Option (List ℕ) → Option (List ℕ) → List ℕ → List ℕ → Type 0
Fronts a b text rest = (front : List ℕ) × (text ≡ front ++ rest) × Appends a b front

-- a write that failed after it
pub failed_after : (a b c : Option (List ℕ)) (text rest : List ℕ) → Fronts a b text rest → Keeps b c → (n : ℕ) × Appends a c (take n text)
failed_after a b c text rest x keeps =
    (length x.0, subst (Appends a c) (sym (ap (take (length x.0)) x.1 ∙ take-append_seam x.0 rest)) (Appends-kept a b c x.0 x.2 keeps))

-- a flush where nothing is left
pub flushed : {E : Type 0} (a b c : Option (List ℕ)) (text rest : List ℕ) (r : Result (Unit {0}) E) → length rest ≡ 0 → Fronts a b text rest → Keeps b c → Writes a c r text
flushed a b c text rest (Err e) none x keeps = failed_after a b c text rest x keeps
flushed a b c text [] (Ok tt) none x keeps = subst (Appends a c) (sym (x.1 ∙ append-nil x.0)) (Appends-kept a b c x.0 x.2 keeps)
flushed a b c text (r ∷ rs) (Ok tt) none x keeps = absurd (omega (arith, none))

-- a write that took n bytes more
pub fronts_more : (a b c : Option (List ℕ)) (text rest left : List ℕ) (n : ℕ) → Fronts a b text rest → Appends b c (take n rest) → left ≡ drop n rest → Fronts a c text left
fronts_more a b c text rest left n x more is = (
  x.0 ++ take n rest,
  x.1 ∙ ap (λ l. x.0 ++ l) (sym (take-append-drop n rest)) ∙ sym (append_assoc x.0 (take n rest) (drop n rest)) ∙ ap (λ l. (x.0 ++ take n rest) ++ l) (sym is),
  Appends-trans a b c x.0 (take n rest) x.2 more,
)

pub fronts_kept : (a b c : Option (List ℕ)) (text rest left : List ℕ) → Fronts a b text rest → Keeps b c → left ≡ rest → Fronts a c text left
fronts_kept a b c text rest left x keeps is = (x.0, x.1 ∙ ap (λ l. x.0 ++ l) (sym is), Appends-kept a b c x.0 x.2 keeps)
