-- One line more in what a session has answered.
use Rattle.std.proofs.Common.{◌≡◌, ◌⊎◌, inl, inr, ℕ, ◌+◌, Bool, true, false, List, [], ◌∷◌, ◌++◌, length, cond, None, Some, OnSome, Option, sym, refl, ap, subst, ◌∙◌, append-nil}
use Rattle.std.proofs.KnownBytes.{Consumes-nil, Consumes-trans, Appends-nil, Appends-trans}
use Rattle.std.proofs.lemmas.List.{length-append}
use Rattle.std.proofs.lemmas.List.Concat.{flat_map-append}
use Rattle.std.specs.Io.KnownBytes.{Appends, Consumes, IsAtEnd}
use Rattle.lines.specs.declared.answers.Answer.{Answer}
use Rattle.lines.specs.Commands.{command_of}
use Rattle.lines.specs.Inputs.{lines_of, InOneLine, TakesLine, kept_of}
use Rattle.lines.specs.Outputs.{answer_line}
use Rattle.lines.proofs.InputLines.{lines_of-append, lines_of-line, lines_of-last, command_of-kept, ended-append}
use Rattle.session.specs.Sessions.{Session, Answered}
use Rattle.session.specs.Exchanges.{Exchange, Exchanges, AnswersLines, IsWhole, output_of}

-- nothing was read, answered or written yet
pub nothing_yet : (x : Exchange) → Exchanges x [] [] [] [] x
nothing_yet x = record { reads = Consumes-nil x.left; makes = refl; writes = Appends-nil x.held }

AnswersLines-more : (s m s' : Session) (lines : List (List ℕ)) (answers : List Answer) (line : List ℕ) (a : Answer) → AnswersLines s lines answers m → Answered (command_of line) m a s' →
    AnswersLines s (lines ++ line ∷ []) (answers ++ a ∷ []) s'
AnswersLines-more s m s' [] [] line a before now = (s', subst (λ s. Answered (command_of line) s a s') before now, refl)
AnswersLines-more s m s' [] (b ∷ answers) line a before now = absurd before
AnswersLines-more s m s' (l ∷ lines) [] line a before now = absurd before
AnswersLines-more s m s' (l ∷ lines) (b ∷ answers) line a before now = (before.0, before.1, AnswersLines-more before.0 m s' lines answers line a before.2 now)

-- the bytes that a line takes
abbrev pub with_end : List ℕ → Bool → List ℕ
with_end line last = cond last line (line ++ 10 ∷ [])

takes : (a b : Option (List ℕ)) (line : List ℕ) (last : Bool) → TakesLine a b line last → Consumes a b (with_end line last)
takes a b line true x = x.0.0
takes a b line false x = x

is_line : (a b : Option (List ℕ)) (line : List ℕ) (last : Bool) → InOneLine line → TakesLine a b line last → lines_of (with_end line last) ≡ line ∷ []
is_line a b line true one x = lines_of-last line one x.1
is_line a b line false one x = lines_of-line line one

ends : (a b c : Option (List ℕ)) (bs : List ℕ) → Consumes a b bs → OnSome b (IsAtEnd c) → OnSome a (IsAtEnd c)
ends None b c bs taken at_end = tt
ends (Some x) None c bs taken at_end = absurd taken
ends (Some x) (Some y) c bs taken at_end = at_end

-- the next line was read and answered, and this written
pub one_more : (x y z : Exchange) (read line kept bytes : List ℕ) (answers : List Answer) (a : Answer) (written : List ℕ) (last : Bool) →
    IsWhole read → Exchanges x read (lines_of read) answers (output_of answers) y →
    InOneLine line → TakesLine y.left z.left line last → kept ≡ bytes → bytes ≡ kept_of line → Answered (command_of kept) y.session a z.session → Appends y.held z.held written →
    Exchanges x (read ++ with_end line last) (lines_of (read ++ with_end line last)) (answers ++ a ∷ []) (output_of answers ++ written) z
one_more x y z read line kept bytes answers a written last whole before one taken same is answered appended =
    let means = ap command_of (same ∙ is) ∙ command_of-kept line in
    let lines = lines_of-append read (with_end line last) whole ∙ ap (λ ls. lines_of read ++ ls) (is_line y.left z.left line last one taken) in
    record {
      reads = Consumes-trans x.left y.left z.left read (with_end line last) before.reads (takes y.left z.left line last taken);
      makes = subst (λ ls. AnswersLines x.session ls (answers ++ a ∷ []) z.session) (sym lines)
          (AnswersLines-more x.session y.session z.session (lines_of read) answers line a before.makes (subst (λ c. Answered c y.session a z.session) means answered));
      writes = Appends-trans x.held y.held z.held (output_of answers) written before.writes appended;
    }

-- the same with its answer written whole
pub answered_more : (x y z : Exchange) (read line kept bytes : List ℕ) (answers : List Answer) (a : Answer) (last : Bool) →
    IsWhole read → Exchanges x read (lines_of read) answers (output_of answers) y →
    InOneLine line → TakesLine y.left z.left line last → kept ≡ bytes → bytes ≡ kept_of line → Answered (command_of kept) y.session a z.session → Appends y.held z.held (answer_line a) →
    Exchanges x (read ++ with_end line last) (lines_of (read ++ with_end line last)) (answers ++ a ∷ []) (output_of (answers ++ a ∷ [])) z
answered_more x y z read line kept bytes answers a last whole before one taken same is answered appended =
    let all = flat_map-append answer_line answers (a ∷ []) ∙ ap (λ l. output_of answers ++ l) (append-nil (answer_line a)) in
    let taken_all = read ++ with_end line last in
    subst (λ w. Exchanges x taken_all (lines_of taken_all) (answers ++ a ∷ []) w z) (sym all)
    (one_more x y z read line kept bytes answers a (answer_line a) last whole before one taken same is answered appended)

-- a part of the next line was read
pub part_more : (x y : Exchange) (left : Option (List ℕ)) (read part : List ℕ) (answers : List Answer) → Exchanges x read (lines_of read) answers (output_of answers) y →
    Consumes y.left left part → Exchanges x (read ++ part) (lines_of read) answers (output_of answers) (record { session = y.session; left = left; held = y.held })
part_more x y left read part answers before taken =
    record { reads = Consumes-trans x.left y.left left read part before.reads taken; makes = before.makes; writes = before.writes }

-- the end of the input behind it
pub at_the_end : (x y z : Exchange) (read line : List ℕ) → Consumes x.left y.left read → TakesLine y.left z.left line true → OnSome x.left (IsAtEnd z.left)
at_the_end x y z read line before taken = ends x.left y.left z.left read before taken.0.1

-- a line that was read goes to its end, or to that of the input
pub to_an_end : (x y z : Exchange) (read line : List ℕ) (last : Bool) → Consumes x.left y.left read → TakesLine y.left z.left line last →
    IsWhole (read ++ with_end line last) ⊎ OnSome x.left (IsAtEnd z.left)
to_an_end x y z read line true before taken = inr (at_the_end x y z read line before taken)
to_an_end x y z read line false before taken = inl (ended-append read line)

-- what was read stays whole behind a line that is not the last
pub whole-more : (read line : List ℕ) (last : Bool) → last ≡ false → IsWhole (read ++ with_end line last)
whole-more read line true e = absurd (cc e)
whole-more read line false e = ended-append read line

pub length-more : (answers : List Answer) (a : Answer) (n : ℕ) → length answers ≡ n → length (answers ++ a ∷ []) ≡ n + 1
length-more answers a n is = length-append answers (a ∷ []) ∙ ap (λ m. m + 1) is
