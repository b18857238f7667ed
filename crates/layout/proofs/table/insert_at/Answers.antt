use Rattle.std.proofs.Common.{◌≡◌, ℕ, ◌+◌, ◌-◌, ◌≤◌, List, [], ◌∷◌, length, take, drop, set, get_or, ap, sym, ◌∙◌, length-drop, arith}
use Rattle.std.specs.List.{insert}
use lib.Seq.{paste}
use Rattle.std.proofs.Math.Seq.{take-set-lt, set-append_seam}
use Rattle.std.proofs.lemmas.List.{take_more, length-take-le, append_assoc, drop-take, take-take, take_all, length-set}
use Rattle.std.proofs.lemmas.List.Edits.{length-paste, take-paste}
use Rattle.layout.proofs.table.insert_at.Goals as goal

-- all places, after those from i on were copied up by one and x was put at i
inserted : {X : Type 0} (xs : List X) (i n : ℕ) (x : X) → i ≤ n → n + 1 ≡ length xs →
    set (paste xs (i + 1) (drop i xs) (n - i)) i x ≡ insert (take n xs) i x
inserted xs i n x le last =
    let m = n - i in
    let ys = take m (drop i xs) in
    let moved = paste xs (i + 1) (drop i xs) m in
    let k = length-drop i xs in
    let whole : i + m ≡ n = omega arith in
    let more : n + 1 ≡ i + 1 + m = omega arith in
    let long : length (set moved i x) ≡ n + 1 = length-set moved i x ∙ length-paste xs (i + 1) (drop i xs) m (omega arith) (omega arith) ∙ sym last in
    let all = take_all (n + 1) (set moved i x) (omega arith) in
    let a = take-set-lt (n + 1) moved i x (omega arith) in
    let b = take-paste xs (i + 1) (drop i xs) m (omega arith) (omega arith) in
    let c = take_more xs i x (omega arith) in
    let d = append_assoc (take i xs) (get_or xs i x ∷ []) ys in
    let e = set-append_seam (take i xs) (get_or xs i x) ys x in
    let l = length-take-le i xs (omega arith) in
    let f = take-take i n xs le in
    let g = drop-take i m xs in
    cc

pub returns : goal.returns
returns g c =
    ap (λ xs. set xs c.args.at c.args.x) c.copy_within.ensures.after
    ∙ inserted c.args.xs.now c.args.at (length c.args.xs.now - 1) c.args.x (omega (arith, c.requires)) (omega (arith, c.requires))
