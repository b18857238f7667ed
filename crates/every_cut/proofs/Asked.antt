-- The calls that are asked for, one more at the end.
use Rattle.std.proofs.Common.{◌≡◌, ℕ, ◌+◌, List, [], ◌∷◌, ◌++◌, length, Ok, ap, arith}
use Rattle.layout.specs.declared.meanings.Pair.{Pair}
use Rattle.store.specs.declared.entries.Entry.TheVariants.{Begin as begun, Put as did_put}
use Rattle.runs.specs.declared.requests.Request.TheVariants.{Begin, Put}
use Rattle.every_cut.specs.declared.asking.ExpectedCall.{ExpectedCall}
use Rattle.every_cut.specs.Asked.{expected_call, put_calls, open_calls}

put_calls-push : (ticket n m : ℕ) (ps : List Pair) (p : Pair) → m ≡ n + length ps + 1 →
    put_calls ticket n (ps ++ p ∷ []) ≡ put_calls ticket n ps ++ expected_call (Put ticket p.key p.value) (did_put ticket p.key p.value (Ok m)) ∷ []
put_calls-push ticket n m [] p e =
    let same : n + 1 ≡ m = omega arith in
    ap (λ (k : ℕ). expected_call (Put ticket p.key p.value) (did_put ticket p.key p.value (Ok k)) ∷ []) same
put_calls-push ticket n m (q ∷ ps) p e =
    ap (λ (cs : List ExpectedCall). expected_call (Put ticket q.key q.value) (did_put ticket q.key q.value (Ok (n + 1))) ∷ cs)
    (put_calls-push ticket (n + 1) m ps p (omega arith))

-- a change with one pair more, which is the m-th
pub open_calls-push : (ticket m : ℕ) (ps : List Pair) (p : Pair) → m ≡ length ps + 1 →
    open_calls ticket (ps ++ p ∷ []) ≡ open_calls ticket ps ++ expected_call (Put ticket p.key p.value) (did_put ticket p.key p.value (Ok m)) ∷ []
open_calls-push ticket m ps p e =
    ap (λ (cs : List ExpectedCall). expected_call Begin (begun (Ok ticket)) ∷ cs) (put_calls-push ticket 0 m ps p (omega arith))
