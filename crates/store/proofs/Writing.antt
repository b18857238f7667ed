-- Recover, commit and format follow the ledger.
use Rattle.std.proofs.Common.{◌≡◌, ℕ, ◌+◌, ◌≤◌, Bool, true, false, cond, eqb, leb, ◌⊎◌, List, [], ◌∷◌, ◌++◌, length, is_some, Some, None, Ok, Err, Option, Result, sym, refl, ap, ◌∙◌, subst, inl, inr, ⊎_elim, arith, MatchResult}
use Rattle.std.proofs.lemmas.List.{length-append}
use Rattle.std.proofs.lemmas.Bool.{both_ways, cond-true, cond-false, eq-eqb, ne_eqb, le-leb, leb-true, and_from, and_parts}
use Rattle.flash.specs.FlashState.{FlashState}
use Rattle.flash.specs.Calls.{PoweredUp}
use Rattle.layout.specs.declared.meanings.Pair.{Pair}
use Rattle.layout.specs.PairLists.{merged}
use Rattle.journal.specs.Reading.{Reading, reads}
use Rattle.journal.specs.Commit.{fits, writes_needed, committed, formatting, formatted, Change, Holds}
use Rattle.journal.specs.Outcomes.{Usable, Finished, CutShort, CutCommit, Committable}
use Rattle.journal.proofs.Theorem.{needed}
use Rattle.store.specs.declared.entries.Entry.{Entry}
use Rattle.store.specs.declared.entries.Entry.TheVariants.{Recover, Commit}
use Rattle.store.specs.declared.refusals.Refusal.{Refusal}
use Rattle.store.specs.declared.refusals.Refusal.TheVariants.{Cold, WrongTicket, LastNumber, WriteStopped}
use Rattle.store.specs.Stops.{is_roomy, Stop, stops, refused_at}
use Rattle.store.specs.Memories.{Memory, cold, ready, changing, Known}
use Rattle.store.specs.Moments.{Moment}
use Rattle.store.specs.Calls.{last_number, If, recover_answer, recover_memory, Recovers, written, written_memory, Formats, CommitsOpen, Commits}
use Rattle.store.specs.Ledger.{OpenChange, Ledger, ledger, laid, pairs_by, number_by, one_more, change_in, resolves, stands, ledger_of, cut_since_recover}
use Rattle.store.specs.Law.{CutExactlyBelow, SettledCommitRight, CommitRight, Settled, InDoubt, AgreesIn, Agrees, CallFollowsLedger, BeginsPast}
use Rattle.store.proofs.Following.{moment_at, if_both, if_true, if_false, laid_last, no_step, follows, plainly}

pub roomy_usable : (s : FlashState) → 2 ≤ length s.units → 64 ≤ s.width → is_roomy s ≡ true
roomy_usable s two enough = and_from _ _ (le-leb 2 (length s.units) two) (le-leb 64 s.width enough)

pub roomy_parts : (s : FlashState) → is_roomy s ≡ true → (2 ≤ length s.units) × (64 ≤ s.width)
roomy_parts s e =
    let t = and_parts (leb 2 (length s.units)) (leb 64 s.width) e in
    (leb-true 2 (length s.units) t.0, leb-true 64 s.width t.1)

-- what completed writes leave is usable, and what they leave reads as r
pub finished_known : (s s' : FlashState) (n : ℕ) (r : Reading) → Usable s → Finished s n r s' → Known s' r
finished_known s s' n r u f =
    record {
      usable = record {
        on = ap (λ (x : FlashState). x.on) f.is;
        two = omega (arith, f.banks, u.two);
        enough = omega (arith, ap (λ (x : FlashState). x.width) f.is, u.enough);
      };
      read = f.read;
    }

pub powered_usable : (s s' : FlashState) → PoweredUp s s' → 2 ≤ length s.units → 64 ≤ s.width → Usable s'
powered_usable s s' p two enough =
    record {
      on = ap (λ (x : FlashState). x.on) p.is;
      two = omega (arith, ap (λ (x : FlashState). length x.units) p.is, two);
      enough = omega (arith, ap (λ (x : FlashState). x.width) p.is, enough);
    }

pub powered_reads : (s s' : FlashState) → PoweredUp s s' → reads s'.units ≡ reads s.units
powered_reads s s' p = ap (λ (x : FlashState). reads x.units) p.is

either_reading : {A : Type 0} (f : Reading → A) (b : Bool) (x y : Reading) (z : A) → f x ≡ z → f y ≡ z → f (cond b x y) ≡ z
either_reading f true x y z p q = p
either_reading f false x y z p q = q

committed_pairs : (width : ℕ) (r : Reading) (ch : List Pair) (n : ℕ) → (committed width r ch n).pairs ≡ merged r.pairs ch
committed_pairs width r ch n = either_reading (λ (x : Reading). x.pairs) (fits width r ch) _ _ (merged r.pairs ch) refl refl

committed_number : (width : ℕ) (r : Reading) (ch : List Pair) (n : ℕ) → (committed width r ch n).number ≡ n
committed_number width r ch n = either_reading (λ (x : Reading). x.number) (fits width r ch) _ _ n refl refl

-- the parts of a flash that is known
module _ (s : FlashState) (r : Reading) (k : Known s r) where
  pub known_roomy : is_roomy s ≡ true
  known_roomy = roomy_usable s k.usable.two k.usable.enough

  pub known_commits : (ch : List Pair) → Change ch → Committable s r ch (r.number + 1)
  known_commits ch c = record { usable = k.usable; read = k.read; few = c.few; next = refl }

module _ (first : ℕ) (past : List Entry) (m : Moment) where
  abbrev l : Ledger
  l = ledger_of past

  -- ---- recover

  recover_on : (a : Agrees first past m) (rd : Reading) → is_roomy m.flash ≡ true → 2 ≤ length m.flash.units → 64 ≤ m.flash.width → reads m.flash.units ≡ Some rd →
      (standing : List (List Pair)) → resolves l rd.number ≡ ledger standing None None → rd.pairs ≡ laid [] standing → rd.number ≡ length standing →
      ((rd.number ≡ number_by l) ⊎ ((rd.number ≡ number_by l + 1) × (is_some l.doubt ≡ true))) →
      (r : Result ℕ Refusal) (m' : Moment) → Recovers m r m' → CallFollowsLedger first past m (Recover r) m'
  recover_on a rd big two enough e standing after pairs number which r m' d =
      if_both (CallFollowsLedger first past m (Recover r) m') (is_roomy m.flash) d
      (λ _ x.
      let answer : r ≡ Ok rd.number = x.answer ∙ ap recover_answer e in
      let memory : m'.memory ≡ ready rd = x.memory ∙ ap recover_memory e in
      let here : m' ≡ moment_at m'.flash (ready rd) m'.next = λ i. moment_at m'.flash (memory i) m'.next in
      let settled : Settled m'.flash (resolves l rd.number) rd None =
      subst (λ (k : Ledger). Settled m'.flash k rd None) (sym after)
      (record {
        known = record { usable = powered_usable m.flash m'.flash x.power_up two enough; read = powered_reads m.flash m'.flash x.power_up ∙ e };
        same_pairs = pairs;
        same_number = number;
        same_open = refl;
        no_doubt = refl;
      }) in
      subst (λ (q : Moment). CallFollowsLedger first past m (Recover r) q) (sym here)
      (subst (λ (q : Result ℕ Refusal). CallFollowsLedger first past m (Recover q) (moment_at m'.flash (ready rd) m'.next)) (sym answer)
      (follows first past m (Recover (Ok rd.number)) (moment_at m'.flash (ready rd) m'.next) a (no_step l (Recover (Ok rd.number)) refl)
      (record { number = rd.number; accepted = refl; which = which }) settled refl (x.next ∙ a.next) (number ∙ ap number_by (sym after)))))
      (λ small _. absurd (both_ways (is_roomy m.flash) small big))

  -- nothing new stands
  resolves_old : (n : ℕ) → n ≡ number_by l → resolves l n ≡ ledger l.standing None None
  resolves_old n e =
      ap (λ (x : List (List Pair)). ledger x None None)
      (cond-false (eqb n (number_by l + 1)) (l.standing ++ one_more l.doubt) l.standing (ne_eqb n (number_by l + 1) (λ q. omega arith)))

  -- the change in doubt stands
  resolves_new : (n : ℕ) (ch : List Pair) → l.doubt ≡ Some ch → n ≡ number_by l + 1 → resolves l n ≡ ledger (l.standing ++ ch ∷ []) None None
  resolves_new n ch d e =
      ap (λ (x : List (List Pair)). ledger x None None)
      (cond-true (eqb n (number_by l + 1)) (l.standing ++ one_more l.doubt) l.standing (eq-eqb n (number_by l + 1) e) ∙ ap (λ o. l.standing ++ one_more o) d)

  recover_settled : (a : Agrees first past m) (rd : Reading) (o : Option OpenChange) → Settled m.flash l rd o →
      (r : Result ℕ Refusal) (m' : Moment) → Recovers m r m' → CallFollowsLedger first past m (Recover r) m'
  recover_settled a rd o k =
      recover_on a rd (known_roomy m.flash rd k.known) k.known.usable.two k.known.usable.enough k.known.read l.standing
      (resolves_old rd.number k.same_number) k.same_pairs k.same_number (inl k.same_number)

  recover_doubt : (a : Agrees first past m) → (k : InDoubt m.flash l) →
      Holds m.flash.units (pairs_by l) (number_by l) ⊎ Holds m.flash.units (merged (pairs_by l) k.change) (number_by l + 1) →
      (r : Result ℕ Refusal) (m' : Moment) → Recovers m r m' → CallFollowsLedger first past m (Recover r) m'
  recover_doubt a k (inl h) =
      let big = roomy_parts m.flash k.roomy in
      recover_on a h.found k.roomy big.0 big.1 h.read l.standing (resolves_old h.found.number h.same_number) h.same_pairs h.same_number (inl h.same_number)
  recover_doubt a k (inr h) =
      let big = roomy_parts m.flash k.roomy in
      let one : length (l.standing ++ k.change ∷ []) ≡ number_by l + 1 = length-append l.standing (k.change ∷ []) in
      recover_on a h.found k.roomy big.0 big.1 h.read (l.standing ++ k.change ∷ []) (resolves_new h.found.number k.change k.in_doubt h.same_number)
      (h.same_pairs ∙ sym (laid_last [] l.standing k.change)) (h.same_number ∙ sym one) (inr (h.same_number, ap is_some k.in_doubt))

  pub recover_follows : (a : Agrees first past m) (mem : Memory) → AgreesIn mem m.flash l → (r : Result ℕ Refusal) (m' : Moment) → Recovers m r m' → CallFollowsLedger first past m (Recover r) m'
  recover_follows a cold k = recover_doubt a k k.units
  recover_follows a (ready rd) k = recover_settled a rd None k
  recover_follows a (changing rd t ch) k = recover_settled a rd (Some (record { ticket = t; pairs = ch })) k.0

  -- ---- commit

  -- where a ledger with no change in doubt has this open change, the ticket is the right one, and the number is not the last
  commit_right : (shown t : ℕ) (ch : List Pair) (r : Result ℕ Refusal) (number : ℕ) → l.doubt ≡ None → l.opened ≡ Some (record { ticket = t; pairs = ch }) → eqb shown t ≡ true →
      number ≡ number_by l → eqb number last_number ≡ false → CutExactlyBelow m.flash (pairs_by l) number ch r → CommitRight m.flash l l.doubt shown r
  commit_right shown t ch r number d o e same last x =
      subst (λ (q : Option (List Pair)). CommitRight m.flash l q shown r) (sym d)
      (subst (λ (q : Option OpenChange). SettledCommitRight m.flash l q shown r) (sym o)
      (if_true _ _ e
      (subst (λ (n : ℕ). If (eqb n last_number) (r ≡ Err LastNumber) (CutExactlyBelow m.flash (pairs_by l) n ch r)) same (if_false _ _ last x))))

  commit_refused : (shown : ℕ) (o : Option OpenChange) (why : Refusal) → l.doubt ≡ None → l.opened ≡ o → SettledCommitRight m.flash l o shown (Err why) →
      CommitRight m.flash l l.doubt shown (Err why)
  commit_refused shown o why d e x =
      subst (λ (q : Option (List Pair)). CommitRight m.flash l q shown (Err why)) (sym d)
      (subst (λ (q : Option OpenChange). SettledCommitRight m.flash l q shown (Err why)) (sym e) x)

  -- all writes completed
  commit_whole : (a : Agrees first past m) → false ≡ cut_since_recover past → (shown t : ℕ) (rd : Reading) (ch : List Pair) → Settled m.flash l rd (Some (record { ticket = t; pairs = ch })) → eqb shown t ≡ true →
      eqb rd.number last_number ≡ false → (s' : FlashState) (n' : ℕ) → n' ≡ m.next →
      Finished m.flash (writes_needed m.flash.width rd ch) (committed m.flash.width rd ch (rd.number + 1)) s' →
      CallFollowsLedger first past m (Commit shown (Ok (rd.number + 1))) (moment_at s' (ready (committed m.flash.width rd ch (rd.number + 1))) n')
  commit_whole a warm shown t rd ch k e last s' n' next f =
      let new = committed m.flash.width rd ch (rd.number + 1) in
      let stood : (stands l).standing ≡ l.standing ++ ch ∷ [] = ap (λ o. l.standing ++ one_more (change_in o)) k.same_open in
      let many : number_by (stands l) ≡ number_by l + 1 = ap length stood ∙ length-append l.standing (ch ∷ []) in
      let number : new.number ≡ number_by (stands l) = committed_number m.flash.width rd ch (rd.number + 1) ∙ ap (λ n. n + 1) k.same_number ∙ sym many in
      follows first past m (Commit shown (Ok (rd.number + 1))) (moment_at s' (ready new) n') a (no_step l (Commit shown (Ok (rd.number + 1))) refl)
      (commit_right shown t ch (Ok (rd.number + 1)) rd.number k.no_doubt k.same_open e k.same_number last
      (record {
        found = rd;
        read = k.known.read;
        same_pairs = k.same_pairs;
        same_number = refl;
        as_many = needed m.flash.width rd ch (rd.number + 1);
        cut = λ h. absurd (omega (arith, h, f.enough));
        whole = λ h. refl;
      }))
      (record {
        known = finished_known m.flash s' (writes_needed m.flash.width rd ch) new k.known.usable f;
        same_pairs = committed_pairs m.flash.width rd ch (rd.number + 1) ∙ ap (λ ps. merged ps ch) k.same_pairs ∙ sym (laid_last [] l.standing ch) ∙ ap (laid []) (sym stood);
        same_number = number;
        same_open = refl;
        no_doubt = k.no_doubt;
      })
      warm (next ∙ a.next) (ap (λ n. n + 1) k.same_number ∙ sym many)

  -- a write was cut
  commit_cut : (a : Agrees first past m) (shown t : ℕ) (rd : Reading) (ch : List Pair) → Settled m.flash l rd (Some (record { ticket = t; pairs = ch })) → eqb shown t ≡ true →
      eqb rd.number last_number ≡ false → (s' : FlashState) (n' : ℕ) → n' ≡ m.next → (stop : Stop) → CutCommit stops m.flash rd ch (rd.number + 1) s' stop →
      CallFollowsLedger first past m (Commit shown (Err (WriteStopped stop.1))) (moment_at s' cold n')
  commit_cut a shown t rd ch k e last s' n' next stop f =
      follows first past m (Commit shown (Err (WriteStopped stop.1))) (moment_at s' cold n') a (no_step l (Commit shown (Err (WriteStopped stop.1))) refl)
      (commit_right shown t ch (Err (WriteStopped stop.1)) rd.number k.no_doubt k.same_open e k.same_number last
      (record {
        found = rd;
        read = k.known.read;
        same_pairs = k.same_pairs;
        same_number = refl;
        as_many = needed m.flash.width rd ch (rd.number + 1);
        cut = λ h. ap (λ p. Err (WriteStopped p)) f.cut.place;
        whole = λ h. absurd (omega (arith, h, f.cut.short));
      }))
      (record {
        change = ch;
        in_doubt = ap change_in k.same_open;
        none_open = refl;
        roomy = roomy_usable s' (omega (arith, f.cut.banks, k.known.usable.two)) (omega (arith, ap (λ (x : FlashState). x.width) f.cut.is, k.known.usable.enough));
        units = ⊎_elim (λ h. inl (record { found = h.found; read = h.read; same_pairs = h.same_pairs ∙ k.same_pairs; same_number = h.same_number ∙ k.same_number }))
            (λ h. inr (record { found = h.1.found; read = h.1.read; same_pairs = h.1.same_pairs ∙ ap (λ ps. merged ps ch) k.same_pairs; same_number = h.1.same_number ∙ ap (λ n. n + 1) k.same_number }))
            f.after;
      })
      refl (next ∙ a.next) tt

  -- put to use at the moment after the call
  landed : (shown : ℕ) (r answer : Result ℕ Refusal) (m' : Moment) (mem : Memory) → r ≡ answer → m'.memory ≡ mem →
      CallFollowsLedger first past m (Commit shown answer) (moment_at m'.flash mem m'.next) → CallFollowsLedger first past m (Commit shown r) m'
  landed shown r answer m' mem er em x =
      let here : m' ≡ moment_at m'.flash mem m'.next = λ i. moment_at m'.flash (em i) m'.next in
      subst (λ (q : Moment). CallFollowsLedger first past m (Commit shown r) q) (sym here)
      (subst (λ (q : Result ℕ Refusal). CallFollowsLedger first past m (Commit shown q) (moment_at m'.flash mem m'.next)) (sym er) x)

  commit_by : (a : Agrees first past m) → false ≡ cut_since_recover past → (shown t : ℕ) (rd : Reading) (ch : List Pair) →
      Settled m.flash l rd (Some (record { ticket = t; pairs = ch })) → eqb shown t ≡ true → eqb rd.number last_number ≡ false → (r : Result ℕ Refusal) (m' : Moment) → m'.next ≡ m.next →
      (result : Result (Unit {0}) Stop) →
      MatchResult result (λ _. Finished m.flash (writes_needed m.flash.width rd ch) (committed m.flash.width rd ch (rd.number + 1)) m'.flash) (CutCommit stops m.flash rd ch (rd.number + 1) m'.flash) →
      r ≡ written (rd.number + 1) (refused_at result) → m'.memory ≡ written_memory (committed m.flash.width rd ch (rd.number + 1)) (refused_at result) →
      CallFollowsLedger first past m (Commit shown r) m'
  commit_by a warm shown t rd ch k e last r m' next (Ok x) f answer memory =
      landed shown r _ m' _ answer memory (commit_whole a warm shown t rd ch k e last m'.flash m'.next next f)
  commit_by a warm shown t rd ch k e last r m' next (Err stop) f answer memory =
      landed shown r _ m' _ answer memory (commit_cut a shown t rd ch k e last m'.flash m'.next next stop f)

  commit_open : (a : Agrees first past m) → false ≡ cut_since_recover past → (shown t : ℕ) (rd : Reading) (ch : List Pair) →
      Settled m.flash l rd (Some (record { ticket = t; pairs = ch })) → Change ch → eqb shown t ≡ true → (r : Result ℕ Refusal) (m' : Moment) → CommitsOpen m rd ch r m' →
      CallFollowsLedger first past m (Commit shown r) m'
  commit_open a warm shown t rd ch k c e r m' d =
      if_both (CallFollowsLedger first past m (Commit shown r) m') (eqb rd.number last_number) d
      (λ last x. plainly first past (Commit shown) m m' r (Err LastNumber) (ready rd) m.next x
      (follows first past m (Commit shown (Err LastNumber)) (moment_at m.flash (ready rd) m.next) a (no_step l (Commit shown (Err LastNumber)) refl)
      (commit_refused shown (Some (record { ticket = t; pairs = ch })) LastNumber k.no_doubt k.same_open
      (if_true _ _ e (if_true _ _ (ap (λ n. eqb n last_number) (sym k.same_number) ∙ last) refl)))
      (record { known = k.known; same_pairs = k.same_pairs; same_number = k.same_number; same_open = refl; no_doubt = k.no_doubt })
      warm a.next tt))
      (λ last x. commit_by a warm shown t rd ch k e last r m' x.next x.run.result
      (x.run.whole_or_absent (known_commits m.flash rd k.known ch c))
      (x.answer ∙ ap (written (rd.number + 1)) x.run.answer) (x.memory ∙ ap (written_memory (committed m.flash.width rd ch (rd.number + 1))) x.run.answer))

module _ (first : ℕ) (past : List Entry) (s : FlashState) (n : ℕ) where
  pub commit_follows : (shown : ℕ) (mem : Memory) → Agrees first past (moment_at s mem n) → (r : Result ℕ Refusal) (m' : Moment) → Commits mem (moment_at s mem n) shown r m' →
      CallFollowsLedger first past (moment_at s mem n) (Commit shown r) m'
  commit_follows shown cold a r m' d =
      let m : Moment = moment_at s cold n in
      plainly first past (Commit shown) m m' r (Err Cold) cold n d
      (follows first past m (Commit shown (Err Cold)) m a (no_step (ledger_of past) (Commit shown (Err Cold)) refl)
      (subst (λ (q : Option (List Pair)). CommitRight s (ledger_of past) q shown (Err Cold)) (sym a.memory.in_doubt) refl) a.memory a.cold_since a.next tt)
  commit_follows shown (ready rd) a r m' d =
      let m : Moment = moment_at s (ready rd) n in
      plainly first past (Commit shown) m m' r (Err WrongTicket) (ready rd) n d
      (follows first past m (Commit shown (Err WrongTicket)) m a (no_step (ledger_of past) (Commit shown (Err WrongTicket)) refl)
      (commit_refused first past m shown None WrongTicket a.memory.no_doubt a.memory.same_open refl) a.memory a.cold_since a.next tt)
  commit_follows shown (changing rd t ch) a r m' d =
      let m : Moment = moment_at s (changing rd t ch) n in
      if_both (CallFollowsLedger first past m (Commit shown r) m') (eqb shown t) d
      (λ e x. commit_open first past m a a.cold_since shown t rd ch a.memory.0 a.memory.1 e r m' x)
      (λ e x. plainly first past (Commit shown) m m' r (Err WrongTicket) (changing rd t ch) n x
      (follows first past m (Commit shown (Err WrongTicket)) m a (no_step (ledger_of past) (Commit shown (Err WrongTicket)) refl)
      (commit_refused first past m shown (Some (record { ticket = t; pairs = ch })) WrongTicket a.memory.0.no_doubt a.memory.0.same_open (if_false _ _ e refl))
      a.memory a.cold_since a.next tt))

-- ---- format

format_by : (m m' : Moment) (p : FlashState) → Usable p → (r : Result ℕ Refusal) (result : Result (Unit {0}) Stop) →
    MatchResult result (λ _. Finished p 3 formatted m'.flash) (CutShort stops p formatting 3 m'.flash) → r ≡ written 0 (refused_at result) →
    m'.memory ≡ written_memory formatted (refused_at result) → BeginsPast r m'
format_by m m' p u r (Ok x) f answer memory =
    let here : m' ≡ moment_at m'.flash (ready formatted) m'.next = λ i. moment_at m'.flash (memory i) m'.next in
    subst (λ (q : Result ℕ Refusal). BeginsPast q m') (sym answer) (
      refl,
      subst (λ (q : Moment). Agrees m'.next [] q) (sym here)
          (record {
            memory = record { known = finished_known p m'.flash 3 formatted u f; same_pairs = refl; same_number = refl; same_open = refl; no_doubt = refl };
            cold_since = refl;
            next = omega arith;
            steps = λ ut st g. absurd g;
          }),
    )
format_by m m' p u r (Err stop) f answer memory = subst (λ (q : Result ℕ Refusal). BeginsPast q m') (sym answer) tt

pub format_begins : (m : Moment) (r : Result ℕ Refusal) (m' : Moment) → Formats m r m' → BeginsPast r m'
format_begins m r m' d =
    if_both (BeginsPast r m') (is_roomy m.flash) d
    (λ big x.
    let parts = roomy_parts m.flash big in
    let u = powered_usable m.flash x.run.powered x.run.power_up parts.0 parts.1 in
    format_by m m' x.run.powered u r x.run.run.result (x.run.run.empty u) (x.answer ∙ ap (written 0) x.run.run.answer) (x.memory ∙ ap (written_memory formatted) x.run.run.answer))
    (λ small x. subst (λ (q : Result ℕ Refusal). BeginsPast q m') (sym x.0) tt)
