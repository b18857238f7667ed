-- Every call keeps what the store knows and what its units say the same.
use Rattle.std.proofs.Common.{◌≡◌, ℕ, ◌+◌, ◌≤◌, eqb, List, [], length, Some, None, Ok, Err, Option, Result, sym, refl, ap, ◌∙◌, subst, MatchResult}
use Rattle.flash.specs.FlashState.{FlashState}
use Rattle.flash.specs.Calls.{PoweredUp}
use Rattle.layout.specs.declared.meanings.Pair.{Pair}
use Rattle.layout.specs.Catalogue.{pair_of}
use Rattle.journal.specs.Reading.{Reading, reads}
use Rattle.journal.specs.Commit.{writes_needed, committed, formatting, formatted, Change}
use Rattle.journal.specs.Outcomes.{Usable, Finished, CutShort, CutCommit}
use Rattle.store.specs.declared.entries.Entry.{Entry}
use Rattle.store.specs.declared.entries.Entry.TheVariants.{Recover, Begin, Put, Commit, Abandon, Get, Temperature, Pressure}
use Rattle.store.specs.declared.refusals.Refusal.{Refusal}
use Rattle.store.specs.Changes.{put_change}
use Rattle.store.specs.Stops.{Stop, stops, refused_at, is_roomy}
use Rattle.store.specs.Memories.{Memory, cold, ready, changing, Known, TiedIn}
use Rattle.store.specs.Moments.{Moment, Tied}
use Rattle.store.specs.Calls.{last_number, Plain, Recovers, recover_memory, written_memory, Formats, Begins, Puts, Commits, CommitsOpen, Abandons, Does}
use Rattle.store.proofs.Following.{if_both}
use Rattle.store.proofs.Changing.{put_cases}
use Rattle.store.proofs.Plainly.{none_change}
use Rattle.store.proofs.Writing.{finished_known, powered_usable, powered_reads, roomy_parts, known_commits}

plain_tied : {A : Type 0} (m m' : Moment) (r answer : Result A Refusal) (mem : Memory) (n : ℕ) → Plain m r answer mem n m' → TiedIn mem m.flash → Tied m'
plain_tied m m' r answer mem n d t =
    subst (λ (x : Memory). TiedIn x m'.flash) (sym d.1) (subst (λ (x : FlashState). TiedIn mem x) (sym d.3) t)

read_tied : (s s' : FlashState) → PoweredUp s s' → 2 ≤ length s.units → 64 ≤ s.width → (o : Option Reading) → reads s.units ≡ o → TiedIn (recover_memory o) s'
read_tied s s' p two enough None e = tt
read_tied s s' p two enough (Some r) e = record { usable = powered_usable s s' p two enough; read = powered_reads s s' p ∙ e }

recover_tied : (m : Moment) (r : Result ℕ Refusal) (m' : Moment) → Recovers m r m' → Tied m'
recover_tied m r m' d =
    if_both (Tied m') (is_roomy m.flash) d
    (λ big x.
    let parts = roomy_parts m.flash big in
    subst (λ (q : Memory). TiedIn q m'.flash) (sym x.memory) (read_tied m.flash m'.flash x.power_up parts.0 parts.1 (reads m.flash.units) refl))
    (λ small x. plain_tied m m' r _ cold m.next x tt)

written_tied : (s s' : FlashState) (n : ℕ) (r : Reading) → Usable s → (e : Stop → Type 0) (result : Result (Unit {0}) Stop) → MatchResult result (λ _. Finished s n r s') e →
    TiedIn (written_memory r (refused_at result)) s'
written_tied s s' n r u e (Ok x) f = finished_known s s' n r u f
written_tied s s' n r u e (Err stop) f = tt

pub format_tied : (m : Moment) (r : Result ℕ Refusal) (m' : Moment) → Formats m r m' → Tied m → Tied m'
format_tied m r m' d t =
    if_both (Tied m') (is_roomy m.flash) d
    (λ big x.
    let parts = roomy_parts m.flash big in
    let u = powered_usable m.flash x.run.powered x.run.power_up parts.0 parts.1 in
    subst (λ (q : Memory). TiedIn q m'.flash) (sym (x.memory ∙ ap (written_memory formatted) x.run.run.answer))
    (written_tied x.run.powered m'.flash 3 formatted u (CutShort stops x.run.powered formatting 3 m'.flash) x.run.run.result (x.run.run.empty u)))
    (λ small x. plain_tied m m' r _ m.memory m.next x t)

module _ (m m' : Moment) where
  commit_tied : (rd : Reading) (ch : List Pair) → Known m.flash rd → Change ch → (r : Result ℕ Refusal) → CommitsOpen m rd ch r m' → Tied m'
  commit_tied rd ch k c r d =
      if_both (Tied m') (eqb rd.number last_number) d
      (λ last x. plain_tied m m' r _ (ready rd) m.next x k)
      (λ last x.
      let new = committed m.flash.width rd ch (rd.number + 1) in
      subst (λ (q : Memory). TiedIn q m'.flash) (sym (x.memory ∙ ap (written_memory new) x.run.answer))
      (written_tied m.flash m'.flash (writes_needed m.flash.width rd ch) new k.usable (CutCommit stops m.flash rd ch (rd.number + 1) m'.flash) x.run.result
      (x.run.whole_or_absent (known_commits m.flash rd k ch c))))

  begin_in : (mem : Memory) → TiedIn mem m.flash → (r : Result ℕ Refusal) → Begins mem m r m' → Tied m → Tied m'
  begin_in cold t r d w = plain_tied m m' r _ m.memory m.next d w
  begin_in (ready rd) t r d w =
      if_both (Tied m') (eqb m.next last_number) d
      (λ _ x. plain_tied m m' r _ m.memory m.next x w)
      (λ _ x. plain_tied m m' r _ (changing rd m.next []) (m.next + 1) x (t, none_change))
  begin_in (changing rd u ch) t r d w = plain_tied m m' r _ m.memory m.next d w

  put_in : (mem : Memory) → TiedIn mem m.flash → (shown : ℕ) (p : Pair) (r : Result ℕ Refusal) → Puts mem m shown p r m' → Tied m → Tied m'
  put_in cold t shown p r d w = plain_tied m m' r _ m.memory m.next d w
  put_in (ready rd) t shown p r d w = plain_tied m m' r _ m.memory m.next d w
  put_in (changing rd u ch) t shown p r d w =
      if_both (Tied m') (eqb shown u) d
      (λ _ x. plain_tied m m' r _ (changing rd u (put_change ch p)) m.next x (t.0, put_cases ch p (λ _ ch'. Change ch') t.1 (λ _. t.1) (λ c. c)))
      (λ _ x. plain_tied m m' r _ m.memory m.next x w)

  commit_in : (mem : Memory) → TiedIn mem m.flash → (shown : ℕ) (r : Result ℕ Refusal) → Commits mem m shown r m' → Tied m → Tied m'
  commit_in cold t shown r d w = plain_tied m m' r _ m.memory m.next d w
  commit_in (ready rd) t shown r d w = plain_tied m m' r _ m.memory m.next d w
  commit_in (changing rd u ch) t shown r d w =
      if_both (Tied m') (eqb shown u) d
      (λ _ x. commit_tied rd ch t.0 t.1 r x)
      (λ _ x. plain_tied m m' r _ m.memory m.next x w)

  abandon_in : (mem : Memory) → TiedIn mem m.flash → (shown : ℕ) (r : Result (Unit {0}) Refusal) → Abandons tt mem m shown r m' → Tied m → Tied m'
  abandon_in cold t shown r d w = plain_tied m m' r _ m.memory m.next d w
  abandon_in (ready rd) t shown r d w = plain_tied m m' r _ m.memory m.next d w
  abandon_in (changing rd u ch) t shown r d w =
      if_both (Tied m') (eqb shown u) d
      (λ _ x. plain_tied m m' r _ (ready rd) m.next x t.0)
      (λ _ x. plain_tied m m' r _ m.memory m.next x w)

pub keeps_tied : (m : Moment) (e : Entry) (m' : Moment) → Does m e m' → Tied m → Tied m'
keeps_tied m (Recover r) m' d t = recover_tied m r m' d
keeps_tied m (Begin r) m' d t = begin_in m m' m.memory t r d t
keeps_tied m (Put shown k v r) m' d t = put_in m m' m.memory t shown (pair_of k v) r d t
keeps_tied m (Commit shown r) m' d t = commit_in m m' m.memory t shown r d t
keeps_tied m (Abandon shown r) m' d t = abandon_in m m' m.memory t shown r d t
keeps_tied m (Get k r) m' d t = plain_tied m m' r _ m.memory m.next d t
keeps_tied m (Temperature ut r) m' d t = plain_tied m m' r _ m.memory m.next d t
keeps_tied m (Pressure st up r) m' d t = plain_tied m m' r _ m.memory m.next d t
