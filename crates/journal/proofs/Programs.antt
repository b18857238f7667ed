-- What a row of programs leaves, whole or cut, in a bank with blank units at its end.
use Rattle.std.proofs.Common.{◌≡◌, ℕ, zero, suc, ◌+◌, ◌<◌, ◌≤◌, ◌≢◌, ◌⊎◌, List, [], ◌∷◌, ◌++◌, map, length, get_or, take, set, replicate, sym, refl, ap, ◌∙◌, inl, inr, arith}
use Rattle.std.proofs.lemmas.List.{append_assoc, length-append, set_at, get_or_at, set-set, set-get_or, get_or-set_same, get_or-set_other, length-set}
use Rattle.flash.specs.declared.units.Unit.{Unit as Cell}
use Rattle.flash.specs.declared.units.Unit.TheVariants.{Blank, Programmed}
use Rattle.flash.specs.Calls.{ProgramResidue}
use Rattle.layout.specs.declared.meanings.Meaning.TheVariants.{Noise}
use Rattle.layout.specs.Codec.{decoded, meaning_of}
use Rattle.journal.specs.Reading.{meanings, Banks, bank}
use Rattle.journal.specs.Writes.{Write, program, done}
use Rattle.journal.specs.Commit.{programs}
use Rattle.journal.proofs.Charges.{AllReady, Leaves}

-- banks after a change of one
pub bank_same : (bs : Banks) (b : ℕ) (us : List Cell) → b < length bs → bank b (set bs b us) ≡ us
bank_same bs b us h = get_or-set_same bs b us [] h

pub bank_other : (bs : Banks) (b c : ℕ) (us : List Cell) → c ≢ b → bank c (set bs b us) ≡ bank c bs
bank_other bs b c us h = get_or-set_other bs b c us [] h

pub length_programs : (b u : ℕ) (vs : List ℕ) → length (programs b u vs) ≡ length vs
length_programs b u [] = refl
length_programs b u (v ∷ vs) = ap suc (length_programs b (suc u) vs)

pub meanings_append : (us xs : List Cell) → meanings (us ++ xs) ≡ meanings us ++ meanings xs
meanings_append [] xs = refl
meanings_append (u ∷ us) xs = ap (λ l. meaning_of u ∷ l) (meanings_append us xs)

pub meanings_blank : (m : ℕ) → meanings (replicate m Blank) ≡ replicate m Noise
meanings_blank zero = refl
meanings_blank (suc m) = ap (λ l. Noise ∷ l) (meanings_blank m)

pub meanings_programmed : (vs : List ℕ) → meanings (map Programmed vs) ≡ map decoded vs
meanings_programmed [] = refl
meanings_programmed (v ∷ vs) = ap (λ l. decoded v ∷ l) (meanings_programmed vs)

-- the bank b is set to front and x
abbrev pub SetTo : ℕ → Banks → Banks → List Cell → Type 0
SetTo b bs after us = after ≡ set bs b us

-- A cut in a row of programs: the units say what j programs would say, where j are done, or one of them is the one cut.
pub record Torn (b : ℕ) (bs after : Banks) (front : List Cell) (vs : List ℕ) (k : ℕ) : Type 0 where
  pub behind : List Cell
  pub sets : SetTo b bs after (front ++ behind)
  pub standing : ℕ
  pub blank : ℕ
  pub which : (standing ≡ k) ⊎ (standing ≡ suc k)
  pub says : meanings behind ≡ map decoded (take standing vs) ++ replicate blank Noise

module _ (width : ℕ) where
  -- all writes done
  abbrev pub done_all : List Write → Banks → Banks
  done_all [] bs = bs
  done_all (w ∷ ws) bs = done_all ws (done width w bs)

  pub leaves_all : (k : ℕ) (ws : List Write) (bs after : Banks) → length ws ≤ k → Leaves width k ws bs after → after ≡ done_all ws bs
  leaves_all zero [] bs after h l = l
  leaves_all (suc k) [] bs after h l = l
  leaves_all zero (w ∷ ws) bs after h l = absurd (omega arith)
  leaves_all (suc k) (w ∷ ws) bs after h l = leaves_all k ws (done width w bs) after (omega arith) l

  -- a cut falls in the first writes or in the later ones
  pub leaves_append : (k : ℕ) (ws vs : List Write) (bs after : Banks) → Leaves width k (ws ++ vs) bs after →
      ((k < length ws) × Leaves width k ws bs after) ⊎ ((j : ℕ) × (k ≡ length ws + j) × Leaves width j vs (done_all ws bs) after)
  leaves_append zero [] vs bs after l = inr (zero, omega arith, l)
  leaves_append (suc k) [] vs bs after l = inr (suc k, omega arith, l)
  leaves_append zero (w ∷ ws) vs bs after l = inl (omega arith, l)
  leaves_append (suc k) (w ∷ ws) vs bs after l = later (leaves_append k ws vs (done width w bs) after l)
    where
      later : ((k < length ws) × Leaves width k ws (done width w bs) after) ⊎ ((j : ℕ) × (k ≡ length ws + j) × Leaves width j vs (done_all ws (done width w bs)) after) →
          ((suc k < suc (length ws)) × Leaves width k ws (done width w bs) after) ⊎ ((j : ℕ) × (suc k ≡ suc (length ws) + j) × Leaves width j vs (done_all ws (done width w bs)) after)
      later (inl p) = inl (omega arith, p.1)
      later (inr p) = inr (p.0, omega arith, p.2)

  pub ready_append : (ws vs : List Write) (bs : Banks) → AllReady width ws bs → AllReady width vs (done_all ws bs) → AllReady width (ws ++ vs) bs
  ready_append [] vs bs r q = q
  ready_append (w ∷ ws) vs bs r q = (r.0, ready_append ws vs (done width w bs) r.1 q)

  pub done_append : (ws vs : List Write) (bs : Banks) → done_all (ws ++ vs) bs ≡ done_all vs (done_all ws bs)
  done_append [] vs bs = refl
  done_append (w ∷ ws) vs bs = done_append ws vs (done width w bs)

  -- A bank that begins with front, has m blank units after it, and is bank b of bs.
  pub record Room (b u : ℕ) (bs : Banks) (front : List Cell) (m : ℕ) : Type 0 where
    pub there : b < length bs
    pub holds : bank b bs ≡ front ++ replicate m Blank
    pub long : length front ≡ u
    pub fit : u + m ≤ width

  written : {b u : ℕ} {bs : Banks} {front : List Cell} {m : ℕ} → Room b u bs front (suc m) → (x : Cell) →
      set (bank b bs) u x ≡ front ++ x ∷ replicate m Blank
  written {b} {u} {bs} {front} {m} r x =
      ap (λ us. set us u x) r.holds ∙ set_at front Blank (replicate m Blank) x u r.long

  -- one program done leaves one unit less of room
  pub room_step : {b u : ℕ} {bs : Banks} {front : List Cell} {m : ℕ} → Room b u bs front (suc m) → (v : ℕ) →
      Room b (suc u) (done width (program b u v) bs) (front ++ Programmed v ∷ []) m
  room_step {b} {u} {bs} {front} {m} r v = record {
    there = omega (arith, length-set bs b (set (bank b bs) u (Programmed v)), r.there);
    holds =
        bank_same bs b (set (bank b bs) u (Programmed v)) r.there ∙ written r (Programmed v)
        ∙ sym (append_assoc front (Programmed v ∷ []) (replicate m Blank));
    long = omega (arith, length-append front (Programmed v ∷ []), r.long);
    fit = omega (arith, r.fit);
  }

  pub programs_ready : (vs : List ℕ) {b u : ℕ} {bs : Banks} {front : List Cell} (m : ℕ) → Room b u bs front m → length vs ≤ m → AllReady width (programs b u vs) bs
  programs_ready [] m r h = tt
  programs_ready (v ∷ vs) zero r h = absurd (omega arith)
  programs_ready (v ∷ vs) {b} {u} {bs} {front} (suc m) r h =
      let inside : u < width = omega (arith, r.fit) in
      let blank : get_or (bank b bs) u Blank ≡ Blank =
      ap (λ us. get_or us u Blank) r.holds ∙ get_or_at front Blank (replicate m Blank) Blank u r.long in
      ((r.there, inside, blank), programs_ready vs m (room_step r v) (omega arith))

  set_again : (b u : ℕ) (bs after : Banks) (front : List Cell) (v : ℕ) (x : List Cell) →
      SetTo b (done width (program b u v) bs) after ((front ++ Programmed v ∷ []) ++ x) → SetTo b bs after (front ++ Programmed v ∷ x)
  set_again b u bs after front v x e =
      e ∙ set-set bs b (set (bank b bs) u (Programmed v)) ((front ++ Programmed v ∷ []) ++ x)
      ∙ ap (set bs b) (append_assoc front (Programmed v ∷ []) x)

  pub programs_done : (vs : List ℕ) {b u : ℕ} {bs : Banks} {front : List Cell} (m : ℕ) → Room b u bs front m → length vs ≤ m →
      (t : ℕ) × SetTo b bs (done_all (programs b u vs) bs) (front ++ (map Programmed vs ++ replicate t Blank))
  programs_done [] {b} {u} {bs} {front} m r h = (m, sym (set-get_or bs b []) ∙ ap (set bs b) r.holds)
  programs_done (v ∷ vs) zero r h = absurd (omega arith)
  programs_done (v ∷ vs) {b} {u} {bs} {front} (suc m) r h =
      let w = programs_done vs m (room_step r v) (omega arith) in
      (w.0, set_again b u bs _ front v (map Programmed vs ++ replicate w.0 Blank) w.1)

  torn_here : {b u : ℕ} {bs after : Banks} {front : List Cell} {m : ℕ} (v : ℕ) (vs : List ℕ) → Room b u bs front (suc m) →
      (x : Cell) → ProgramResidue v x → after ≡ set bs b (set (bank b bs) u x) → Torn b bs after front (v ∷ vs) zero
  torn_here {b} {u} {bs} {after} {front} {m} v vs r x (inl c) e = record {
    behind = x ∷ replicate m Blank;
    sets = e ∙ ap (set bs b) (written r x);
    standing = 0;
    blank = suc m;
    which = inl refl;
    says = ap (λ y. meaning_of y ∷ meanings (replicate m Blank)) c ∙ meanings_blank (suc m);
  }
  torn_here {b} {u} {bs} {after} {front} {m} v vs r x (inr (inl c)) e = record {
    behind = x ∷ replicate m Blank;
    sets = e ∙ ap (set bs b) (written r x);
    standing = 1;
    blank = m;
    which = inr refl;
    says = ap (λ y. meaning_of y ∷ meanings (replicate m Blank)) c ∙ ap (λ l. decoded v ∷ l) (meanings_blank m);
  }
  torn_here {b} {u} {bs} {after} {front} {m} v vs r x (inr (inr c)) e = record {
    behind = x ∷ replicate m Blank;
    sets = e ∙ ap (set bs b) (written r x);
    standing = 0;
    blank = suc m;
    which = inl refl;
    says = ap (λ y. meaning_of y ∷ meanings (replicate m Blank)) c ∙ meanings_blank (suc m);
  }

  torn_later : {b : ℕ} (u : ℕ) {bs after : Banks} {front : List Cell} (v : ℕ) (vs : List ℕ) (k : ℕ) →
      Torn b (done width (program b u v) bs) after (front ++ Programmed v ∷ []) vs k → Torn b bs after front (v ∷ vs) (suc k)
  torn_later {b} u {bs} {after} {front} v vs k t = record {
    behind = Programmed v ∷ t.behind;
    sets = set_again b u bs after front v t.behind t.sets;
    standing = suc t.standing;
    blank = t.blank;
    which = next t.which;
    says = ap (λ l. decoded v ∷ l) t.says;
  }
    where
      next : (t.standing ≡ k) ⊎ (t.standing ≡ suc k) → (suc t.standing ≡ suc k) ⊎ (suc t.standing ≡ suc (suc k))
      next (inl e) = inl (ap suc e)
      next (inr e) = inr (ap suc e)

  pub programs_cut : (vs : List ℕ) {b u : ℕ} {bs after : Banks} {front : List Cell} (m k : ℕ) → Room b u bs front m → length vs ≤ m →
      k < length vs → Leaves width k (programs b u vs) bs after → Torn b bs after front vs k
  programs_cut [] m k r h q l = absurd (omega arith)
  programs_cut (v ∷ vs) zero k r h q l = absurd (omega arith)
  programs_cut (v ∷ vs) (suc m) zero r h q l = torn_here v vs r l.residue l.allowed l.is
  programs_cut (v ∷ vs) {b} {u} (suc m) (suc k) r h q l = torn_later u v vs k (programs_cut vs m k (room_step r v) (omega arith) (omega arith) l)
