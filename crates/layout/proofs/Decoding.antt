-- What a content says, by its mark; and that a written unit is read back as what was written.
use Rattle.std.proofs.Common.{◌≡◌, ℕ, ◌/◌, ◌%◌, ◌^◌, ◌<◌, ◌≤◌, Bool, true, cond, eqb, leb, refl, sym, ap, ◌∙◌, arith, w32, SFits, to_z, of_z}
use Rattle.std.proofs.lemmas.Bool.Decides.{nat_tests}
use Rattle.std.proofs.lemmas.Int.{to_z-of_z, ints}
use Rattle.std.proofs.lemmas.Bool.{eq-eqb, le-leb, leb-true, cond-true, cond_both}
use Rattle.layout.specs.Contents.{content, sealed, crc_of}
use Rattle.layout.specs.Codec.{mark_of, second_of, word_of, content_meaning, decoded, as_record, as_commit, as_header, record_value, commit_value, header_value}
use Rattle.layout.specs.declared.meanings.Meaning.TheVariants.{Record, Commit, Header, Noise}
use Rattle.layout.specs.declared.meanings.Meaning.{Meaning}
use Rattle.layout.specs.declared.meanings.Pair.{Pair}
use Rattle.layout.specs.Catalogue.{pair_of, admits}
use Rattle.layout.proofs.WellFormed.{key_bounds, admits_fits}
use Rattle.layout.proofs.Bytes.{masks}
use Rattle.layout.proofs.Checks.{crc_of_below}

pub content_says : (n : ℕ) →
    content_meaning n
    ≡ cond (eqb (mark_of n) 0x52) (cond (admits (pair_of (second_of n) (to_z w32 (word_of n)))) (Record (pair_of (second_of n) (to_z w32 (word_of n)))) Noise)
    (cond (eqb (mark_of n) 0x43) (cond (leb (second_of n) 12) (Commit (second_of n) (word_of n)) Noise)
    (cond (eqb (mark_of n) 0x48) (cond (leb (second_of n) 48) (Header (second_of n) (word_of n)) Noise) Noise))
unfolding content_meaning as_record as_commit as_header
content_says n = refl

-- what a match on a content's mark, with the tests behind it, has to know
pub ruleset contents = (nat_tests, masks, content_says)

content_record : (n : ℕ) → mark_of n ≡ 0x52 → content_meaning n ≡ as_record (pair_of (second_of n) (to_z w32 (word_of n)))
unfolding content_meaning
content_record n h = cond-true (eqb (mark_of n) 0x52) _ _ (eq-eqb (mark_of n) 0x52 h)

content_commit : (n : ℕ) → mark_of n ≡ 0x43 → content_meaning n ≡ as_commit (second_of n) (word_of n)
unfolding content_meaning
content_commit n h = grind (arith, nat_tests)

content_header : (n : ℕ) → mark_of n ≡ 0x48 → content_meaning n ≡ as_header (second_of n) (word_of n)
unfolding content_meaning
content_header n h = grind (arith, nat_tests)

-- the parts of a content that was put together
mark_content : (m s w : ℕ) → s < 256 → w < 2 ^ 32 → mark_of (content m s w) ≡ m
unfolding content
mark_content m s w hs hw = omega arith

second_content : (m s w : ℕ) → s < 256 → w < 2 ^ 32 → second_of (content m s w) ≡ s
unfolding content
second_content m s w hs hw = omega arith

word_content : (m s w : ℕ) → s < 256 → w < 2 ^ 32 → word_of (content m s w) ≡ w
unfolding content
word_content m s w hs hw = omega arith

-- a sealed content is read as what the content says
decoded_sealed : (n : ℕ) → decoded (sealed n) ≡ content_meaning n
unfolding decoded sealed
decoded_sealed n =
    let b = crc_of_below n in
    let q : sealed n / 65536 ≡ n = omega arith in
    let r : sealed n % 65536 ≡ crc_of n = omega arith in
    cond-true (eqb (crc_of (sealed n / 65536)) (sealed n % 65536)) _ _ (eq-eqb _ _ (ap crc_of q ∙ sym r)) ∙ ap content_meaning q

pub decoded_record : (p : Pair) → p.key < 256 → SFits w32 p.value → decoded (record_value p) ≡ as_record p
unfolding record_value
decoded_record p hk hz =
    let w = of_z w32 p.value in
    let hw : w < 2 ^ 32 = omega (arith, ints) in
    let n = content 0x52 p.key w in
    decoded_sealed n ∙ content_record n (mark_content 0x52 p.key w hk hw)
    ∙ ap (λ k. as_record (pair_of k (to_z w32 (word_of n)))) (second_content 0x52 p.key w hk hw)
    ∙ ap (λ x. as_record (pair_of p.key (to_z w32 x))) (word_content 0x52 p.key w hk hw)
    ∙ ap (λ z. as_record (pair_of p.key z)) (to_z-of_z w32 p.value hz)

pub decoded_commit : (k n : ℕ) → k < 256 → n < 2 ^ 32 → decoded (commit_value k n) ≡ as_commit k n
unfolding commit_value
decoded_commit k w hk hw =
    let n = content 0x43 k w in
    let e = decoded_sealed n in
    let f = content_commit n (mark_content 0x43 k w hk hw) in
    let s = second_content 0x43 k w hk hw in
    let t = word_content 0x43 k w hk hw in
    cc

pub decoded_header : (k n : ℕ) → k < 256 → n < 2 ^ 32 → decoded (header_value k n) ≡ as_header k n
unfolding header_value
decoded_header k w hk hw =
    let n = content 0x48 k w in
    let e = decoded_sealed n in
    let f = content_header n (mark_content 0x48 k w hk hw) in
    let s = second_content 0x48 k w hk hw in
    let t = word_content 0x48 k w hk hw in
    cc

-- what is written is read back
pub record_read : (p : Pair) → admits p ≡ true → decoded (record_value p) ≡ Record p
unfolding as_record
record_read p a =
    let h = key_bounds p a in
    decoded_record p (omega arith) (admits_fits p a) ∙ cond-true (admits p) _ _ a

pub commit_read : (k n : ℕ) → k ≤ 12 → n < 2 ^ 32 → decoded (commit_value k n) ≡ Commit k n
unfolding as_commit
commit_read k n h b = decoded_commit k n (omega arith) b ∙ cond-true (leb k 12) _ _ (le-leb k 12 h)

pub header_read : (k n : ℕ) → k ≤ 48 → n < 2 ^ 32 → decoded (header_value k n) ≡ Header k n
unfolding as_header
header_read k n h b = decoded_header k n (omega arith) b ∙ cond-true (leb k 48) _ _ (le-leb k 48 h)

-- a unit that says a pair says an admitted one, and numbers have 32 bits
abbrev pub SoundAt : Meaning → Type 0
SoundAt Noise = Unit {0}
SoundAt (Record p) = admits p ≡ true
SoundAt (Commit c n) = (c ≤ 12) × (n < 2 ^ 32)
SoundAt (Header c n) = (c ≤ 48) × (n < 2 ^ 32)

sound_cond : (b : Bool) (x y : Meaning) → (b ≡ true → SoundAt x) → SoundAt y → SoundAt (cond b x y)
sound_cond b x y p q = cond_both b x y SoundAt p (λ _. q)

sound_content : (n : ℕ) → SoundAt (content_meaning n)
unfolding content_meaning as_record as_commit as_header
sound_content n =
    let p : Pair = pair_of (second_of n) (to_z w32 (word_of n)) in
    let b : word_of n < 2 ^ 32 = omega arith in
    let r : SoundAt (as_record p) = sound_cond (admits p) (Record p) Noise (λ h. h) tt in
    let c : SoundAt (as_commit (second_of n) (word_of n)) = sound_cond (leb (second_of n) 12) (Commit (second_of n) (word_of n)) Noise (λ e. (leb-true (second_of n) 12 e, b)) tt in
    let h : SoundAt (as_header (second_of n) (word_of n)) = sound_cond (leb (second_of n) 48) (Header (second_of n) (word_of n)) Noise (λ e. (leb-true (second_of n) 48 e, b)) tt in
    sound_cond (eqb (mark_of n) 0x52) (as_record p) _ (λ _. r)
    (sound_cond (eqb (mark_of n) 0x43) (as_commit (second_of n) (word_of n)) (cond (eqb (mark_of n) 0x48) (as_header (second_of n) (word_of n)) Noise) (λ _. c)
    (sound_cond (eqb (mark_of n) 0x48) (as_header (second_of n) (word_of n)) Noise (λ _. h) tt))

pub decoded_sound : (v : ℕ) → SoundAt (decoded v)
unfolding decoded
decoded_sound v =
    sound_cond (eqb (crc_of (v / 65536)) (v % 65536)) (content_meaning (v / 65536)) Noise (λ _. sound_content (v / 65536)) tt
