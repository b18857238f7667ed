-- A value that says something is the one that is written for it.
use Rattle.std.proofs.Common.{◌≡◌, ℕ, ◌/◌, ◌%◌, ◌^◌, ◌<◌, Bool, true, cond, eqb, leb, sym, ap, ◌∙◌, subst, arith, w32, SFits, to_z, of_z}
use Rattle.std.proofs.lemmas.Int.{of_z-to_z}
use Rattle.std.proofs.lemmas.Bool.{eqb-true, cond_both}
use Rattle.layout.specs.Contents.{content, sealed, crc_of}
use Rattle.layout.specs.Codec.{mark_of, second_of, word_of, content_meaning, decoded, as_record, as_commit, as_header, record_value, commit_value, header_value}
use Rattle.layout.specs.declared.meanings.Meaning.TheVariants.{Record, Commit, Header, Noise}
use Rattle.layout.specs.declared.meanings.Meaning.{Meaning}
use Rattle.layout.specs.declared.meanings.Pair.{Pair}
use Rattle.layout.specs.Catalogue.{pair_of, admits}
use Rattle.layout.proofs.Decoding.{decoded_record, decoded_commit, decoded_header}

-- the value that is written for what is said
abbrev Written : ℕ → Meaning → Type 0
Written v Noise = Unit {0}
Written v (Record p) = v ≡ record_value p
Written v (Commit c n) = v ≡ commit_value c n
Written v (Header c n) = v ≡ header_value c n

-- a content is put together from its parts
parts : (n m : ℕ) → mark_of n ≡ m → n ≡ content m (second_of n) (word_of n)
unfolding content
parts n m h = omega arith

written_cond : (v : ℕ) (b : Bool) (x y : Meaning) → (b ≡ true → Written v x) → Written v y → Written v (cond b x y)
written_cond v b x y p q = cond_both b x y (λ m. Written v m) p (λ _. q)

written_content : (v n : ℕ) → v ≡ sealed n → Written v (content_meaning n)
unfolding content_meaning as_record as_commit as_header record_value commit_value header_value
written_content v n e =
    let p : Pair = pair_of (second_of n) (to_z w32 (word_of n)) in
    let b : word_of n < 2 ^ 32 = omega arith in
    written_cond v (eqb (mark_of n) 0x52) (as_record p) _
    (λ h. written_cond v (admits p) (Record p) Noise
    (λ _. e ∙ ap sealed (parts n 0x52 (eqb-true (mark_of n) 0x52 h) ∙ ap (content 0x52 (second_of n)) (sym (of_z-to_z w32 (word_of n) b)))) tt)
    (written_cond v (eqb (mark_of n) 0x43) (as_commit (second_of n) (word_of n)) (cond (eqb (mark_of n) 0x48) (as_header (second_of n) (word_of n)) Noise)
    (λ h. written_cond v (leb (second_of n) 12) (Commit (second_of n) (word_of n)) Noise (λ _. e ∙ ap sealed (parts n 0x43 (eqb-true (mark_of n) 0x43 h))) tt)
    (written_cond v (eqb (mark_of n) 0x48) (as_header (second_of n) (word_of n)) Noise
    (λ h. written_cond v (leb (second_of n) 48) (Header (second_of n) (word_of n)) Noise (λ _. e ∙ ap sealed (parts n 0x48 (eqb-true (mark_of n) 0x48 h))) tt) tt))

-- a right CRC makes a value the sealed content
sealed_back : (v : ℕ) → crc_of (v / 65536) ≡ v % 65536 → v ≡ sealed (v / 65536)
unfolding sealed
sealed_back v h = omega arith

written : (v : ℕ) → Written v (decoded v)
unfolding decoded
written v =
    written_cond v (eqb (crc_of (v / 65536)) (v % 65536)) (content_meaning (v / 65536)) Noise
    (λ h. written_content v (v / 65536) (sealed_back v (eqb-true (crc_of (v / 65536)) (v % 65536) h))) tt

-- what a sealed content says, and that no other value says the same
pub said_record : (v : ℕ) (p : Pair) → v ≡ sealed (content 0x52 p.key (of_z w32 p.value)) → p.key < 256 → SFits w32 p.value → decoded v ≡ as_record p
unfolding record_value
said_record v p e hk hz = ap decoded e ∙ decoded_record p hk hz

pub only_record : (u v w : ℕ) (p : Pair) → decoded v ≡ Record p → u ≡ sealed (content 0x52 p.key w) → w ≡ of_z w32 p.value → v ≡ u
unfolding record_value
only_record u v w p d e f = subst (λ m. Written v m) d (written v) ∙ ap (λ x. sealed (content 0x52 p.key x)) (sym f) ∙ sym e

pub said_commit : (v k n : ℕ) → v ≡ sealed (content 0x43 k n) → k < 256 → n < 2 ^ 32 → decoded v ≡ as_commit k n
unfolding commit_value
said_commit v k n e hk hn = ap decoded e ∙ decoded_commit k n hk hn

pub only_commit : (u v k n : ℕ) → decoded v ≡ Commit k n → u ≡ sealed (content 0x43 k n) → v ≡ u
unfolding commit_value
only_commit u v k n d e = subst (λ m. Written v m) d (written v) ∙ sym e

pub said_header : (v k n : ℕ) → v ≡ sealed (content 0x48 k n) → k < 256 → n < 2 ^ 32 → decoded v ≡ as_header k n
unfolding header_value
said_header v k n e hk hn = ap decoded e ∙ decoded_header k n hk hn

pub only_header : (u v k n : ℕ) → decoded v ≡ Header k n → u ≡ sealed (content 0x48 k n) → v ≡ u
unfolding header_value
only_header u v k n d e = subst (λ m. Written v m) d (written v) ∙ sym e
