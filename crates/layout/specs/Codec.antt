-- The values of units, and what a unit says.
use Rattle.std.specs.Prelude.{ℕ, ◌/◌, ◌%◌, cond, ◌==◌, nat_le}
use Rattle.std.specs.Int.{w32, cast_signed, cast_unsigned}
use Rattle.flash.specs.declared.units.Unit.{Unit as Cell}
use Rattle.flash.specs.declared.units.Unit.TheVariants.{Blank, Programmed, Unreadable}
use Rattle.layout.specs.Contents.{crc_of, sealed, content}
use Rattle.layout.specs.Catalogue.{admits}
use Rattle.layout.specs.Catalogue.{pair_of}
use Rattle.layout.specs.declared.meanings.Pair.{Pair}
use Rattle.layout.specs.declared.meanings.Meaning.{Meaning}
use Rattle.layout.specs.declared.meanings.Meaning.TheVariants.{Noise, Record, Commit, Header}

-- the parts of a content: b0, b1, and b2 to b5 as one number
abbrev pub mark_of : ℕ → ℕ
mark_of n = n / 1099511627776

abbrev pub second_of : ℕ → ℕ
second_of n = n / 4294967296 % 256

abbrev pub word_of : ℕ → ℕ
word_of n = n % 4294967296

-- the values that are written; a pair's value is in two's complement
unfoldable pub record_value : Pair → ℕ
record_value p = sealed (content 0x52 p.key (cast_unsigned w32 p.value))

unfoldable pub commit_value : ℕ → ℕ → ℕ
commit_value count number = sealed (content 0x43 count number)

unfoldable pub header_value : ℕ → ℕ → ℕ
header_value count number = sealed (content 0x48 count number)

-- a record is valid when the catalogue admits its pair; a commit counts at most 12 records, a header at most 48
unfoldable pub as_record : Pair → Meaning
as_record p = cond (admits p) (Record p) Noise

unfoldable pub as_commit : ℕ → ℕ → Meaning
as_commit count number = cond (nat_le count 12) (Commit count number) Noise

unfoldable pub as_header : ℕ → ℕ → Meaning
as_header count number = cond (nat_le count 48) (Header count number) Noise

-- what a content says
unfoldable pub content_meaning : ℕ → Meaning
content_meaning n =
    cond (mark_of n == 0x52) (as_record (pair_of (second_of n) (cast_signed w32 (word_of n))))
    (cond (mark_of n == 0x43) (as_commit (second_of n) (word_of n))
    (cond (mark_of n == 0x48) (as_header (second_of n) (word_of n)) Noise))

-- what a value says: nothing where its CRC is wrong
unfoldable pub decoded : ℕ → Meaning
decoded v = cond (crc_of (v / 65536) == v % 65536) (content_meaning (v / 65536)) Noise

-- what a unit says
abbrev pub meaning_of : Cell → Meaning
meaning_of Blank = Noise
meaning_of (Programmed v) = decoded v
meaning_of Unreadable = Noise
