-- The laws of numbers of 16 bits. Assumes nothing.
use Rattle.sheet_words.specs.Word.{WordLaws}
use Rattle.sheet_words.proofs.Signs.{signed_natural, signed_negative, signed_bits_lem, bits_signed_lem}
use Rattle.sheet_words.proofs.Bytes.{word_bytes_lem, bytes_word_lem}

pub word_laws : WordLaws
word_laws = record {
  natural = signed_natural;
  negative = signed_negative;
  signed_bits = signed_bits_lem;
  bits_signed = bits_signed_lem;
  word_bytes = word_bytes_lem;
  bytes_word = bytes_word_lem;
}
