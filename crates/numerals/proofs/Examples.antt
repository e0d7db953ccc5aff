-- Worked examples of document 01 and of request 6, by computation; negsuc n is -(n + 1).
use mathlib.Core.Path.{◌≡◌, refl}
use Prim.Native.Nat.{ℕ}
use Prim.Native.String.{String}
use lib.IntN.{pos, negsuc}
use Rattle.language.specs.Bytes.{bytes_of}
use Rattle.std.specs.Prelude.{Option, None, Ok, Err}
use Rattle.amounts.specs.declared.AmountError.TheVariants.{Range}
use Rattle.numerals.specs.Written.{numeral_to, read_number}
use Rattle.numerals.specs.declared.Numeral.{Numeral}

abbrev reads : String → ℕ → Option Numeral
reads t i = read_number (bytes_of t) i

greatest_written : reads "9223372036854775807" 0 ≡ numeral_to 19 (Ok (pos 9223372036854775807))
greatest_written = refl

above_written : reads "9223372036854775808" 0 ≡ numeral_to 19 (Err Range)
above_written = refl

least_written : reads "-9223372036854775808" 0 ≡ numeral_to 20 (Ok (negsuc 9223372036854775807))
least_written = refl

below_written : reads "-9223372036854775809" 0 ≡ numeral_to 20 (Err Range)
below_written = refl

longest_match : reads "12ab" 0 ≡ numeral_to 2 (Ok (pos 12))
longest_match = refl

two_numbers : (reads "1-2" 0 ≡ numeral_to 1 (Ok (pos 1))) × (reads "1-2" 1 ≡ numeral_to 3 (Ok (negsuc 1)))
two_numbers = (refl, refl)

leading_zeros : reads "0000000000000000000000000007" 0 ≡ numeral_to 28 (Ok (pos 7))
leading_zeros = refl

many_digits : reads "99999999999999999999999999999999999999999" 0 ≡ numeral_to 41 (Err Range)
many_digits = refl

no_number : (reads "-" 0 ≡ None) × (reads "->" 0 ≡ None) × (reads "ab1" 0 ≡ None) × (reads "1" 1 ≡ None)
no_number = (refl, refl, refl, refl)
