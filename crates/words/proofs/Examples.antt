-- Document 01's examples of words, computed.
use mathlib.Core.Path.{◌≡◌, refl}
use mathlib.Core.List.{[]}
use lib.IntN.{pos, negsuc}
use Rattle.language.specs.Bytes.{bytes_of}
use Rattle.language.specs.Words.{name_at}
use Rattle.std.specs.Prelude.{None, Ok, Err}
use Rattle.words.specs.Next.{next_in, found_word, found_from}
use Rattle.words.specs.declared.Mark.TheVariants as mark
use Rattle.words.specs.declared.Token.TheVariants.{Mark, Number, Name}
use Rattle.words.specs.declared.WordError.TheVariants as error

-- the longest match: a number and a name, two numbers
number_then_name : found_from (bytes_of "12ab") 0 ≡ found_word (Number (pos 12)) 0 2
unfolding next_in
number_then_name = refl

name_behind : found_from (bytes_of "12ab") 2 ≡ found_word Name 2 4
unfolding next_in
name_behind = refl

first_of_two : found_from (bytes_of "1-2") 0 ≡ found_word (Number (pos 1)) 0 1
unfolding next_in
first_of_two = refl

second_of_two : found_from (bytes_of "1-2") 1 ≡ found_word (Number (negsuc 1)) 1 3
unfolding next_in
second_of_two = refl

-- `->` is one symbol, a lone `-` is BYTE
arrow : found_from (bytes_of "int->bool") 3 ≡ found_word (Mark mark.Arrow) 3 5
unfolding next_in
arrow = refl

lone_minus : found_from (bytes_of "(- 1)") 1 ≡ Err (error.Byte 1)
unfolding next_in
lone_minus = refl

last_minus : found_from (bytes_of " -") 0 ≡ Err (error.Byte 1)
unfolding next_in
last_minus = refl

no_word_byte : found_from (bytes_of "[ECHO 1}") 7 ≡ Err (error.Byte 7)
unfolding next_in
no_word_byte = refl

-- key words against names
key : found_from (bytes_of "[ECHO 1]") 1 ≡ found_word (Mark mark.Echo) 1 5
unfolding next_in
key = refl

longer_than_key : found_from (bytes_of "ECHOx") 0 ≡ found_word Name 0 5
unfolding next_in
longer_than_key = refl

other_letters : found_from (bytes_of "echo") 0 ≡ found_word Name 0 4
unfolding next_in
other_letters = refl

two_keys : found_from (bytes_of "if IF") 2 ≡ found_word (Mark mark.IfStatement) 3 5
unfolding next_in
two_keys = refl

-- the edges of the range
greatest : found_from (bytes_of "9223372036854775807") 0 ≡ found_word (Number (pos 9223372036854775807)) 0 19
unfolding next_in
greatest = refl

past_greatest : found_from (bytes_of "9223372036854775808") 0 ≡ Err (error.Number 0)
unfolding next_in
past_greatest = refl

least : found_from (bytes_of "-9223372036854775808") 0 ≡ found_word (Number (negsuc 9223372036854775807)) 0 20
unfolding next_in
least = refl

past_least : found_from (bytes_of "-9223372036854775809") 0 ≡ Err (error.Number 0)
unfolding next_in
past_least = refl

leading_zeros : found_from (bytes_of "000000000000000000000000000000000000000000000007") 0 ≡ found_word (Number (pos 7)) 0 48
unfolding next_in
leading_zeros = refl

-- separators, and the end
separators : found_from (bytes_of "1 \t\r\n]") 1 ≡ found_word (Mark mark.ListEnd) 5 6
unfolding next_in
separators = refl

end : found_from (bytes_of "1 \t\r\n") 1 ≡ Ok None
unfolding next_in
end = refl

past_end : found_from (bytes_of "1") 7 ≡ Ok None
unfolding next_in
past_end = refl

-- NAME knows no key words
name_of_key : name_at (bytes_of "[ECHO x1]") 1 ≡ bytes_of "ECHO"
name_of_key = refl

name_with_digit : name_at (bytes_of "[ECHO x1]") 6 ≡ bytes_of "x1"
name_with_digit = refl

name_at_digit : name_at (bytes_of "[ECHO x1]") 7 ≡ []
name_at_digit = refl

name_past_end : name_at (bytes_of "[ECHO x1]") 9 ≡ []
name_past_end = refl
