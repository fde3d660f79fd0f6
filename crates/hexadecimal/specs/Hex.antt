-- Upper-case hexadecimal. (01, The bench program)
-- Assumes nothing.
use Rattle.std.specs.Prelude.{ℕ, ◌+◌, ◌-◌, ◌*◌, ◌/◌, ◌%◌, List, [], ◌∷◌, ◌++◌, length, drop, ltb, eqb, Option, Some, None, Result, Ok, Err}
use Rattle.protocol.specs.Pick.{when◌then◌else◌}
use Rattle.hexadecimal.specs.declared.DecodeError.{DecodeError}
use Rattle.hexadecimal.specs.declared.DecodeError.TheVariants as error

-- a digit's value: 0 to 9, then A to F; 16 of any other byte
unfoldable pub value_of : ℕ → ℕ
value_of d =
    when ltb d 48 then 16 else
    when ltb d 58 then d - 48 else
    when ltb d 65 then 16 else
    when ltb d 71 then d - 55 else 16

-- a number that is below a limit
unfoldable pub below : ℕ → ℕ → Option ℕ
below limit n = when ltb n limit then Some n else None

-- the byte of two digits, the high one first; 256 where one is none
unfoldable pub byte_of : ℕ → ℕ → ℕ
byte_of high low =
    when ltb 15 (value_of high) then 256 else
    when ltb 15 (value_of low) then 256 else
    value_of high * 16 + value_of low

-- the bytes of the leading pairs that are good
unfoldable pub bytes_of : List ℕ → List ℕ
bytes_of [] = []
bytes_of (d ∷ []) = []
bytes_of (high ∷ low ∷ s) = when ltb 255 (byte_of high low) then [] else byte_of high low ∷ bytes_of s

-- what digits come to where there is room for so many bytes
unfoldable pub decoded_of : List ℕ → ℕ → Result ℕ DecodeError
decoded_of s room =
    when eqb (length s % 2) 1 then Err error.Bad else
    when ltb room (length s / 2) then Err error.TooLong else
    when ltb (length (bytes_of s)) (length s / 2) then Err error.Bad else Ok (length s / 2)

-- what decoding leaves: the good bytes over the front, unless the count is odd or there is no room
unfoldable pub out_decoded : List ℕ → List ℕ → List ℕ
out_decoded s out =
    when eqb (length s % 2) 1 then out else
    when ltb (length out) (length s / 2) then out else
    bytes_of s ++ drop (length (bytes_of s)) out

-- the digit of a value below 16 (of which the remainder is the value itself)
unfoldable pub digit_of : ℕ → ℕ
digit_of v = when ltb v 10 then v + 48 else v % 16 + 55

-- two digits for each byte, the high one first
unfoldable pub hex_of : List ℕ → List ℕ
hex_of [] = []
hex_of (b ∷ s) = digit_of (b / 16) ∷ digit_of (b % 16) ∷ hex_of s

-- what so many bytes come to where there is room for so many digits
unfoldable pub encoded_of : ℕ → ℕ → Option ℕ
encoded_of n room = when ltb (room / 2) n then None else Some (n * 2)

-- what encoding leaves: the digits over the front, where there is room
unfoldable pub out_encoded : List ℕ → List ℕ → List ℕ
out_encoded s out = when ltb (length out / 2) (length s) then out else hex_of s ++ drop (length (hex_of s)) out
