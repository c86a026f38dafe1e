-- Numbers as decimal texts, and the hash of a key.
use Rattle.std.specs.Prelude.{ℕ, ◌+◌, ◌-◌, ◌*◌, ◌%◌, ◌^◌, ◌==◌, nat_lt, nat_le, Bool, ◌&&◌, if◌then◌else◌, List, [], ◌∷◌, length, fold, Option, None, Some, ℤ, pos, bit_xor, ◌-ℤ◌}
use Rattle.std.specs.List.{list_all}

-- the bytes 48 to 57
abbrev pub is_digit : ℕ → Bool
is_digit byte = nat_le 48 byte && nat_le byte 57

-- the number that digits write, the highest first
abbrev pub digits_number : List ℕ → ℕ
digits_number digits = fold (λ number digit. 10 * number + (digit - 48)) 0 digits

-- 1 to `most` digits, and nothing else
abbrev pub are_digits : ℕ → List ℕ → Bool
are_digits most text = nat_le 1 (length text) && nat_le (length text) most && list_all is_digit text

-- the number below 2^64 that 1 to 20 digits write (own rule)
abbrev pub decimal_of : List ℕ → Option ℕ
decimal_of text = if are_digits 20 text && nat_lt (digits_number text) (2 ^ 64) then Some (digits_number text) else None

-- the number from -2^63 to 2^63 - 1 that 1 to 19 digits write, after a `-` where it is negative (own rule)
abbrev pub signed_of : List ℕ → Option ℤ
signed_of [] = None
signed_of (byte ∷ digits) =
    if byte == 45 then (if are_digits 19 digits && nat_le (digits_number digits) (2 ^ 63) then Some (pos 0 -ℤ pos (digits_number digits)) else None)
    else (if are_digits 19 (byte ∷ digits) && nat_lt (digits_number (byte ∷ digits)) (2 ^ 63) then Some (pos (digits_number (byte ∷ digits))) else None)

-- one step of the hash: times 33, and the byte mixed in, within 32 bits
abbrev pub hash_step : ℕ → ℕ → ℕ
hash_step hash byte = bit_xor (hash * 33) byte % 2 ^ 32

-- the hash DJB33X of a key ("The Caching framework")
abbrev pub djb33x_of : List ℕ → ℕ
djb33x_of key = fold hash_step 5381 key
