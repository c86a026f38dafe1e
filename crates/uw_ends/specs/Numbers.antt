-- Numbers as words of the command line.
use Rattle.std.specs.Prelude.{ℕ, ◌==◌, nat_le, Bool, false, ◌&&◌, if◌then◌else◌, List, [], ◌∷◌, length, Option, None, Some, option_map, option_and_then}
use Rattle.std.specs.List.{slice_split}
use Rattle.uw_base.specs.Numbers.{decimal_of}

-- a zero (48) and more behind it
abbrev pub has_leading_zero : List ℕ → Bool
has_leading_zero [] = false
has_leading_zero (byte ∷ []) = false
has_leading_zero (byte ∷ next ∷ rest) = byte == 48

-- the number that decimal digits write, without a sign or a leading zero (own rule)
abbrev pub plain_number : List ℕ → Option ℕ
plain_number text = if has_leading_zero text then None else decimal_of text

-- a number from `low` to `high`, or none
abbrev pub within_range : ℕ → ℕ → Option ℕ → Option ℕ
within_range low high None = None
within_range low high (Some number) = if nat_le low number && nat_le number high then Some number else None

-- the same, from `low` to `high`
abbrev pub number_within : ℕ → ℕ → List ℕ → Option ℕ
number_within low high text = within_range low high (plain_number text)

-- what each text gives, if each gives something
abbrev pub all_read : (List ℕ → Option ℕ) → List (List ℕ) → Option (List ℕ)
all_read read [] = Some []
all_read read (text ∷ texts) = option_and_then (λ number. option_map (λ numbers. number ∷ numbers) (all_read read texts)) (read text)

-- 1 to 64 numbers joined by commas (44), each from 1 to 1,000,000,000 (own rule)
abbrev pub deaths_of : List ℕ → Option (List ℕ)
deaths_of text =
    let parts = slice_split (λ byte. byte == 44) text in
    if nat_le (length parts) 64 then all_read (number_within 1 1000000000) parts else None
