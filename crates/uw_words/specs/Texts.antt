-- Texts as words of a region: eight bytes a word, the first lowest, and 0 behind the last (own rule).
use Rattle.std.specs.Prelude.{◌≡◌, ℕ, zero, suc, ◌+◌, ◌*◌, ◌<◌, List, [], ◌++◌, length, take, drop}
use Rattle.std.specs.Int.{w64, from_le_bytes, to_le_bytes, div_ceil}
use Rattle.uw_words.specs.Numbers.{places_from}

-- eight bytes of a text as a word, 0 for those past its end
abbrev pub text_word : List ℕ → ℕ → ℕ
text_word text k = from_le_bytes w64 (drop (8 * k) text)

-- how many words a text of so many bytes takes
abbrev pub text_words : ℕ → ℕ
text_words bytes = div_ceil bytes 8

-- the places of the words of a text of so many bytes
abbrev pub places_of_text : (at bytes : ℕ) → List ℕ
places_of_text at bytes = places_from at (text_words bytes)

-- the words from a place on are those of a text
abbrev pub HoldsText : (ℕ → ℕ) → ℕ → List ℕ → Type 0
HoldsText reader at text = (k : ℕ) → 8 * k < length text → reader (at + k) ≡ text_word text k

-- the bytes of so many words from a place on
abbrev pub word_bytes : (ℕ → ℕ) → (at count : ℕ) → List ℕ
word_bytes reader at zero = []
word_bytes reader at (suc count) = to_le_bytes w64 (reader at) ++ word_bytes reader (at + 1) count

-- so many bytes from a place on
abbrev pub text_at : (ℕ → ℕ) → (at bytes : ℕ) → List ℕ
text_at reader at bytes = take bytes (word_bytes reader at (text_words bytes))
