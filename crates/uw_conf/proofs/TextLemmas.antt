-- The lines of a text, and what a line is.
use Rattle.std.proofs.Common.{◌≡◌, ℕ, suc, ◌-◌, ◌<◌, ◌≤◌, Bool, true, false, ◌&&◌, ◌==◌, if◌then◌else◌, List, [], ◌∷◌, length, take, drop, refl, sym, ap, ◌∙◌, arith, Result, Ok, Err, is_ok, MatchResult, nat_eq}
use Rattle.std.proofs.lemmas.List.Splits.{length-slice_split}
use Rattle.std.proofs.lemmas.Bool.Decides.{nat_tests}
use Rattle.std.proofs.lemmas.Str.{utf8_valid_len-IsUtf8, utf8_valid_len-IsValidUpTo}
use Rattle.std.specs.Borrow.{Bor}
use Rattle.std.specs.List.{slice_split}
use Rattle.std.specs.Str.{IsUtf8, IsValidUpTo}
use Rattle.std.specs.Str.Lines.{lines, lines_of_parts, strip_carriage_return}
use Rattle.std.specs.Str.Lossy.{utf8_valid_len}
use Rattle.std.specs.Cmp.Lexicographic.{pointwise}
use Rattle.uw_conf.specs.Lines.{ends_with_byte, section, line_of, parted}

lines_of_more : (line : List ℕ) (parts : List (List ℕ)) → 1 ≤ length parts → lines_of_parts (line ∷ parts) ≡ strip_carriage_return line ∷ lines_of_parts parts
lines_of_more line [] h = absurd (omega arith)
lines_of_more line (next ∷ parts) h = refl

-- the lines of a text whose first part ends at a line feed
pub lines_first : (text line rest : List ℕ) → slice_split (λ byte. byte == 10) text ≡ line ∷ slice_split (λ byte. byte == 10) rest → lines text ≡ strip_carriage_return line ∷ lines rest
lines_first text line rest h =
    ap lines_of_parts h
    ∙ lines_of_more line (slice_split (λ byte. byte == 10) rest) (omega (arith, length-slice_split {X = ℕ} (λ byte. byte == 10) rest))

same_test : (a b : ℕ) → a ≡ b → true ≡ (a == b)
same_test a b h = grind (arith, nat_tests)

other_test : (a b : ℕ) → a < b → false ≡ (a == b)
other_test a b h = grind (arith, nat_tests)

-- what the test of a text of UTF-8 answers
pub utf8_test : {E : Type 0} (r : Result (Bor (List ℕ)) E) (v : E → ℕ) (text : List ℕ) → MatchResult r (λ s. (s.now ≡ text) × IsUtf8 text) (λ e. (IsUtf8 text → ⊥) × IsValidUpTo text (v e)) → is_ok r ≡ (utf8_valid_len text == length text)
utf8_test (Ok s) v text h = same_test _ _ (utf8_valid_len-IsUtf8 text h.1)
utf8_test (Err e) v text h =
    let at : utf8_valid_len text ≡ v e = utf8_valid_len-IsValidUpTo text (v e) h.1 in
    let short : v e < length text = h.1.short in
    other_test _ _ (omega arith)

drop_last : (first next : ℕ) (rest : List ℕ) → drop (length (first ∷ next ∷ rest) - 1) (first ∷ next ∷ rest) ≡ drop (length (next ∷ rest) - 1) (next ∷ rest)
drop_last first next rest = let one : length (first ∷ next ∷ rest) - 1 ≡ suc (length (next ∷ rest) - 1) = omega arith in ap (λ (n : ℕ). drop n (first ∷ next ∷ rest)) one

last_test : (b : Bool) → (b && true) ≡ b
last_test true = refl
last_test false = refl

-- a text ends with a byte where its last part of one byte is that
pub ends_with_byte_is : (byte : ℕ) (text : List ℕ) → pointwise nat_eq (drop (length text - 1) text) (byte ∷ []) ≡ ends_with_byte byte text
ends_with_byte_is byte [] = refl
ends_with_byte_is byte (last ∷ []) = last_test (last == byte)
ends_with_byte_is byte (first ∷ next ∷ rest) =
    ap (λ (part : List ℕ). pointwise nat_eq part (byte ∷ [])) (drop_last first next rest) ∙ ends_with_byte_is byte (next ∷ rest)

bracket_step : (text rest : List ℕ) (first : ℕ) (ends : Bool) → text ≡ first ∷ rest → first ≡ 91 → pointwise nat_eq (drop (length rest - 1) rest) (93 ∷ []) ≡ ends → line_of text ≡ (if ends then section (take (length rest - 1) rest) else parted (91 ∷ rest))
bracket_step text rest first ends whole is last =
    ap line_of whole ∙ ap (λ (byte : ℕ). line_of (byte ∷ rest)) is
    ∙ ap (λ (b : Bool). if b then section (take (length rest - 1) rest) else parted (91 ∷ rest)) (sym (ends_with_byte_is 93 rest) ∙ last)

-- a line between brackets begins a section
pub line_section : (text rest name : List ℕ) (first : ℕ) → text ≡ first ∷ rest → first ≡ 91 → pointwise nat_eq (drop (length rest - 1) rest) (93 ∷ []) ≡ true → name ≡ take (length rest - 1) rest → section name ≡ line_of text
line_section text rest name first whole is last named = ap section named ∙ sym (bracket_step text rest first true whole is last)

-- one that only begins with a bracket does not
pub line_bracket : (text rest : List ℕ) (first : ℕ) → text ≡ first ∷ rest → first ≡ 91 → pointwise nat_eq (drop (length rest - 1) rest) (93 ∷ []) ≡ false → parted text ≡ line_of text
line_bracket text rest first whole is last =
    ap parted whole ∙ ap (λ (byte : ℕ). parted (byte ∷ rest)) is ∙ sym (bracket_step text rest first false whole is last)
