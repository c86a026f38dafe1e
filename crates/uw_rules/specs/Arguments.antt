-- What stands behind the `:` of a condition or an action, as its shape has it (own rule).
use Rattle.std.specs.Prelude.{ℕ, ◌==◌, nat_lt, nat_le, Bool, true, false, not, ◌&&◌, ◌||◌, if◌then◌else◌, List, [], ◌∷◌, map, length, Option, None, Some, is_some, is_none, option_and_then}
use Rattle.std.specs.List.{before_first, after_first, list_any, slice_split}
use Rattle.std.specs.Option.{option_map_or}
use Rattle.std.specs.Str.{bytes_eq}
use Rattle.uw_base.specs.Numbers.{decimal_of, signed_of}
use Rattle.uw_subst.specs.Templates.{fault_of}
use Rattle.uw_model.specs.declared.areas.Width.{Width}
use Rattle.uw_model.specs.declared.areas.Width.TheVariants as widths
use Rattle.uw_rules.specs.declared.grammar.TextKind.{TextKind}
use Rattle.uw_rules.specs.declared.grammar.TextKind.TheVariants as texts
use Rattle.uw_rules.specs.Grammar.{ArgumentShape, KeyRow, bare, optional_text, whole_text, divided_text, keyed_texts, free_texts, status_codes}

-- ---- the texts of an argument

-- the pairs of an argument, joined by commas (44)
unfoldable pub argument_pairs : Option (List ℕ) → List (List ℕ)
argument_pairs argument = option_map_or (slice_split (λ byte. byte == 44)) argument []

-- a pair has a `=` (61), and before the first one the key
unfoldable pub is_pair_of : List ℕ → List ℕ → Bool
is_pair_of key pair = list_any (λ byte. byte == 61) pair && bytes_eq (before_first (λ byte. byte == 61) pair) key

-- the text of a key: what stands behind the first `=` of its first pair
abbrev pub text_in : List ℕ → List (List ℕ) → Option (List ℕ)
text_in key [] = None
text_in key (pair ∷ pairs) = if is_pair_of key pair then Some (after_first (λ byte. byte == 61) pair) else text_in key pairs

-- the text of a key of an argument
unfoldable pub text_of_key : List ℕ → Option (List ℕ) → Option (List ℕ)
text_of_key key argument = text_in key (argument_pairs argument)

-- the key of a pair: what stands before its first `=` (61)
abbrev pub key_of_pair : List ℕ → List ℕ
key_of_pair pair = before_first (λ byte. byte == 61) pair

-- the text of a pair: what stands behind its first `=`, if it has one
abbrev pub text_of_pair : List ℕ → Option (List ℕ)
text_of_pair pair = if list_any (λ byte. byte == 61) pair then Some (after_first (λ byte. byte == 61) pair) else None

-- what stands before the first such byte of an argument
unfoldable pub first_half : ℕ → Option (List ℕ) → Option (List ℕ)
first_half at None = None
first_half at (Some argument) = Some (before_first (λ byte. byte == at) argument)

-- what stands behind the first such byte of an argument, if there is one
unfoldable pub second_half : ℕ → Option (List ℕ) → Option (List ℕ)
second_half at None = None
second_half at (Some argument) = if list_any (λ byte. byte == at) argument then Some (after_first (λ byte. byte == at) argument) else None

-- a place for a text: its kind, whether the text must stand, and the text, if it stands
pub record Place : Type 0 where
  pub kind : TextKind
  pub required : Bool
  pub text : Option (List ℕ)

-- the places of an argument
abbrev pub text_places : ArgumentShape → Option (List ℕ) → List Place
text_places bare argument = []
text_places (optional_text kind) argument = record { kind = kind; required = false; text = argument } ∷ []
text_places (whole_text kind) argument = record { kind = kind; required = true; text = argument } ∷ []
text_places (divided_text at first second) argument =
    record { kind = first; required = true; text = first_half at argument } ∷ record { kind = second; required = true; text = second_half at argument } ∷ []
text_places (free_texts kind) argument = map (λ pair. record { kind = kind; required = true; text = text_of_pair pair }) (argument_pairs argument)
text_places (keyed_texts keys) argument = map (λ (row : KeyRow). record { kind = row.kind; required = row.required; text = text_of_key row.key argument }) keys

-- ---- bad arguments

-- a pair is of none of the keys
abbrev pub is_stray_pair : List KeyRow → List ℕ → Bool
is_stray_pair keys pair = not (list_any (λ (row : KeyRow). is_pair_of row.key pair) keys)

-- two pairs are of the key
abbrev pub is_twice : List ℕ → List (List ℕ) → Bool
is_twice key [] = false
is_twice key (pair ∷ pairs) = if is_pair_of key pair then list_any (is_pair_of key) pairs else is_twice key pairs

-- a key of the pairs stands twice
abbrev pub has_key_twice : List (List ℕ) → Bool
has_key_twice [] = false
has_key_twice (pair ∷ pairs) = list_any (is_pair_of (key_of_pair pair)) pairs || has_key_twice pairs

-- something stands in the argument that has no place there, or there are no pairs where some must stand
unfoldable pub has_stray : ArgumentShape → Option (List ℕ) → Bool
has_stray bare argument = is_some argument
has_stray (optional_text kind) argument = false
has_stray (whole_text kind) argument = false
has_stray (divided_text at first second) argument = false
has_stray (free_texts kind) argument = is_none argument || has_key_twice (argument_pairs argument)
has_stray (keyed_texts keys) argument =
    list_any (is_stray_pair keys) (argument_pairs argument) || list_any (λ (row : KeyRow). is_twice row.key (argument_pairs argument)) keys

-- a label has 1 to 64 bytes, and neither a space (32) nor a `$` (36)
unfoldable pub is_label : List ℕ → Bool
is_label text = nat_le 1 (length text) && nat_le (length text) 64 && not (list_any (λ byte. byte == 32 || byte == 36) text)

-- the code of a status that is listed
abbrev pub listed_code : ℕ → Option ℕ
listed_code code = if list_any (λ listed. listed == code) status_codes then Some code else None

-- the code of a status, in decimal
unfoldable pub code_of : List ℕ → Option ℕ
code_of text = option_and_then listed_code (decimal_of text)

-- the width of so many bits
abbrev pub width_of_bits : ℕ → Option Width
width_of_bits bits =
    if bits == 8 then Some widths.W8
    else (if bits == 16 then Some widths.W16
    else (if bits == 32 then Some widths.W32
    else (if bits == 64 then Some widths.W64
    else None)))

-- the width of a number, by its bits in decimal
unfoldable pub width_of : List ℕ → Option Width
width_of text = option_and_then width_of_bits (decimal_of text)

-- the most bytes of one read of an area
abbrev pub most_read : ℕ
most_read = 65536

-- a length of at most so many bytes
abbrev pub length_of : List ℕ → Option ℕ
length_of text = option_and_then (λ length. if nat_le length most_read then Some length else None) (decimal_of text)

-- the text is not of its kind as written; templates and patterns are looked at later
unfoldable pub is_bad_text : TextKind → List ℕ → Bool
is_bad_text texts.Template text = false
is_bad_text texts.Header text = not (list_any (λ byte. byte == 58) text)
is_bad_text texts.Undivided text = list_any (λ byte. byte == 59) text
is_bad_text texts.Fixed text = false
is_bad_text texts.Pattern text = false
is_bad_text texts.Decimal text = is_none (decimal_of text)
is_bad_text texts.Signed text = is_none (signed_of text)
is_bad_text texts.Cache text = false
is_bad_text texts.Area text = is_none (decimal_of text)
is_bad_text texts.Length text = is_none (length_of text)
is_bad_text texts.Width text = is_none (width_of text)
is_bad_text texts.Code text = is_none (code_of text)
is_bad_text texts.Label text = not (is_label text)

-- a text that must stand does not, or one is not of its kind
abbrev pub is_bad_place : Place → Bool
is_bad_place place = option_map_or (is_bad_text place.kind) place.text place.required

-- the argument is bad
unfoldable pub is_bad_argument : ArgumentShape → Option (List ℕ) → Bool
is_bad_argument shape argument = has_stray shape argument || list_any is_bad_place (text_places shape argument)

-- ---- templates, patterns, labels and names of caches

-- texts of the kind are templates
abbrev pub is_template_kind : TextKind → Bool
is_template_kind texts.Template = true
is_template_kind texts.Header = true
is_template_kind texts.Undivided = true
is_template_kind _ = false

-- the text is no template, but its kind is
abbrev pub is_bad_template : Place → Bool
is_bad_template place = is_template_kind place.kind && option_map_or (λ text. is_some (fault_of text)) place.text false

-- the pattern of an argument
abbrev pub pattern_in : ArgumentShape → Option (List ℕ) → Option (List ℕ)
pattern_in (divided_text at first texts.Pattern) argument = second_half at argument
pattern_in _ argument = None

-- the rule of a label stands behind this one
abbrev pub is_ahead : ℕ → Option ℕ → Bool
is_ahead place label = option_map_or (nat_lt place) label false

-- the text names a label that is not ahead
abbrev pub is_missed_label : (List ℕ → Option ℕ) → ℕ → Place → Bool
is_missed_label labels here (place) = is_label_kind place.kind && option_map_or (λ text. not (is_ahead here (labels text))) place.text false
  where
    is_label_kind : TextKind → Bool
    is_label_kind texts.Label = true
    is_label_kind _ = false

-- what rules may name: the caches, which have these names, and so many areas, by their numbers
pub record SiteNames : Type 0 where
  pub caches : List (List ℕ)
  pub areas : ℕ

-- the text names no cache and no area that there is; or no cache is named, and there is none
abbrev pub is_unknown_name : SiteNames → Place → Bool
is_unknown_name names place = is_unknown_part place.kind names place.text
  where
    is_unknown_part : TextKind → SiteNames → Option (List ℕ) → Bool
    is_unknown_part texts.Cache names text = option_map_or (λ name. not (list_any (λ other. bytes_eq other name) names.caches)) text (length names.caches == 0)
    is_unknown_part texts.Area names text = option_map_or (λ number. nat_le names.areas number) (option_and_then decimal_of text) false
    is_unknown_part _ names text = false
