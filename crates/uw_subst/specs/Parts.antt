-- The parts of a template that was read. A part names bytes of the template's text by their place and their number.
use Rattle.std.specs.Prelude.{◌≡◌, ℕ, ◌+◌, ◌-◌, ◌≤◌, Bool, true, false, List, [], length, take, drop, slice_index_or, None, All}
use Rattle.std.specs.List.{flat_map, list_any}
use Rattle.uw_base.specs.declared.variables.Pair.{Pair}
use Rattle.uw_subst.specs.Forms.{Form, variable, query, time, date, encoded, bad, form_text}
use Rattle.uw_subst.specs.Templates.{fault_of, filled, has_form}
use Rattle.uw_subst.specs.declared.parts.Span.{Span}
use Rattle.uw_subst.specs.declared.parts.Part.{Part}
use Rattle.uw_subst.specs.declared.parts.Part.TheVariants.{Constant, Capture, Variable, Query, Time, Date, Encoded}

-- the bytes of a span
abbrev pub span_bytes : List ℕ → Span → List ℕ
span_bytes text span = take span.len (drop span.from text)

-- the form that a part stands for
abbrev pub part_form : List ℕ → Part → Form
part_form text (Constant span) = bad
part_form text (Capture number) = bad
part_form text (Variable span) = variable (span_bytes text span)
part_form text (Query span) = query (span_bytes text span)
part_form text Time = time
part_form text (Date seconds) = date seconds
part_form text (Encoded span) = encoded (span_bytes text span)

-- what is filled in for a part
abbrev pub part_text : List ℕ → List Pair → List (List ℕ) → ℕ → Part → List ℕ
part_text text vars captures moment (Constant span) = span_bytes text span
part_text text vars captures moment (Capture number) = slice_index_or captures (number - 1) []
part_text text vars captures moment (Variable span) = form_text vars moment (part_form text (Variable span))
part_text text vars captures moment (Query span) = form_text vars moment (part_form text (Query span))
part_text text vars captures moment Time = form_text vars moment (part_form text Time)
part_text text vars captures moment (Date seconds) = form_text vars moment (part_form text (Date seconds))
part_text text vars captures moment (Encoded span) = form_text vars moment (part_form text (Encoded span))

-- the part is no constant
abbrev pub is_filled_part : Part → Bool
is_filled_part (Constant span) = false
is_filled_part (Capture number) = true
is_filled_part (Variable span) = true
is_filled_part (Query span) = true
is_filled_part Time = true
is_filled_part (Date seconds) = true
is_filled_part (Encoded span) = true

-- the span lies within the text
abbrev pub IsSpan : List ℕ → Span → Type 0
IsSpan text span = span.from + span.len ≤ length text

-- the spans of a part lie within the text, and captures are counted from 1
abbrev pub IsPartOf : List ℕ → Part → Type 0
IsPartOf text (Constant span) = IsSpan text span
IsPartOf text (Capture number) = 1 ≤ number
IsPartOf text (Variable span) = IsSpan text span
IsPartOf text (Query span) = IsSpan text span
IsPartOf text Time = Unit {0}
IsPartOf text (Date seconds) = Unit {0}
IsPartOf text (Encoded span) = IsSpan text span

-- the text is a template, and the parts say what it says
pub record AreParts (text : List ℕ) (parts : List Part) : Type 0 where
  pub same : (vars : List Pair) (captures : List (List ℕ)) (moment : ℕ) →
      flat_map (part_text text vars captures moment) parts ≡ filled text vars captures moment
  pub forms : list_any is_filled_part parts ≡ has_form text
  pub good : fault_of text ≡ None
  pub within : All (IsPartOf text) parts
