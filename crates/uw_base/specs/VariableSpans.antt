-- How variables stand in one buffer of bytes.
use Rattle.std.specs.Prelude.{ℕ, ◌≤◌, List, map, slice_range}
use Rattle.std.specs.List.{AllByRecursion}
use Rattle.uw_base.specs.declared.variables.Pair.{Pair}
use Rattle.uw_base.specs.declared.variables.Span.{Span}

-- the variable at a span of the bytes
abbrev pub pair_at : List ℕ → Span → Pair
pair_at bytes span = record { key = slice_range bytes span.start span.middle; value = slice_range bytes span.middle span.end }

-- the variables at spans of the bytes
abbrev pub pairs_at : List ℕ → List Span → List Pair
pairs_at bytes spans = map (pair_at bytes) spans

-- the span lies within so many bytes
abbrev pub IsSpanWithin : ℕ → Span → Type 0
IsSpanWithin count span = (span.start ≤ span.middle) × (span.middle ≤ span.end) × (span.end ≤ count)

-- each span lies within so many bytes
abbrev pub AreSpansWithin : ℕ → List Span → Type 0
AreSpansWithin count spans = AllByRecursion (IsSpanWithin count) spans
