-- What a text begins with, as the reading of a template tells it apart.
use Rattle.std.specs.Prelude.{◌≡◌, ℕ, ◌≤◌, List, length, drop, slice_index}
use Rattle.uw_subst.specs.Templates.{plain, capture, first_piece, form_piece}
use Rattle.uw_subst.specs.declared.reading.Start.{Start}
use Rattle.uw_subst.specs.declared.reading.Start.TheVariants.{Plain, Capture, Form}

-- the text begins with a byte that stands for itself, with a capture, or with `${`
abbrev pub StartsWith : List ℕ → Start → Type 0
StartsWith text Plain = first_piece (slice_index text 0) (drop 1 text) ≡ plain (slice_index text 0)
StartsWith text (Capture number) = (2 ≤ length text) × (1 ≤ number) × (first_piece (slice_index text 0) (drop 1 text) ≡ capture number)
StartsWith text Form = (2 ≤ length text) × (first_piece (slice_index text 0) (drop 1 text) ≡ form_piece (drop 2 text))
