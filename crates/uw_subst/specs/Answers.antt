-- What reading and filling answer.
use Rattle.std.specs.Prelude.{◌≡◌, ℕ, ◌<◌, ◌≤◌, List, length, Some}
use Rattle.uw_subst.specs.Templates.{fault_of}
use Rattle.uw_subst.specs.declared.template.Filled.{Filled}
use Rattle.uw_subst.specs.declared.template.Filled.TheVariants.{Text, TooLong}
use Rattle.uw_subst.specs.declared.template.SubstFault.{SubstFault}
use Rattle.uw_subst.specs.declared.template.SubstFault.TheVariants as faults

-- a bad template's fault names the place of the first `$` that makes the text no template; want of memory is free
abbrev pub IsFaultOf : List ℕ → SubstFault → Type 0
IsFaultOf text (faults.BadTemplate at) = fault_of text ≡ Some at
IsFaultOf text faults.Memory = Unit {0}

-- the most bytes of a filled text
abbrev pub most_filled : ℕ
most_filled = 65536

-- the answer is the text, or that the text is longer than the limit
abbrev pub IsFilling : List ℕ → Filled → Type 0
IsFilling text (Text bytes) = (bytes ≡ text) × (length text ≤ most_filled)
IsFilling text TooLong = most_filled < length text
