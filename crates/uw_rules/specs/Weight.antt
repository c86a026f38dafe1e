-- How much a pattern weighs, which bounds what a search costs for each byte.
use Rattle.std.specs.Prelude.{ℕ, ◌+◌, ◌-◌, ◌*◌, ◌/◌, ◌≤◌, max, sum, List, length, Option, None, Some}
use Rattle.regex_hir.specs.declared.hir.Hir.{Hir}
use Rattle.regex_hir.specs.declared.hir.Hir.TheOpen.{Hir-F}
use Rattle.regex_hir.specs.declared.hir.Hir.TheFolds.{fold-Hir}
use Rattle.regex_syntax.specs.Grammar.{Names}
use Rattle.regex.specs.Patterns.{Reads}
use Rattle.uw_rules.specs.Patterns.{pattern_config}
use Rattle.uw_rules.specs.declared.patterns.Built.{Built}
use Rattle.uw_rules.specs.declared.patterns.Built.TheVariants as built

-- a repetition of what weighs so: its copies, and 2 for each that may be left out; without an upper bound 3 times its least copies, at least one, and 2
abbrev pub repetition_weight : ℕ → Option ℕ → ℕ → ℕ
repetition_weight least None each = each * max least 1 * 3 + 2
repetition_weight least (Some most) each = each * most + (most - least) * 2

-- one node, with the weight of each child in its place: 1 for a byte; 2 for an assertion, a branch and what is empty; 4 for a group; 2 for a class, and 1 more
-- for each 32 ranges of characters, since those of Unicode have hundreds, and states as many
abbrev pub node_weight : Hir-F ℕ → ℕ
node_weight Hir-F.Empty = 2
node_weight (Hir-F.Literal bytes) = length bytes.items
node_weight (Hir-F.Bytes class) = 2
node_weight (Hir-F.Chars class) = length class.ranges.items / 32 + 2
node_weight (Hir-F.Look look) = 2
node_weight (Hir-F.Repetition least most greedy sub) = repetition_weight least most sub.value
node_weight (Hir-F.Capture index sub) = sub.value + 4
node_weight (Hir-F.Concat subs) = sum subs.items
node_weight (Hir-F.Alternation subs) = sum subs.items + length subs.items * 2

-- what a pattern weighs, as the tree that is read from it
abbrev pub weight : Hir → ℕ
weight = fold-Hir ℕ node_weight

-- the grammar reads the text as a tree whose weight is such
abbrev pub IsReadWithWeight : List ℕ → (ℕ → Type 0) → Type 0
IsReadWithWeight text IsSuch = (tree : Hir) × (names : Names) × Reads pattern_config text tree names × IsSuch (weight tree)

-- a text of which a pattern is made is read as a tree that weighs at most 2,500
abbrev pub IsLight : List ℕ → Built → Type 0
IsLight text (built.Pattern regex) = IsReadWithWeight text (λ n. n ≤ 2500)
IsLight text built.Syntax = Unit {0}
IsLight text built.Refused = Unit {0}
IsLight text built.Memory = Unit {0}
