use Rattle.std.proofs.Common.{◌≡◌, ℕ, ◌+◌, ◌-◌, ◌<◌, ◌≤◌, List, length, get_or, map, ◌∙◌, subst, arith, below_more}
use Rattle.std.specs.Prelude.{slice_index}
use Rattle.std.proofs.lemmas.List.{get_or-map, get_or_default, length-map}
use Rattle.uw_rules.specs.declared.lines.RuleLine.{RuleLine}
use Rattle.uw_rules.specs.Tables.{IsRuleLine}
use Rattle.rule_tests.proofs.rules.is_table.Goals as goal
use Rattle.rule_tests.proofs.rules.is_table.Goals.{else-here-gt0-via-then-here-gt0+else-lines-here, else-here-gt0-via-else-here-gt0}

abbrev numbers : List RuleLine → List ℕ
numbers lines = map (λ (line : RuleLine). line.line) lines

number_at : (lines : List RuleLine) (k : ℕ) (d : RuleLine) → k < length lines → slice_index (numbers lines) k ≡ (get_or lines k d).line
number_at lines k d inside = get_or-map (λ (l : RuleLine). l.line) lines k d 0 inside

rising_more : (xs : List ℕ) (here : ℕ) → ((k : ℕ) → k + 1 < here → slice_index xs k < slice_index xs (k + 1))
    → (0 < here → slice_index xs (here - 1) < slice_index xs here) → (k : ℕ) → k + 1 < here + 1 → slice_index xs k < slice_index xs (k + 1)
rising_more xs here h last k low =
    let before : (j : ℕ) → j < here → 0 < j → slice_index xs (j - 1) < slice_index xs j =
    λ j below some.
    let next : j - 1 + 1 ≡ j = omega arith in
    let short : j - 1 + 1 < here = omega arith in
    subst (λ (n : ℕ). slice_index xs (j - 1) < slice_index xs n) next (h (j - 1) short) in
    let all : (j : ℕ) → j < here + 1 → 0 < j → slice_index xs (j - 1) < slice_index xs j =
    below_more (λ (j : ℕ). 0 < j → slice_index xs (j - 1) < slice_index xs j) here before last in
    let same : k + 1 - 1 ≡ k = omega arith in
    let some : 0 < k + 1 = omega arith in
    subst (λ (n : ℕ). slice_index xs n < slice_index xs (k + 1)) same (all (k + 1) low some)

each_more : (lines : List RuleLine) (here : ℕ) (line : RuleLine) → ((k : ℕ) → k < here → (d : RuleLine) → IsRuleLine (get_or lines k d)) → here < length lines
    → line ≡ get_or lines here line → IsRuleLine line → (k : ℕ) → k < here + 1 → (d : RuleLine) → IsRuleLine (get_or lines k d)
each_more lines here line h inside is good =
    below_more (λ (k : ℕ). (d : RuleLine) → IsRuleLine (get_or lines k d)) here h (λ d. subst IsRuleLine (is ∙ get_or_default lines here line d inside) good)

rises : (lines : List RuleLine) (here : ℕ) (line earlier : RuleLine) → here < length lines → (get_or lines (here - 1) earlier).line < (get_or lines here line).line
    → slice_index (numbers lines) (here - 1) < slice_index (numbers lines) here
rises lines here line earlier inside less =
    let low : here - 1 < length lines = omega arith in
    omega (arith, number_at lines here line inside, number_at lines (here - 1) earlier low)

pub loop-here-preserved : goal.loop-here-preserved
loop-here-preserved c =
    let lines = c.args.lines.now in
    let here = c.loop-here.here in
    record {
      each = each_more lines here c.index-lines-here.result c.loop-here.invariant.each c.loop-here-test.true c.index-lines-here.is c.if-not-is_rule_line.ensures;
      rising =
          rising_more (numbers lines) here c.loop-here.invariant.rising
          (elim c.else-here-gt0.branch [
            | else-here-gt0-via-then-here-gt0+else-lines-here w ↦ λ some.
                rises lines here w.index-lines-here-then-here-gt0.result w.index-lines-here-then-here-gt0-2.result c.loop-here-test.true w.if-lines-here.false
            | else-here-gt0-via-else-here-gt0 w ↦ λ some. absurd (omega arith)
          ]);
    }

pub returns : goal.returns
returns c =
    let lines = c.args.lines.now in
    let size : length (numbers lines) ≡ length lines = length-map lines (λ (line : RuleLine). line.line) in
    record {
      each = λ k d h. c.loop-here.invariant.each k (omega arith) d;
      rising = λ k h. c.loop-here.invariant.rising k (omega arith);
    }
