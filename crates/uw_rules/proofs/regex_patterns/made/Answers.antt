-- A heavy text is a pattern, and one that the parser refuses is none.
use Rattle.std.proofs.Common.{◌≡◌, ◌≢◌, ◌-◌, ◌^◌, min, true, sym, ◌∙◌}
use Rattle.std.proofs.lemmas.Bool.{false≢true}
use Rattle.regex_syntax.specs.declared.error.ErrorKind.TheVariants as kinds
use Rattle.uw_rules.proofs.PatternLemmas as lemma
use Rattle.uw_rules.proofs.regex_patterns.made.Goals as goal

pub returns-else-weight-le-MOST_WEIGHT-clause-refused :
    goal.returns-else-weight-le-MOST_WEIGHT-clause-refused
returns-else-weight-le-MOST_WEIGHT-clause-refused c = λ _. lemma.weighed c.args.text.now (λ n. c.in-Ok.weight ≡ min n (2 ^ 64 - 1)) c.in-Ok.ensures.weight

pub returns-else-eq-clause-answer : goal.returns-else-eq-clause-answer
returns-else-eq-clause-answer c =
    let known : c.in-Err.kind ≢ kinds.OutOfMemory =
    λ e. let same : c.eq.result ≡ true = rw e at c.eq.ensures in absurd (false≢true (sym c.if-eq.false ∙ same)) in
    lemma.unread c.args.text.now c.in-Err.kind known c.in-Err.ensures.none
