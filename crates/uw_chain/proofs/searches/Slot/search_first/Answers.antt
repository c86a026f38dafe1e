use Rattle.std.proofs.Common.{◌<◌, Result, Ok, arith}
use Rattle.std.proofs.lemmas.List.Elements.{All-from_get_or}
use Rattle.uw_base.specs.declared.bytes.Memory.{Memory}
use Rattle.uw_chain.specs.declared.verdict.Verdict.{Verdict}
use Rattle.uw_chain.proofs.SearchLemmas.{verdict_searched}
use Rattle.uw_chain.proofs.searches.Slot.search_first.Goals as goal

pub returns-clause-found : goal.returns-clause-found
returns-clause-found c = λ text is.
    let pattern = c.args.pattern.now in let subject = c.args.subject.now in
    let result : Result Verdict Memory = Ok c.in_ok-verdict.verdict in
    verdict_searched pattern c.in_ok-search.search text subject result c.in_ok-search.ensures is
    (All-from_get_or (λ x. x < 256) subject 0 (λ i inside. omega (arith, c.type_inv.subject i))) c.in_ok-verdict.ensures.found
