use Rattle.std.proofs.Common.{◌<◌, IfSome, subst, Option, arith}
use Rattle.std.proofs.lemmas.List.Elements.{All-from_get_or}
use Rattle.uw_chain.specs.declared.searches.Search.{Search}
use Rattle.uw_chain.specs.KeptSearches.{IsSearchOf}
use Rattle.uw_chain.proofs.SearchLemmas.{verdict_searched}
use Rattle.uw_chain.proofs.searches.Slot.search.Goals as goal

pub returns-in-Some-clause-found : goal.returns-in-Some-clause-found
returns-in-Some-clause-found c = λ text is.
    let pattern = c.args.pattern.now in let subject = c.args.subject.now in
    verdict_searched pattern c.in-Some.search text subject c.search.result (subst (λ (made : Option Search). IfSome made (IsSearchOf pattern)) c.in-Some.is c.requires) is
    (All-from_get_or (λ x. x < 256) subject 0 (λ i inside. omega (arith, c.type_inv.subject i))) c.search.ensures.found
