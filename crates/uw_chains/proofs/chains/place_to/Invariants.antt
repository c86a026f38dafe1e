use Rattle.uw_words.specs.Parts.{seen}
use Rattle.uw_chains.specs.Chains.{chain_place, item_chain}
use Rattle.uw_chains.proofs.Sought.{Placing}
use Rattle.uw_chains.proofs.chains.place_to.Given as goal

abbrev pub invariant-loop : goal.invariant-loop
invariant-loop l =
    let reader = seen l.over l.ram in
    Placing reader l.shape (chain_place l.shape (item_chain reader l.shape l.item)) l.item l.at l.counter
