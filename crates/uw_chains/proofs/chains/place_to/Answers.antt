use Rattle.std.proofs.Common.{◌≡◌, ℕ, [], ◌∷◌, sym, ap, ◌∙◌, subst}
use Rattle.uw_words.specs.Parts.{seen}
use Rattle.uw_chains.specs.Chains.{chain_place, item_chain}
use Rattle.uw_chains.proofs.Places.{own_short}
use Rattle.uw_chains.proofs.Puts.{head_of}
use Rattle.uw_chains.proofs.Sought.{Placing, placing_start, placing_next, placing_found}
use Rattle.uw_chains.proofs.chains.place_to.Goals as goal

pub loop-init : goal.loop-init
loop-init c =
    let shape = c.args.shape.now in
    let reader = seen c.args.over.now c.args.ram.now in
    let item = c.args.item in
    let first = chain_place shape (item_chain reader shape item) in
    let chained = c.requires.chained in
    let head : c.chain_place-at.result ≡ first =
    head_of shape reader item c.link_of-link.result c.load.result c.chain_place-at.result c.link_of-link.ensures.link c.load.ensures c.chain_place-at.ensures.place in
    subst (λ (at : ℕ). Placing reader shape first item at 0) (sym head) (placing_start shape c.requires.shape reader item chained.0 chained.1.0 chained.1.1)

pub returns-then-next-link : goal.returns-then-next-link
returns-then-next-link c = λ chains is.
    let shape = c.args.shape.now in
    let reader = seen c.args.over.now c.args.ram.now in
    let item = c.args.item in
    let first = chain_place shape (item_chain reader shape item) in
    ap (λ (p : ℕ). p ∷ [])
    (placing_found shape c.requires.shape reader item first c.loop.at c.loop.counter c.load-next.result c.loop.invariant c.load-next.ensures
    (c.if-next-link.true ∙ c.link_of-link.ensures.link) (chains (item_chain reader shape item))
    (is.walk (item_chain reader shape item) (own_short shape c.requires.shape reader item)))

pub loop-preserved : goal.loop-preserved
loop-preserved c =
    let shape = c.args.shape.now in
    let reader = seen c.args.over.now c.args.ram.now in
    let item = c.args.item in
    let first = chain_place shape (item_chain reader shape item) in
    placing_next shape c.requires.shape reader item first c.loop.at c.loop.counter c.load-next.result c.loop.invariant c.load-next.ensures
    (λ here. c.if-next-link.false (here ∙ sym c.link_of-link.ensures.link))
