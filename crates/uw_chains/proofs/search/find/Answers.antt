use Rattle.std.proofs.Common.{◌≡◌, ℕ, ◌%◌, ◌<◌, true, inl, sym, ap, ◌∙◌, subst, arith}
use Rattle.uw_words.specs.Numbers.{IsOneOf}
use Rattle.uw_words.specs.Parts.{seen}
use Rattle.uw_words.specs.Walks.{link_of}
use Rattle.uw_words.specs.Records.{HoldsKey}
use Rattle.uw_chains.specs.Chains.{chain_place, key_chain}
use Rattle.uw_chains.proofs.Places.{key_short}
use Rattle.uw_chains.proofs.Sought.{Searching, search_start, search_link, search_within, search_is_link, search_next, search_found, search_none, some_more}
use Rattle.uw_chains.proofs.search.find.Goals as goal

pub loop-init : goal.loop-init
loop-init c =
    let shape = c.args.shape.now in
    let reader = seen c.args.over.now c.args.ram.now in
    let key = c.args.key.now in
    let first : c.load-link.result ≡ reader (chain_place shape (key_chain shape key)) =
    c.load-link.ensures ∙ ap reader (c.chain_place.ensures.place ∙ ap (λ (h : ℕ). chain_place shape (h % shape.n_chains)) c.djb33x-hash.ensures.hash) in
    subst (λ (link : ℕ). Searching reader shape key link 0) (sym first) (search_start shape c.requires.shape reader key c.requires.chains.0 c.requires.chains.1)

pub returns-then-link-eq0-clause-none : goal.returns-then-link-eq0-clause-none
returns-then-link-eq0-clause-none c = λ chains is.
    let shape = c.args.shape.now in
    let reader = seen c.args.over.now c.args.ram.now in
    let key = c.args.key.now in
    search_none shape c.requires.shape reader key c.loop.link c.loop.counter c.loop.invariant (inl c.if-link-eq0.true) (chains (key_chain shape key))
    (is.walk (key_chain shape key) (key_short shape c.requires.shape key))

pub holds_key-requires-clause-link : goal.holds_key-requires-clause-link
holds_key-requires-clause-link c =
    search_link c.args.shape.now c.requires.shape (seen c.args.over.now c.args.ram.now) c.args.key.now c.loop.link c.loop.counter c.loop.invariant c.if-link-eq0.false

pub item_of-requires-clause-link : goal.item_of-requires-clause-link
item_of-requires-clause-link c =
    search_is_link c.args.shape.now c.requires.shape (seen c.args.over.now c.args.ram.now) c.args.key.now c.loop.link c.loop.counter c.loop.invariant c.if-link-eq0.false

pub returns-then-holds_key-clause-found : goal.returns-then-holds_key-clause-found
returns-then-holds_key-clause-found c = λ chains is.
    let shape = c.args.shape.now in
    let reader = seen c.args.over.now c.args.ram.now in
    let key = c.args.key.now in
    let P : ℕ → Type 0 = λ item. (item < shape.n_items) × (c.loop.link ≡ link_of shape item) in
    let Q : ℕ → Type 0 = λ item. IsOneOf (chains (key_chain shape key)) item × HoldsKey reader shape item key in
    some_more c.item_of.result P Q
    (λ item at. (
      search_found shape c.requires.shape reader key c.loop.link c.loop.counter c.loop.invariant c.if-link-eq0.false item at.1 (chains (key_chain shape key))
          (is.walk (key_chain shape key) (key_short shape c.requires.shape key)),
      (c.holds_key.ensures item at.1).0 c.if-holds_key.true,
    ))
    c.item_of.ensures.item

pub load-link-requires-in-loop : goal.load-link-requires-in-loop
load-link-requires-in-loop c =
    let within = search_within c.args.shape.now c.requires.shape (seen c.args.over.now c.args.ram.now) c.args.key.now c.loop.link c.loop.counter c.loop.invariant c.if-link-eq0.false in
    omega (arith, within, c.requires.region, c.requires.shape.intent)

pub loop-preserved : goal.loop-preserved
loop-preserved c =
    let shape = c.args.shape.now in
    let reader = seen c.args.over.now c.args.ram.now in
    let key = c.args.key.now in
    search_next shape c.requires.shape reader key c.loop.link c.loop.counter c.loop.invariant c.load-link-in-loop.result c.if-link-eq0.false
    (λ item at holds. let same : c.holds_key.result ≡ true = (c.holds_key.ensures item at).1 holds in cc (same, c.if-holds_key.false)) c.load-link-in-loop.ensures
