use Rattle.std.proofs.Common.{◌∙◌}
use Rattle.uw_words.specs.Parts.{seen}
use Rattle.uw_recency.proofs.Lists.{linked_of, last_node, last_link, last_is}
use Rattle.uw_recency.proofs.Puts.{link_from, answer_is}
use Rattle.uw_recency.proofs.recency.last.Goals as goal

pub item_of-requires-clause-link : goal.item_of-requires-clause-link
item_of-requires-clause-link c =
    let shape = c.args.shape.now in
    let reader = seen c.args.over.now c.args.ram.now in
    let list = c.requires.list in
    let at = last_link reader shape 0 list.0 (linked_of reader shape list.0 list.1) tt in
    link_from shape c.load.result (last_node 0 list.0) (c.load.ensures ∙ at.0) at.1

pub returns : goal.returns
returns c = λ items is.
    let shape = c.args.shape.now in
    let reader = seen c.args.over.now c.args.ram.now in
    let at = last_link reader shape 0 items (linked_of reader shape items is) tt in
    answer_is shape c.requires.shape c.load.result (last_node 0 items) c.item_of.result (c.load.ensures ∙ at.0) c.item_of.ensures.none c.item_of.ensures.item ∙ last_is items
