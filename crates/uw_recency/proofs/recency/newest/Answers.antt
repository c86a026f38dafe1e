use Rattle.std.proofs.Common.{◌∙◌}
use Rattle.uw_words.specs.Parts.{seen}
use Rattle.uw_recency.proofs.Nodes.{first_node}
use Rattle.uw_recency.proofs.Lists.{first_of_list, newest_is}
use Rattle.uw_recency.proofs.Puts.{first_is_link, answer_is}
use Rattle.uw_recency.proofs.recency.newest.Goals as goal

pub item_of-requires-clause-link : goal.item_of-requires-clause-link
item_of-requires-clause-link c =
    let shape = c.args.shape.now in
    let reader = seen c.args.over.now c.args.ram.now in
    let list = c.requires.list in
    first_is_link shape reader list.0 c.load.result c.load.ensures (first_of_list shape c.requires.shape reader reader list.0 0 list.1) list.1

pub returns : goal.returns
returns c = λ items is.
    let shape = c.args.shape.now in
    let reader = seen c.args.over.now c.args.ram.now in
    answer_is shape c.requires.shape c.load.result (first_node items) c.item_of.result (c.load.ensures ∙ first_of_list shape c.requires.shape reader reader items 0 is)
    c.item_of.ensures.none c.item_of.ensures.item
    ∙ newest_is items
