use Rattle.std.proofs.Common.{ℕ, ◌+◌, ap, ◌∙◌}
use Rattle.uw_words.specs.Parts.{seen}
use Rattle.uw_recency.proofs.Lists.{linked_of, next_link}
use Rattle.uw_recency.proofs.Puts.{older_is_link, answer_is}
use Rattle.uw_recency.proofs.recency.older.Goals as goal

pub item_of-requires-clause-link : goal.item_of-requires-clause-link
item_of-requires-clause-link c =
    let reader = seen c.args.over.now c.args.ram.now in
    older_is_link c.args.shape.now c.requires.shape reader c.args.item c.load.result (c.load.ensures ∙ ap (λ (l : ℕ). reader (l + 2)) c.link_of-link.ensures.link) c.requires.listed

pub returns : goal.returns
returns c = λ items is one.
    let shape = c.args.shape.now in
    let reader = seen c.args.over.now c.args.ram.now in
    let next = next_link shape reader 0 items c.args.item (linked_of reader shape items is) one in
    answer_is shape c.requires.shape c.load.result next.0 c.item_of.result (c.load.ensures ∙ ap (λ (l : ℕ). reader (l + 2)) c.link_of-link.ensures.link ∙ next.1)
    c.item_of.ensures.none c.item_of.ensures.item
    ∙ next.2
