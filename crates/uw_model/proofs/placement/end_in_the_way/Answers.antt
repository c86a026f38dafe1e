-- Up to the end of the entry in the way no run is free; and with no entry in the way the place is free.
use Rattle.std.proofs.Common.{sym, ◌∙◌}
use Rattle.std.proofs.lemmas.List.{take_all}
use Rattle.uw_model.proofs.CountedLemmas.{end_blocks, free_of}
use Rattle.uw_model.proofs.placement.end_in_the_way.Goals as goal

pub returns-in-Some : goal.returns-in-Some
returns-in-Some c =
    let conf = c.args.conf.now in
    let ends = c.in-Some.ensures.end in
    rw ends (end_blocks conf c.args.at c.args.n c.args.place c.args.entries.now c.loop-entry.entry-index c.entry-item.result c.loop-entry-test.true c.entry-item.is (sym c.in-Some.ensures.stands) (rw ends at c.in-Some.ensures.blocks))

pub returns : goal.returns
returns c =
    let conf = c.args.conf.now in
    let all = take_all c.loop-entry.entry-index c.args.entries.now c.loop-entry-test.false in
    free_of conf c.args.at c.args.entries.now c.args.n c.args.place ∙ (rw all at c.loop-entry.invariant)
