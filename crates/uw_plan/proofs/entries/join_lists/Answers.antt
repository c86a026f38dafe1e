use Rattle.std.proofs.Common.{◌+◌, ◌≤◌, length, arith}
use Rattle.uw_words.specs.Parts.{seen}
use Rattle.uw_words.proofs.Growth.{spare_room}
use Rattle.uw_recency.specs.Recency.{front_places}
use Rattle.uw_chains.specs.Chains.{link_places}
use Rattle.uw_plan.proofs.Entering.{joined, joined_grew, mid_held}
use Rattle.uw_plan.proofs.Steps.{spare_after}
use Rattle.uw_plan.proofs.entries.join_lists.Goals as goal

pub link-requires-clause-unchained : goal.link-requires-clause-unchained
link-requires-clause-unchained c =
    let unlisted = c.requires.unlisted in
    (unlisted.0.chains, (unlisted.1.0.chains, unlisted.1.1.chained))

pub link-requires-clause-room : goal.link-requires-clause-room
link-requires-clause-room c = spare_room c.args.over.now (link_places (seen c.args.over.now c.args.ram.now) c.args.shape.now c.args.item) (omega (arith, c.requires.room))

pub push_front-requires-clause-unlisted : goal.push_front-requires-clause-unlisted
push_front-requires-clause-unlisted c =
    let unlisted = c.requires.unlisted in
    let held =
    mid_held c.args.shape.now c.requires.shape c.args.ram.now c.args.over.now c.link.new.over c.args.item c.requires.item c.link.ensures.grew unlisted.0 unlisted.1.0
    (c.link.ensures.chains unlisted.0.chains unlisted.1.0.chains unlisted.1.1.chained) in
    (unlisted.0.items, (held.recency, unlisted.1.1.recent))

pub push_front-requires-clause-room : goal.push_front-requires-clause-room
push_front-requires-clause-room c =
    let mid = c.link.new.over in
    let places = link_places (seen c.args.over.now c.args.ram.now) c.args.shape.now c.args.item in
    let spare : length mid.writes + 4 ≤ mid.room = spare_after places 4 c.args.over.now mid c.link.ensures.grew (omega (arith, c.requires.room)) in
    spare_room mid (front_places c.args.shape.now (seen mid c.args.ram.now (c.args.shape.now.head + 6)) c.args.item) (omega (arith, spare))

pub returns-clause-parts : goal.returns-clause-parts
returns-clause-parts c = λ parts held fresh.
    let chains = c.link.ensures.chains parts.chains held.chains fresh.chained in
    let mid = mid_held c.args.shape.now c.requires.shape c.args.ram.now c.args.over.now c.link.new.over c.args.item c.requires.item c.link.ensures.grew parts held chains in
    joined c.args.shape.now c.requires.shape c.args.ram.now c.args.over.now c.link.new.over c.args.item c.requires.item c.link.ensures.grew parts held chains c.push_front.new.over
    c.push_front.ensures.grew fresh.apart (c.push_front.ensures.list parts.items mid.recency fresh.recent)

pub returns-clause-grew : goal.returns-clause-grew
returns-clause-grew c =
    let unlisted = c.requires.unlisted in
    joined_grew c.args.shape.now c.requires.shape c.args.ram.now c.args.over.now c.link.new.over c.args.item c.requires.item c.link.ensures.grew unlisted.0 unlisted.1.0
    (c.link.ensures.chains unlisted.0.chains unlisted.1.0.chains unlisted.1.1.chained) c.push_front.new.over c.push_front.ensures.grew
