use Rattle.std.proofs.Common.{◌+◌, ◌≤◌, false}
use Rattle.uw_words.specs.Parts.{GrewAt, HasRoom, seen}
use Rattle.uw_bitmap.specs.Bits.{ChangesRun, is_marked, run_places}
use Rattle.uw_plan.proofs.Steps.{by_fields, of_fields}
use Rattle.uw_plan.proofs.entries.release.Goals as goal

pub unmark-requires-clause-run : goal.unmark-requires-clause-run
unmark-requires-clause-run c =
    let fields = c.fields_of-fields.ensures in
    by_fields c.args.conf.now fields.first fields.bytes c.span_of-n.ensures (λ first n. first + n ≤ c.args.shape.now.n_blocks) c.requires.run

pub unmark-requires-clause-room : goal.unmark-requires-clause-room
unmark-requires-clause-room c =
    let fields = c.fields_of-fields.ensures in
    by_fields c.args.conf.now fields.first fields.bytes c.span_of-n.ensures (λ first n. HasRoom c.args.over.now (run_places c.args.shape.now first n)) c.requires.room

pub returns-clause-bits : goal.returns-clause-bits
returns-clause-bits c =
    let fields = c.fields_of-fields.ensures in
    let shape = c.args.shape.now in
    of_fields c.args.conf.now fields.first fields.bytes c.span_of-n.ensures
    (λ first n. ChangesRun false (is_marked (seen c.args.over.now c.args.ram.now) shape) (is_marked (seen c.unmark.new.over c.args.ram.now) shape) first n) c.unmark.ensures.bits

pub returns-clause-places : goal.returns-clause-places
returns-clause-places c =
    let fields = c.fields_of-fields.ensures in
    of_fields c.args.conf.now fields.first fields.bytes c.span_of-n.ensures (λ first n. GrewAt (run_places c.args.shape.now first n) c.args.over.now c.unmark.new.over) c.unmark.ensures.places
