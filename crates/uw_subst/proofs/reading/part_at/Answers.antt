use Rattle.std.proofs.Common.{arith}
use Rattle.uw_subst.proofs.PieceLemmas.{plain_front}
use Rattle.uw_subst.proofs.PartLemmas.{constant_part}
use Rattle.uw_subst.proofs.PlaceLemmas.{capture_part}
use Rattle.uw_subst.proofs.reading.part_at.Goals as goal

pub returns-in-Plain-clause-part : goal.returns-in-Plain-clause-part
returns-in-Plain-clause-part c =
    let text = c.args.text.now in let at = c.args.at in let end = c.constant_end-end.result in
    constant_part text at end c.between.result (omega (arith, c.constant_end-end.ensures.later)) c.constant_end-end.ensures.inside c.between.ensures.from c.between.ensures.len
    (plain_front text at end c.requires.inside c.constant_end-end.ensures.later c.in-Plain.ensures (record { same = c.constant_end-end.ensures.constant }))

pub returns-in-Capture-clause-part : goal.returns-in-Capture-clause-part
returns-in-Capture-clause-part c = capture_part c.args.text.now c.args.at c.in-Capture.number c.requires.inside c.in-Capture.ensures.0 c.in-Capture.ensures.1 c.in-Capture.ensures.2
