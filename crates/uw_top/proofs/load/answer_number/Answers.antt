use Rattle.std.proofs.Common.{◌≡◌, None, arith, subst}
use Rattle.uw_conf.specs.declared.conf.Options.{Options}
use Rattle.uw_conf.specs.Given.{options_in}
use Rattle.uw_session.specs.Exchange.{header_refusal}
use Rattle.uw_top.proofs.LoadLemmas.{accepted_header, generated_answered, generated_unanswered, kept_in_memory}
use Rattle.uw_top.proofs.load.answer_number.Goals as goal

pub returns-in-Ok-clause-answer : goal.returns-in-Ok-clause-answer
returns-in-Ok-clause-answer g c = λ site is.
    let packet = c.in_ok-packet.packet in
    let made = c.in_ok-packet.ensures in
    let accepted = accepted_header (options_in c.args.conf.now) c.args.x packet.head made.head (omega (arith, c.from-size.ensures, c.if-size-limit.false)) in
    let taken = subst (λ (o : Options). header_refusal o packet.head ≡ None) is.options accepted in
    generated_answered g.D.Desk.leads c.args.desk.now c.answer_packet.new.desk (kept_in_memory c.new-4.result c.answer_packet.new.keep) site c.args.moment c.args.x packet.head packet.block c.requires.number made.head made.block
    c.in-Ok.answered taken (c.in-Ok.ensures.answers site is)

pub returns-clause-answer : goal.returns-clause-answer
returns-clause-answer g c = λ site is.
    let packet = c.in_ok-packet.packet in
    let made = c.in_ok-packet.ensures in
    rw c.unanswered.ensures
    (generated_unanswered g.D.Desk.leads c.args.desk.now c.answer_packet.new.desk (kept_in_memory c.new-4.result c.answer_packet.new.keep) site c.args.moment c.args.x packet.head packet.block c.requires.number made.head made.block
    c.in-Err.fault (c.in-Err.ensures.answers site is))
