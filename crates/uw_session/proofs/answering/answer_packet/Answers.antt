use Rattle.std.proofs.Common.{Ok, Err, refl, subst, sym}
use Rattle.uw_keeper.specs.Keeping.{keeping}
use Rattle.uw_chain.specs.Spooling.{both_led, kept_by}
use Rattle.uw_session.specs.Serving.{AnswersPacket}
use Rattle.uw_session.specs.SessionSteps.{GivesContent}
use Rattle.uw_session.specs.declared.faults.ServeFault.{ServeFault}
use Rattle.uw_conf.specs.declared.conf.Options.{Options}
use Rattle.uw_session.proofs.AnsweringLemmas.{IsAnswerable-more, both_none, packet_unasked, packet_stopped}
use Rattle.uw_session.proofs.answering.answer_packet.Goals as goal

pub returns-in-Err-clause-answers : goal.returns-in-Err-clause-answers
returns-in-Err-clause-answers g c site of_site =
    let led = both_led (g.D.Desk.leads c.args.desk.now c.args.desk.now) (kept_by g.P.Keeper.rows g.P.Keeper.append_faults g.P.Keeper.other_faults c.args.keep.now c.args.keep.now) in
    let told = g.L.Life.allowances c.args.life.now in
    let packet = c.args.packet.now in
    subst (λ (fault : ServeFault). AnswersPacket led told told site c.args.moment packet.head packet.block (Err fault)) (sym c.unasked.ensures)
    (packet_unasked led told site c.args.moment packet.head packet.block c.in-Err.fault
    (both_none (g.D.Desk.leads c.args.desk.now c.args.desk.now) (keeping g.P.Keeper.rows g.P.Keeper.append_faults g.P.Keeper.other_faults c.args.keep.now) (g.met.D.Desk.leads_none c.args.desk.now))
    (subst (λ (options : Options). GivesContent options packet.head packet.block (Err c.in-Err.fault)) of_site.options c.in-Err.ensures.content))

pub answer_content-requires-clause-answerable : goal.answer_content-requires-clause-answerable
answer_content-requires-clause-answerable g c =
    IsAnswerable-more c.args.conf.now (g.D.Desk.parts c.args.desk.now) c.in-Ok.content c.requires.enough c.in-Ok.ensures.answerable

pub returns-in-Ok-answer_content-clause-answers : goal.returns-in-Ok-answer_content-clause-answers
returns-in-Ok-answer_content-clause-answers g c site of_site =
    let packet = c.args.packet.now in
    let said = subst (λ (options : Options). GivesContent options packet.head packet.block (Ok c.in-Ok.content)) of_site.options c.in-Ok.ensures.content in
    (said.1, c.in-Ok-answer_content.ensures.answers site packet.head packet.block of_site refl said.0)

pub returns-in-Err-answer_content-clause-answers : goal.returns-in-Err-answer_content-clause-answers
returns-in-Err-answer_content-clause-answers g c site of_site =
    let led = both_led (g.D.Desk.leads c.args.desk.now c.answer_content.new.desk) (kept_by g.P.Keeper.rows g.P.Keeper.append_faults g.P.Keeper.other_faults c.args.keep.now c.answer_content.new.keep) in
    let before = g.L.Life.allowances c.args.life.now in
    let now = g.L.Life.allowances c.answer_content.new.life in
    let packet = c.args.packet.now in
    let fault = c.in-Err-answer_content.fault in
    let said = subst (λ (options : Options). GivesContent options packet.head packet.block (Ok c.in-Ok.content)) of_site.options c.in-Ok.ensures.content in
    subst (λ (f : ServeFault). AnswersPacket led before now site c.args.moment packet.head packet.block (Err f)) (sym c.broken_off.ensures)
    (packet_stopped led before now site c.args.moment packet.head packet.block fault.done fault.end said.1
    (c.in-Err-answer_content.ensures.answers site packet.head packet.block of_site refl said.0))
