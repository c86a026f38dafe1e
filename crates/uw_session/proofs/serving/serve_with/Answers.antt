use Rattle.std.proofs.Common.{Option, Some, Ok, Err, refl, sym, subst}
use Rattle.std.specs.Prelude.{IfSome}
use Rattle.uw_outside.specs.Streams.{inflow, outflow}
use Rattle.uw_outside.proofs.Streams.{Gives-none}
use Rattle.uw_packet.specs.declared.packet.Packet.{Packet}
use Rattle.uw_conf.specs.declared.conf.Options.{Options}
use Rattle.uw_conf.specs.Given.{options_in, parts_in}
use Rattle.uw_keeper.specs.Keeping.{keeping}
use Rattle.uw_chain.specs.Spooling.{both_led, kept_by}
use Rattle.uw_session.specs.declared.faults.ServeFault.{ServeFault}
use Rattle.uw_session.specs.declared.taking.Content.{Content}
use Rattle.uw_session.specs.Serving.{Flow, Serves}
use Rattle.uw_session.specs.SessionSteps.{IsAnswerable, TakesPacket}
use Rattle.uw_session.proofs.AnsweringLemmas.{IsAnswerable-more, asks_nothing, both_none}
use Rattle.uw_session.proofs.ServingLemmas.{serves_untaken, serves_stopped, serves_written}
use Rattle.uw_session.proofs.serving.serve_with.Goals as goal

pub returns-in-Err-clause-serves : goal.returns-in-Err-clause-serves
returns-in-Err-clause-serves g c site of_site =
    let led = both_led (g.D.Desk.leads c.args.desk.now c.args.desk.now) (kept_by g.P.Keeper.rows g.P.Keeper.append_faults g.P.Keeper.other_faults c.args.keep.now c.args.keep.now) in
    let told = g.L.Life.allowances c.args.life.now in
    let src = inflow g.S.Source.left g.S.Source.ended g.S.Source.faults c.args.src.now c.take_packet.new.src in
    let f : Flow = record {
      src = src;
      snk = outflow g.K.Sink.taken g.K.Sink.faults c.args.snk.now c.args.snk.now;
      led = led;
      before = told;
      now = told;
    } in
    subst (λ (fault : ServeFault). Serves site c.args.form c.args.moment f (Err fault)) (sym c.unasked.ensures)
    (serves_untaken site c.args.form c.args.moment f c.in-Err.fault (asks_nothing led told
    (both_none (g.D.Desk.leads c.args.desk.now c.args.desk.now) (keeping g.P.Keeper.rows g.P.Keeper.append_faults g.P.Keeper.other_faults c.args.keep.now) (g.met.D.Desk.leads_none c.args.desk.now)))
    (Gives-none (g.K.Sink.taken c.args.snk.now))
    (subst (λ (options : Options). TakesPacket options src (Err c.in-Err.fault)) of_site.options c.in-Err.ensures.taken))

pub answer_content-requires-clause-answerable : goal.answer_content-requires-clause-answerable
answer_content-requires-clause-answerable g c =
    IsAnswerable-more c.args.conf.now (g.D.Desk.parts c.args.desk.now) c.in-Ok-Some.taken.1 c.requires.enough
    (subst (λ (came : Option (Packet × Content)). IfSome came (λ packet. IsAnswerable (parts_in c.args.conf.now) packet.1)) c.in-Ok-Some.field-0-is
    c.in-Ok-Some.ensures.answerable)

pub returns-in-Ok-clause-serves : goal.returns-in-Ok-clause-serves
returns-in-Ok-clause-serves g c site of_site =
    let src = inflow g.S.Source.left g.S.Source.ended g.S.Source.faults c.args.src.now c.take_packet.new.src in
    let f : Flow = record {
      src = src;
      snk = outflow g.K.Sink.taken g.K.Sink.faults c.args.snk.now c.write_reply.new.snk;
      led = both_led (g.D.Desk.leads c.args.desk.now c.answer_content.new.desk) (kept_by g.P.Keeper.rows g.P.Keeper.append_faults g.P.Keeper.other_faults c.args.keep.now c.answer_content.new.keep);
      before = g.L.Life.allowances c.args.life.now;
      now = g.L.Life.allowances c.answer_content.new.life;
    } in
    let packet : Packet = c.in-Ok-Some.taken.0 in
    let content : Content = c.in-Ok-Some.taken.1 in
    let here = subst (λ (came : Option (Packet × Content)). TakesPacket (options_in c.args.conf.now) src (Ok came)) c.in-Ok-Some.field-0-is c.in-Ok-Some.ensures.taken in
    let taken = subst (λ (options : Options). TakesPacket options src (Ok (Some (packet, content)))) of_site.options here in
    serves_written site c.args.form c.args.moment f packet content c.in-Ok.answered.asks c.in-Ok.answered.reply c.write_reply.result taken
    (c.in-Ok.ensures.answers site packet.head packet.block of_site refl taken.1) c.write_reply.ensures.writes

pub returns-in-Err-answer_content-clause-serves : goal.returns-in-Err-answer_content-clause-serves
returns-in-Err-answer_content-clause-serves g c site of_site =
    let src = inflow g.S.Source.left g.S.Source.ended g.S.Source.faults c.args.src.now c.take_packet.new.src in
    let f : Flow = record {
      src = src;
      snk = outflow g.K.Sink.taken g.K.Sink.faults c.args.snk.now c.args.snk.now;
      led = both_led (g.D.Desk.leads c.args.desk.now c.answer_content.new.desk) (kept_by g.P.Keeper.rows g.P.Keeper.append_faults g.P.Keeper.other_faults c.args.keep.now c.answer_content.new.keep);
      before = g.L.Life.allowances c.args.life.now;
      now = g.L.Life.allowances c.answer_content.new.life;
    } in
    let packet : Packet = c.in-Ok-Some.taken.0 in
    let content : Content = c.in-Ok-Some.taken.1 in
    let fault = c.in-Err-answer_content.fault in
    let here = subst (λ (came : Option (Packet × Content)). TakesPacket (options_in c.args.conf.now) src (Ok came)) c.in-Ok-Some.field-0-is c.in-Ok-Some.ensures.taken in
    let taken = subst (λ (options : Options). TakesPacket options src (Ok (Some (packet, content)))) of_site.options here in
    subst (λ (f_end : ServeFault). Serves site c.args.form c.args.moment f (Err f_end)) (sym c.broken_off.ensures)
    (serves_stopped site c.args.form c.args.moment f packet content fault.done fault.end taken (Gives-none (g.K.Sink.taken c.args.snk.now))
    (c.in-Err-answer_content.ensures.answers site packet.head packet.block of_site refl taken.1))
