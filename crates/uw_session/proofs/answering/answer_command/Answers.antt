use Rattle.uw_chain.specs.Spooling.{both_led, kept_by}
use Rattle.uw_session.specs.Exchange.{ask_reply}
use Rattle.uw_session.proofs.AnsweringLemmas.{one_answered, one_unanswered}
use Rattle.uw_session.proofs.answering.answer_command.Goals as goal

pub returns-in-Ok-clause-answers : goal.returns-in-Ok-clause-answers
returns-in-Ok-clause-answers g c =
    one_answered (both_led (g.D.Desk.leads c.args.desk.now c.ask.new.desk) (kept_by g.P.Keeper.rows g.P.Keeper.append_faults g.P.Keeper.other_faults c.args.keep.now c.ask.new.keep))
    (g.L.Life.allowances c.args.life.now) (g.L.Life.allowances c.ask.new.life) c.args.moment c.args.command (λ answer. ask_reply c.args.m2 answer)
    c.new-asks.result c.ask.new.asks c.in-Ok.field-0 c.last_answer.result.now c.ask_reply-reply.result c.behind.result c.new-asks.ensures
    c.in-Ok.ensures.asked c.last_answer.ensures c.ask_reply-reply.ensures c.behind.ensures

pub returns-in-Err-clause-answers : goal.returns-in-Err-clause-answers
returns-in-Err-clause-answers g c =
    one_unanswered (Unit {0}) (both_led (g.D.Desk.leads c.args.desk.now c.ask.new.desk) (kept_by g.P.Keeper.rows g.P.Keeper.append_faults g.P.Keeper.other_faults c.args.keep.now c.ask.new.keep))
    (g.L.Life.allowances c.args.life.now) (g.L.Life.allowances c.ask.new.life) c.args.moment c.args.command (λ answer. ask_reply c.args.m2 answer)
    c.new-asks.result c.ask.new.asks c.in-Err.end c.new-asks.ensures c.in-Err.ensures.asked
