use Rattle.uw_chain.specs.Spooling.{both_led, kept_by}
use Rattle.uw_session.proofs.AnsweringLemmas.{request_answered, request_stopped}
use Rattle.uw_session.proofs.answering.answer_request.Goals as goal

pub returns-in-Ok-clause-answers : goal.returns-in-Ok-clause-answers
returns-in-Ok-clause-answers g c naming rules meant =
    request_answered (both_led (g.D.Desk.leads c.args.desk.now c.route_with.new.desk) (kept_by g.P.Keeper.rows g.P.Keeper.append_faults g.P.Keeper.other_faults c.args.keep.now c.route_with.new.keep))
    (g.L.Life.allowances c.args.life.now) (g.L.Life.allowances c.route_with.new.life) c.args.moment
    naming rules c.args.vars c.in-Ok.routed c.reply_bytes-reply.result c.behind.result (c.in-Ok.ensures.routes naming rules meant) c.reply_bytes-reply.ensures
    c.behind.ensures

pub returns-in-Err-clause-answers : goal.returns-in-Err-clause-answers
returns-in-Err-clause-answers g c naming rules meant =
    request_stopped (both_led (g.D.Desk.leads c.args.desk.now c.route_with.new.desk) (kept_by g.P.Keeper.rows g.P.Keeper.append_faults g.P.Keeper.other_faults c.args.keep.now c.route_with.new.keep))
    (g.L.Life.allowances c.args.life.now) (g.L.Life.allowances c.route_with.new.life) c.args.moment
    naming rules c.args.vars c.in-Err.fault (c.in-Err.ensures.routes naming rules meant)
