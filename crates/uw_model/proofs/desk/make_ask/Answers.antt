-- An operation of an area, at the moment of the ask.
use Rattle.uw_model.specs.declared.areas.AreaAnswer.{AreaAnswer}
use Rattle.uw_model.specs.declared.asks.Ask.TheVariants as asks
use Rattle.uw_model.specs.declared.asks.AskAnswer.TheVariants as ask_answers
use Rattle.uw_model.proofs.AskLemmas.{unanswered_as}
use Rattle.uw_model.proofs.desk.make_ask.Goals as goal

pub returns-in-Ok-area-clause-asked : goal.returns-in-Ok-area-clause-asked
returns-in-Ok-area-clause-asked g c = rw c.in-Area.is (c.in-Ok-area.ensures.asked c.args.moment)

pub returns-in-Err-area-clause-asked : goal.returns-in-Err-area-clause-asked
returns-in-Err-area-clause-asked g c =
    unanswered_as (λ (answer : AreaAnswer). ask_answers.Area answer) (g.D.Desk.leads c.args.desk.now c.area.new.self) (g.L.Life.allowances c.args.life.now) (g.L.Life.allowances c.area.new.life) c.args.moment c.args.ask.now (asks.Area c.in-Area.area c.in-Area.op) c.in-Err-area.fault c.in-Area.is (c.in-Err-area.ensures.asked c.args.moment)
