use Rattle.std.proofs.Common.{◌&&◌, Bool, true, ap, ◌∙◌}
use Rattle.uw_model.specs.declared.asks.Ask.TheVariants as asks
use Rattle.uw_model.specs.declared.asks.AskAnswer.TheVariants as ask_answers
use Rattle.death_tests.proofs.DyingDesk.{answered_between, died_behind, not_made}
use Rattle.death_tests.proofs.mortal.MortalDeskDesk.cache.Goals as goal

pub returns-then-may_write-clause-asked : goal.returns-then-may_write-clause-asked
returns-then-may_write-clause-asked g c =
    answered_between (λ answer. ask_answers.Cache answer) c.args.self.now.lists c.cache.new.self c.args.moment (asks.Cache c.args.cache c.args.call.now)
    (g.L.Life.allowances c.args.life.now) (g.L.Life.allowances c.may_write.new.self) (g.L.Life.allowances c.may_write-in-Ok.new.self) _ _ c.in-Ok.answer
    c.if-not-may_write.ensures.told c.if-may_write.ensures.told c.in-Ok.ensures.asked

pub returns-else-may_write-clause-asked : goal.returns-else-may_write-clause-asked
returns-else-may_write-clause-asked g c =
    died_behind (λ answer. ask_answers.Cache answer) c.args.self.now.lists c.cache.new.self c.args.moment (asks.Cache c.args.cache c.args.call.now)
    (g.L.Life.allowances c.args.life.now) (g.L.Life.allowances c.may_write.new.self) (g.L.Life.allowances c.may_write-in-Ok.new.self) _ _ c.in-Ok.answer
    (c.if-not-may_write.ensures.alive ∙ ap (λ (alive : Bool). alive && true) c.requires.alive) c.if-not-may_write.ensures.told c.if-may_write.ensures.told
    c.in-Ok.ensures.asked

pub returns-in-Err-clause-asked : goal.returns-in-Err-clause-asked
returns-in-Err-clause-asked g c =
    not_made (λ answer. ask_answers.Cache answer) c.args.self.now.lists c.cache.new.self c.args.moment (asks.Cache c.args.cache c.args.call.now)
    (g.L.Life.allowances c.args.life.now) (g.L.Life.allowances c.may_write.new.self) _ c.in-Err.fault c.if-not-may_write.ensures.told c.in-Err.ensures.asked
