use Rattle.std.proofs.Common.{◌∙◌, refl}
use Rattle.uw_top.specs.Run.{IsSaid}
use Rattle.uw_top.proofs.Configuring.{conf_given, read_full, read_short}
use Rattle.uw_top.proofs.configuration.read_into.Goals as goal

pub returns-in-Whole-clause-gives : goal.returns-in-Whole-clause-gives
returns-in-Whole-clause-gives g c =
    conf_given (g.M.Patterns.faults c.args.make.now) (g.M.Patterns.faults c.said.new.make) IsSaid _ c.fill.new.buf c.said.result (read_full _ _ c.in-Whole.ensures.bytes (c.fill.auto.buf ∙ c.requires) (c.in-Whole.ensures.kept refl)) c.said.ensures.says

pub returns-in-Short-clause-gives : goal.returns-in-Short-clause-gives
returns-in-Short-clause-gives g c =
    let why = c.in-Short.ensures.why in
    conf_given (g.M.Patterns.faults c.args.make.now) (g.M.Patterns.faults c.said-in-Short.new.make) IsSaid _ _ c.said-in-Short.result
    (read_short _ c.fill.new.buf c.in-Short.count c.in-Short.ensures.bytes why.0 (c.fill.auto.buf ∙ c.requires) (why.1, why.2) (c.in-Short.ensures.kept refl)) c.said-in-Short.ensures.says
