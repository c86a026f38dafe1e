use Rattle.uw_top.proofs.Configuring.{cache_given}
use Rattle.uw_top.proofs.configuration.configuration_with_a_cache.Goals as goal

pub returns-in-Ok-clause-gives : goal.returns-in-Ok-clause-gives
returns-in-Ok-clause-gives g c =
    cache_given (g.M.Patterns.faults c.args.make.now) (g.M.Patterns.faults c.configuration.new.make) _ c.in-Ok.conf c.having_a_cache.result c.in-Ok.ensures.gives c.having_a_cache.ensures.gives
