use Rattle.std.proofs.Common.{ℕ, length, ap, ◌∙◌, subst}
use Rattle.std.proofs.lemmas.List.{length-map}
use Rattle.uw_model.specs.Asks.{IsOfPart}
use Rattle.uw_conf.specs.Given.{parts_in}
use Rattle.uw_session.proofs.TakingLemmas.{part_can_be_asked}
use Rattle.uw_session.proofs.taking.command_in.Goals as goal

pub returns-in-Ok-clause-answerable : goal.returns-in-Ok-clause-answerable
returns-in-Ok-clause-answerable c =
    let conf = c.args.conf.now in
    part_can_be_asked (parts_in conf) c.in-Ok.ask
    (subst (λ (n : ℕ). IsOfPart (record { caches = n; areas = length conf.areas }) c.in-Ok.ask) (ap length c.names.ensures ∙ length-map conf.caches _)
    (c.in-Ok.ensures.known (length conf.areas)))
