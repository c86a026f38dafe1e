use Rattle.std.proofs.Common.{sym, ap, subst, refl}
use Rattle.uw_model.specs.Asks.{DeskParts}
use Rattle.uw_model.specs.Lists.{Lists}
use Rattle.uw_rules.specs.PartNumbers.{AskPartsBelow}
use Rattle.uw_rules.specs.Compiled.{rules_of}
use Rattle.uw_conf.specs.declared.conf.Options.{Options}
use Rattle.uw_session.specs.Exchange.{HasParts}
use Rattle.uw_shared.specs.Regions.{RegionsStandFor}
use Rattle.uw_top.specs.Pipe.{first_lists}
use Rattle.uw_top.proofs.Parts.{has_own_parts, region_parts}
use Rattle.uw_top.proofs.load.loaded.Goals as goal

pub load-requires-clause-known : goal.load-requires-clause-known
load-requires-clause-known g c =
    subst (λ (parts : DeskParts). AskPartsBelow parts (rules_of c.args.conf.routes)) (sym (region_parts c.args.conf c.in-Ok.desk c.in-Ok.ensures.stand)) c.requires.known

pub load-requires-clause-enough : goal.load-requires-clause-enough
load-requires-clause-enough g c =
    subst (λ (parts : DeskParts). HasParts parts c.args.conf) (sym (region_parts c.args.conf c.in-Ok.desk c.in-Ok.ensures.stand)) (has_own_parts c.args.conf)

pub returns : goal.returns
returns g c = λ site is.
    let stand = subst (λ (lists : Lists). RegionsStandFor c.in-Ok.desk lists) (ap (λ (options : Options). first_lists options) is.options) c.in-Ok.ensures.stand in
    (c.load.ensures.stands site (first_lists site.options) is stand refl).2
