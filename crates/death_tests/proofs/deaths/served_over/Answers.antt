use Rattle.std.proofs.Common.{◌≡◌, ◌∙◌, sym, ap, ap₂, subst}
use Rattle.std.proofs.lemmas.List.{length-map}
use Rattle.uw_model.specs.Asks.{DeskParts}
use Rattle.uw_model.specs.Lists.{Lists, empty_lists, parts_of}
use Rattle.uw_rules.specs.PartNumbers.{AskPartsBelow}
use Rattle.uw_rules.specs.Compiled.{rules_of}
use Rattle.uw_conf.specs.declared.conf.Conf.{Conf}
use Rattle.uw_conf.specs.Given.{parts_in}
use Rattle.uw_session.specs.Exchange.{HasParts}
use Rattle.uw_top.proofs.Parts.{has_own_parts}
use Rattle.death_tests.proofs.deaths.served_over.Goals as goal

-- empty lists have the parts of their configuration
empty_parts : (conf : Conf) (lists : Lists) → lists ≡ empty_lists conf.caches conf.areas → parts_of lists ≡ parts_in conf
empty_parts conf lists empty =
    ap parts_of empty
    ∙ ap₂ (λ caches areas. let parts : DeskParts = record { caches = caches; areas = areas } in parts) (length-map conf.caches _) (length-map conf.areas _)

pub serve_packets-fault-requires-clause-known : goal.serve_packets-fault-requires-clause-known
serve_packets-fault-requires-clause-known c =
    subst (λ (parts : DeskParts). AskPartsBelow parts (rules_of c.args.conf.routes)) (sym (empty_parts c.args.conf c.in-Ok.lists c.in-Ok.ensures)) c.requires.known

pub serve_packets-fault-requires-clause-enough : goal.serve_packets-fault-requires-clause-enough
serve_packets-fault-requires-clause-enough c =
    subst (λ (parts : DeskParts). HasParts parts c.args.conf) (sym (empty_parts c.args.conf c.in-Ok.lists c.in-Ok.ensures)) (has_own_parts c.args.conf)
