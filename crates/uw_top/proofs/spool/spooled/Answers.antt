use Rattle.std.proofs.Common.{sym, ap, subst}
use Rattle.uw_outside.specs.Streams.{outflow}
use Rattle.uw_keeper.specs.Keeping.{Keeping, keeping}
use Rattle.uw_model.specs.Lists.{Lists}
use Rattle.uw_model.specs.Asks.{DeskParts}
use Rattle.uw_rules.specs.PartNumbers.{AskPartsBelow}
use Rattle.uw_rules.specs.Compiled.{rules_of}
use Rattle.uw_conf.specs.declared.conf.Options.{Options}
use Rattle.uw_shared.specs.Regions.{RegionsStandFor}
use Rattle.uw_top.specs.Pipe.{first_lists, list_leads}
use Rattle.uw_top.proofs.Parts.{region_parts}
use Rattle.uw_top.proofs.SpoolLemmas.{no_round, spool_run}
use Rattle.uw_top.proofs.spool.spooled.Goals as goal

pub returns-in-Err : goal.returns-in-Err
returns-in-Err g c = record {
  spools = λ site is.
      let kept = keeping g.P.Keeper.rows g.P.Keeper.append_faults g.P.Keeper.other_faults c.args.keep.now in
      (first_lists site.options, no_round list_leads site c.now-now.result (first_lists site.options) kept _ _ _ c.now-now.ensures);
}

pub returns-in-Err-new : goal.returns-in-Err-new
returns-in-Err-new g c = record {
  spools = λ site is.
      let kept = keeping g.P.Keeper.rows g.P.Keeper.append_faults g.P.Keeper.other_faults c.args.keep.now in
      (first_lists site.options, no_round list_leads site c.now-now.result (first_lists site.options) kept _ _ _ c.now-now.ensures);
}

pub spool-requires-clause-known : goal.spool-requires-clause-known
spool-requires-clause-known g c =
    subst (λ (parts : DeskParts). AskPartsBelow parts (rules_of c.args.conf.tasks)) (sym (region_parts c.args.conf c.in-Ok.desk c.in-Ok.ensures.stand)) c.requires.known

pub returns : goal.returns
returns g c = record {
  spools = λ site is.
      let snk = outflow g.K.Sink.taken g.K.Sink.faults c.args.snk.now c.spool.new.snk in
      let kept : Keeping = keeping g.P.Keeper.rows g.P.Keeper.append_faults g.P.Keeper.other_faults c.args.keep.now in
      let left : Keeping = keeping g.P.Keeper.rows g.P.Keeper.append_faults g.P.Keeper.other_faults c.spool.new.keep in
      let stand = subst (λ (lists : Lists). RegionsStandFor c.in-Ok.desk lists) (ap (λ (options : Options). first_lists options) is.options) c.in-Ok.ensures.stand in
      let ran = c.spool.ensures.stands site (first_lists site.options) is stand in
      (ran.0, spool_run list_leads site c.now-now.result (first_lists site.options) ran.0 kept left snk _ c.spool.result c.now-now.ensures ran.2);
}
