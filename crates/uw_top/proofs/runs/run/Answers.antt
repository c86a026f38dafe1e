use Rattle.std.proofs.Common.{◌≡◌, ℕ, List, [], Some, Option, refl, sym, ap, ◌∙◌, subst}
use Rattle.uw_outside.specs.Streams.{inflow, outflow}
use Rattle.uw_outside.proofs.Streams.{Takes-none}
use Rattle.uw_ends.specs.declared.ends.RunEnd.{RunEnd}
use Rattle.uw_ends.specs.declared.words.Command.{Command}
use Rattle.uw_keeper.specs.Keeping.{keeping}
use Rattle.uw_model.specs.Lists.{Lists}
use Rattle.uw_session.specs.Exchange.{Site}
use Rattle.uw_top.specs.Pipe.{first_lists, list_leads}
use Rattle.uw_top.specs.Load.{LoadRun}
use Rattle.uw_top.specs.Spool.{SpoolRun}
use Rattle.uw_top.specs.Run.{Does, IsSaid, IsSaidWithACache, Loads, Pipes, Sameness, Spools, Surroundings}
use Rattle.uw_top.proofs.Configuring.{out_of_memory, runs_map}
use Rattle.uw_top.proofs.runs.run.Goals as goal

-- there was no memory to read the words
pub returns-in-Err-Memory-clause-does : goal.returns-in-Err-Memory-clause-does
returns-in-Err-Memory-clause-does g c =
    let around : Surroundings = record {
      conf = inflow g.F.Source.left g.F.Source.ended g.F.Source.faults c.args.conf.now c.args.conf.now;
      refused = g.M.Patterns.faults c.args.make.now;
      refused_now = g.M.Patterns.faults c.args.make.now;
      src = inflow g.S.Source.left g.S.Source.ended g.S.Source.faults c.args.src.now c.args.src.now;
      snk = outflow g.K.Sink.taken g.K.Sink.faults c.args.snk.now c.args.snk.now;
      gave = g.C.Clock.gave c.args.clock.now c.args.clock.now;
      kept = keeping g.P.Keeper.rows g.P.Keeper.append_faults g.P.Keeper.other_faults c.args.keep.now;
      left = keeping g.P.Keeper.rows g.P.Keeper.append_faults g.P.Keeper.other_faults c.args.keep.now;
      desk = c.args.kept.now;
      desk_now = c.args.kept.now;
    } in
    let same : Sameness = record {
      conf = c.args.conf.now ≡ c.args.conf.now;
      make = c.args.make.now ≡ c.args.make.now;
      src = c.args.src.now ≡ c.args.src.now;
      snk = c.args.snk.now ≡ c.args.snk.now;
      clock = c.args.clock.now ≡ c.args.clock.now;
      keep = c.args.keep.now ≡ c.args.keep.now;
      desk = c.args.kept.now ≡ c.args.kept.now;
    } in
    let end = c.refused.result in
    out_of_memory _ around same end (ap (λ (e : RunEnd). e.fault) c.refused.ensures) refl refl
    (refl, refl, refl, refl, refl, ap (λ (e : RunEnd). e.briefs) c.refused.ensures) (Takes-none (g.F.Source.left c.args.conf.now)) refl refl

pub returns-in-Ok-Spool-clause-does : goal.returns-in-Ok-Spool-clause-does
returns-in-Ok-Spool-clause-does g c =
    let around : Surroundings = record {
      conf = inflow g.F.Source.left g.F.Source.ended g.F.Source.faults c.args.conf.now c.spool_over.new.conf;
      refused = g.M.Patterns.faults c.args.make.now;
      refused_now = g.M.Patterns.faults c.spool_over.new.make;
      src = inflow g.S.Source.left g.S.Source.ended g.S.Source.faults c.args.src.now c.args.src.now;
      snk = outflow g.K.Sink.taken g.K.Sink.faults c.args.snk.now c.spool_over.new.snk;
      gave = g.C.Clock.gave c.args.clock.now c.spool_over.new.clock;
      kept = keeping g.P.Keeper.rows g.P.Keeper.append_faults g.P.Keeper.other_faults c.args.keep.now;
      left = keeping g.P.Keeper.rows g.P.Keeper.append_faults g.P.Keeper.other_faults c.spool_over.new.keep;
      desk = c.args.kept.now;
      desk_now = c.args.kept.now;
    } in
    let same : Sameness = record {
      conf = c.spool_over.new.conf ≡ c.args.conf.now;
      make = c.spool_over.new.make ≡ c.args.make.now;
      src = c.args.src.now ≡ c.args.src.now;
      snk = c.spool_over.new.snk ≡ c.args.snk.now;
      clock = c.spool_over.new.clock ≡ c.args.clock.now;
      keep = c.spool_over.new.keep ≡ c.args.keep.now;
      desk = c.args.kept.now ≡ c.args.kept.now;
    } in
    let end = c.spool_over.result in
    let command = c.in-Ok-Spool.ensures.command ∙ ap Some c.in-Ok-Spool.field-0-is in
    let Ran : Site → Type 0 = λ site. (lists : Lists) × SpoolRun list_leads (first_lists site.options) lists around.kept around.left site around.snk around.gave end.fault in
    let Did : Site → Type 0 = λ site. same.src × same.desk × (end.briefs ≡ []) × Ran site in
    let spools : Spools around same end =
    runs_map around.refused around.refused_now IsSaid _ _ _ _ Ran Did (λ kept. (refl, kept.0, kept.1, kept.2, refl, c.spool_over.ensures.briefs))
    (λ site ran. (refl, refl, c.spool_over.ensures.briefs, ran)) c.spool_over.ensures.spools in
    subst (λ (words : Option Command). Does words around same end) (sym command) spools

pub returns-in-Ok-Load-clause-does : goal.returns-in-Ok-Load-clause-does
returns-in-Ok-Load-clause-does g c =
    let around : Surroundings = record {
      conf = inflow g.F.Source.left g.F.Source.ended g.F.Source.faults c.args.conf.now c.load_over.new.conf;
      refused = g.M.Patterns.faults c.args.make.now;
      refused_now = g.M.Patterns.faults c.load_over.new.make;
      src = inflow g.S.Source.left g.S.Source.ended g.S.Source.faults c.args.src.now c.args.src.now;
      snk = outflow g.K.Sink.taken g.K.Sink.faults c.args.snk.now c.load_over.new.snk;
      gave = g.C.Clock.gave c.args.clock.now c.load_over.new.clock;
      kept = keeping g.P.Keeper.rows g.P.Keeper.append_faults g.P.Keeper.other_faults c.args.keep.now;
      left = keeping g.P.Keeper.rows g.P.Keeper.append_faults g.P.Keeper.other_faults c.args.keep.now;
      desk = c.args.kept.now;
      desk_now = c.args.kept.now;
    } in
    let same : Sameness = record {
      conf = c.load_over.new.conf ≡ c.args.conf.now;
      make = c.load_over.new.make ≡ c.args.make.now;
      src = c.args.src.now ≡ c.args.src.now;
      snk = c.load_over.new.snk ≡ c.args.snk.now;
      clock = c.load_over.new.clock ≡ c.args.clock.now;
      keep = c.args.keep.now ≡ c.args.keep.now;
      desk = c.args.kept.now ≡ c.args.kept.now;
    } in
    let end = c.load_over.result in
    let first = c.in-Ok-Load.first in
    let count = c.in-Ok-Load.count in
    let command = c.in-Ok-Load.ensures.command ∙ ap Some c.in-Ok-Load.field-0-is in
    let Ran : Site → Type 0 = λ site. LoadRun site.options first count around.snk around.gave end.fault in
    let Did : Site → Type 0 = λ site. same.src × same.keep × same.desk × (end.briefs ≡ []) × Ran site in
    let loads : Loads first count around same end =
    runs_map around.refused around.refused_now IsSaidWithACache _ _ _ _ Ran Did (λ kept. (refl, kept.0, kept.1, refl, refl, c.load_over.ensures.briefs))
    (λ site ran. (refl, refl, refl, c.load_over.ensures.briefs, ran)) c.load_over.ensures.loads in
    subst (λ (words : Option Command). Does words around same end) (sym command) loads

pub returns-in-Ok-Pipe-clause-does : goal.returns-in-Ok-Pipe-clause-does
returns-in-Ok-Pipe-clause-does g c =
    let around : Surroundings = record {
      conf = inflow g.F.Source.left g.F.Source.ended g.F.Source.faults c.args.conf.now c.pipe.new.conf;
      refused = g.M.Patterns.faults c.args.make.now;
      refused_now = g.M.Patterns.faults c.pipe.new.make;
      src = inflow g.S.Source.left g.S.Source.ended g.S.Source.faults c.args.src.now c.pipe.new.src;
      snk = outflow g.K.Sink.taken g.K.Sink.faults c.args.snk.now c.pipe.new.snk;
      gave = g.C.Clock.gave c.args.clock.now c.pipe.new.clock;
      kept = keeping g.P.Keeper.rows g.P.Keeper.append_faults g.P.Keeper.other_faults c.args.keep.now;
      left = keeping g.P.Keeper.rows g.P.Keeper.append_faults g.P.Keeper.other_faults c.pipe.new.keep;
      desk = c.args.kept.now;
      desk_now = c.pipe.new.kept;
    } in
    let same : Sameness = record {
      conf = c.pipe.new.conf ≡ c.args.conf.now;
      make = c.pipe.new.make ≡ c.args.make.now;
      src = c.pipe.new.src ≡ c.args.src.now;
      snk = c.pipe.new.snk ≡ c.args.snk.now;
      clock = c.pipe.new.clock ≡ c.args.clock.now;
      keep = c.pipe.new.keep ≡ c.args.keep.now;
      desk = c.pipe.new.kept ≡ c.args.kept.now;
    } in
    let end = c.pipe.result in
    let command = c.in-Ok-Pipe.ensures.command ∙ ap Some c.in-Ok-Pipe.field-0-is in
    let PipesBy : List ℕ → Type 0 = λ die. Pipes die around same end in
    let pipes : PipesBy c.in-Ok-Pipe.die = subst PipesBy c.as_slice-die.ensures c.pipe.ensures.pipes in
    subst (λ (words : Option Command). Does words around same end) (sym command) pipes
