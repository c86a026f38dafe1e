use Rattle.std.proofs.Common.{◌≡◌, ℕ, List, Option, Some, refl, sym, ap, subst, inl, inr}
use Rattle.uw_outside.specs.Lives.{LifeLeft}
use Rattle.uw_outside.specs.Streams.{inflow, outflow}
use Rattle.uw_keeper.specs.Keeping.{Keeping, keeping}
use Rattle.uw_model.specs.Asks.{DeskParts}
use Rattle.uw_model.specs.Lists.{Lists}
use Rattle.uw_rules.specs.PartNumbers.{AskPartsBelow}
use Rattle.uw_rules.specs.Compiled.{rules_of}
use Rattle.uw_chain.proofs.SpoolLemmas.{kept_none}
use Rattle.uw_conf.specs.declared.conf.Options.{Options}
use Rattle.uw_ends.specs.declared.ends.Brief.{Brief}
use Rattle.uw_session.specs.Exchange.{HasParts}
use Rattle.uw_shared.specs.Regions.{Regions, RegionsStandFor}
use Rattle.uw_shared.specs.AskRuns.{LeadsRegions}
use Rattle.uw_top.specs.Kept.{PipeFlow, allowed_by}
use Rattle.uw_top.specs.Pipe.{PipeRun, both_lead, first_lists, list_leads}
use Rattle.uw_top.proofs.Keeping.{KeepsAs, keeps_by, regions_run}
use Rattle.uw_top.proofs.Machine.{nothing_done}
use Rattle.uw_top.proofs.Parts.{has_own_parts, region_parts}
use Rattle.uw_top.proofs.runs.piped.Goals as goal
use Rattle.uw_top.proofs.runs.piped.Goals.{then-is_none, else-is_none}

pub returns-in_default-clause-pipes : goal.returns-in_default-clause-pipes
returns-in_default-clause-pipes g c = λ site is.
    let start : Lists × Keeping = (first_lists site.options, keeping g.P.Keeper.rows g.P.Keeper.append_faults g.P.Keeper.other_faults c.args.keep.now) in
    rw c.refused.ensures record {
      lists = first_lists site.options;
      listed = nothing_done g.C.Clock.gave g.met.C.Clock.gave_none (both_lead list_leads) start site _ _ c.args.clock.now _ _ _ (allowed_by c.args.die.now) (refl, kept_none start.1);
      regions = inr (refl, (refl, refl, refl, refl, refl, refl));
    }

pub returns-in_default-new-clause-pipes : goal.returns-in_default-new-clause-pipes
returns-in_default-new-clause-pipes g c = λ site is.
    let start : Lists × Keeping = (first_lists site.options, keeping g.P.Keeper.rows g.P.Keeper.append_faults g.P.Keeper.other_faults c.args.keep.now) in
    rw c.refused-in_default-new.ensures record {
      lists = first_lists site.options;
      listed = nothing_done g.C.Clock.gave g.met.C.Clock.gave_none (both_lead list_leads) start site _ _ c.args.clock.now _ _ _ (allowed_by c.args.die.now) (refl, kept_none start.1);
      regions = inr (refl, (refl, refl, refl, refl, refl, refl));
    }

pub serve_packets-fault-requires-clause-enough : goal.serve_packets-fault-requires-clause-enough
serve_packets-fault-requires-clause-enough g c =
    subst (λ (parts : DeskParts). HasParts parts c.args.conf) (sym (region_parts c.args.conf c.in-Ok.desk c.in-Ok.ensures.desk)) (has_own_parts c.args.conf)

pub serve_packets-fault-requires-clause-known : goal.serve_packets-fault-requires-clause-known
serve_packets-fault-requires-clause-known g c =
    subst (λ (parts : DeskParts). AskPartsBelow parts (rules_of c.args.conf.routes)) (sym (region_parts c.args.conf c.in-Ok.desk c.in-Ok.ensures.desk)) c.requires.known

pub returns-clause-pipes : goal.returns-clause-pipes
returns-clause-pipes g c = λ site is.
    let f : PipeFlow = record {
      src = inflow g.S.Source.left g.S.Source.ended g.S.Source.faults c.args.src.now c.serve_packets-fault.new.src;
      snk = outflow g.K.Sink.taken g.K.Sink.faults c.args.snk.now c.serve_packets-fault.new.snk;
      gave = g.C.Clock.gave c.args.clock.now c.serve_packets-fault.new.clock;
      kept = keeping g.P.Keeper.rows g.P.Keeper.append_faults g.P.Keeper.other_faults c.args.keep.now;
      left = keeping g.P.Keeper.rows g.P.Keeper.append_faults g.P.Keeper.other_faults c.serve_packets-fault.new.keep;
      desk = c.args.kept.now;
      desk_now = c.if-is_none.kept;
    } in
    let fault = c.serve_packets-fault.result in
    let first : Regions = c.in-Ok.desk in
    let last : Regions = c.serve_packets-fault.new.desk in
    let lists : Lists = first_lists site.options in
    let stand : RegionsStandFor first lists =
    subst (λ (l : Lists). RegionsStandFor first l) (ap (λ (options : Options). first_lists options) is.options) c.in-Ok.ensures.desk in
    let life : Some c.in-Ok.life.allowances ≡ allowed_by c.args.die.now = ap (λ (left : LifeLeft). Some left.allowances) c.in-Ok.ensures.life in
    let briefs = c.from_vec.ensures in
    let ran = c.serve_packets-fault.ensures.runs site is in
    let told = ran.2 lists stand in
    let Listed : Option (List ℕ) → List Brief → Type 0 =
    λ allowed told. PipeRun (both_lead list_leads) (lists, f.kept) ((ran.2 lists stand).0, f.left) allowed site f.src f.snk f.gave told fault in
    let Over : Option (List ℕ) → List Brief → Type 0 =
    λ allowed told. PipeRun (both_lead LeadsRegions) (first, f.kept) (last, f.left) allowed site f.src f.snk f.gave told fault in
    let listed : Listed (allowed_by c.args.die.now) c.from_vec.result =
    subst (λ (b : List Brief). Listed (allowed_by c.args.die.now) b) (sym briefs) (subst (λ (a : Option (List ℕ)). Listed a c.serve_packets-fault.new.briefs.items) life told.2.0) in
    let over : Over (allowed_by c.args.die.now) c.from_vec.result =
    subst (λ (b : List Brief). Over (allowed_by c.args.die.now) b) (sym briefs) (subst (λ (a : Option (List ℕ)). Over a c.serve_packets-fault.new.briefs.items) life ran.0) in
    let keeps : KeepsAs fault f.desk f.desk_now last = elim c.if-is_none.branch [
      | then-is_none w ↦ keeps_by fault f.desk f.desk_now last c.is_none.result c.is_none.ensures (λ none. w.kept-is) (λ some. absurd (let wrong : ⊥ = cc in wrong))
      | else-is_none w ↦ keeps_by fault f.desk f.desk_now last c.is_none.result c.is_none.ensures (λ none. absurd (let wrong : ⊥ = cc in wrong)) (λ some. w.kept-is)
    ] in
    rw c.new-2.ensures record {
      lists = told.0;
      listed = listed;
      regions = inl (regions_run site (allowed_by c.args.die.now) f c.from_vec.result fault first last stand c.in-Ok.ensures.settled over keeps);
    }
