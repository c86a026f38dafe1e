use Rattle.std.proofs.Common.{◌<◌, ◌∙◌, ◌+◌, refl, length, arith}
use Rattle.std.proofs.lemmas.Result.{err_from_is_err_and}
use Rattle.uw_chain.specs.declared.outcome.Outcome.TheVariants as outcomes
use Rattle.uw_chain.proofs.RouteLemmas.{asks_at, jump_goes_on, none_died, passes_ends, passes_fault, passes_over, passes_rule, slot_at, slot_set, slots_length}
use Rattle.uw_chain.proofs.SpoolLemmas.{site, site_more, site_none}
use Rattle.uw_chain.proofs.routing.run_rules.Goals as goal

pub rules-init : goal.rules-init
rules-init g c = record {
  fits = c.requires.fits;
  alive = c.requires.alive;
  deaths = refl;
  parts = refl;
  settled = λ settled. settled;
  later = omega arith;
  others = refl;
  passes = λ naming written are later told after result runs. runs;
}

pub bounds-slots-at : goal.bounds-slots-at
bounds-slots-at g c = omega (arith, slots_length c.args.rules.now c.rules.slots c.rules.invariant.fits)

pub run_rule-requires-clause-fits : goal.run_rule-requires-clause-fits
run_rule-requires-clause-fits g c =
    slot_at c.args.rules.now c.rules.slots c.rules.at c.index-rules-at.result c.index-slots-at.result c.rules.invariant.fits c.rules-test.true c.index-rules-at.is

pub run_rule-requires-clause-known : goal.run_rule-requires-clause-known
run_rule-requires-clause-known g c =
    rw c.rules.invariant.parts
    (asks_at (g.D.Desk.parts c.args.desk.now) c.args.rules.now c.rules.at c.index-rules-at.result c.requires.known c.rules-test.true c.index-rules-at.is)

pub run_rule-requires-clause-alive : goal.run_rule-requires-clause-alive
run_rule-requires-clause-alive g c = c.rules.invariant.alive

pub returns-in_err-changed-clause-runs : goal.returns-in_err-changed-clause-runs
returns-in_err-changed-clause-runs g c = λ naming written are.
    let end = err_from_is_err_and c.from_residual.result c.from_residual.ensures.1 in
    let life = g.L.Life.allowances in
    rw (end.1, end.2)
    (passes_fault (site g.D.Desk.leads g.P.Keeper.rows g.P.Keeper.append_faults g.P.Keeper.other_faults) (c.args.desk.now, c.args.keep.now) (c.rules.desk, c.rules.keep) (c.run_rule.new.desk, c.run_rule.new.keep) (life c.args.life.now) (life c.rules.life) (life c.run_rule.new.life)
    c.args.moment c.args.rules.now c.args.first c.rules.request c.rules.at c.args.asks.now c.rules.asks c.run_rule.new.asks c.index-rules-at.result
    c.in_err-changed.field-0.0 c.rules-test.true c.index-rules-at.is c.in_err-changed.ensures.runs c.rules.invariant.passes naming written are)

pub returns-in_err-changed-clause-fits : goal.returns-in_err-changed-clause-fits
returns-in_err-changed-clause-fits g c =
    slot_set c.args.rules.now c.rules.slots c.rules.at c.index-rules-at.result c.run_rule.new.slot c.rules.invariant.fits c.rules-test.true c.index-rules-at.is
    c.in_err-changed.ensures.fits

pub returns-in_err-changed-clause-cause : goal.returns-in_err-changed-clause-cause
returns-in_err-changed-clause-cause g c =
    let end = err_from_is_err_and c.from_residual.result c.from_residual.ensures.1 in
    rw (end.1, end.2, ← c.rules.invariant.deaths) c.in_err-changed.ensures.cause

pub returns-in_err-changed-clause-parts : goal.returns-in_err-changed-clause-parts
returns-in_err-changed-clause-parts g c = c.in_err-changed.ensures.parts ∙ c.rules.invariant.parts

pub returns-in_err-changed-clause-settled : goal.returns-in_err-changed-clause-settled
returns-in_err-changed-clause-settled g c =
    let end = err_from_is_err_and c.from_residual.result c.from_residual.ensures.1 in
    rw (end.1, end.2) (λ settled alive. c.in_err-changed.ensures.settled (c.rules.invariant.settled settled) alive)

pub returns-in_err-changed-clause-later : goal.returns-in_err-changed-clause-later
returns-in_err-changed-clause-later g c = omega (arith, c.in_err-changed.ensures.later, c.rules.invariant.later)

pub returns-in_err-changed-clause-others : goal.returns-in_err-changed-clause-others
returns-in_err-changed-clause-others g c = c.in_err-changed.ensures.others ∙ c.rules.invariant.others

pub rules-preserved-in-GoesOn : goal.rules-preserved-in-GoesOn
rules-preserved-in-GoesOn g c =
    let ran = rw c.in-GoesOn.is at c.in_ok-changed.ensures.runs in
    let life = g.L.Life.allowances in
    record {
      fits =
          slot_set c.args.rules.now c.rules.slots c.rules.at c.index-rules-at.result c.run_rule.new.slot c.rules.invariant.fits c.rules-test.true
          c.index-rules-at.is c.in_ok-changed.ensures.fits;
      alive = c.in_ok-changed.ensures.alive;
      deaths = c.in_ok-changed.ensures.cause.kept refl ∙ c.rules.invariant.deaths;
      parts = c.in_ok-changed.ensures.parts ∙ c.rules.invariant.parts;
      settled = λ settled. c.in_ok-changed.ensures.settled (c.rules.invariant.settled settled) refl;
      later = omega (arith, c.in_ok-changed.ensures.later, c.rules.invariant.later);
      others = c.in_ok-changed.ensures.others ∙ c.rules.invariant.others;
      passes =
          passes_rule (site g.D.Desk.leads g.P.Keeper.rows g.P.Keeper.append_faults g.P.Keeper.other_faults)
          (site_more g.D.Desk.leads g.P.Keeper.rows g.P.Keeper.append_faults g.P.Keeper.other_faults g.met.D.Desk.leads_more)
          (c.args.desk.now, c.args.keep.now) (c.rules.desk, c.rules.keep) (c.run_rule.new.desk, c.run_rule.new.keep) (life c.args.life.now) (life c.rules.life)
          (life c.run_rule.new.life) c.args.moment c.args.rules.now c.args.first c.rules.request c.in-GoesOn.changed c.rules.at (c.rules.at + 1)
          c.args.asks.now c.rules.asks c.run_rule.new.asks c.index-rules-at.result (outcomes.GoesOn c.in-GoesOn.changed) c.rules-test.true c.index-rules-at.is
          ran (λ naming written. refl) c.rules.invariant.passes;
    }

pub rules-preserved : goal.rules-preserved
rules-preserved g c =
    let ran = rw c.in-Jumps.is at c.in_ok-changed.ensures.runs in
    let life = g.L.Life.allowances in
    record {
      fits =
          slot_set c.args.rules.now c.rules.slots c.rules.at c.index-rules-at.result c.run_rule.new.slot c.rules.invariant.fits c.rules-test.true
          c.index-rules-at.is c.in_ok-changed.ensures.fits;
      alive = c.in_ok-changed.ensures.alive;
      deaths = c.in_ok-changed.ensures.cause.kept refl ∙ c.rules.invariant.deaths;
      parts = c.in_ok-changed.ensures.parts ∙ c.rules.invariant.parts;
      settled = λ settled. c.in_ok-changed.ensures.settled (c.rules.invariant.settled settled) refl;
      later = omega (arith, c.in_ok-changed.ensures.later, c.rules.invariant.later);
      others = c.in_ok-changed.ensures.others ∙ c.rules.invariant.others;
      passes =
          passes_rule (site g.D.Desk.leads g.P.Keeper.rows g.P.Keeper.append_faults g.P.Keeper.other_faults)
          (site_more g.D.Desk.leads g.P.Keeper.rows g.P.Keeper.append_faults g.P.Keeper.other_faults g.met.D.Desk.leads_more)
          (c.args.desk.now, c.args.keep.now) (c.rules.desk, c.rules.keep) (c.run_rule.new.desk, c.run_rule.new.keep) (life c.args.life.now) (life c.rules.life)
          (life c.run_rule.new.life) c.args.moment c.args.rules.now c.args.first c.rules.request c.in-Jumps.changed c.rules.at c.max-at.result
          c.args.asks.now c.rules.asks c.run_rule.new.asks c.index-rules-at.result (outcomes.Jumps c.in-Jumps.number c.in-Jumps.changed) c.rules-test.true
          c.index-rules-at.is ran
          (λ naming written. jump_goes_on naming c.args.moment c.rules.at c.in-Jumps.number c.max-at.result written c.in-Jumps.changed c.max-at.ensures)
          c.rules.invariant.passes;
    }

pub returns-in-Ends-clause-runs : goal.returns-in-Ends-clause-runs
returns-in-Ends-clause-runs g c = λ naming written are.
    let ran = rw c.in-Ends.is at c.in_ok-changed.ensures.runs in
    let life = g.L.Life.allowances in
    passes_ends (site g.D.Desk.leads g.P.Keeper.rows g.P.Keeper.append_faults g.P.Keeper.other_faults) (c.args.desk.now, c.args.keep.now) (c.rules.desk, c.rules.keep) (c.run_rule.new.desk, c.run_rule.new.keep) (life c.args.life.now) (life c.rules.life) (life c.run_rule.new.life)
    c.args.moment c.args.rules.now c.args.first c.rules.request c.rules.at c.args.asks.now c.rules.asks c.run_rule.new.asks c.index-rules-at.result
    c.in-Ends.ending c.in-Ends.request c.rules-test.true c.index-rules-at.is ran c.rules.invariant.passes naming written are

pub returns-in-Ends-clause-fits : goal.returns-in-Ends-clause-fits
returns-in-Ends-clause-fits g c =
    slot_set c.args.rules.now c.rules.slots c.rules.at c.index-rules-at.result c.run_rule.new.slot c.rules.invariant.fits c.rules-test.true c.index-rules-at.is
    c.in_ok-changed.ensures.fits

pub returns-in-Ends-clause-cause : goal.returns-in-Ends-clause-cause
returns-in-Ends-clause-cause g c = rw (← c.rules.invariant.deaths) c.in_ok-changed.ensures.cause

pub returns-in-Ends-clause-parts : goal.returns-in-Ends-clause-parts
returns-in-Ends-clause-parts g c = c.in_ok-changed.ensures.parts ∙ c.rules.invariant.parts

pub returns-in-Ends-clause-settled : goal.returns-in-Ends-clause-settled
returns-in-Ends-clause-settled g c = λ settled alive. c.in_ok-changed.ensures.settled (c.rules.invariant.settled settled) refl

pub returns-in-Ends-clause-later : goal.returns-in-Ends-clause-later
returns-in-Ends-clause-later g c = omega (arith, c.in_ok-changed.ensures.later, c.rules.invariant.later)

pub returns-in-Ends-clause-others : goal.returns-in-Ends-clause-others
returns-in-Ends-clause-others g c = c.in_ok-changed.ensures.others ∙ c.rules.invariant.others

pub returns-clause-runs : goal.returns-clause-runs
returns-clause-runs g c = λ naming written are.
    let life = g.L.Life.allowances in
    passes_over (site g.D.Desk.leads g.P.Keeper.rows g.P.Keeper.append_faults g.P.Keeper.other_faults)
    (site_none g.D.Desk.leads g.P.Keeper.rows g.P.Keeper.append_faults g.P.Keeper.other_faults g.met.D.Desk.leads_none) (c.args.desk.now, c.args.keep.now) (c.rules.desk, c.rules.keep) (life c.args.life.now) (life c.rules.life) c.args.moment
    c.args.rules.now c.args.first c.rules.request c.rules.at c.args.asks.now c.rules.asks c.rules-test.false c.rules.invariant.passes naming written are

pub returns-clause-fits : goal.returns-clause-fits
returns-clause-fits g c = c.rules.invariant.fits

pub returns-clause-cause : goal.returns-clause-cause
returns-clause-cause g c = none_died (g.L.Life.deaths c.args.life.now) (g.L.Life.deaths c.rules.life) c.rules.invariant.deaths

pub returns-clause-alive : goal.returns-clause-alive
returns-clause-alive g c = c.rules.invariant.alive

pub returns-clause-parts : goal.returns-clause-parts
returns-clause-parts g c = c.rules.invariant.parts

pub returns-clause-settled : goal.returns-clause-settled
returns-clause-settled g c = λ settled alive. c.rules.invariant.settled settled

pub returns-clause-later : goal.returns-clause-later
returns-clause-later g c = c.rules.invariant.later

pub returns-clause-others : goal.returns-clause-others
returns-clause-others g c = c.rules.invariant.others

pub offset_bounds-slots-at : goal.offset_bounds-slots-at
offset_bounds-slots-at g c = let bound : c.rules.at < length c.rules.slots = omega (arith, slots_length c.args.rules.now c.rules.slots c.rules.invariant.fits) in omega arith
