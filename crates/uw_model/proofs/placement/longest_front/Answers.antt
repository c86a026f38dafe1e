-- The fronts are tried from the longest one down.
use Rattle.std.proofs.Common.{sym, ◌∙◌, arith}
use Rattle.uw_model.proofs.PlacementLemmas.{front_fits, no_front, shorter_front}
use Rattle.uw_model.proofs.placement.longest_front.Goals as goal

pub returns-in-Some-clause-front : goal.returns-in-Some-clause-front
returns-in-Some-clause-front c =
    let fits_here = front_fits c.args.conf.now c.args.entries.now c.args.n c.fronts.count (sym c.in-Some.ensures.fits) in
    sym (c.fronts.invariant.1 ∙ fits_here)

pub returns-then-count-eq0-clause-front : goal.returns-then-count-eq0-clause-front
returns-then-count-eq0-clause-front c =
    let none = no_front c.args.conf.now c.args.entries.now c.args.n c.fronts.count (sym c.in_default.ensures.fits) c.if-count-eq0.true in
    sym (c.fronts.invariant.1 ∙ none)

pub fronts-preserved : goal.fronts-preserved
fronts-preserved c =
    let shorter = shorter_front c.args.conf.now c.args.entries.now c.args.n c.fronts.count (sym c.in_default.ensures.fits) c.if-count-eq0.false in
    (omega arith, c.fronts.invariant.1 ∙ shorter)
