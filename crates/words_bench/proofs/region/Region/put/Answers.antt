use Rattle.std.proofs.Common.{inr, sym, subst, arith}
use Rattle.uw_words.specs.Plans.{Plan}
use Rattle.words_bench.specs.Regions.{IsRegion, frame}
use Rattle.words_bench.proofs.Fits.{still_fits}
use Rattle.words_bench.proofs.region.Region.put.Goals as goal

pub invariant_of-self : goal.invariant_of-self
invariant_of-self c = subst (λ (plan : Plan). IsRegion c.self.inside.ram plan) (sym c.put.ensures) record {
  len = c.self.invariant.len;
  intact = c.self.invariant.intact;
  fits = still_fits frame 131072 c.self.inside.plan.writes c.place.result c.args.word c.self.invariant.fits (omega (arith, c.if-count-lt-MOST.true, c.count.ensures.count))
      record { within = omega (arith, c.place.ensures); beyond = record { outside = inr (omega (arith, c.place.ensures)); gate = omega (arith, c.place.ensures); used = omega (arith, c.place.ensures) } };
}
