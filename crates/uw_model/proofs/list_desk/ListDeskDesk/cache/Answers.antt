-- What the cache of the number answered, or that nothing was done.
use Rattle.std.proofs.Common.{length, arith, ap}
use Rattle.uw_model.specs.Lists.{Lists}
use Rattle.uw_model.proofs.CachesLemmas.{call_answered, call_not_made}
use Rattle.uw_model.proofs.list_desk.ListDeskDesk.cache.Goals as goal
use Rattle.uw_model.proofs.list_desk.ListDeskDesk.cache.Goals.{in-Ok, in-Err}

pub returns-clause-asked : goal.returns-clause-asked
returns-clause-asked g c =
    let caches = c.self.inside.caches.items in
    let areas = c.self.inside.areas.items in
    let told = g.L.Life.allowances c.args.life.now in
    let here = c.index_mut.ensures.value in
    elim c.match-call.branch [
      | in-Ok w ↦ let e = w.in-Ok.ensures in
          rw (w.result-is, ← c.self.view_is) (call_answered caches areas c.args.cache c.args.moment c.args.call.now told c.index_mut.result.now c.call.new.self w.in-Ok.answer (omega (arith, ap (λ (lists : Lists). length lists.caches) c.self.view_is)) here e.answer e.next e.conf)
      | in-Err w ↦ let e = w.in-Err.ensures in
          rw (w.result-is, ← c.self.view_is) (call_not_made caches areas c.args.cache c.args.moment c.args.call.now told c.index_mut.result.now c.call.new.self here e.memory e.conf)
    ]
