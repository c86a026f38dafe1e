-- What the vault of the number answered, and where that leads the desk.
use Rattle.std.proofs.Common.{◌≡◌, Some, length, arith, ap, refl}
use Rattle.std.proofs.lemmas.Option.{slice_get_read}
use Rattle.std.specs.List.{slice_get}
use Rattle.uw_shared.specs.Regions.{Regions}
use Rattle.uw_shared.proofs.CacheTurns.{cache_asked, cache_settled, cache_still}
use Rattle.uw_shared.proofs.local_desk.LocalDeskDesk.cache.Goals as goal

pub invariant_of-self : goal.invariant_of-self
invariant_of-self g c =
    let caches = c.self.inside.caches.items in
    let here : slice_get caches c.args.cache ≡ Some c.index_mut.result.now = slice_get_read caches (length caches) c.args.cache c.index_mut.result.now refl
    (omega (arith, c.requires.known, ap (λ (d : Regions). length d.caches) c.self.view_is)) c.index_mut.ensures.value in
    let t = c.recovered_call in
    cache_still (record { caches = caches; areas = c.self.inside.areas.items }) c.self.invariant c.args.cache c.args.moment
    c.args.call.now c.index_mut.result.now t.new.held (g.L.Life.allowances c.args.life.now) (g.L.Life.allowances t.new.life) t.result here t.ensures.conf t.ensures.turn

pub returns-clause-asked : goal.returns-clause-asked
returns-clause-asked g c =
    let caches = c.self.inside.caches.items in
    let here : slice_get caches c.args.cache ≡ Some c.index_mut.result.now = slice_get_read caches (length caches) c.args.cache c.index_mut.result.now refl
    (omega (arith, c.requires.known, ap (λ (d : Regions). length d.caches) c.self.view_is)) c.index_mut.ensures.value in
    let t = c.recovered_call in
    rw (c.told.ensures, ← c.self.view_is)
    (cache_asked (record { caches = caches; areas = c.self.inside.areas.items }) c.self.invariant c.args.cache c.args.moment
    c.args.call.now c.index_mut.result.now t.new.held (g.L.Life.allowances c.args.life.now) (g.L.Life.allowances t.new.life) t.result here t.ensures.conf t.ensures.turn t.ensures.refused)

pub returns-clause-settled : goal.returns-clause-settled
returns-clause-settled g c =
    let caches = c.self.inside.caches.items in
    let here : slice_get caches c.args.cache ≡ Some c.index_mut.result.now = slice_get_read caches (length caches) c.args.cache c.index_mut.result.now refl
    (omega (arith, c.requires.known, ap (λ (d : Regions). length d.caches) c.self.view_is)) c.index_mut.ensures.value in
    let t = c.recovered_call in
    rw (c.told.ensures, ← c.self.view_is)
    (cache_settled (record { caches = caches; areas = c.self.inside.areas.items }) c.self.invariant c.args.cache c.args.moment
    c.args.call.now c.index_mut.result.now t.new.held (g.L.Life.allowances c.args.life.now) (g.L.Life.allowances t.new.life) t.result here t.ensures.conf t.ensures.turn t.ensures.closed)
