-- What the area of the number answered, and where that leads the desk.
use Rattle.std.proofs.Common.{◌≡◌, Some, length, arith, ap, refl}
use Rattle.std.proofs.lemmas.Option.{slice_get_read}
use Rattle.std.specs.List.{slice_get}
use Rattle.uw_shared.specs.Regions.{Regions}
use Rattle.uw_shared.proofs.AreaTurns.{area_asked, area_settled, area_still}
use Rattle.uw_shared.proofs.local_desk.LocalDeskDesk.area.Goals as goal

pub invariant_of-self : goal.invariant_of-self
invariant_of-self g c =
    let areas = c.self.inside.areas.items in
    let here : slice_get areas c.args.area ≡ Some c.index_mut.result.now = slice_get_read areas (length areas) c.args.area c.index_mut.result.now refl
    (omega (arith, c.requires.known, ap (λ (d : Regions). length d.areas) c.self.view_is)) c.index_mut.ensures.value in
    let t = c.recovered_call in
    area_still (record { caches = c.self.inside.caches.items; areas = areas }) c.self.invariant c.args.area 0 c.args.op.now c.index_mut.result.now t.new.held
    (g.L.Life.allowances c.args.life.now) (g.L.Life.allowances t.new.life) t.result here t.ensures.conf t.ensures.turn

pub returns-clause-asked : goal.returns-clause-asked
returns-clause-asked g c moment =
    let areas = c.self.inside.areas.items in
    let here : slice_get areas c.args.area ≡ Some c.index_mut.result.now = slice_get_read areas (length areas) c.args.area c.index_mut.result.now refl
    (omega (arith, c.requires.known, ap (λ (d : Regions). length d.areas) c.self.view_is)) c.index_mut.ensures.value in
    let t = c.recovered_call in
    rw (c.told.ensures, ← c.self.view_is)
    (area_asked (record { caches = c.self.inside.caches.items; areas = areas }) c.self.invariant c.args.area moment c.args.op.now c.index_mut.result.now
    t.new.held
    (g.L.Life.allowances c.args.life.now) (g.L.Life.allowances t.new.life) t.result here t.ensures.conf t.ensures.turn t.ensures.refused)

pub returns-clause-settled : goal.returns-clause-settled
returns-clause-settled g c =
    let areas = c.self.inside.areas.items in
    let here : slice_get areas c.args.area ≡ Some c.index_mut.result.now = slice_get_read areas (length areas) c.args.area c.index_mut.result.now refl
    (omega (arith, c.requires.known, ap (λ (d : Regions). length d.areas) c.self.view_is)) c.index_mut.ensures.value in
    let t = c.recovered_call in
    rw (c.told.ensures, ← c.self.view_is)
    (area_settled (record { caches = c.self.inside.caches.items; areas = areas }) c.self.invariant c.args.area 0 c.args.op.now c.index_mut.result.now t.new.held
    (g.L.Life.allowances c.args.life.now) (g.L.Life.allowances t.new.life) t.result here t.ensures.conf t.ensures.turn t.ensures.closed)
