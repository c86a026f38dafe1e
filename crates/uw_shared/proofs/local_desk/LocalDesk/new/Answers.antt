-- A desk begins with regions that stand for empty lists, and with no open gate.
use Rattle.std.proofs.Common.{ℕ, ap₂}
use Rattle.std.proofs.lemmas.Slice.Zip.{AllZip-long}
use Rattle.std.specs.List.{AllZip, list_all}
use Rattle.uw_model.specs.Asks.{DeskParts}
use Rattle.uw_model.specs.Lists.{empty_lists}
use Rattle.uw_shared.specs.BeginningSteps.{BeginsAsArea, BeginsAsCache}
use Rattle.uw_shared.specs.Regions.{is_area_closed, is_vault_closed}
use Rattle.uw_shared.proofs.Beginnings.{areas_closed, areas_stand, caches_closed, caches_stand, caches_within}
use Rattle.uw_shared.proofs.Places.{join_true}
use Rattle.uw_shared.proofs.local_desk.LocalDesk.new.Goals as goal

pub invariant_of-result : goal.invariant_of-result
invariant_of-result c =
    let caches : AllZip BeginsAsCache c.args.caches.now c.in_ok-caches.caches.items = rw (← c.as_slice.ensures) c.in_ok-caches.ensures in
    let areas : AllZip BeginsAsArea c.args.areas.now c.in_ok-areas.areas.items = rw (← c.as_slice-2.ensures) c.in_ok-areas.ensures in
    record {
      limits = caches_within c.args.caches.now c.in_ok-caches.caches.items c.requires.each caches;
      lists = empty_lists c.args.caches.now c.args.areas.now;
      stand = record {
        caches = caches_stand c.args.caches.now c.in_ok-caches.caches.items c.requires.each caches;
        areas = areas_stand c.args.areas.now c.in_ok-areas.areas.items areas;
      };
    }

pub returns-clause-stand : goal.returns-clause-stand
returns-clause-stand c =
    let caches : AllZip BeginsAsCache c.args.caches.now c.in_ok-caches.caches.items = rw (← c.as_slice.ensures) c.in_ok-caches.ensures in
    let areas : AllZip BeginsAsArea c.args.areas.now c.in_ok-areas.areas.items = rw (← c.as_slice-2.ensures) c.in_ok-areas.ensures in
    record {
      caches = caches_stand c.args.caches.now c.in_ok-caches.caches.items c.requires.each caches;
      areas = areas_stand c.args.areas.now c.in_ok-areas.areas.items areas;
    }

pub returns-clause-settled : goal.returns-clause-settled
returns-clause-settled c =
    join_true (list_all is_vault_closed c.in_ok-caches.caches.items)
    (list_all is_area_closed c.in_ok-areas.areas.items)
    (caches_closed c.as_slice.result.now c.in_ok-caches.caches.items c.in_ok-caches.ensures)
    (areas_closed c.as_slice-2.result.now c.in_ok-areas.areas.items c.in_ok-areas.ensures)

pub returns-clause-parts : goal.returns-clause-parts
returns-clause-parts c = rw (← c.as_slice.ensures, ← c.as_slice-2.ensures)
    (ap₂ (λ (caches areas : ℕ). let parts : DeskParts = record { caches = caches; areas = areas } in parts)
    (AllZip-long BeginsAsCache c.as_slice.result.now c.in_ok-caches.caches.items c.in_ok-caches.ensures)
    (AllZip-long BeginsAsArea c.as_slice-2.result.now c.in_ok-areas.areas.items c.in_ok-areas.ensures))
