-- A run over the desk of one thread is one over regions and the lists for which they stand.
use Rattle.std.proofs.Common.{◌≡◌, ℕ, Bool, true, false, not, List, Option, None, Some, is_some, refl, sym, subst}
use Rattle.uw_session.specs.Exchange.{Site}
use Rattle.uw_ends.specs.declared.ends.Brief.{Brief}
use Rattle.uw_ends.specs.declared.ends.RunFault.{RunFault}
use Rattle.uw_shared.specs.Regions.{Regions, RegionsStandFor, is_settled}
use Rattle.uw_shared.specs.AskRuns.{AsksRun, LeadsRegions}
use Rattle.uw_top.specs.Pipe.{PipeRun, both_lead, first_lists}
use Rattle.uw_top.specs.Kept.{KeepsDesk, ListedRegions, PipeFlow, RegionsRun, regions_lead}
use Rattle.uw_top.proofs.Standing.{StandsOn, run_on}

-- regions, and lists for which they stand
abbrev pub AreListed : Regions → ListedRegions → Type 0
AreListed regions listed = (listed.regions ≡ regions) × RegionsStandFor regions listed.lists

listed_on : StandsOn LeadsRegions regions_lead AreListed
listed_on a b asked writes listed led held =
    let on = led listed.lists held.1 in
    let after : ListedRegions = record { lists = on.after; regions = b } in
    (after, (on.leads, subst (λ (r : Regions). AsksRun listed.lists r asked writes b) (sym held.0) on.runs), (refl, on.stand))

-- the desk is kept where the run ended without a fault
abbrev pub KeepsAs : Option RunFault → (old new : Option Regions) → Regions → Type 0
KeepsAs None old new last = new ≡ Some last
KeepsAs (Some fault) old new last = new ≡ old

-- a test of the fault tells which of both desks is kept
pub keeps_by : (fault : Option RunFault) (old new : Option Regions) (last : Regions) (none : Bool) → is_some fault ≡ not none
    → (none ≡ true → new ≡ Some last) → (none ≡ false → new ≡ old) → KeepsAs fault old new last
keeps_by None old new last none test made stays = made (flip none test)
  where
    flip : (none : Bool) → false ≡ not none → none ≡ true
    flip true test = refl
    flip false test = test
keeps_by (Some fault) old new last none test made stays = stays (flip none test)
  where
    flip : (none : Bool) → true ≡ not none → none ≡ false
    flip true test = test
    flip false test = refl

keeps_desk : (fault : Option RunFault) (old new : Option Regions) (last : Regions) (listed : ListedRegions) → AreListed last listed → KeepsAs fault old new last
    → KeepsDesk fault old new listed
keeps_desk None old new last listed held keeps =
    (subst (λ (r : Regions). new ≡ Some r) (sym held.0) keeps, subst (λ (r : Regions). RegionsStandFor r listed.lists) (sym held.0) held.1)
keeps_desk (Some fault) old new last listed held keeps = keeps

-- the run of a desk that stood for the lists of the site, and had no repair pending
pub regions_run : (site : Site) (allowed : Option (List ℕ)) (f : PipeFlow) (told : List Brief) (fault : Option RunFault) (first last : Regions)
    → RegionsStandFor first (first_lists site.options) → is_settled first ≡ true
    → PipeRun (both_lead LeadsRegions) (first, f.kept) (last, f.left) allowed site f.src f.snk f.gave told fault → KeepsAs fault f.desk f.desk_now last
    → RegionsRun site allowed f told fault
regions_run site allowed f told fault first last stand settled run keeps =
    let start : ListedRegions = record { lists = first_lists site.options; regions = first } in
    let ran = run_on LeadsRegions regions_lead AreListed listed_on (first, f.kept) (last, f.left) start allowed site f.src f.snk f.gave told fault (refl, stand) run in
    record { start = start; last = ran.0; blank = (refl, stand, settled); run = ran.2.0; keeps = keeps_desk fault f.desk f.desk_now last ran.0 ran.1 keeps }
