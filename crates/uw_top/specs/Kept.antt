-- The regions over which `pipe` runs, and the desk of them that it keeps (own rule).
use Rattle.std.specs.Prelude.{◌≡◌, ◌⊎◌, ℕ, ◌-◌, true, List, map, Option, None, Some}
use Rattle.uw_outside.specs.Streams.{Inflow, Outflow}
use Rattle.uw_keeper.specs.Keeping.{Keeping}
use Rattle.uw_model.specs.Asks.{Asking}
use Rattle.uw_model.specs.Lists.{LeadsLists, Lists}
use Rattle.uw_conf.specs.declared.conf.Options.{Options}
use Rattle.uw_session.specs.Exchange.{Site}
use Rattle.uw_ends.specs.declared.ends.Brief.{Brief}
use Rattle.uw_ends.specs.declared.ends.RunFault.{RunFault}
use Rattle.uw_ends.specs.declared.ends.RunFault.TheVariants as faults
use Rattle.uw_shared.specs.Regions.{Regions, RegionsStandFor, is_settled}
use Rattle.uw_shared.specs.AskRuns.{AsksRun}
use Rattle.uw_top.specs.Pipe.{PipeRun, both_lead, first_lists, list_leads}

-- what a worker's life allows that dies in place of the word writes of these numbers
abbrev pub allowed_by : List ℕ → Option (List ℕ)
allowed_by die = Some (map (λ n. n - 1) die)

-- the regions of a site, and the plain lists that they stand for
pub record ListedRegions : Type 0 where
  pub lists : Lists
  pub regions : Regions

-- which asks lead regions and their lists on together: the lists answer, and each ask is one turn in the world of the region that it asks, by so many word writes in all
abbrev pub regions_lead : ListedRegions → ListedRegions → List Asking → ℕ → Type 0
regions_lead before now asked writes = LeadsLists before.lists asked now.lists × AsksRun before.lists before.regions asked writes now.regions

-- regions before the first packet: they stand for the plain lists of the site, and no repair is pending
abbrev pub AreBlank : Options → ListedRegions → Type 0
AreBlank options listed =
    (listed.lists ≡ first_lists options) × RegionsStandFor listed.regions listed.lists × (is_settled listed.regions ≡ true)

-- the desk that is kept before and now: that of the run, which stands for the lists at its end, where it ended without a fault, else the one that was kept before
abbrev pub KeepsDesk : Option RunFault → (old new : Option Regions) → ListedRegions → Type 0
KeepsDesk None old new last = (new ≡ Some last.regions) × RegionsStandFor last.regions last.lists
KeepsDesk (Some fault) old new last = new ≡ old

-- what a run of `pipe` has around it, over the call: its source and its sink; which moments its clock gave; what its keeper keeps before and now; and the desk that is
-- kept before and now
pub record PipeFlow : Type 1 where
  pub src : Inflow
  pub snk : Outflow
  pub gave : List ℕ → Type 0
  pub kept : Keeping
  pub left : Keeping
  pub desk : Option Regions
  pub desk_now : Option Regions

-- packets of a site are answered over regions, which stand for its plain lists, by a worker with these allowances; and the desk of them is kept
pub record RegionsRun (site : Site) (allowed : Option (List ℕ)) (f : PipeFlow) (told : List Brief) (fault : Option RunFault) : Type 0 where
  pub start : ListedRegions
  pub last : ListedRegions
  pub blank : AreBlank site.options start
  pub run : PipeRun (both_lead regions_lead) (start, f.kept) (last, f.left) allowed site f.src f.snk f.gave told fault
  pub keeps : KeepsDesk fault f.desk f.desk_now last

-- there was no memory for the regions of a site, and so nothing was touched
abbrev pub HasNoRegions : Type 0 → Option RunFault → Type 0
HasNoRegions untouched fault = (fault ≡ Some faults.Memory) × untouched

-- packets of a site are answered as over its plain lists, by a worker that dies in place of the word writes of these numbers; and so they are over regions, each of whose
-- asks is one turn in the world of its region, unless there was no memory for them
pub record PipesOver (die : List ℕ) (site : Site) (f : PipeFlow) (untouched : Type 0) (told : List Brief) (fault : Option RunFault) : Type 0 where
  pub lists : Lists
  pub listed : PipeRun (both_lead list_leads) (first_lists site.options, f.kept) (lists, f.left) (allowed_by die) site f.src f.snk f.gave told fault
  pub regions : RegionsRun site (allowed_by die) f told fault ⊎ HasNoRegions untouched fault
