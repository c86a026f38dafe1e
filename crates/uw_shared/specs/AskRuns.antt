-- What asks do to the regions of a desk: each takes one turn of one region (own rule).
use Rattle.std.specs.Prelude.{◌≡◌, ℕ, ◌+◌, true, false, List, [], ◌∷◌, ◌++◌, refl, slice_get, slice_set, Option, Some, is_some, if◌then◌else◌}
use Rattle.std.proofs.Common.{add_assoc, ap, subst, sym, zero-add, ◌∙◌}
use Rattle.uw_model.specs.declared.areas.AreaAnswer.{AreaAnswer}
use Rattle.uw_model.specs.declared.calls.Answer.{Answer}
use Rattle.uw_model.specs.declared.asks.Ask.{Ask}
use Rattle.uw_model.specs.declared.asks.AskAnswer.{AskAnswer}
use Rattle.uw_model.specs.declared.asks.Ask.TheVariants as asks
use Rattle.uw_model.specs.declared.asks.AskAnswer.TheVariants as ask_answers
use Rattle.uw_model.specs.Asks.{AskEnd, Asking, counted_answer}
use Rattle.uw_model.specs.Asks as ends
use Rattle.uw_model.specs.Lists.{LeadsLists, LeadsLists-append, Lists, lists_after}
use Rattle.uw_intent.specs.Standing.{Kind}
use Rattle.uw_intent.specs.World.{Called}
use Rattle.uw_intent.specs.CallTurns.{CallEnd}
use Rattle.uw_intent.specs.CallTurns as calls
use Rattle.uw_intent.specs.OneTurn.{IsOneTurn}
use Rattle.uw_cache.specs.Vaults.{VaultView}
use Rattle.uw_area.specs.AreaViews.{AreaView}
use Rattle.uw_shared.specs.Parts.{Reading, area_reading, cache_reading}
use Rattle.uw_shared.specs.Regions.{Regions, RegionsStandFor}

-- an ask ended as the call of its region did: with the answer that was given; by a death, in which it counts or not; or without memory
abbrev pub EndsAsCall : {A : Type 0} → (A → AskAnswer) → AskEnd → CallEnd A → Type 0
EndsAsCall kind end (calls.given answer) = end ≡ ends.answered (kind answer)
EndsAsCall kind end (calls.died true) = (answer : AskAnswer) × (end ≡ ends.died_whole answer)
EndsAsCall kind end (calls.died false) = end ≡ ends.died_absent
EndsAsCall kind end calls.no_memory = end ≡ ends.no_memory

-- the answers of a cache and of an area, as those of asks
abbrev pub of_cache : Answer → AskAnswer
of_cache answer = ask_answers.Cache answer

-- the answer of an area, as the answer of an ask
abbrev pub of_area : AreaAnswer → AskAnswer
of_area answer = ask_answers.Area answer

-- a call on words that stand for a state took one turn, with just so many writes, as some life lets them through
pub record TurnRuns {S C A : Type 0} (k : Kind S C A) (s : S) (made : Called C) (end : CallEnd A) (before : List ℕ) (writes : ℕ) (now : List ℕ) : Type 0 where
  pub told : Option (List ℕ)
  pub left : Option (List ℕ)
  pub turn : IsOneTurn k s before now told left writes made end

-- of several regions, for which the plain forms at their places stand, the one at a place took the turn of a call that ended as the ask did: it keeps its
-- configuration, and every other region is as it was
pub record TurnAt {V P F S C A : Type 0} (read : Reading V P F S C A) (answer : A → AskAnswer) (plain : List P) (before : List V)
    (at : ℕ) (made : Called C) (end : AskEnd) (writes : ℕ) (now : List V) : Type 0 where
  pub form : P
  pub has_form : slice_get plain at ≡ Some form
  pub region : V
  pub has_region : slice_get before at ≡ Some region
  pub after : V
  pub conf : read.conf after ≡ read.conf region
  pub others : now ≡ slice_set before at after
  pub ended : CallEnd A
  pub ends : EndsAsCall answer end ended
  pub runs : TurnRuns (read.kind (read.conf region)) (read.state form) made ended (read.words region) writes (read.words after)

-- an ask of regions that stand for lists: it takes a turn of the region of its cache or area, in which this desk is worker 0, for an
-- area at moment 0; no ask of the spool is one
abbrev pub AskRunsBy : Lists → Regions → ℕ → Ask → AskEnd → ℕ → Regions → Type 0
AskRunsBy lists before moment (asks.Cache cache call) end writes now =
    (caches : List VaultView) × (now ≡ record before { caches = caches })
    × TurnAt cache_reading of_cache lists.caches before.caches cache (record { who = 0; moment = moment; call = call }) end writes caches
AskRunsBy lists before moment (asks.Area area op) end writes now =
    (areas : List AreaView) × (now ≡ record before { areas = areas })
    × TurnAt area_reading of_area lists.areas before.areas area (record { who = 0; moment = 0; call = op }) end writes areas
AskRunsBy lists before moment (asks.Spool vars body) end writes now = ⊥

-- the same of an asking
abbrev pub AskRuns : Lists → Regions → Asking → ℕ → Regions → Type 0
AskRuns lists before a writes now = AskRunsBy lists before a.moment a.ask a.end writes now

-- the lists behind an asking: those after the ask where it counts, else the same
abbrev pub lists_behind : Lists → Asking → Lists
lists_behind lists a = if is_some (counted_answer a.end) then lists_after lists a.moment a.ask else lists

-- asks in order, each with its part of the word writes, from the regions and lists that the one before it left
abbrev pub AsksRun : Lists → Regions → List Asking → ℕ → Regions → Type 0
AsksRun lists before [] writes now = (now ≡ before) × (writes ≡ 0)
AsksRun lists before (a ∷ asked) writes now =
    (mid : Regions) × (first : ℕ) × (more : ℕ) × (writes ≡ first + more) × AskRuns lists before a first mid × AsksRun (lists_behind lists a) mid asked more now

-- from regions that stand for lists asks led to others: they lead the lists on to those for which the regions stand then, and took the
-- regions there with just so many word writes
pub record LeadsOn (lists : Lists) (before : Regions) (asked : List Asking) (writes : ℕ) (now : Regions) : Type 0 where
  pub after : Lists
  pub leads : LeadsLists lists asked after
  pub stand : RegionsStandFor now after
  pub runs : AsksRun lists before asked writes now

-- asks lead from regions to regions: they do so from each lists for which the first ones stand
abbrev pub LeadsRegions : Regions → Regions → List Asking → ℕ → Type 0
LeadsRegions before now asked writes = (lists : Lists) → RegionsStandFor before lists → LeadsOn lists before asked writes now

-- no ask leads regions to themselves
pub LeadsRegions-none : (regions : Regions) → LeadsRegions regions regions [] 0
LeadsRegions-none regions lists stand = record { after = lists; leads = refl; stand = stand; runs = (refl, refl) }

-- the asks that ran first, and then those that ran on from there
AsksRun-append : (lists mid : Lists) (a b c : Regions) (early late : List Asking) (first more : ℕ)
    → LeadsLists lists early mid → AsksRun lists a early first b → AsksRun mid b late more c → AsksRun lists a (early ++ late) (first + more) c
AsksRun-append lists mid a b c [] late first more led ran on =
    let from_lists : AsksRun lists b late more c = let Running : Lists → Type 0 = λ from. AsksRun from b late more c in subst Running led on in
    let from_regions : AsksRun lists a late more c =
    let Running : Regions → Type 0 = λ from. AsksRun lists from late more c in subst Running ran.0 from_lists in
    let Running : ℕ → Type 0 = λ writes. AsksRun lists a late writes c in
    subst Running (sym (ap (λ (n : ℕ). n + more) ran.1 ∙ zero-add more)) from_regions
AsksRun-append lists mid a b c (x ∷ early) late first more led ran on = (
  ran.0,
  ran.1,
  ran.2 + more,
  ap (λ (n : ℕ). n + more) ran.3 ∙ add_assoc ran.1 ran.2 more,
  ran.4,
  AsksRun-append (lists_behind lists x) mid ran.0 b c early late ran.2 more led.1 ran.5 on,
)

-- what led first, and then what led on from there
pub LeadsRegions-append : (a b c : Regions) (early late : List Asking) (first more : ℕ)
    → LeadsRegions a b early first → LeadsRegions b c late more → LeadsRegions a c (early ++ late) (first + more)
LeadsRegions-append a b c early late first more led on lists stand =
    let one = led lists stand in
    let two = on one.after one.stand in
    record {
      after = two.after;
      leads = LeadsLists-append lists one.after two.after early late one.leads two.leads;
      stand = two.stand;
      runs = AsksRun-append lists one.after a b c early late first more one.leads one.runs two.runs;
    }
