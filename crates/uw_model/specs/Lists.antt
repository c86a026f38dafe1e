-- The plain lists of a desk, and the asks that lead from lists to lists.
use Rattle.std.specs.Prelude.{◌≡◌, ℕ, List, [], ◌∷◌, ◌++◌, length, IfSome, is_some, if◌then◌else◌}
use Rattle.std.proofs.Common.{subst}
use Rattle.uw_model.specs.declared.conf.CacheConf.{CacheConf}
use Rattle.uw_model.specs.declared.asks.Ask.{Ask}
use Rattle.uw_model.specs.declared.asks.AskAnswer.{AskAnswer}
use Rattle.uw_model.specs.declared.asks.Ask.TheVariants as asks
use Rattle.uw_model.specs.declared.asks.AskAnswer.TheVariants as ask_answers
use Rattle.uw_model.specs.declared.asks.SpoolAnswer.TheVariants as spools
use Rattle.uw_model.specs.ListState.{ListState}
use Rattle.uw_model.specs.AreaOps.{AreaState}
use Rattle.uw_model.specs.Areas.{area_answer_in, areas_after, blank_areas}
use Rattle.uw_model.specs.Asks.{Asking, DeskParts, counted_answer}
use Rattle.uw_model.specs.Caches.{answer_in, caches_after, empty_caches}

-- the plain lists of a desk: of each cache its entries, and of each area its bytes
pub record Lists : Type 0 where
  pub caches : List ListState
  pub areas : List AreaState

-- how many caches and areas the lists are of
abbrev pub parts_of : Lists → DeskParts
parts_of lists = record { caches = length lists.caches; areas = length lists.areas }

-- an empty cache for each configuration, and an area of zero bytes for each size
abbrev pub empty_lists : List CacheConf → List ℕ → Lists
empty_lists confs sizes = record { caches = empty_caches confs; areas = blank_areas sizes }

-- the answer of an ask; one of the spool, which no desk is asked, has failed
abbrev pub answer_of : Lists → ℕ → Ask → AskAnswer
answer_of lists now (asks.Cache cache call) = ask_answers.Cache (answer_in lists.caches cache now call)
answer_of lists now (asks.Area area op) = ask_answers.Area (area_answer_in lists.areas area op)
answer_of lists now (asks.Spool vars body) = ask_answers.Spool spools.Failed

-- the lists after an ask
abbrev pub lists_after : Lists → ℕ → Ask → Lists
lists_after lists now (asks.Cache cache call) = record lists { caches = caches_after lists.caches cache now call }
lists_after lists now (asks.Area area op) = record lists { areas = areas_after lists.areas area op }
lists_after lists now (asks.Spool vars body) = lists

-- asks lead from lists to lists: each that counts has the defined answer and leaves the defined lists, and an absent one changes nothing
abbrev pub LeadsLists : Lists → List Asking → Lists → Type 0
LeadsLists before [] now = now ≡ before
LeadsLists before (a ∷ asked) now =
    IfSome (counted_answer a.end) (λ given. given ≡ answer_of before a.moment a.ask)
    × LeadsLists (if is_some (counted_answer a.end) then lists_after before a.moment a.ask else before) asked now

-- what led first, and then what led on from there
pub LeadsLists-append : (a b c : Lists) (early late : List Asking) → LeadsLists a early b → LeadsLists b late c → LeadsLists a (early ++ late) c
LeadsLists-append a b c [] late first more = let Leading : Lists → Type 0 = λ from. LeadsLists from late c in subst Leading first more
LeadsLists-append a b c (x ∷ early) late first more =
    (first.0, LeadsLists-append (if is_some (counted_answer x.end) then lists_after a x.moment x.ask else a) b c early late first.1 more)
