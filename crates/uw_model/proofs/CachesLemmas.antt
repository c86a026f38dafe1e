-- One call of one cache, and one operation of one area, among several.
use Rattle.std.proofs.Common.{◌≡◌, ℕ, ◌<◌, List, length, get_or, Option, Some, refl, set, ap, ap₂, ◌∙◌}
use Rattle.std.proofs.lemmas.List.{set-get_or}
use Rattle.std.proofs.lemmas.Option.{slice_get_read}
use Rattle.std.specs.List.{slice_get}
use Rattle.uw_outside.proofs.Lives.{Spends-none}
use Rattle.uw_model.specs.declared.conf.CacheConf.{CacheConf}
use Rattle.uw_model.specs.declared.entries.Entry.{Entry}
use Rattle.uw_model.specs.declared.calls.Call.{Call}
use Rattle.uw_model.specs.declared.calls.Answer.{Answer}
use Rattle.uw_model.specs.declared.asks.Ask.TheVariants as asks
use Rattle.uw_model.specs.declared.asks.AskAnswer.TheVariants as ask_answers
use Rattle.uw_model.specs.Calls.{answer, next_state}
use Rattle.uw_model.specs.ListState.{ListState}
use Rattle.uw_model.specs.declared.areas.AreaOp.{AreaOp}
use Rattle.uw_model.specs.declared.areas.AreaAnswer.{AreaAnswer}
use Rattle.uw_model.specs.AreaOps.{AreaState, area_answer, area_next}
use Rattle.uw_model.specs.Asks.{Leads, answered, no_memory}
use Rattle.uw_model.specs.Lists.{Lists, LeadsLists}

-- a cache seen by its parts
same_state : (c : ListState) (conf : CacheConf) (list : List Entry) → c.conf ≡ conf → c.list ≡ list → c ≡ record { conf = conf; list = list }
same_state c conf list p q = ap₂ (λ (conf : CacheConf) (list : List Entry). let state : ListState = record { conf = conf; list = list } in state) p q

-- lists seen by their caches
same_caches : (areas : List AreaState) (a b : List ListState) → a ≡ b → let p : Lists = record { caches = a; areas = areas } in let q : Lists = record { caches = b; areas = areas } in p ≡ q
same_caches areas a b e = ap (λ (caches : List ListState). let lists : Lists = record { caches = caches; areas = areas } in lists) e

-- lists seen by their areas
same_areas : (caches : List ListState) (a b : List AreaState) → a ≡ b → let p : Lists = record { caches = caches; areas = a } in let q : Lists = record { caches = caches; areas = b } in p ≡ q
same_areas caches a b e = ap (λ (areas : List AreaState). let lists : Lists = record { caches = caches; areas = areas } in lists) e

module _ (caches : List ListState) (areas : List AreaState) where
  -- a call that was answered, by a life that was not asked
  pub call_answered : (cache moment : ℕ) (call : Call) (told : Option (List ℕ)) (c next : ListState) (given : Answer)
      → cache < length caches → c ≡ get_or caches cache c → given ≡ answer c.conf c.list moment call → next.list ≡ next_state c.conf c.list moment call → next.conf ≡ c.conf
      → Leads (λ asked writes. LeadsLists (record { caches = caches; areas = areas }) asked (record { caches = set caches cache next; areas = areas })) told told moment (asks.Cache cache call) (answered (ask_answers.Cache given))
  call_answered cache moment call told c next given within here is list conf =
      let there : slice_get caches cache ≡ Some c = slice_get_read caches (length caches) cache c refl within here in
      (0, (rw there (ap ask_answers.Cache is), rw there (same_caches areas _ _ (ap (set caches cache) (same_state next c.conf _ conf list)))), Spends-none told)

  -- a call for which there was no memory
  pub call_not_made : (cache moment : ℕ) (call : Call) (told : Option (List ℕ)) (c next : ListState)
      → c ≡ get_or caches cache c → next.list ≡ c.list → next.conf ≡ c.conf
      → Leads (λ asked writes. LeadsLists (record { caches = caches; areas = areas }) asked (record { caches = set caches cache next; areas = areas })) told told moment (asks.Cache cache call) no_memory
  call_not_made cache moment call told c next here list conf =
      (0, (tt, same_caches areas _ _ (ap (set caches cache) (same_state next c.conf c.list conf list ∙ here) ∙ set-get_or caches cache c)), Spends-none told)

  -- an operation that was answered, by a life that was not asked
  pub operation_answered : (area moment : ℕ) (op : AreaOp) (told : Option (List ℕ)) (a next : AreaState) (given : AreaAnswer)
      → area < length areas → a ≡ get_or areas area a → given ≡ area_answer a op → next ≡ area_next a op
      → Leads (λ asked writes. LeadsLists (record { caches = caches; areas = areas }) asked (record { caches = caches; areas = set areas area next })) told told moment (asks.Area area op) (answered (ask_answers.Area given))
  operation_answered area moment op told a next given within here is after =
      let there : slice_get areas area ≡ Some a = slice_get_read areas (length areas) area a refl within here in
      (0, (rw there (ap ask_answers.Area is), rw there (same_areas caches _ _ (ap (set areas area) after))), Spends-none told)

  -- an operation for which there was no memory
  pub operation_not_made : (area moment : ℕ) (op : AreaOp) (told : Option (List ℕ)) (a next : AreaState)
      → a ≡ get_or areas area a → next ≡ a
      → Leads (λ asked writes. LeadsLists (record { caches = caches; areas = areas }) asked (record { caches = caches; areas = set areas area next })) told told moment (asks.Area area op) no_memory
  operation_not_made area moment op told a next here after =
      (0, (tt, same_areas caches _ _ (ap (set areas area) (after ∙ here) ∙ set-get_or areas area a)), Spends-none told)
