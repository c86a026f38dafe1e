-- A call of one vault of a desk.
use Rattle.std.proofs.Common.{◌≡◌, ℕ, Bool, true, false, List, [], ◌∷◌, Option, Some, Result, refl, sym, ap, ◌∙◌, subst, set, add-zero, eq-eqb}
use Rattle.std.specs.Prelude.{if◌then◌else◌}
use Rattle.std.specs.List.{AllZip, list_all, slice_get}
use Rattle.uw_model.specs.declared.conf.CacheConf.{CacheConf}
use Rattle.uw_model.specs.declared.entries.Entry.{Entry}
use Rattle.uw_model.specs.declared.calls.Call.{Call}
use Rattle.uw_model.specs.declared.calls.Answer.{Answer}
use Rattle.uw_model.specs.declared.asks.Ask.TheVariants as asks
use Rattle.uw_model.specs.declared.asks.AskAnswer.{AskAnswer}
use Rattle.uw_model.specs.Asks.{Calls, has_died}
use Rattle.uw_model.specs.Calls.{answer, next_state}
use Rattle.uw_model.specs.Entries.{IsCacheConf}
use Rattle.uw_model.specs.Lists.{Lists, answer_of, lists_after}
use Rattle.uw_model.specs.ListState.{ListState}
use Rattle.uw_outside.specs.Lives.{IsSpent}
use Rattle.uw_words.specs.Plans.{region}
use Rattle.uw_intent.specs.declared.recoverable.CallFault.{CallFault}
use Rattle.uw_intent.specs.RedoRecord.{applied}
use Rattle.uw_intent.specs.Standing.{StandsFor}
use Rattle.uw_intent.specs.OneTurn.{LedByTurn, end_of, has_call_died, joins}
use Rattle.uw_plan.specs.CacheKind.{cache_kind}
use Rattle.uw_plan.specs.Regions.{frame_of, shape_of}
use Rattle.uw_plan.proofs.Agreeing.{list_once}
use Rattle.uw_cache.specs.Vaults.{VaultView}
use Rattle.uw_shared.specs.AskRuns.{LeadsRegions, of_cache}
use Rattle.uw_shared.specs.BeginningSteps.{desk_result}
use Rattle.uw_shared.specs.Parts.{Stands, cache_reading}
use Rattle.uw_shared.specs.Regions.{AreRegions, Regions, RegionsStandFor, is_area_closed, is_settled, is_vault_closed}
use Rattle.uw_shared.proofs.Places.{both_true, each_at, each_set, join_true, passing_set, zip_at}
use Rattle.uw_shared.proofs.Turns.{ask_leads, asked_as, call_asked, died_so, led_at}

-- words stand for one list at most
pub stands_once : (conf : CacheConf) → IsCacheConf conf → (words : List ℕ) (list other : List Entry) → StandsFor (cache_kind conf) words list
    → StandsFor (cache_kind conf) words other → list ≡ other
stands_once conf is words list other one two = list_once conf (applied (frame_of (shape_of conf)) words) list other is one.agrees two.agrees

-- the plain cache after a call
abbrev stepped : ℕ → Call → ListState → ListState
stepped moment call plain = record { conf = plain.conf; list = next_state plain.conf plain.list moment call }

-- a vault stands for a plain cache after a call for whose list its words stand, under the configuration that it had
stands_stepped : (vault after : VaultView) (moment : ℕ) (call : Call) (plain : ListState) → after.conf ≡ vault.conf → Stands cache_reading vault plain
    → StandsFor (cache_kind vault.conf) after.words (next_state vault.conf plain.list moment call) → Stands cache_reading after (stepped moment call plain)
stands_stepped vault after moment call plain kept stands behind =
    let next : StandsFor (cache_kind vault.conf) after.words (next_state plain.conf plain.list moment call) =
    subst (λ (c : CacheConf). StandsFor (cache_kind vault.conf) after.words (next_state c plain.list moment call)) stands.conf behind in
    record {
      conf = kept ∙ stands.conf;
      stands = subst (λ (c : CacheConf). StandsFor (cache_kind c) after.words (next_state plain.conf plain.list moment call)) (sym kept) next;
    }

-- regions with another vault at a place
abbrev with_vault : Regions → ℕ → VaultView → Regions
with_vault before cache after = record before { caches = set before.caches cache after }

module _ (before : Regions) (is : AreRegions before) (cache moment : ℕ) (call : Call) (vault after : VaultView) (told left : Option (List ℕ))
    (result : Result Answer CallFault) (here : slice_get before.caches cache ≡ Some vault) (kept : after.conf ≡ vault.conf)
    (led : LedByTurn (cache_kind vault.conf) vault.words after.words told left (record { who = 0; moment = moment; call = call }) (end_of result)) where
  limit : IsCacheConf vault.conf
  limit = each_at (λ (v : VaultView). IsCacheConf v.conf) before.caches cache vault is.limits here

  -- the answer that nobody was told of a call that died and counts
  untold : AskAnswer
  untold = let found = zip_at (Stands cache_reading) before.caches is.lists.caches cache vault is.stand.caches here in
      of_cache (answer vault.conf found.0.list moment call)

  untold_is : (list : List Entry) → StandsFor (cache_kind vault.conf) vault.words list → untold ≡ of_cache (answer vault.conf list moment call)
  unfolding untold
  untold_is list stands =
      let found = zip_at (Stands cache_reading) before.caches is.lists.caches cache vault is.stand.caches here in
      ap (λ (l : List Entry). of_cache (answer vault.conf l moment call)) (stands_once vault.conf limit vault.words found.0.list list found.2.stands stands)

  answer_is : (lists : Lists) (plain : ListState) → slice_get lists.caches cache ≡ Some plain → Stands cache_reading vault plain
      → of_cache (answer vault.conf plain.list moment call) ≡ answer_of lists moment (asks.Cache cache call)
  answer_is lists plain there stands = rw there (ap (λ (c : CacheConf). of_cache (answer c plain.list moment call)) stands.conf)

  stand_then : (lists : Lists) (plain : ListState) → RegionsStandFor before lists → slice_get lists.caches cache ≡ Some plain → (joined : Bool)
      → AllZip (Stands cache_reading) (set before.caches cache after) (if joined then set lists.caches cache (stepped moment call plain) else lists.caches)
      → RegionsStandFor (with_vault before cache after) (if joined then lists_after lists moment (asks.Cache cache call) else lists)
  stand_then lists plain stand there true caches = record { caches = rw there caches; areas = stand.areas }
  stand_then lists plain stand there false caches = record { caches = caches; areas = stand.areas }

  -- the ask leads from every lists for which the regions stand
  leads : LeadsRegions before (with_vault before cache after)
      (record { moment = moment; ask = asks.Cache cache call; end = asked_as of_cache untold (end_of result) } ∷ []) led.writes
  leads lists stand =
      let found = led_at cache_reading of_cache before.caches cache vault after (record { who = 0; moment = moment; call = call }) told left
      (end_of result) here kept led
      (stepped moment call) untold (λ plain. stands_stepped vault after moment call plain kept) untold_is lists.caches stand.caches in
      record {
        after = if joins (end_of result) then lists_after lists moment (asks.Cache cache call) else lists;
        leads = ask_leads of_cache untold (of_cache (answer vault.conf found.form.list moment call)) (end_of result) lists moment (asks.Cache cache call)
            (answer_is lists found.form found.there found.stands) found.answer;
        stand = stand_then lists found.form stand found.there (joins (end_of result)) found.stand;
        runs = (with_vault before cache after, led.writes, 0, sym (add-zero led.writes), (set before.caches cache after, refl, found.turn), (refl, refl));
      }

  -- what the desk did
  pub cache_asked : (has_call_died result ≡ true → IsSpent left)
      → Calls of_cache (LeadsRegions before (with_vault before cache after)) told left moment (asks.Cache cache call) (desk_result result)
  cache_asked refused =
      call_asked of_cache (LeadsRegions before (with_vault before cache after)) told left moment (asks.Cache cache call) untold
      led.writes result led.spent refused leads

  -- the regions stand for some lists still
  pub cache_still : AreRegions (with_vault before cache after)
  cache_still =
      let on = leads is.lists is.stand in
      record {
        limits = each_set (λ (v : VaultView). IsCacheConf v.conf) before.caches cache after is.limits (subst IsCacheConf (sym kept) limit);
        lists = on.after;
        stand = on.stand;
      }

  -- no gate is open behind a call that ended
  pub cache_settled : (has_call_died result ≡ false → region after.words 10 ≡ 0) → is_settled before ≡ true → has_died (desk_result result) ≡ false
      → is_settled (with_vault before cache after) ≡ true
  cache_settled closed settled ended =
      let parts = both_true (list_all is_vault_closed before.caches) (list_all is_area_closed before.areas) settled in
      let now : is_vault_closed after ≡ true = eq-eqb (region after.words 10) 0 (closed (sym (died_so result) ∙ ended)) in
      join_true (list_all is_vault_closed (set before.caches cache after)) (list_all is_area_closed before.areas)
      (passing_set is_vault_closed before.caches cache after parts.0 now) parts.1
