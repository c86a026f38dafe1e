-- An operation of one area of a desk.
use Rattle.std.proofs.Common.{◌≡◌, ℕ, Bool, true, false, List, [], ◌∷◌, Option, Some, Result, refl, sym, ap}
use Rattle.std.proofs.Common.{ap₂, ◌∙◌, length, arith, subst, set, add-zero, eq-eqb}
use Rattle.std.specs.Prelude.{if◌then◌else◌}
use Rattle.std.specs.List.{AllZip, list_all, slice_get}
use Rattle.uw_outside.specs.Lives.{IsSpent}
use Rattle.uw_model.specs.declared.areas.AreaOp.{AreaOp}
use Rattle.uw_model.specs.declared.areas.AreaAnswer.{AreaAnswer}
use Rattle.uw_model.specs.declared.asks.Ask.TheVariants as asks
use Rattle.uw_model.specs.declared.asks.AskAnswer.{AskAnswer}
use Rattle.uw_model.specs.AreaOps.{AreaState, area_answer, area_next}
use Rattle.uw_model.specs.Asks.{Calls, has_died}
use Rattle.uw_model.specs.Lists.{Lists, answer_of, lists_after}
use Rattle.uw_words.specs.Plans.{region}
use Rattle.uw_words.proofs.Copies.{told_apart}
use Rattle.uw_intent.specs.declared.recoverable.CallFault.{CallFault}
use Rattle.uw_intent.specs.RedoRecord.{applied}
use Rattle.uw_intent.specs.Standing.{StandsFor}
use Rattle.uw_intent.specs.OneTurn.{LedByTurn, end_of, has_call_died, joins}
use Rattle.uw_area.specs.AreaKind.{area_kind}
use Rattle.uw_area.specs.AreaViews.{AreaView}
use Rattle.uw_area.specs.AreaWords.{AgreesWithArea, area_frame}
use Rattle.uw_shared.specs.AskRuns.{LeadsRegions, of_area}
use Rattle.uw_shared.specs.BeginningSteps.{desk_result}
use Rattle.uw_shared.specs.Parts.{Stands, area_reading}
use Rattle.uw_shared.specs.Regions.{AreRegions, Regions, RegionsStandFor, is_area_closed, is_settled, is_vault_closed}
use Rattle.uw_shared.proofs.Places.{both_true, join_true, passing_set, zip_at}
use Rattle.uw_shared.proofs.Turns.{ask_leads, asked_as, call_asked, died_so, led_at}

-- words agree with one area at most
pub area_once : (size : ℕ) (words : List ℕ) (area other : AreaState) → AgreesWithArea size words area → AgreesWithArea size words other → area ≡ other
area_once size words area other one two =
    let many : length area.bytes ≡ length other.bytes = one.holds.many ∙ sym two.holds.many in
    let bytes : area.bytes ≡ other.bytes = told_apart area.bytes other.bytes one.holds.small two.holds.small many
    (λ k short. sym (one.holds.bytes k short) ∙ two.holds.bytes k (omega (arith, short, many))) in
    ap₂ (λ (b : List ℕ) (n : ℕ). let state : AreaState = record { bytes = b; updates = n } in state) bytes (sym one.holds.updates ∙ two.holds.updates)

-- an area stands for the bytes for which its words stand, under the size that it had
stands_stepped : (held after : AreaView) (plain : AreaState) → after.size ≡ held.size → StandsFor (area_kind held.size) after.words plain
    → Stands area_reading after plain
stands_stepped held after plain kept stands =
    record { conf = kept ∙ sym stands.agrees.holds.many; stands = subst (λ (n : ℕ). StandsFor (area_kind n) after.words plain) (sym kept) stands }

-- regions with another area at a place
abbrev with_area : Regions → ℕ → AreaView → Regions
with_area before area after = record before { areas = set before.areas area after }

module _ (before : Regions) (is : AreRegions before) (area moment : ℕ) (op : AreaOp) (held after : AreaView) (told left : Option (List ℕ))
    (result : Result AreaAnswer CallFault) (here : slice_get before.areas area ≡ Some held) (kept : after.size ≡ held.size)
    (led : LedByTurn (area_kind held.size) held.words after.words told left (record { who = 0; moment = 0; call = op }) (end_of result)) where
  once : (plain other : AreaState) → StandsFor (area_kind held.size) held.words plain → StandsFor (area_kind held.size) held.words other → plain ≡ other
  once plain other one two = area_once held.size (applied (area_frame held.size) held.words) plain other one.agrees two.agrees

  -- the answer that nobody was told of a call that died and counts
  untold : AskAnswer
  untold = let found = zip_at (Stands area_reading) before.areas is.lists.areas area held is.stand.areas here in
      of_area (area_answer found.0 op)

  untold_is : (plain : AreaState) → StandsFor (area_kind held.size) held.words plain → untold ≡ of_area (area_answer plain op)
  unfolding untold
  untold_is plain stands =
      let found = zip_at (Stands area_reading) before.areas is.lists.areas area held is.stand.areas here in
      ap (λ (p : AreaState). of_area (area_answer p op)) (once found.0 plain found.2.stands stands)

  answer_is : (lists : Lists) (plain : AreaState) → slice_get lists.areas area ≡ Some plain → Stands area_reading held plain
      → of_area (area_answer plain op) ≡ answer_of lists moment (asks.Area area op)
  answer_is lists plain there stands = rw there refl

  stand_then : (lists : Lists) (plain : AreaState) → RegionsStandFor before lists → slice_get lists.areas area ≡ Some plain → (joined : Bool)
      → AllZip (Stands area_reading) (set before.areas area after) (if joined then set lists.areas area (area_next plain op) else lists.areas)
      → RegionsStandFor (with_area before area after) (if joined then lists_after lists moment (asks.Area area op) else lists)
  stand_then lists plain stand there true areas = record { caches = stand.caches; areas = rw there areas }
  stand_then lists plain stand there false areas = record { caches = stand.caches; areas = areas }

  -- the ask leads from every lists for which the regions stand
  leads : LeadsRegions before (with_area before area after)
      (record { moment = moment; ask = asks.Area area op; end = asked_as of_area untold (end_of result) } ∷ []) led.writes
  leads lists stand =
      let found = led_at area_reading of_area before.areas area held after (record { who = 0; moment = 0; call = op }) told left (end_of result) here kept led
      (λ (plain : AreaState). area_next plain op) untold
      (λ plain stands behind. stands_stepped held after (area_next plain op) kept behind) untold_is lists.areas stand.areas in
      record {
        after = if joins (end_of result) then lists_after lists moment (asks.Area area op) else lists;
        leads = ask_leads of_area untold (of_area (area_answer found.form op)) (end_of result) lists moment (asks.Area area op)
            (answer_is lists found.form found.there found.stands) found.answer;
        stand = stand_then lists found.form stand found.there (joins (end_of result)) found.stand;
        runs = (with_area before area after, led.writes, 0, sym (add-zero led.writes), (set before.areas area after, refl, found.turn), (refl, refl));
      }

  -- what the desk did
  pub area_asked : (has_call_died result ≡ true → IsSpent left)
      → Calls of_area (LeadsRegions before (with_area before area after)) told left moment (asks.Area area op) (desk_result result)
  area_asked refused =
      call_asked of_area (LeadsRegions before (with_area before area after)) told left moment (asks.Area area op) untold
      led.writes result led.spent refused leads

  -- the regions stand for some lists still
  pub area_still : AreRegions (with_area before area after)
  area_still =
      let on = leads is.lists is.stand in
      record {
        limits = is.limits;
        lists = on.after;
        stand = on.stand;
      }

  -- no gate is open behind a call that ended
  pub area_settled : (has_call_died result ≡ false → region after.words 10 ≡ 0) → is_settled before ≡ true → has_died (desk_result result) ≡ false
      → is_settled (with_area before area after) ≡ true
  area_settled closed settled ended =
      let parts = both_true (list_all is_vault_closed before.caches) (list_all is_area_closed before.areas) settled in
      let now : is_area_closed after ≡ true = eq-eqb (region after.words 10) 0 (closed (sym (died_so result) ∙ ended)) in
      join_true (list_all is_vault_closed before.caches) (list_all is_area_closed (set before.areas area after)) parts.0
      (passing_set is_area_closed before.areas area after parts.1 now)
