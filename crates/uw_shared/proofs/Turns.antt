-- A call of one region of a desk, as an ask of the desk.
use Rattle.std.proofs.Common.{◌≡◌, ℕ, Bool, true, false, List, [], ◌∷◌, Option, Some, IfSome, Result, Ok, Err, refl, sym, ap, ◌∙◌, subst, set, is_some}
use Rattle.std.specs.Prelude.{if◌then◌else◌}
use Rattle.std.specs.List.{AllZip, slice_get}
use Rattle.uw_outside.specs.Lives.{IsSpent, Spends}
use Rattle.uw_model.specs.declared.asks.Ask.{Ask}
use Rattle.uw_model.specs.declared.asks.AskAnswer.{AskAnswer}
use Rattle.uw_model.specs.Asks.{AskEnd, Asking, Calls, counted_answer, has_died}
use Rattle.uw_model.specs.Asks as ends
use Rattle.uw_model.specs.Lists.{LeadsLists, Lists, answer_of, lists_after}
use Rattle.uw_intent.specs.declared.recoverable.CallFault.{CallFault}
use Rattle.uw_intent.specs.declared.recoverable.CallFault.TheVariants as faults
use Rattle.uw_intent.specs.Standing.{StandsFor}
use Rattle.uw_intent.specs.World.{Called}
use Rattle.uw_intent.specs.CallTurns.{CallEnd}
use Rattle.uw_intent.specs.CallTurns as calls
use Rattle.uw_intent.specs.OneTurn.{AnswersAs, LedByTurn, end_of, has_call_died, joins}
use Rattle.uw_shared.specs.AskRuns.{EndsAsCall, TurnAt}
use Rattle.uw_shared.specs.BeginningSteps.{desk_result}
use Rattle.uw_shared.specs.Parts.{Reading, Stands}
use Rattle.uw_shared.proofs.Places.{zip_at, zip_set, zip_set_left}

-- how an ask ends whose call ended so; one that died and counts would have been answered so
abbrev pub asked_as : {A : Type 0} → (A → AskAnswer) → AskAnswer → CallEnd A → AskEnd
asked_as kind untold (calls.given answer) = ends.answered (kind answer)
asked_as kind untold (calls.died true) = ends.died_whole untold
asked_as kind untold (calls.died false) = ends.died_absent
asked_as kind untold calls.no_memory = ends.no_memory

pub ends_so : {A : Type 0} (kind : A → AskAnswer) (untold : AskAnswer) (end : CallEnd A) → EndsAsCall kind (asked_as kind untold end) end
ends_so kind untold (calls.given answer) = refl
ends_so kind untold (calls.died true) = (untold, refl)
ends_so kind untold (calls.died false) = refl
ends_so kind untold calls.no_memory = refl

-- an ask counts exactly where its call joins
pub counts_so : {A : Type 0} (kind : A → AskAnswer) (untold : AskAnswer) (end : CallEnd A) → is_some (counted_answer (asked_as kind untold end)) ≡ joins end
counts_so kind untold (calls.given answer) = refl
counts_so kind untold (calls.died true) = refl
counts_so kind untold (calls.died false) = refl
counts_so kind untold calls.no_memory = refl

-- the answer that counts is the one of a state, where those that were given are, and the one that was not told would be
pub counted_is : {A : Type 0} (kind : A → AskAnswer) (untold right : AskAnswer) (end : CallEnd A)
    → ((answer : A) → end ≡ calls.given answer → kind answer ≡ right)
    → untold ≡ right → IfSome (counted_answer (asked_as kind untold end)) (λ given. given ≡ right)
counted_is kind untold right (calls.given answer) given other = given answer refl
counted_is kind untold right (calls.died true) given other = other
counted_is kind untold right (calls.died false) given other = tt
counted_is kind untold right calls.no_memory given other = tt

-- what a call of a desk did, where the call of its region led it on
pub call_asked : {A : Type 0} (kind : A → AskAnswer) (led : List Asking → ℕ → Type 0) (told left : Option (List ℕ)) (moment : ℕ) (ask : Ask)
    (untold : AskAnswer) (writes : ℕ)
    (result : Result A CallFault) → Spends told left writes → (has_call_died result ≡ true → IsSpent left)
    → led (record { moment = moment; ask = ask; end = asked_as kind untold (end_of result) } ∷ []) writes
    → Calls kind led told left moment ask (desk_result result)
call_asked kind led told left moment ask untold writes (Ok answer) spent refused leads = (writes, leads, spent)
call_asked kind led told left moment ask untold writes (Err (faults.Died true)) spent refused leads = (refused refl, (untold, (writes, leads, spent)))
call_asked kind led told left moment ask untold writes (Err (faults.Died false)) spent refused leads = (refused refl, (writes, leads, spent))
call_asked kind led told left moment ask untold writes (Err faults.Memory) spent refused leads = (writes, leads, spent)

-- a desk tells of a death where the call did
pub died_so : {A : Type 0} (result : Result A CallFault) → has_died (desk_result result) ≡ has_call_died result
died_so (Ok answer) = refl
died_so (Err (faults.Died whole)) = refl
died_so (Err faults.Memory) = refl

-- the call of the region at a place of several
module _ {V P F S C A : Type 0} (read : Reading V P F S C A) (kind : A → AskAnswer) (regions : List V) (at : ℕ) (region after : V) (made : Called C)
    (told left : Option (List ℕ)) (end : CallEnd A) (here : slice_get regions at ≡ Some region) (kept : read.conf after ≡ read.conf region)
    (led : LedByTurn (read.kind (read.conf region)) (read.words region) (read.words after) told left made end) where
  -- the region stands for a plain form still
  stays : (form : P) → Stands read region form → StandsFor (read.kind (read.conf region)) (read.words after) (read.state form) → Stands read after form
  stays form stands behind =
      record { conf = kept ∙ stands.conf; stands = subst (λ (f : F). StandsFor (read.kind f) (read.words after) (read.state form)) (sym kept) behind }

  module _ (step : P → P) (untold : AskAnswer) where
    -- of plain forms for which the regions stand one takes its step where the call joins, and the answer is the one of that form's state
    pub record LedAt (plain : List P) : Type 0 where
      pub form : P
      pub there : slice_get plain at ≡ Some form
      pub stands : Stands read region form
      pub turn : TurnAt read kind plain regions at made (asked_as kind untold end) led.writes (set regions at after)
      pub answer : IfSome (counted_answer (asked_as kind untold end))
          (λ given. given ≡ kind ((read.kind (read.conf region)).answer (read.state form) made.moment made.call))
      pub stand : AllZip (Stands read) (set regions at after) (if joins end then set plain at (step form) else plain)

    module _ (steps : (form : P) → Stands read region form
        → StandsFor (read.kind (read.conf region)) (read.words after) ((read.kind (read.conf region)).next (read.state form) made.moment made.call)
        → Stands read after (step form))
        (untold_is : (s : S) → StandsFor (read.kind (read.conf region)) (read.words region) s
        → untold ≡ kind ((read.kind (read.conf region)).answer s made.moment made.call)) where
      stand_behind : (plain : List P) (form : P) → AllZip (Stands read) regions plain → slice_get plain at ≡ Some form → Stands read region form
          → (joined : Bool)
          → StandsFor (read.kind (read.conf region)) (read.words after)
          (if joined then (read.kind (read.conf region)).next (read.state form) made.moment made.call else read.state form)
          → AllZip (Stands read) (set regions at after) (if joined then set plain at (step form) else plain)
      stand_behind plain form all there stands true behind = zip_set (Stands read) regions plain at after (step form) all (steps form stands behind)
      stand_behind plain form all there stands false behind = zip_set_left (Stands read) regions plain at after form all there (stays form stands behind)

      pub led_at : (plain : List P) → AllZip (Stands read) regions plain → LedAt plain
      led_at plain all =
          let found = zip_at (Stands read) regions plain at region all here in
          let one = led.turn (read.state found.0) found.2.stands in
          record {
            form = found.0;
            there = found.1;
            stands = found.2;
            turn = record {
              form = found.0;
              has_form = found.1;
              region = region;
              has_region = here;
              after = after;
              conf = kept;
              others = refl;
              ended = end;
              ends = ends_so kind untold end;
              runs = record { told = told; left = left; turn = one };
            };
            answer = counted_is kind untold (kind ((read.kind (read.conf region)).answer (read.state found.0) made.moment made.call)) end
                (λ a is. ap kind (subst (AnswersAs (read.kind (read.conf region)) (read.state found.0) made.moment made.call) is one.answer))
                (untold_is (read.state found.0) found.2.stands);
            stand = stand_behind plain found.0 all found.1 found.2 (joins end) one.stands;
          }

-- an ask leads lists on where its answer that counts is the one of the lists
pub ask_leads : {A : Type 0} (kind : A → AskAnswer) (untold right : AskAnswer) (end : CallEnd A) (lists : Lists) (moment : ℕ) (ask : Ask)
    → right ≡ answer_of lists moment ask → IfSome (counted_answer (asked_as kind untold end)) (λ given. given ≡ right)
    → LeadsLists lists (record { moment = moment; ask = ask; end = asked_as kind untold end } ∷ []) (if joins end then lists_after lists moment ask else lists)
ask_leads kind untold right end lists moment ask is answer = (
  subst (λ (x : AskAnswer). IfSome (counted_answer (asked_as kind untold end)) (λ given. given ≡ x)) is answer,
  ap (λ (b : Bool). if b then lists_after lists moment ask else lists) (sym (counts_so kind untold end)),
)
