-- The packets of a load, one after the other, and their figures.
use Rattle.std.proofs.Common.{◌≡◌, ℕ, suc, inl, inr, ◌+◌, ◌*◌, ◌/◌, ◌%◌, ◌^◌, ◌<◌, ◌≤◌, ℤ, Bool, true, false, cond, ltb, List, [], ◌∷◌, ◌++◌, length, take, Option, None, Some, Result, Ok, Err, codes, refl, sym, ap, subst, lit<, lit≤, ◌∙◌, arith, length-append, leb, eqb, ◌&&◌}
use Rattle.std.proofs.lemmas.List.{append-nil}
use Rattle.std.proofs.lemmas.Option.{none-some}
use Rattle.std.specs.Fmt.{decimal}
use Rattle.std.specs.List.{list_all, AllByRecursion}
use Rattle.std.proofs.lemmas.Bool.{false≢true, le-ltb, lt-ltb}
use Rattle.std.proofs.lemmas.Fmt.{length-decimal-le}
use Rattle.uw_base.specs.declared.variables.Pair.{Pair}
use Rattle.uw_outside.specs.Faults.{HasCause}
use Rattle.uw_outside.proofs.Causes.{HasCause-none}
use Rattle.uw_outside.specs.Streams.{Gives}
use Rattle.uw_outside.proofs.Streams.{Gives-none}
use Rattle.uw_packet.specs.Blocks.{sized, array_of, texts_of_pairs, AreShort, vars_read}
use Rattle.uw_packet.specs.BlockReads.{vars_block}
use Rattle.uw_packet.specs.declared.packet.Header.{Header}
use Rattle.uw_packet.proofs.Arrays.{chosen_none}
use Rattle.uw_packet.proofs.BlockLaws.{pairs_read}
use Rattle.uw_model.specs.declared.calls.Answer.{Answer}
use Rattle.uw_model.specs.declared.calls.Call.{Call}
use Rattle.uw_model.specs.declared.asks.Ask.{Ask}
use Rattle.uw_model.specs.declared.asks.Ask.TheVariants as asks
use Rattle.uw_model.specs.declared.asks.AskAnswer.{AskAnswer}
use Rattle.uw_model.specs.declared.asks.Asked.{Asked}
use Rattle.uw_model.specs.Asks.{Asking, AsksNothing, answered_at, of_desk}
use Rattle.uw_model.specs.ListState.{ListState}
use Rattle.uw_model.specs.Caches.{empty_caches}
use Rattle.uw_model.specs.Lists.{LeadsLists, Lists}
use Rattle.uw_cachecmd.specs.declared.commands.CmdFault.{CmdFault}
use Rattle.uw_cachecmd.specs.declared.commands.Kind.{Kind}
use Rattle.uw_cachecmd.specs.Commands.{commanded, command_block_ask}
use Rattle.uw_chain.specs.Courses.{Course, Unfolds, asking, ended}
use Rattle.uw_chain.specs.declared.faults.ChainEnd.TheVariants as chains
use Rattle.uw_chain.specs.Runs.{Stops}
use Rattle.uw_keeper.specs.InMemory.{KeptRows}
use Rattle.uw_chain.specs.Spooling.{both_led, kept_by}
use Rattle.uw_conf.specs.declared.conf.Options.{Options}
use Rattle.uw_ends.specs.declared.ends.RunFault.{RunFault}
use Rattle.uw_ends.specs.declared.ends.RunFault.TheVariants as faults
use Rattle.uw_top.specs.declared.load.Figures.{Figures}
use Rattle.uw_session.specs.declared.answering.Answered.{Answered}
use Rattle.uw_session.specs.declared.faults.ServeFault.{ServeFault}
use Rattle.uw_session.specs.declared.faults.ServeFault.TheVariants as serves
use Rattle.uw_outside.specs.Streams.{Outflow}
use Rattle.uw_session.specs.Exchange.{Exchange, IsAccepted, Site, ask_reply, asked_by, broken_command, course_of_command, course_of_site, header_refusal, names_of}
use Rattle.uw_session.specs.Serving.{AnswersPacket}
use Rattle.uw_top.specs.Pipe.{list_leads, unbounded}
use Rattle.uw_top.specs.Replying.{Reply, replied, reply_of}
use Rattle.uw_top.specs.Pipe.{has_failed_to_write}
use Rattle.uw_top.specs.Load.{LoadEndsBy, LoadRun, block_for, figures_from, figures_text, head_for, load_text, next_number, no_figures, packet_for, packets_from, variables_for, with_reply}
use Rattle.uw_top.specs.LoadSteps.{AnswersNumber, IsLoadTurn, IsLoaded, LoadLeads, LoadOver, LoadStops, LoadTurn, WritesText, answer_behind, desk_led, figures_by, load_moments, number_after, unanswered_by}
use Rattle.uw_top.proofs.Standing.{LedOn, StandsOn, stops_on}
use Rattle.uw_top.proofs.StandingRounds.{desk_on}

-- ---- the block of a generated packet

-- texts of at most ten bytes, and few of them
record AreSmall (texts : List (List ℕ)) (most : ℕ) : Type 0 where
  each : AllByRecursion (λ text. length text ≤ 10) texts
  few : length texts ≤ most

-- the array of such texts is short
length-array_of-small : (texts : List (List ℕ)) → AllByRecursion (λ text. length text ≤ 10) texts → length (array_of texts) ≤ 12 * length texts
length-array_of-small [] each = omega arith
length-array_of-small (text ∷ texts) each =
    let lengths = length-append (sized text) (array_of texts) in
    omega (arith, each.0, length-array_of-small texts each.1)

short_from_small : (texts : List (List ℕ)) → AllByRecursion (λ text. length text ≤ 10) texts → AreShort texts
short_from_small [] each = tt
short_from_small (text ∷ texts) each = (omega (arith, each.0), short_from_small texts each.1)

-- whether texts are short, as the test finds it
short_are_tested : (texts : List (List ℕ)) → AreShort texts → list_all (λ text. ltb (length text) 65536) texts ≡ true
short_are_tested [] short = refl
short_are_tested (text ∷ texts) short = rw (lt-ltb (length text) 65536 short.0, short_are_tested texts short.1) refl

command_small : (a b c : Bool) → length (cond a (codes "get") (cond b (codes "update") (cond c (codes "del") (codes "inc")))) ≤ 10
command_small true b c = lit≤ tt
command_small false true c = lit≤ tt
command_small false false true = lit≤ tt
command_small false false false = lit≤ tt

values_small : (b : Bool) (x : ℕ) → x < 2 ^ 31 → AreSmall (texts_of_pairs (cond b (record { key = codes "value"; value = decimal x } ∷ []) [])) 2
values_small true x small = record {
  each = (lit≤ tt, (length-decimal-le 10 x (lit< tt) (omega arith) (omega arith), tt));
  few = lit≤ tt;
}
values_small false x small = record { each = tt; few = lit≤ tt }

variables_small : (x : ℕ) → x < 2 ^ 31 → AreSmall (texts_of_pairs (variables_for x)) 6
variables_small x small =
    let choice = x / 65536 % 8 in
    let key : length (decimal (x / 256 % 256)) ≤ 3 = length-decimal-le 3 (x / 256 % 256) (lit< tt) (omega arith) (omega arith) in
    let values = values_small (leb 4 choice && ltb choice 6) x small in
    record {
      each = (lit≤ tt, (command_small (ltb choice 4) (ltb choice 6) (eqb choice 6), (lit≤ tt, (omega arith, values.each))));
      few = omega (arith, values.few);
    }

variables_short : (x : ℕ) → x < 2 ^ 31 → AreShort (texts_of_pairs (variables_for x))
variables_short x small = short_from_small (texts_of_pairs (variables_for x)) (variables_small x small).each

-- a generated block is short
short_block : (x : ℕ) → x < 2 ^ 31 → length (block_for x) < 2 ^ 16
short_block x small =
    let few = variables_small x small in
    omega (arith, few.few, length-array_of-small (texts_of_pairs (variables_for x)) few.each)

-- a generated block is there
pub block_is_there : (x : ℕ) → x < 2 ^ 31 → vars_block (variables_for x) ≡ None → ⊥
block_is_there x small none =
    let texts = texts_of_pairs (variables_for x) in
    let few = variables_small x small in
    let block : length (array_of texts) < 65536 = omega (arith, few.few, length-array_of-small texts few.each) in
    let test : Bool = list_all (λ text. ltb (length text) 65536) texts && ltb (length (array_of texts)) 65536 in
    let whole : test ≡ true = rw (short_are_tested texts (variables_short x small), lt-ltb (length (array_of texts)) 65536 block) refl in
    let missing : test ≡ false = chosen_none test (array_of texts) none in
    absurd cc

-- ---- the answer to a generated packet

-- a command is never a block out of its grammar
commanded_whole : (kind : Option Kind) (cache seconds : Option ℕ) (amount : Option ℤ) (key value : List ℕ) → broken_command (commanded kind cache seconds amount key value) ≡ None
commanded_whole None cache seconds amount key value = refl
commanded_whole (Some kind) None seconds amount key value = refl
commanded_whole (Some kind) (Some cache) None amount key value = refl
commanded_whole (Some kind) (Some cache) (Some ttl) None key value = refl
commanded_whole (Some kind) (Some cache) (Some ttl) (Some by) key value = refl

command_whole : (names : List (List ℕ)) (read : Result (List Pair) ℕ) (pairs : List Pair) → read ≡ Ok pairs → broken_command (command_block_ask names read) ≡ None
command_whole names read pairs e = rw e (commanded_whole _ _ _ _ _ _)

generated_whole : (conf : Options) (x : ℕ) → x < 2 ^ 31 → broken_command (asked_by conf (head_for x) (block_for x)) ≡ None
generated_whole conf x small = command_whole (names_of conf) (vars_read (block_for x)) (variables_for x) (pairs_read (variables_for x) (variables_short x small))

-- a command asks a cache, or is refused
abbrev AsksACache : Result Ask CmdFault → Type 0
AsksACache (Ok (asks.Cache cache call)) = Unit {0}
AsksACache (Ok (asks.Area area op)) = ⊥
AsksACache (Ok (asks.Spool vars body)) = ⊥
AsksACache (Err fault) = Unit {0}

commanded_of_cache : (kind : Option Kind) (cache seconds : Option ℕ) (amount : Option ℤ) (key value : List ℕ) → AsksACache (commanded kind cache seconds amount key value)
commanded_of_cache None cache seconds amount key value = tt
commanded_of_cache (Some kind) None seconds amount key value = tt
commanded_of_cache (Some kind) (Some cache) None amount key value = tt
commanded_of_cache (Some kind) (Some cache) (Some ttl) None key value = tt
commanded_of_cache (Some kind) (Some cache) (Some ttl) (Some by) key value = tt

command_of_cache : (names : List (List ℕ)) (read : Result (List Pair) ℕ) → AsksACache (command_block_ask names read)
command_of_cache names (Ok pairs) = commanded_of_cache _ _ _ _ _ _
command_of_cache names (Err at) = tt

generated_of_cache : (conf : Options) (x : ℕ) → AsksACache (asked_by conf (head_for x) (block_for x))
generated_of_cache conf x = command_of_cache (names_of conf) (vars_read (block_for x))

-- a generated packet whose header is accepted is whole
generated_is_whole : (conf : Options) (moment x : ℕ) → x < 2 ^ 31 → header_refusal conf (head_for x) ≡ None → IsAccepted conf (packet_for moment x)
generated_is_whole conf moment x small accepted = record {
  accepted = accepted;
  fits = short_block x small;
  size = refl;
  grammar = generated_whole conf x small;
  body = refl;
}

-- a generated header whose size is within the limit is accepted
pub accepted_header : (options : Options) (x : ℕ) (head : Header) → head ≡ head_for x → head.size ≤ options.buffer_size → header_refusal options head ≡ None
accepted_header options x head made fits =
    rw (le-ltb options.buffer_size head.size fits, ap (λ (h : Header). h.m1) made, ap (λ (h : Header). h.m2) made) refl

-- ---- a command over plain lists

-- what a command's asks come to: its reply, the answer behind it, and the lists after it
record IsReply (reply : Reply) (asked : List Asked) (written : List ℕ) (after : List ListState) : Type 0 where
  text : written ≡ reply.text
  answer : answer_behind asked ≡ reply.answer
  caches : after ≡ reply.caches

-- the reply of a course that is at its end
abbrev end_told : Course (List ℕ) → Option (List ℕ)
end_told (ended reply) = Some reply
end_told (asking ask more) = None

-- the same, where it is known to be at its end
abbrev reply_told : Course (List ℕ) → List ℕ
reply_told (ended reply) = reply
reply_told (asking ask more) = []

-- one ask was made
one_asked : (lists after : Lists) (moment m2 cache : ℕ) (call : Call) (ask : Ask) (answer : AskAnswer) (written : List ℕ)
    → ask ≡ asks.Cache cache call → ask_reply m2 answer ≡ written
    → LeadsLists lists (of_desk (answered_at moment (record { ask = ask; answer = answer } ∷ []) ++ [])) after
    → IsReply (replied lists.caches moment m2 (Ok (asks.Cache cache call))) (record { ask = ask; answer = answer } ∷ []) written after.caches
one_asked lists after moment m2 cache call ask answer written same told led =
    let Leading : Ask → Type 0 = λ one. LeadsLists lists (of_desk (answered_at moment (record { ask = one; answer = answer } ∷ []) ++ [])) after in
    let led_on : Leading (asks.Cache cache call) = subst Leading same led in
    record {
      text = sym told ∙ ap (λ (a : AskAnswer). ask_reply m2 a) led_on.0;
      answer = ap (λ (a : AskAnswer). answer_behind (record { ask = ask; answer = a } ∷ [])) led_on.0;
      caches = ap (λ (l : Lists). l.caches) led_on.1;
    }

command_replied : (lists after : Lists) (moment m2 : ℕ) (command : Result Ask CmdFault) (asked : List Asked) (written : List ℕ) → AsksACache command
    → Unfolds (course_of_command m2 command) asked (ended written) → LeadsLists lists (of_desk (answered_at moment asked ++ [])) after
    → IsReply (replied lists.caches moment m2 command) asked written after.caches
command_replied lists after moment m2 (Ok (asks.Cache cache call)) [] written of_cache course led = absurd (none-some written (ap end_told course))
command_replied lists after moment m2 (Ok (asks.Cache cache call)) (a ∷ []) written of_cache course led =
    one_asked lists after moment m2 cache call a.ask a.answer written course.0 (ap reply_told course.1) led
command_replied lists after moment m2 (Ok (asks.Cache cache call)) (a ∷ b ∷ more) written of_cache course led = absurd course.1
command_replied lists after moment m2 (Ok (asks.Area area op)) asked written of_cache course led = absurd of_cache
command_replied lists after moment m2 (Ok (asks.Spool vars body)) asked written of_cache course led = absurd of_cache
command_replied lists after moment m2 (Err fault) [] written of_cache course led =
    record { text = sym (ap reply_told course); answer = refl; caches = ap (λ (l : Lists). l.caches) led }
command_replied lists after moment m2 (Err fault) (a ∷ more) written of_cache course led = absurd course

-- tasks led a keeper in memory on
abbrev pub kept_in_memory : KeptRows → KeptRows → List Asking → Type 0
kept_in_memory before now asked = kept_by (λ (k : KeptRows). Some k.rows) (λ (k : KeptRows). k.append_faults) (λ (k : KeptRows). k.other_faults) before now asked

-- ---- what an immortal worker did with a generated packet

-- nothing was asked of a desk, nor of one that is more
asks_nothing_of : (led told : List Asking → ℕ → Type 0) → ((asked : List Asking) (writes : ℕ) → led asked writes → told asked writes) → AsksNothing led unbounded unbounded
    → AsksNothing told unbounded unbounded
asks_nothing_of led told less none = (less [] 0 none.0, none.1)

-- the same, where there was no memory
stops_of : (led told : List Asking → ℕ → Type 0) → ((asked : List Asking) (writes : ℕ) → led asked writes → told asked writes) → (moment : ℕ) (course : Course (List ℕ))
    (asked : List Asked) → Stops led unbounded unbounded moment course asked chains.Memory → Stops told unbounded unbounded moment course asked chains.Memory
stops_of led told less moment course asked (inl found) = inl (found.0, found.1, (found.2.0, less _ _ found.2.1, found.2.2))
stops_of led told less moment course asked (inr broken) =
    inr (broken.0, broken.1, broken.2, (broken.3.0, less _ _ broken.3.1, broken.3.2))

-- what an immortal worker did with a packet over a desk, and a keeper beside it
abbrev Answering : {S : Type 0} → (S → S → List Asking → ℕ → Type 0) → S → S → (List Asking → Type 0) → Site → ℕ → Header → List ℕ → Result Answered ServeFault → Type 0
Answering leads a b kept site moment head block result = AnswersPacket (both_led (leads a b) kept) unbounded unbounded site moment head block result

module _ {S : Type 0} (leads : S → S → List Asking → ℕ → Type 0) (a b : S) (kept : List Asking → Type 0) (site : Site) (moment x : ℕ) (head : Header) (block : List ℕ)
    (small : x < 2 ^ 31) (made : head ≡ head_for x) (filled : block ≡ block_for x) where
  -- the same of the generated packet
  as_generated : (result : Result Answered ServeFault) → Answering leads a b kept site moment head block result → Answering leads a b kept site moment (head_for x) (block_for x) result
  as_generated result answering =
      subst (λ (text : List ℕ). Answering leads a b kept site moment (head_for x) text result) filled (subst (λ (h : Header). Answering leads a b kept site moment h block result) made answering)

  -- those of the desk are what led both on
  of_both : (asked : List Asking) (writes : ℕ) → both_led (leads a b) kept asked writes → desk_led leads a b asked writes
  of_both asked writes led = led.0

  -- it was answered
  pub generated_answered : (answered : Answered) → header_refusal site.options head ≡ None → Answering leads a b kept site moment head block (Ok answered)
      → AnswersNumber leads site a b moment x (Ok answered)
  generated_answered answered accepted answering =
      let same = as_generated (Ok answered) answering in
      let taken = subst (λ (h : Header). header_refusal site.options h ≡ None) made accepted in
      let led = same.1.1 in
      (generated_is_whole site.options moment x small taken, (same.1.0, (led.0, of_both (answered_at moment answered.asks ++ []) led.0 led.1, led.2)))

  -- it was not: there was no memory, since its block is never out of its grammar, and an immortal worker is not dead
  pub generated_unanswered : (fault : ServeFault) → Answering leads a b kept site moment head block (Err fault) → AnswersNumber leads site a b moment x (Err (unanswered_by fault))
  generated_unanswered fault answering = go fault (as_generated (Err fault) answering)
    where
      go : (fault : ServeFault) → Answering leads a b kept site moment (head_for x) (block_for x) (Err fault) → AnswersNumber leads site a b moment x (Err (unanswered_by fault))
      go (serves.BadBlock at) same = absurd (none-some at (sym (generated_whole site.options x small) ∙ same.0))
      go (serves.Memory done) (inl before) = inl (asks_nothing_of (both_led (leads a b) kept) (desk_led leads a b) of_both before.1)
      go (serves.Memory done) (inr behind) = inr (done, stops_of (both_led (leads a b) kept) (desk_led leads a b) of_both moment _ done behind.1)
      go (serves.Died true done) same = absurd (false≢true same.1.0)
      go (serves.Died false done) same = absurd (false≢true same.1.0)
      go _ same = absurd same

-- ---- packets, one after the other

-- the packets of moments and of one more
packets_from-push : (x : ℕ) (moments : List ℕ) (moment : ℕ) → packets_from x (moments ++ moment ∷ []) ≡ packets_from x moments ++ packet_for moment (next_number (number_after x moments)) ∷ []
packets_from-push x [] moment = refl
packets_from-push x (m ∷ moments) moment = ap (λ (rest : List Exchange). packet_for m (next_number x) ∷ rest) (packets_from-push (next_number x) moments moment)

number_after-push : (x : ℕ) (moments : List ℕ) (moment : ℕ) → number_after x (moments ++ moment ∷ []) ≡ next_number (number_after x moments)
number_after-push x [] moment = refl
number_after-push x (m ∷ moments) moment = number_after-push (next_number x) moments moment

-- the moments of turns and of one more
load_moments-push : (turns : List LoadTurn) (t : LoadTurn) → load_moments (turns ++ t ∷ []) ≡ load_moments turns ++ t.moment ∷ []
load_moments-push [] t = refl
load_moments-push (first ∷ turns) t = ap (λ (rest : List ℕ). first.moment ∷ rest) (load_moments-push turns t)

length-load_moments : (turns : List LoadTurn) → length (load_moments turns) ≡ length turns
length-load_moments [] = refl
length-load_moments (t ∷ turns) = ap suc (length-load_moments turns)

-- the figures of turns and of one more
figures_by-push : (f : Figures) (turns : List LoadTurn) (t : LoadTurn) → figures_by f (turns ++ t ∷ []) ≡ with_reply (figures_by f turns) (answer_behind t.asked) t.reply
figures_by-push f [] t = refl
figures_by-push f (first ∷ turns) t = figures_by-push (with_reply f (answer_behind first.asked) first.reply) turns t

-- one packet more in the figures
pub packets_more : (f g : Figures) (answer : Option Answer) (text : List ℕ) (served : ℕ) → g ≡ with_reply f answer text → f.packets ≡ served → g.packets ≡ served + 1
packets_more f g answer text served more so_far = ap (λ (h : Figures). h.packets) more ∙ ap (λ (n : ℕ). n + 1) so_far

-- a sink in which nothing was written
abbrev pub unwritten : Option (List ℕ) → ℕ → Outflow
unwritten taken faults = record { before = taken; now = taken; faults_before = faults; faults_now = faults }

module _ {S : Type 0} (leads : S → S → List Asking → ℕ → Type 0) (site : Site) where
  -- turns and one more
  LoadLeads-push : (x : ℕ) (a b c : S) (turns : List LoadTurn) (t : LoadTurn) → LoadLeads leads site x a turns b
      → IsLoadTurn leads site (next_number (number_after x (load_moments turns))) b c t → LoadLeads leads site x a (turns ++ t ∷ []) c
  LoadLeads-push x a b c [] t same last = (c, subst (λ (from : S). IsLoadTurn leads site (next_number x) from c t) same last, refl)
  LoadLeads-push x a b c (first ∷ turns) t led last = (led.0, led.1, LoadLeads-push (next_number x) led.0 b c turns t led.2 last)

  -- the answer to the number that follows the last one
  as_next : (a b : S) (moment first number next : ℕ) (turns : List LoadTurn) (result : Result Answered RunFault) → next ≡ next_number number
      → number ≡ number_after first (load_moments turns) → AnswersNumber leads site a b moment next result
      → AnswersNumber leads site a b moment (next_number (number_after first (load_moments turns))) result
  as_next a b moment first number next turns result step last answers =
      subst (λ (n : ℕ). AnswersNumber leads site a b moment n result) (step ∙ ap next_number last) answers

  -- one packet more
  pub one_loaded : {Clk : Type 0} (gave : Clk → Clk → List ℕ → Type 0)
      (gave_more : (a b c : Clk) (early late : List ℕ) → gave a b early → gave b c late → gave a c (early ++ late))
      (first number next : ℕ) (start held after : S) (f g : Figures) (clock mid later : Clk) (moment served : ℕ) (answered : Answered)
      → next ≡ next_number number → g ≡ with_reply f (answer_behind answered.asks) answered.reply
      → IsLoaded leads site first number start held f (gave clock mid) served → gave mid later (moment ∷ [])
      → AnswersNumber leads site held after moment next (Ok answered)
      → IsLoaded leads site first next start after g (gave clock later) (served + 1)
  one_loaded gave gave_more first number next start held after f g clock mid later moment served answered step counted s told answers =
      let turns = s.turns in
      let t : LoadTurn = record { moment = moment; asked = answered.asks; reply = answered.reply } in
      let moments = load_moments-push turns t in
      let Given : List ℕ → Type 0 = gave clock later in
      record {
        turns = turns ++ t ∷ [];
        passed = LoadLeads-push first start held after turns t s.passed (as_next held after moment first number next turns (Ok answered) step s.last answers);
        told = subst Given (sym moments) (gave_more clock mid later (load_moments turns) (moment ∷ []) s.told told);
        last = step ∙ ap next_number s.last ∙ sym (ap (λ (ms : List ℕ). number_after first ms) moments ∙ number_after-push first (load_moments turns) moment);
        figures =
            counted ∙ ap (λ (h : Figures). with_reply h (answer_behind answered.asks) answered.reply) s.figures ∙ sym (figures_by-push no_figures turns t);
        count = length-append turns (t ∷ []) ∙ ap (λ (n : ℕ). n + 1) s.count;
      }

  -- a packet was not answered
  pub load_stops : {Clk : Type 0} (gave : Clk → Clk → List ℕ → Type 0)
      (gave_more : (a b c : Clk) (early late : List ℕ) → gave a b early → gave b c late → gave a c (early ++ late))
      (first number next count : ℕ) (start held after : S) (f : Figures) (taken : Option (List ℕ)) (f0 : ℕ) (clock mid later : Clk) (moment served : ℕ) (fault : RunFault)
      → next ≡ next_number number → served < count
      → IsLoaded leads site first number start held f (gave clock mid) served → gave mid later (moment ∷ [])
      → AnswersNumber leads site held after moment next (Err fault)
      → LoadOver leads site first count start after (unwritten taken f0) (gave clock later) (Some fault)
  load_stops gave gave_more first number next count start held after f taken f0 clock mid later moment served (faults.BadPacket packet) step more s told answers = record {
    turns = s.turns;
    behind = held;
    late = moment ∷ [];
    part = [];
    passed = s.passed;
    few = omega (arith, s.count);
    told = gave_more clock mid later (load_moments s.turns) (moment ∷ []) s.told told;
    written = Gives-none taken;
    writes = HasCause-none f0 f0 refl;
    ending = (omega (arith, s.count), refl, (moment, refl, as_next held after moment first number next s.turns (Err (faults.BadPacket packet)) step s.last answers));
  }
  load_stops gave gave_more first number next count start held after f taken f0 clock mid later moment served faults.Memory step more s told answers = record {
    turns = s.turns;
    behind = held;
    late = moment ∷ [];
    part = [];
    passed = s.passed;
    few = omega (arith, s.count);
    told = gave_more clock mid later (load_moments s.turns) (moment ∷ []) s.told told;
    written = Gives-none taken;
    writes = HasCause-none f0 f0 refl;
    ending = (refl, inr (moment, refl, as_next held after moment first number next s.turns (Err faults.Memory) step s.last answers));
  }
  load_stops gave gave_more first number next count start held after f taken f0 clock mid later moment served _ step more s told answers = absurd answers

  -- all packets were answered, and this was written
  all_loaded : {Clk : Type 0} (gave : Clk → Clk → List ℕ → Type 0)
      (first number count : ℕ) (start held : S) (f : Figures) (w : Outflow) (clock mid : Clk) (served : ℕ) (part : List ℕ) (fault : Option RunFault)
      → served ≡ count → (s : IsLoaded leads site first number start held f (gave clock mid) served) → Gives w.before w.now part
      → HasCause w.faults_before w.faults_now (has_failed_to_write fault) → LoadStops leads site first count s.turns held held w [] part fault
      → LoadOver leads site first count start held w (gave clock mid) fault
  all_loaded gave first number count start held f w clock mid served part fault all s written writes ending = record {
    turns = s.turns;
    behind = held;
    late = [];
    part = part;
    passed = s.passed;
    few = omega (arith, s.count);
    told = rw append-nil s.told;
    written = written;
    writes = writes;
    ending = ending;
  }

  -- all packets were answered, and their figures were to be written
  pub load_ends : {Clk : Type 0} (gave : Clk → Clk → List ℕ → Type 0)
      (first number count : ℕ) (start held : S) (f : Figures) (w : Outflow) (clock mid : Clk) (served : ℕ) (fault : Option RunFault)
      → served ≡ count → IsLoaded leads site first number start held f (gave clock mid) served → WritesText (figures_text f) w fault
      → HasCause w.faults_before w.faults_now (has_failed_to_write fault) → LoadOver leads site first count start held w (gave clock mid) fault
  load_ends gave first number count start held f w clock mid served None all s t cause =
      all_loaded gave first number count start held f w clock mid served (figures_text f) None all s t cause (s.count ∙ all, refl, ap figures_text s.figures, refl)
  load_ends gave first number count start held f w clock mid served (Some faults.WriteFault) all s t cause =
      let text = ap figures_text s.figures in
      all_loaded gave first number count start held f w clock mid served (take t.1.0 (figures_text f)) (Some faults.WriteFault) all s t.1.2 cause
      (t.0, s.count ∙ all, refl, (t.1.0, subst (λ (b : List ℕ). t.1.0 < length b) text t.1.1, ap (λ (b : List ℕ). take t.1.0 b) text), refl)
  load_ends gave first number count start held f w clock mid served (Some faults.Memory) all s t cause =
      all_loaded gave first number count start held f w clock mid served [] (Some faults.Memory) all s t cause (refl, inl (refl, refl))
  load_ends gave first number count start held f w clock mid served (Some _) all s t cause = absurd t

-- ---- over a desk that stands for lists

module _ {D : Type 0} (leads : D → D → List Asking → ℕ → Type 0) (stands : D → Lists → Type 0) (on : StandsOn leads list_leads stands) (site : Site) where
  -- what leads on from a state that stands for lists
  led_on : (a b : D) (lists : Lists) → stands a lists → LedOn (desk_led leads a b) (λ (after : Lists). desk_led list_leads lists after) (λ (after : Lists). stands b after)
  led_on a b lists held asked writes led = desk_on leads stands on a b lists (of_desk asked) writes held led

  -- the turns are packets of commands over the lists, and the figures those of their replies
  turns_loaded : (x : ℕ) (a b : D) (lists : Lists) (f : Figures) (turns : List LoadTurn) → stands a lists → LoadLeads leads site x a turns b
      → (after : Lists) × stands b after × AllByRecursion (IsAccepted site.options) (packets_from x (load_moments turns))
      × (figures_by f turns ≡ figures_from site.options lists.caches f (packets_from x (load_moments turns)))
  turns_loaded x a b lists f [] held led = (lists, subst (λ (s : D). stands s lists) (sym led) held, tt, refl)
  turns_loaded x a b lists f (t ∷ turns) held led =
      let next = next_number x in
      let is = led.1 in
      let followed = is.1 in
      let first = led_on a led.0 lists held (answered_at t.moment t.asked ++ []) followed.1.0 followed.1.1 in
      let reply = reply_of site.options lists.caches (packet_for t.moment next) in
      let told = command_replied lists first.0 t.moment 200 (asked_by site.options (head_for next) (block_for next)) t.asked t.reply (generated_of_cache site.options next) followed.0 first.2 in
      let packets = packets_from next (load_moments turns) in
      let more = turns_loaded next led.0 b first.0 (with_reply f (answer_behind t.asked) t.reply) turns first.1 led.2 in (
        more.0,
        more.1,
        (is.0, more.2),
        more.3
            ∙ ap (λ (caches : List ListState). figures_from site.options caches (with_reply f (answer_behind t.asked) t.reply) packets) told.caches
            ∙ ap (λ (answer : Option Answer). figures_from site.options reply.caches (with_reply f answer t.reply) packets) told.answer
            ∙ ap (λ (text : List ℕ). figures_from site.options reply.caches (with_reply f reply.answer text) packets) told.text,
      )

  -- where a packet was not answered, the desk stands for lists again
  unanswered_on : (a b : D) (lists : Lists) (moment x : ℕ) (fault : RunFault) → stands a lists → AnswersNumber leads site a b moment x (Err fault)
      → (after : Lists) × stands b after
  unanswered_on a b lists moment x (faults.BadPacket packet) held answers = let o = led_on a b lists held [] 0 answers.1.0 in (o.0, o.1)
  unanswered_on a b lists moment x faults.Memory held (inl nothing) = let o = led_on a b lists held [] 0 nothing.0 in (o.0, o.1)
  unanswered_on a b lists moment x faults.Memory held (inr stopped) =
      let o = stops_on (desk_led leads a b) (λ (after : Lists). desk_led list_leads lists after) (λ (after : Lists). stands b after) (led_on a b lists held) unbounded unbounded moment
      (course_of_site site (packet_for moment x)) stopped.0 chains.Memory stopped.1 in
      (o.0, o.1)
  unanswered_on a b lists moment x _ held answers = absurd answers

  -- the end of a load
  module _ (first count : ℕ) (start : List ListState) (turns : List LoadTurn) (behind last : D) (w : Outflow) (late part : List ℕ)
      (empty : start ≡ empty_caches site.options.caches)
      (figures : figures_by no_figures turns ≡ figures_from site.options start no_figures (packets_from first (load_moments turns))) where
    -- the text of figures
    text_is : figures_text (figures_by no_figures turns) ≡ load_text site.options first (load_moments turns)
    text_is =
        ap figures_text (figures
        ∙ ap (λ (caches : List ListState). figures_from site.options caches no_figures (packets_from first (load_moments turns))) empty)

    ends_loaded : (fault : Option RunFault) → LoadStops leads site first count turns behind last w late part fault
        → LoadEndsBy site.options (record { first = first; count = count; snk = w; moments = load_moments turns; late = late; part = part }) fault
    ends_loaded None e = (length-load_moments turns ∙ e.0, e.1, e.2 ∙ text_is)
    ends_loaded (Some faults.WriteFault) e = (
      e.0,
      length-load_moments turns ∙ e.1,
      e.2,
      (e.3.0, subst (λ (b : List ℕ). e.3.0 < length b) text_is e.3.1, e.3.2 ∙ ap (λ (b : List ℕ). take e.3.0 b) text_is),
    )
    ends_loaded (Some (faults.BadPacket packet)) e =
        let moment = e.2.0 in (
          omega (arith, length-load_moments turns, e.0),
          e.1,
          (
            moment,
            packet_for moment (next_number (number_after first (load_moments turns))),
            e.2.1,
            ap (λ (behind : List ℕ). packets_from first (load_moments turns ++ behind)) e.2.1 ∙ packets_from-push first (load_moments turns) moment,
            e.2.2.0,
          ),
        )
    ends_loaded (Some faults.Memory) (part, inl done) = (part, omega (arith, ap length done.0))
    ends_loaded (Some faults.Memory) (part, inr (moment, one, answers)) = (part, omega (arith, ap length one))
    ends_loaded (Some _) e = absurd e

    last_stands : (lists : Lists) (fault : Option RunFault) → stands behind lists → LoadStops leads site first count turns behind last w late part fault
        → (after : Lists) × stands last after
    last_stands lists None held e = (lists, subst (λ (s : D). stands s lists) (sym e.3) held)
    last_stands lists (Some faults.WriteFault) held e = (lists, subst (λ (s : D). stands s lists) (sym e.4) held)
    last_stands lists (Some (faults.BadPacket packet)) held e =
        unanswered_on behind last lists e.2.0 (next_number (number_after first (load_moments turns))) (faults.BadPacket packet) held e.2.2
    last_stands lists (Some faults.Memory) held (none, inl done) = (lists, subst (λ (s : D). stands s lists) (sym done.1) held)
    last_stands lists (Some faults.Memory) held (none, inr (moment, one, answers)) =
        unanswered_on behind last lists moment (next_number (number_after first (load_moments turns))) faults.Memory held answers
    last_stands lists (Some _) held e = absurd e

  -- a whole load over a desk that stands for empty caches
  pub load_on : (first count : ℕ) (a b : D) (lists : Lists) (w : Outflow) (gave : List ℕ → Type 0) (fault : Option RunFault) → stands a lists
      → lists.caches ≡ empty_caches site.options.caches → LoadOver leads site first count a b w gave fault
      → (after : Lists) × stands b after × LoadRun site.options first count w gave fault
  load_on first count a b lists w gave fault held empty run =
      let turns = run.turns in
      let loaded = turns_loaded first a run.behind lists no_figures turns held run.passed in
      let last = last_stands first count lists.caches turns run.behind b w run.late run.part empty loaded.3 loaded.0 fault loaded.1 run.ending in (
        last.0,
        last.1,
        record {
          moments = load_moments turns;
          late = run.late;
          part = run.part;
          answered = loaded.2;
          few = omega (arith, length-load_moments turns, run.few);
          told = run.told;
          written = run.written;
          writes = run.writes;
          ending = ends_loaded first count lists.caches turns run.behind b w run.late run.part empty loaded.3 fault run.ending;
        },
      )
