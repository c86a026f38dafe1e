-- How a course is followed to a reply, or not to its end.
use Rattle.std.proofs.Common.{◌≡◌, inl, inr, refl, sym, ap, ◌∙◌, subst, ℕ, ◌≤◌, true, false, List, [], ◌∷◌, ◌++◌, Option, None, Some, Result, Ok, Err, arith}
use Rattle.std.specs.Prelude.{IfOk}
use Rattle.uw_keeper.specs.Keeping.{Keeping}
use Rattle.uw_outside.proofs.Lives.{Spends-none}
use Rattle.uw_base.specs.declared.bytes.Memory.{Memory}
use Rattle.uw_model.specs.declared.asks.Ask.{Ask}
use Rattle.uw_model.specs.declared.asks.Ask.TheVariants as asks
use Rattle.uw_model.specs.declared.asks.AskAnswer.{AskAnswer}
use Rattle.uw_model.specs.declared.asks.Asked.{Asked}
use Rattle.uw_model.specs.Asks.{Asking, AsksNothing, DeskParts, answered, Leads, Led}
use Rattle.uw_cachecmd.specs.declared.commands.CmdFault.{CmdFault}
use Rattle.uw_cachecmd.specs.Replies.{refusal_reply}
use Rattle.uw_packet.specs.declared.packet.Header.{Header}
use Rattle.uw_rules.specs.WrittenRules.{WrittenRule}
use Rattle.uw_base.specs.declared.variables.Pair.{Pair}
use Rattle.uw_chain.specs.declared.faults.ChainEnd.{ChainEnd}
use Rattle.uw_chain.specs.declared.faults.ChainEnd.TheVariants as chains
use Rattle.uw_chain.specs.declared.faults.ChainFault.{ChainFault}
use Rattle.uw_chain.specs.declared.faults.Routed.{Routed}
use Rattle.uw_chain.specs.declared.outcome.RouteEnd.{RouteEnd}
use Rattle.uw_chain.specs.Courses.{Course, ended, asking, and_then, Unfolds}
use Rattle.uw_chain.specs.Routing.{Naming, course_of_request}
use Rattle.uw_chain.specs.Runs.{AsksOnce, Follows, Routes, Stops}
use Rattle.uw_chain.specs.Spooling.{Keeps, both_led}
use Rattle.uw_chain.proofs.SpoolLemmas.{kept_none}
use Rattle.uw_reply.specs.ReplyBytes.{reply_text_of}
use Rattle.uw_session.specs.declared.answering.Answered.{Answered}
use Rattle.uw_session.specs.declared.faults.Refusal.TheVariants as refusals
use Rattle.uw_session.specs.declared.taking.Content.{Content}
use Rattle.uw_session.specs.declared.taking.Content.TheVariants as contents
use Rattle.uw_session.specs.declared.taking.TakeFault.{TakeFault}
use Rattle.uw_session.specs.declared.taking.TakeFault.TheVariants as takes
use Rattle.uw_conf.specs.declared.conf.Conf.{Conf}
use Rattle.uw_conf.specs.Given.{parts_in}
use Rattle.uw_session.specs.Exchange.{HasParts, Site, broken_at, course_of_packet, end_bytes, put_reply}
use Rattle.uw_session.specs.Serving.{AnswersPacket}
use Rattle.uw_session.specs.SessionSteps.{AnswersCourse, GivesContent, IsAnswerable, IsAnsweredBy, IsContentOf, broken_by, fault_before_asks}

-- ---- courses

-- a course behind which another one follows
Unfolds-then : {X Y : Type 0} → (course : Course X) (asked : List Asked) (rest : Course X) (next : X → Course Y)
    → Unfolds course asked rest → Unfolds (and_then course next) asked (and_then rest next)
Unfolds-then course [] rest next h = ap (λ k. and_then k next) h
Unfolds-then (ended result) (one ∷ asked) rest next h = absurd h
Unfolds-then (asking ask more) (one ∷ asked) rest next h = (h.0, Unfolds-then (more one.answer) asked rest next h.1)

-- a course that was not followed to its end, and another one behind it
Stops-then : {X Y : Type 0} → (led : List Asking → ℕ → Type 0) (before now : Option (List ℕ)) (moment : ℕ) (course : Course X) (next : X → Course Y)
    (made : List Asked) (end : ChainEnd) → Stops led before now moment course made end → Stops led before now moment (and_then course next) made end
Stops-then led before now moment course next made (chains.Died true) h =
    let why = h.1.1 in
    (h.0, (h.1.0, (why.0, λ answer. and_then (why.1 answer) next, Unfolds-then course made (asking why.0 why.1) next why.2, why.3, why.4)))
Stops-then led before now moment course next made (chains.Died false) h =
    let why = h.1 in
    (h.0, (why.0, λ answer. and_then (why.1 answer) next, Unfolds-then course made (asking why.0 why.1) next why.2, why.3, why.4))
Stops-then led before now moment course next made chains.Memory h =
    elim h [
      | inl short ↦ inl (and_then short.0 next, Unfolds-then course made short.0 next short.1, short.2)
      | inr why ↦ inr (why.0, λ answer. and_then (why.1 answer) next, Unfolds-then course made (asking why.0 why.1) next why.2, why.3)
    ]

-- no ask was made
Led-none : (led : List Asking → ℕ → Type 0) (told : Option (List ℕ)) (moment : ℕ) → led [] 0 → Led led told told moment [] []
Led-none led told moment none = (0, none, Spends-none told)

-- nothing was asked
pub asks_nothing : (led : List Asking → ℕ → Type 0) (told : Option (List ℕ)) → led [] 0 → AsksNothing led told told
asks_nothing led told none = (none, Spends-none told)

-- one ask was made
Led-one : (led : List Asking → ℕ → Type 0) (before now : Option (List ℕ)) (moment : ℕ) (ask : Ask) (answer : AskAnswer)
    → Leads led before now moment ask (answered answer) → Led led before now moment (record { ask = ask; answer = answer } ∷ []) []
Led-one led before now moment ask answer h = h

-- no ask leads a desk and a keeper from a state to itself
pub both_none : (led : List Asking → ℕ → Type 0) (k : Keeping) → led [] 0 → both_led led (Keeps k k) [] 0
both_none led k none = (none, kept_none k)

-- ---- replies

-- a reply to a course that was followed to its end
follows_to_reply : (led : List Asking → ℕ → Type 0) (before now : Option (List ℕ)) (moment : ℕ) (course : Course (List ℕ)) (made : List Asked) (bytes : List ℕ)
    (reply : Result (List ℕ) Memory) (result : Result Answered ChainFault) → Follows led before now moment course made bytes → IfOk reply (λ text. text ≡ bytes)
    → IsAnsweredBy made reply result → AnswersCourse led before now moment course result
follows_to_reply led before now moment course made bytes (Ok text) result h same is =
    subst (λ (r : Result Answered ChainFault). AnswersCourse led before now moment course r) (sym is)
    (subst (λ (b : List ℕ). Follows led before now moment course made b) (sym same) h)
follows_to_reply led before now moment course made bytes (Err memory) result h same is =
    subst (λ (r : Result Answered ChainFault). AnswersCourse led before now moment course r) (sym is) (inl (ended bytes, h.0, h.1))

-- the one ask of a course was answered
pub one_answered : {T : Type 0} → (led : List Asking → ℕ → Type 0) (before now : Option (List ℕ)) (moment : ℕ) (ask : Ask) (reply_to : AskAnswer → List ℕ)
    (list after : List Asked) (done : T) (told : AskAnswer) (reply : Result (List ℕ) Memory) (result : Result Answered ChainFault) → list ≡ []
    → AsksOnce led before now moment ask list after (Ok done)
    → ((front : List Asked) (asked : Asked) → after ≡ front ++ asked ∷ [] → told ≡ asked.answer) → IfOk reply (λ text. text ≡ reply_to told)
    → IsAnsweredBy after reply result → AnswersCourse led before now moment (asking ask (λ answer. ended (reply_to answer))) result
one_answered led before now moment ask reply_to list after done told reply result none h last same is =
    let course : Course (List ℕ) = asking ask (λ answer. ended (reply_to answer)) in
    let made : Asked = record { ask = ask; answer = h.0 } in
    let after_is : after ≡ made ∷ [] = h.1 ∙ ap (λ (l : List Asked). l ++ made ∷ []) none in
    let follows : Follows led before now moment course (made ∷ []) (reply_to told) =
    ((refl, ap (λ (a : AskAnswer). ended (reply_to a)) (sym (last list made h.1))), Led-one led before now moment ask h.0 h.2)
    in
    follows_to_reply led before now moment course (made ∷ []) (reply_to told) reply result follows same
    (subst (λ (l : List Asked). IsAnsweredBy l reply result) after_is is)

-- the one ask of a course was not answered
pub one_unanswered : (T : Type 0) (led : List Asking → ℕ → Type 0) (before now : Option (List ℕ)) (moment : ℕ) (ask : Ask) (reply_to : AskAnswer → List ℕ)
    (list after : List Asked) (end : ChainEnd) → list ≡ [] → AsksOnce {T = T} led before now moment ask list after (Err end)
    → Stops led before now moment (asking ask (λ answer. ended (reply_to answer))) after end
one_unanswered T led before now moment ask reply_to list after (chains.Died true) none h =
    subst (λ (l : List Asked). Stops led before now moment (asking ask (λ answer. ended (reply_to answer))) l (chains.Died true)) (sym (h.0 ∙ none))
    (h.1, (h.2.0, (ask, λ answer. ended (reply_to answer), refl, h.2.1, h.3)))
one_unanswered T led before now moment ask reply_to list after (chains.Died false) none h =
    subst (λ (l : List Asked). Stops led before now moment (asking ask (λ answer. ended (reply_to answer))) l (chains.Died false)) (sym (h.0 ∙ none))
    (h.1, (ask, λ answer. ended (reply_to answer), refl, h.2, h.3))
one_unanswered T led before now moment ask reply_to list after chains.Memory none h =
    subst (λ (l : List Asked). Stops led before now moment (asking ask (λ answer. ended (reply_to answer))) l chains.Memory) (sym (h.0 ∙ none))
    (elim h.1 [
      | inl unasked ↦ inl (asking ask (λ answer. ended (reply_to answer)), refl, unasked)
      | inr one ↦ inr (ask, λ answer. ended (reply_to answer), refl, one)
    ])

-- a request was routed to its end
pub request_answered : (led : List Asking → ℕ → Type 0) (before now : Option (List ℕ)) (moment : ℕ) (naming : Naming) (rules : List WrittenRule) (vars : List Pair)
    (routed : Routed) (reply : Result (List ℕ) Memory) (result : Result Answered ChainFault) → Routes led before now naming rules moment vars (Ok routed)
    → IfOk reply (λ text. text ≡ reply_text_of routed.reply routed.head_only) → IsAnsweredBy routed.asks reply result
    → AnswersCourse led before now moment (and_then (course_of_request naming rules moment vars) (λ ending. ended (end_bytes ending))) result
request_answered led before now moment naming rules vars routed reply result h same is =
    let course = course_of_request naming rules moment vars in
    let ending : RouteEnd = record { reply = routed.reply; head_only = routed.head_only } in
    follows_to_reply led before now moment (and_then course (λ ending. ended (end_bytes ending))) routed.asks (end_bytes ending) reply result
    (Unfolds-then course routed.asks (ended ending) (λ ending. ended (end_bytes ending)) h.0, h.1) same is

-- a request was not routed to its end
pub request_stopped : (led : List Asking → ℕ → Type 0) (before now : Option (List ℕ)) (moment : ℕ) (naming : Naming) (rules : List WrittenRule) (vars : List Pair)
    (fault : ChainFault) → Routes led before now naming rules moment vars (Err fault)
    → Stops led before now moment (and_then (course_of_request naming rules moment vars) (λ ending. ended (end_bytes ending))) fault.done fault.end
request_stopped led before now moment naming rules vars fault h =
    Stops-then led before now moment (course_of_request naming rules moment vars) (λ ending. ended (end_bytes ending)) fault.done fault.end h

-- ---- contents

-- the course of a refused command
refused_course : (site : Site) (moment : ℕ) (head : Header) (block : List ℕ) (fault : CmdFault) → IsContentOf site.options head block (contents.Refused fault)
    → course_of_packet site moment head block ≡ ended (refusal_reply head.m2 fault)
refused_course site moment head block fault h = rw (h.0, h.1, h.2) refl

-- a command is refused
pub refused_answered : (led : List Asking → ℕ → Type 0) (told : Option (List ℕ)) (moment m2 : ℕ) (site : Site) (head : Header) (block : List ℕ) (fault : CmdFault)
    (made : List Asked) (reply : Result (List ℕ) Memory) (result : Result Answered ChainFault) → led [] 0 → head.m2 ≡ m2
    → IsContentOf site.options head block (contents.Refused fault) → made ≡ [] → IfOk reply (λ text. text ≡ refusal_reply m2 fault)
    → IsAnsweredBy made reply result → AnswersCourse led told told moment (course_of_packet site moment head block) result
refused_answered led told moment m2 site head block fault made reply result quiet m2_is h none same is =
    let course = course_of_packet site moment head block in
    follows_to_reply led told told moment course [] (refusal_reply m2 fault) reply result (
      refused_course site moment head block fault h ∙ ap (λ (m : ℕ). ended (refusal_reply m fault)) m2_is,
      Led-none led told moment quiet,
    )
    same (subst (λ (l : List Asked). IsAnsweredBy l reply result) none is)

-- the course of a task
pub task_course : (site : Site) (moment : ℕ) (head : Header) (block : List ℕ) (vars : List Pair) (body : List ℕ)
    → IsContentOf site.options head block (contents.Task vars body)
    → asking (asks.Spool vars body) (λ answer. ended (put_reply answer)) ≡ course_of_packet site moment head block
task_course site moment head block vars body h =
    let said = h.2 in
    rw (h.0, h.1, said.1, said.2, said.3) refl

-- what can be answered over the parts of a configuration can over a desk that has them
pub IsAnswerable-more : (conf : Conf) (parts : DeskParts) (content : Content) → HasParts parts conf → IsAnswerable (parts_in conf) content → IsAnswerable parts content
IsAnswerable-more conf parts (contents.Request vars) enough h = h
IsAnswerable-more conf parts (contents.Task vars body) enough h = h
IsAnswerable-more conf parts (contents.Command (asks.Cache cache call)) enough h = omega (arith, h, enough.caches)
IsAnswerable-more conf parts (contents.Command (asks.Area area op)) enough h = omega (arith, h, enough.areas)
IsAnswerable-more conf parts (contents.Command (asks.Spool vars body)) enough h = h
IsAnswerable-more conf parts (contents.Refused fault) enough h = h

-- ---- packets

-- a block is out of its grammar, or no memory was left for what it says: nothing was asked
pub packet_unasked : (led : List Asking → ℕ → Type 0) (told : Option (List ℕ)) (site : Site) (moment : ℕ) (head : Header) (block : List ℕ) (fault : TakeFault)
    → led [] 0 → GivesContent site.options head block (Err fault) → AnswersPacket led told told site moment head block (Err (fault_before_asks fault))
packet_unasked led told site moment head block (takes.Refused (refusals.TooBig size limit)) quiet h = absurd h
packet_unasked led told site moment head block (takes.Refused (refusals.NoModifier m1 m2)) quiet h = absurd h
packet_unasked led told site moment head block (takes.Refused (refusals.BadBlock at)) quiet h = (h, asks_nothing led told quiet)
packet_unasked led told site moment head block (takes.Refused refusals.BadLength) quiet h = absurd h
packet_unasked led told site moment head block (takes.Truncated got want) quiet h = absurd h
packet_unasked led told site moment head block takes.ReadFault quiet h = absurd h
packet_unasked led told site moment head block takes.Memory quiet h = inl (refl, asks_nothing led told quiet)

-- the asks of a packet were not followed to its reply
pub packet_stopped : (led : List Asking → ℕ → Type 0) (before now : Option (List ℕ)) (site : Site) (moment : ℕ) (head : Header) (block : List ℕ) (done : List Asked)
    (end : ChainEnd) → broken_at site.options head block ≡ None → Stops led before now moment (course_of_packet site moment head block) done end
    → AnswersPacket led before now site moment head block (Err (broken_by end done))
packet_stopped led before now site moment head block done (chains.Died whole) in_grammar h = (in_grammar, h)
packet_stopped led before now site moment head block done chains.Memory in_grammar h = inr (in_grammar, h)
