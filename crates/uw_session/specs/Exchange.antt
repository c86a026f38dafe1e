-- One request: what it asks, and its reply (own rule).
use Rattle.std.specs.Prelude.{◌≡◌, ℕ, ◌^◌, ◌<◌, ◌≤◌, ◌==◌, nat_lt, nat_le, Bool, ◌&&◌, ◌||◌, if◌then◌else◌, List, [], ◌++◌, length, map, codes, Option, None, Some, option_and_then, Result, Ok, Err}
use Rattle.std.specs.Int.{to_le_bytes, w32}
use Rattle.uw_base.specs.declared.variables.Pair.{Pair}
use Rattle.uw_base.specs.Numbers.{decimal_of}
use Rattle.uw_base.specs.Variables.{value_of}
use Rattle.uw_packet.specs.declared.packet.Header.{Header}
use Rattle.uw_packet.specs.Packet.{header_bytes}
use Rattle.uw_packet.specs.Blocks.{vars_read}
use Rattle.uw_model.specs.declared.asks.Ask.{Ask}
use Rattle.uw_model.specs.declared.asks.AskAnswer.{AskAnswer}
use Rattle.uw_model.specs.declared.asks.AskAnswer.TheVariants as ask_answers
use Rattle.uw_model.specs.Asks.{DeskParts}
use Rattle.uw_cachecmd.specs.declared.commands.CmdFault.{CmdFault}
use Rattle.uw_cachecmd.specs.declared.commands.CmdFault.TheVariants as commands
use Rattle.uw_cachecmd.specs.Commands.{ask_of}
use Rattle.uw_cachecmd.specs.Replies.{reply_text, refusal_reply, spool_text}
use Rattle.uw_reply.specs.ReplyBytes.{reply_text_of}
use Rattle.uw_rules.specs.Compiled.{rules_of}
use Rattle.uw_rules.specs.Tables.{AreRulesOf}
use Rattle.uw_rules.specs.WrittenRules.{WrittenRule}
use Rattle.uw_chain.specs.declared.outcome.RouteEnd.{RouteEnd}
use Rattle.uw_chain.specs.Courses.{Course, Next, and_then, asking, ended, next_after}
use Rattle.uw_chain.specs.Routing.{Naming, course_of_request}
use Rattle.uw_chain.specs.Spooling.{task_ask}
use Rattle.uw_conf.specs.declared.conf.Conf.{Conf}
use Rattle.uw_conf.specs.declared.conf.Options.{Options}
use Rattle.uw_conf.specs.Given.{options_in}
use Rattle.uw_session.specs.declared.faults.Form.{Form}
use Rattle.uw_session.specs.declared.faults.Form.TheVariants as forms
use Rattle.uw_session.specs.declared.faults.Refusal.{Refusal}
use Rattle.uw_session.specs.declared.faults.Refusal.TheVariants as refusals

-- ---- a site

-- what answers requests and runs tasks: the options of a configuration, and its rules of requests and of tasks as they are written
pub record Site : Type 0 where
  pub options : Options
  pub naming : Naming
  pub rules : List WrittenRule
  pub task_naming : Naming
  pub task_rules : List WrittenRule

-- the names of the caches, in their order
abbrev pub names_of : Options → List (List ℕ)
names_of options = map (λ cache. cache.name) options.caches

-- a configuration whose compiled rules are those of a site
pub record IsSiteOf (conf : Conf) (site : Site) : Type 0 where
  pub options : options_in conf ≡ site.options
  pub rules : AreRulesOf site.naming.names site.naming.labels (rules_of conf.routes) site.rules
  pub task_rules : AreRulesOf site.task_naming.names site.task_naming.labels (rules_of conf.tasks) site.task_rules

-- a desk has at least as many caches and areas as a configuration
pub record HasParts (parts : DeskParts) (conf : Conf) : Type 0 where
  pub caches : length conf.caches ≤ parts.caches
  pub areas : length conf.areas ≤ parts.areas

-- ---- a packet

-- a packet with its body, at the moment at which it was taken up
pub record Exchange : Type 0 where
  pub moment : ℕ
  pub head : Header
  pub block : List ℕ
  pub body : List ℕ

-- the bytes as they came
abbrev pub exchange_bytes : Exchange → List ℕ
exchange_bytes x = header_bytes x.head ++ x.block ++ x.body

-- the modifiers of a request
abbrev pub is_request : Header → Bool
is_request head = head.m1 == 0

-- the modifiers of a task
abbrev pub is_task : Header → Bool
is_task head = head.m1 == 17

-- the modifiers that are served: those of requests, those of tasks, and those of commands
abbrev pub is_served : ℕ → ℕ → Bool
is_served m1 m2 = m1 == 0 || m1 == 17 || (m1 == 111 && (m2 == 0 || m2 == 1 || m2 == 2 || m2 == 200))

-- why a header is refused, before its block is read: its size, and then its modifiers
abbrev pub header_refusal : Options → Header → Option Refusal
header_refusal options head =
    if nat_lt options.buffer_size head.size then Some (refusals.TooBig head.size options.buffer_size)
    else (if is_served head.m1 head.m2 then None else Some (refusals.NoModifier head.m1 head.m2))

-- what a command's packet asks of the caches
abbrev pub asked_by : Options → Header → List ℕ → Result Ask CmdFault
asked_by options head block = ask_of head.m2 block (names_of options)

-- the place at which a command's block is out of its grammar
abbrev pub broken_command : Result Ask CmdFault → Option ℕ
broken_command (Ok ask) = None
broken_command (Err (commands.BadBlock at)) = Some at
broken_command (Err commands.UnknownCommand) = None
broken_command (Err commands.UnknownCache) = None
broken_command (Err commands.BadNumber) = None
broken_command (Err commands.Memory) = None

-- the variables of a request or a task; a block out of its grammar has none
abbrev pub pairs_of : Result (List Pair) ℕ → List Pair
pairs_of (Ok pairs) = pairs
pairs_of (Err at) = []

-- the place at which the block of a request or a task is out of its grammar
abbrev pub broken_vars : Result (List Pair) ℕ → Option ℕ
broken_vars (Ok pairs) = None
broken_vars (Err at) = Some at

-- the place at which a packet's block is out of its grammar
abbrev pub broken_at : Options → Header → List ℕ → Option ℕ
broken_at options head block = if is_request head || is_task head then broken_vars (vars_read block) else broken_command (asked_by options head block)

-- the most bytes of a body
abbrev pub most_body_bytes : ℕ
most_body_bytes = 2 ^ 30

-- a length within the limit
abbrev pub length_within : ℕ → Option ℕ
length_within bytes = if nat_le bytes most_body_bytes then Some bytes else None

-- the length that a text gives a body: 0 where it is empty
abbrev pub content_length : List ℕ → Option ℕ
content_length text = if length text == 0 then Some 0 else option_and_then length_within (decimal_of text)

-- the length of the body behind a packet's block; none where it can't be read
abbrev pub body_length : Header → List ℕ → Option ℕ
body_length head block = if is_request head then content_length (value_of (pairs_of (vars_read block)) (codes "CONTENT_LENGTH")) else Some 0

-- a packet that is answered: its header is not refused, its block has just its size and is in its grammar, and its body has just the length that it gives
pub record IsAccepted (options : Options) (x : Exchange) : Type 0 where
  pub accepted : header_refusal options x.head ≡ None
  pub fits : x.head.size < 2 ^ 16
  pub size : length x.block ≡ x.head.size
  pub grammar : broken_at options x.head x.block ≡ None
  pub body : body_length x.head x.block ≡ Some (length x.body)

-- ---- the asks of a packet, and its reply

-- the bytes of a request's reply
abbrev pub end_bytes : RouteEnd → List ℕ
end_bytes ending = reply_text_of ending.reply ending.head_only

-- the reply to a command's ask, which is one of a cache
abbrev pub ask_reply : ℕ → AskAnswer → List ℕ
ask_reply m2 (ask_answers.Cache answer) = reply_text m2 answer
ask_reply m2 _ = []

-- the reply to a task that was to be put aside
abbrev pub put_reply : AskAnswer → List ℕ
put_reply (ask_answers.Spool answer) = spool_text answer
put_reply _ = []

-- the course of a task: it is put aside
abbrev pub course_of_putting : List Pair → Course (List ℕ)
course_of_putting pairs = asking (task_ask pairs) (λ answer. ended (put_reply answer))

-- the course of a command: one ask, or its refusal at once
abbrev pub course_of_command : ℕ → Result Ask CmdFault → Course (List ℕ)
course_of_command m2 (Ok ask) = asking ask (λ answer. ended (ask_reply m2 answer))
course_of_command m2 (Err fault) = ended (refusal_reply m2 fault)

-- the course of a packet, from its first ask to its reply: of a request by the rules, of a task by its variables, of a command by its block
abbrev pub course_of_packet : Site → ℕ → Header → List ℕ → Course (List ℕ)
course_of_packet site moment head block =
    if is_request head then and_then (course_of_request site.naming site.rules moment (pairs_of (vars_read block))) (λ ending. ended (end_bytes ending))
    else (if is_task head then course_of_putting (pairs_of (vars_read block)) else course_of_command head.m2 (asked_by site.options head block))

-- the course of a packet that was taken
abbrev pub course_of_site : Site → Exchange → Course (List ℕ)
course_of_site site x = course_of_packet site x.moment x.head x.block

-- what comes next of a packet after these answers: an ask, or its reply
abbrev pub next_of_site : Site → Exchange → List AskAnswer → Next (List ℕ)
next_of_site site x answers = next_after (course_of_site site x) answers

-- a reply behind its length in four bytes, the lowest first
abbrev pub frame : List ℕ → List ℕ
frame reply = to_le_bytes w32 (length reply) ++ reply

-- a reply in its form
abbrev pub formed : Form → List ℕ → List ℕ
formed forms.Raw reply = reply
formed forms.Framed reply = frame reply
