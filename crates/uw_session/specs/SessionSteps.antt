-- What the parts of serving a request do.
use Rattle.std.specs.Prelude.{◌≡◌, ℕ, ◌<◌, ◌≤◌, ◌^◌, Bool, true, false, List, [], ◌++◌, length, take, codes, Option, None, Some, IsSome, Result, Ok, Err}
use Rattle.uw_outside.specs.Faults.{Rose}
use Rattle.uw_outside.specs.Streams.{Inflow, Outflow, Takes, Gives}
use Rattle.uw_base.specs.declared.variables.Pair.{Pair}
use Rattle.uw_base.specs.Variables.{value_of}
use Rattle.uw_packet.specs.BlockReads.{vars_block}
use Rattle.uw_packet.specs.declared.packet.Header.{Header}
use Rattle.uw_packet.specs.declared.packet.Packet.{Packet}
use Rattle.uw_packet.specs.declared.packet.PacketFault.{PacketFault}
use Rattle.uw_packet.specs.declared.packet.PacketFault.TheVariants as packets
use Rattle.uw_packet.specs.Packet.{header_bytes}
use Rattle.uw_packet.specs.Blocks.{vars_read}
use Rattle.uw_packet.specs.Reads.{IsOver}
use Rattle.uw_base.specs.declared.bytes.Memory.{Memory}
use Rattle.uw_model.specs.Asks.{Asking, DeskParts}
use Rattle.uw_model.specs.declared.asks.Asked.{Asked}
use Rattle.uw_cachecmd.specs.Replies.{HasReply}
use Rattle.uw_chain.specs.declared.faults.ChainEnd.{ChainEnd}
use Rattle.uw_chain.specs.declared.faults.ChainEnd.TheVariants as chains
use Rattle.uw_chain.specs.declared.faults.ChainFault.{ChainFault}
use Rattle.uw_chain.specs.Courses.{Course}
use Rattle.uw_chain.specs.Runs.{Follows, Stops, is_death}
use Rattle.uw_chain.specs.Spooling.{CanBeAsked, task_body, task_vars}
use Rattle.uw_conf.specs.declared.conf.Options.{Options}
use Rattle.uw_session.specs.declared.faults.Form.{Form}
use Rattle.uw_session.specs.declared.faults.Refusal.{Refusal}
use Rattle.uw_session.specs.declared.faults.Refusal.TheVariants as refusals
use Rattle.uw_session.specs.declared.faults.ServeFault.{ServeFault}
use Rattle.uw_session.specs.declared.faults.ServeFault.TheVariants as serves
use Rattle.uw_session.specs.declared.faults.Served.{Served}
use Rattle.uw_session.specs.declared.taking.Content.{Content}
use Rattle.uw_session.specs.declared.taking.Content.TheVariants as contents
use Rattle.uw_session.specs.declared.taking.TakeFault.{TakeFault}
use Rattle.uw_session.specs.declared.taking.TakeFault.TheVariants as takes
use Rattle.uw_session.specs.declared.answering.Answered.{Answered}
use Rattle.uw_session.specs.Exchange.{asked_by, body_length, broken_at, broken_vars, content_length, formed, header_refusal, is_request, is_task}
use Rattle.uw_session.specs.Serving.{IsBegun, IsBlockOf, IsRefused, IsSwallowed, IsTruncated, fault_of_refusal}

-- ---- faults

-- the fault that a fault of a read is
abbrev pub take_fault_of : PacketFault → TakeFault
take_fault_of (packets.Truncated got want) = takes.Truncated got want
take_fault_of (packets.TooBig size limit) = takes.Refused (refusals.TooBig size limit)
take_fault_of (packets.BadBlock at) = takes.Refused (refusals.BadBlock at)
take_fault_of packets.ReadFault = takes.ReadFault
take_fault_of packets.Memory = takes.Memory

-- nothing is refused, or just this
abbrev pub IsJudged : {T : Type 0} → Option Refusal → Result T Refusal → Type 0
IsJudged refused (Ok done) = refused ≡ None
IsJudged refused (Err refusal) = refused ≡ Some refusal

-- ---- what a block says

-- the task that a block says: these variables and this body
abbrev pub IsTaskOf : List ℕ → List Pair → List ℕ → Type 0
IsTaskOf block vars body = (pairs : List Pair) × (vars_read block ≡ Ok pairs) × (vars ≡ task_vars pairs) × (body ≡ task_body pairs)

-- the content of a block
abbrev pub IsContentOf : Options → Header → List ℕ → Content → Type 0
IsContentOf options head block (contents.Request vars) = (is_request head ≡ true) × (vars_read block ≡ Ok vars)
IsContentOf options head block (contents.Task vars body) = (is_request head ≡ false) × (is_task head ≡ true) × IsTaskOf block vars body
IsContentOf options head block (contents.Command ask) = (is_request head ≡ false) × (is_task head ≡ false) × (asked_by options head block ≡ Ok ask)
IsContentOf options head block (contents.Refused fault) = (is_request head ≡ false) × (is_task head ≡ false) × (asked_by options head block ≡ Err fault)

-- a content can be answered over a desk of these parts: a task's variables have a block, a command's ask can be asked, a refusal has a reply
abbrev pub IsAnswerable : DeskParts → Content → Type 0
IsAnswerable parts (contents.Request vars) = Unit {0}
IsAnswerable parts (contents.Task vars body) = IsSome (vars_block vars)
IsAnswerable parts (contents.Command ask) = CanBeAsked parts ask
IsAnswerable parts (contents.Refused fault) = HasReply fault

-- the content of a block that is in its grammar, or the place where it is not
abbrev pub GivesContent : Options → Header → List ℕ → Result Content TakeFault → Type 0
GivesContent options head block (Ok content) = IsContentOf options head block content × (broken_at options head block ≡ None)
GivesContent options head block (Err (takes.Refused (refusals.BadBlock at))) = broken_at options head block ≡ Some at
GivesContent options head block (Err takes.Memory) = Unit {0}
GivesContent options head block (Err _) = ⊥

-- the task of a block that is in its grammar, or the place where it is not
abbrev pub GivesTask : List ℕ → Result Content TakeFault → Type 0
GivesTask block (Ok (contents.Task vars body)) = IsTaskOf block vars body
GivesTask block (Ok _) = ⊥
GivesTask block (Err (takes.Refused (refusals.BadBlock at))) = broken_vars (vars_read block) ≡ Some at
GivesTask block (Err takes.Memory) = Unit {0}
GivesTask block (Err _) = ⊥

-- the length of the body behind a content
abbrev pub length_behind : Content → Option ℕ
length_behind (contents.Request vars) = content_length (value_of vars (codes "CONTENT_LENGTH"))
length_behind (contents.Task vars body) = Some 0
length_behind (contents.Command ask) = Some 0
length_behind (contents.Refused fault) = Some 0

-- the length of a body, or that it can't be read
abbrev pub GivesLength : Content → Result ℕ Refusal → Type 0
GivesLength content (Ok bytes) = length_behind content ≡ Some bytes
GivesLength content (Err refusals.BadLength) = length_behind content ≡ None
GivesLength content (Err _) = ⊥

-- ---- taking

-- a read failed
abbrev pub has_failed_taking : {T : Type 0} → Result T TakeFault → Bool
has_failed_taking (Ok taken) = false
has_failed_taking (Err (takes.Refused refusal)) = false
has_failed_taking (Err (takes.Truncated got want)) = false
has_failed_taking (Err takes.ReadFault) = true
has_failed_taking (Err takes.Memory) = false

-- a header was taken and is accepted; or the source was at its end; or why there is none
abbrev pub TakesHeader : Options → Inflow → Result (Option Header) TakeFault → Type 0
TakesHeader options r (Ok None) = Takes r.before r.now [] × IsOver r
TakesHeader options r (Ok (Some head)) = (head.size < 2 ^ 16) × Takes r.before r.now (header_bytes head) × (header_refusal options head ≡ None)
TakesHeader options r (Err (takes.Refused refusal)) = (head : Header) × (head.size < 2 ^ 16) × Takes r.before r.now (header_bytes head) × (header_refusal options head ≡ Some refusal)
TakesHeader options r (Err (takes.Truncated got want)) =
    IsOver r × ((bytes : List ℕ) × Takes r.before r.now bytes × (1 ≤ length bytes) × (want ≡ 4) × (length bytes ≡ got) × (got < want))
TakesHeader options r (Err takes.ReadFault) = Rose r.faults_before r.faults_now × ((bytes : List ℕ) × Takes r.before r.now bytes × (length bytes < 4))
TakesHeader options r (Err takes.Memory) = ⊥

-- a packet with its body was taken and is not refused; or the source was at its end; or why there is none, and what was taken of it
abbrev pub TakesPacket : Options → Inflow → Result (Option (Packet × Content)) TakeFault → Type 0
TakesPacket options r (Ok None) = Takes r.before r.now [] × IsOver r
TakesPacket options r (Ok (Some taken)) =
    IsBlockOf options taken.0.head taken.0.block × IsContentOf options taken.0.head taken.0.block taken.1 × (broken_at options taken.0.head taken.0.block ≡ None)
    × ((body : List ℕ) × (body_length taken.0.head taken.0.block ≡ Some (length body)) × Takes r.before r.now (header_bytes taken.0.head ++ taken.0.block ++ body))
TakesPacket options r (Err (takes.Refused refusal)) = (bytes : List ℕ) × Takes r.before r.now bytes × IsRefused options bytes refusal
TakesPacket options r (Err (takes.Truncated got want)) = IsOver r × ((bytes : List ℕ) × Takes r.before r.now bytes × IsTruncated options bytes got want)
TakesPacket options r (Err takes.ReadFault) = Rose r.faults_before r.faults_now × ((bytes : List ℕ) × Takes r.before r.now bytes × IsBegun options bytes)
TakesPacket options r (Err takes.Memory) = (bytes : List ℕ) × Takes r.before r.now bytes × IsSwallowed options bytes

-- ---- answering

-- the asks of a course were followed to its reply, or not to their end
abbrev pub AnswersCourse : (List Asking → ℕ → Type 0) → Option (List ℕ) → Option (List ℕ) → ℕ → Course (List ℕ) → Result Answered ChainFault → Type 0
AnswersCourse led before now moment course (Ok answered) = Follows led before now moment course answered.asks answered.reply
AnswersCourse led before now moment course (Err fault) = Stops led before now moment course fault.done fault.end

-- a reply was made behind its asks, or no memory was left for it
abbrev pub IsAnsweredBy : List Asked → Result (List ℕ) Memory → Result Answered ChainFault → Type 0
IsAnsweredBy asks (Ok reply) result = result ≡ Ok (record { asks = asks; reply = reply })
IsAnsweredBy asks (Err memory) result = result ≡ Err (record { end = chains.Memory; done = asks })

-- the worker died
abbrev pub has_died_chain : Result Answered ChainFault → Bool
has_died_chain (Ok answered) = false
has_died_chain (Err fault) = is_death fault.end

-- a fault that comes before the first ask
abbrev pub fault_before_asks : TakeFault → ServeFault
fault_before_asks (takes.Refused refusal) = fault_of_refusal refusal
fault_before_asks (takes.Truncated got want) = serves.Truncated got want
fault_before_asks takes.ReadFault = serves.ReadFault
fault_before_asks takes.Memory = serves.Memory []

-- a fault that comes behind the asks that were answered
abbrev pub broken_by : ChainEnd → List Asked → ServeFault
broken_by (chains.Died whole) done = serves.Died whole done
broken_by chains.Memory done = serves.Memory done

-- the same of a chain's fault
abbrev pub fault_behind_asks : ChainFault → ServeFault
fault_behind_asks fault = broken_by fault.end fault.done

-- ---- writing

-- a reply was written in its form; or a part of it alone, since a write failed; or nothing, for want of memory; what the packet and its asks were is kept
abbrev pub WritesReply : Form → Packet → ℕ → List Asked → List ℕ → Outflow → Result Served ServeFault → Type 0
WritesReply form packet moment asks reply w (Ok served) =
    (served ≡ record { packet = packet; moment = moment; asks = asks; reply = reply }) × Gives w.before w.now (formed form reply)
WritesReply form packet moment asks reply w (Err (serves.WriteFault done)) =
    (done ≡ asks) × Rose w.faults_before w.faults_now × ((count : ℕ) × (count < length (formed form reply)) × Gives w.before w.now (take count (formed form reply)))
WritesReply form packet moment asks reply w (Err (serves.Memory done)) = (done ≡ asks) × Gives w.before w.now []
WritesReply form packet moment asks reply w (Err _) = ⊥
