-- What serving one request did, by its result (own rule).
use Rattle.std.specs.Prelude.{◌≡◌, ◌⊎◌, ℕ, ◌<◌, ◌≤◌, ◌^◌, Bool, true, false, List, [], ◌++◌, length, take, Option, None, Some, Result, Ok, Err}
use Rattle.uw_outside.specs.Faults.{Rose}
use Rattle.uw_outside.specs.Streams.{Inflow, Outflow, Takes, Gives}
use Rattle.uw_packet.specs.declared.packet.Header.{Header}
use Rattle.uw_packet.specs.Packet.{header_bytes}
use Rattle.uw_packet.specs.Reads.{IsOver}
use Rattle.uw_model.specs.declared.asks.Asked.{Asked}
use Rattle.uw_model.specs.Asks.{AsksNothing, Asking}
use Rattle.uw_chain.specs.declared.faults.ChainEnd.{ChainEnd}
use Rattle.uw_chain.specs.declared.faults.ChainEnd.TheVariants as chains
use Rattle.uw_chain.specs.Runs.{Follows, Stops}
use Rattle.uw_conf.specs.declared.conf.Options.{Options}
use Rattle.uw_session.specs.declared.faults.Form.{Form}
use Rattle.uw_session.specs.declared.faults.Refusal.{Refusal}
use Rattle.uw_session.specs.declared.faults.Refusal.TheVariants as refusals
use Rattle.uw_session.specs.declared.faults.Served.{Served}
use Rattle.uw_session.specs.declared.faults.ServeFault.{ServeFault}
use Rattle.uw_session.specs.declared.faults.ServeFault.TheVariants as serves
use Rattle.uw_session.specs.declared.answering.Answered.{Answered}
use Rattle.uw_session.specs.Exchange.{Exchange, Site, body_length, broken_at, course_of_packet, course_of_site, exchange_bytes, formed, header_refusal, IsAccepted}

-- ---- refusals

-- the fault that a refusal is
abbrev pub fault_of_refusal : Refusal → ServeFault
fault_of_refusal (refusals.TooBig size limit) = serves.TooBig size limit
fault_of_refusal (refusals.NoModifier m1 m2) = serves.NoModifier m1 m2
fault_of_refusal (refusals.BadBlock at) = serves.BadBlock at
fault_of_refusal refusals.BadLength = serves.BadLength

-- ---- what was taken of a packet

-- a header that is not refused, and a block of just its size
pub record IsBlockOf (options : Options) (head : Header) (block : List ℕ) : Type 0 where
  pub accepted : header_refusal options head ≡ None
  pub fits : head.size < 2 ^ 16
  pub size : length block ≡ head.size

-- the bytes that are wanted behind a header and its block, and those that came: of the header; of the block of a header that is not refused; of the body behind a
-- block in its grammar
pub data Part : Type 0 where
  of_header : List ℕ → Part
  of_block : Header → List ℕ → Part
  of_body : Header → List ℕ → List ℕ → Part

-- the bytes that came, with those of the parts before
abbrev pub part_bytes : Part → List ℕ
part_bytes (of_header bytes) = bytes
part_bytes (of_block head bytes) = header_bytes head ++ bytes
part_bytes (of_body head block bytes) = header_bytes head ++ block ++ bytes

-- `got` bytes of a part came, of the `want` that it has, and fewer than that; what stands before the part is not refused
abbrev pub IsCutPart : Options → Part → ℕ → ℕ → Type 0
IsCutPart options (of_header bytes) got want = (want ≡ 4) × (length bytes ≡ got) × (got < want)
IsCutPart options (of_block head bytes) got want = (header_refusal options head ≡ None) × (head.size < 2 ^ 16) × (want ≡ head.size) × (length bytes ≡ got) × (got < want)
IsCutPart options (of_body head block bytes) got want =
    IsBlockOf options head block × (broken_at options head block ≡ None) × (body_length head block ≡ Some want) × (length bytes ≡ got) × (got < want)

-- bytes that a packet may begin with, which is not whole yet
abbrev pub IsBegun : Options → List ℕ → Type 0
IsBegun options bytes = (part : Part) × (got : ℕ) × (want : ℕ) × (bytes ≡ part_bytes part) × IsCutPart options part got want

-- bytes that the end of a source cut, behind at least one byte
abbrev pub IsTruncated : Options → List ℕ → ℕ → ℕ → Type 0
IsTruncated options bytes got want = (1 ≤ length bytes) × ((part : Part) × (bytes ≡ part_bytes part) × IsCutPart options part got want)

-- bytes of a packet that is refused: by its header, by its block, or by the length of its body, and no byte more was taken
abbrev pub IsRefused : Options → List ℕ → Refusal → Type 0
IsRefused options bytes (refusals.BadBlock at) =
    (head : Header) × (block : List ℕ) × IsBlockOf options head block × (bytes ≡ header_bytes head ++ block) × (broken_at options head block ≡ Some at)
IsRefused options bytes refusals.BadLength =
    (head : Header) × (block : List ℕ) × IsBlockOf options head block × (bytes ≡ header_bytes head ++ block) × (broken_at options head block ≡ None) × (body_length head block ≡ None)
IsRefused options bytes refusal = (head : Header) × (head.size < 2 ^ 16) × (bytes ≡ header_bytes head) × (header_refusal options head ≡ Some refusal)

-- what want of memory may take with it: nothing, a header that is not refused, or a packet without its body
abbrev pub IsSwallowed : Options → List ℕ → Type 0
IsSwallowed options bytes =
    (bytes ≡ []) ⊎ ((head : Header) × (head.size < 2 ^ 16) × (bytes ≡ header_bytes head) × (header_refusal options head ≡ None))
    ⊎ ((head : Header) × (block : List ℕ) × IsBlockOf options head block × (bytes ≡ header_bytes head ++ block))

-- ---- results

-- one call over a source, a sink, a desk, a keeper and a life: which asks led the desk and the keeper on, and the life's allowances before and now
pub record Flow : Type 1 where
  pub src : Inflow
  pub snk : Outflow
  pub led : List Asking → ℕ → Type 0
  pub before : Option (List ℕ)
  pub now : Option (List ℕ)

-- nothing was asked, and no word written
abbrev pub IsSilent : Flow → Type 0
IsSilent f = AsksNothing f.led f.before f.now

-- a whole packet was taken, at this moment
abbrev pub TakesWhole : Options → ℕ → Flow → Exchange → Type 0
TakesWhole options moment f x = (x.moment ≡ moment) × IsAccepted options x × Takes f.src.before f.src.now (exchange_bytes x)

-- a packet was refused
abbrev pub Refuses : Options → ℕ → Flow → Refusal → Type 0
Refuses options moment f refusal = IsSilent f × ((bytes : List ℕ) × Takes f.src.before f.src.now bytes × IsRefused options bytes refusal)

-- the asks of a packet that was taken whole were not followed to their end
abbrev pub Breaks : Site → ℕ → Flow → List Asked → ChainEnd → Type 0
Breaks site moment f done end = (x : Exchange) × TakesWhole site.options moment f x × Stops f.led f.before f.now moment (course_of_site site x) done end

-- why a request was not served, but for a failed write: nothing was written
abbrev pub NotServed : Site → ℕ → Flow → ServeFault → Type 0
NotServed site moment f serves.Nothing = IsSilent f × Takes f.src.before f.src.now [] × IsOver f.src
NotServed site moment f (serves.Truncated got want) =
    IsSilent f × IsOver f.src × ((bytes : List ℕ) × Takes f.src.before f.src.now bytes × IsTruncated site.options bytes got want)
NotServed site moment f (serves.TooBig size limit) = Refuses site.options moment f (refusals.TooBig size limit)
NotServed site moment f (serves.NoModifier m1 m2) = Refuses site.options moment f (refusals.NoModifier m1 m2)
NotServed site moment f (serves.BadBlock at) = Refuses site.options moment f (refusals.BadBlock at)
NotServed site moment f serves.BadLength = Refuses site.options moment f refusals.BadLength
NotServed site moment f serves.ReadFault =
    IsSilent f × Rose f.src.faults_before f.src.faults_now × ((bytes : List ℕ) × Takes f.src.before f.src.now bytes × IsBegun site.options bytes)
NotServed site moment f (serves.Died whole done) = Breaks site moment f done (chains.Died whole)
NotServed site moment f (serves.WriteFault done) = ⊥
NotServed site moment f (serves.Memory done) =
    ((done ≡ []) × IsSilent f × ((bytes : List ℕ) × Takes f.src.before f.src.now bytes × IsSwallowed site.options bytes))
    ⊎ Breaks site moment f done chains.Memory

-- the packet that was served, with the body behind it
abbrev pub exchange_of : Served → List ℕ → Exchange
exchange_of served body = record { moment = served.moment; head = served.packet.head; block = served.packet.block; body = body }

-- a request was served: one packet and its body were taken, its asks were followed to the reply, and the reply was written, in its form
pub record IsServed (site : Site) (form : Form) (moment : ℕ) (f : Flow) (served : Served) : Type 0 where
  pub body : List ℕ
  pub taken : TakesWhole site.options moment f (exchange_of served body)
  pub followed : Follows f.led f.before f.now moment (course_of_site site (exchange_of served body)) served.asks served.reply
  pub written : Gives f.snk.before f.snk.now (formed form served.reply)

-- a packet was taken whole and its asks were followed to a reply, of which only a part could be written
pub record IsUnwritten (site : Site) (form : Form) (moment : ℕ) (f : Flow) (done : List Asked) : Type 0 where
  pub packet : Exchange
  pub reply : List ℕ
  pub count : ℕ
  pub taken : TakesWhole site.options moment f packet
  pub followed : Follows f.led f.before f.now moment (course_of_site site packet) done reply
  pub short : count < length (formed form reply)
  pub part : Gives f.snk.before f.snk.now (take count (formed form reply))
  pub rose : Rose f.snk.faults_before f.snk.faults_now

-- what serving one request did
abbrev pub Serves : Site → Form → ℕ → Flow → Result Served ServeFault → Type 0
Serves site form moment f (Ok served) = IsServed site form moment f served
Serves site form moment f (Err (serves.WriteFault done)) = IsUnwritten site form moment f done
Serves site form moment f (Err fault) = Gives f.snk.before f.snk.now [] × NotServed site moment f fault

-- a read failed
abbrev pub is_failed_read : ServeFault → Bool
is_failed_read serves.ReadFault = true
is_failed_read _ = false

-- a write failed
abbrev pub is_failed_write : ServeFault → Bool
is_failed_write (serves.WriteFault done) = true
is_failed_write _ = false

-- a read failed in a request
abbrev pub has_failed_reading : Result Served ServeFault → Bool
has_failed_reading (Ok served) = false
has_failed_reading (Err fault) = is_failed_read fault

-- a write failed in a request
abbrev pub has_failed_writing : Result Served ServeFault → Bool
has_failed_writing (Ok served) = false
has_failed_writing (Err fault) = is_failed_write fault

-- the worker died
abbrev pub is_death_of_worker : ServeFault → Bool
is_death_of_worker (serves.Died whole done) = true
is_death_of_worker _ = false

-- the worker died in a request
abbrev pub has_died_serving : Result Served ServeFault → Bool
has_died_serving (Ok served) = false
has_died_serving (Err fault) = is_death_of_worker fault

-- ---- between reading and writing

-- what answering a packet did whose header is accepted: its asks were followed to its reply, or not to their end; or its block is out of its grammar, and nothing was
-- asked; or there was no memory before the first ask
abbrev pub AnswersPacket : (List Asking → ℕ → Type 0) → Option (List ℕ) → Option (List ℕ) → Site → ℕ → Header → List ℕ → Result Answered ServeFault → Type 0
AnswersPacket led before now site moment head block (Ok answered) =
    (broken_at site.options head block ≡ None) × Follows led before now moment (course_of_packet site moment head block) answered.asks answered.reply
AnswersPacket led before now site moment head block (Err (serves.BadBlock at)) = (broken_at site.options head block ≡ Some at) × AsksNothing led before now
AnswersPacket led before now site moment head block (Err (serves.Died whole done)) =
    (broken_at site.options head block ≡ None) × Stops led before now moment (course_of_packet site moment head block) done (chains.Died whole)
AnswersPacket led before now site moment head block (Err (serves.Memory done)) =
    ((done ≡ []) × AsksNothing led before now)
    ⊎ ((broken_at site.options head block ≡ None) × Stops led before now moment (course_of_packet site moment head block) done chains.Memory)
AnswersPacket led before now site moment head block (Err _) = ⊥

-- the worker died in answering
abbrev pub has_died_answering : Result Answered ServeFault → Bool
has_died_answering (Ok answered) = false
has_died_answering (Err fault) = is_death_of_worker fault
