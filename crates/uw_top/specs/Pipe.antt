-- The machine of `pipe`: packet after packet, each answered by its frame, up to the end of the input or the first fault.
use Rattle.std.specs.Prelude.{◌≡◌, ℕ, ◌<◌, ◌≤◌, ◌⊎◌, Bool, true, false, List, [], ◌∷◌, ◌++◌, length, take, map, Option, None, Some, IsSome, option_map}
use Rattle.std.specs.List.{flat_map}
use Rattle.uw_outside.specs.Faults.{HasCause, Rose}
use Rattle.uw_outside.specs.Lives.{Spends}
use Rattle.uw_outside.specs.Streams.{Inflow, Outflow, Takes, Gives}
use Rattle.uw_packet.specs.Reads.{IsOver}
use Rattle.uw_model.specs.declared.asks.AskAnswer.{AskAnswer}
use Rattle.uw_model.specs.declared.asks.Asked.{Asked}
use Rattle.uw_model.specs.Asks.{AskEnd, Asking, AsksNothing, answered, died_absent, died_whole, no_memory, answered_at, is_of_desk}
use Rattle.uw_keeper.specs.Keeping.{Keeping}
use Rattle.uw_model.specs.Lists.{Lists, LeadsLists, empty_lists}
use Rattle.uw_chain.specs.Courses.{Course, Unfolds, asking, ended}
use Rattle.uw_chain.specs.declared.faults.ChainEnd.TheVariants as chains
use Rattle.uw_chain.specs.Runs.{Stops}
use Rattle.uw_chain.specs.Spooling.{Keeps, both_led}
use Rattle.uw_ends.specs.declared.ends.Brief.{Brief}
use Rattle.uw_ends.specs.declared.ends.RunFault.{RunFault}
use Rattle.uw_ends.specs.declared.ends.RunFault.TheVariants as faults
use Rattle.uw_ends.specs.declared.ends.BadPacket.{BadPacket}
use Rattle.uw_ends.specs.declared.ends.BadPacket.TheVariants as bad
use Rattle.uw_conf.specs.declared.conf.Options.{Options}
use Rattle.uw_session.specs.declared.faults.Refusal.{Refusal}
use Rattle.uw_session.specs.declared.faults.Refusal.TheVariants as refusals
use Rattle.uw_session.specs.Exchange.{Exchange, IsAccepted, Site, course_of_site, exchange_bytes, frame}
use Rattle.uw_session.specs.Serving.{IsBegun, IsRefused, IsSwallowed, IsTruncated}

-- the most packets of a run
abbrev pub most_packets : ℕ
most_packets = 1000000

-- ---- turns

-- how a turn ended: its reply was told; or its worker died in an ask, which ended so
pub data TurnEnd : Type 0 where
  replied_by : List ℕ → TurnEnd
  died_in : Asking → TurnEnd

-- a packet that was served in its turn: its asks that were answered, how it ended, and the word writes that were made for it
pub record Turn : Type 0 where
  pub packet : Exchange
  pub asked : List Asked
  pub end : TurnEnd
  pub writes : ℕ

-- an ask in which a worker died counts where it is whole
abbrev pub is_whole_death : AskEnd → Option Bool
is_whole_death (answered answer) = None
is_whole_death (died_whole answer) = Some true
is_whole_death died_absent = Some false
is_whole_death no_memory = None

-- the asks of a turn, with the one in which its worker died
abbrev pub asks_of_turn : Turn → List Asking
asks_of_turn t = answered_at t.packet.moment t.asked ++ last_of t.end
  where
    last_of : TurnEnd → List Asking
    last_of (replied_by reply) = []
    last_of (died_in ask) = ask ∷ []

-- whether the ask in which a worker died counts, if it died
abbrev pub death_of : TurnEnd → Option Bool
death_of (replied_by reply) = None
death_of (died_in ask) = is_whole_death ask.end

-- the last byte of the frame of a death: 1 where the ask counts, else 0
abbrev pub death_byte : Option Bool → ℕ
death_byte (Some true) = 1
death_byte _ = 0

-- the frame of a turn: its reply behind its length; or that its worker died
abbrev pub frame_of_end : TurnEnd → List ℕ
frame_of_end (replied_by reply) = frame reply
frame_of_end (died_in ask) = 255 ∷ 255 ∷ 255 ∷ 255 ∷ death_byte (is_whole_death ask.end) ∷ []

-- behind these asks of a course stands the end of a turn: its reply; or the next ask, which is one of a desk, and in which the worker died
abbrev pub EndsCourse : Course (List ℕ) → ℕ → List Asked → TurnEnd → Type 0
EndsCourse course moment asked (replied_by reply) = Unfolds course asked (ended reply)
EndsCourse course moment asked (died_in ask) =
    (ask.moment ≡ moment) × IsSome (is_whole_death ask.end) × (is_of_desk ask.ask ≡ true) × ((more : AskAnswer → Course (List ℕ)) × Unfolds course asked (asking ask.ask more))

-- a turn of a site: its packet is whole, and its asks are the next ones of the packet, each after the answers before it, up to its end
pub record IsTurn (site : Site) (t : Turn) : Type 0 where
  pub whole : IsAccepted site.options t.packet
  pub course : EndsCourse (course_of_site site t.packet) t.packet.moment t.asked t.end

-- what a turn leaves of a worker's allowances: its word writes are counted; behind a death, which came in place of the next word write, the next allowance begins
abbrev pub LeavesAllowed : TurnEnd → Option (List ℕ) → ℕ → Option (List ℕ) → Type 0
LeavesAllowed (replied_by reply) before writes after = Spends before after writes
LeavesAllowed (died_in ask) before writes after = before ≡ option_map (λ rest. writes ∷ rest) after

-- turns led from a state to another, where `leads` says which asks lead from which state to which, and left so much of a worker's allowances
abbrev pub TurnsLead : {S : Type 0} → (S → S → List Asking → ℕ → Type 0) → Site → S → Option (List ℕ) → List Turn → S → Option (List ℕ) → Type 0
TurnsLead leads site state allowed [] after left = (after ≡ state) × (left ≡ allowed)
TurnsLead {S} leads site state allowed (t ∷ turns) after left =
    IsTurn site t
    × ((middle : S) × (still : Option (List ℕ)) × leads state middle (asks_of_turn t) t.writes × LeavesAllowed t.end allowed t.writes still × TurnsLead leads site middle still turns after left)

-- the allowances of a worker that never dies
abbrev pub unbounded : Option (List ℕ)
unbounded = Some []

-- which asks lead plain lists from which to which, whatever the number of word writes
abbrev pub list_leads : Lists → Lists → List Asking → ℕ → Type 0
list_leads before now asked writes = LeadsLists before asked now

-- the plain lists of a site before its first packet: empty caches, and areas of zero bytes
abbrev pub first_lists : Options → Lists
first_lists options = empty_lists options.caches options.areas

-- which asks lead a desk and a keeper together, from a state of both to another: those of a desk the one, and those of the spool the other
abbrev pub both_lead : {S : Type 0} → (S → S → List Asking → ℕ → Type 0) → S × Keeping → S × Keeping → List Asking → ℕ → Type 0
both_lead leads before now asked writes = both_led (leads before.0 now.0) (Keeps before.1 now.1) asked writes

-- the bytes of turns as they came
abbrev pub bytes_of : List Turn → List ℕ
bytes_of turns = flat_map (λ (t : Turn). exchange_bytes t.packet) turns

-- the frames of turns
abbrev pub frames_of : List Turn → List ℕ
frames_of turns = flat_map (λ (t : Turn). frame_of_end t.end) turns

-- the moments of turns
abbrev pub moments_of : List Turn → List ℕ
moments_of turns = map (λ (t : Turn). t.packet.moment) turns

-- a brief says when its packet was served, and whether its last ask counts where its worker died
abbrev pub brief_of : Turn → Brief
brief_of t = record { moment = t.packet.moment; died = death_of t.end }

-- ---- the end of a run

-- the fault of a run that a refused packet is
abbrev pub bad_packet_of : Refusal → BadPacket
bad_packet_of (refusals.TooBig size limit) = bad.TooBig size limit
bad_packet_of (refusals.NoModifier m1 m2) = bad.NoModifier m1 m2
bad_packet_of (refusals.BadBlock at) = bad.BadBlock at
bad_packet_of refusals.BadLength = bad.BadLength

-- how the turns of a run came to their end
pub record Ending : Type 0 where
  -- the source and the sink in this run
  pub src : Inflow
  pub snk : Outflow
  -- what the worker's life allowed behind the turns, and at the end
  pub allowed : Option (List ℕ)
  pub still : Option (List ℕ)
  -- how many packets were served
  pub count : ℕ
  -- what was read behind them, what was written behind their frames, and the moments given behind theirs
  pub rest : List ℕ
  pub part : List ℕ
  pub late : List ℕ

-- fewer packets than the most were served, and the clock was asked once more; nothing was written behind their frames
abbrev pub IsBelowMost : Ending → Type 0
IsBelowMost e = (e.count < most_packets) × (length e.late ≡ 1) × (e.part ≡ [])

-- the most packets were served, and the clock was not asked again; nothing was written behind their frames
abbrev pub IsAtMost : Ending → Type 0
IsAtMost e = (e.count ≡ most_packets) × (e.late ≡ []) × (e.part ≡ [])

-- nothing was asked behind the turns, and no word was written
abbrev pub HasAskedNothing : (List Asking → ℕ → Type 0) → Ending → Type 0
HasAskedNothing led e = AsksNothing led e.allowed e.still

-- nothing was read, written or asked, and the clock was not asked either
abbrev pub IsUnbegun : (List Asking → ℕ → Type 0) → Ending → Type 0
IsUnbegun led e = (e.count ≡ 0) × (e.rest ≡ []) × (e.part ≡ []) × (e.late ≡ []) × HasAskedNothing led e

-- a packet was served in its turn, and only a part of its frame could be written; its asks led on from the last state of the desk
pub record IsCutTurn (led : List Asking → ℕ → Type 0) (site : Site) (e : Ending) : Type 0 where
  pub turn : Turn
  pub is : IsTurn site turn
  pub asks : led (asks_of_turn turn) turn.writes
  pub allows : LeavesAllowed turn.end e.allowed turn.writes e.still
  pub moment : e.late ≡ turn.packet.moment ∷ []
  pub read : e.rest ≡ exchange_bytes turn.packet
  pub written : (n : ℕ) × (n < length (frame_of_end turn.end)) × (e.part ≡ take n (frame_of_end turn.end))

-- a packet was taken whole at the moment that the clock gave last, and behind the asks of it that were answered there was no memory
pub record IsStopped (led : List Asking → ℕ → Type 0) (site : Site) (e : Ending) : Type 0 where
  pub packet : Exchange
  pub is : IsAccepted site.options packet
  pub moment : e.late ≡ packet.moment ∷ []
  pub read : e.rest ≡ exchange_bytes packet
  pub asked : List Asked
  pub stops : Stops led e.allowed e.still packet.moment (course_of_site site packet) asked chains.Memory

-- why a run ended, where `led` says which asks lead on from the last state of the desk
abbrev pub EndsBy : (List Asking → ℕ → Type 0) → Site → Ending → Option RunFault → Type 0
EndsBy led site e None = (e.rest ≡ []) × IsOver e.src × (IsBelowMost e ⊎ IsAtMost e) × HasAskedNothing led e
EndsBy led site e (Some faults.ReadFault) =
    Rose e.src.faults_before e.src.faults_now × ((IsBelowMost e × IsBegun site.options e.rest) ⊎ (IsAtMost e × (e.rest ≡ []))) × HasAskedNothing led e
EndsBy led site e (Some faults.WriteFault) = Rose e.snk.faults_before e.snk.faults_now × (e.count < most_packets) × IsCutTurn led site e
EndsBy led site e (Some (faults.Truncated got want)) = IsTruncated site.options e.rest got want × IsOver e.src × IsBelowMost e × HasAskedNothing led e
EndsBy led site e (Some (faults.BadPacket packet)) =
    ((refusal : Refusal) × (packet ≡ bad_packet_of refusal) × IsRefused site.options e.rest refusal) × IsBelowMost e × HasAskedNothing led e
EndsBy led site e (Some faults.Memory) = IsUnbegun led e ⊎ (IsBelowMost e × ((IsSwallowed site.options e.rest × HasAskedNothing led e) ⊎ IsStopped led site e))
EndsBy led site e (Some faults.TooMany) = (length e.rest ≡ 1) × IsAtMost e × HasAskedNothing led e
EndsBy led site e (Some _) = ⊥

-- a run ended by a failed read
abbrev pub has_failed_to_read : Option RunFault → Bool
has_failed_to_read (Some faults.ReadFault) = true
has_failed_to_read _ = false

-- a run ended by a failed write
abbrev pub has_failed_to_write : Option RunFault → Bool
has_failed_to_write (Some faults.WriteFault) = true
has_failed_to_write _ = false

-- what a run took from its source, wrote into its sink and was told by its clock, and how it ended, where `leads` says which asks lead from which state of the desk
-- and the keeper to which, and a run goes from one state to another
pub record PipeRun {S : Type 0} (leads : S → S → List Asking → ℕ → Type 0) (start last : S) (allowed : Option (List ℕ)) (site : Site) (src : Inflow) (snk : Outflow)
    (gave : List ℕ → Type 0) (told : List Brief) (fault : Option RunFault) : Type 0 where
  -- the packets that were served, and the state behind them
  pub turns : List Turn
  pub behind : S
  pub left : Option (List ℕ)
  -- what the worker's life allows at the end
  pub still : Option (List ℕ)
  pub rest : List ℕ
  pub part : List ℕ
  pub late : List ℕ
  pub passed : TurnsLead leads site start allowed turns behind left
  pub few : length turns ≤ most_packets
  pub read : Takes src.before src.now (bytes_of turns ++ rest)
  pub written : Gives snk.before snk.now (frames_of turns ++ part)
  pub moments : gave (moments_of turns ++ late)
  pub briefs : told ≡ map brief_of turns
  -- a failed read or write is told: no run that had one ends otherwise
  pub reads : HasCause src.faults_before src.faults_now (has_failed_to_read fault)
  pub writes : HasCause snk.faults_before snk.faults_now (has_failed_to_write fault)
  pub ending : EndsBy (leads behind last) site (record { src = src; snk = snk; allowed = left; still = still; count = length turns; rest = rest; part = part; late = late }) fault
