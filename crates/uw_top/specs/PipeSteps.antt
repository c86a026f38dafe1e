-- What the parts of a turn of `pipe` do.
use Rattle.std.specs.Prelude.{◌≡◌, ℕ, ◌<◌, Bool, true, false, List, [], ◌∷◌, ◌++◌, length, map, take, Option, None, Some, Result, Ok, Err}
use Rattle.uw_outside.specs.Faults.{Rose}
use Rattle.uw_outside.specs.Streams.{Inflow, Outflow, Takes, Gives}
use Rattle.uw_packet.specs.Reads.{IsOver}
use Rattle.uw_model.specs.Asks.{Asking}
use Rattle.uw_ends.specs.declared.ends.Brief.{Brief}
use Rattle.uw_ends.specs.declared.ends.RunFault.{RunFault}
use Rattle.uw_ends.specs.declared.ends.RunFault.TheVariants as faults
use Rattle.uw_session.specs.declared.faults.ServeFault.{ServeFault}
use Rattle.uw_session.specs.declared.faults.ServeFault.TheVariants as serves
use Rattle.uw_session.specs.declared.faults.Refusal.TheVariants as refusals
use Rattle.uw_session.specs.Exchange.{Site, exchange_bytes}
use Rattle.uw_top.specs.declared.pipe.Stop.{Stop}
use Rattle.uw_top.specs.declared.pipe.Stop.TheVariants as stops
use Rattle.uw_top.specs.Pipe.{EndsBy, IsTurn, LeavesAllowed, TurnsLead, Turn, asks_of_turn, bad_packet_of, brief_of, bytes_of, death_byte, frame_of_end, frames_of, moments_of}

-- what a request's fault means for a run
abbrev pub stop_of_serving : ServeFault → Stop
stop_of_serving serves.Nothing = stops.AtEnd
stop_of_serving (serves.Truncated got want) = stops.ByFault (faults.Truncated got want)
stop_of_serving (serves.TooBig size limit) = stops.ByFault (faults.BadPacket (bad_packet_of (refusals.TooBig size limit)))
stop_of_serving (serves.NoModifier m1 m2) = stops.ByFault (faults.BadPacket (bad_packet_of (refusals.NoModifier m1 m2)))
stop_of_serving (serves.BadBlock at) = stops.ByFault (faults.BadPacket (bad_packet_of (refusals.BadBlock at)))
stop_of_serving serves.BadLength = stops.ByFault (faults.BadPacket (bad_packet_of refusals.BadLength))
stop_of_serving serves.ReadFault = stops.ByFault faults.ReadFault
stop_of_serving (serves.Died whole done) = stops.Dead whole
stop_of_serving (serves.WriteFault done) = stops.ByFault faults.WriteFault
stop_of_serving (serves.Memory done) = stops.ByFault faults.Memory

-- a turn that was the last: what it took, wrote and was told, and why; the life allowed this much before it, and this much at the end
pub record IsLast (led : List Asking → ℕ → Type 0) (site : Site) (allowed still : Option (List ℕ)) (src : Inflow) (snk : Outflow) (gave : List ℕ → Type 0)
    (fault : Option RunFault) : Type 0 where
  pub moment : ℕ
  pub rest : List ℕ
  pub part : List ℕ
  pub read : Takes src.before src.now rest
  pub written : Gives snk.before snk.now part
  pub moments : gave (moment ∷ [])
  pub ending : EndsBy led site (record { src = src; snk = snk; allowed = allowed; still = still; count = 0; rest = rest; part = part; late = moment ∷ [] }) fault

-- a turn that served a packet, or in which the worker died; the life allowed this much before it, and this much behind it
pub record Goes (led : List Asking → ℕ → Type 0) (site : Site) (allowed still : Option (List ℕ)) (told told_now : List Brief) (src : Inflow) (snk : Outflow)
    (gave : List ℕ → Type 0) : Type 0 where
  pub turn : Turn
  pub is : IsTurn site turn
  pub asks : led (asks_of_turn turn) turn.writes
  pub allows : LeavesAllowed turn.end allowed turn.writes still
  pub read : Takes src.before src.now (exchange_bytes turn.packet)
  pub written : Gives snk.before snk.now (frame_of_end turn.end)
  pub moments : gave (turn.packet.moment ∷ [])
  pub briefs : told_now ≡ told ++ brief_of turn ∷ []

-- the fault of a turn, if there is one
abbrev pub fault_of_turn : Result Bool RunFault → Option RunFault
fault_of_turn (Ok served) = None
fault_of_turn (Err fault) = Some fault

-- a turn served a packet, or found the source at its end, or was the last by a fault
abbrev pub Turns : (List Asking → ℕ → Type 0) → Site → (allowed still : Option (List ℕ)) → (told told_now : List Brief) → Inflow → Outflow → (List ℕ → Type 0)
    → Result Bool RunFault → Type 0
Turns led site allowed still told told_now src snk gave (Ok true) = Goes led site allowed still told told_now src snk gave
Turns led site allowed still told told_now src snk gave (Ok false) = (told_now ≡ told) × IsLast led site allowed still src snk gave None
Turns led site allowed still told told_now src snk gave (Err fault) = (told_now ≡ told) × IsLast led site allowed still src snk gave (Some fault)

-- the frame of a death, which counts or not
abbrev pub death_frame : Bool → List ℕ
death_frame whole = 255 ∷ 255 ∷ 255 ∷ 255 ∷ death_byte (Some whole) ∷ []

-- the frame of a death was written, or only a part of it
abbrev pub TellsDeath : Bool → Outflow → Option RunFault → Type 0
TellsDeath whole snk None = Gives snk.before snk.now (death_frame whole)
TellsDeath whole snk (Some faults.WriteFault) =
    Rose snk.faults_before snk.faults_now × ((n : ℕ) × (n < length (death_frame whole)) × Gives snk.before snk.now (take n (death_frame whole)))
TellsDeath whole snk (Some _) = ⊥

-- the packets served so far: what was taken, written and told for them, the state of the desk after them, and what the life allowed at first and allows now
pub record SoFar {S : Type 0} (leads : S → S → List Asking → ℕ → Type 0) (start : S) (allowed : Option (List ℕ)) (site : Site) (held : S) (left : Option (List ℕ))
    (told : List Brief) (before now taken taken_now : Option (List ℕ)) (gave : List ℕ → Type 0) (served : ℕ) : Type 0 where
  pub turns : List Turn
  pub passed : TurnsLead leads site start allowed turns held left
  pub read : Takes before now (bytes_of turns)
  pub written : Gives taken taken_now (frames_of turns)
  pub moments : gave (moments_of turns)
  pub briefs : told ≡ map brief_of turns
  pub count : length turns ≡ served

-- one further byte was looked for, behind the last packet that a run may have
abbrev pub LooksFurther : Inflow → Option RunFault → Type 0
LooksFurther r None = Takes r.before r.now [] × IsOver r
LooksFurther r (Some faults.TooMany) = (byte : ℕ) × Takes r.before r.now (byte ∷ [])
LooksFurther r (Some faults.ReadFault) = Takes r.before r.now [] × Rose r.faults_before r.faults_now
LooksFurther r (Some _) = ⊥
