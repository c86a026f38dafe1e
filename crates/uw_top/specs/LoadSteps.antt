-- What the parts of a load do.
use Rattle.std.specs.Prelude.{◌≡◌, ◌⊎◌, ℕ, ◌+◌, ◌*◌, ◌<◌, ◌≤◌, ◌^◌, List, [], ◌∷◌, ◌++◌, length, map, slice_get, take, Option, None, Some, option_map, option_and_then, Result, Ok, Err}
use Rattle.uw_outside.specs.Faults.{HasCause, Rose}
use Rattle.uw_outside.specs.Streams.{Gives, Outflow}
use Rattle.uw_model.specs.declared.calls.Answer.{Answer}
use Rattle.uw_model.specs.declared.asks.Asked.{Asked}
use Rattle.uw_model.specs.declared.asks.AskAnswer.{AskAnswer}
use Rattle.uw_model.specs.declared.asks.AskAnswer.TheVariants as ask_answers
use Rattle.uw_model.specs.Asks.{Asking, AsksNothing, of_desk}
use Rattle.uw_chain.specs.declared.faults.ChainEnd.TheVariants as chains
use Rattle.uw_chain.specs.Runs.{Follows, Stops}
use Rattle.uw_ends.specs.declared.ends.RunFault.{RunFault}
use Rattle.uw_ends.specs.declared.ends.RunFault.TheVariants as faults
use Rattle.uw_ends.specs.declared.ends.BadPacket.TheVariants as bad
use Rattle.uw_top.specs.declared.load.Figures.{Figures}
use Rattle.uw_session.specs.declared.answering.Answered.{Answered}
use Rattle.uw_session.specs.declared.faults.ServeFault.{ServeFault}
use Rattle.uw_session.specs.declared.faults.ServeFault.TheVariants as serves
use Rattle.uw_session.specs.Exchange.{IsAccepted, Site, course_of_site, header_refusal}
use Rattle.uw_top.specs.Pipe.{bad_packet_of, has_failed_to_write, unbounded}
use Rattle.uw_top.specs.Load.{figures_text, head_for, next_number, no_figures, packet_for, with_reply}

-- the answer of a command's one ask; a refused command asks nothing
abbrev pub answer_behind : List Asked → Option Answer
answer_behind asked = option_and_then (λ (a : Asked). of_cache a.answer) (slice_get asked 0)
  where
    of_cache : AskAnswer → Option Answer
    of_cache (ask_answers.Cache answer) = Some answer
    of_cache _ = None

-- asks led a desk from one state to another; it is asked nothing of the spool
abbrev pub desk_led : {S : Type 0} → (S → S → List Asking → ℕ → Type 0) → S → S → List Asking → ℕ → Type 0
desk_led leads before after asked writes = leads before after (of_desk asked) writes

-- a packet of a load that was answered: its moment, its asks and its reply
pub record LoadTurn : Type 0 where
  pub moment : ℕ
  pub asked : List Asked
  pub reply : List ℕ

-- the packet that a number makes was answered by its course, whose asks led the desk on
abbrev pub IsLoadTurn : {S : Type 0} → (S → S → List Asking → ℕ → Type 0) → Site → ℕ → S → S → LoadTurn → Type 0
IsLoadTurn leads site x before after t =
    IsAccepted site.options (packet_for t.moment x)
    × Follows (desk_led leads before after) unbounded unbounded t.moment (course_of_site site (packet_for t.moment x)) t.asked t.reply

-- the fault of a load that the fault of a packet is: its block is out of its grammar, or there was no memory
abbrev pub unanswered_by : ServeFault → RunFault
unanswered_by (serves.BadBlock at) = faults.BadPacket (bad.BadBlock at)
unanswered_by _ = faults.Memory

-- the packet that a number makes was answered at a moment; or its header is refused, and nothing was asked; or there was no memory, for what it asks or for something else
abbrev pub AnswersNumber : {S : Type 0} → (S → S → List Asking → ℕ → Type 0) → Site → S → S → ℕ → ℕ → Result Answered RunFault → Type 0
AnswersNumber leads site before after moment x (Ok answered) = IsLoadTurn leads site x before after (record { moment = moment; asked = answered.asks; reply = answered.reply })
AnswersNumber leads site before after moment x (Err (faults.BadPacket packet)) =
    (option_map bad_packet_of (header_refusal site.options (head_for x)) ≡ Some packet) × AsksNothing (desk_led leads before after) unbounded unbounded
AnswersNumber leads site before after moment x (Err faults.Memory) =
    AsksNothing (desk_led leads before after) unbounded unbounded
    ⊎ ((asked : List Asked) × Stops (desk_led leads before after) unbounded unbounded moment (course_of_site site (packet_for moment x)) asked chains.Memory)
AnswersNumber leads site before after moment x (Err _) = ⊥

-- no kind has more replies than there are packets, and no reply is longer than 2^64 bytes
pub record AreCounted (f : Figures) : Type 0 where
  pub value : f.value ≤ f.packets
  pub missing : f.missing ≤ f.packets
  pub ok : f.ok ≤ f.packets
  pub number : f.number ≤ f.packets
  pub other : f.other ≤ f.packets
  pub bytes : f.bytes ≤ f.packets * 2 ^ 64

-- one more packet can be counted
pub record CanCount (f : Figures) : Type 0 where
  pub counted : AreCounted f
  pub more : f.packets + 1 < 2 ^ 64

-- the number of the last packet, one for each moment, behind this number
abbrev pub number_after : ℕ → List ℕ → ℕ
number_after x [] = x
number_after x (moment ∷ moments) = number_after (next_number x) moments

-- the moments of the packets that were answered
abbrev pub load_moments : List LoadTurn → List ℕ
load_moments turns = map (λ (t : LoadTurn). t.moment) turns

-- the figures of packets that were answered, behind these
abbrev pub figures_by : Figures → List LoadTurn → Figures
figures_by f [] = f
figures_by f (t ∷ turns) = figures_by (with_reply f (answer_behind t.asked) t.reply) turns

-- the packets behind a number were answered, one for each turn, and led from one state of the desk to another
abbrev pub LoadLeads : {S : Type 0} → (S → S → List Asking → ℕ → Type 0) → Site → ℕ → S → List LoadTurn → S → Type 0
LoadLeads leads site x state [] after = after ≡ state
LoadLeads {S} leads site x state (t ∷ turns) after =
    (middle : S) × IsLoadTurn leads site (next_number x) state middle t × LoadLeads leads site (next_number x) middle turns after

-- the packets of a load answered so far: the number of the last, and the state of the desk and the figures after them
pub record IsLoaded {S : Type 0} (leads : S → S → List Asking → ℕ → Type 0) (site : Site) (first number : ℕ) (start held : S) (found : Figures) (gave : List ℕ → Type 0)
    (served : ℕ) : Type 0 where
  pub turns : List LoadTurn
  pub passed : LoadLeads leads site first start turns held
  pub told : gave (load_moments turns)
  pub last : number ≡ number_after first (load_moments turns)
  pub figures : found ≡ figures_by no_figures turns
  pub count : length turns ≡ served

-- why a load over a desk ended, behind the packets that were answered: the figures were written, or a part of them; or the next packet was the last, and nothing was written
abbrev pub LoadStops : {S : Type 0} → (S → S → List Asking → ℕ → Type 0) → Site → (first count : ℕ) → List LoadTurn → (behind last : S) → Outflow → (late part : List ℕ)
    → Option RunFault → Type 0
LoadStops leads site first count turns behind last snk late part None =
    (length turns ≡ count) × (late ≡ []) × (part ≡ figures_text (figures_by no_figures turns)) × (last ≡ behind)
LoadStops leads site first count turns behind last snk late part (Some faults.WriteFault) =
    Rose snk.faults_before snk.faults_now × (length turns ≡ count) × (late ≡ [])
    × ((n : ℕ) × (n < length (figures_text (figures_by no_figures turns))) × (part ≡ take n (figures_text (figures_by no_figures turns)))) × (last ≡ behind)
LoadStops leads site first count turns behind last snk late part (Some (faults.BadPacket packet)) =
    (length turns < count) × (part ≡ [])
    × ((moment : ℕ) × (late ≡ moment ∷ []) × AnswersNumber leads site behind last moment (next_number (number_after first (load_moments turns))) (Err (faults.BadPacket packet)))
LoadStops leads site first count turns behind last snk late part (Some faults.Memory) =
    (part ≡ [])
    × (((late ≡ []) × (last ≡ behind))
    ⊎ ((moment : ℕ) × (late ≡ moment ∷ []) × AnswersNumber leads site behind last moment (next_number (number_after first (load_moments turns))) (Err faults.Memory)))
LoadStops leads site first count turns behind last snk late part (Some _) = ⊥

-- what a load over a desk wrote into its sink and was told by its clock, and how it ended, from one state of the desk to another
pub record LoadOver {S : Type 0} (leads : S → S → List Asking → ℕ → Type 0) (site : Site) (first count : ℕ) (start last : S) (snk : Outflow) (gave : List ℕ → Type 0)
    (fault : Option RunFault) : Type 0 where
  -- the packets that were answered, and the state behind them
  pub turns : List LoadTurn
  pub behind : S
  pub late : List ℕ
  pub part : List ℕ
  pub passed : LoadLeads leads site first start turns behind
  pub few : length turns ≤ count
  pub told : gave (load_moments turns ++ late)
  pub written : Gives snk.before snk.now part
  -- a failed write is told
  pub writes : HasCause snk.faults_before snk.faults_now (has_failed_to_write fault)
  pub ending : LoadStops leads site first count turns behind last snk late part fault

-- a text was written, or a write failed after so many bytes of it, or there was no memory for it
abbrev pub WritesText : List ℕ → Outflow → Option RunFault → Type 0
WritesText text w None = Gives w.before w.now text
WritesText text w (Some faults.WriteFault) = Rose w.faults_before w.faults_now × ((n : ℕ) × (n < length text) × Gives w.before w.now (take n text))
WritesText text w (Some faults.Memory) = Gives w.before w.now []
WritesText text w (Some _) = ⊥
