-- The command `load`: packets that a generator makes, and the figures of their replies (own rule).
use Rattle.std.specs.Prelude.{◌≡◌, ℕ, ◌+◌, ◌*◌, ◌/◌, ◌%◌, ◌^◌, ◌==◌, ◌<◌, ◌≤◌, nat_lt, nat_le, ◌&&◌, if◌then◌else◌, List, [], ◌∷◌, ◌++◌, length, take, codes, Option, None, Some, option_map}
use Rattle.std.specs.List.{AllByRecursion}
use Rattle.std.specs.Fmt.{decimal}
use Rattle.uw_base.specs.declared.variables.Pair.{Pair}
use Rattle.uw_outside.specs.Faults.{HasCause, Rose}
use Rattle.uw_outside.specs.Streams.{Gives}
use Rattle.uw_packet.specs.declared.packet.Header.{Header}
use Rattle.uw_packet.specs.Blocks.{array_of, texts_of_pairs}
use Rattle.uw_model.specs.declared.calls.Answer.{Answer}
use Rattle.uw_model.specs.declared.calls.Answer.TheVariants as answers
use Rattle.uw_model.specs.ListState.{ListState}
use Rattle.uw_model.specs.Caches.{empty_caches}
use Rattle.uw_conf.specs.declared.conf.Options.{Options}
use Rattle.uw_ends.specs.declared.ends.RunFault.{RunFault}
use Rattle.uw_ends.specs.declared.ends.RunFault.TheVariants as faults
use Rattle.uw_top.specs.declared.load.Figures.{Figures}
use Rattle.uw_outside.specs.Streams.{Outflow}
use Rattle.uw_session.specs.Exchange.{Exchange, IsAccepted, header_refusal}
use Rattle.uw_top.specs.Pipe.{bad_packet_of, has_failed_to_write}
use Rattle.uw_top.specs.Replying.{reply_of}

-- the next number of the generator
abbrev pub next_number : ℕ → ℕ
next_number x = (x * 1103515245 + 12345) % 2 ^ 31

-- the command that a number chooses: half of them gets, a quarter updates, an eighth dels and an eighth incs
abbrev pub command_for : ℕ → List ℕ
command_for choice =
    if nat_lt choice 4 then codes "get"
    else (if nat_lt choice 6 then codes "update"
    else (if choice == 6 then codes "del" else codes "inc"))

-- the value of an update is the number in decimal; no other command has one
abbrev pub values_for : ℕ → ℕ → List Pair
values_for choice x = if nat_le 4 choice && nat_lt choice 6 then record { key = codes "value"; value = decimal x } ∷ [] else []

-- the variables of the command block that a number makes, of which one byte chooses the command and another the key
abbrev pub variables_for : ℕ → List Pair
variables_for x =
    record { key = codes "cmd"; value = command_for (x / 65536 % 8) }
    ∷ record { key = codes "key"; value = codes "k" ++ decimal (x / 256 % 256) }
    ∷ values_for (x / 65536 % 8) x

-- the block of the packet that a number makes
abbrev pub block_for : ℕ → List ℕ
block_for x = array_of (texts_of_pairs (variables_for x))

-- the header of the packet that a number makes
abbrev pub head_for : ℕ → Header
head_for x = record { m1 = 111; size = length (block_for x); m2 = 200 }

-- the packet that a number makes, at a moment
abbrev pub packet_for : ℕ → ℕ → Exchange
packet_for moment x = record { moment = moment; head = head_for x; block = block_for x; body = [] }

-- the first packets of a load, one for each moment
abbrev pub packets_from : ℕ → List ℕ → List Exchange
packets_from x [] = []
packets_from x (moment ∷ moments) = packet_for moment (next_number x) ∷ packets_from (next_number x) moments

-- the figures before the first packet
abbrev pub no_figures : Figures
no_figures = record { packets = 0; value = 0; missing = 0; ok = 0; number = 0; other = 0; bytes = 0 }

-- a reply of a kind more
abbrev pub with_kind : Figures → Option Answer → Figures
with_kind f (Some (answers.Value value)) = record f { value = f.value + 1 }
with_kind f (Some answers.Missing) = record f { missing = f.missing + 1 }
with_kind f (Some answers.Done) = record f { ok = f.ok + 1 }
with_kind f (Some (answers.Number number)) = record f { number = f.number + 1 }
with_kind f _ = record f { other = f.other + 1 }

-- a reply more: the answer behind it, and its text
abbrev pub with_reply : Figures → Option Answer → List ℕ → Figures
with_reply f answer text = record (with_kind f answer) { packets = f.packets + 1; bytes = f.bytes + length text }

-- the figures of packets, the caches being these at first
abbrev pub figures_from : Options → List ListState → Figures → List Exchange → Figures
figures_from conf caches f [] = f
figures_from conf caches f (x ∷ xs) =
    figures_from conf (reply_of conf caches x).caches (with_reply f (reply_of conf caches x).answer (reply_of conf caches x).text) xs

-- a line of a name and a number
abbrev pub figure_line : List ℕ → ℕ → List ℕ
figure_line name number = name ++ decimal number ++ 10 ∷ []

-- the seven lines of figures
abbrev pub figures_text : Figures → List ℕ
figures_text f =
    figure_line (codes "packets ") f.packets ++ figure_line (codes "value ") f.value ++ figure_line (codes "missing ") f.missing ++ figure_line (codes "ok ") f.ok
    ++ figure_line (codes "number ") f.number ++ figure_line (codes "other ") f.other ++ figure_line (codes "bytes ") f.bytes

-- the figures of a load's packets over the caches of a configuration, which are empty at first
abbrev pub load_text : Options → ℕ → List ℕ → List ℕ
load_text conf first moments = figures_text (figures_from conf (empty_caches conf.caches) no_figures (packets_from first moments))

-- how a load came to its end
pub record LoadEnding : Type 0 where
  -- its first number, and how many packets it has
  pub first : ℕ
  pub count : ℕ
  pub snk : Outflow
  -- the moments of the packets that were answered, and those given behind them
  pub moments : List ℕ
  pub late : List ℕ
  -- what was written
  pub part : List ℕ

-- why a load ended: the figures were written once all its packets were answered; or a packet is above the limit, and nothing is written
abbrev pub LoadEndsBy : Options → LoadEnding → Option RunFault → Type 0
LoadEndsBy conf e None = (length e.moments ≡ e.count) × (e.late ≡ []) × (e.part ≡ load_text conf e.first e.moments)
LoadEndsBy conf e (Some faults.WriteFault) =
    Rose e.snk.faults_before e.snk.faults_now × (length e.moments ≡ e.count) × (e.late ≡ [])
    × ((n : ℕ) × (n < length (load_text conf e.first e.moments)) × (e.part ≡ take n (load_text conf e.first e.moments)))
LoadEndsBy conf e (Some (faults.BadPacket packet)) =
    (length e.moments < e.count) × (e.part ≡ [])
    × ((moment : ℕ) × (x : Exchange) × (e.late ≡ moment ∷ []) × (packets_from e.first (e.moments ++ e.late) ≡ packets_from e.first e.moments ++ x ∷ []) × (option_map bad_packet_of (header_refusal conf x.head) ≡ Some packet))
LoadEndsBy conf e (Some faults.Memory) = (e.part ≡ []) × (length e.late ≤ 1)
LoadEndsBy conf e (Some _) = ⊥

-- what a load wrote into its sink and was told by its clock, and how it ended
pub record LoadRun (conf : Options) (first count : ℕ) (snk : Outflow) (gave : List ℕ → Type 0) (fault : Option RunFault) : Type 0 where
  pub moments : List ℕ
  pub late : List ℕ
  pub part : List ℕ
  pub answered : AllByRecursion (IsAccepted conf) (packets_from first moments)
  pub few : length moments ≤ count
  pub told : gave (moments ++ late)
  pub written : Gives snk.before snk.now part
  -- a failed write is told
  pub writes : HasCause snk.faults_before snk.faults_now (has_failed_to_write fault)
  pub ending : LoadEndsBy conf (record { first = first; count = count; snk = snk; moments = moments; late = late; part = part }) fault
