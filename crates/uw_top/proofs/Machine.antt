-- The turns of a run, one after the other.
use Rattle.std.proofs.Common.{◌≡◌, ℕ, ◌+◌, ◌<◌, ◌≤◌, Bool, false, true, List, [], ◌∷◌, ◌++◌, length, Option, None, Some, refl, sym, ap, inl, inr, ◌∙◌, arith, subst}
use Rattle.std.proofs.lemmas.List.{append-nil, length-append, map-append}
use Rattle.std.proofs.lemmas.Grind.{flat_map-append}
use Rattle.uw_outside.specs.Faults.{HasCause, Rose}
use Rattle.uw_outside.proofs.Causes.{HasCause-none, HasCause-then}
use Rattle.uw_outside.specs.Lives.{Spends}
use Rattle.uw_outside.specs.Streams.{Takes}
use Rattle.uw_outside.proofs.Lives.{Spends-none}
use Rattle.uw_outside.proofs.Streams.{Takes-none, Takes-append, Gives-none, Gives-append}
use Rattle.uw_model.specs.Asks.{Asking}
use Rattle.uw_ends.specs.declared.ends.Brief.{Brief}
use Rattle.uw_ends.specs.declared.ends.RunFault.{RunFault}
use Rattle.uw_ends.specs.declared.ends.RunFault.TheVariants as faults
use Rattle.uw_session.specs.Exchange.{Site, exchange_bytes}
use Rattle.uw_top.specs.Pipe.{EndsBy, Ending, IsBelowMost, IsTurn, LeavesAllowed, TurnsLead, PipeRun, Turn, asks_of_turn, brief_of, bytes_of, frame_of_end, frames_of, has_failed_to_read, has_failed_to_write, moments_of, most_packets}
use Rattle.uw_top.specs.PipeSteps.{SoFar, Goes, IsLast, LooksFurther}

-- a count that rose since a moment rose since every earlier one
pub rose_since : (before middle now : ℕ) → before ≤ middle → Rose middle now → Rose before now
rose_since before middle now later rose = omega arith

-- turns and one more
pub TurnsLead-push : {S : Type 0} → (leads : S → S → List Asking → ℕ → Type 0) (site : Site) (state : S) (allowed : Option (List ℕ)) (turns : List Turn) (t : Turn) (middle : S)
    (still : Option (List ℕ)) (after : S) (left : Option (List ℕ))
    → TurnsLead leads site state allowed turns middle still → IsTurn site t → leads middle after (asks_of_turn t) t.writes → LeavesAllowed t.end still t.writes left
    → TurnsLead leads site state allowed (turns ++ t ∷ []) after left
TurnsLead-push {S = S} leads site state allowed [] t middle still after left passed is led leaves =
    let Leading : S → Type 0 = λ from. leads from after (asks_of_turn t) t.writes in
    let Leaving : Option (List ℕ) → Type 0 = λ a. LeavesAllowed t.end a t.writes left in
    (is, (after, left, subst Leading passed.0 led, subst Leaving passed.1 leaves, (refl, refl)))
TurnsLead-push leads site state allowed (u ∷ turns) t middle still after left passed is led leaves =
    (passed.0, (passed.1.0, passed.1.1, passed.1.2, passed.1.3, TurnsLead-push leads site passed.1.0 passed.1.1 turns t middle still after left passed.1.4 is led leaves))

-- no turn yet
pub none_yet : {S Clk : Type 0} (gave : Clk → Clk → List ℕ → Type 0) (gave_none : (clock : Clk) → gave clock clock [])
    (leads : S → S → List Asking → ℕ → Type 0) (start : S) (allowed : Option (List ℕ)) (site : Site) (left taken : Option (List ℕ)) (clock : Clk)
    → SoFar leads start allowed site start allowed [] left left taken taken (gave clock clock) 0
none_yet gave gave_none leads start allowed site left taken clock = record {
  turns = [];
  passed = (refl, refl);
  read = Takes-none left;
  written = Gives-none taken;
  moments = gave_none clock;
  briefs = refl;
  count = refl;
}

-- one turn more
pub one_more : {S Clk : Type 0} (gave : Clk → Clk → List ℕ → Type 0)
    (gave_more : (a b c : Clk) (early late : List ℕ) → gave a b early → gave b c late → gave a c (early ++ late))
    (leads : S → S → List Asking → ℕ → Type 0) (start held after : S) (allowed more still : Option (List ℕ)) (site : Site) (told told_now : List Brief)
    (left middle now taken between taken_now : Option (List ℕ)) (clock mid later : Clk) (ended : Bool) (f0 f1 s0 s1 served : ℕ)
    → SoFar leads start allowed site held more told left middle taken between (gave clock mid) served
    → Goes (leads held after) site more still told told_now (record { before = middle; now = now; ended = ended; faults_before = f0; faults_now = f1 })
    (record { before = between; now = taken_now; faults_before = s0; faults_now = s1 }) (gave mid later)
    → SoFar leads start allowed site after still told_now left now taken taken_now (gave clock later) (served + 1)
one_more gave gave_more leads start held after allowed more still site told told_now left middle now taken between taken_now clock mid later ended f0 f1 s0 s1 served s g =
    let ts = s.turns in
    let t = g.turn in
    let bytes : Turn → List ℕ = λ u. exchange_bytes u.packet in
    let frame : Turn → List ℕ = λ u. frame_of_end u.end in
    let whole : bytes_of ts ++ bytes t ≡ bytes_of (ts ++ t ∷ []) = rw (flat_map-append bytes ts (t ∷ [])) (ap (λ b. bytes_of ts ++ b) (sym (append-nil (bytes t)))) in
    let frames : frames_of ts ++ frame t ≡ frames_of (ts ++ t ∷ []) = rw (flat_map-append frame ts (t ∷ [])) (ap (λ b. frames_of ts ++ b) (sym (append-nil (frame t)))) in
    record {
      turns = ts ++ t ∷ [];
      passed = TurnsLead-push leads site start allowed ts t held more after still s.passed g.is g.asks g.allows;
      read = rw (← whole) (Takes-append left middle now (bytes_of ts) (bytes t) s.read g.read);
      written = rw (← frames) (Gives-append taken between taken_now (frames_of ts) (frame t) s.written g.written);
      moments = rw (map-append (λ (u : Turn). u.packet.moment) ts (t ∷ [])) (gave_more clock mid later (moments_of ts) (t.packet.moment ∷ []) s.moments g.moments);
      briefs = g.briefs ∙ (rw (map-append brief_of ts (t ∷ [])) (ap (λ b. b ++ brief_of t ∷ []) s.briefs));
      count = rw (length-append ts (t ∷ [])) (ap (λ n. n + 1) s.count);
    }

-- the end of a run behind so many turns, the source and the sink having been these before them
abbrev pub ending_behind : (left now taken taken_now allowed still : Option (List ℕ)) → Bool → (f0 f2 s0 s2 count : ℕ) → (rest part late : List ℕ) → Ending
ending_behind left now taken taken_now allowed still ended f0 f2 s0 s2 count rest part late = record {
  src = record { before = left; now = now; ended = ended; faults_before = f0; faults_now = f2 };
  snk = record { before = taken; now = taken_now; faults_before = s0; faults_now = s2 };
  allowed = allowed;
  still = still;
  count = count;
  rest = rest;
  part = part;
  late = late;
}

-- a turn that was the last was no one behind the most
below : (left middle now taken between taken_now allowed still : Option (List ℕ)) (ended : Bool) (f0 f1 f2 s0 s1 s2 count : ℕ) (rest part late : List ℕ)
    → count < most_packets → IsBelowMost (ending_behind middle now between taken_now allowed still ended f1 f2 s1 s2 0 rest part late)
    → IsBelowMost (ending_behind left now taken taken_now allowed still ended f0 f2 s0 s2 count rest part late)
below left middle now taken between taken_now allowed still ended f0 f1 f2 s0 s1 s2 count rest part late few e = (few, e.1, e.2)

-- why a turn was the last is why the run ended
ends_later : (led : List Asking → ℕ → Type 0) (site : Site) (left middle now taken between taken_now allowed still : Option (List ℕ)) (ended : Bool) (f0 f1 f2 s0 s1 s2 count : ℕ)
    (rest part late : List ℕ) (fault : Option RunFault)
    → f0 ≤ f1 → s0 ≤ s1 → length late ≡ 1 → count < most_packets
    → EndsBy led site (ending_behind middle now between taken_now allowed still ended f1 f2 s1 s2 0 rest part late) fault
    → EndsBy led site (ending_behind left now taken taken_now allowed still ended f0 f2 s0 s2 count rest part late) fault
ends_later led site left middle now taken between taken_now allowed still ended f0 f1 f2 s0 s1 s2 count rest part late None lf ls one few e =
    (e.0, e.1, elim e.2 [ inl b ↦ inl (few, b.1, b.2) | inr a ↦ absurd (omega (arith, a.0)) ], e.3)
ends_later led site left middle now taken between taken_now allowed still ended f0 f1 f2 s0 s1 s2 count rest part late (Some faults.ReadFault) lf ls one few e =
    (rose_since f0 f1 f2 lf e.0, elim e.1 [ inl b ↦ inl ((few, b.0.1, b.0.2), b.1) | inr a ↦ absurd (omega (arith, a.0.0)) ], e.2)
ends_later led site left middle now taken between taken_now allowed still ended f0 f1 f2 s0 s1 s2 count rest part late (Some faults.WriteFault) lf ls one few e =
    let cut = e.2 in
    (rose_since s0 s1 s2 ls e.0, few, record { turn = cut.turn; is = cut.is; asks = cut.asks; allows = cut.allows; moment = cut.moment; read = cut.read; written = cut.written })
ends_later led site left middle now taken between taken_now allowed still ended f0 f1 f2 s0 s1 s2 count rest part late (Some (faults.Truncated got want)) lf ls one few e =
    (e.0, e.1, (few, e.2.1, e.2.2), e.3)
ends_later led site left middle now taken between taken_now allowed still ended f0 f1 f2 s0 s1 s2 count rest part late (Some (faults.BadPacket packet)) lf ls one few e =
    (e.0, (few, e.1.1, e.1.2), e.2)
ends_later led site left middle now taken between taken_now allowed still ended f0 f1 f2 s0 s1 s2 count rest part late (Some faults.Memory) lf ls one few e = elim e [
  | inl unbegun ↦ absurd (omega (arith, one, ap length unbegun.3))
  | inr below ↦ inr (
    (few, below.0.1, below.0.2),
    elim below.1 [
      | inl before ↦ inl before
      | inr behind ↦ inr (record {
        packet = behind.packet;
        is = behind.is;
        moment = behind.moment;
        read = behind.read;
        asked = behind.asked;
        stops = behind.stops;
      })
    ],
  )
]
ends_later led site left middle now taken between taken_now allowed still ended f0 f1 f2 s0 s1 s2 count rest part late (Some faults.TooMany) lf ls one few e = absurd (omega (arith, e.1.0))
ends_later led site left middle now taken between taken_now allowed still ended f0 f1 f2 s0 s1 s2 count rest part late (Some _) lf ls one few e = absurd e

-- the turns so far, and one that was the last
pub run_ends : {S Clk : Type 0} (gave : Clk → Clk → List ℕ → Type 0)
    (gave_more : (a b c : Clk) (early late : List ℕ) → gave a b early → gave b c late → gave a c (early ++ late))
    (leads : S → S → List Asking → ℕ → Type 0) (start held after : S) (allowed more still : Option (List ℕ)) (site : Site) (told told_now : List Brief)
    (left middle now taken between taken_now : Option (List ℕ)) (clock mid later : Clk)
    (ended : Bool) (f0 f1 f2 s0 s1 s2 served : ℕ) (fault : Option RunFault)
    → f1 ≡ f0 → s1 ≡ s0 → HasCause f1 f2 (has_failed_to_read fault) → HasCause s1 s2 (has_failed_to_write fault) → served < most_packets
    → SoFar leads start allowed site held more told left middle taken between (gave clock mid) served
    → (told_now ≡ told) × IsLast (leads held after) site more still (record { before = middle; now = now; ended = ended; faults_before = f1; faults_now = f2 })
    (record { before = between; now = taken_now; faults_before = s1; faults_now = s2 }) (gave mid later) fault
    → (run : PipeRun leads start after allowed site (record { before = left; now = now; ended = ended; faults_before = f0; faults_now = f2 })
    (record { before = taken; now = taken_now; faults_before = s0; faults_now = s2 }) (gave clock later) told_now fault) × (run.still ≡ still)
run_ends gave gave_more leads start held after allowed more still site told told_now left middle now taken between taken_now clock mid later ended f0 f1 f2 s0 s1 s2 served fault lf ls reads writes few s stopped =
    let few' : length s.turns < most_packets = rw s.count few in
    let t = stopped.1 in (
      record {
        turns = s.turns;
        behind = held;
        left = more;
        still = still;
        rest = t.rest;
        part = t.part;
        late = t.moment ∷ [];
        passed = s.passed;
        few = omega arith;
        read = Takes-append left middle now (bytes_of s.turns) t.rest s.read t.read;
        written = Gives-append taken between taken_now (frames_of s.turns) t.part s.written t.written;
        moments = gave_more clock mid later (moments_of s.turns) (t.moment ∷ []) s.moments t.moments;
        briefs = stopped.0 ∙ s.briefs;
        reads = HasCause-then f0 f1 f2 (has_failed_to_read fault) lf reads;
        writes = HasCause-then s0 s1 s2 (has_failed_to_write fault) ls writes;
        ending = ends_later (leads held after) site left middle now taken between taken_now more still ended f0 f1 f2 s0 s1 s2 (length s.turns) t.rest t.part (t.moment ∷ []) fault (omega (arith, lf)) (omega (arith, ls)) refl few' t.ending;
      },
      refl,
    )

-- all packets of a run were served, and this much was read behind them
full : {S Clk : Type 0} (gave : Clk → Clk → List ℕ → Type 0)
    (leads : S → S → List Asking → ℕ → Type 0) (start held : S) (allowed more : Option (List ℕ)) (site : Site) (told : List Brief)
    (left middle now taken taken_now : Option (List ℕ)) (clock mid : Clk)
    (ended : Bool) (f0 f2 s0 s1 : ℕ) (rest : List ℕ) (fault : Option RunFault) (served : ℕ) → served ≡ most_packets
    → (s : SoFar leads start allowed site held more told left middle taken taken_now (gave clock mid) served)
    → Takes middle now rest → HasCause f0 f2 (has_failed_to_read fault) → HasCause s0 s1 (has_failed_to_write fault)
    → EndsBy (leads held held) site (ending_behind left now taken taken_now more more ended f0 f2 s0 s1 (length s.turns) rest [] []) fault
    → (run : PipeRun leads start held allowed site (record { before = left; now = now; ended = ended; faults_before = f0; faults_now = f2 })
    (record { before = taken; now = taken_now; faults_before = s0; faults_now = s1 }) (gave clock mid) told fault) × (run.still ≡ more)
full gave leads start held allowed more site told left middle now taken taken_now clock mid ended f0 f2 s0 s1 rest fault served all s read reads writes ending = (
  record {
    turns = s.turns;
    behind = held;
    left = more;
    still = more;
    rest = rest;
    part = [];
    late = [];
    passed = s.passed;
    few = omega (arith, s.count);
    read = Takes-append left middle now (bytes_of s.turns) rest s.read read;
    written = rw append-nil s.written;
    moments = rw append-nil s.moments;
    briefs = s.briefs;
    reads = reads;
    writes = writes;
    ending = ending;
  },
  refl,
)

-- all packets of a run were served, and one further byte was looked for
pub run_is_full : {S Clk : Type 0} (gave : Clk → Clk → List ℕ → Type 0)
    (leads : S → S → List Asking → ℕ → Type 0) (start held : S) (allowed more : Option (List ℕ)) (site : Site) (told : List Brief)
    (left middle now taken taken_now : Option (List ℕ)) (clock mid : Clk)
    (ended : Bool) (f0 f1 f2 s0 s1 : ℕ) (fault : Option RunFault) (served : ℕ)
    → f1 ≡ f0 → s1 ≡ s0 → HasCause f1 f2 (has_failed_to_read fault) → served ≡ most_packets → leads held held [] 0 → Spends more more 0
    → SoFar leads start allowed site held more told left middle taken taken_now (gave clock mid) served
    → LooksFurther (record { before = middle; now = now; ended = ended; faults_before = f1; faults_now = f2 }) fault
    → (run : PipeRun leads start held allowed site (record { before = left; now = now; ended = ended; faults_before = f0; faults_now = f2 })
    (record { before = taken; now = taken_now; faults_before = s0; faults_now = s1 }) (gave clock mid) told fault) × (run.still ≡ more)
run_is_full gave leads start held allowed more site told left middle now taken taken_now clock mid ended f0 f1 f2 s0 s1 None served lf ls reads all none spent s t =
    full gave leads start held allowed more site told left middle now taken taken_now clock mid ended f0 f2 s0 s1 [] None served all s t.0
    (HasCause-then f0 f1 f2 false lf reads) (HasCause-none s0 s1 ls)
    (refl, t.1, inr (s.count ∙ all, refl, refl), (none, spent))
run_is_full gave leads start held allowed more site told left middle now taken taken_now clock mid ended f0 f1 f2 s0 s1 (Some faults.TooMany) served lf ls reads all none spent s t =
    full gave leads start held allowed more site told left middle now taken taken_now clock mid ended f0 f2 s0 s1 (t.0 ∷ []) (Some faults.TooMany) served all s t.1
    (HasCause-then f0 f1 f2 false lf reads) (HasCause-none s0 s1 ls)
    (refl, (s.count ∙ all, refl, refl), (none, spent))
run_is_full gave leads start held allowed more site told left middle now taken taken_now clock mid ended f0 f1 f2 s0 s1 (Some faults.ReadFault) served lf ls reads all none spent s t =
    full gave leads start held allowed more site told left middle now taken taken_now clock mid ended f0 f2 s0 s1 [] (Some faults.ReadFault) served all s t.0
    (HasCause-then f0 f1 f2 true lf reads) (HasCause-none s0 s1 ls)
    (rose_since f0 f1 f2 (omega (arith, lf)) t.1, inr ((s.count ∙ all, refl, refl), refl), (none, spent))
run_is_full gave leads start held allowed more site told left middle now taken taken_now clock mid ended f0 f1 f2 s0 s1 (Some _) served lf ls reads all none spent s t = absurd t

-- a run that found no memory before its first packet
pub nothing_done : {S Clk : Type 0} (gave : Clk → Clk → List ℕ → Type 0) (gave_none : (clock : Clk) → gave clock clock [])
    (leads : S → S → List Asking → ℕ → Type 0) (start : S) (site : Site) (left taken : Option (List ℕ)) (clock : Clk) (ended : Bool) (f0 s0 : ℕ)
    (allowed : Option (List ℕ)) → leads start start [] 0 → PipeRun leads start start allowed site (record { before = left; now = left; ended = ended; faults_before = f0; faults_now = f0 })
    (record { before = taken; now = taken; faults_before = s0; faults_now = s0 }) (gave clock clock) [] (Some faults.Memory)
nothing_done gave gave_none leads start site left taken clock ended f0 s0 allowed none = record {
  turns = [];
  behind = start;
  left = allowed;
  still = allowed;
  rest = [];
  part = [];
  late = [];
  passed = (refl, refl);
  few = omega arith;
  read = Takes-none left;
  written = Gives-none taken;
  moments = gave_none clock;
  briefs = refl;
  reads = HasCause-none f0 f0 refl;
  writes = HasCause-none s0 s0 refl;
  ending = inl (refl, refl, refl, refl, (none, Spends-none allowed));
}
