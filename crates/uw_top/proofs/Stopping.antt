-- A turn of `pipe`: why it was the last, or what it served, or the death in it.
use Rattle.std.proofs.Common.{◌≡◌, ℕ, ◌+◌, List, [], ◌∷◌, ◌++◌, take, drop, Option, None, Some, option_map, Ok, Err, refl, ap, ap₂, sym, subst, arith, inl, inr, lit<, Bool, true, false, ◌∙◌}
use Rattle.std.proofs.lemmas.Bool.{eqb-true}
use Rattle.uw_outside.specs.Faults.{HasCause, Rose}
use Rattle.uw_outside.specs.Lives.{Spends, is_spent}
use Rattle.uw_outside.specs.Streams.{Inflow, Outflow, Takes, Gives}
use Rattle.uw_outside.proofs.Streams.{Takes-none, Gives-append, Gives-none}
use Rattle.uw_outside.proofs.Lives.{Spends-none}
use Rattle.uw_model.specs.Asks.{Asking, answered_at, died_absent, died_whole}
use Rattle.uw_chain.specs.declared.faults.ChainEnd.TheVariants as chains
use Rattle.uw_chain.specs.Runs.{Stops}
use Rattle.uw_model.specs.declared.asks.Asked.{Asked}
use Rattle.uw_ends.specs.declared.ends.Brief.{Brief}
use Rattle.uw_ends.specs.declared.ends.RunFault.{RunFault}
use Rattle.uw_ends.specs.declared.ends.RunFault.TheVariants as faults
use Rattle.uw_session.specs.declared.faults.Form.TheVariants as forms
use Rattle.uw_session.specs.declared.faults.Refusal.TheVariants as refusals
use Rattle.uw_session.specs.declared.faults.ServeFault.{ServeFault}
use Rattle.uw_session.specs.declared.faults.ServeFault.TheVariants as serves
use Rattle.uw_session.specs.declared.faults.Served.{Served}
use Rattle.uw_session.specs.Exchange.{Exchange, Site, course_of_site, exchange_bytes}
use Rattle.uw_session.specs.Serving.{Breaks, Flow, Serves, exchange_of, is_failed_write}
use Rattle.uw_top.specs.declared.pipe.Stop.{Stop}
use Rattle.uw_top.specs.declared.pipe.Stop.TheVariants as stops
use Rattle.uw_top.specs.Pipe.{EndsBy, IsTurn, LeavesAllowed, bad_packet_of, died_in, is_whole_death, replied_by}
use Rattle.uw_top.specs.PipeSteps.{Goes, IsLast, TellsDeath, death_frame, stop_of_serving}

-- one turn over a source, a sink and a desk, and what the life allowed before it and behind it
abbrev pub flow_of : Inflow → Outflow → (List Asking → ℕ → Type 0) → (allowed still : Option (List ℕ)) → Flow
flow_of src snk led allowed still = record { src = src; snk = snk; led = led; before = allowed; now = still }

-- what a stop of a run says of its fault; a death is none
abbrev pub LastBy : (Option RunFault → Type 0) → Stop → Type 0
LastBy Ends stops.AtEnd = Ends None
LastBy Ends (stops.Dead whole) = Unit {0}
LastBy Ends (stops.ByFault fault) = Ends (Some fault)

-- nothing was written, and the clock was asked once
stopped : (led : List Asking → ℕ → Type 0) (site : Site) (allowed still : Option (List ℕ)) (src : Inflow) (snk : Outflow) (moment : ℕ) (gave : List ℕ → Type 0)
    (bytes : List ℕ) (fault : Option RunFault)
    → gave (moment ∷ []) → Takes src.before src.now bytes → Gives snk.before snk.now []
    → EndsBy led site (record { src = src; snk = snk; allowed = allowed; still = still; count = 0; rest = bytes; part = []; late = moment ∷ [] }) fault
    → IsLast led site allowed still src snk gave fault
stopped led site allowed still src snk moment gave bytes fault told read written ending =
    record { moment = moment; rest = bytes; part = []; read = read; written = written; moments = told; ending = ending }

-- there was no memory before anything was read
pub no_memory : (led : List Asking → ℕ → Type 0) (site : Site) (allowed left taken : Option (List ℕ)) (ended : Bool) (f0 f1 k0 k1 moment : ℕ) (gave : List ℕ → Type 0)
    → gave (moment ∷ []) → led [] 0
    → IsLast led site allowed allowed (record { before = left; now = left; ended = ended; faults_before = f0; faults_now = f1 })
    (record { before = taken; now = taken; faults_before = k0; faults_now = k1 }) gave (Some faults.Memory)
no_memory led site allowed left taken ended f0 f1 k0 k1 moment gave told none =
    stopped led site allowed allowed _ _ moment gave [] (Some faults.Memory) told (Takes-none left) (Gives-none taken)
    (inr ((lit< tt, refl, refl), inl (inl refl, (none, Spends-none allowed))))

-- a request that was not served ended the run
pub not_served : (led : List Asking → ℕ → Type 0) (site : Site) (allowed still : Option (List ℕ)) (src : Inflow) (snk : Outflow) (moment : ℕ) (gave : List ℕ → Type 0)
    (fault : ServeFault) → gave (moment ∷ []) → Serves site forms.Framed moment (flow_of src snk led allowed still) (Err fault)
    → LastBy (λ (end : Option RunFault). IsLast led site allowed still src snk gave end) (stop_of_serving fault)
not_served led site allowed still src snk moment gave serves.Nothing told s =
    stopped led site allowed still src snk moment gave [] None told s.1.1 s.0 (refl, s.1.2, inl (lit< tt, refl, refl), s.1.0)
not_served led site allowed still src snk moment gave (serves.Truncated got want) told s =
    let bytes = s.1.2 in
    stopped led site allowed still src snk moment gave bytes.0 (Some (faults.Truncated got want)) told bytes.1 s.0 (bytes.2, s.1.1, (lit< tt, refl, refl), s.1.0)
not_served led site allowed still src snk moment gave (serves.TooBig size limit) told s =
    let bytes = s.1.1 in
    stopped led site allowed still src snk moment gave bytes.0 (Some (faults.BadPacket (bad_packet_of (refusals.TooBig size limit)))) told bytes.1 s.0
    ((refusals.TooBig size limit, refl, bytes.2), (lit< tt, refl, refl), s.1.0)
not_served led site allowed still src snk moment gave (serves.NoModifier m1 m2) told s =
    let bytes = s.1.1 in
    stopped led site allowed still src snk moment gave bytes.0 (Some (faults.BadPacket (bad_packet_of (refusals.NoModifier m1 m2)))) told bytes.1 s.0
    ((refusals.NoModifier m1 m2, refl, bytes.2), (lit< tt, refl, refl), s.1.0)
not_served led site allowed still src snk moment gave (serves.BadBlock at) told s =
    let bytes = s.1.1 in
    stopped led site allowed still src snk moment gave bytes.0 (Some (faults.BadPacket (bad_packet_of (refusals.BadBlock at)))) told bytes.1 s.0
    ((refusals.BadBlock at, refl, bytes.2), (lit< tt, refl, refl), s.1.0)
not_served led site allowed still src snk moment gave serves.BadLength told s =
    let bytes = s.1.1 in
    stopped led site allowed still src snk moment gave bytes.0 (Some (faults.BadPacket (bad_packet_of refusals.BadLength))) told bytes.1 s.0
    ((refusals.BadLength, refl, bytes.2), (lit< tt, refl, refl), s.1.0)
not_served led site allowed still src snk moment gave serves.ReadFault told s =
    let bytes = s.1.2 in
    stopped led site allowed still src snk moment gave bytes.0 (Some faults.ReadFault) told bytes.1 s.0 (s.1.1, inl ((lit< tt, refl, refl), bytes.2), s.1.0)
not_served led site allowed still src snk moment gave (serves.Died whole done) told s = tt
not_served led site allowed still src snk moment gave (serves.WriteFault done) told s = record {
  moment = moment;
  rest = _;
  part = _;
  read = s.taken.2;
  written = s.part;
  moments = told;
  ending = (
    s.rose,
    lit< tt,
    record {
      turn = record { packet = s.packet; asked = done; end = replied_by s.reply; writes = s.followed.1.0 };
      is = record { whole = s.taken.1; course = s.followed.0 };
      asks = subst (λ (m : ℕ). led (answered_at m done ++ []) s.followed.1.0) (sym s.taken.0) s.followed.1.1;
      allows = s.followed.1.2;
      moment = ap (λ (m : ℕ). m ∷ []) (sym s.taken.0);
      read = refl;
      written = (s.count, s.short, refl);
    },
  );
}
not_served led site allowed still src snk moment gave (serves.Memory done) told s =
    elim s.1 [
      | inl before ↦ stopped led site allowed still src snk moment gave before.2.0 (Some faults.Memory) told before.2.1 s.0 (inr ((lit< tt, refl, refl), inl (before.2.2, before.1)))
      | inr behind ↦ let x = behind.0 in
          let stops : Stops led allowed still x.moment (course_of_site site x) done chains.Memory =
          subst (λ (m : ℕ). Stops led allowed still m (course_of_site site x) done chains.Memory) (sym behind.1.0) behind.2 in
          stopped led site allowed still src snk moment gave _ (Some faults.Memory) told behind.1.2 s.0
          (inr ((lit< tt, refl, refl), inr (record { packet = x; is = behind.1.1; moment = ap (λ (m : ℕ). m ∷ []) (sym behind.1.0); read = refl; asked = done; stops = stops })))
    ]

-- a request that was served
pub served : (led : List Asking → ℕ → Type 0) (site : Site) (allowed still : Option (List ℕ)) (src : Inflow) (snk : Outflow) (moment : ℕ) (gave : List ℕ → Type 0)
    (briefs briefs_now : List Brief) (s : Served)
    → gave (moment ∷ []) → Serves site forms.Framed moment (flow_of src snk led allowed still) (Ok s)
    → briefs_now ≡ briefs ++ record { moment = moment; died = None } ∷ []
    → Goes led site allowed still briefs briefs_now src snk gave
served led site allowed still src snk moment gave briefs briefs_now s told is briefed =
    let packet = exchange_of s is.body in
    let same : s.moment ≡ moment = is.taken.0 in
    record {
      turn = record { packet = packet; asked = s.asks; end = replied_by s.reply; writes = is.followed.1.0 };
      is = record { whole = is.taken.1; course = is.followed.0 };
      asks = subst (λ (m : ℕ). led (answered_at m s.asks ++ []) is.followed.1.0) (sym same) is.followed.1.1;
      allows = is.followed.1.2;
      read = is.taken.2;
      written = is.written;
      moments = subst (λ (m : ℕ). gave (m ∷ [])) (sym same) told;
      briefs = briefed ∙ ap (λ (m : ℕ). briefs ++ record { moment = m; died = None } ∷ []) (sym same);
    }

-- ---- deaths

-- only a death is told as one
death_stopped : (fault : ServeFault) (whole : Bool) → stop_of_serving fault ≡ stops.Dead whole → (done : List Asked) × (fault ≡ serves.Died whole done)
death_stopped serves.Nothing whole is = absurd (cc)
death_stopped (serves.Truncated got want) whole is = absurd (cc)
death_stopped (serves.TooBig size limit) whole is = absurd (cc)
death_stopped (serves.NoModifier m1 m2) whole is = absurd (cc)
death_stopped (serves.BadBlock at) whole is = absurd (cc)
death_stopped serves.BadLength whole is = absurd (cc)
death_stopped serves.ReadFault whole is = absurd (cc)
death_stopped (serves.Died counts done) whole is = let same : counts ≡ whole = cc in (done, ap (λ (w : Bool). serves.Died w done) same)
death_stopped (serves.WriteFault done) whole is = absurd (cc)
death_stopped (serves.Memory done) whole is = absurd (cc)

-- a life that refused a word write is renewed: its next allowance begins
renewed : (before : Option (List ℕ)) (spent : List ℕ) (writes : ℕ) → is_spent spent ≡ true → Spends before (Some spent) writes
    → before ≡ option_map (λ rest. writes ∷ rest) (Some (drop 1 spent))
renewed before [] writes over spends = absurd (cc)
renewed before (first ∷ others) writes over spends =
    let none : first ≡ 0 = eqb-true first 0 over in
    let counted : first + writes ≡ writes = omega (arith, none) in
    spends ∙ ap (λ (n : ℕ). Some (n ∷ others)) counted

-- a packet that was taken whole, and the ask in which its worker died
pub record DeathTurn (led : List Asking → ℕ → Type 0) (site : Site) (allowed still : Option (List ℕ)) (src : Inflow) (moment : ℕ) (whole : Bool) : Type 0 where
  pub packet : Exchange
  pub asked : List Asked
  pub ask : Asking
  pub writes : ℕ
  pub moment_is : packet.moment ≡ moment
  pub is : IsTurn site (record { packet = packet; asked = asked; end = died_in ask; writes = writes })
  pub asks : led (answered_at packet.moment asked ++ ask ∷ []) writes
  pub allows : LeavesAllowed (died_in ask) allowed writes still
  pub read : Takes src.before src.now (exchange_bytes packet)
  pub counts : is_whole_death ask.end ≡ Some whole

-- the ask in which a worker died, by whether it counts
death_turn : (led : List Asking → ℕ → Type 0) (site : Site) (allowed : Option (List ℕ)) (spent : List ℕ) (src : Inflow) (moment : ℕ) (whole : Bool) (done : List Asked)
    → Breaks site moment (flow_of src (record { before = None; now = None; faults_before = 0; faults_now = 0 }) led allowed (Some spent)) done (chains.Died whole)
    → DeathTurn led site allowed (Some (drop 1 spent)) src moment whole
death_turn led site allowed spent src moment true done b =
    let x = b.0 in
    let same = b.1.0 in
    let dies = b.2.1.1 in
    let at : ℕ → Asking = λ m. record { moment = m; ask = dies.0; end = died_whole b.2.1.0 } in
    record {
      packet = x;
      asked = done;
      ask = at x.moment;
      writes = dies.3.0;
      moment_is = same;
      is = record { whole = b.1.1; course = (refl, refl, dies.4, (dies.1, dies.2)) };
      asks = subst (λ (m : ℕ). led (answered_at m done ++ at m ∷ []) dies.3.0) (sym same) dies.3.1;
      allows = renewed allowed spent dies.3.0 b.2.0 dies.3.2;
      read = b.1.2;
      counts = refl;
    }
death_turn led site allowed spent src moment false done b =
    let x = b.0 in
    let same = b.1.0 in
    let dies = b.2.1 in
    let at : ℕ → Asking = λ m. record { moment = m; ask = dies.0; end = died_absent } in
    record {
      packet = x;
      asked = done;
      ask = at x.moment;
      writes = dies.3.0;
      moment_is = same;
      is = record { whole = b.1.1; course = (refl, refl, dies.4, (dies.1, dies.2)) };
      asks = subst (λ (m : ℕ). led (answered_at m done ++ at m ∷ []) dies.3.0) (sym same) dies.3.1;
      allows = renewed allowed spent dies.3.0 b.2.0 dies.3.2;
      read = b.1.2;
      counts = refl;
    }

-- a request in which the worker died
pub died : (led : List Asking → ℕ → Type 0) (site : Site) (allowed : Option (List ℕ)) (spent : List ℕ) (src : Inflow) (snk : Outflow) (moment : ℕ) (whole : Bool)
    (fault : ServeFault) → stop_of_serving fault ≡ stops.Dead whole → Serves site forms.Framed moment (flow_of src snk led allowed (Some spent)) (Err fault)
    → Gives snk.before snk.now [] × DeathTurn led site allowed (Some (drop 1 spent)) src moment whole
died led site allowed spent src snk moment whole fault stops s =
    let is = death_stopped fault whole stops in
    let breaks = subst (λ (f : ServeFault). Serves site forms.Framed moment (flow_of src snk led allowed (Some spent)) (Err f)) is.1 s in
    (breaks.0, death_turn led site allowed spent src moment whole is.0 breaks.1)

-- nothing was written before its frame
pub told_since : (before between now : Option (List ℕ)) (f0 f1 f2 : ℕ) (whole : Bool) (result : Option RunFault) → Gives before between [] → f1 ≡ f0
    → TellsDeath whole (record { before = between; now = now; faults_before = f1; faults_now = f2 }) result
    → TellsDeath whole (record { before = before; now = now; faults_before = f0; faults_now = f2 }) result
told_since before between now f0 f1 f2 whole None none same tells = Gives-append before between now [] (death_frame whole) none tells
told_since before between now f0 f1 f2 whole (Some faults.WriteFault) none same tells =
    let n = tells.1.0 in (
      subst (λ (from : ℕ). Rose from f2) same tells.0,
      (n, tells.1.1, Gives-append before between now [] (take n (death_frame whole)) none tells.1.2),
    )
told_since before between now f0 f1 f2 whole (Some _) none same tells = absurd tells

-- no write failed in a request in which the worker died
pub death_wrote_nothing : (fault : ServeFault) (whole : Bool) (before now : ℕ) → stop_of_serving fault ≡ stops.Dead whole → HasCause before now (is_failed_write fault)
    → now ≡ before
death_wrote_nothing fault whole before now stops cause =
    let is = death_stopped fault whole stops in
    let counted = subst (λ (f : ServeFault). HasCause before now (is_failed_write f)) is.1 cause in
    counted.kept refl

-- its frame was written
pub death_goes : (led : List Asking → ℕ → Type 0) (site : Site) (allowed still : Option (List ℕ)) (src : Inflow) (snk : Outflow) (moment : ℕ) (gave : List ℕ → Type 0) (whole : Bool)
    (briefs briefs_now : List Brief)
    → gave (moment ∷ []) → DeathTurn led site allowed still src moment whole → Gives snk.before snk.now (death_frame whole)
    → briefs_now ≡ briefs ++ record { moment = moment; died = Some whole } ∷ []
    → Goes led site allowed still briefs briefs_now src snk gave
death_goes led site allowed still src snk moment gave whole briefs briefs_now told d written briefed = record {
  turn = record { packet = d.packet; asked = d.asked; end = died_in d.ask; writes = d.writes };
  is = d.is;
  asks = d.asks;
  allows = d.allows;
  read = d.read;
  written = rw d.counts written;
  moments = subst (λ (m : ℕ). gave (m ∷ [])) (sym d.moment_is) told;
  briefs = briefed ∙ ap₂ (λ (m : ℕ) (w : Option Bool). briefs ++ record { moment = m; died = w } ∷ []) (sym d.moment_is) (sym d.counts);
}

-- only a part of its frame was written
pub death_cut : (led : List Asking → ℕ → Type 0) (site : Site) (allowed still : Option (List ℕ)) (src : Inflow) (snk : Outflow) (moment : ℕ) (gave : List ℕ → Type 0) (whole : Bool)
    (fault : RunFault) → gave (moment ∷ []) → DeathTurn led site allowed still src moment whole → TellsDeath whole snk (Some fault)
    → IsLast led site allowed still src snk gave (Some fault)
death_cut led site allowed still src snk moment gave whole faults.WriteFault told d cut = record {
  moment = moment;
  rest = exchange_bytes d.packet;
  part = take cut.1.0 (death_frame whole);
  read = d.read;
  written = cut.1.2;
  moments = told;
  ending = (
    cut.0,
    lit< tt,
    record {
      turn = record { packet = d.packet; asked = d.asked; end = died_in d.ask; writes = d.writes };
      is = d.is;
      asks = d.asks;
      allows = d.allows;
      moment = ap (λ (m : ℕ). m ∷ []) (sym d.moment_is);
      read = refl;
      written = rw d.counts (cut.1.0, cut.1.1, refl);
    },
  );
}
death_cut led site allowed still src snk moment gave whole _ told d cut = absurd cut
