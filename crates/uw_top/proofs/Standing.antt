-- A run over a desk is one over what the desk stands for.
use Rattle.std.proofs.Common.{◌≡◌, ℕ, List, [], ◌∷◌, ◌++◌, Option, None, Some, true, false, refl, sym, ap, ap₂, subst, inl, inr}
use Rattle.uw_outside.specs.Streams.{Inflow, Outflow}
use Rattle.uw_keeper.specs.Keeping.{Keeping}
use Rattle.uw_model.specs.declared.asks.Asked.{Asked}
use Rattle.uw_model.specs.Asks.{Asking, AsksNothing, answered_at, of_desk}
use Rattle.uw_chain.specs.Courses.{Course}
use Rattle.uw_chain.specs.declared.faults.ChainEnd.{ChainEnd}
use Rattle.uw_chain.specs.declared.faults.ChainEnd.TheVariants as chains
use Rattle.uw_chain.specs.Runs.{Stops}
use Rattle.uw_ends.specs.declared.ends.Brief.{Brief}
use Rattle.uw_ends.specs.declared.ends.RunFault.{RunFault}
use Rattle.uw_ends.specs.declared.ends.RunFault.TheVariants as faults
use Rattle.uw_session.specs.Exchange.{Site}
use Rattle.uw_top.specs.Pipe.{Ending, EndsBy, PipeRun, Turn, TurnsLead, asks_of_turn, both_lead}

-- asks that lead a desk on lead on what it stands for
abbrev pub StandsOn : {D T : Type 0} → (D → D → List Asking → ℕ → Type 0) → (T → T → List Asking → ℕ → Type 0) → (D → T → Type 0) → Type 0
StandsOn {D} {T} leads told stands =
    (a b : D) (asked : List Asking) (writes : ℕ) (t : T) → leads a b asked writes → stands a t → (after : T) × told t after asked writes × stands b after

-- the same, with a keeper beside the desk
both_on : {D T : Type 0} → (leads : D → D → List Asking → ℕ → Type 0) (told : T → T → List Asking → ℕ → Type 0) (stands : D → T → Type 0) → StandsOn leads told stands
    → (a b : D × Keeping) (t : T) (asked : List Asking) (writes : ℕ) → stands a.0 t → both_lead leads a b asked writes
    → (after : T) × stands b.0 after × both_lead told (t, a.1) (after, b.1) asked writes
both_on leads told stands on a b t asked writes held led =
    let o = on a.0 b.0 (of_desk asked) writes t led.0 held in
    (o.0, o.2, (o.1, led.1))

-- turns
turns_on : {D T : Type 0} → (leads : D → D → List Asking → ℕ → Type 0) (told : T → T → List Asking → ℕ → Type 0) (stands : D → T → Type 0) → StandsOn leads told stands
    → (site : Site) (a b : D × Keeping) (t : T) (allowed left : Option (List ℕ)) (turns : List Turn) → stands a.0 t → TurnsLead (both_lead leads) site a allowed turns b left
    → (after : T) × stands b.0 after × TurnsLead (both_lead told) site (t, a.1) allowed turns (after, b.1) left
turns_on {D = D} {T = T} leads told stands on site a b t allowed left [] held led =
    let Stands : D × Keeping → Type 0 = λ s. stands s.0 t in
    (t, subst Stands (sym led.0) held, (ap₂ (λ (x : T) (k : Keeping). (x, k)) refl (ap (λ (s : D × Keeping). s.1) led.0), led.1))
turns_on leads told stands on site a b t allowed left (turn ∷ turns) held led =
    let first = both_on leads told stands on a led.1.0 t (asks_of_turn turn) turn.writes held led.1.2 in
    let more = turns_on leads told stands on site led.1.0 b first.0 led.1.1 left turns first.1 led.1.4 in
    (more.0, more.1, (led.0, ((first.0, led.1.0.1), led.1.1, first.2, led.1.3, more.2)))

-- what leads on from a state leads on from what it stands for
abbrev pub LedOn : {T : Type 0} → (List Asking → ℕ → Type 0) → (T → List Asking → ℕ → Type 0) → (T → Type 0) → Type 0
LedOn {T} led told held = (asked : List Asking) (writes : ℕ) → led asked writes → (after : T) × held after × told after asked writes

-- nothing was asked
nothing_on : {T : Type 0} → (led : List Asking → ℕ → Type 0) (told : T → List Asking → ℕ → Type 0) (held : T → Type 0) → LedOn led told held → (before now : Option (List ℕ))
    → AsksNothing led before now → (after : T) × held after × AsksNothing (told after) before now
nothing_on led told held on before now none = let o = on [] 0 none.0 in (o.0, o.1, (o.2, none.1))

-- a course stopped behind the asks that were answered
pub stops_on : {T X : Type 0} → (led : List Asking → ℕ → Type 0) (told : T → List Asking → ℕ → Type 0) (held : T → Type 0) → LedOn led told held
    → (before now : Option (List ℕ)) (moment : ℕ) (course : Course X) (asked : List Asked) (end : ChainEnd) → Stops led before now moment course asked end
    → (after : T) × held after × Stops (told after) before now moment course asked end
stops_on led told held on before now moment course asked (chains.Died true) (spent, (answer, (ask, more, unfolds, (writes, l, spends), of_desk))) =
    let o = on _ writes l in
    (o.0, o.1, (spent, (answer, (ask, more, unfolds, (writes, o.2, spends), of_desk))))
stops_on led told held on before now moment course asked (chains.Died false) (spent, (ask, more, unfolds, (writes, l, spends), of_desk)) =
    let o = on _ writes l in
    (o.0, o.1, (spent, (ask, more, unfolds, (writes, o.2, spends), of_desk)))
stops_on led told held on before now moment course asked chains.Memory (inl found) =
    let o = on (answered_at moment asked ++ []) found.2.0 found.2.1 in
    (o.0, o.1, inl (found.0, found.1, (found.2.0, o.2, found.2.2)))
stops_on led told held on before now moment course asked chains.Memory (inr broken) =
    let o = on _ broken.3.0 broken.3.1 in
    (o.0, o.1, inr (broken.0, broken.1, broken.2, (broken.3.0, o.2, broken.3.2)))

-- the end of a run
ends_on : {T : Type 0} → (led : List Asking → ℕ → Type 0) (told : T → List Asking → ℕ → Type 0) (held : T → Type 0) → LedOn led told held → (site : Site) (e : Ending)
    (fault : Option RunFault) → EndsBy led site e fault → (after : T) × held after × EndsBy (told after) site e fault
ends_on led told held on site e None end = let o = nothing_on led told held on e.allowed e.still end.3 in (o.0, o.1, (end.0, end.1, end.2, o.2))
ends_on led told held on site e (Some faults.ReadFault) end = let o = nothing_on led told held on e.allowed e.still end.2 in (o.0, o.1, (end.0, end.1, o.2))
ends_on led told held on site e (Some faults.WriteFault) end =
    let cut = end.2 in
    let o = on (asks_of_turn cut.turn) cut.turn.writes cut.asks in
    (o.0, o.1, (end.0, end.1, record { turn = cut.turn; is = cut.is; asks = o.2; allows = cut.allows; moment = cut.moment; read = cut.read; written = cut.written }))
ends_on led told held on site e (Some (faults.Truncated got want)) end = let o = nothing_on led told held on e.allowed e.still end.3 in (o.0, o.1, (end.0, end.1, end.2, o.2))
ends_on led told held on site e (Some (faults.BadPacket packet)) end = let o = nothing_on led told held on e.allowed e.still end.2 in (o.0, o.1, (end.0, end.1, o.2))
ends_on led told held on site e (Some faults.Memory) (inl begun) =
    let o = nothing_on led told held on e.allowed e.still begun.4 in
    (o.0, o.1, inl (begun.0, begun.1, begun.2, begun.3, o.2))
ends_on led told held on site e (Some faults.Memory) (inr below) = elim below.1 [
  | inl swallowed ↦ let o = nothing_on led told held on e.allowed e.still swallowed.1 in (o.0, o.1, inr (below.0, inl (swallowed.0, o.2)))
  | inr s ↦ let o = stops_on led told held on e.allowed e.still s.packet.moment _ s.asked chains.Memory s.stops in
      (o.0, o.1, inr (below.0, inr (record { packet = s.packet; is = s.is; moment = s.moment; read = s.read; asked = s.asked; stops = o.2 })))
]
ends_on led told held on site e (Some faults.TooMany) end = let o = nothing_on led told held on e.allowed e.still end.2 in (o.0, o.1, (end.0, end.1, o.2))
ends_on led told held on site e (Some _) end = absurd end

-- a whole run of `pipe`, by the same turns
pub run_on : {D T : Type 0} → (leads : D → D → List Asking → ℕ → Type 0) (told : T → T → List Asking → ℕ → Type 0) (stands : D → T → Type 0) → StandsOn leads told stands
    → (a b : D × Keeping) (t : T) (allowed : Option (List ℕ)) (site : Site) (src : Inflow) (snk : Outflow) (gave : List ℕ → Type 0) (briefs : List Brief)
    (fault : Option RunFault) → stands a.0 t → (run : PipeRun (both_lead leads) a b allowed site src snk gave briefs fault)
    → (after : T) × stands b.0 after
    × ((other : PipeRun (both_lead told) (t, a.1) (after, b.1) allowed site src snk gave briefs fault) × (other.turns ≡ run.turns) × (other.still ≡ run.still))
run_on {T = T} leads told stands on a b t allowed site src snk gave briefs fault held run =
    let passed = turns_on leads told stands on site a run.behind t allowed run.left run.turns held run.passed in
    let behind : T × Keeping = (passed.0, run.behind.1) in
    let end = ends_on (both_lead leads run.behind b) (λ (after : T). both_lead told behind (after, b.1)) (λ (after : T). stands b.0 after)
    (λ asked writes led. both_on leads told stands on run.behind b passed.0 asked writes passed.1 led) site _ fault run.ending in (
      end.0,
      end.1,
      (
        record {
          turns = run.turns;
          behind = behind;
          left = run.left;
          still = run.still;
          rest = run.rest;
          part = run.part;
          late = run.late;
          passed = passed.2;
          few = run.few;
          read = run.read;
          written = run.written;
          moments = run.moments;
          briefs = run.briefs;
          reads = run.reads;
          writes = run.writes;
          ending = end.2;
        },
        refl,
        refl,
      ),
    )
