use Rattle.std.proofs.Common.{◌≡◌, subst}
use Rattle.uw_words.specs.Plans.{region}
use Rattle.uw_intent.specs.Standing.{Kind}
use Rattle.uw_intent.specs.World.{Called}
use Rattle.uw_intent.specs.OneTurn.{end_of}
use Rattle.uw_intent.proofs.OneTurns.{CallEnsures, led_broken, led_call, nothing_left}
use Rattle.uw_intent.proofs.Repairs.{shut_gate}
use Rattle.uw_intent.proofs.Rights.{standing_agree}
use Rattle.uw_intent.proofs.recoverable.recovered_call.Given.{Over}
use Rattle.uw_intent.proofs.recoverable.recovered_call.Goals as goal
use Rattle.uw_intent.proofs.recoverable.recovered_call.Goals.{then-is_pending+in_default, else-is_pending, After-call}

pub returns-in-Err-clause-turn : goal.returns-in-Err-clause-turn
returns-in-Err-clause-turn g c =
    led_broken (g.R.Recoverable.kind (g.R.Recoverable.conf c.args.held.now)) (g.R.Recoverable.words c.args.held.now) (g.R.Recoverable.words c.recover.new.self) _ _ _
    c.in-Err.ensures.part c.recover.ensures.stands

module _ (g : Over) (c : After-call g) where
  -- the call, on what the repair left
  abbrev Ensures : (kind : Kind g.row.R-State.Denot g.row.R-Call.Denot g.row.R-Answer.Denot) (held : g.row.R.Denot) (life : g.row.L.Denot) → Type 0
  Ensures kind held life =
      CallEnsures (g.R.Recoverable.words c.call.new.self) (g.L.Life.allowances c.call.new.life) record { who = 0; moment = c.args.moment; call = c.args.call.now }
      (g.R.Recoverable.todo c.call.new.self) (end_of c.call.result) kind (g.R.Recoverable.words held) (g.L.Life.allowances life)

  abbrev kind_of : g.row.R.Denot → Kind g.row.R-State.Denot g.row.R-Call.Denot g.row.R-Answer.Denot
  kind_of held = g.R.Recoverable.kind (g.R.Recoverable.conf held)

  ensured : (held : g.row.R.Denot) (life : g.row.L.Denot) → c.if-is_pending.held ≡ held → c.if-is_pending.life ≡ life → Ensures (kind_of held) held life
  ensured held life same_held same_life =
      let told : Ensures (kind_of c.if-is_pending.held) c.if-is_pending.held c.if-is_pending.life =
      record { right = c.call.ensures.right; writes = c.call.ensures.writes; answer = c.call.ensures.answer; stands = c.call.ensures.stands } in
      subst (Ensures (kind_of held) held) same_life (subst (λ (h : g.row.R.Denot). Ensures (kind_of h) h c.if-is_pending.life) same_held told)

pub returns-clause-turn : goal.returns-clause-turn
returns-clause-turn g c =
    let kind = g.R.Recoverable.kind in
    let conf = g.R.Recoverable.conf in
    let words = g.R.Recoverable.words in
    let first = c.args.held.now in
    let now = words c.call.new.self in
    let told = g.L.Life.allowances c.args.life.now in
    let left = g.L.Life.allowances c.call.new.life in
    let made : Called g.row.R-Call.Denot = record { who = 0; moment = c.args.moment; call = c.args.call.now } in
    let todo = g.R.Recoverable.todo c.call.new.self in
    let end = end_of c.call.result in
    elim c.if-is_pending.branch [
      | then-is_pending+in_default w ↦
          let held = w.recover.new.self in
          let life = w.recover.new.life in
          let call = subst (λ (x : g.row.R-Conf.Denot). Ensures g c (kind x) held life) w.recover.ensures.conf (ensured g c held life w.held-is w.life-is) in
          led_call (kind (conf first)) (words first) now told left made (words held) (g.L.Life.allowances life) todo w.in_default.ensures.all w.in_default.ensures.agrees end call
      | else-is_pending w ↦
          let closed = shut_gate (region (words first) (kind (conf first)).frame.gate) c.is_pending.result w.if-is_pending.false c.is_pending.ensures in
          led_call (kind (conf first)) (words first) now told left made (words first) told todo (nothing_left (kind (conf first)) (words first) told closed)
          (λ s stands. standing_agree (kind (conf first)) (words first) s stands closed) end (ensured g c first c.args.life.now w.held-is w.life-is)
    ]
