use Rattle.std.proofs.Common.{◌∙◌, arith, subst, sym}
use Rattle.uw_top.proofs.LoadLemmas.{packets_more, one_loaded, load_stops, load_ends, load_on}
use Rattle.uw_top.specs.LoadSteps.{answer_behind}
use Rattle.uw_model.specs.Asks.{DeskParts}
use Rattle.uw_rules.specs.PartNumbers.{AskPartsBelow}
use Rattle.uw_rules.specs.Compiled.{rules_of}
use Rattle.uw_session.specs.Exchange.{HasParts}
use Rattle.uw_top.proofs.load.load.Goals as goal

pub answer_number-requires-clause-enough : goal.answer_number-requires-clause-enough
answer_number-requires-clause-enough g c =
    subst (λ (parts : DeskParts). HasParts parts c.args.conf.now) (sym c.loop-served.invariant.parts) c.requires.enough

pub answer_number-requires-clause-known : goal.answer_number-requires-clause-known
answer_number-requires-clause-known g c =
    subst (λ (parts : DeskParts). AskPartsBelow parts (rules_of c.args.conf.now.routes)) (sym c.loop-served.invariant.parts) c.requires.known

pub returns-in-Err-clause-runs : goal.returns-in-Err-clause-runs
returns-in-Err-clause-runs g c = λ site is.
    let now = c.loop-served in
    let i = now.invariant in
    load_stops g.D.Desk.leads site g.C.Clock.gave g.met.C.Clock.gave_more _ now.x _ _ _ now.desk c.answer_number.new.desk now.figures _ _ _ now.clock _ c.now-moment.result now.served _
    c.next_number-x.ensures.next c.loop-served-test.true (i.loaded site is) c.now-moment.ensures (c.in-Err.ensures.answer site is)

pub returns-in-Err-clause-stands : goal.returns-in-Err-clause-stands
returns-in-Err-clause-stands g c = λ site lists is held empty.
    load_on g.D.Desk.leads g.D.OwnDesk.stands g.met.D.OwnDesk.stands_on site _ _ _ _ lists _ _ _ held empty (returns-in-Err-clause-runs g c site is)

pub returns-in-Err-clause-parts : goal.returns-in-Err-clause-parts
returns-in-Err-clause-parts g c = c.in-Err.ensures.parts ∙ c.loop-served.invariant.parts

pub returns-in-Err-clause-settled : goal.returns-in-Err-clause-settled
returns-in-Err-clause-settled g c = λ settled. c.in-Err.ensures.settled (c.loop-served.invariant.settled settled)

pub loop-served-preserved : goal.loop-served-preserved
loop-served-preserved g c =
    let now = c.loop-served in
    let i = now.invariant in
    let answered = c.in-Ok.answered in
    let a = c.in-Ok.ensures in
    let counted = c.count.ensures in
    record {
      loaded = λ site is. one_loaded g.D.Desk.leads site g.C.Clock.gave g.met.C.Clock.gave_more _ now.x _ _ now.desk _ now.figures _ _ now.clock _ c.now-moment.result now.served answered
          c.next_number-x.ensures.next counted.more (i.loaded site is) c.now-moment.ensures (a.answer site is);
      fits = a.fits;
      parts = a.parts ∙ i.parts;
      settled = λ settled. a.settled (i.settled settled);
      small = c.next_number-x.ensures.small;
      counted = counted.counted;
      packets = packets_more now.figures c.count.new.self (answer_behind answered.asks) answered.reply now.served counted.more i.packets;
    }

pub returns-clause-runs : goal.returns-clause-runs
returns-clause-runs g c = λ site is.
    let now = c.loop-served in
    load_ends g.D.Desk.leads site g.C.Clock.gave _ now.x _ _ now.desk now.figures
    (record {
      before = g.K.Sink.taken c.args.snk.now;
      now = g.K.Sink.taken c.write_figures.new.snk;
      faults_before = g.K.Sink.faults c.args.snk.now;
      faults_now = g.K.Sink.faults c.write_figures.new.snk;
    })
    _ now.clock now.served _ (omega arith) (now.invariant.loaded site is) c.write_figures.ensures.written c.write_figures.ensures.cause

pub returns-clause-stands : goal.returns-clause-stands
returns-clause-stands g c = λ site lists is held empty.
    load_on g.D.Desk.leads g.D.OwnDesk.stands g.met.D.OwnDesk.stands_on site _ _ _ _ lists _ _ _ held empty (returns-clause-runs g c site is)
