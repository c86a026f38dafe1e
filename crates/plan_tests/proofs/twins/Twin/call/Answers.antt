use Rattle.std.proofs.Common.{◌≡◌, ◌∙◌, List, sym, ap, subst, arith}
use Rattle.uw_model.specs.declared.entries.Entry.{Entry}
use Rattle.uw_model.specs.Calls.{answer, next_state}
use Rattle.uw_intent.specs.Stores.{AllMade}
use Rattle.uw_intent.specs.RedoRecord.{commit_writes}
use Rattle.uw_plan.specs.Agreement.{Agrees}
use Rattle.plan_tests.proofs.TwinLemmas.{agrees_after, on_ok}
use Rattle.plan_tests.proofs.twins.Twin.call.Goals as goal

pub told-requires-clause-tells : goal.told-requires-clause-tells
told-requires-clause-tells c =
    let twin = c.args.self.now in
    (answer twin.conf twin.list.list c.args.moment c.args.call.now, c.plan_call-planned.ensures.tells twin.list.list c.requires.agrees)

pub returns-clause-twins : goal.returns-clause-twins
returns-clause-twins c =
    let twin = c.args.self.now in
    let list = twin.list.list in
    let plan = c.plan_call-planned.new.over.writes in
    let made = on_ok c.commit.result (AllMade (commit_writes c.frame_of-frame.result plan) twin.ram c.commit.new.ram _ _) c.commit.ensures.alive c.commit.ensures.all in
    let next = agrees_after twin.conf c.requires.is twin.ram list c.requires.agrees c.frame_of-frame.result c.shape_of.result c.frame_of-frame.ensures c.shape_of.ensures.parts c.args.moment
    c.args.call.now plan c.commit.new.ram (c.plan_call-planned.ensures.right list c.requires.agrees) made.words in
    let same : c.call.new.self.list ≡ next_state twin.conf list c.args.moment c.args.call.now =
    c.in_ok-other.ensures.next ∙ ap (λ conf. next_state conf list c.args.moment c.args.call.now) c.requires.same in
    record {
      is = c.requires.is;
      agrees = subst (λ (l : List Entry). Agrees twin.conf c.commit.new.ram l) (sym same) next;
      same = c.call.ensures.conf ∙ c.requires.same;
      empty = ap (λ plan. plan.writes) c.clear.ensures;
      room = omega (arith, ap (λ plan. plan.room) c.clear.ensures, c.plan_call-planned.ensures.room, c.requires.room);
    }

pub returns-clause-same : goal.returns-clause-same
returns-clause-same c =
    let twin = c.args.self.now in
    let told = answer twin.conf twin.list.list c.args.moment c.args.call.now in
    c.in_ok-answer.ensures.answer told (c.plan_call-planned.ensures.tells twin.list.list c.requires.agrees)
    ∙ sym (c.in_ok-other.ensures.answer ∙ ap (λ conf. answer conf twin.list.list c.args.moment c.args.call.now) c.requires.same)
