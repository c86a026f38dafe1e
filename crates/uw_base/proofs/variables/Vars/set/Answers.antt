use Rattle.std.proofs.Common.{◌≡◌, ◌∙◌, List, [], ◌∷◌, ◌++◌, ℕ, ap, refl}
use Rattle.std.proofs.lemmas.List.{append_assoc}
use Rattle.uw_base.specs.declared.variables.Pair.{Pair}
use Rattle.uw_base.proofs.VariableLemmas.{on_err, put_behind, stay_behind}
use Rattle.uw_base.proofs.variables.Vars.set.Goals as goal

pub returns-in_err-append-2-clause-err : goal.returns-in_err-append-2-clause-err
returns-in_err-append-2-clause-err c =
    let kept = stay_behind c.self.inside.bytes c.args.key.now c.append-2.new.self c.self.inside.spans.items c.self.inside.spans.items
    (c.in_err-append-2.ensures.err ∙ c.in_ok-append.ensures.ok) refl c.self.invariant in
    on_err c.from_residual-in_err-append-2.result (kept.0 ∙ c.self.view_is)

pub invariant_of-self-in_err-push : goal.invariant_of-self-in_err-push
invariant_of-self-in_err-push c =
    let longer : c.append-2.new.self ≡ c.self.inside.bytes ++ (c.args.key.now ++ c.args.value.now) =
    c.in_ok-append-2.ensures.ok ∙ ap (λ (front : List ℕ). front ++ c.args.value.now) c.in_ok-append.ensures.ok ∙ append_assoc c.self.inside.bytes c.args.key.now c.args.value.now in
    let kept = stay_behind c.self.inside.bytes (c.args.key.now ++ c.args.value.now) c.append-2.new.self c.self.inside.spans.items c.push.new.self.items longer
    c.in_err-push.ensures.items c.self.invariant in
    kept.1

pub returns-in_err-push-clause-err : goal.returns-in_err-push-clause-err
returns-in_err-push-clause-err c =
    let longer : c.append-2.new.self ≡ c.self.inside.bytes ++ (c.args.key.now ++ c.args.value.now) =
    c.in_ok-append-2.ensures.ok ∙ ap (λ (front : List ℕ). front ++ c.args.value.now) c.in_ok-append.ensures.ok ∙ append_assoc c.self.inside.bytes c.args.key.now c.args.value.now in
    let kept = stay_behind c.self.inside.bytes (c.args.key.now ++ c.args.value.now) c.append-2.new.self c.self.inside.spans.items c.push.new.self.items longer
    c.in_err-push.ensures.items c.self.invariant in
    on_err c.from_residual-in_err-push.result (kept.0 ∙ c.self.view_is)

pub invariant_of-self-2 : goal.invariant_of-self-2
invariant_of-self-2 c =
    (put_behind c.self.inside.bytes c.args.key.now c.append.new.self c.args.value.now c.append-2.new.self c.self.inside.spans.items c.push.new.self.items _ c.in_ok-append.ensures.ok
    c.in_ok-append-2.ensures.ok c.in_ok-push.ensures.items c.len-start.ensures c.len-middle.ensures c.len-end.ensures c.self.invariant).1

pub returns-clause-ok : goal.returns-clause-ok
returns-clause-ok c =
    (put_behind c.self.inside.bytes c.args.key.now c.append.new.self c.args.value.now c.append-2.new.self c.self.inside.spans.items c.push.new.self.items _ c.in_ok-append.ensures.ok
    c.in_ok-append-2.ensures.ok c.in_ok-push.ensures.items c.len-start.ensures c.len-middle.ensures c.len-end.ensures c.self.invariant).0
    ∙ ap (λ (front : List Pair). front ++ record { key = c.args.key.now; value = c.args.value.now } ∷ []) c.self.view_is
