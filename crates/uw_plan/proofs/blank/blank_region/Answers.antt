use Rattle.std.proofs.Common.{◌≡◌, ℕ, ◌+◌, set, ap, ◌∙◌, subst, arith}
use Rattle.uw_words.specs.declared.shape.Shape.{Shape}
use Rattle.uw_plan.specs.Regions.{shape_of}
use Rattle.uw_plan.specs.BlankSteps.{HasFreeItems}
use Rattle.uw_plan.proofs.Blanks.{blank_agrees, item_more}
use Rattle.uw_plan.proofs.blank.blank_region.Goals as goal

pub loop-item-preserved : goal.loop-item-preserved
loop-item-preserved c =
    item_more c.shape_of-shape.result c.shape_of-shape.ensures.shape c.loop-item.ram c.put.new.ram c.loop-item.item c.link_to-next.result c.loop-item.invariant
    (omega (arith, c.loop-item-test.true)) c.link_to-next.ensures
    (c.put.ensures ∙ ap (λ (link : ℕ). set c.loop-item.ram (link + 2) c.link_to-next.result) c.link_of.ensures.link)

pub returns : goal.returns
returns c =
    let shape = c.shape_of-shape.result in
    let items : shape.n_items ≡ c.args.conf.now.items = ap (λ (s : Shape). s.n_items) c.shape_of-shape.ensures.parts in
    let all : c.loop-item.item ≡ c.args.conf.now.items = omega (arith, items, c.loop-item-test.false, c.loop-item.auto) in
    blank_agrees c.args.conf.now c.requires c.loop-item.ram
    (subst (λ (n : ℕ). HasFreeItems (shape_of c.args.conf.now) c.loop-item.ram n) all
    (subst (λ (s : Shape). HasFreeItems s c.loop-item.ram c.loop-item.item) c.shape_of-shape.ensures.parts c.loop-item.invariant))
