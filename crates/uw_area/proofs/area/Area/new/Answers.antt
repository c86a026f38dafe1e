use Rattle.std.proofs.Common.{sym, ap, ◌∙◌, subst}
use Rattle.uw_model.specs.AreaOps.{blank_area}
use Rattle.uw_intent.proofs.Rights.{agreeing_stand}
use Rattle.uw_area.specs.declared.area.Held.{Held}
use Rattle.uw_area.specs.AreaKind.{area_kind}
use Rattle.uw_area.specs.AreaViews.{IsStandingArea}
use Rattle.uw_area.proofs.Standing.{area_local}
use Rattle.uw_area.proofs.area.Area.new.Goals as goal

pub invariant_of-result : goal.invariant_of-result
invariant_of-result c =
    subst (λ (held : Held). IsStandingArea held.size held.over.room held.ram) (sym c.in_ok-new.ensures.ok) record {
      limit = c.requires;
      many = ap (λ over. over.room) c.in_ok-over.ensures.empty ∙ c.area_plan_room.ensures.words;
      state = blank_area c.args.size;
      stands = agreeing_stand (area_kind c.args.size) (area_local c.args.size) c.in_ok-ram.ram (blank_area c.args.size) c.in_ok-ram.ensures;
    }
