use Rattle.std.proofs.Common.{◌≡◌, List, None, sym, subst, ◌∙◌}
use Rattle.uw_base.specs.declared.variables.Pair.{Pair}
use Rattle.uw_packet.specs.BlockReads.{vars_block}
use Rattle.uw_top.proofs.LoadLemmas.{block_is_there}
use Rattle.uw_top.proofs.load.packet_for.Goals as goal

pub unreachable-requires : goal.unreachable-requires
unreachable-requires c =
    block_is_there c.args.x c.requires (subst (λ (vars : List Pair). vars_block vars ≡ None) c.in_ok-vars.ensures (sym c.in_ok-block.ensures ∙ c.in_default.is))
