use Rattle.std.proofs.Common.{arith}
use Rattle.uw_cachecmd.proofs.Lengths.{are_bytes, first_texts_fit}
use Rattle.uw_cachecmd.proofs.commands.set.Goals as goal

pub array_len-requires : goal.array_len-requires
array_len-requires c =
    let block = c.args.block.now in
    let fits = first_texts_fit block c.in-Ok.texts 4 (are_bytes block (λ i. omega (arith, c.type_inv.block i))) c.in-Ok.ensures in
    rw (c.deref.ensures.value, c.into_vec-texts.ensures) (omega arith)
