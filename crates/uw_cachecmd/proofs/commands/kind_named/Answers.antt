use Rattle.std.proofs.Common.{arith, ap, sym, codes}
use Rattle.std.proofs.lemmas.Slice.Eq.{text_from_reads}
use Rattle.uw_cachecmd.specs.Commands.{kind_of}
use Rattle.uw_cachecmd.proofs.commands.kind_named.Goals as goal

pub returns-in-update : goal.returns-in-update
returns-in-update c =
    let text = text_from_reads c.args.text.now (codes "update") (omega arith) (omega arith, (omega arith, (omega arith, (omega arith, (omega arith, (omega arith, tt)))))) in
    ap kind_of (sym text)

pub returns-in-exists : goal.returns-in-exists
returns-in-exists c =
    let text = text_from_reads c.args.text.now (codes "exists") (omega arith) (omega arith, (omega arith, (omega arith, (omega arith, (omega arith, (omega arith, tt)))))) in
    ap kind_of (sym text)
