use Rattle.std.proofs.lemmas.Result.{on_ok_weaker}
use Rattle.uw_chain.proofs.ActLemmas.{has_value}
use Rattle.uw_chain.proofs.request.Request.put_value.Goals as goal

pub returns : goal.returns
returns c =
    on_ok_weaker c.append.result
    (has_value c.args.content_type.now c.args.value.now c.in_ok-joined.field-0 c.append.new.self c.args.self.now c.add_header.new.self
    c.in_ok-add_header.ensures c.in_ok-joined.ensures)
    c.append.ensures.ok
