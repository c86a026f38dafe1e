use Rattle.std.proofs.Common.{◌≡◌, ◌∙◌, false}
use Rattle.std.proofs.lemmas.Result.{IfOk-weaker}
use Rattle.uw_chain.specs.Endings.{end_with, end_with_page}
use Rattle.uw_chain.proofs.ActLemmas.{ends_with_page}
use Rattle.uw_chain.proofs.request.Request.end_with_page.Goals as goal

pub returns : goal.returns
returns c =
    let status = c.args.status.now in
    let same =
    ends_with_page status c.in_ok-from_slice.field-0 c.in_ok-self.field-0 c.args.self c.add_header.new.self c.if-self.false
    c.in_ok-add_header.ensures c.in_ok-from_slice.ensures c.in_ok-self.ensures in
    IfOk-weaker c.end_with-2.result
    (λ ending. ending ≡ end_with status false (record c.add_header.new.self { body = c.in_ok-self.field-0 }))
    (λ ending. ending ≡ end_with_page status c.args.self) (λ ending is. is ∙ same) c.end_with-2.ensures
