use Rattle.std.proofs.Common.{◌≡◌, ◌==◌, Bool, false, cond, List, ◌++◌, length, codes, ℕ, sym, ap, ◌∙◌, append_assoc}
use Rattle.std.proofs.lemmas.Result.{on_ok_weaker}
use Rattle.uw_check.specs.Reports.{shown}
use Rattle.uw_check.proofs.site.put_socket.Goals as goal

pub returns : goal.returns
returns c =
    let out = c.args.out.now in
    let told = shown c.args.socket.now in
    let some : (length c.args.socket.now == 0) ≡ false = sym c.is_empty.ensures ∙ c.if-is_empty.false in
    on_ok_weaker c.put_shown.result
    (λ is. is ∙ ap (λ (text : List ℕ). text ++ told) c.in_ok-append.ensures.ok ∙ append_assoc out (codes ", socket ") told
    ∙ ap (λ (none : Bool). out ++ cond none (codes ", no socket") (codes ", socket " ++ told)) (sym some))
    c.put_shown.ensures
