use Rattle.std.proofs.Common.{ℕ, List, ◌++◌, ap, ◌∙◌}
use Rattle.uw_check.specs.Reports.{site_line}
use Rattle.uw_check.proofs.reporting.taken_text.Goals as goal

pub returns : goal.returns
returns c =
    let rest = c.as_slice.result.now in (
      rest,
      c.in_ok-append.ensures.ok ∙ ap (λ (text : List ℕ). text ++ rest)
          (c.in_ok-put_site.ensures ∙ ap (λ (text : List ℕ). text ++ site_line c.args.path.now c.args.conf.now) c.new-out.ensures),
    )
