use Rattle.std.proofs.Common.{◌≡◌, ◌∙◌, ℕ, ap, sym, true, false, unwrap_or, arith}
use Rattle.uw_words.specs.Plans.{planned, region}
use Rattle.uw_words.proofs.Sound.{read_sifted}
use Rattle.uw_words.proofs.overlay.Overlay.load.Goals as goal

pub returns-then-passes : goal.returns-then-passes
returns-then-passes c = c.planned_or.ensures ∙ ap (λ (own : ℕ). unwrap_or (planned c.args.self.now.writes c.args.at) own) c.load-own.ensures

pub returns : goal.returns
returns c =
    rw (← c.self.view_is)
    (c.load-own.ensures ∙ sym (read_sifted c.self.inside.sieve c.self.inside.writes.items c.args.at (region c.args.ram.now) c.self.invariant.1 (λ passes. let both : true ≡ false = sym (c.passes.ensures passes) ∙ c.if-passes.false in grind (arith, both))))
