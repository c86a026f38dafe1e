use Rattle.std.proofs.Common.{◌≡◌, ◌-◌, ◌/◌, ◌<◌, inl, inr, ℕ, sym, ap, ◌∙◌, subst}
use Rattle.uw_words.specs.Walks.{link_of}
use Rattle.uw_words.proofs.Links.{item-link}
use Rattle.uw_words.proofs.shape.Shape.item_of.Goals as goal

pub returns-clause-item : goal.returns-clause-item
returns-clause-item c =
    let shape = c.args.self.now in
    elim c.requires.link [
      | inl none ↦ absurd (c.if-link-eq0.false none)
      | inr some ↦
          let number : (c.args.link - shape.items) / shape.stride ≡ some.0 =
          ap (λ (l : ℕ). (l - shape.items) / shape.stride) some.2 ∙ item-link shape c.requires.shape some.0 in
          (subst (λ (n : ℕ). n < shape.n_items) (sym number) some.1, some.2 ∙ ap (link_of shape) (sym number))
    ]
