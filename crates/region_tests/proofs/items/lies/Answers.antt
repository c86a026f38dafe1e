use Rattle.std.proofs.Common.{◌≡◌, ◌+◌, ◌*◌, ℕ, ap, sym, ◌∙◌, arith}
use Rattle.uw_words.specs.Plans.{region}
use Rattle.uw_words.specs.Walks.{item_word}
use Rattle.region_tests.proofs.items.lies.Goals as goal

pub returns : goal.returns
returns g c =
    let reader = region c.args.ram.now in
    let shape = c.args.shape.now in
    let item = c.args.item in
    let first : item_word reader shape item 4 ≡ c.load-first.result = sym (c.load-first.ensures ∙ ap (λ (l : ℕ). reader (l + 4)) c.link_of-link.ensures.link) in
    let bytes : item_word reader shape item 5 ≡ c.load-bytes.result = sym (c.load-bytes.ensures ∙ ap (λ (l : ℕ). reader (l + 5)) c.link_of-link.ensures.link) in
    let before : item_word reader shape item 4 * shape.block_words ≡ item_word reader shape item 4 * 2 = ap (λ (w : ℕ). item_word reader shape item 4 * w) c.requires.block in
    let all : shape.n_blocks * shape.block_words ≡ shape.n_blocks * 2 = ap (λ (w : ℕ). shape.n_blocks * w) c.requires.block in
    omega (arith, first, bytes, before, all, c.requires.blocks)
