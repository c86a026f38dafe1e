use Rattle.std.proofs.Common.{◌≡◌, ◌<◌, ◌*◌, ℕ, length, ap, ◌∙◌, subst, arith}
use Rattle.std.specs.Int.{from_le_bytes, w64, div_ceil}
use Rattle.std.proofs.lemmas.List.{take_rest}
use Rattle.uw_words.specs.Numbers.{places_from}
use Rattle.uw_words.specs.Parts.{GrewAt}
use Rattle.uw_words.proofs.Copies.{Putting, putting_start, putting_next, putting_room, putting_all}
use Rattle.uw_words.proofs.texts.put_text.Goals as goal

pub loop-k-init : goal.loop-k-init
loop-k-init c = putting_start c.args.over.now c.args.at c.args.text.now

pub put-requires : goal.put-requires
put-requires c =
    let short : c.loop-k.k < div_ceil (length c.args.text.now) 8 = omega (arith, c.loop-k-test.true, c.div_ceil-k-end.ensures) in
    putting_room c.args.over.now c.loop-k.over c.args.at c.loop-k.k (div_ceil (length c.args.text.now) 8) short c.requires.room c.loop-k.invariant.grew

pub loop-k-preserved : goal.loop-k-preserved
loop-k-preserved c =
    putting_next c.args.over.now c.loop-k.over c.put.new.self c.args.at c.args.text.now c.loop-k.k c.first_word.result c.loop-k.invariant c.put.ensures
    (c.first_word.ensures ∙ ap (from_le_bytes w64) (take_rest c.args.text.now (8 * c.loop-k.k)))

pub returns-clause-text : goal.returns-clause-text
returns-clause-text c =
    let all : c.loop-k.k ≡ div_ceil (length c.args.text.now) 8 = omega (arith, c.loop-k-test.false, c.loop-k.auto.k-end, c.div_ceil-k-end.ensures) in
    putting_all c.loop-k.over c.args.over.now c.args.at c.args.text.now
    (subst (λ (k : ℕ). Putting c.args.over.now c.loop-k.over c.args.at c.args.text.now k) all c.loop-k.invariant)

pub returns-clause-grew : goal.returns-clause-grew
returns-clause-grew c =
    let all : c.loop-k.k ≡ div_ceil (length c.args.text.now) 8 = omega (arith, c.loop-k-test.false, c.loop-k.auto.k-end, c.div_ceil-k-end.ensures) in
    subst (λ (k : ℕ). GrewAt (places_from c.args.at k) c.args.over.now c.loop-k.over) all c.loop-k.invariant.grew
