use Rattle.std.proofs.Common.{◌≡◌, ◌+◌, ◌<◌, ◌≤◌, true, ltb, List, [], ◌∷◌, ◌++◌, None, Some, ℕ, length, drop, slice_get, refl, sym, ap, ◌∙◌, arith, length-append}
use Rattle.std.specs.List.{list_all}
use Rattle.std.proofs.lemmas.Bool.{and_right, le-ltb, lt-ltb}
use Rattle.std.proofs.lemmas.List.{append-nil, append_assoc, drop_all}
use Rattle.uw_base.specs.declared.variables.Pair.{Pair}
use Rattle.uw_base.proofs.VariableLemmas.{drop_here}
use Rattle.uw_packet.specs.Blocks.{sized, array_of, texts_of_pairs}
use Rattle.uw_packet.specs.BlockReads.{vars_block}
use Rattle.uw_packet.proofs.blocks.write_vars.Goals as goal

-- texts whose array is short are short
texts_short : (texts : List (List ℕ)) → length (array_of texts) < 65536 → list_all (λ text. ltb (length text) 65536) texts ≡ true
texts_short [] short = refl
texts_short (text ∷ texts) short =
    let lengths = length-append (sized text) (array_of texts) in
    rw (lt-ltb (length text) 65536 (omega arith), texts_short texts (omega arith)) refl

vars_block-short : (pairs : List Pair) → length (array_of (texts_of_pairs pairs)) < 65536 → vars_block pairs ≡ Some (array_of (texts_of_pairs pairs))
vars_block-short pairs short = rw (texts_short (texts_of_pairs pairs) short, lt-ltb (length (array_of (texts_of_pairs pairs))) 65536 short) refl

-- after the last pair the bytes are the whole array
whole_at_end : (pairs : List Pair) (i : ℕ) (block : List ℕ) → length pairs ≤ i → block ++ array_of (texts_of_pairs (drop i pairs)) ≡ array_of (texts_of_pairs pairs) → array_of (texts_of_pairs pairs) ≡ block
whole_at_end pairs i block end so_far =
    sym so_far ∙ ap (λ (rest : List Pair). block ++ array_of (texts_of_pairs rest)) (drop_all i pairs end) ∙ append-nil block

vars_block-long : (pairs : List Pair) → 65536 ≤ length (array_of (texts_of_pairs pairs)) → vars_block pairs ≡ None
vars_block-long pairs long =
    let small = list_all (λ text. ltb (length text) 65536) (texts_of_pairs pairs) in
    let fits = ltb (length (array_of (texts_of_pairs pairs))) 65536 in
    rw (and_right small fits (le-ltb (length (array_of (texts_of_pairs pairs))) 65536 long)) refl

-- behind the bytes so far come the two texts of the pair at a place, and then those of the others
with_pair : (pairs : List Pair) (i : ℕ) (pair : Pair) (block : List ℕ) → slice_get pairs i ≡ Some pair → block ++ array_of (texts_of_pairs (drop i pairs)) ≡ array_of (texts_of_pairs pairs)
    → block ++ (sized pair.key ++ (sized pair.value ++ array_of (texts_of_pairs (drop (i + 1) pairs)))) ≡ array_of (texts_of_pairs pairs)
with_pair pairs i pair block is so_far = ap (λ (rest : List Pair). block ++ array_of (texts_of_pairs rest)) (sym (drop_here pairs i pair is)) ∙ so_far

pub returns-then-not-branch : goal.returns-then-not-branch
returns-then-not-branch c =
    let pair : Pair = record { key = c.pair.result.0.now; value = c.pair.result.1.now } in
    let whole = with_pair c.args.vars.now c.loop-place.place pair c.loop-place.block c.pair.ensures c.loop-place.invariant.whole in
    let full : 65536 ≤ length c.loop-place.block + length (sized pair.key) = rw c.if-not-branch.true at c.in_ok-put_text.ensures.full in
    let rest = sized pair.value ++ array_of (texts_of_pairs (drop (c.loop-place.place + 1) c.args.vars.now)) in
    let long : 65536 ≤ length (c.loop-place.block ++ (sized pair.key ++ rest)) = rw (length-append c.loop-place.block (sized pair.key ++ rest), length-append (sized pair.key) rest) (omega arith) in
    sym (vars_block-long c.args.vars.now (rw whole at long))

pub returns-then-not-branch-2 : goal.returns-then-not-branch-2
returns-then-not-branch-2 c =
    let pair : Pair = record { key = c.pair.result.0.now; value = c.pair.result.1.now } in
    let whole = with_pair c.args.vars.now c.loop-place.place pair c.loop-place.block c.pair.ensures c.loop-place.invariant.whole in
    let named : c.put_text.new.block ≡ c.loop-place.block ++ sized pair.key = rw c.if-not-branch.false at c.in_ok-put_text.ensures.whole in
    let full : 65536 ≤ length c.put_text.new.block + length (sized pair.value) = rw c.if-not-branch-2.true at c.in_ok-put_text-2.ensures.full in
    let rest = array_of (texts_of_pairs (drop (c.loop-place.place + 1) c.args.vars.now)) in
    let lengths = ap length named ∙ length-append c.loop-place.block (sized pair.key) in
    let long : 65536 ≤ length (c.loop-place.block ++ (sized pair.key ++ (sized pair.value ++ rest))) =
    rw (length-append c.loop-place.block (sized pair.key ++ (sized pair.value ++ rest)), length-append (sized pair.key) (sized pair.value ++ rest), length-append (sized pair.value) rest) (omega arith) in
    sym (vars_block-long c.args.vars.now (rw whole at long))

pub loop-place-preserved : goal.loop-place-preserved
loop-place-preserved c =
    let pair : Pair = record { key = c.pair.result.0.now; value = c.pair.result.1.now } in
    let whole = with_pair c.args.vars.now c.loop-place.place pair c.loop-place.block c.pair.ensures c.loop-place.invariant.whole in
    let named : c.put_text.new.block ≡ c.loop-place.block ++ sized pair.key = rw c.if-not-branch.false at c.in_ok-put_text.ensures.whole in
    let put : c.put_text-in-loop-place.new.block ≡ c.put_text.new.block ++ sized pair.value = rw c.if-not-branch-2.false at c.in_ok-put_text-2.ensures.whole in
    let rest = array_of (texts_of_pairs (drop (c.loop-place.place + 1) c.args.vars.now)) in
    record {
      short = rw c.if-not-branch-2.false at c.in_ok-put_text-2.ensures.short;
      whole = rw (put, named, append_assoc (c.loop-place.block ++ sized pair.key) (sized pair.value) rest, append_assoc c.loop-place.block (sized pair.key) (sized pair.value ++ rest)) whole;
    }

pub returns : goal.returns
returns c =
    let whole = whole_at_end c.args.vars.now c.loop-place.place c.loop-place.block (omega arith) c.loop-place.invariant.whole in
    let written = vars_block-short c.args.vars.now (rw whole c.loop-place.invariant.short) in
    rw (written, whole) refl
