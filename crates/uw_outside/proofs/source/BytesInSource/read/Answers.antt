use Rattle.std.proofs.Common.{◌≡◌, ◌+◌, ◌-◌, List, ◌++◌, ℕ, length, take, drop, ap, sym, ◌∙◌, arith}
use Rattle.std.proofs.lemmas.List.{drop-drop, take-append-drop, take_rest}
use Rattle.uw_outside.proofs.source.BytesInSource.read.Goals as goal

-- what is left: what this read gives, and what is left after it
rest_after : (bytes : List ℕ) (given count : ℕ) → drop given bytes ≡ take count (drop given bytes) ++ drop (given + count) bytes
rest_after bytes given count =
    sym (take-append-drop count (drop given bytes)) ∙ ap (λ later. take count (drop given bytes) ++ later) (drop-drop count given bytes)

pub returns-clause-bytes : goal.returns-clause-bytes
returns-clause-bytes c =
    let now = c.deref-2.result.now in
    let given = c.self.inside.given in
    let bytes = c.self.inside.bytes.items in
    let rest : take (length now - given) (drop given now) ≡ drop given now = take_rest now given in
    let front = c.copy_front-count.ensures.front in
    let after = rest_after bytes given c.copy_front-count.result in
    let left : c.args.self.now.left ≡ drop given bytes = ap (λ v. v.left) (sym c.self.view_is) in
    (omega arith, omega arith, cc)
