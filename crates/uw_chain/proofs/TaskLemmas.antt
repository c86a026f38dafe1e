-- The variables of tasks, their blocks and their rows.
use Rattle.std.proofs.Common.{◌≡◌, refl, sym, ap, ◌∙◌, subst, ℕ, zero, suc, ◌+◌, ◌-◌, ◌<◌, ◌≤◌, Bool, true, false, not, ◌&&◌, if◌then◌else◌, ltb, List, [], ◌∷◌, ◌++◌, length, drop, slice_get, get_or, Option, None, Some, Result, Ok, Err, is_some, append_assoc, length-append, arith}
use Rattle.std.specs.Prelude.{codes, IsSome, nat_lt, filter, option_map}
use Rattle.std.specs.List.{list_all}
use Rattle.std.specs.Str.{bytes_eq}
use Rattle.std.proofs.lemmas.Bool.{false≢true, lt-ltb, le-ltb, ltb-true}
use Rattle.std.proofs.lemmas.List.{append-nil, drop_all}
use Rattle.uw_base.specs.declared.variables.Pair.{Pair}
use Rattle.uw_base.proofs.VariableLemmas.{drop_here}
use Rattle.uw_packet.specs.Blocks.{array_of, sized, texts_of_pairs}
use Rattle.uw_packet.specs.BlockReads.{vars_block}
use Rattle.uw_rules.specs.declared.compiled.TaskPair.{TaskPair}
use Rattle.uw_chain.specs.Actions.{filled_pairs, with_pair_filled}
use Rattle.uw_chain.specs.RoutingSteps.{behind_pairs}
use Rattle.uw_chain.specs.Spooling.{task_vars}

-- ---- blocks

-- texts whose array is short are short
texts_short : (texts : List (List ℕ)) → length (array_of texts) < 65536 → list_all (λ text. nat_lt (length text) 65536) texts ≡ true
texts_short [] short = refl
texts_short (text ∷ texts) short =
    let lengths = length-append (sized text) (array_of texts) in
    rw (lt-ltb (length text) 65536 (omega arith), texts_short texts (omega arith)) refl

picked : (first second : Bool) (block : List ℕ) → (second ≡ true → first ≡ true) → is_some (if first && second then Some block else None) ≡ second
picked true true block h = refl
picked true false block h = refl
picked false true block h = absurd (false≢true (h refl))
picked false false block h = refl

-- variables have a block just where it is short
pub block_is_short : (pairs : List Pair) → is_some (vars_block pairs) ≡ nat_lt (length (array_of (texts_of_pairs pairs))) 65536
block_is_short pairs =
    picked (list_all (λ text. nat_lt (length text) 65536) (texts_of_pairs pairs)) (nat_lt (length (array_of (texts_of_pairs pairs))) 65536) (array_of (texts_of_pairs pairs))
    (λ short. texts_short (texts_of_pairs pairs) (ltb-true (length (array_of (texts_of_pairs pairs))) 65536 short))

-- a block of so many bytes
pub has_short_block : (pairs : List Pair) (size : ℕ) → length (array_of (texts_of_pairs pairs)) ≡ size → size < 65536 → true ≡ is_some (vars_block pairs)
has_short_block pairs size is short = sym (block_is_short pairs ∙ lt-ltb (length (array_of (texts_of_pairs pairs))) 65536 (omega (arith, is)))

-- no block of so many bytes
pub has_no_block : (pairs : List Pair) (size : ℕ) → length (array_of (texts_of_pairs pairs)) ≡ size → 65536 ≤ size → false ≡ is_some (vars_block pairs)
has_no_block pairs size is long = sym (block_is_short pairs ∙ le-ltb (length (array_of (texts_of_pairs pairs))) 65536 (omega (arith, is)))

-- the bytes of a pair in a block
pair_length : (pair : Pair) (pairs : List Pair)
    → length (array_of (texts_of_pairs (pair ∷ pairs))) ≡ 4 + length pair.key + length pair.value + length (array_of (texts_of_pairs pairs))
pair_length pair pairs =
    let key = length-append (sized pair.key) (array_of (pair.value ∷ texts_of_pairs pairs)) in
    let value = length-append (sized pair.value) (array_of (texts_of_pairs pairs)) in
    omega (arith, key, value)

-- ---- variables of tasks

-- fewer pairs have no longer block
fewer_with : (pair : Pair) (pairs : List Pair) (test : Bool) → not (bytes_eq pair.key (codes "body")) ≡ test
    → length (array_of (texts_of_pairs (task_vars pairs))) ≤ length (array_of (texts_of_pairs pairs))
    → length (array_of (texts_of_pairs (task_vars (pair ∷ pairs)))) ≤ length (array_of (texts_of_pairs (pair ∷ pairs)))
fewer_with pair pairs true e rest = rw e (omega (arith, rest, pair_length pair pairs, pair_length pair (task_vars pairs)))
fewer_with pair pairs false e rest = rw e (omega (arith, rest, pair_length pair pairs))

fewer_bytes : (pairs : List Pair) → length (array_of (texts_of_pairs (task_vars pairs))) ≤ length (array_of (texts_of_pairs pairs))
fewer_bytes [] = omega arith
fewer_bytes (pair ∷ pairs) = fewer_with pair pairs (not (bytes_eq pair.key (codes "body"))) refl (fewer_bytes pairs)

-- the variables of a task have a block where its pairs have one
pub task_has_block : (pairs vars : List Pair) → vars ≡ task_vars pairs → IsSome (vars_block pairs) → IsSome (vars_block vars)
task_has_block pairs vars is h =
    let short = ltb-true (length (array_of (texts_of_pairs pairs))) 65536 (sym (block_is_short pairs) ∙ h) in
    rw is (sym (has_short_block (task_vars pairs) (length (array_of (texts_of_pairs (task_vars pairs)))) refl (omega (arith, short, fewer_bytes pairs))))

-- behind the last pair
pub whole_block : (pairs : List Pair) (at size : ℕ) → length pairs ≤ at → size + length (array_of (texts_of_pairs (drop at pairs))) ≡ length (array_of (texts_of_pairs pairs))
    → length (array_of (texts_of_pairs pairs)) ≡ size
whole_block pairs at size end so_far =
    let none : length (array_of (texts_of_pairs (drop at pairs))) ≡ 0 = ap (λ (rest : List Pair). length (array_of (texts_of_pairs rest))) (drop_all at pairs end) in
    omega (arith, none, so_far)

-- the bytes of a pair, between those before it and those behind it
pub with_pair : (pairs : List Pair) (at size : ℕ) (pair : Pair) → slice_get pairs at ≡ Some pair → size + length (array_of (texts_of_pairs (drop at pairs))) ≡ length (array_of (texts_of_pairs pairs))
    → size + (4 + length pair.key + length pair.value + length (array_of (texts_of_pairs (drop (at + 1) pairs)))) ≡ length (array_of (texts_of_pairs pairs))
with_pair pairs at size pair is so_far =
    let here : length (array_of (texts_of_pairs (drop at pairs))) ≡ length (array_of (texts_of_pairs (pair ∷ drop (at + 1) pairs))) =
    ap (λ (rest : List Pair). length (array_of (texts_of_pairs rest))) (drop_here pairs at pair is) in
    omega (arith, here, pair_length pair (drop (at + 1) pairs), so_far)

-- ---- the variables so far

-- a pair that is no body is one more
pub with_variable : (pairs vars now : List Pair) (at : ℕ) (pair : Pair) → slice_get pairs at ≡ Some pair → bytes_eq pair.key (codes "body") ≡ false → now ≡ vars ++ pair ∷ []
    → vars ++ task_vars (drop at pairs) ≡ task_vars pairs → now ++ task_vars (drop (at + 1) pairs) ≡ task_vars pairs
with_variable pairs vars now at pair is other put so_far =
    let rest = drop (at + 1) pairs in
    let kept : task_vars (pair ∷ rest) ≡ pair ∷ task_vars rest = rw other refl in
    ap (λ (front : List Pair). front ++ task_vars rest) put ∙ append_assoc vars (pair ∷ []) (task_vars rest)
    ∙ ap (λ (more : List Pair). vars ++ more) (sym kept) ∙ ap (λ (more : List Pair). vars ++ task_vars more) (sym (drop_here pairs at pair is)) ∙ so_far

-- the body is passed over
pub without_body : (pairs vars : List Pair) (at : ℕ) (pair : Pair) → slice_get pairs at ≡ Some pair → bytes_eq pair.key (codes "body") ≡ true
    → vars ++ task_vars (drop at pairs) ≡ task_vars pairs → vars ++ task_vars (drop (at + 1) pairs) ≡ task_vars pairs
without_body pairs vars at pair is body so_far =
    let rest = drop (at + 1) pairs in
    let passed : task_vars (pair ∷ rest) ≡ task_vars rest = rw body refl in
    ap (λ (more : List Pair). vars ++ more) (sym passed) ∙ ap (λ (more : List Pair). vars ++ task_vars more) (sym (drop_here pairs at pair is)) ∙ so_far

-- ---- filled pairs

-- pairs behind none
pub behind_none : (pairs : Option (List Pair)) → behind_pairs [] pairs ≡ pairs
behind_none None = refl
behind_none (Some pairs) = refl
