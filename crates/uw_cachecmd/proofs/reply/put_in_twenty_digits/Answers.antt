use Rattle.std.proofs.Common.{◌≡◌, ℕ, ◌-◌, ◌≤◌, List, [], ◌++◌, length, take, drop, replicate, ap, sym, ◌∙◌, arith}
use Rattle.std.specs.Fmt.{decimal}
use Rattle.std.proofs.lemmas.List.{append-nil, drop-replicate, take-replicate}
use Rattle.std.proofs.lemmas.Result.{on_ok_weaker}
use Rattle.uw_cachecmd.specs.Replies.{in_twenty_digits}
use Rattle.uw_cachecmd.proofs.reply.put_in_twenty_digits.Goals as goal

-- nothing of the zeros stands behind the digits
none_behind : (k : ℕ) → drop {A = ℕ} (20 - k) (drop k (replicate 20 48)) ≡ []
none_behind k =
    ap (drop {A = ℕ} (20 - k)) (drop-replicate k 20 48) ∙ drop-replicate (20 - k) (20 - k) 48 ∙ ap (λ (n : ℕ). replicate n 48) (let none : (20 - k) - (20 - k) ≡ 0 = omega arith in none)

-- a number behind its zeros
padded : (number : ℕ) (digits back : List ℕ) → digits ≡ decimal number → back ≡ digits
    → take (20 - length digits) (replicate 20 48) ++ (back ++ drop {A = ℕ} (20 - (20 - length digits)) (drop (20 - length digits) (replicate 20 48))) ≡ in_twenty_digits number
unfolding in_twenty_digits
padded number digits back is same =
    ap (λ (l : List ℕ). take (20 - length digits) (replicate 20 48) ++ (back ++ l)) (none_behind (20 - length digits))
    ∙ ap (λ (l : List ℕ). take (20 - length digits) (replicate 20 48) ++ l) (append-nil back)
    ∙ ap (λ (l : List ℕ). l ++ back) (take-replicate (20 - length digits) 20 48 (omega arith))
    ∙ ap (λ (l : List ℕ). replicate (20 - length digits) 48 ++ l) (same ∙ is)
    ∙ ap (λ (d : List ℕ). replicate (20 - length d) 48 ++ decimal number) is

pub returns-clause-ok : goal.returns-clause-ok
returns-clause-ok c =
    let digits = c.as_bytes-digits.result.now in
    on_ok_weaker c.append.result
    (λ is. is ∙ ap (λ (l : List ℕ). c.args.out.now ++ l) (padded c.args.number digits c.copy_from_slice.new.self (c.as_bytes-digits.ensures.value ∙ c.format.ensures.text) c.copy_from_slice.ensures.after))
    c.append.ensures.ok
