-- What several reads took, or several writes gave, taken together.
use Rattle.std.proofs.Common.{ℕ, List, [], ◌++◌, Option, None, Some, refl, sym, ap, append_assoc}
use Rattle.std.proofs.lemmas.List.{append-nil}
use Rattle.uw_outside.specs.Streams.{Takes, Gives}

-- taking nothing leaves a source as it is
pub Takes-none : (a : Option (List ℕ)) → Takes a a []
Takes-none None = refl
Takes-none (Some rest) = refl

-- these bytes and then those are the bytes of both
pub Takes-append : (a b c : Option (List ℕ)) (xs ys : List ℕ) → Takes a b xs → Takes b c ys → Takes a c (xs ++ ys)
Takes-append a b None xs ys first then = cc
Takes-append a b (Some rest) xs ys first then = let e = append_assoc xs ys rest in cc

-- giving nothing leaves a sink as it is
pub Gives-none : (a : Option (List ℕ)) → Gives a a []
Gives-none None = refl
Gives-none (Some taken) = ap Some (sym (append-nil taken))

-- these bytes and then those are the bytes of both
pub Gives-append : (a b c : Option (List ℕ)) (xs ys : List ℕ) → Gives a b xs → Gives b c ys → Gives a c (xs ++ ys)
Gives-append None b c xs ys first then = cc
Gives-append (Some taken) b c xs ys first then = let e = append_assoc taken xs ys in cc
