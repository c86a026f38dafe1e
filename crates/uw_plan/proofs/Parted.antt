-- Items and the entries that they hold, without one of both.
use Rattle.std.proofs.Common.{◌≡◌, ◌≢◌, inl, inr, ℕ, suc, ◌+◌, ◌<◌, ◌≤◌, ◌&&◌, ◌||◌, nat_le, Bool, true, false, not, List, [], ◌∷◌, length, refl, sym, ap, subst, arith}
use Rattle.std.specs.List.{list_all}
use Rattle.std.specs.Str.{bytes_eq}
use Rattle.std.proofs.lemmas.Slice.Eq.{bytes_eq-Decides}
use Rattle.std.proofs.lemmas.Bool.{and_from, false_from_ne_true, true_from_ne_false}
use Rattle.std.proofs.lemmas.Bool.Decides.{nat_tests}
use Rattle.uw_model.specs.declared.conf.CacheConf.{CacheConf}
use Rattle.uw_model.specs.declared.entries.Entry.{Entry}
use Rattle.uw_model.specs.Entries.{AreApart, IsApart, IsApartFrom, IsEntry, covers, span}
use Rattle.uw_model.specs.Placement.{is_clear_of}
use Rattle.uw_model.specs.Calls.{without}
use Rattle.uw_model.proofs.KeysLemmas.{same_key, without_none}
use Rattle.uw_model.proofs.StateLemmas.{lacks_apart}
use Rattle.uw_words.specs.declared.shape.Shape.{Shape}
use Rattle.uw_words.specs.Numbers.{AreDistinct, IsNoneOf, IsOneOf, without_number}
use Rattle.uw_words.proofs.Numbers.{not_none}
use Rattle.uw_plan.specs.Parts.{HoldEntries, HoldsEntry}
use Rattle.uw_plan.specs.Agreement.{is_covered}
use Rattle.uw_plan.specs.Plans.{IsPaired}

-- an item and its entry, and the others
pub data Parted : List ℕ → List Entry → ℕ → Entry → List ℕ → List Entry → Type 0 where
  here : {item : ℕ} {e : Entry} {items : List ℕ} {list : List Entry} → Parted (item ∷ items) (e ∷ list) item e items list
  there : {first item : ℕ} {o e : Entry} {items others : List ℕ} {list rest : List Entry} → Parted items list item e others rest
      → Parted (first ∷ items) (o ∷ list) item e (first ∷ others) (o ∷ rest)

pub paired_item : (items : List ℕ) (list : List Entry) (item : ℕ) (e : Entry) → IsPaired items list item e → IsOneOf items item
paired_item [] list item e paired = absurd paired
paired_item (first ∷ items) [] item e paired = absurd paired
paired_item (first ∷ items) (o ∷ list) item e (inl both) = inl both.0
paired_item (first ∷ items) (o ∷ list) item e (inr later) = inr (paired_item items list item e later)

pub paired_entry : (conf : CacheConf) (items : List ℕ) (list : List Entry) (item : ℕ) (e : Entry) → AreApart conf list → IsPaired items list item e → IsEntry conf e
paired_entry conf [] list item e apart paired = absurd paired
paired_entry conf (first ∷ items) [] item e apart paired = absurd paired
paired_entry conf (first ∷ items) (o ∷ list) item e apart (inl both) = subst (IsEntry conf) both.1 apart.0
paired_entry conf (first ∷ items) (o ∷ list) item e apart (inr later) = paired_entry conf items list item e apart.2 later

pub paired_holds : (reader : ℕ → ℕ) (shape : Shape) (items : List ℕ) (list : List Entry) (item : ℕ) (e : Entry) → HoldEntries reader shape items list → IsPaired items list item e
    → HoldsEntry reader shape item e
paired_holds reader shape [] list item e holds paired = absurd paired
paired_holds reader shape (first ∷ items) [] item e holds paired = absurd paired
paired_holds reader shape (first ∷ items) (o ∷ list) item e holds (inl both) =
    subst (λ (i : ℕ). HoldsEntry reader shape i e) both.0 (subst (HoldsEntry reader shape first) both.1 holds.0)
paired_holds reader shape (first ∷ items) (o ∷ list) item e holds (inr later) = paired_holds reader shape items list item e holds.1 later

-- an entry is apart from each of a list from which it is apart
pub apart_of : (conf : CacheConf) (o : Entry) (items : List ℕ) (list : List Entry) (item : ℕ) (e : Entry) → IsApartFrom conf o list → IsPaired items list item e → IsApart conf o e
apart_of conf o [] list item e apart paired = absurd paired
apart_of conf o (first ∷ items) [] item e apart paired = absurd paired
apart_of conf o (first ∷ items) (p ∷ list) item e apart (inl both) = subst (IsApart conf o) both.1 apart.0
apart_of conf o (first ∷ items) (p ∷ list) item e apart (inr later) = apart_of conf o items list item e apart.1 later

without_first : (number : ℕ) (numbers : List ℕ) → without_number (number ∷ numbers) number ≡ numbers
without_first number numbers = grind (arith, nat_tests)

without_later : (first number : ℕ) (numbers : List ℕ) → first ≢ number → without_number (first ∷ numbers) number ≡ first ∷ without_number numbers number
without_later first number numbers apart = grind (arith, nat_tests)

entries_first : (conf : CacheConf) (e : Entry) (list : List Entry) → IsApartFrom conf e list → without e.key (e ∷ list) ≡ list
entries_first conf e list apart = rw (same_key e.key) (without_none list e.key (lacks_apart conf e list apart))

entries_later : (conf : CacheConf) (o e : Entry) (list : List Entry) → IsApart conf o e → without e.key (o ∷ list) ≡ o ∷ without e.key list
entries_later conf o e list apart =
    let other : bytes_eq o.key e.key ≡ false = false_from_ne_true (bytes_eq o.key e.key) (λ same. apart.keys ((bytes_eq-Decides o.key e.key).0 same)) in
    rw other refl

-- distinct items and a state's entries are parted by an item and a key
pub parted : (conf : CacheConf) (items : List ℕ) (list : List Entry) (item : ℕ) (e : Entry) → AreDistinct items → AreApart conf list → IsPaired items list item e
    → Parted items list item e (without_number items item) (without e.key list)
parted conf [] list item e distinct apart paired = absurd paired
parted conf (first ∷ items) [] item e distinct apart paired = absurd paired
parted conf (first ∷ items) (o ∷ list) item e distinct apart (inl both) =
    let at_item : Parted (first ∷ items) (o ∷ list) first o (without_number (first ∷ items) first) (without o.key (o ∷ list)) =
    subst (λ (l : List ℕ). Parted (first ∷ items) (o ∷ list) first o l (without o.key (o ∷ list))) (sym (without_first first items))
    (subst (λ (l : List Entry). Parted (first ∷ items) (o ∷ list) first o items l) (sym (entries_first conf o list apart.1)) here) in
    subst (λ (i : ℕ). Parted (first ∷ items) (o ∷ list) i e (without_number (first ∷ items) i) (without e.key (o ∷ list))) both.0
    (subst (λ (x : Entry). Parted (first ∷ items) (o ∷ list) first x (without_number (first ∷ items) first) (without x.key (o ∷ list))) both.1 at_item)
parted conf (first ∷ items) (o ∷ list) item e distinct apart (inr later) =
    let other : first ≢ item = λ same. not_none items item (paired_item items list item e later) (subst (IsNoneOf items) same distinct.0) in
    let rest : Parted items list item e (without_number items item) (without e.key list) = parted conf items list item e distinct.1 apart.2 later in
    subst (λ (l : List ℕ). Parted (first ∷ items) (o ∷ list) item e l (without e.key (o ∷ list))) (sym (without_later first item items other))
    (subst (λ (l : List Entry). Parted (first ∷ items) (o ∷ list) item e (first ∷ without_number items item) l)
    (sym (entries_later conf o e list (apart_of conf o items list item e apart.1 later))) (there rest))

-- what the others keep
pub parted_length : {items others : List ℕ} {list rest : List Entry} {item : ℕ} {e : Entry} → Parted items list item e others rest → length list ≡ suc (length rest)
parted_length here = refl
parted_length (there parts) = ap suc (parted_length parts)

pub parted_hold : (reader : ℕ → ℕ) (shape : Shape) {items others : List ℕ} {list rest : List Entry} {item : ℕ} {e : Entry} → Parted items list item e others rest
    → HoldEntries reader shape items list → HoldEntries reader shape others rest
parted_hold reader shape here holds = holds.1
parted_hold reader shape (there parts) holds = (holds.0, parted_hold reader shape parts holds.1)

all_parted : (test : Entry → Bool) {items others : List ℕ} {list rest : List Entry} {item : ℕ} {e : Entry} → Parted items list item e others rest → test e ≡ true
    → list_all test list ≡ list_all test rest
all_parted test (here {e = e}) passes = rw passes refl
all_parted test (there {o = o} parts) passes = ap (λ (b : Bool). test o && b) (all_parted test parts passes)

-- an entry covers a block, or it is clear of it
pub clear_of : (conf : CacheConf) (e : Entry) (block : ℕ) → (covers conf e block → ⊥) → is_clear_of conf block 1 e ≡ true
clear_of conf e block off = clear e.first (span conf e.value) block off
  where
    clear : (first n b : ℕ) → ((first ≤ b) × (b < first + n) → ⊥) → (nat_le (first + n) b || nat_le (b + 1) first) ≡ true
    clear first n b none = true_from_ne_false (nat_le (first + n) b || nat_le (b + 1) first) (λ fails. none (let low : first ≤ b = grind (arith, nat_tests) in let high : b < first + n = grind (arith, nat_tests) in (low, high)))

others_clear : (conf : CacheConf) (e : Entry) (list : List Entry) (block : ℕ) → IsApartFrom conf e list → covers conf e block → list_all (is_clear_of conf block 1) list ≡ true
others_clear conf e [] block apart covered = refl
others_clear conf e (o ∷ list) block apart covered =
    and_from (is_clear_of conf block 1 o) (list_all (is_clear_of conf block 1) list) (clear_of conf o block (λ both. apart.0.blocks block covered both)) (others_clear conf e list block apart.1 covered)

clear_rest : (conf : CacheConf) (block : ℕ) {items others : List ℕ} {list rest : List Entry} {item : ℕ} {e : Entry} → Parted items list item e others rest → AreApart conf list
    → covers conf e block
    → list_all (is_clear_of conf block 1) rest ≡ true
clear_rest conf block (here {e = e} {list = list}) apart covered = others_clear conf e list block apart.1 covered
clear_rest conf block (there {o = o} {e = e} {list = list} {rest = rest} parts) apart covered =
    and_from (is_clear_of conf block 1 o) (list_all (is_clear_of conf block 1) rest)
    (clear_of conf o block (λ both. (apart_in conf o parts apart.1).blocks block both covered))
    (clear_rest conf block parts apart.2 covered)
  where
    apart_in : (c : CacheConf) (p : Entry) {items others : List ℕ} {list rest : List Entry} {item : ℕ} {x : Entry} → Parted items list item x others rest → IsApartFrom c p list → IsApart c p x
    apart_in c p here from = from.0
    apart_in c p (there inner) from = apart_in c p inner from.1

-- the blocks of the entry are covered no more, and all others as before
pub uncovered : (conf : CacheConf) (block : ℕ) {items others : List ℕ} {list rest : List Entry} {item : ℕ} {e : Entry} → Parted items list item e others rest → AreApart conf list
    → covers conf e block → is_covered conf rest block ≡ false
uncovered conf block parts apart covered = ap not (clear_rest conf block parts apart covered)

pub covered_as_before : (conf : CacheConf) (block : ℕ) {items others : List ℕ} {list rest : List Entry} {item : ℕ} {e : Entry} → Parted items list item e others rest
    → (covers conf e block → ⊥) → is_covered conf rest block ≡ is_covered conf list block
covered_as_before conf block {e = e} parts off = ap not (sym (all_parted (is_clear_of conf block 1) parts (clear_of conf e block off)))
