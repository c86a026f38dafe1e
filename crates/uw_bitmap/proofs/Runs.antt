-- A run is changed word by word.
use Rattle.std.proofs.Common.{◌≡◌, ◌≢◌, ◌⊎◌, ⊎_elim, ℕ, min, max, suc, ◌+◌, ◌-◌, ◌*◌, ◌/◌, ◌%◌, ◌<◌, ◌≤◌, Bool, true, false, ◌==◌, if◌then◌else◌, List, [], ◌∷◌, ◌++◌, length, refl, sym, ap, ◌∙◌, subst, arith}
use Rattle.std.specs.Int.{bit_at}
use Rattle.std.proofs.lemmas.Bool.{cases_eq, cases_lt}
use Rattle.std.proofs.lemmas.Bool.Decides.{nat_tests}
use Rattle.uw_words.specs.declared.shape.Shape.{Shape}
use Rattle.uw_words.specs.Plans.{Plan, Names, with_put, region}
use Rattle.uw_words.specs.Numbers.{places_from}
use Rattle.uw_words.specs.Parts.{seen, GrewAt, HasRoom}
use Rattle.uw_words.proofs.Growth.{grew_none, grew_put, grew_then, read_put, read_other, room_now, room_then, places_split}
use Rattle.uw_bitmap.specs.Bits.{is_marked, is_in_run, ChangesRun, run_places, word_of}
use Rattle.uw_bitmap.proofs.Blocks.{mark_is}

-- whether a block is in a run
pub in_run : (first n block : ℕ) → first ≤ block → block < first + n → is_in_run first n block ≡ true
in_run first n block behind before = grind (arith, nat_tests)

pub before_run : (first n block : ℕ) → block < first → is_in_run first n block ≡ false
before_run first n block before = grind (arith, nat_tests)

pub behind_run : (first n block : ℕ) → first + n ≤ block → is_in_run first n block ≡ false
behind_run first n block behind = grind (arith, nat_tests)

-- an empty run changes nothing
pub nothing_changed : (value : Bool) (marked : ℕ → Bool) (first : ℕ) → ChangesRun value marked marked first 0
nothing_changed value marked first = λ block. ⊎_elim
    (λ before. sym (ap (λ (b : Bool). if b then value else marked block) (before_run first 0 block before)))
    (λ behind. sym (ap (λ (b : Bool). if b then value else marked block) (behind_run first 0 block (omega arith)))) (cases_lt block first)

-- the words up to an index have the run's mark
pub record IsChangedUpTo (value : Bool) (shape : Shape) (words : List ℕ) (before now : Plan) (first n index : ℕ) : Type 0 where
  pub bits : ChangesRun value (is_marked (seen before words) shape) (is_marked (seen now words) shape) first (min (first + n) (64 * index) - first)
  pub grew : GrewAt (places_from (word_of shape first) (index - first / 64)) before now

module _ (value : Bool) (shape : Shape) (words : List ℕ) (before : Plan) (first n : ℕ) where
  abbrev old : ℕ → Bool
  old block = is_marked (seen before words) shape block

  pub none_changed : IsChangedUpTo value shape words before before first n (first / 64)
  none_changed =
      let none : 0 ≡ min (first + n) (64 * (first / 64)) - first = omega arith in
      let empty : 0 ≡ first / 64 - first / 64 = omega arith in
      record {
        bits = subst (λ (k : ℕ). ChangesRun value old old first k) none (nothing_changed value old first);
        grew = subst (λ (k : ℕ). GrewAt (places_from (word_of shape first) k) before before) empty (grew_none before);
      }

  pub all_changed : (now : Plan) → n ≢ 0 → IsChangedUpTo value shape words before now first n ((first + n - 1) / 64 + 1)
      → ChangesRun value old (is_marked (seen now words) shape) first n × GrewAt (run_places shape first n) before now
  all_changed now some changed =
      let all : min (first + n) (64 * ((first + n - 1) / 64 + 1)) - first ≡ n = omega (arith, some) in (
        subst (λ (k : ℕ). ChangesRun value old (is_marked (seen now words) shape) first k) all changed.bits,
        subst (λ (places : List ℕ). GrewAt places before now) (sym (run_is some)) changed.grew,
      )
    where
      run_is : n ≢ 0 → run_places shape first n ≡ places_from (word_of shape first) ((first + n - 1) / 64 + 1 - first / 64)
      run_is some = grind (arith, nat_tests)

  module _ (now : Plan) (index : ℕ) (changed : IsChangedUpTo value shape words before now first n index) (from_first : first / 64 ≤ index) (to_last : index < (first + n - 1) / 64 + 1) (some : n ≢ 0) where
    -- there is room for the next word
    pub room_for_next : HasRoom before (run_places shape first n) → (length now.writes < now.room) ⊎ Names now.writes (shape.bitmap + index)
    room_for_next room = room_now now (shape.bitmap + index) (places_from (shape.bitmap + index + 1) ((first + n - 1) / 64 - index)) (subst (HasRoom now) here
        (room_then (places_from (word_of shape first) (index - first / 64)) (places_from (word_of shape first + (index - first / 64)) ((first + n - 1) / 64 + 1 - index)) before now (subst (HasRoom before) split room) changed.grew))
      where
        split : run_places shape first n ≡ places_from (word_of shape first) (index - first / 64) ++ places_from (word_of shape first + (index - first / 64)) ((first + n - 1) / 64 + 1 - index)
        split =
            let sum : (first + n - 1) / 64 + 1 - first / 64 ≡ index - first / 64 + ((first + n - 1) / 64 + 1 - index) = omega arith in
            let whole : run_places shape first n ≡ places_from (word_of shape first) ((first + n - 1) / 64 + 1 - first / 64) = grind (arith, nat_tests) in
            whole ∙ ap (places_from (word_of shape first)) sum ∙ places_split (word_of shape first) (index - first / 64) ((first + n - 1) / 64 + 1 - index)

        here : places_from (word_of shape first + (index - first / 64)) ((first + n - 1) / 64 + 1 - index) ≡ (shape.bitmap + index) ∷ places_from (shape.bitmap + index + 1) ((first + n - 1) / 64 - index)
        here =
            let place : word_of shape first + (index - first / 64) ≡ shape.bitmap + index = omega arith in
            let more : (first + n - 1) / 64 + 1 - index ≡ suc ((first + n - 1) / 64 - index) = omega arith in
            ap (λ (at : ℕ). places_from at ((first + n - 1) / 64 + 1 - index)) place ∙ ap (places_from (shape.bitmap + index)) more

    module _ (word next from to : ℕ) (read : seen now words (shape.bitmap + index) ≡ word) (from_is : from ≡ max first (64 * index) - 64 * index) (to_is : to ≡ min (first + n) (64 * index + 64) - 64 * index)
        (inside : (i : ℕ) → from ≤ i → i < to → (bit_at next i == 1) ≡ value) (below : (i : ℕ) → i < from → bit_at next i ≡ bit_at word i)
        (above : (i : ℕ) → to ≤ i → i < 64 → bit_at next i ≡ bit_at word i) where
      abbrev later : Plan
      later = record now { writes = with_put now.writes (shape.bitmap + index) next }

      here : (reader : ℕ → ℕ) (w i : ℕ) → reader (shape.bitmap + index) ≡ w → i < 64 → is_marked reader shape (64 * index + i) ≡ (bit_at w i == 1)
      here reader w i is low =
          let same : 64 * index / 64 ≡ index = omega arith in
          mark_is reader shape (64 * index) w (omega arith) (ap (λ (q : ℕ). reader (shape.bitmap + q)) same ∙ is) i (bit_at w i) low refl

      was : (i : ℕ) → i < 64 → is_marked (seen now words) shape (64 * index + i) ≡ (bit_at word i == 1)
      was i low = here (seen now words) word i read low

      is : (i : ℕ) → i < 64 → is_marked (seen later words) shape (64 * index + i) ≡ (bit_at next i == 1)
      is i low = here (seen later words) next i (read_put now.writes (region words) (shape.bitmap + index) next) low

      abbrev done : ℕ
      done = min (first + n) (64 * index) - first

      abbrev more : ℕ
      more = min (first + n) (64 * (index + 1)) - first

      choice : (b : Bool) (block : ℕ) {c : Bool} → c ≡ b → (if b then value else old block) ≡ (if c then value else old block)
      choice b block same = ap (λ (x : Bool). if x then value else old block) (sym same)

      of_word : (i : ℕ) → i < 64 → is_marked (seen later words) shape (64 * index + i) ≡ (if is_in_run first more (64 * index + i) then value else old (64 * index + i))
      of_word i low = ⊎_elim
          (λ before_first. is i low ∙ ap (λ (b : ℕ). b == 1) (below i (omega (arith, from_is, before_first))) ∙ sym (was i low) ∙ changed.bits (64 * index + i)
          ∙ sym (choice false (64 * index + i) (before_run first done (64 * index + i) before_first)) ∙ choice false (64 * index + i) (before_run first more (64 * index + i) before_first))
          (λ behind_first. ⊎_elim
          (λ within. is i low ∙ inside i (omega (arith, from_is, behind_first)) (omega (arith, to_is, within)) ∙ choice true (64 * index + i) (in_run first more (64 * index + i) behind_first (omega (arith, within, low))))
          (λ past. is i low ∙ ap (λ (b : ℕ). b == 1) (above i (omega (arith, to_is, past)) low) ∙ sym (was i low) ∙ changed.bits (64 * index + i)
          ∙ sym (choice false (64 * index + i) (behind_run first done (64 * index + i) (omega (arith, past, some)))) ∙ choice false (64 * index + i) (behind_run first more (64 * index + i) (omega (arith, past, some))))
          (cases_lt (64 * index + i) (first + n)))
          (cases_lt (64 * index + i) first)

      same_run : (block : ℕ) → block / 64 ≢ index → is_in_run first done block ≡ is_in_run first more block
      same_run block other = ⊎_elim
          (λ before_first. before_run first done block before_first ∙ sym (before_run first more block before_first))
          (λ behind_first. ⊎_elim
          (λ early. ⊎_elim
          (λ within. in_run first done block behind_first (omega (arith, early, within)) ∙ sym (in_run first more block behind_first (omega (arith, early, within))))
          (λ past. behind_run first done block (omega (arith, past, some)) ∙ sym (behind_run first more block (omega (arith, past, some))))
          (cases_lt block (first + n)))
          (λ late. behind_run first done block (omega (arith, late, behind_first)) ∙ sym (behind_run first more block (omega (arith, late, other, from_first))))
          (cases_lt block (64 * index)))
          (cases_lt block first)

      elsewhere : (block : ℕ) → block / 64 ≢ index → is_marked (seen later words) shape block ≡ (if is_in_run first more block then value else old block)
      elsewhere block other =
          let apart : shape.bitmap + index ≢ word_of shape block = λ same. other (omega (arith, same)) in
          ap (λ (w : ℕ). bit_at w (block % 64) == 1) (read_other now.writes (region words) (shape.bitmap + index) next (word_of shape block) apart)
          ∙ changed.bits block ∙ ap (λ (b : Bool). if b then value else old block) (same_run block other)

      -- the next word has the run's mark too
      pub one_word_more : IsChangedUpTo value shape words before later first n (index + 1)
      one_word_more = record {
        bits = λ block. ⊎_elim
            (λ same. let there : 64 * index + block % 64 ≡ block = omega (arith, same) in
            subst (λ (b : ℕ). is_marked (seen later words) shape b ≡ (if is_in_run first more b then value else old b)) there (of_word (block % 64) (omega arith)))
            (λ other. elsewhere block other) (cases_eq (block / 64) index);
        grew =
            let count : index + 1 - first / 64 ≡ index - first / 64 + 1 = omega (arith, from_first) in
            let place : word_of shape first + (index - first / 64) ≡ shape.bitmap + index = omega (arith, from_first) in
            let split : places_from (word_of shape first) (index + 1 - first / 64) ≡ places_from (word_of shape first) (index - first / 64) ++ (shape.bitmap + index) ∷ [] =
            ap (places_from (word_of shape first)) count ∙ places_split (word_of shape first) (index - first / 64) 1 ∙ ap (λ (at : ℕ). places_from (word_of shape first) (index - first / 64) ++ at ∷ []) place in
            subst (λ (places : List ℕ). GrewAt places before later) (sym split)
            (grew_then (places_from (word_of shape first) (index - first / 64)) ((shape.bitmap + index) ∷ []) before now later changed.grew (grew_put now (shape.bitmap + index) next));
      }
