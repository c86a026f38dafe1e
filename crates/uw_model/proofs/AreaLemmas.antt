-- The laws of the areas: bytes in place of others, and numbers as bytes.
use Rattle.std.proofs.Common.{inl, inr, ◌≡◌, ℕ, ◌+◌, ◌-◌, ◌%◌, ◌^◌, ◌<◌, ◌≤◌, ◌⊎◌, ◌↔◌, ◌&&◌, not, nat_le, true, false, cond, List, ◌++◌, length, take, drop, get_or, IsTrue, refl, subst, sym, ap, ◌∙◌, arith}
use Rattle.std.specs.List.{slice_range, splice}
use Rattle.std.proofs.Math.Nat.{add-mod-mod, mod-add-mod, add-mod_right, mod-eq_of_lt}
use Rattle.std.proofs.lemmas.Bool.{le-leb}
use Rattle.std.proofs.lemmas.Bool.Decides.{leb_tells}
use Rattle.std.proofs.lemmas.List.{drop_at, get_or-append_right, get_or-drop, get_or-take, get_or_append_left, length-append, length-drop, length-take-le, take_at}
use Rattle.std.proofs.lemmas.Nat.{from_le_bytes-to_le_bytes_2, from_le_bytes-to_le_bytes_4, from_le_bytes-to_le_bytes_8, mod_below, pow_pos}
use Rattle.uw_model.specs.declared.areas.AreaAnswer.{AreaAnswer}
use Rattle.uw_model.specs.declared.areas.AreaAnswer.TheVariants as answers
use Rattle.uw_model.specs.declared.areas.AreaOp.{AreaOp}
use Rattle.uw_model.specs.declared.areas.AreaOp.TheVariants as ops
use Rattle.uw_model.specs.declared.areas.Width.{Width}
use Rattle.uw_model.specs.declared.areas.Width.TheVariants as widths
use Rattle.uw_model.specs.AreaLaws.{is_area_write, is_out_of_area, op_end, op_start}
use Rattle.uw_model.specs.AreaOps.{AreaState, area_answer, area_next, bytes_in_width, difference_in, number_at_place, number_of_bytes, sum_in, width_bits, width_bytes, with_bytes, within_area}

-- ---- bytes in place of others

module _ (bytes put : List ℕ) (at : ℕ) (within : at + length put ≤ length bytes) where
  front_long : length (take at bytes) ≡ at
  front_long = length-take-le at bytes (omega arith)

  pub spliced_size : length (splice bytes at (at + length put) put) ≡ length bytes
  spliced_size = simp (length-append, length-drop) (omega (arith, front_long))

  pub spliced_read : slice_range (splice bytes at (at + length put) put) at (at + length put) ≡ put
  spliced_read =
      let len : (at + length put) - at ≡ length put = omega arith in
      rw (drop_at (take at bytes) (put ++ drop (at + length put) bytes) at front_long, len) (take_at put (drop (at + length put) bytes) (length put) refl)

  pub spliced_before : (place : ℕ) → place < at → get_or (splice bytes at (at + length put) put) place 0 ≡ get_or bytes place 0
  spliced_before place before =
      get_or_append_left (take at bytes) (put ++ drop (at + length put) bytes) 0 place (omega (arith, front_long)) ∙ get_or-take at bytes place 0 before

  pub spliced_behind : (place : ℕ) → at + length put ≤ place → get_or (splice bytes at (at + length put) put) place 0 ≡ get_or bytes place 0
  spliced_behind place behind =
      let same : (at + length put) + ((place - at) - length put) ≡ place = omega arith in
      get_or-append_right (take at bytes) (put ++ drop (at + length put) bytes) at place 0 front_long (omega arith)
      ∙ get_or-append_right put (drop (at + length put) bytes) (length put) (place - at) 0 refl (omega arith)
      ∙ get_or-drop (at + length put) bytes ((place - at) - length put) 0
      ∙ ap (λ n. get_or bytes n 0) same

-- ---- one write

-- an area after bytes were put into it
abbrev put_into : AreaState → ℕ → List ℕ → AreaState
put_into a at put = record { bytes = splice a.bytes at (at + length put) put; updates = (a.updates + 1) % 2 ^ 64 }

is_put : (a : AreaState) (at : ℕ) (put : List ℕ) → at + length put ≤ length a.bytes → with_bytes a at put ≡ put_into a at put
is_put a at put within = rw (le-leb (at + length put) (length a.bytes) within) refl

-- a slice lies within the area or not
abbrev Tells : AreaState → ℕ → Type 0
Tells a end = ((nat_le end (length a.bytes) ≡ true) × (end ≤ length a.bytes)) ⊎ ((nat_le end (length a.bytes) ≡ false) × (length a.bytes < end))

tells : (a : AreaState) (end : ℕ) → Tells a end
tells a end = leb_tells end (length a.bytes)

module _ (a : AreaState) (at len : ℕ) (given : AreaAnswer) (fine : is_out_of_area given ≡ false) where
  refused_where : IsTrue (is_out_of_area (within_area a at len given)) ↔ (length a.bytes < at + len)
  refused_where = elim (tells a (at + len)) [
    | inl here ↦ rw (here.0, fine) ((λ t. cc), (λ t. absurd (omega arith)))
    | inr past ↦ rw past.0 ((λ t. past.1), (λ t. refl))
  ]

  refused_keeps : (put : List ℕ) → length put ≡ len → IsTrue (is_out_of_area (within_area a at len given)) → with_bytes a at put ≡ a
  refused_keeps put long refused = elim (tells a (at + length put)) [
    | inl here ↦ absurd (let t : length a.bytes < at + len = refused_where.0 refused in omega arith)
    | inr past ↦ rw past.0 refl
  ]

  counted_write : (put : List ℕ) → length put ≡ len
      → (with_bytes a at put).updates ≡ cond (not (is_out_of_area (within_area a at len given))) ((a.updates + 1) % 2 ^ 64) a.updates
  counted_write put long = rw (← long) (elim (tells a (at + length put)) [ inl here ↦ rw (here.0, fine) refl | inr past ↦ rw past.0 refl ])

module _ (a : AreaState) (at : ℕ) (put : List ℕ) where
  put_size : length (with_bytes a at put).bytes ≡ length a.bytes
  put_size = elim (tells a (at + length put)) [ inl here ↦ rw here.0 (spliced_size a.bytes put at here.1) | inr past ↦ rw past.0 refl ]

  put_outside : (place : ℕ) → (place < at) ⊎ (at + length put ≤ place) → get_or (with_bytes a at put).bytes place 0 ≡ get_or a.bytes place 0
  put_outside place apart = elim (tells a (at + length put)) [
    | inl here ↦ rw here.0 (elim apart [ inl before ↦ spliced_before a.bytes put at here.1 place before | inr behind ↦ spliced_behind a.bytes put at here.1 place behind ])
    | inr past ↦ rw past.0 refl
  ]

-- ---- numbers

in_width_long : (width : Width) (number : ℕ) → length (bytes_in_width width number) ≡ width_bytes width
in_width_long widths.W8 number = refl
in_width_long widths.W16 number = refl
in_width_long widths.W32 number = refl
in_width_long widths.W64 number = refl

one_byte : (number : ℕ) → number % 2 ^ 8 % 256 ≡ number % 2 ^ 8
one_byte number = omega arith

pub number_back : (width : Width) (number : ℕ) → number_of_bytes width (bytes_in_width width number) ≡ number % 2 ^ width_bits width
number_back widths.W8 number = one_byte number
number_back widths.W16 number = from_le_bytes-to_le_bytes_2 (number % 2 ^ 16) (mod_below number (2 ^ 16) (pow_pos 16))
number_back widths.W32 number = from_le_bytes-to_le_bytes_4 (number % 2 ^ 32) (mod_below number (2 ^ 32) (pow_pos 32))
number_back widths.W64 number = from_le_bytes-to_le_bytes_8 (number % 2 ^ 64) (mod_below number (2 ^ 64) (pow_pos 64))

-- a slice that is not refused lies within the area
not_refused : (a : AreaState) (at len : ℕ) (given said : AreaAnswer) → within_area a at len given ≡ said → is_out_of_area said ≡ false → at + len ≤ length a.bytes
not_refused a at len given said e fine = elim (tells a (at + len)) [
  | inl here ↦ here.1
  | inr past ↦ let no : true ≡ false = ap is_out_of_area (rw past.0 at e) ∙ fine in cc
]

answered : (a : AreaState) (at len : ℕ) (given : AreaAnswer) → at + len ≤ length a.bytes → within_area a at len given ≡ given
answered a at len given within = rw (le-leb (at + len) (length a.bytes) within) refl

-- the number of a place at which one was written
written_number : (a : AreaState) (at : ℕ) (width : Width) (number : ℕ) → at + width_bytes width ≤ length a.bytes
    → number_at_place (with_bytes a at (bytes_in_width width number)) at width ≡ number % 2 ^ width_bits width
written_number a at width number within =
    let put = bytes_in_width width number in
    let long : length put ≡ width_bytes width = in_width_long width number in
    let fits : at + length put ≤ length a.bytes = omega arith in
    ap (λ (s : AreaState). number_at_place s at width) (is_put a at put fits)
    ∙ ap (λ n. number_of_bytes width (slice_range (splice a.bytes at (at + length put) put) at (at + n))) (sym long)
    ∙ ap (number_of_bytes width) (spliced_read a.bytes put at fits)
    ∙ number_back width number

-- an answer of a number after one was written at its place
after_number : (a : AreaState) (at : ℕ) (width : Width) (number : ℕ) (given : AreaAnswer) → at + width_bytes width ≤ length a.bytes
    → within_area (with_bytes a at (bytes_in_width width number)) at (width_bytes width) given ≡ given
after_number a at width number given within =
    let long = put_size a at (bytes_in_width width number) in
    answered (with_bytes a at (bytes_in_width width number)) at (width_bytes width) given (omega (arith, long))

pub bytes_read_back : (a : AreaState) (at : ℕ) (put : List ℕ) → area_answer a (ops.Write at put) ≡ answers.Done
    → area_answer (area_next a (ops.Write at put)) (ops.Read at (length put)) ≡ answers.Bytes put
unfolding area_answer area_next
bytes_read_back a at put done =
    let within : at + length put ≤ length a.bytes = not_refused a at (length put) answers.Done answers.Done done refl in
    let next = with_bytes a at put in
    let long : length next.bytes ≡ length a.bytes = put_size a at put in
    answered next at (length put) (answers.Bytes (slice_range next.bytes at (at + length put))) (omega (arith, long))
    ∙ ap answers.Bytes (ap (λ (s : AreaState). slice_range s.bytes at (at + length put)) (is_put a at put within) ∙ spliced_read a.bytes put at within)

pub number_read_back : (a : AreaState) (at : ℕ) (width : Width) (value : ℕ) → area_answer a (ops.WriteNum at width value) ≡ answers.Done
    → area_answer (area_next a (ops.WriteNum at width value)) (ops.ReadNum at width) ≡ answers.Number (value % 2 ^ width_bits width)
unfolding area_answer area_next
number_read_back a at width value done =
    let within : at + width_bytes width ≤ length a.bytes = not_refused a at (width_bytes width) answers.Done answers.Done done refl in
    let next = with_bytes a at (bytes_in_width width value) in
    after_number a at width value (answers.Number (number_at_place next at width)) within ∙ ap answers.Number (written_number a at width value within)

-- a number that is read lies within the area, and is the number at its place
read_tells : (a : AreaState) (at : ℕ) (width : Width) (before : ℕ) → area_answer a (ops.ReadNum at width) ≡ answers.Number before
    → (at + width_bytes width ≤ length a.bytes) × (number_at_place a at width ≡ before)
unfolding area_answer
read_tells a at width before told =
    let within : at + width_bytes width ≤ length a.bytes = not_refused a at (width_bytes width) (answers.Number (number_at_place a at width)) (answers.Number before) told refl in
    let same : answers.Number (number_at_place a at width) ≡ answers.Number before = sym (answered a at (width_bytes width) (answers.Number (number_at_place a at width)) within) ∙ told in
    (within, cc)

pub increments_added : (a : AreaState) (at : ℕ) (width : Width) (before one two : ℕ) → area_answer a (ops.ReadNum at width) ≡ answers.Number before
    → area_answer (area_next a (ops.IncNum at width one)) (ops.IncNum at width two) ≡ answers.Number ((before + one + two) % 2 ^ width_bits width)
unfolding area_answer area_next
increments_added a at width before one two told =
    let read = read_tells a at width before told in
    let m = 2 ^ width_bits width in
    let sum = sum_in width (number_at_place a at width) one in
    let next = with_bytes a at (bytes_in_width width sum) in
    after_number a at width sum (answers.Number (sum_in width (number_at_place next at width) two)) read.0
    ∙ ap (λ n. answers.Number (sum_in width n two)) (written_number a at width sum read.0)
    ∙ ap answers.Number (mod-add-mod sum m two ∙ mod-add-mod (number_at_place a at width + one) m two ∙ ap (λ n. (n + one + two) % m) read.1)

-- a number with an amount taken from it and added
around : (m number by : ℕ) → 0 < m → number < m → ((number + (m - by % m)) + by) % m ≡ number
around m number by some below =
    let left : by % m < m = mod_below by m some in
    let whole : (number + (m - by % m)) + by % m ≡ number + m = omega arith in
    sym (add-mod-mod (number + (m - by % m)) by m) ∙ ap (λ n. n % m) whole ∙ add-mod_right number m ∙ mod-eq_of_lt below

pub increment_taken_back : (a : AreaState) (at : ℕ) (width : Width) (before by : ℕ) → area_answer a (ops.ReadNum at width) ≡ answers.Number before → before < 2 ^ width_bits width
    → area_answer (area_next a (ops.IncNum at width by)) (ops.DecNum at width by) ≡ answers.Number before
unfolding area_answer area_next
increment_taken_back a at width before by told below =
    let read = read_tells a at width before told in
    let m = 2 ^ width_bits width in
    let sum = sum_in width (number_at_place a at width) by in
    let next = with_bytes a at (bytes_in_width width sum) in
    let turned : (before + by) + (m - by % m) ≡ (before + (m - by % m)) + by = omega arith in
    after_number a at width sum (answers.Number (difference_in width (number_at_place next at width) by)) read.0
    ∙ ap (λ n. answers.Number (difference_in width n by)) (written_number a at width sum read.0)
    ∙ ap answers.Number (mod-add-mod sum m (m - by % m) ∙ mod-add-mod (number_at_place a at width + by) m (m - by % m)
    ∙ ap (λ n. ((n + by) + (m - by % m)) % m) read.1 ∙ ap (λ n. n % m) turned ∙ around m before by (pow_pos (width_bits width)) below)

pub decrement_taken_back : (a : AreaState) (at : ℕ) (width : Width) (before by : ℕ) → area_answer a (ops.ReadNum at width) ≡ answers.Number before → before < 2 ^ width_bits width
    → area_answer (area_next a (ops.DecNum at width by)) (ops.IncNum at width by) ≡ answers.Number before
unfolding area_answer area_next
decrement_taken_back a at width before by told below =
    let read = read_tells a at width before told in
    let m = 2 ^ width_bits width in
    let difference = difference_in width (number_at_place a at width) by in
    let next = with_bytes a at (bytes_in_width width difference) in
    after_number a at width difference (answers.Number (sum_in width (number_at_place next at width) by)) read.0
    ∙ ap (λ n. answers.Number (sum_in width n by)) (written_number a at width difference read.0)
    ∙ ap answers.Number (mod-add-mod difference m by ∙ mod-add-mod (number_at_place a at width + (m - by % m)) m by
    ∙ ap (λ n. ((n + (m - by % m)) + by) % m) read.1 ∙ around m before by (pow_pos (width_bits width)) below)

-- ---- every operation

pub refused_exactly : (a : AreaState) (op : AreaOp) → IsTrue (is_out_of_area (area_answer a op)) ↔ (length a.bytes < op_end op)
unfolding area_answer
refused_exactly a (ops.Read at len) = refused_where a at len (answers.Bytes (slice_range a.bytes at (at + len))) refl
refused_exactly a (ops.Write at put) = refused_where a at (length put) answers.Done refl
refused_exactly a (ops.ReadNum at width) = refused_where a at (width_bytes width) (answers.Number (number_at_place a at width)) refl
refused_exactly a (ops.WriteNum at width value) = refused_where a at (width_bytes width) answers.Done refl
refused_exactly a (ops.IncNum at width by) = refused_where a at (width_bytes width) (answers.Number (sum_in width (number_at_place a at width) by)) refl
refused_exactly a (ops.DecNum at width by) = refused_where a at (width_bytes width) (answers.Number (difference_in width (number_at_place a at width) by)) refl
refused_exactly a ops.Updates = ((λ t. cc), (λ t. absurd (omega arith)))

pub refused_same : (a : AreaState) (op : AreaOp) → IsTrue (is_out_of_area (area_answer a op)) → area_next a op ≡ a
unfolding area_answer area_next
refused_same a (ops.Read at len) t = refl
refused_same a (ops.Write at put) t = refused_keeps a at (length put) answers.Done refl put refl t
refused_same a (ops.ReadNum at width) t = refl
refused_same a (ops.WriteNum at width value) t = refused_keeps a at (width_bytes width) answers.Done refl (bytes_in_width width value) (in_width_long width value) t
refused_same a (ops.IncNum at width by) t =
    let sum = sum_in width (number_at_place a at width) by in
    refused_keeps a at (width_bytes width) (answers.Number sum) refl (bytes_in_width width sum) (in_width_long width sum) t
refused_same a (ops.DecNum at width by) t =
    let difference = difference_in width (number_at_place a at width) by in
    refused_keeps a at (width_bytes width) (answers.Number difference) refl (bytes_in_width width difference) (in_width_long width difference) t
refused_same a ops.Updates t = refl

pub writes_counted : (a : AreaState) (op : AreaOp)
    → (area_next a op).updates ≡ cond (is_area_write op && not (is_out_of_area (area_answer a op))) ((a.updates + 1) % 2 ^ 64) a.updates
unfolding area_answer area_next
writes_counted a (ops.Read at len) = refl
writes_counted a (ops.Write at put) = counted_write a at (length put) answers.Done refl put refl
writes_counted a (ops.ReadNum at width) = refl
writes_counted a (ops.WriteNum at width value) = counted_write a at (width_bytes width) answers.Done refl (bytes_in_width width value) (in_width_long width value)
writes_counted a (ops.IncNum at width by) =
    let sum = sum_in width (number_at_place a at width) by in
    counted_write a at (width_bytes width) (answers.Number sum) refl (bytes_in_width width sum) (in_width_long width sum)
writes_counted a (ops.DecNum at width by) =
    let difference = difference_in width (number_at_place a at width) by in
    counted_write a at (width_bytes width) (answers.Number difference) refl (bytes_in_width width difference) (in_width_long width difference)
writes_counted a ops.Updates = refl

pub size_stays : (a : AreaState) (op : AreaOp) → length (area_next a op).bytes ≡ length a.bytes
unfolding area_next
size_stays a (ops.Read at len) = refl
size_stays a (ops.Write at put) = put_size a at put
size_stays a (ops.ReadNum at width) = refl
size_stays a (ops.WriteNum at width value) = put_size a at (bytes_in_width width value)
size_stays a (ops.IncNum at width by) = put_size a at (bytes_in_width width (sum_in width (number_at_place a at width) by))
size_stays a (ops.DecNum at width by) = put_size a at (bytes_in_width width (difference_in width (number_at_place a at width) by))
size_stays a ops.Updates = refl

-- a number that is written leaves the bytes outside its place
number_outside : (a : AreaState) (at : ℕ) (width : Width) (number place : ℕ) → (place < at) ⊎ (at + width_bytes width ≤ place)
    → get_or (with_bytes a at (bytes_in_width width number)).bytes place 0 ≡ get_or a.bytes place 0
number_outside a at width number place apart =
    let Apart : ℕ → Type 0 = λ n. (place < at) ⊎ (at + n ≤ place) in
    put_outside a at (bytes_in_width width number) place (subst Apart (sym (in_width_long width number)) apart)

pub bytes_stay : (a : AreaState) (op : AreaOp) (place : ℕ) → (place < op_start op) ⊎ (op_end op ≤ place) → get_or (area_next a op).bytes place 0 ≡ get_or a.bytes place 0
unfolding area_next
bytes_stay a (ops.Read at len) place apart = refl
bytes_stay a (ops.Write at put) place apart = put_outside a at put place apart
bytes_stay a (ops.ReadNum at width) place apart = refl
bytes_stay a (ops.WriteNum at width value) place apart = number_outside a at width value place apart
bytes_stay a (ops.IncNum at width by) place apart = number_outside a at width (sum_in width (number_at_place a at width) by) place apart
bytes_stay a (ops.DecNum at width by) place apart = number_outside a at width (difference_in width (number_at_place a at width) by) place apart
bytes_stay a ops.Updates place apart = refl

pub read_same : (a : AreaState) (op : AreaOp) → IsTrue (not (is_area_write op)) → area_next a op ≡ a
unfolding area_next
read_same a (ops.Read at len) t = refl
read_same a (ops.Write at put) t = cc
read_same a (ops.ReadNum at width) t = refl
read_same a (ops.WriteNum at width value) t = cc
read_same a (ops.IncNum at width by) t = cc
read_same a (ops.DecNum at width by) t = cc
read_same a ops.Updates t = refl
