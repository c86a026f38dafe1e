-- Lines as they are written out, and replies without their bodies.
use Rattle.std.proofs.Common.{◌≡◌, ℕ, ◌+◌, ◌*◌, Bool, true, false, true≢false, not, List, [], ◌∷◌, ◌++◌, All, slice_index_or, length, filter, cond, refl, sym, ap, arith, ◌==◌, codes, append_assoc}
use Rattle.std.proofs.lemmas.Grind.{common_steps}
use Rattle.std.proofs.lemmas.List.{append-nil}
use Rattle.std.proofs.lemmas.List.Elements.{All-head, All-tail, filter-append, filter_passes}
use Rattle.std.specs.List.{flat_map}
use Rattle.uw_reply.specs.declared.reply.Reply.{Reply}
use Rattle.uw_reply.specs.ReplyBytes.{ended_line, head_of_reply, is_break, rest_of_reply, without_breaks}

-- what follows the header lines, with the body and without
rest_whole : (with_body : Bool) (head body : List ℕ) → head ++ rest_of_reply with_body body false ≡ (head ++ rest_of_reply with_body body true) ++ cond with_body body []
rest_whole true head body = grind (arith, common_steps, append_assoc, append-nil)
rest_whole false head body = sym (append-nil (head ++ codes "\r\n"))

-- a reply with the body and without, open or closed
pub reply_whole : (closed with_body : Bool) (head body : List ℕ)
    → cond closed [] (head ++ rest_of_reply with_body body false) ≡ cond closed [] (head ++ rest_of_reply with_body body true) ++ cond closed [] (cond with_body body [])
reply_whole true with_body head body = refl
reply_whole false with_body head body = rest_whole with_body head body

not_false : (b : Bool) → not b ≡ true → b ≡ false
not_false true e = sym e
not_false false e = refl

-- what is kept of a text holds no break
pub kept_unbroken : (text : List ℕ) → All (λ byte. is_break byte ≡ false) (without_breaks text)
kept_unbroken text = λ k d l. not_false (is_break (slice_index_or (without_breaks text) k d)) (filter_passes (λ byte. not (is_break byte)) text k d l)

keep_step : (b : Bool) (x : ℕ) (xs ys : List ℕ) → b ≡ false → xs ≡ ys → cond (not b) (x ∷ xs) xs ≡ x ∷ ys
keep_step true x xs ys e same = absurd (true≢false e)
keep_step false x xs ys e same = ap (λ l. x ∷ l) same

-- a text that holds no break is kept
pub unbroken_kept : (text : List ℕ) → All (λ byte. is_break byte ≡ false) text → without_breaks text ≡ text
unbroken_kept [] h = refl
unbroken_kept (x ∷ xs) h =
    let P : ℕ → Type 0 = λ byte. is_break byte ≡ false in
    keep_step (is_break x) x (without_breaks xs) xs (All-head P x xs h) (unbroken_kept xs (All-tail P x xs h))

-- how often a text holds the byte
abbrev count : ℕ → List ℕ → ℕ
count mark text = length (filter (λ byte. byte == mark) text)

count_append : (mark : ℕ) (xs ys : List ℕ) → count mark (xs ++ ys) ≡ count mark xs + count mark ys
count_append mark xs ys = grind (arith, common_steps, filter-append)

clean_step : (mark x : ℕ) (xs : List ℕ) → is_break mark ≡ true → count mark xs ≡ 0 → count mark (cond (not (is_break x)) (x ∷ xs) xs) ≡ 0
clean_step mark x xs is e = grind (arith, common_steps)

count_clean : (mark : ℕ) (text : List ℕ) → is_break mark ≡ true → count mark (without_breaks text) ≡ 0
count_clean mark [] is = refl
count_clean mark (x ∷ xs) is = clean_step mark x (without_breaks xs) is (count_clean mark xs is)

count_line : (mark : ℕ) (line : List ℕ) → is_break mark ≡ true → count mark (ended_line line) ≡ count mark (codes "\r\n")
count_line mark line is = omega (arith, count_append mark (without_breaks line) (codes "\r\n"), count_clean mark line is)

count_lines : (mark per : ℕ) (lines : List (List ℕ)) → is_break mark ≡ true → count mark (codes "\r\n") ≡ per → count mark (flat_map ended_line lines) ≡ length lines * per
count_lines mark per [] is e = omega arith
count_lines mark per (line ∷ lines) is e =
    grind (arith, count_append mark (ended_line line) (flat_map ended_line lines), count_line mark line is, count_lines mark per lines is e, e)

-- a reply's line of the status and its header lines have no further break than those at their ends
pub count_head : (mark per : ℕ) (reply : Reply) → is_break mark ≡ true → count mark (codes "\r\n") ≡ per → count mark (codes "HTTP/1.1 ") ≡ 0
    → count mark (head_of_reply reply) ≡ per + length reply.headers * per
count_head mark per reply is e none =
    let outer = count_append mark (codes "HTTP/1.1 ") (ended_line reply.status ++ flat_map ended_line reply.headers) in
    let inner = count_append mark (ended_line reply.status) (flat_map ended_line reply.headers) in
    omega (arith, outer, inner, none, e, count_line mark reply.status is, count_lines mark per reply.headers is e)
