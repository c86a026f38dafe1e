-- What the laws rest on.
use Rattle.std.proofs.Common.{◌≡◌, ◌↔◌, ◌⊎◌, ℕ, zero, suc, ℤ, pos, negsuc, ◌<◌, ◌≤◌, ◌%◌, ◌==◌, Bool, true, false, if◌then◌else◌, List, [], ◌∷◌, ◌++◌, codes, map, filter, length, Option, None, Some, IsSome, unwrap_or, Ok, inl, inr, refl, sym, ap, ◌∙◌, subst, arith, slice_index_or}
use Rattle.std.specs.List.{Contains}
use Rattle.std.proofs.lemmas.Bool.{false≢true, eq-eqb, eqb-true, le-ltb}
use Rattle.std.proofs.lemmas.List.{append-nil}
use Rattle.std.proofs.lemmas.List.Elements.{filter_passes}
use Rattle.uw_base.specs.declared.variables.Pair.{Pair}
use Rattle.uw_packet.specs.declared.packet.Header.{Header}
use Rattle.uw_packet.specs.BlockReads.{vars_block}
use Rattle.uw_packet.specs.Packet.{IsPacket, header_bytes}
use Rattle.uw_packet.specs.PacketFront.{packet_front}
use Rattle.uw_packet.proofs.BlockLaws.{vars_block-read}
use Rattle.uw_packet.proofs.Fronts.{packet_front-packet}
use Rattle.uw_keeper.specs.declared.keeper.Row.{Row}
use Rattle.uw_keeper.specs.Rows.{AreRows}
use Rattle.uw_chain.specs.Spooling.{block_of_vars, row_bytes}
use Rattle.uw_spool.specs.declared.report.Outcome.TheVariants as outcomes
use Rattle.uw_spool.specs.declared.report.TaskLine.{TaskLine}
use Rattle.uw_spool.specs.Rounds.{AreOwnTurns, Round, TaskTurn, is_done, line_of_turn, own_rows}
use Rattle.uw_spool.specs.Tasks.{counted_status, most_row_bytes, row_vars, vars_of_front, with_body}

-- the numbers of lines are those of their rows
numbers : (turns : List TaskTurn) → map (λ (line : TaskLine). line.number) (map line_of_turn turns) ≡ map (λ (row : Row). row.number) (map (λ (t : TaskTurn). t.row) turns)
numbers [] = refl
numbers (t ∷ turns) = ap (λ rest. t.row.number ∷ rest) (numbers turns)

-- a whole round reports each row
pub reports-each : (round : Round) (rows : List Row) (turns : List TaskTurn) → AreRows rows → AreOwnTurns round (Some rows) turns []
    → map (λ (line : TaskLine). line.number) (map line_of_turn turns) ≡ map (λ (row : Row). row.number) (own_rows round rows)
reports-each round rows turns are own =
    numbers turns ∙ ap (map (λ (row : Row). row.number)) (sym (own.2 are ∙ append-nil (map (λ (t : TaskTurn). t.row) turns)))

-- the packet of a row that was written
row-packet : (vars : List Pair) (block body : List ℕ) → vars_block vars ≡ Some block
    → packet_front 65535 (header_bytes (record { m1 = 17; size = length block; m2 = 0 }) ++ block ++ body)
    ≡ Ok (Some (record { head = record { m1 = 17; size = length block; m2 = 0 }; block = block }, body))
row-packet vars block body is =
    let few = (vars_block-read vars block is).1 in
    let head : Header = record { m1 = 17; size = length block; m2 = 0 } in
    let packet : IsPacket (header_bytes head ++ block ++ body) head block body = record { fits = omega (arith, few); size = refl; whole = refl } in
    packet_front-packet 65535 (header_bytes head ++ block ++ body) head block body (omega (arith, few)) packet

-- a row that was written is read
pub written-read : (vars : List Pair) (body : List ℕ) → IsSome (vars_block vars) → length (row_bytes vars body) ≤ most_row_bytes
    → row_vars (row_bytes vars body) ≡ Some (if length body == 0 then vars else vars ++ record { key = codes "body"; value = body } ∷ [])
unfolding row_vars row_bytes
written-read vars body some short = by_block (vars_block vars) refl some
  where
    by_block : (block : Option (List ℕ)) → vars_block vars ≡ block → IsSome block
        → row_vars (row_bytes vars body) ≡ Some (if length body == 0 then vars else vars ++ record { key = codes "body"; value = body } ∷ [])
    by_block None is h = absurd (false≢true h)
    by_block (Some block) is h =
        let whole : block_of_vars vars ≡ block = ap (λ (o : Option (List ℕ)). unwrap_or o []) is in
        let front : packet_front 65535 (row_bytes vars body) ≡ Ok (Some (record { head = record { m1 = 17; size = length block; m2 = 0 }; block = block }, body)) =
        rw whole (row-packet vars block body is) in
        rw (le-ltb most_row_bytes (length (row_bytes vars body)) short)
        (ap vars_of_front front ∙ ap (with_body body) (vars_block-read vars block is).2)

-- a status counts as one of three
pub one_of_three : (status : ℤ) → (counted_status status ≡ negsuc 1) ⊎ (counted_status status ≡ negsuc 0) ⊎ (counted_status status ≡ pos 0)
one_of_three (pos zero) = inr (inr refl)
one_of_three (pos (suc n)) = inr (inl refl)
one_of_three (negsuc zero) = inr (inl refl)
one_of_three (negsuc (suc zero)) = inl refl
one_of_three (negsuc (suc (suc n))) = inr (inl refl)

-- and as -2 just where it is -2
pub done_alone : (status : ℤ) → (is_done (outcomes.Status (counted_status status)) ≡ true) ↔ (status ≡ negsuc 1)
done_alone (pos zero) = (λ is. absurd (false≢true is), λ is. absurd cc)
done_alone (pos (suc n)) = (λ is. absurd (false≢true is), λ is. absurd cc)
done_alone (negsuc zero) = (λ is. absurd (false≢true is), λ is. absurd (zero_one is))
  where
    zero_one : negsuc 0 ≡ negsuc 1 → ⊥
    zero_one e = cc
done_alone (negsuc (suc zero)) = (λ is. refl, λ is. refl)
done_alone (negsuc (suc (suc n))) = (λ is. absurd (false≢true is), λ is. absurd cc)

kept-later : (keeps : Bool) (first : Row) (rows : List Row) (row : Row) → Contains rows row → Contains (if keeps then first ∷ rows else rows) row
kept-later true first rows row has = (suc has.0, omega (arith, has.1), has.2)
kept-later false first rows row has = has

-- a row that passes a test is among those that do
passes_at : (p : Row → Bool) (rows : List Row) (row : Row) (k : ℕ) → k < length rows → slice_index_or rows k row ≡ row → p row ≡ true → Contains (filter p rows) row
passes_at p [] row k within is passes = absurd (omega (arith, within))
passes_at p (first ∷ rows) row zero within is passes =
    let e : p first ≡ true = ap p is ∙ passes in
    rw e (0, omega arith, is)
passes_at p (first ∷ rows) row (suc k) within is passes =
    kept-later (p first) first (filter p rows) row (passes_at p rows row k (omega (arith, within)) is passes)

-- a row is one of its spooler's
pub has_spooler : (round : Round) (rows : List Row) (row : Row) → Contains rows row → row.number % round.spoolers ≡ round.spooler → Contains (own_rows round rows) row
has_spooler round rows row has is =
    passes_at (λ (r : Row). r.number % round.spoolers == round.spooler) rows row has.0 has.1 has.2 (eq-eqb (row.number % round.spoolers) round.spooler is)

-- and of no other one's
pub only_spooler : (round : Round) (rows : List Row) (row : Row) → Contains (own_rows round rows) row → row.number % round.spoolers ≡ round.spooler
only_spooler round rows row has =
    let p : Row → Bool = λ r. r.number % round.spoolers == round.spooler in
    let passes : p row ≡ true = subst (λ (r : Row). p r ≡ true) has.2 (filter_passes p rows has.0 row has.1) in
    eqb-true (row.number % round.spoolers) round.spooler passes
