-- Reports with a line more.
use Rattle.std.proofs.Common.{◌≡◌, ℕ, zero, suc, ◌+◌, ◌<◌, List, [], ◌∷◌, ◌++◌, length, take, Option, Some, None, ap, sym, ◌∙◌, subst, arith, append_assoc}
use Rattle.std.proofs.lemmas.List.{append-nil}
use Rattle.std.specs.Prelude.{slice_index_or}
use Rattle.std.specs.Io.KnownBytes.{Appends}
use Rattle.heap_server.specs.declared.sessions.SeatEnd.{SeatEnd}
use Rattle.heap_server.specs.Reports.{line_of, report_of}

report_of_one_seat_more : (n i : ℕ) (xs : List SeatEnd) (d : SeatEnd) → i < length xs → report_of n (take (i + 1) xs) ≡ report_of n (take i xs) ++ line_of (n + i) (slice_index_or xs i d).end
report_of_one_seat_more n i [] d lt = absurd (omega arith)
report_of_one_seat_more n zero (x ∷ xs) d lt = append-nil (line_of n x.end) ∙ ap (λ k. line_of k x.end) (omega arith)
report_of_one_seat_more n (suc i) (x ∷ xs) d lt =
    let one : suc i + 1 ≡ suc (i + 1) = omega arith in
    let place : n + 1 + i ≡ n + suc i = omega arith in
    ap (λ k. report_of n (take k (x ∷ xs))) one
    ∙ ap (λ l. line_of n x.end ++ l) (report_of_one_seat_more (n + 1) i xs d (omega arith))
    ∙ sym (append_assoc (line_of n x.end) (report_of (n + 1) (take i xs)) (line_of (n + 1 + i) (slice_index_or xs i d).end))
    ∙ ap (λ k. (line_of n x.end ++ report_of (n + 1) (take i xs)) ++ line_of k (slice_index_or xs i d).end) place

two_appends_to_outlet : (a b c : Option (List ℕ)) (xs ys : List ℕ) → Appends a b xs → Appends b c ys → Appends a c (xs ++ ys)
two_appends_to_outlet None b c xs ys p q = tt
two_appends_to_outlet (Some x) None c xs ys p q = absurd p
two_appends_to_outlet (Some x) (Some y) None xs ys p q = absurd q
two_appends_to_outlet (Some x) (Some y) (Some z) xs ys p q = q ∙ ap (λ l. l ++ ys) p ∙ append_assoc x xs ys

-- a line more is written
pub report_told_one_line_further : (a b c : Option (List ℕ)) (i : ℕ) (ends : List SeatEnd) (d : SeatEnd) → i < length ends → Appends a b (report_of 1 (take i ends)) → Appends b c (line_of (i + 1) (slice_index_or ends i d).end)
    → Appends a c (report_of 1 (take (i + 1) ends))
report_told_one_line_further a b c i ends d lt p q =
    subst (λ l. Appends a c l) (sym (report_of_one_seat_more 1 i ends d lt ∙ ap (λ k. report_of 1 (take i ends) ++ line_of k (slice_index_or ends i d).end) (omega arith)))
    (two_appends_to_outlet a b c (report_of 1 (take i ends)) (line_of (i + 1) (slice_index_or ends i d).end) p q)
