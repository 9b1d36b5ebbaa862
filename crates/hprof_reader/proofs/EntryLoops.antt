-- Entries one after the other, as a loop goes over them.
use Rattle.std.proofs.Common.{◌≡◌, ℕ, suc, ◌+◌, ◌-◌, ◌<◌, ◌≤◌, List, Result, Ok, Err, sym, ap, ◌∙◌, arith}
use Rattle.heap_class.specs.declared.IdSize.{IdSize}
use Rattle.hprof_reader.specs.declared.fault.Fault.{Fault}
use Rattle.hprof_reader.specs.Entries.{entry_parts, after_entries}
use Rattle.hprof_reader.specs.Reading.{◌>>=◌}
use Rattle.hprof_reader.specs.SubRecords.{EntryTold}

entry_loop_turn_opened : (ids : IdSize) (key count i : ℕ) (bytes : List ℕ) (r : Result (EntryTold × List ℕ) Fault) → i < count → entry_parts ids key bytes ≡ r
    → after_entries ids key (count - i) bytes ≡ (r >>= λ x. after_entries ids key (count - (i + 1)) x.1)
unfolding after_entries
entry_loop_turn_opened ids key count i bytes r less h =
    let k : count - i ≡ suc (count - (i + 1)) = omega (arith, less) in
    ap (λ (n : ℕ). after_entries ids key n bytes) k ∙ ap (λ (r : Result (EntryTold × List ℕ) Fault). r >>= λ x. after_entries ids key (count - (i + 1)) x.1) h

pub entry_loop_goes_on_after_entry : (ids : IdSize) (key count i : ℕ) (bytes : List ℕ) (x : EntryTold × List ℕ) (total : Result (List ℕ) Fault) → i < count → entry_parts ids key bytes ≡ Ok x
    → after_entries ids key (count - i) bytes ≡ total → after_entries ids key (count - (i + 1)) x.1 ≡ total
entry_loop_goes_on_after_entry ids key count i bytes x total less h so_far = sym (entry_loop_turn_opened ids key count i bytes (Ok x) less h) ∙ so_far

pub entry_loop_ends_at_fault : (ids : IdSize) (key count i : ℕ) (bytes : List ℕ) (e : Fault) (total : Result (List ℕ) Fault) → i < count → entry_parts ids key bytes ≡ Err e
    → after_entries ids key (count - i) bytes ≡ total → total ≡ Err e
entry_loop_ends_at_fault ids key count i bytes e total less h so_far = sym so_far ∙ entry_loop_turn_opened ids key count i bytes (Err e) less h

pub entry_loop_done_at_count : (ids : IdSize) (key count i : ℕ) (bytes : List ℕ) (total : Result (List ℕ) Fault) → count ≤ i → after_entries ids key (count - i) bytes ≡ total → total ≡ Ok bytes
unfolding after_entries
entry_loop_done_at_count ids key count i bytes total past so_far =
    let k : count - i ≡ 0 = omega (arith, past) in
    sym so_far ∙ ap (λ (n : ℕ). after_entries ids key n bytes) k
