-- The places of numbers: which differ, and which are the same.
use Rattle.std.proofs.Common.{◌≡◌, ◌≢◌, ℕ, ◌+◌, ◌-◌, ◌/◌, ◌%◌, ◌^◌, ◌<◌, ap, arith}
use Rattle.hprof_session.specs.Places.{array_slot, slot_of, top_of}

pub top_differs : (n m : ℕ) → n % 2 ^ 20 ≡ 0 → m < n → top_of m ≢ top_of n
top_differs n m h lt e = omega (arith, h, lt, e)

pub previous_is_less : (n : ℕ) → n ≢ 0 → n - 1 < n
previous_is_less n d = omega (arith, d)

pub top_of_previous : (n : ℕ) → n % 2 ^ 20 ≢ 0 → top_of (n - 1) ≡ top_of n
top_of_previous n h = omega (arith, h)

pub array_differs : (n m : ℕ) → n % 1024 ≡ 0 → m < n → top_of m ≡ top_of n → array_slot m ≢ array_slot n
array_differs n m h lt e d = omega (arith, h, lt, e, d)

pub chunk_differs : (n m : ℕ) → n % 1024 ≡ 0 → m < n → m / 1024 ≢ n / 1024
chunk_differs n m h lt e = omega (arith, h, lt, e)

pub chunk_of_previous : (n : ℕ) → n % 1024 ≢ 0 → (n - 1) / 1024 ≡ n / 1024
chunk_of_previous n h = omega (arith, h)

pub slot_differs : (n m : ℕ) → m / 1024 ≡ n / 1024 → m ≢ n → slot_of m ≢ slot_of n
slot_differs n m e d f = d (omega (arith, e, f))

pub same_chunk_same_top : (n m : ℕ) → m / 1024 ≡ n / 1024 → top_of m ≡ top_of n
same_chunk_same_top n m e = omega (arith, e)

pub same_chunk_same_array : (n m : ℕ) → m / 1024 ≡ n / 1024 → array_slot m ≡ array_slot n
same_chunk_same_array n m e = ap (λ q. q % 1024) e

pub few_tops : (n : ℕ) → n < 2 ^ 22 → top_of n < 4
few_tops n h = omega (arith, h)

pub few_arrays : (n : ℕ) → array_slot n < 1024
few_arrays n = omega arith

pub few_slots : (n : ℕ) → slot_of n < 1024
few_slots n = omega arith

pub whole_top_is_whole_chunk : (n : ℕ) → n % 2 ^ 20 ≡ 0 → n % 1024 ≡ 0
whole_top_is_whole_chunk n h = omega (arith, h)

pub same_or_next_chunk : (n m : ℕ) → m < n + 1 → m / 1024 ≡ (n + 1) / 1024 → m / 1024 ≡ n / 1024
same_or_next_chunk n m l e = omega (arith, l, e)
