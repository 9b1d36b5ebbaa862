-- A batch that is being filled.
use Rattle.std.proofs.Common.{◌≡◌, ℕ, ◌<◌, ◌≤◌, Bool, true, false, List, [], ◌∷◌, ◌++◌, length, Option, Some, None, refl, ap, sym, ◌∙◌, subst, arith, append_assoc}
use Rattle.std.proofs.lemmas.List.{append-nil}
use Rattle.dump_pump.specs.LostCause.{LostCause}
use Rattle.hprof_text.specs.declared.Piece.{Piece}
use Rattle.dump_pump.specs.declared.source.SourceEnd.TheVariants as End
use Rattle.dump_pump.specs.declared.source.Next.{Next}
use Rattle.dump_pump.specs.declared.source.Next.TheVariants.{Part, Lost, Cancelled}
use Rattle.dump_pump.specs.Sources.{Supply, IsNextPart, more}
use Rattle.hprof_text.specs.Laws.{piece_limit, piece_size_limit}
use Rattle.dump_pump.specs.Pumps.{joined, ends}
use Rattle.dump_pump.proofs.PumpSteps.{told_and_no_piece_more, told_pieces_added_in_two_turns, joined_bytes_with_last_piece, pieces_end_as_last_piece}
use Rattle.dump_pipe.specs.declared.surplus.Surplus.{Surplus}
use Rattle.dump_pipe.specs.Batches.{batch_room, supply_at, IsAhead, IsAppended, IsFilled, IsBatch, Batches}

-- parts were appended to a batch, and there may be more
pub record IsFilling (a b : Supply) (batch batch' : List ℕ) : Type 0 where
  pub parts : List Piece
  pub bytes : batch' ≡ batch ++ joined parts
  pub room : length batch' ≤ batch_room
  pub ends : ends parts ≡ false
  pub told : b.told ≡ more a.told parts
  pub left : 0 < b.left
  pub less : b.left ≤ a.left

pub batch_filling_begins : (a : Supply) (batch : List ℕ) → 0 < a.left → length batch ≤ batch_room → IsFilling a a batch batch
batch_filling_begins a batch left room = record {
  parts = [];
  bytes = sym (append-nil batch);
  room = room;
  ends = refl;
  told = told_and_no_piece_more a.told;
  left = left;
  less = omega arith;
}

-- a part more
pub batch_filled_by_part : (a b c : Supply) (batch batch1 batch2 : List ℕ) (r : Next) (last : Bool) → last ≡ false → IsFilling a b batch batch1 → IsNextPart b c r → IsAppended batch1 batch2 r (Some last) → IsFilling a c batch batch2
batch_filled_by_part a b c batch batch1 batch2 (Part p) last here f n is = record {
  parts = f.parts ++ p ∷ [];
  bytes = is.0 ∙ ap (λ l. l ++ p.bytes) f.bytes ∙ append_assoc batch (joined f.parts) p.bytes ∙ ap (λ l. batch ++ l) (sym (joined_bytes_with_last_piece f.parts p));
  room = is.1;
  ends = pieces_end_as_last_piece f.parts p ∙ sym is.2 ∙ here;
  told = n.0 ∙ ap (λ t. more t (p ∷ [])) f.told ∙ told_pieces_added_in_two_turns a.told f.parts (p ∷ []);
  left = n.3 (sym is.2 ∙ here);
  less = omega (arith, n.2, f.less);
}
batch_filled_by_part a b c batch batch1 batch2 (Lost cause) last here f n is = absurd is
batch_filled_by_part a b c batch batch1 batch2 Cancelled last here f n is = absurd is

-- the last part
pub batch_filled_by_last_part : (a b c : Supply) (batch batch1 batch2 : List ℕ) (r : Next) (last : Bool) → last ≡ true → IsFilling a b batch batch1 → IsNextPart b c r → IsAppended batch1 batch2 r (Some last) → IsFilled a c batch batch2 None true
batch_filled_by_last_part a b c batch batch1 batch2 (Part p) last here f n is = record {
  parts = f.parts ++ p ∷ [];
  bytes = is.0 ∙ ap (λ l. l ++ p.bytes) f.bytes ∙ append_assoc batch (joined f.parts) p.bytes ∙ ap (λ l. batch ++ l) (sym (joined_bytes_with_last_piece f.parts p));
  room = is.1;
  ends = pieces_end_as_last_piece f.parts p ∙ sym is.2 ∙ here;
  rest = record {
    ahead = n.0 ∙ ap (λ t. more t (p ∷ [])) f.told ∙ told_pieces_added_in_two_turns a.told f.parts (p ∷ []);
    less = omega (arith, n.2, f.less);
    some = λ e. absurd cc;
    whole = λ e. (refl, n.4 (sym is.2 ∙ here));
  };
}
batch_filled_by_last_part a b c batch batch1 batch2 (Lost cause) last here f n is = absurd is
batch_filled_by_last_part a b c batch batch1 batch2 Cancelled last here f n is = absurd is

next_part_of_equal_supply : (b c : Supply) (told : _) (left : ℕ) (r : Next) → b.told ≡ told → left ≡ b.left → IsNextPart b c r → IsNextPart (supply_at told left) c r
next_part_of_equal_supply b c told left (Part p) is at n = (n.0 ∙ ap (λ t. more t (p ∷ [])) is, n.1, omega (arith, n.2, at), n.3, n.4)
next_part_of_equal_supply b c told left (Lost cause) is at n = (n.0 ∙ is, n.1)
next_part_of_equal_supply b c told left Cancelled is at n = (n.0 ∙ is, n.1)

-- nothing more, and a surplus
pub batch_filled_with_surplus : (a b c : Supply) (batch batch1 batch2 : List ℕ) (left : ℕ) (r : Next) → IsFilling a b batch batch1 → IsNextPart b c r → left ≡ b.left → left ≤ piece_limit → batch2 ≡ batch1
    → IsFilled a c batch batch2 (Some (record { next = r; left = left })) false
batch_filled_with_surplus a b c batch batch1 batch2 left r f n at most same = record {
  parts = f.parts;
  bytes = same ∙ f.bytes;
  room = omega (arith, ap length same, f.room);
  ends = f.ends;
  rest = record {
    ahead = (next_part_of_equal_supply b c (more a.told f.parts) left r f.told at n, most);
    less = omega (arith, at, f.less);
    some = λ e. omega (arith, at, f.left);
    whole = λ e. absurd cc;
  };
}

-- ---- a batch

-- a part alone
pub single_part_makes_batch : (a : Supply) (first : Piece) → length first.bytes ≤ piece_size_limit → (first.last ≡ false → 0 < a.left) → (first.last ≡ true → a.ended ≡ Some End.Whole) → IsBatch a a first first None
single_part_makes_batch a first small left whole = record {
  parts = [];
  bytes = sym (append-nil first.bytes);
  last = refl;
  small = small;
  rest = record {
    ahead = told_and_no_piece_more a.told;
    less = omega arith;
    some = left;
    whole = λ e. (refl, whole e);
  };
}

batch_ends_as_later_parts : (first : Piece) (parts : List Piece) (last : Bool) → first.last ≡ false → ends parts ≡ last → last ≡ ends (first ∷ parts)
batch_ends_as_later_parts first [] last other is = sym is ∙ sym other
batch_ends_as_later_parts first (p ∷ parts) last other is = sym is

-- a part and others after it
pub filled_bytes_make_batch : (a b : Supply) (first batch : Piece) (start bytes : List ℕ) (surplus : Option Surplus) → first.last ≡ false → start ≡ first.bytes → batch.bytes ≡ bytes → IsFilled a b start bytes surplus batch.last → IsBatch a b first batch surplus
filled_bytes_make_batch a b first batch start bytes surplus other begins is f = record {
  parts = f.parts;
  bytes = is ∙ f.bytes ∙ ap (λ l. l ++ joined f.parts) begins;
  last = batch_ends_as_later_parts first f.parts batch.last other f.ends;
  small = omega (arith, ap length is, f.room);
  rest = f.rest;
}

-- the batch that begins with the part that was drawn
pub drawn_part_begins_batch : (told : Option (List Piece)) (left : ℕ) (a b : Supply) (first batch : Piece) (surplus : Option Surplus) → IsNextPart (supply_at told left) a (Part first) → IsBatch a b first batch surplus → Batches told left b surplus (Part batch)
drawn_part_begins_batch told left a b first batch surplus n p = record {
  parts = first ∷ p.parts;
  ahead = subst (λ t. IsAhead t b surplus) (ap (λ t. more t p.parts) n.0 ∙ told_pieces_added_in_two_turns told (first ∷ []) p.parts) p.rest.ahead;
  says = (p.bytes, p.last, omega arith, p.small, omega (arith, p.rest.less, n.2), p.rest.some, p.rest.whole);
}

-- no batch
pub lost_part_gives_no_batch : (told : Option (List Piece)) (left : ℕ) (b : Supply) (cause : LostCause) (surplus : Option Surplus) → surplus ≡ None → IsNextPart (supply_at told left) b (Lost cause) → Batches told left b surplus (Lost cause)
lost_part_gives_no_batch told left b cause surplus none n = record {
  parts = [];
  ahead = subst (λ x. IsAhead (more told []) b x) (sym none) (n.0 ∙ told_and_no_piece_more told);
  says = (refl, none, n.1);
}

pub cancelled_part_gives_no_batch : (told : Option (List Piece)) (left : ℕ) (b : Supply) (surplus : Option Surplus) → surplus ≡ None → IsNextPart (supply_at told left) b Cancelled → Batches told left b surplus Cancelled
cancelled_part_gives_no_batch told left b surplus none n = record {
  parts = [];
  ahead = subst (λ x. IsAhead (more told []) b x) (sym none) (n.0 ∙ told_and_no_piece_more told);
  says = (refl, none, n.1);
}
