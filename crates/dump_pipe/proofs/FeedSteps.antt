-- A feed with a part more.
use Rattle.std.proofs.Common.{◌≡◌, ◌≢◌, ◌+◌, ◌*◌, ◌<◌, ◌≤◌, true, List, [], ◌∷◌, ◌++◌, map, length, Some, refl, ap, sym, ◌∙◌, arith}
use Rattle.hprof_text.specs.declared.Piece.{Piece}
use Rattle.dump_pump.specs.declared.source.SourceEnd.{SourceEnd}
use Rattle.dump_pump.specs.declared.source.SourceEnd.TheVariants as Ended
use Rattle.dump_pump.specs.Sources.{Supply, more}
use Rattle.hprof_text.specs.Laws.{piece_limit, piece_size_limit}
use Rattle.dump_pump.proofs.PumpSteps.{told_and_no_piece_more, told_pieces_added_in_two_turns, pieces_end_as_last_piece}
use Rattle.dump_pipe.specs.declared.message.Message.{Message}
use Rattle.dump_pipe.specs.declared.message.Message.TheVariants.{Part, End}
use Rattle.dump_pipe.specs.declared.end_side.EndSide.{EndSide}
use Rattle.dump_pipe.specs.declared.end_side.EndSide.TheVariants.{Sends}
use Rattle.dump_pipe.specs.Pipes.{weigh, byte_limit, list_of}
use Rattle.dump_pipe.specs.Feeds.{IsFed}
use Rattle.dump_pipe.proofs.PipeSteps.{weigh_append}

-- the parts given so far were sent, and there is room for the rest
pub record IsFeeding (a b : Supply) (v : EndSide) : Type 0 where
  pub given : List Piece
  pub told : b.told ≡ more a.told given
  pub sent : v ≡ Sends (map Part given)
  pub left : 0 < b.left
  pub room : weigh (map Part given) + b.left * piece_size_limit ≤ byte_limit

pub messages_with_one_part_more : (ps : List Piece) (p : Piece) → map Part (ps ++ p ∷ []) ≡ map Part ps ++ Part p ∷ []
messages_with_one_part_more [] p = refl
messages_with_one_part_more (x ∷ ps) p = ap (λ l. Part x ∷ l) (messages_with_one_part_more ps p)

pub feeding_begins_at_sender : (a : Supply) (v : EndSide) → 0 < a.left → a.left ≤ piece_limit → v ≡ Sends [] → IsFeeding a a v
feeding_begins_at_sender a v left most is = record { given = []; told = told_and_no_piece_more a.told; sent = is; left = left; room = omega (arith, most) }

pub feed_has_room_for_part : (a b : Supply) (v : EndSide) (p : Piece) → IsFeeding a b v → length p.bytes ≤ piece_size_limit → weigh (list_of v ++ Part p ∷ []) ≤ byte_limit
feed_has_room_for_part a b v p f small = omega (arith, weigh_append (list_of v) (Part p ∷ []), ap (λ u. weigh (list_of u)) f.sent, f.room, f.left, small)

end_message_keeps_byte_limit : (xs : List Message) (e : SourceEnd) → weigh xs ≤ byte_limit → weigh (xs ++ End e ∷ []) ≤ byte_limit
end_message_keeps_byte_limit xs e le = omega (arith, weigh_append xs (End e ∷ []), le)

pub feed_has_room_for_end : (a b : Supply) (v : EndSide) (e : SourceEnd) → IsFeeding a b v → weigh (list_of v ++ End e ∷ []) ≤ byte_limit
feed_has_room_for_end a b v e f = end_message_keeps_byte_limit (list_of v) e (omega (arith, ap (λ u. weigh (list_of u)) f.sent, f.room))

pub room_for_end_after_part : (a b : Supply) (v v2 : EndSide) (p : Piece) (e : SourceEnd) → IsFeeding a b v → length p.bytes ≤ piece_size_limit → v2 ≡ Sends (list_of v ++ Part p ∷ []) → weigh (list_of v2 ++ End e ∷ []) ≤ byte_limit
room_for_end_after_part a b v v2 p e f small is = end_message_keeps_byte_limit (list_of v2) e (omega (arith, ap (λ u. weigh (list_of u)) is, feed_has_room_for_part a b v p f small))

pub feeding_side_is_sending : (a b : Supply) (v : EndSide) → IsFeeding a b v → v ≡ Sends (list_of v)
feeding_side_is_sending a b v f = f.sent ∙ ap (λ u. Sends (list_of u)) (sym f.sent)

pub is_sends_after : (xs : List Message) (v : EndSide) → v ≡ Sends xs → v ≡ Sends (list_of v)
is_sends_after xs v is = is ∙ ap (λ u. Sends (list_of u)) (sym is)

sent_messages_with_one_more : (a b : Supply) (v v2 : EndSide) (p : Piece) (f : IsFeeding a b v) → v2 ≡ Sends (list_of v ++ Part p ∷ []) → v2 ≡ Sends (map Part (f.given ++ p ∷ []))
sent_messages_with_one_more a b v v2 p f is = is ∙ ap (λ u. Sends (list_of u ++ Part p ∷ [])) f.sent ∙ ap Sends (sym (messages_with_one_part_more f.given p))

pub feeding_goes_on_by_part : (a b c : Supply) (v v2 : EndSide) (p : Piece) → IsFeeding a b v → c.told ≡ more b.told (p ∷ []) → length p.bytes ≤ piece_size_limit → c.left < b.left → 0 < c.left → v2 ≡ Sends (list_of v ++ Part p ∷ []) → IsFeeding a c v2
feeding_goes_on_by_part a b c v v2 p f told small less left is = record {
  given = f.given ++ p ∷ [];
  told = told ∙ ap (λ t. more t (p ∷ [])) f.told ∙ told_pieces_added_in_two_turns a.told f.given (p ∷ []);
  sent = sent_messages_with_one_more a b v v2 p f is;
  left = left;
  room = omega (arith, ap weigh (messages_with_one_part_more f.given p), weigh_append (map Part f.given) (Part p ∷ []), f.room, small, less);
}

pub feeding_ends_by_last_part : (a b c : Supply) (v v2 v3 : EndSide) (p : Piece) → IsFeeding a b v → c.told ≡ more b.told (p ∷ []) → p.last ≡ true → c.ended ≡ Some Ended.Whole
    → v2 ≡ Sends (list_of v ++ Part p ∷ []) → v3 ≡ Sends (list_of v2 ++ End Ended.Whole ∷ []) → IsFed a c v3 Ended.Whole
feeding_ends_by_last_part a b c v v2 v3 p f told last ended is is' = record {
  given = f.given ++ p ∷ [];
  told = told ∙ ap (λ t. more t (p ∷ [])) f.told ∙ told_pieces_added_in_two_turns a.told f.given (p ∷ []);
  sent = is' ∙ ap (λ u. Sends (list_of u ++ End Ended.Whole ∷ [])) (sent_messages_with_one_more a b v v2 p f is);
  ended = ended;
  whole = λ _. pieces_end_as_last_piece f.given p ∙ last;
}

pub feeding_ends_by_other_ending : (a b c : Supply) (v v2 : EndSide) (e : SourceEnd) → IsFeeding a b v → c.told ≡ b.told → c.ended ≡ Some e → e ≢ Ended.Whole → v2 ≡ Sends (list_of v ++ End e ∷ []) → IsFed a c v2 e
feeding_ends_by_other_ending a b c v v2 e f same ended ne is = record {
  given = f.given;
  told = same ∙ f.told;
  sent = is ∙ ap (λ u. Sends (list_of u ++ End e ∷ [])) f.sent;
  ended = ended;
  whole = λ q. absurd (ne q);
}
