use Rattle.secret_word.proofs.WordRooms.{copied_word_makes_word_room}
use Rattle.secret_word.proofs.secret.secret_of.Goals as goal

pub invariant_of-result : goal.invariant_of-result
invariant_of-result c = copied_word_makes_word_room c.args.word.now c.copy_from_slice.new.self c.requires c.copy_from_slice.ensures.after
