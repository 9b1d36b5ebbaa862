use Rattle.question_text.proofs.NewWords.{same_by_numbers}
use Rattle.question_text.proofs.numbers_keep_their_meaning.Goals as goal

pub returns : goal.returns
returns c = same_by_numbers
