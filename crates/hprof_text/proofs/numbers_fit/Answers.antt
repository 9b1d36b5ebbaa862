use Rattle.hprof_text.proofs.Fits.{numbers_fit}
use Rattle.hprof_text.proofs.numbers_fit.Goals as goal

pub returns : goal.returns
returns c = λ ids image time d h. numbers_fit ids image d time h
