use Rattle.session_text.proofs.ActionLists.{session_listed}
use Rattle.session_text.proofs.session_is_list.Goals as goal

pub returns : goal.returns
returns c = session_listed
