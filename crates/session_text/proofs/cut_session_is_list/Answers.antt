use Rattle.session_text.proofs.ActionLists.{cut_session_listed}
use Rattle.session_text.proofs.cut_session_is_list.Goals as goal

pub returns : goal.returns
returns c = cut_session_listed
