use Rattle.heap_questions.proofs.PathStarts.{first_is_first, first_is_shortest}
use Rattle.heap_questions.proofs.apart.first_of_paths_is_path.Goals as goal

pub returns-clause-shortest : goal.returns-clause-shortest
returns-clause-shortest c image x p n = first_is_shortest image x p n

pub returns-clause-first : goal.returns-clause-first
returns-clause-first c image x p n = first_is_first image x p n
