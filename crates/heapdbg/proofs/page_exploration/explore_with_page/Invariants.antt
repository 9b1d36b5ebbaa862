use Rattle.heapdbg.specs.ServeOutcomes.{config_of}
use Rattle.heapdbg.proofs.page_exploration.explore_with_page.Given as goal

abbrev pub ghosts-explore_opened : goal.ghosts-explore_opened
ghosts-explore_opened g l = record { config = config_of l.request.settings; tables = l.blank.tables; ledger = l.blank.ledger; rolls = l.blank.rolls }
