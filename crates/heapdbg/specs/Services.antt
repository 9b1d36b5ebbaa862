-- A service that listens.
use Rattle.std.specs.Prelude.{◌≡◌, ℕ, List, [], Option}
use Rattle.heapdbg_options.specs.declared.settings.Service.{Service}
use Rattle.heapdbg_options.specs.declared.settings.Settings.{Settings}
use Rattle.heapdbg.specs.ServedHeaps.{AreSeatsFor}
use Rattle.heapdbg.specs.ServeOutcomes.{config_of, rolls_of, terms_of}
use Rattle.heapdbg.specs.declared.serve.Opened.{Opened}

-- the heap is of these settings, with the seats that the service needs; it is to be served on the service's terms, and nothing is
-- reported yet
pub record IsOpened (service : Service) (secret : Option (List ℕ)) (s : Settings) (o : Opened) : Type 0 where
  pub config : o.blank.config ≡ config_of s
  pub rolls : o.blank.rolls ≡ rolls_of s service
  pub seats : AreSeatsFor service.sessions o.blank.seats
  pub terms : o.terms ≡ terms_of s service secret
  pub report : o.report.items ≡ []
