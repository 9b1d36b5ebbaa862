-- The effect of a feed.
use Rattle.std.specs.Prelude.{◌≡◌, true, List, Some}
use Rattle.hprof_text.specs.declared.Piece.{Piece}
use Rattle.dump_pump.specs.declared.source.SourceEnd.{SourceEnd}
use Rattle.dump_pump.specs.declared.source.SourceEnd.TheVariants.{Whole}
use Rattle.dump_pump.specs.Sources.{Supply, more}
use Rattle.dump_pump.specs.Pumps.{ends}
use Rattle.dump_pipe.specs.declared.end_side.EndSide.{EndSide}
use Rattle.dump_pipe.specs.declared.end_side.EndSide.TheVariants.{Sends}
use Rattle.dump_pipe.specs.Pipes.{dump}

-- the parts that the source gave were sent, and then how it ended
pub record IsFed (a b : Supply) (v : EndSide) (e : SourceEnd) : Type 0 where
  pub given : List Piece
  pub told : b.told ≡ more a.told given
  pub sent : v ≡ Sends (dump given e)
  pub ended : b.ended ≡ Some e
  pub whole : e ≡ Whole → ends given ≡ true
