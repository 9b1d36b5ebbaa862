use Rattle.heap_region.proofs.TurnedHeaders.{no_header_kept_unless_shown, vacant_shown}
use Rattle.heap_region.proofs.CountedHeaders.{vacant_counted}
use Rattle.heap_region.proofs.headers.Headers.add_vacant.Goals as goal

pub add_vacant-requires : goal.add_vacant-requires
add_vacant-requires c = record { none = no_header_kept_unless_shown c.self.inside.turn c.self.inside.kept.items (rw (← c.self.view_is) at c.requires.none); few = c.requires.few }

pub invariant_of-self : goal.invariant_of-self
invariant_of-self c = rw (c.add_vacant.ensures, vacant_shown c.self.inside.turn c.args.count) (vacant_counted c.args.count _ (rw (c.self.view_is, c.requires.none) at c.self.invariant) c.requires.few)

pub returns : goal.returns
returns c = rw c.add_vacant.ensures (vacant_shown c.self.inside.turn c.args.count)
