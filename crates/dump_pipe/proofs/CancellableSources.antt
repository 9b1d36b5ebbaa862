-- A cancellable source gives what its own source gives.
use Rattle.std.proofs.Common.{◌≡◌, Bool, true, false, refl, sym, subst}
use Rattle.dump_pump.specs.declared.source.Next.{Next}
use Rattle.dump_pump.specs.declared.source.Next.TheVariants.{Part, Lost, Cancelled}
use Rattle.dump_pump.specs.Sources.{Supply, IsNextPart}
use Rattle.dump_pipe.specs.Cancellables.{cancellable}

uncancelled_part_passes : (a b : Supply) (f : Bool) (r : Next) → IsNextPart a b r → IsNextPart (cancellable a f) (cancellable b false) r
uncancelled_part_passes a b f (Part p) h = h
uncancelled_part_passes a b f (Lost cause) h = h
uncancelled_part_passes a b f Cancelled h = h

pub cancellable_part_passes : (a b : Supply) (f f2 : Bool) (r : Next) → f2 ≡ false → IsNextPart a b r → IsNextPart (cancellable a f) (cancellable b f2) r
cancellable_part_passes a b f f2 r is h = subst (λ x. IsNextPart (cancellable a f) (cancellable b x) r) (sym is) (uncancelled_part_passes a b f r h)

pub cancellable_source_is_cancelled : (a : Supply) (f f2 : Bool) → f2 ≡ true → IsNextPart (cancellable a f) (cancellable a f2) Cancelled
cancellable_source_is_cancelled a f f2 is = subst (λ x. IsNextPart (cancellable a f) (cancellable a x) Cancelled) (sym is) (refl, refl)
