-- Both ends of a pipe together.
use Rattle.std.proofs.Common.{◌≡◌, true, List, [], ◌∷◌, ◌++◌, Some, refl, ap, sym, ◌∙◌, subst}
use mathlib.Core.List.{IsPrefix}
use Rattle.std.specs.Prelude.{ℕ}
use Rattle.hprof_text.specs.declared.Piece.{Piece}
use Rattle.dump_pump.specs.declared.source.SourceEnd.{SourceEnd}
use Rattle.dump_pump.specs.declared.source.SourceEnd.TheVariants as Ended
use Rattle.dump_pump.specs.declared.transfer.Pumped.{Pumped}
use Rattle.dump_pump.specs.Outlets.{Outgoing}
use Rattle.dump_pump.specs.Sources.{Supply}
use Rattle.dump_pump.specs.Pumps.{joined, ends, FitsPump, IsPumped}
use Rattle.dump_pipe.specs.declared.message.Message.{Message}
use Rattle.dump_pipe.specs.declared.end_side.EndSide.{EndSide}
use Rattle.dump_pipe.specs.declared.end_side.EndSide.TheVariants.{Sends, Gets}
use Rattle.dump_pipe.specs.Pipes.{dump, list_of, both_of, HasOrder}
use Rattle.dump_pipe.specs.Feeds.{IsFed}
use Rattle.dump_pipe.specs.Drains.{AnswersDrain, IsDrained}

-- a whole dump that begins another is that dump
dump_beginning_another_is_same : (parts given : List Piece) (e e2 : SourceEnd) (items : List Message) → dump parts e ++ items ≡ dump given e2 → (parts ≡ given) × (e ≡ e2)
dump_beginning_another_is_same [] [] e e2 items h = (refl, cc)
dump_beginning_another_is_same [] (q ∷ qs) e e2 items h = absurd cc
dump_beginning_another_is_same (p ∷ ps) [] e e2 items h = absurd cc
dump_beginning_another_is_same (p ∷ ps) (q ∷ qs) e e2 items h =
    let head : p ≡ q = cc in
    let tail : dump ps e ++ items ≡ dump qs e2 = cc in
    let rest = dump_beginning_another_is_same ps qs e e2 items tail in
    ((λ i. head i ∷ rest.0 i), rest.1)

pump_fits_what_was_given : (parts given : List Piece) (out : List ℕ) (e e2 : SourceEnd) (failures failures' : ℕ) (r : Pumped) → parts ≡ given → e ≡ e2 → (e2 ≡ Ended.Whole → ends given ≡ true) → AnswersDrain parts out e failures failures' r → FitsPump given out (Some e2) failures failures' r
pump_fits_what_was_given parts given out e e2 failures failures' (Pumped.Done n) same is whole h = (h.0 ∙ ap joined same, whole (sym is ∙ h.1), ap Some (sym is ∙ h.1), h.2)
pump_fits_what_was_given parts given out e e2 failures failures' (Pumped.OutletFailed n) same is whole h = h
pump_fits_what_was_given parts given out e e2 failures failures' (Pumped.Lost cause n) same is whole h = (h.0 ∙ ap joined same, ap Some (sym is ∙ h.1), h.2)
pump_fits_what_was_given parts given out e e2 failures failures' (Pumped.Cancelled n) same is whole h = (h.0 ∙ ap joined same, ap Some (sym is ∙ h.1), h.2)

fed_and_drained_is_pumped : (a b : Supply) (w w' : Outgoing) (v1 v2 : EndSide) (e : SourceEnd) (r : Pumped) (items : List Message) → IsFed a b v1 e → IsDrained [] v2 w w' r → list_of v2 ++ items ≡ list_of v1 → IsPumped a b w w' r
fed_and_drained_is_pumped a b w w' v1 v2 e r items f d order =
    let same = dump_beginning_another_is_same d.parts f.given d.ended e items (ap (λ u. list_of u ++ items) (sym d.received) ∙ order ∙ ap list_of f.sent) in
    record {
      given = f.given;
      out = d.out;
      told = f.told;
      grows = d.grows;
      begins = subst (λ ps. IsPrefix d.out (joined ps)) same.0 d.begins;
      counted = d.counted;
      fits = subst (λ x. FitsPump f.given d.out x w.failures w'.failures r) (sym f.ended) (pump_fits_what_was_given d.parts f.given d.out d.ended e w.failures w'.failures r same.0 same.1 f.whole d.answers);
    }

pub fed_and_drained_is_streamed : (a b : Supply) (w w' : Outgoing) (v1 v2 v3 : EndSide) (e : SourceEnd) (r : Pumped) (items : List Message) → IsFed a b v1 e → IsDrained [] v2 w w' r → v3 ≡ both_of v1 v2 → HasOrder v3 items → IsPumped a b w w' r
fed_and_drained_is_streamed a b w w' v1 v2 v3 e r items f d is order = fed_and_drained_is_pumped a b w w' v1 v2 e r items f d (subst (λ u. HasOrder u items) is order)

pub fed_side_is_sending : (a b : Supply) (v : EndSide) (e : SourceEnd) → IsFed a b v e → v ≡ Sends (list_of v)
fed_side_is_sending a b v e f = f.sent ∙ ap (λ u. Sends (list_of u)) (sym f.sent)

pub drained_side_is_receiving : (v : EndSide) (w w' : Outgoing) (r : Pumped) → IsDrained [] v w w' r → v ≡ Gets (list_of v)
drained_side_is_receiving v w w' r d = d.received ∙ ap (λ u. Gets (list_of u)) (sym d.received)
