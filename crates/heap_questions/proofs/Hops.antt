-- The steps of a path.
use Rattle.std.proofs.Common.{◌≡◌, ℕ, ◌<◌, List, [], ◌∷◌, ◌++◌, length, refl, sym, ap, ◌∙◌, subst}
use Rattle.std.specs.Prelude.{slice_get, Option, Some, None, option_and_then, option_map, reverse}
use Rattle.std.proofs.lemmas.List.{length-map, map_push, reverse-append}
use Rattle.std.proofs.lemmas.Option.{none-some, slice_get-map, slice_get_within}
use Rattle.hprof_text.specs.Image.{Image}
use Rattle.heap_questions.specs.Graph.{IsPathTo, followed}
use Rattle.heap_questions.specs.Hops.{AreHops, TellsIds, slots_of}
use Rattle.heap_questions.specs.declared.paths.Hop.{Hop}
use Rattle.heap_questions.specs.declared.paths.Path.{Path}

pub slots_reversed : (hops : List Hop) → slots_of (reverse hops) ≡ reverse (slots_of hops)
slots_reversed [] = refl
slots_reversed (h ∷ hs) =
    ap slots_of (reverse-append (h ∷ []) hs)
    ∙ map_push (λ (h : Hop). h.slot) (reverse hs) h
    ∙ ap (λ (l : List ℕ). l ++ h.slot ∷ []) (slots_reversed hs)
    ∙ sym (reverse-append (h.slot ∷ []) (slots_of hs))

pub as_many_slots : (hops : List Hop) → length (slots_of hops) ≡ length hops
as_many_slots hops = length-map hops (λ (h : Hop). h.slot)

pub first_slot : (hops : List Hop) → slice_get (slots_of hops) 0 ≡ option_map (λ (h : Hop). h.slot) (slice_get hops 0)
first_slot hops = slice_get-map (λ (h : Hop). h.slot) hops 0

-- a path with these parts tells its ids
pub ids_told : (image : Image) (p : Path) (r y : ℕ) (hops : List Hop) → p.register ≡ r → p.start ≡ y → p.hops.items ≡ hops → slice_get image.registers r ≡ Some y → AreHops image y hops → TellsIds image p
ids_told image p r y hops register start steps got on =
    record {
      start = ap (slice_get image.registers) register ∙ got ∙ ap Some (sym start);
      hops = subst (AreHops image p.start) (sym steps) (subst (λ (z : ℕ). AreHops image z hops) (sym start) on);
    }

-- the register of a path is there
pub register_within : (image : Image) (r : ℕ) (slots : List ℕ) (x : ℕ) → IsPathTo image r slots x → r < length image.registers
register_within image r slots x p = go (slice_get image.registers r) refl p.leads
  where
    go : (o : Option ℕ) → slice_get image.registers r ≡ o → option_and_then (λ y. followed image y slots) o ≡ Some x → r < length image.registers
    go None same h = absurd (none-some x h)
    go (Some y) same h = slice_get_within image.registers r y same
