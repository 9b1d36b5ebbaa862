-- A search from the starts, slot by slot.
use Rattle.std.proofs.Common.{◌≡◌, ◌⊎◌, ℕ, ◌+◌, ◌*◌, ◌<◌, ◌≤◌, Bool, true, false, List, length, refl, sym, ap, ◌∙◌, subst, inl, inr, arith}
use Rattle.std.specs.Prelude.{slice_get, Option, Some, None, IsSome, IfSome, not, ◌&&◌}
use Rattle.std.specs.List.{list_any}
use Rattle.std.proofs.lemmas.Bool.{true≢false}
use Rattle.std.proofs.lemmas.Option.{none-some}
use Rattle.heap_class.specs.declared.ObjRef.{ObjRef}
use Rattle.heap_class.specs.declared.ObjKind.{ObjKind}
use Rattle.hprof_text.specs.Image.{DumpedObject, Image, IsDumpable}
use Rattle.heap_questions.specs.Graph.{HasId, named, object_with, slot_refers}
use Rattle.heap_questions.specs.PathsApart.{Route}
use Rattle.heap_questions.specs.Search.{AreNodes, Found, IsBeginning, IsEnteredIn, Register, node_with, slot_span}
use Rattle.heap_questions.specs.Starts.{starts_by, with_starts}
use Rattle.heap_questions.specs.declared.nodes.Node.{Node}
use Rattle.heap_questions.specs.declared.search.Entry.{Entry}
use Rattle.heap_questions.proofs.LongerLists.{got_same}
use Rattle.heap_questions.proofs.Looking.{IsRead, added_entry_keeps_offer, named_is, node_is_read_as_object, rooting_of_one_more_register, rooted_past, slot_is_none, slot_within, node_stands_for_object}
use Rattle.heap_questions.proofs.NodePlaces.{node_of_object}
use Rattle.heap_questions.proofs.OtherRegisters.{same_nodes, same_object_with}
use Rattle.heap_questions.proofs.Starting.{IsStart, no_start, start_is, start_word}
use Rattle.heap_questions.proofs.TracedPaths.{named_object}

-- no object has the id in the image with starts, if none has it in the image
has_id : (image : Image) (earlier : List Route) (y : ℕ) → HasId (with_starts image earlier) y → HasId image y
has_id image earlier y h = subst (λ (o : Option DumpedObject). IsSome o) (same_object_with image (with_starts image earlier).registers y) h

-- numbers at which nothing starts are passed over
pub begun_past : (image : Image) (earlier : List Route) (nodes : List Node) (seen : List Bool) (entries : List Entry) (r low high i n : ℕ) → i ≡ r * slot_span + low → n ≡ r * slot_span + high → low ≤ high → high ≤ slot_span
    → ((s y : ℕ) → low ≤ s → s < high → ¬ IsStart image earlier r s y) → IsBeginning (with_starts image earlier) nodes seen entries i → IsBeginning (with_starts image earlier) nodes seen entries n
begun_past image earlier nodes seen entries r low high i n ei en le few none b =
    record {
      queue = b.queue;
      kept = b.kept;
      rooting = rooted_past (with_starts image earlier) nodes seen b.queue i n b.rooting (omega (arith, ei, en, le))
          (λ q y above below e h. no_start image earlier r low high few none q y (omega (arith, above, ei)) (omega (arith, below, en)) e (has_id image earlier y h));
    }

pub begun_as : (image : Image) (earlier : List Route) (nodes : List Node) (seen others : List Bool) (entries same : List Entry) (i n : ℕ) → others ≡ seen → same ≡ entries → i ≡ n → IsBeginning (with_starts image earlier) nodes seen entries i → IsBeginning (with_starts image earlier) nodes others same n
begun_as image earlier nodes seen others entries same i n a b e h =
    subst (λ (k : ℕ). IsBeginning (with_starts image earlier) nodes others same k) e
    (subst (λ (es : List Entry). IsBeginning (with_starts image earlier) nodes others es i) (sym b) (subst (λ (m : List Bool). IsBeginning (with_starts image earlier) nodes m entries i) (sym a) h))

-- a start is offered
pub begun_more : (image : Image) (places : List ObjRef) (earlier : List Route) (nodes : List Node) (seen : List Bool) (entries : List Entry) (r s x y i : ℕ) (seen_after : List Bool) (new : List Entry) → AreNodes image places nodes → s < slot_span → list_any (starts_by r s) earlier ≡ false → slice_get image.registers r ≡ Some x → named image x s ≡ Some y
    → i ≡ r * slot_span + s → r < length image.registers → IsEnteredIn nodes y i seen entries seen_after new → IsBeginning (with_starts image earlier) nodes seen entries (r * slot_span + s) → IsBeginning (with_starts image earlier) nodes seen_after new (r * slot_span + s + 1)
begun_more image places earlier nodes seen entries r s x y i seen_after new n small free named_x leads is within o b =
    let W : Image = with_starts image earlier in
    let offer = subst (λ k. IsEnteredIn nodes y k seen entries seen_after new) is o in
    let e = added_entry_keeps_offer nodes y 0 (Register (r * slot_span + s)) seen entries b.queue seen_after new b.kept offer in
    let word = start_word image earlier r s y small within (start_is image earlier r s x y free named_x leads) in
    record {
      queue = e.0;
      kept = e.1;
      rooting = rooting_of_one_more_register W places nodes seen b.queue (r * slot_span + s) y seen_after e.0 (same_nodes image W.registers places nodes n) b.rooting word e.2;
    }

-- ---- where nothing starts

-- a slot that refers, and isn't used
pub is_free : (refers used : Bool) → (refers && not used) ≡ true → (refers ≡ true) × (used ≡ false)
is_free true false h = (refl, refl)
is_free true true h = absurd (true≢false (sym h))
is_free false used h = absurd (true≢false (sym h))

pub is_not_free : (refers used : Bool) → (refers && not used) ≡ false → (refers ≡ false) ⊎ (used ≡ true)
is_not_free true false h = absurd (true≢false h)
is_not_free true true h = inr refl
is_not_free false used h = inl refl

pub used_start : (image : Image) (earlier : List Route) (r s y : ℕ) → list_any (starts_by r s) earlier ≡ true → ¬ IsStart image earlier r s y
used_start image earlier r s y used is = true≢false (sym used ∙ is.free)

pub no_reference_start : (image : Image) (earlier : List Route) (r x s y : ℕ) (o : DumpedObject) → slice_get image.registers r ≡ Some x → object_with image x ≡ Some o → slot_refers image.classes o.kind s ≡ false → ¬ IsStart image earlier r s y
no_reference_start image earlier r x s y o names there value is =
    let same : is.first ≡ x = got_same image.registers r is.first x is.names names in
    none-some y (sym (named_is image x s o there ∙ slot_is_none image.classes o s value) ∙ ap (λ z. named image z s) (sym same) ∙ is.leads)

pub no_slot_start : (image : Image) (earlier : List Route) (r x s y : ℕ) (o : DumpedObject) → slice_get image.registers r ≡ Some x → object_with image x ≡ Some o → length o.words ≤ s → ¬ IsStart image earlier r s y
no_slot_start image earlier r x s y o names there past is =
    let same : is.first ≡ x = got_same image.registers r is.first x is.names names in
    let within = slot_within image.classes o s y (sym (named_is image x s o there) ∙ ap (λ z. named image z s) (sym same) ∙ is.leads) in
    absurd (omega (arith, within, past))

pub no_object_start : (image : Image) (places : List ObjRef) (nodes : List Node) (earlier : List Route) (r x s y : ℕ) → AreNodes image places nodes → slice_get image.registers r ≡ Some x → node_with nodes x ≡ None → ¬ IsStart image earlier r s y
no_object_start image places nodes earlier r x s y n names none is =
    let same : is.first ≡ x = got_same image.registers r is.first x is.names names in
    let j = node_of_object image places nodes x n (named_object image x s y (ap (λ z. named image z s) (sym same) ∙ is.leads)) in
    none-some j.0 (sym none ∙ j.1)

-- ---- the object of a register

-- a node as what was found
abbrev pub found_as : ℕ → ℕ → Found
found_as x node = record { node = node; id = x; depth = 0; via = Register 0 }

pub node_led : (image : Image) (places : List ObjRef) (nodes : List Node) (x node : ℕ) (at : ObjRef) → AreNodes image places nodes → node_with nodes x ≡ Some node → ((n : Node) → slice_get nodes node ≡ Some n → at ≡ n.at) → slice_get places node ≡ Some at
node_led image places nodes x node at n e p = (node_stands_for_object image places nodes (found_as x node) at n e p).placed

pub node_read : (image : Image) (places : List ObjRef) (nodes : List Node) (x node : ℕ) (at : ObjRef) (kind : ObjKind) (words : List ℕ) → AreNodes image places nodes → node_with nodes x ≡ Some node → ((n : Node) → slice_get nodes node ≡ Some n → at ≡ n.at)
    → IsDumpable image → length places ≡ length image.objects → ((i : ℕ) → slice_get places i ≡ Some at → IfSome (slice_get image.objects i) (λ o. kind ≡ o.kind)) → ((i : ℕ) → slice_get places i ≡ Some at → IfSome (slice_get image.objects i) (λ o. words ≡ o.words))
    → IsRead image (found_as x node) kind words
node_read image places nodes x node at kind words n e p d many k w = node_is_read_as_object image places nodes (found_as x node) at kind words n e p d many k w
