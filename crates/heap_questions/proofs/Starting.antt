-- The starts of paths by their numbers.
use Rattle.std.proofs.Common.{◌≡◌, ℕ, ◌+◌, ◌*◌, ◌/◌, ◌%◌, ◌<◌, ◌≤◌, false, cond, List, [], ◌∷◌, length, refl, sym, ap, ◌∙◌, subst, inl, inr, arith}
use Rattle.std.specs.Prelude.{slice_get, Option, Some, None, IsSome, find, option_and_then, unwrap_or, ◌==◌}
use Rattle.std.specs.List.{list_any, position_or_len}
use Rattle.std.proofs.lemmas.Bool.{cases_Bool, cases_lt, ne_eqb, false≢true, true≢false}
use Rattle.std.proofs.lemmas.List.Folds.{find_at}
use Rattle.std.proofs.lemmas.List.FromFn.{get_or-map-range_with_len, length-map-range_with_len}
use Rattle.std.proofs.lemmas.Nat.{div-mul-add, mod-mul-add}
use Rattle.std.proofs.lemmas.Option.{none-some, same_Some, slice_get_within, slice_get-get_or, get_or_from_slice_get}
use Rattle.heap_class.specs.Limits.{large_array_limit}
use Rattle.hprof_text.specs.Image.{DumpedObject, Image, IsDumpable}
use Rattle.heap_questions.specs.Graph.{AreAtMost, HasId, IsPathTo, followed, named, object_with}
use Rattle.heap_questions.specs.PathsApart.{Route}
use Rattle.heap_questions.specs.Search.{slot_span, with_registers}
use Rattle.heap_questions.specs.Starts.{beyond, no_id, start_id, start_names, starts_by, with_starts}
use Rattle.heap_questions.proofs.Looking.{named_is, slot_within}
use Rattle.heap_questions.proofs.OtherRegisters.{same_named, same_object_with}
use Rattle.heap_questions.proofs.TracedPaths.{first_object, named_object}

-- ---- an id that no object has

none_with : (objects : List DumpedObject) (x : ℕ) → beyond objects ≤ x → find (λ o. o.id == x) objects ≡ None
none_with [] x h = refl
none_with (o ∷ os) x h =
    let more : o.id + 1 + beyond os ≤ x = h in
    ap (λ b. cond b (Some o) (find (λ o. o.id == x) os)) (ne_eqb o.id x (λ e. absurd (omega (arith, e, more)))) ∙ none_with os x (omega (arith, more))

pub no_object : (image : Image) → ¬ HasId image (no_id image)
unfolding object_with
no_object image h = false≢true (subst IsSome (none_with image.objects (no_id image) (omega arith)) h)

-- ---- what a start names

pub starts_many : (image : Image) (earlier : List Route) → length (with_starts image earlier).registers ≡ length image.registers * slot_span
starts_many image earlier = length-map-range_with_len (start_id image earlier) 0 (length image.registers * slot_span)

pub start_there : (image : Image) (earlier : List Route) (i : ℕ) → i < length image.registers * slot_span → slice_get (with_starts image earlier).registers i ≡ Some (start_id image earlier i)
start_there image earlier i h =
    slice_get-get_or (with_starts image earlier).registers i 0 (omega (arith, h, starts_many image earlier))
    ∙ ap Some (get_or-map-range_with_len (start_id image earlier) 0 (length image.registers * slot_span) i i 0 h (omega arith))

start_got : (image : Image) (earlier : List Route) (i y : ℕ) → slice_get (with_starts image earlier).registers i ≡ Some y → (i < length image.registers * slot_span) × (start_id image earlier i ≡ y)
start_got image earlier i y e =
    let h : i < length image.registers * slot_span = omega (arith, slice_get_within (with_starts image earlier).registers i y e, starts_many image earlier) in
    (h, same_Some (start_id image earlier i) y (sym (start_there image earlier i h) ∙ e))

-- a start that names an object names it by the slot
named_object_id : (image : Image) (o : Option ℕ) (y : ℕ) → unwrap_or o (no_id image) ≡ y → HasId image y → o ≡ Some y
named_object_id image None y e h = absurd (no_object image (subst (HasId image) (sym e) h))
named_object_id image (Some z) y e h = ap Some e

-- what a start names, if no earlier path starts so
pub record IsStart (image : Image) (earlier : List Route) (r s y : ℕ) : Type 0 where
  pub free : list_any (starts_by r s) earlier ≡ false
  pub first : ℕ
  pub names : slice_get image.registers r ≡ Some first
  pub leads : named image first s ≡ Some y

start_of : (image : Image) (earlier : List Route) (r s y : ℕ) → start_names image earlier r s ≡ Some y → IsStart image earlier r s y
start_of image earlier r s y e = elim (cases_Bool (list_any (starts_by r s) earlier)) [
  | inl t ↦ absurd (none-some y (sym (ap (λ b. cond b None (option_and_then (λ x. named image x s) (slice_get image.registers r))) t) ∙ e))
  | inr f ↦ go f (slice_get image.registers r) refl (sym (ap (λ b. cond b None (option_and_then (λ x. named image x s) (slice_get image.registers r))) f) ∙ e)
]
  where
    go : list_any (starts_by r s) earlier ≡ false → (o : Option ℕ) → slice_get image.registers r ≡ o → option_and_then (λ x. named image x s) o ≡ Some y → IsStart image earlier r s y
    go f None same h = absurd (none-some y h)
    go f (Some x) same h = record { free = f; first = x; names = same; leads = h }

pub start_is : (image : Image) (earlier : List Route) (r s x y : ℕ) → list_any (starts_by r s) earlier ≡ false → slice_get image.registers r ≡ Some x → named image x s ≡ Some y → start_names image earlier r s ≡ Some y
start_is image earlier r s x y f n e =
    ap (λ b. cond b None (option_and_then (λ x. named image x s) (slice_get image.registers r))) f
    ∙ ap (option_and_then (λ x. named image x s)) n ∙ e

-- a start by number, that names an object
pub start_found : (image : Image) (earlier : List Route) (i y : ℕ) → slice_get (with_starts image earlier).registers i ≡ Some y → HasId image y → IsStart image earlier (i / slot_span) (i % slot_span) y
start_found image earlier i y e h =
    let g = start_got image earlier i y e in
    start_of image earlier (i / slot_span) (i % slot_span) y (named_object_id image (start_names image earlier (i / slot_span) (i % slot_span)) y g.1 h)

-- an object has fewer slots than there are numbers for
abbrev pub place_with : Image → ℕ → ℕ
place_with image x = position_or_len (λ (o : DumpedObject). o.id == x) image.objects

pub object_at : (image : Image) (x : ℕ) → object_with image x ≡ slice_get image.objects (place_with image x)
unfolding object_with
object_at image x = find_at (λ (o : DumpedObject). o.id == x) image.objects

pub slot_below : (image : Image) (x s y : ℕ) → IsDumpable image → named image x s ≡ Some y → s < slot_span
slot_below image x s y d e = go (object_with image x) refl
  where
    go : (o : Option DumpedObject) → object_with image x ≡ o → s < slot_span
    go None same = absurd (true≢false (sym (subst (λ (o : Option DumpedObject). IsSome o) same (named_object image x s y e))))
    go (Some o) same =
        let k = place_with image x in
        let got : slice_get image.objects k ≡ Some o = sym (object_at image x) ∙ same in
        let small : length o.words ≤ large_array_limit = subst (λ (p : DumpedObject). length p.words ≤ large_array_limit) (get_or_from_slice_get image.objects k o o got) (d.small k o (slice_get_within image.objects k o got)) in
        let within = slot_within image.classes o s y (sym (named_is image x s o same) ∙ e) in
        omega (arith, small, within)

-- what a start names stands at its number
pub start_word : (image : Image) (earlier : List Route) (r s y : ℕ) → s < slot_span → r < length image.registers → start_names image earlier r s ≡ Some y → slice_get (with_starts image earlier).registers (r * slot_span + s) ≡ Some y
start_word image earlier r s y small within names =
    start_there image earlier (r * slot_span + s) (omega (arith, small, within))
    ∙ ap (λ q. Some (unwrap_or (start_names image earlier q ((r * slot_span + s) % slot_span)) (no_id image))) (div-mul-add r slot_span s small)
    ∙ ap (λ q. Some (unwrap_or (start_names image earlier r q) (no_id image))) (mod-mul-add r slot_span s small)
    ∙ ap (λ o. Some (unwrap_or o (no_id image))) names

-- numbers at which nothing starts
pub no_start : (image : Image) (earlier : List Route) (r low high : ℕ) → high ≤ slot_span → ((s y : ℕ) → low ≤ s → s < high → ¬ IsStart image earlier r s y) → (i y : ℕ) → r * slot_span + low ≤ i → i < r * slot_span + high → slice_get (with_starts image earlier).registers i ≡ Some y → ¬ HasId image y
no_start image earlier r low high few none i y above below e h =
    let row : i / slot_span ≡ r = omega (arith, above, below, few) in
    none (i % slot_span) y (omega (arith, above, below, few, row)) (omega (arith, above, below, few, row)) (subst (λ q. IsStart image earlier q (i % slot_span) y) row (start_found image earlier i y e h))

-- ---- paths from a start

pub same_followed : (image : Image) (registers : List ℕ) (slots : List ℕ) (x : ℕ) → followed (with_registers image registers) x slots ≡ followed image x slots
same_followed image registers [] x = refl
same_followed image registers (s ∷ ss) x = ap (option_and_then (λ y. followed (with_registers image registers) y ss)) (same_named image registers x s) ∙ after (named image x s) (λ y. same_followed image registers ss y)
  where
    after : (o : Option ℕ) → ((y : ℕ) → followed (with_registers image registers) y ss ≡ followed image y ss) → option_and_then (λ y. followed (with_registers image registers) y ss) o ≡ option_and_then (λ y. followed image y ss) o
    after None same = refl
    after (Some y) same = same y

-- a path from a start by number, as one from its register
pub record IsPathOfStart (image : Image) (earlier : List Route) (r s : ℕ) (slots : List ℕ) (x : ℕ) : Type 0 where
  pub path : IsPathTo image r (s ∷ slots) x
  pub free : list_any (starts_by r s) earlier ≡ false

pub path_of_start : (image : Image) (earlier : List Route) (i : ℕ) (slots : List ℕ) (x : ℕ) → IsPathTo (with_starts image earlier) i slots x → IsPathOfStart image earlier (i / slot_span) (i % slot_span) slots x
path_of_start image earlier i slots x p = go (slice_get (with_starts image earlier).registers i) refl p.leads
  where
    there : HasId image x
    there = subst (λ (o : Option DumpedObject). IsSome o) (same_object_with image (with_starts image earlier).registers x) p.there

    go : (o : Option ℕ) → slice_get (with_starts image earlier).registers i ≡ o → option_and_then (λ y. followed (with_starts image earlier) y slots) o ≡ Some x → IsPathOfStart image earlier (i / slot_span) (i % slot_span) slots x
    go None same h = absurd (none-some x h)
    go (Some y) same h =
        let led : followed image y slots ≡ Some x = sym (same_followed image (with_starts image earlier).registers slots y) ∙ h in
        let start = start_found image earlier i y same (first_object image y slots x led there) in
        record {
          path = record {
            there = there;
            leads = ap (option_and_then (λ y. followed image y ((i % slot_span) ∷ slots))) start.names ∙ ap (option_and_then (λ y. followed image y slots)) start.leads ∙ led;
          };
          free = start.free;
        }

-- what its start names
pub start_told : (image : Image) (earlier : List Route) (i : ℕ) (slots : List ℕ) (x y : ℕ) → IsPathTo (with_starts image earlier) i slots x → slice_get (with_starts image earlier).registers i ≡ Some y → IsStart image earlier (i / slot_span) (i % slot_span) y
start_told image earlier i slots x y p same =
    let there : HasId image x = subst (λ (o : Option DumpedObject). IsSome o) (same_object_with image (with_starts image earlier).registers x) p.there in
    let led : followed image y slots ≡ Some x = sym (same_followed image (with_starts image earlier).registers slots y) ∙ sym (ap (option_and_then (λ z. followed (with_starts image earlier) z slots)) same) ∙ p.leads in
    start_found image earlier i y same (first_object image y slots x led there)

-- a start leads on from what its register names
pub start_leads : (image : Image) (earlier : List Route) (r s y z : ℕ) → IsStart image earlier r s y → slice_get image.registers r ≡ Some z → named image z s ≡ Some y
start_leads image earlier r s y z start names = subst (λ (w : ℕ). named image w s ≡ Some y) (same_Some start.first z (sym start.names ∙ names)) start.leads

-- so is each path that begins with a slot
pub start_of_path : (image : Image) (earlier : List Route) (r s : ℕ) (slots : List ℕ) (x : ℕ) → IsDumpable image → list_any (starts_by r s) earlier ≡ false → IsPathTo image r (s ∷ slots) x → IsPathTo (with_starts image earlier) (r * slot_span + s) slots x
start_of_path image earlier r s slots x d free p = go (slice_get image.registers r) refl p.leads
  where
    W : Image
    W = with_starts image earlier

    there : HasId W x
    there = subst (λ (o : Option DumpedObject). IsSome o) (sym (same_object_with image W.registers x)) p.there

    next : (y : ℕ) → slice_get image.registers r ≡ Some y → (o : Option ℕ) → named image y s ≡ o → option_and_then (λ z. followed image z slots) o ≡ Some x → IsPathTo W (r * slot_span + s) slots x
    next y named_y None same h = absurd (none-some x h)
    next y named_y (Some z) same h =
        let word = start_word image earlier r s z (slot_below image y s z d same) (slice_get_within image.registers r y named_y) (start_is image earlier r s y z free named_y same) in
        record {
          there = there;
          leads = ap (option_and_then (λ z. followed W z slots)) word ∙ same_followed image W.registers slots z ∙ h;
        }

    go : (o : Option ℕ) → slice_get image.registers r ≡ o → option_and_then (λ y. followed image y (s ∷ slots)) o ≡ Some x → IsPathTo W (r * slot_span + s) slots x
    go None same h = absurd (none-some x h)
    go (Some y) same h = next y same (named image y s) refl h

-- the first slot of a path has a number
pub first_slot_below : (image : Image) (r s : ℕ) (slots : List ℕ) (x : ℕ) → IsDumpable image → IsPathTo image r (s ∷ slots) x → s < slot_span
first_slot_below image r s slots x d p = go (slice_get image.registers r) p.leads
  where
    next : (y : ℕ) (o : Option ℕ) → named image y s ≡ o → option_and_then (λ z. followed image z slots) o ≡ Some x → s < slot_span
    next y None same h = absurd (none-some x h)
    next y (Some z) same h = slot_below image y s z d same

    go : (o : Option ℕ) → option_and_then (λ y. followed image y (s ∷ slots)) o ≡ Some x → s < slot_span
    go None h = absurd (none-some x h)
    go (Some y) h = next y (named image y s) refl h

-- numbers have the order of registers and slots
pub by_number : (i q t : ℕ) (slots others : List ℕ) → t < slot_span → AreAtMost (i ∷ slots) ((q * slot_span + t) ∷ others) → AreAtMost ((i / slot_span) ∷ (i % slot_span) ∷ slots) (q ∷ t ∷ others)
by_number i q t slots others l (inl lt) = elim (cases_lt (i / slot_span) q) [
  | inl below ↦ inl below
  | inr above ↦ let row : i / slot_span ≡ q = omega (arith, lt, l, above) in inr (row, inl (omega (arith, lt, l, above, row)))
]
by_number i q t slots others l (inr same) =
    let row : i / slot_span ≡ q = ap (λ n. n / slot_span) same.0 ∙ div-mul-add q slot_span t l in
    let column : i % slot_span ≡ t = ap (λ n. n % slot_span) same.0 ∙ mod-mul-add q slot_span t l in
    inr (row, inr (column, same.1))
