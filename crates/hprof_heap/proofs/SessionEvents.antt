-- The events of a session, by the objects that they are for.
use Rattle.std.proofs.Common.{◌≡◌, ℕ, suc, ◌+◌, ◌^◌, ◌<◌, ◌≤◌, Bool, true, false, List, [], ◌∷◌, ◌++◌, length, map, refl, sym, ap, ◌∙◌, append_assoc, Option, Some, None, arith}
use Rattle.std.specs.Prelude.{◌&&◌, flat_map, is_some, min, nat_lt, nat_eq, option_and_then, slice_index_or, if◌then◌else◌}
use Rattle.std.proofs.lemmas.Bool.{lt-ltb}
use Rattle.heap_class.specs.declared.IdSize.{IdSize}
use Rattle.heap_class.specs.declared.ObjKind.TheVariants.{Instance, Array, Prim}
use Rattle.heap_class.specs.Classes.{is_array_class, is_instance_class, slots_of}
use Rattle.heap_class.specs.Kinds.{is_reference}
use Rattle.heap_step.specs.declared.Event.{Event}
use Rattle.heap_step.specs.declared.Event.TheVariants.{NewArray}
use Rattle.indexmap.specs.IndexMap.{index_of}
use Rattle.hprof_reader.specs.SubRecords.{Sub, root, class, instance, array, prim}
use Rattle.hprof_session.specs.Places.{keep_event, place_events}
use Rattle.hprof_session.specs.Walks.{ItemTold, record_told, sub_told}
use Rattle.hprof_plan.specs.declared.items.RootFound.{RootFound}
use Rattle.hprof_plan.specs.declared.planning.Plan.{Plan}
use Rattle.hprof_plan.specs.declared.planning.Statics.{Statics}
use Rattle.hprof_lines.specs.declared.passes.Pass.TheVariants.{Making, Linking}
use Rattle.hprof_lines.specs.declared.values.SlotValue.{SlotValue}
use Rattle.hprof_lines.specs.Objects.{ObjectsTold, array_made, instance_made, links_of, made_events, making_event, number_of, object_events, reference_events, value_events}
use Rattle.hprof_lines.specs.Passes.{events_at, is_made, is_turn, made_from, pass_events}
use Rattle.hprof_lines.specs.Roots.{arrays_for, clear_events, kind_events, kinds_events, roots_events, roots_named, with_room}
use Rattle.hprof_lines.specs.Sessions.{both_events}
use Rattle.hprof_lines.specs.Slots.{object_values}
use Rattle.hprof_lines.specs.StaticObjects.{static_events, statics_events}
use Rattle.hprof_lines.specs.Values.{statics_from}
use Rattle.hprof_heap.specs.ToldObjects.{ObjectTold, array_told, instance_told, numbered_told, object_told, objects_of_dump, static_told, statics_told, told_from}
use Rattle.hprof_heap.proofs.Premises.{AreNumberedFirst}
use Rattle.hprof_heap.proofs.Making.{creation_of, made_block, made_tail}
use Rattle.hprof_heap.proofs.MakingPass.{making_block, makings}
use Rattle.hprof_heap.proofs.Linking.{link_block, link_values, linkings}
use Rattle.hprof_heap.proofs.RootKinds.{keepings, root_keepings}

-- ---- an object of the dump

-- the event that makes it, and its values
abbrev event_of : Option ObjectTold → Option Event
event_of None = None
event_of (Some t) = Some (creation_of t.kind t.slots)

event_if : (b : Bool) (t : ObjectTold) → (if b then Some (creation_of t.kind t.slots) else None) ≡ event_of (if b then Some t else None)
event_if true t = refl
event_if false t = refl

event_unless : (b : Bool) (t : ObjectTold) → (if b then None else Some (creation_of t.kind t.slots)) ≡ event_of (if b then None else Some t)
event_unless true t = refl
event_unless false t = refl

event_by_number : (f : ℕ → Option Event) (g : ℕ → Option ObjectTold) → ((c : ℕ) → f c ≡ event_of (g c)) → (o : Option ℕ) → option_and_then f o ≡ event_of (option_and_then g o)
event_by_number f g e None = refl
event_by_number f g e (Some c) = e c

pub event_is_of_object : (p : Plan) (ids : IdSize) (s : Sub) → making_event p s ≡ event_of (object_told p ids s)
unfolding making_event object_told
event_is_of_object p ids (root tag x more) = refl
event_is_of_object p ids (class c) = refl
event_is_of_object p ids (instance x trace k bytes) =
    let values = object_values p ids (instance x trace k bytes) in
    event_by_number (instance_made p) (instance_told p values)
    (λ c. event_if (is_instance_class p.classes c) (record { kind = Instance c; slots = length (slots_of p.classes c); values = values })) (index_of nat_eq p.kinds k)
event_is_of_object p ids (array x trace count k bytes) =
    let values = object_values p ids (array x trace count k bytes) in
    event_by_number (array_made p count) (array_told p count values)
    (λ c. event_if (is_array_class p.classes c) (record { kind = Array c; slots = min count p.elements; values = values })) (index_of nat_eq p.kinds k)
event_is_of_object p ids (prim x trace count kind bytes) =
    event_unless (is_reference kind) (record { kind = Prim kind; slots = min count p.elements; values = object_values p ids (prim x trace count kind bytes) })

values_if : (b : Bool) (t u : ObjectTold) → (if b then Some t else None) ≡ Some u → u.values ≡ t.values
values_if true t u e = let z : Some t ≡ Some u = e in ap (λ (x : ObjectTold). x.values) (sym (some_is t u z))
  where
    some_is : (t u : ObjectTold) → Some t ≡ Some u → t ≡ u
    some_is t u e = cc
values_if false t u e = let z : None ≡ Some u = e in cc

values_unless : (b : Bool) (t u : ObjectTold) → (if b then None else Some t) ≡ Some u → u.values ≡ t.values
values_unless false t u e = values_if true t u e
values_unless true t u e = let z : None ≡ Some u = e in cc

values_by_number : (g : ℕ → Option ObjectTold) (values : List SlotValue) (u : ObjectTold) → ((c : ℕ) → g c ≡ Some u → u.values ≡ values) → (o : Option ℕ) → option_and_then g o ≡ Some u → u.values ≡ values
values_by_number g values u e None f = let z : None ≡ Some u = f in cc
values_by_number g values u e (Some c) f = e c f

pub values_are_of_object : (p : Plan) (ids : IdSize) (s : Sub) (t : ObjectTold) → object_told p ids s ≡ Some t → t.values ≡ object_values p ids s
unfolding object_told
values_are_of_object p ids (root tag x more) t e = let z : None ≡ Some t = e in cc
values_are_of_object p ids (class c) t e = let z : None ≡ Some t = e in cc
values_are_of_object p ids (instance x trace k bytes) t e =
    let values = object_values p ids (instance x trace k bytes) in
    values_by_number (instance_told p values) values t
    (λ c. values_if (is_instance_class p.classes c) (record { kind = Instance c; slots = length (slots_of p.classes c); values = values }) t) (index_of nat_eq p.kinds k) e
values_are_of_object p ids (array x trace count k bytes) t e =
    let values = object_values p ids (array x trace count k bytes) in
    values_by_number (array_told p count values) values t
    (λ c. values_if (is_array_class p.classes c) (record { kind = Array c; slots = min count p.elements; values = values }) t) (index_of nat_eq p.kinds k) e
values_are_of_object p ids (prim x trace count kind bytes) t e =
    values_unless (is_reference kind) (record { kind = Prim kind; slots = min count p.elements; values = object_values p ids (prim x trace count kind bytes) }) t e

-- what is made after its place is ready
tail_is_of_object : (n : ℕ) (values : List SlotValue) (x : Option ObjectTold) → ((t : ObjectTold) → x ≡ Some t → t.values ≡ values) → made_events n values (event_of x) ≡ made_tail n x
tail_is_of_object n values None e = refl
tail_is_of_object n values (Some t) e = ap (λ vs. creation_of t.kind t.slots ∷ flat_map value_events vs ++ keep_event n ∷ []) (sym (e t refl))

object_events_are : (o : ObjectsTold) (n : ℕ) (s : Sub) → object_events o n s ≡ made_block o.plan.roots n (object_told o.plan o.ids s)
unfolding object_events
object_events_are o n s =
    ap (λ e. place_events o.plan.roots n ++ made_events n (object_values o.plan o.ids s) e) (event_is_of_object o.plan o.ids s)
    ∙ ap (λ es. place_events o.plan.roots n ++ es) (tail_is_of_object n (object_values o.plan o.ids s) (object_told o.plan o.ids s) (values_are_of_object o.plan o.ids s))

-- ---- making

block_is_of_place : (o : ObjectsTold) (i : ℕ) (s : Sub) → events_at Making o i s ≡ making_block o.plan.roots (length o.statics + i) (numbered_told o i s)
unfolding events_at
block_is_of_place o i s = go (nat_lt (length o.statics + i) (2 ^ 22))
  where
    go : (b : Bool) → (if b then object_events o (length o.statics + i) s else [])
        ≡ (if b then made_block o.plan.roots (length o.statics + i) (if b then object_told o.plan o.ids s else None) else [])
    go true = object_events_are o (length o.statics + i) s
    go false = refl

pub pass_makes : (o : ObjectsTold) (i : ℕ) (items : List ItemTold) → pass_events Making o i items ≡ makings o.plan.roots (length o.statics + i) (told_from o i items)
unfolding pass_events told_from
pass_makes o i [] = refl
pass_makes o i (record_told r ∷ items) = pass_makes o i items
pass_makes o i (sub_told s ∷ items) = go (is_turn o.objects i s) (pass_makes o i items) (pass_makes o (i + 1) items)
  where
    go : (b : Bool) → pass_events Making o i items ≡ makings o.plan.roots (length o.statics + i) (told_from o i items)
        → pass_events Making o (i + 1) items ≡ makings o.plan.roots (length o.statics + (i + 1)) (told_from o (i + 1) items)
        → (if b then events_at Making o i s else []) ++ pass_events Making o (if b then i + 1 else i) items
        ≡ makings o.plan.roots (length o.statics + i) ((if b then numbered_told o i s ∷ [] else []) ++ told_from o (if b then i + 1 else i) items)
    go true e f =
        ap (λ es. es ++ pass_events Making o (i + 1) items) (block_is_of_place o i s)
        ∙ ap (λ es. making_block o.plan.roots (length o.statics + i) (numbered_told o i s) ++ es) (f ∙ ap (λ n. makings o.plan.roots n (told_from o (i + 1) items)) (omega arith))
    go false e f = e

static_block : (o : ObjectsTold) (n : ℕ) (s : Statics) → n < 2 ^ 22 → static_events Making o n s ≡ making_block o.plan.roots n (Some (static_told o.plan n s))
unfolding static_events
static_block o n s less = sym (ap (λ b. if b then made_block o.plan.roots n (Some (static_told o.plan n s)) else []) (lt-ltb n (2 ^ 22) less))

pub statics_make : (o : ObjectsTold) (n : ℕ) (statics : List Statics) (rest : List (Option ObjectTold)) → n + length statics ≤ 2 ^ 22
    → statics_events Making o n statics ++ makings o.plan.roots (n + length statics) rest ≡ makings o.plan.roots n (statics_told o.plan n statics ++ rest)
unfolding statics_events statics_told
statics_make o n [] rest few = ap (λ m. makings o.plan.roots m rest) (omega arith)
statics_make o n (s ∷ statics) rest few =
    append_assoc (static_events Making o n s) (statics_events Making o (n + 1) statics) (makings o.plan.roots (n + suc (length statics)) rest)
    ∙ ap (λ es. es ++ (statics_events Making o (n + 1) statics ++ makings o.plan.roots (n + suc (length statics)) rest)) (static_block o n s (omega (arith, few)))
    ∙ ap (λ es. making_block o.plan.roots n (Some (static_told o.plan n s)) ++ es)
    (ap (λ m. statics_events Making o (n + 1) statics ++ makings o.plan.roots m rest) (omega arith) ∙ statics_make o (n + 1) statics rest (omega (arith, few)))

-- ---- linking

links_are : (o : ObjectsTold) (n : ℕ) (values : List SlotValue) → links_of o n values ≡ link_values (number_of o) n values
unfolding links_of reference_events
links_are o n values = refl

links_of_made : (o : ObjectsTold) (n : ℕ) (values : List SlotValue) (x : Option ObjectTold) → ((t : ObjectTold) → x ≡ Some t → t.values ≡ values)
    → (if is_some x then links_of o n values else []) ≡ link_block (number_of o) n x
links_of_made o n values None e = refl
links_of_made o n values (Some t) e = links_are o n values ∙ ap (link_values (number_of o) n) (sym (e t refl))

pub numbered_values : (o : ObjectsTold) (i : ℕ) (s : Sub) (t : ObjectTold) → numbered_told o i s ≡ Some t → t.values ≡ object_values o.plan o.ids s
numbered_values o i s t = go (nat_lt (length o.statics + i) (2 ^ 22))
  where
    go : (b : Bool) → (if b then object_told o.plan o.ids s else None) ≡ Some t → t.values ≡ object_values o.plan o.ids s
    go true e = values_are_of_object o.plan o.ids s t e
    go false e = let z : None ≡ Some t = e in cc

-- `made` of the objects tells which of these are made, from place i on
abbrev pub TellsMade : ObjectsTold → ℕ → List (Option ObjectTold) → Type 0
TellsMade o i list = (j : ℕ) → slice_index_or o.made (i + j) false ≡ slice_index_or (map is_some list) j false

link_of_place : (o : ObjectsTold) (i : ℕ) (s : Sub) (rest : List (Option ObjectTold)) → TellsMade o i (numbered_told o i s ∷ rest) → events_at Linking o i s ≡ link_block (number_of o) (length o.statics + i) (numbered_told o i s)
unfolding events_at
link_of_place o i s rest told =
    ap (λ b. if b then links_of o (length o.statics + i) (object_values o.plan o.ids s) else []) (ap (λ m. slice_index_or o.made m false) (omega arith) ∙ told 0)
    ∙ links_of_made o (length o.statics + i) (object_values o.plan o.ids s) (numbered_told o i s) (numbered_values o i s)

told_later : (o : ObjectsTold) (i : ℕ) (x : Option ObjectTold) (list : List (Option ObjectTold)) → TellsMade o i (x ∷ list) → TellsMade o (i + 1) list
told_later o i x list told j = ap (λ m. slice_index_or o.made m false) (omega arith) ∙ told (suc j)

pub pass_links : (o : ObjectsTold) (i : ℕ) (items : List ItemTold) → TellsMade o i (told_from o i items) → pass_events Linking o i items ≡ linkings (number_of o) (length o.statics + i) (told_from o i items)
unfolding pass_events told_from
pass_links o i [] told = refl
pass_links o i (record_told r ∷ items) told = pass_links o i items told
pass_links o i (sub_told s ∷ items) told = go (is_turn o.objects i s) told (pass_links o i items) (pass_links o (i + 1) items)
  where
    go : (b : Bool) → TellsMade o i ((if b then numbered_told o i s ∷ [] else []) ++ told_from o (if b then i + 1 else i) items)
        → (TellsMade o i (told_from o i items) → pass_events Linking o i items ≡ linkings (number_of o) (length o.statics + i) (told_from o i items))
        → (TellsMade o (i + 1) (told_from o (i + 1) items) → pass_events Linking o (i + 1) items ≡ linkings (number_of o) (length o.statics + (i + 1)) (told_from o (i + 1) items))
        → (if b then events_at Linking o i s else []) ++ pass_events Linking o (if b then i + 1 else i) items
        ≡ linkings (number_of o) (length o.statics + i) ((if b then numbered_told o i s ∷ [] else []) ++ told_from o (if b then i + 1 else i) items)
    go true t e f =
        ap (λ es. es ++ pass_events Linking o (i + 1) items) (link_of_place o i s (told_from o (i + 1) items) t)
        ∙ ap (λ es. link_block (number_of o) (length o.statics + i) (numbered_told o i s) ++ es)
        (f (told_later o i (numbered_told o i s) (told_from o (i + 1) items) t) ∙ ap (λ n. linkings (number_of o) n (told_from o (i + 1) items)) (omega arith))
    go false t e f = e t

pub statics_link : (o : ObjectsTold) (n : ℕ) (statics : List Statics) (rest : List (Option ObjectTold))
    → statics_events Linking o n statics ++ linkings (number_of o) (n + length statics) rest ≡ linkings (number_of o) n (statics_told o.plan n statics ++ rest)
unfolding statics_events statics_told static_events
statics_link o n [] rest = ap (λ m. linkings (number_of o) m rest) (omega arith)
statics_link o n (s ∷ statics) rest =
    append_assoc (links_of o n (statics_from 0 s.fields.items)) (statics_events Linking o (n + 1) statics) (linkings (number_of o) (n + suc (length statics)) rest)
    ∙ ap (λ es. es ++ (statics_events Linking o (n + 1) statics ++ linkings (number_of o) (n + suc (length statics)) rest)) (links_are o n (statics_from 0 s.fields.items))
    ∙ ap (λ es. link_values (number_of o) n (statics_from 0 s.fields.items) ++ es)
    (ap (λ m. statics_events Linking o (n + 1) statics ++ linkings (number_of o) m rest) (omega arith) ∙ statics_link o (n + 1) statics rest)

-- ---- which are made

some_of_event : (x : Option ObjectTold) → is_some (event_of x) ≡ is_some x
some_of_event None = refl
some_of_event (Some t) = refl

made_of_place : (o : ObjectsTold) (i : ℕ) (s : Sub) → is_made o.plan (length o.statics) i s ≡ is_some (numbered_told o i s)
unfolding is_made
made_of_place o i s = ap (λ e. is_some e && nat_lt (length o.statics + i) (2 ^ 22)) (event_is_of_object o.plan o.ids s) ∙ ap (λ b. b && nat_lt (length o.statics + i) (2 ^ 22)) (some_of_event (object_told o.plan o.ids s)) ∙ go (nat_lt (length o.statics + i) (2 ^ 22)) (object_told o.plan o.ids s)
  where
    go : (b : Bool) (x : Option ObjectTold) → (is_some x && b) ≡ is_some (if b then x else None)
    go true None = refl
    go true (Some t) = refl
    go false None = refl
    go false (Some t) = refl

pub made_is_told : (o : ObjectsTold) (i : ℕ) (items : List ItemTold) → made_from o.plan o.objects (length o.statics) i items ≡ map is_some (told_from o i items)
unfolding made_from told_from
made_is_told o i [] = refl
made_is_told o i (record_told r ∷ items) = made_is_told o i items
made_is_told o i (sub_told s ∷ items) = go (is_turn o.objects i s) (made_is_told o i items) (made_is_told o (i + 1) items)
  where
    go : (b : Bool) → made_from o.plan o.objects (length o.statics) i items ≡ map is_some (told_from o i items)
        → made_from o.plan o.objects (length o.statics) (i + 1) items ≡ map is_some (told_from o (i + 1) items)
        → (if b then is_made o.plan (length o.statics) i s ∷ [] else []) ++ made_from o.plan o.objects (length o.statics) (if b then i + 1 else i) items
        ≡ map is_some ((if b then numbered_told o i s ∷ [] else []) ++ told_from o (if b then i + 1 else i) items)
    go true e f = ap (λ b. b ∷ made_from o.plan o.objects (length o.statics) (i + 1) items) (made_of_place o i s) ∙ ap (λ bs. is_some (numbered_told o i s) ∷ bs) f
    go false e f = e

-- ---- roots

pub roots_keep : (o : ObjectsTold) (found : List RootFound) (kind first : ℕ) (tags : List ℕ) → kinds_events o found kind first tags ≡ keepings (λ tag. roots_named o tag found) kind first tags
unfolding kinds_events
roots_keep o found kind first [] = refl
roots_keep o found kind first (tag ∷ tags) = ap (λ es. kind_events kind first (with_room first (roots_named o tag found)) ++ es) (roots_keep o found (kind + 1) (first + arrays_for (length (with_room first (roots_named o tag found)))) tags)

pub all_roots_keep : (o : ObjectsTold) (found : List RootFound) (tags : List ℕ) → roots_events o found tags ≡ root_keepings (λ tag. roots_named o tag found) o.plan.roots tags
unfolding roots_events
all_roots_keep o found tags = ap (λ es. NewArray 0 7 o.plan.roots 1024 ∷ es ++ clear_events) (roots_keep o found (o.plan.roots + 1) 0 tags)

-- ---- all events

pub both_make : (o : ObjectsTold) (items : List ItemTold) → AreNumberedFirst o → both_events Making o items ≡ makings o.plan.roots 0 (objects_of_dump o items)
both_make o items a =
    ap (λ es. statics_events Making o 0 o.plan.statics.items ++ es) (pass_makes o 0 items ∙ ap (λ n. makings o.plan.roots n (told_from o 0 items)) (omega (arith, a.as_many)))
    ∙ statics_make o 0 o.plan.statics.items (told_from o 0 items) (omega (arith, a.few))

pub both_link : (o : ObjectsTold) (items : List ItemTold) → AreNumberedFirst o → o.made ≡ made_from o.plan o.objects (length o.statics) 0 items → both_events Linking o items ≡ linkings (number_of o) 0 (objects_of_dump o items)
both_link o items a made =
    ap (λ es. statics_events Linking o 0 o.plan.statics.items ++ es) (pass_links o 0 items told ∙ ap (λ n. linkings (number_of o) n (told_from o 0 items)) (omega (arith, a.as_many)))
    ∙ statics_link o 0 o.plan.statics.items (told_from o 0 items)
  where
    told : TellsMade o 0 (told_from o 0 items)
    told j = ap (λ m. slice_index_or o.made m false) (omega arith) ∙ ap (λ bs. slice_index_or bs j false) (made ∙ made_is_told o 0 items)
