-- The distances of all objects, node by node, and the nearest start, slot by slot.
use Rattle.std.proofs.Common.{◌≡◌, ◌≢◌, ◌⊎◌, ℕ, ◌+◌, ◌*◌, ◌/◌, ◌%◌, ◌<◌, ◌≤◌, Bool, true, false, List, [], length, get_or, take, Option, Some, None, refl, sym, ap, ◌∙◌, map, subst, inl, inr, arith}
use Rattle.std.specs.Prelude.{find, min, not, option_and_then, slice_get, slice_index_or}
use Rattle.std.specs.List.{list_any}
use Rattle.std.specs.Option.{option_map_or}
use Rattle.std.proofs.Math.Nat.{min-eq_left, min-eq_right}
use Rattle.std.proofs.lemmas.Bool.{cases_Bool, cases_lt, true≢false}
use Rattle.std.proofs.lemmas.List.{get_or_default, length-map}
use Rattle.std.proofs.lemmas.Nat.{div-mul-add, mod-mul-add}
use Rattle.std.proofs.lemmas.Option.{get_or_from_slice_get, none-some, slice_get_within}
use Rattle.heap_class.specs.declared.ObjRef.{ObjRef}
use Rattle.heap_class.specs.Classes.{Class}
use Rattle.heap_class.specs.Limits.{large_array_limit}
use Rattle.hprof_text.specs.Image.{DumpedObject, Image, IsDumpable, IsKnown}
use Rattle.heap_questions.specs.Differences.{IsKnownIf}
use Rattle.heap_questions.specs.Distances.{AreDistances, HasNearer, IsFirstNearer, IsFit, IsFitNode, IsLeastOf, IsNamedBy, IsNearestOf, AreNearest, AreNearestFor, IsNearerStart, IsNearStart, distance_by, distance_of, far, with_start}
use Rattle.heap_questions.specs.Graph.{HasId, named, object_with, slot_names, slot_refers}
use Rattle.heap_questions.specs.PathsApart.{Route, route_of}
use Rattle.heap_questions.specs.Search.{AreNodes, node_with, slot_span}
use Rattle.heap_questions.specs.Starts.{starts_by, with_starts}
use Rattle.heap_questions.specs.declared.nearest.Start.{Start}
use Rattle.heap_questions.specs.declared.nodes.Node.{Node}
use Rattle.heap_questions.specs.declared.paths.Hop.{Hop}
use Rattle.heap_questions.specs.declared.paths.Path.{Path}
use Rattle.heap_questions.proofs.DifferentObjects.{found_object_is_known}
use Rattle.heap_questions.proofs.LongerLists.{got_same}
use Rattle.heap_questions.proofs.Looking.{named_is, slot_is, slot_is_none, slot_within}
use Rattle.heap_questions.proofs.NodePlaces.{node_of_object, node_within, object_found}
use Rattle.heap_questions.proofs.NearestStarts.{as_many_paths, first_passes, is_used, nearest_more, nearest_past, none_passes, one_of_all}
use Rattle.heap_questions.proofs.PathStarts.{any_route}
use Rattle.heap_questions.proofs.Starting.{IsStart, no_start, object_at, place_with, start_found, start_is, start_word, starts_many}
use Rattle.heap_questions.proofs.TracedPaths.{named_object}

-- ---- objects

pub known_object : (image : Image) (classes : List Class) (x : ℕ) (o : DumpedObject) → IsDumpable image → classes ≡ image.classes → object_with image x ≡ Some o → IsKnown classes o.kind (length o.words)
known_object image classes x o d same e = subst (λ (cs : List Class). IsKnown cs o.kind (length o.words)) (sym same) (subst (IsKnownIf image.classes) e (found_object_is_known image x d))

pub slots_few : (image : Image) (x : ℕ) (o : DumpedObject) → IsDumpable image → object_with image x ≡ Some o → length o.words ≤ large_array_limit
slots_few image x o d e =
    let k = place_with image x in
    let got : slice_get image.objects k ≡ Some o = sym (object_at image x) ∙ e in
    subst (λ (p : DumpedObject). length p.words ≤ large_array_limit) (get_or_from_slice_get image.objects k o o got) (d.small k o (slice_get_within image.objects k o got))

pub slot_small : (image : Image) (x s : ℕ) (o : DumpedObject) → IsDumpable image → object_with image x ≡ Some o → s < length o.words → s < slot_span
slot_small image x s o d e l = omega (arith, slots_few image x o d e, l)

-- a slot that names something near holds its id
pub named_word : (d : ℕ → ℕ) (classes : List Class) (o : DumpedObject) (s : ℕ) → s < length o.words → distance_of d (slot_names classes o s) < far → slot_names classes o s ≡ Some (get_or o.words s 0)
named_word d classes o s l near = elim (cases_Bool (slot_refers classes o.kind s)) [
  | inl t ↦ slot_is classes o s (get_or o.words s 0) l (get_or_default o.words s 0 (get_or o.words s 0) l) t
  | inr f ↦ absurd (past (ap (distance_of d) (slot_is_none classes o s f)))
]
  where
    past : distance_of d (slot_names classes o s) ≡ far → ⊥
    past e = absurd (omega (arith, near, e))

-- ---- the least distance of what slots name

pub record IsLeastTo (d : ℕ → ℕ) (names : ℕ → Option ℕ) (n r : ℕ) : Type 0 where
  pub small : r ≤ far
  pub least : (s : ℕ) → s < n → r ≤ distance_of d (names s)
  pub met : r < far → (s : ℕ) × (r ≡ distance_of d (names s))

pub least_begins : (d : ℕ → ℕ) (names : ℕ → Option ℕ) → IsLeastTo d names 0 far
least_begins d names = record { small = omega arith; least = λ s l. absurd (omega (arith, l)); met = λ l. absurd (omega (arith, l)) }

pub least_more : (d : ℕ → ℕ) (names : ℕ → Option ℕ) (n r new step : ℕ) → new ≡ min r step → step ≡ distance_of d (names n) → IsLeastTo d names n r → IsLeastTo d names (n + 1) new
least_more d names n r new step e at i = elim (cases_lt step r) [
  | inl lt ↦
      let is : new ≡ step = e ∙ min-eq_right (let le : step ≤ r = omega (arith, lt) in le) in
      let small = i.small in
      record {
        small = omega (arith, is, lt, small);
        least = λ s l. elim (cases_lt s n) [
          | inl before ↦ let least = i.least s before in omega (arith, is, lt, least)
          | inr here ↦ let same : n ≡ s = omega (arith, here, l) in let told : step ≡ distance_of d (names s) = at ∙ ap (λ k. distance_of d (names k)) same in omega (arith, is, told)
        ];
        met = λ l. (n, is ∙ at);
      }
  | inr ge ↦
      let is : new ≡ r = e ∙ min-eq_left ge in
      let small = i.small in
      record {
        small = omega (arith, is, small);
        least = λ s l. elim (cases_lt s n) [
          | inl before ↦ let least = i.least s before in omega (arith, is, least)
          | inr here ↦ let same : n ≡ s = omega (arith, here, l) in let told : step ≡ distance_of d (names s) = at ∙ ap (λ k. distance_of d (names k)) same in omega (arith, is, told, ge)
        ];
        met = λ l. let m = i.met (omega (arith, is, l)) in (m.0, is ∙ m.1);
      }
]

no_slot : (classes : List Class) (o : DumpedObject) (s : ℕ) → length o.words ≤ s → slot_names classes o s ≡ None
no_slot classes o s l = go (slot_names classes o s) refl
  where
    go : (n : Option ℕ) → slot_names classes o s ≡ n → slot_names classes o s ≡ None
    go None e = e
    go (Some y) e = absurd (let within = slot_within classes o s y e in omega (arith, within, l))

pub least_all : (d : ℕ → ℕ) (classes : List Class) (o : DumpedObject) (n r : ℕ) → length o.words ≤ n → IsLeastTo d (slot_names classes o) n r → IsLeastOf d (slot_names classes o) r
least_all d classes o n r all i = record {
  small = i.small;
  least = λ s. elim (cases_lt s n) [
    | inl l ↦ i.least s l
    | inr past ↦
        let none : distance_of d (slot_names classes o s) ≡ far = ap (distance_of d) (no_slot classes o s (omega (arith, all, past))) in
        let small = i.small in omega (arith, none, small)
  ];
  met = i.met;
}

least_of_alike : (d : ℕ → ℕ) (f g : ℕ → Option ℕ) (r : ℕ) → ((s : ℕ) → g s ≡ f s) → IsLeastOf d f r → IsLeastOf d g r
least_of_alike d f g r same i = record {
  small = i.small;
  least = λ s. let at : distance_of d (g s) ≡ distance_of d (f s) = ap (distance_of d) (same s) in let least = i.least s in omega (arith, at, least);
  met = λ l. let m = i.met l in (m.0, m.1 ∙ ap (distance_of d) (sym (same m.0)));
}

pub least_named : (d : ℕ → ℕ) (image : Image) (classes : List Class) (x : ℕ) (o : DumpedObject) (r : ℕ) → object_with image x ≡ Some o → classes ≡ image.classes → IsLeastOf d (slot_names classes o) r → IsLeastOf d (named image x) r
least_named d image classes x o r e same i = least_of_alike d (slot_names classes o) (named image x) r (λ s. named_is image x s o e ∙ ap (λ cs. slot_names cs o s) (sym same)) i

-- what names nothing if there is no object
pub none_named : (image : Image) (x s : ℕ) → object_with image x ≡ None → named image x s ≡ None
unfolding named
none_named image x s e = ap (option_and_then (λ o. slot_names image.classes o s)) e

pub least_none : (d : ℕ → ℕ) (image : Image) (x : ℕ) → object_with image x ≡ None → IsLeastOf d (named image x) far
least_none d image x e = record {
  small = omega arith;
  least = λ s. let none : distance_of d (named image x s) ≡ far = ap (distance_of d) (none_named image x s e) in omega (arith, none);
  met = λ l. absurd (omega (arith, l));
}

-- ---- the distance of a node's object

pub fit_goal : (image : Image) (d : ℕ → ℕ) (x y : ℕ) → y ≡ x → d y ≡ 0 → IsFit image d x y
fit_goal image d x y same zero = record {
  goal = λ e. zero;
  near = λ other l. absurd (other same);
  least = λ s z m. omega (arith, zero);
  room = λ e. absurd (omega (arith, zero, e));
}

pub fit_other : (image : Image) (d : ℕ → ℕ) (x y r more : ℕ) → y ≢ x → d y + 1 ≢ far → IsLeastOf d (named image y) r → (r < far → more ≡ r + 1) → (r ≡ far → more ≡ far) → d y ≡ more → IsFit image d x y
fit_other image d x y r more other room i below past is = record {
  goal = λ e. absurd (other e);
  near = λ o l. nearer l;
  least = λ s z m. step s z m;
  room = room;
}
  where
    most : d y ≤ r + 1
    most = elim (cases_lt r far) [
      | inl l ↦ let e = below l in omega (arith, is, e)
      | inr l ↦ let small = i.small in let e = past (omega (arith, small, l)) in omega (arith, is, e, l)
    ]

    step : (s z : ℕ) → named image y s ≡ Some z → d y ≤ d z + 1
    step s z m = let at : distance_of d (named image y s) ≡ d z = ap (distance_of d) m in let least = i.least s in omega (arith, at, least, most)

    by : (s : ℕ) (n : Option ℕ) → named image y s ≡ n → r ≡ distance_of d n → r < far → HasNearer image d y
    by s None m e l = let none : r ≡ far = e in absurd (omega (arith, none, l))
    by s (Some z) m e l =
        let near : r ≡ d z = e in
        let k = below l in
        (s, z, m, omega (arith, is, k, near))

    nearer : d y < far → HasNearer image d y
    nearer l = elim (cases_lt r far) [
      | inl k ↦ let m = i.met k in by m.0 (named image y m.0) refl m.1 k
      | inr k ↦ absurd (let small = i.small in let e = past (omega (arith, small, k)) in omega (arith, is, e, l))
    ]

-- what has no node has no distance
pub fit_none : (image : Image) (places : List ObjRef) (nodes : List Node) (table : List ℕ) (x y j : ℕ) → AreNodes image places nodes → node_with nodes x ≡ Some j → node_with nodes y ≡ None → IsFit image (distance_by nodes table) x y
fit_none image places nodes table x y j n goal e = record {
  goal = λ same. absurd (none-some j (sym e ∙ ap (node_with nodes) same ∙ goal));
  near = λ other l. absurd (omega (arith, is, l));
  least = λ s z m. let k = node_of_object image places nodes y n (named_object image y s z m) in absurd (none-some k.0 (sym e ∙ k.1));
  room = λ h. absurd (omega (arith, is, h));
}
  where
    is : distance_by nodes table y ≡ far
    is = ap (λ (o : Option ℕ). option_map_or (λ j. slice_index_or table j far) o far) e

-- all nodes' objects have theirs
pub all_fit : (image : Image) (places : List ObjRef) (nodes : List Node) (table : List ℕ) (x j n : ℕ) → AreNodes image places nodes → node_with nodes x ≡ Some j → length nodes ≤ n → ((k : ℕ) → k < n → IsFitNode image (distance_by nodes table) x nodes k) → AreDistances image (distance_by nodes table) x
all_fit image places nodes table x j n are goal all fits y = go (node_with nodes y) refl
  where
    go : (o : Option ℕ) → node_with nodes y ≡ o → IsFit image (distance_by nodes table) x y
    go None e = fit_none image places nodes table x y j are goal e
    go (Some k) e = fits k (let within = node_within nodes y k e in omega (arith, within, all)) y e

-- what is near is an object
pub near_object : (image : Image) (places : List ObjRef) (nodes : List Node) (table : List ℕ) (y : ℕ) → AreNodes image places nodes → distance_by nodes table y < far → HasId image y
near_object image places nodes table y are l = go (node_with nodes y) refl
  where
    go : (o : Option ℕ) → node_with nodes y ≡ o → HasId image y
    go None e = absurd (let is : distance_by nodes table y ≡ far = ap (λ (o : Option ℕ). option_map_or (λ j. slice_index_or table j far) o far) e in omega (arith, is, l))
    go (Some k) e = object_found image places nodes y k are e

-- ---- starts

-- what the start of a number names, if that is near
start_near : (image : Image) (places : List ObjRef) (nodes : List Node) (table : List ℕ) (earlier : List Route) (r s z : ℕ) → AreNodes image places nodes → s < slot_span → slice_get (with_starts image earlier).registers (r * slot_span + s) ≡ Some z → distance_by nodes table z < far → IsStart image earlier r s z
start_near image places nodes table earlier r s z are small e near =
    subst (λ q. IsStart image earlier q s z) (div-mul-add r slot_span s small)
    (subst (λ k. IsStart image earlier ((r * slot_span + s) / slot_span) k z) (mod-mul-add r slot_span s small) (start_found image earlier (r * slot_span + s) z e (near_object image places nodes table z are near)))

-- the starts of the first path
abbrev first_starts : Image → List ℕ
first_starts image = (with_starts image []).registers

-- the start by a slot, by what the slot names
start_step : (image : Image) (places : List ObjRef) (nodes : List Node) (table : List ℕ) (classes : List Class) (r s z distance : ℕ) (o : DumpedObject) → AreNodes image places nodes → s < slot_span → IsNamedBy image r o → classes ≡ image.classes → distance ≡ distance_of (distance_by nodes table) (slot_names classes o s)
    → slice_get (first_starts image) (r * slot_span + s) ≡ Some z → distance_by nodes table z < far → distance ≡ distance_by nodes table z
start_step image places nodes table classes r s z distance o are small by same told e near =
    let is = start_near image places nodes table [] r s z are small e near in
    let first : is.first ≡ by.0 = got_same image.registers r is.first by.0 is.names by.1 in
    let names : slot_names classes o s ≡ Some z = ap (λ cs. slot_names cs o s) same ∙ sym (named_is image by.0 s o by.2) ∙ ap (λ y. named image y s) (sym first) ∙ is.leads in
    told ∙ ap (distance_of (distance_by nodes table)) names

-- it is put among the nearest
pub start_here : (image : Image) (nodes : List Node) (table : List ℕ) (classes : List Class) (r s most distance : ℕ) (o : DumpedObject) (starts : List Start) (new : Start) → s < slot_span → s < length o.words → IsNamedBy image r o → classes ≡ image.classes → distance ≡ distance_of (distance_by nodes table) (slot_names classes o s)
    → distance < far → new.number ≡ r * slot_span + s → new.id ≡ get_or o.words s 0 → new.distance ≡ distance → AreNearest (distance_by nodes table) (first_starts image) (r * slot_span + s) most starts
    → AreNearest (distance_by nodes table) (first_starts image) (r * slot_span + s + 1) most (take most (with_start new starts))
start_here image nodes table classes r s most distance o starts new small within by same told less at id is b =
    let d = distance_by nodes table in
    let near : distance_of d (slot_names classes o s) < far = omega (arith, less, told) in
    let word = named_word d classes o s within near in
    let leads : named image by.0 s ≡ Some new.id = named_is image by.0 s o by.2 ∙ ap (λ cs. slot_names cs o s) (sym same) ∙ word ∙ ap Some (sym id) in
    let there = slice_get_within image.registers r by.0 by.1 in
    let word_at = start_word image [] r s new.id small there (start_is image [] r s by.0 new.id refl by.1 leads) in
    nearest_more d (first_starts image) (r * slot_span + s) most new starts at
    (record {
      below = omega (arith, at);
      names = ap (slice_get (first_starts image)) at ∙ word_at;
      told = ap d id ∙ sym (told ∙ ap (distance_of d) word) ∙ sym is;
      near = omega (arith, is, less);
    }) b

-- or it names nothing near
pub start_far : (image : Image) (places : List ObjRef) (nodes : List Node) (table : List ℕ) (classes : List Class) (r s most distance : ℕ) (o : DumpedObject) (starts : List Start) → AreNodes image places nodes → s < slot_span → IsNamedBy image r o → classes ≡ image.classes → distance ≡ distance_of (distance_by nodes table) (slot_names classes o s)
    → distance ≡ far → AreNearest (distance_by nodes table) (first_starts image) (r * slot_span + s) most starts → AreNearest (distance_by nodes table) (first_starts image) (r * slot_span + s + 1) most starts
start_far image places nodes table classes r s most distance o starts are small by same told past b =
    let d = distance_by nodes table in
    nearest_past d (first_starts image) (r * slot_span + s) (r * slot_span + s + 1) most starts (omega arith)
    (λ q z above below e. elim (cases_lt (d z) far) [
      | inl near ↦
          let at : q ≡ r * slot_span + s = omega (arith, above, below) in
          let is = start_step image places nodes table classes r s z distance o are small by same told (ap (slice_get (first_starts image)) (sym at) ∙ e) near in
          absurd (omega (arith, is, past, near))
      | inr ge ↦ ge
    ]) b

-- numbers at which nothing starts
pub starts_past : (image : Image) (places : List ObjRef) (nodes : List Node) (table : List ℕ) (r low high most : ℕ) (starts : List Start) → AreNodes image places nodes → low ≤ high → high ≤ slot_span → ((s y : ℕ) → low ≤ s → s < high → ¬ IsStart image [] r s y)
    → AreNearest (distance_by nodes table) (first_starts image) (r * slot_span + low) most starts → AreNearest (distance_by nodes table) (first_starts image) (r * slot_span + high) most starts
starts_past image places nodes table r low high most starts are le few none b =
    let d = distance_by nodes table in
    nearest_past d (first_starts image) (r * slot_span + low) (r * slot_span + high) most starts (omega (arith, le))
    (λ q z above below e. elim (cases_lt (d z) far) [
      | inl near ↦ absurd (no_start image [] r low high few none q z above below e (near_object image places nodes table z are near))
      | inr past ↦ past
    ]) b

-- ---- the next start

-- what starts with these earlier paths starts with others, unless one of them starts so
start_among : (image : Image) (places : List ObjRef) (nodes : List Node) (table : List ℕ) (earlier others : List Route) (q z : ℕ) → AreNodes image places nodes → slice_get (with_starts image earlier).registers q ≡ Some z → distance_by nodes table z < far → list_any (starts_by (q / slot_span) (q % slot_span)) others ≡ false
    → (slice_get (with_starts image others).registers q ≡ Some z) × (list_any (starts_by (q / slot_span) (q % slot_span)) earlier ≡ false)
start_among image places nodes table earlier others q z are e near free =
    let is = start_found image earlier q z e (near_object image places nodes table z are near) in
    let r : ℕ = q / slot_span in
    let s : ℕ = q % slot_span in
    let small : s < slot_span = omega arith in
    let at : r * slot_span + s ≡ q = omega arith in
    let word = start_word image others r s z small (slice_get_within image.registers r is.first is.names) (start_is image others r s is.first z free is.names is.leads) in
    (ap (slice_get (with_starts image others).registers) (sym at) ∙ word, is.free)

next_start : (image : Image) (places : List ObjRef) (nodes : List Node) (table : List ℕ) (earlier : List Route) (starts : List Start) (r : Option Start) → AreNodes image places nodes → AreNearestFor (distance_by nodes table) (first_starts image) (length earlier) starts → r ≡ find (λ b. not (is_used earlier b)) starts
    → IsNearestOf (distance_by nodes table) (with_starts image earlier).registers (length (with_starts image earlier).registers) r
next_start image places nodes table earlier starts r are nearest is = go r (sym is)
  where
    d : ℕ → ℕ
    d = distance_by nodes table

    others : List ℕ
    others = (with_starts image earlier).registers

    test : Start → Bool
    test b = not (is_used earlier b)

    among : AreNearest d (first_starts image) (length (first_starts image)) nearest.0 starts
    among = nearest.2

    many : length others ≡ length (first_starts image)
    many = starts_many image earlier ∙ sym (starts_many image [])

    -- a start that isn't used
    start_with : (q z : ℕ) → slice_get others q ≡ Some z → d z < far → IsNearStart d (first_starts image) (length (first_starts image)) (record { number = q; id = z; distance = d z }) × (is_used earlier (record { number = q; id = z; distance = d z }) ≡ false)
    start_with q z e near =
        let a = start_among image places nodes table earlier [] q z are e near refl in
        (record { below = slice_get_within (first_starts image) q z a.0; names = a.0; told = refl; near = near }, a.1)

    go : (r : Option Start) → find test starts ≡ r → IsNearestOf d others (length others) r
    go None e = λ q z l m. elim (cases_lt (d z) far) [
      | inr past ↦ past
      | inl near ↦
          let c = start_with q z m near in
          let b : Start = record { number = q; id = z; distance = d z } in
          elim (among.rest b c.0) [
            | inl stands ↦ absurd (true≢false (sym (ap not c.1) ∙ none_passes test b starts e stands))
            | inr full ↦
                let paths = as_many_paths d (first_starts image) (length (first_starts image)) earlier starts among.each among.ordered (λ x s. used x (none_passes test x starts e s)) in
                absurd (let fewer = nearest.1 in let long = full.0 in omega (arith, paths, fewer, long))
          ]
    ]
      where
        used : (x : Start) → not (is_used earlier x) ≡ false → is_used earlier x ≡ true
        used x h = elim (cases_Bool (is_used earlier x)) [ inl t ↦ t | inr f ↦ absurd (true≢false (sym (ap not f) ∙ h)) ]
    go (Some b) e =
        let f = first_passes test b starts among.ordered e in
        let near = one_of_all (IsNearStart d (first_starts image) (length (first_starts image))) b starts among.each f.0 in
        let free : is_used earlier b ≡ false = elim (cases_Bool (is_used earlier b)) [ inl t ↦ absurd (true≢false (sym f.1 ∙ ap not t)) | inr n ↦ n ] in
        let a = start_among image places nodes table [] earlier b.number b.id are near.names (let told = near.told in let less = near.near in omega (arith, told, less)) free in (
          slice_get_within others b.number b.id a.0,
          a.0,
          near.told,
          near.near,
          λ q z l m less.
              let c = start_with q z m less in
              let x : Start = record { number = q; id = z; distance = d z } in
              elim (among.rest x c.0) [
                | inl stands ↦ elim (f.2 x stands (ap not c.1)) [
                  | inl same ↦ inr (ap (λ (y : Start). y.distance) same, let at : b.number ≡ q = ap (λ (y : Start). y.number) same in omega (arith, at))
                  | inr before ↦ no_later q z before
                ]
                | inr full ↦ no_later q z (one_of_all (λ y. IsNearerStart y x) b starts full.1 f.0)
              ],
        )
      where
        no_later : (q z : ℕ) → IsNearerStart b (record { number = q; id = z; distance = d z }) → (b.distance < d z) ⊎ ((b.distance ≡ d z) × (b.number ≤ q))
        no_later q z (inl l) = inl l
        no_later q z (inr l) = inr (l.0, let less = l.1 in omega (arith, less))

-- the first start by which none of these paths begins
pub next_of_paths : (image : Image) (places : List ObjRef) (nodes : List Node) (table : List ℕ) (paths : List Path) (starts : List Start) (r : Option Start) → AreNodes image places nodes → AreNearestFor (distance_by nodes table) (first_starts image) (length paths) starts
    → r ≡ find (λ b. not (list_any (λ p. starts_by (b.number / slot_span) (b.number % slot_span) (route_of p)) paths)) starts → IsNearestOf (distance_by nodes table) (with_starts image (map route_of paths)).registers (length (with_starts image (map route_of paths)).registers) r
next_of_paths image places nodes table paths starts r are nearest is =
    next_start image places nodes table (map route_of paths) starts r are (subst (λ k. AreNearestFor (distance_by nodes table) (first_starts image) k starts) (sym (length-map paths route_of)) nearest)
    (is ∙ (λ i. find (λ (b : Start). not (any_route (starts_by (b.number / slot_span) (b.number % slot_span)) paths i)) starts))

pub no_start_of_none : (image : Image) (earlier : List Route) (r x s y : ℕ) → slice_get image.registers r ≡ Some x → object_with image x ≡ None → ¬ IsStart image earlier r s y
no_start_of_none image earlier r x s y names none is =
    let same : is.first ≡ x = got_same image.registers r is.first x is.names names in
    none-some y (sym (none_named image x s none) ∙ ap (λ z. named image z s) (sym same) ∙ is.leads)

-- ---- the first slot that leads nearer

abbrev pub NoneNearer : (ℕ → ℕ) → (ℕ → Option ℕ) → ℕ → ℕ → Type 0
NoneNearer d names left n = (t z : ℕ) → t < n → names t ≡ Some z → d z + 1 ≢ left

pub nearer_past : (d : ℕ → ℕ) (names : ℕ → Option ℕ) (left n distance : ℕ) → distance ≡ distance_of d (names n) → distance + 1 ≢ left → NoneNearer d names left n → NoneNearer d names left (n + 1)
nearer_past d names left n distance told differs before t z l m e = elim (cases_lt t n) [
  | inl lt ↦ before t z lt m e
  | inr ge ↦
      let same : n ≡ t = omega (arith, ge, l) in
      let at : distance ≡ d z = told ∙ ap (λ k. distance_of d (names k)) same ∙ ap (distance_of d) m in
      differs (ap (λ k. k + 1) at ∙ e)
]

pub nearer_found : (d : ℕ → ℕ) (classes : List Class) (o : DumpedObject) (left s w distance : ℕ) → s < length o.words → left < far → w ≡ get_or o.words s 0 → distance ≡ distance_of d (slot_names classes o s) → distance + 1 ≡ left → NoneNearer d (slot_names classes o) left s
    → IsFirstNearer d (slot_names classes o) left (Some (record { slot = s; to = w }))
nearer_found d classes o left s w distance within small held told step before =
    let word = named_word d classes o s within (omega (arith, told, step, small)) in
    let names : slot_names classes o s ≡ Some w = word ∙ ap Some (sym held) in
    let at : distance ≡ d w = told ∙ ap (distance_of d) names in
    (names, omega (arith, at, step), before)

pub none_nearer : (d : ℕ → ℕ) (classes : List Class) (o : DumpedObject) (left n : ℕ) → length o.words ≤ n → NoneNearer d (slot_names classes o) left n → IsFirstNearer d (slot_names classes o) left None
none_nearer d classes o left n all before = λ t z m. before t z (let within = slot_within classes o t z m in omega (arith, within, all)) m

nearer_alike : (d : ℕ → ℕ) (f g : ℕ → Option ℕ) (left : ℕ) (r : Option Hop) → ((s : ℕ) → g s ≡ f s) → IsFirstNearer d f left r → IsFirstNearer d g left r
nearer_alike d f g left None same i = λ t z m. i t z (sym (same t) ∙ m)
nearer_alike d f g left (Some h) same i = (same h.slot ∙ i.0, i.1, λ t z l m. i.2 t z l (sym (same t) ∙ m))

pub nearer_named : (d : ℕ → ℕ) (image : Image) (classes : List Class) (x left : ℕ) (o : DumpedObject) (r : Option Hop) → object_with image x ≡ Some o → classes ≡ image.classes → IsFirstNearer d (slot_names classes o) left r → IsFirstNearer d (named image x) left r
nearer_named d image classes x left o r e same i = nearer_alike d (slot_names classes o) (named image x) left r (λ s. named_is image x s o e ∙ ap (λ cs. slot_names cs o s) (sym same)) i

pub nearer_none : (d : ℕ → ℕ) (image : Image) (x left : ℕ) → object_with image x ≡ None → IsFirstNearer d (named image x) left None
nearer_none d image x left e = λ t z m. absurd (none-some z (sym (none_named image x t e) ∙ m))

-- ---- the test of a node

pub fit_by_goal : (image : Image) (d : ℕ → ℕ) (x : ℕ) (nodes : List Node) (node id distance : ℕ) → ((y : ℕ) → node_with nodes y ≡ Some node → id ≡ y) → distance ≡ d id → id ≡ x → distance ≡ 0 → IsFitNode image d x nodes node
fit_by_goal image d x nodes node id distance told is same zero = λ y e. fit_goal image d x y (sym (told y e) ∙ same) (ap d (sym (told y e)) ∙ sym is ∙ zero)

pub fit_by_step : (image : Image) (d : ℕ → ℕ) (x : ℕ) (nodes : List Node) (node id distance r more : ℕ) → ((y : ℕ) → node_with nodes y ≡ Some node → id ≡ y) → distance ≡ d id → distance + 1 ≢ far → id ≢ x → IsLeastOf d (named image id) r → (r < far → more ≡ r + 1) → (r ≡ far → more ≡ far) → distance ≡ more → IsFitNode image d x nodes node
fit_by_step image d x nodes node id distance r more told is room other least below past same = λ y e.
    subst (IsFit image d x) (told y e) (fit_other image d x id r more other (λ h. room (ap (λ k. k + 1) is ∙ h)) least below past (sym is ∙ same))
