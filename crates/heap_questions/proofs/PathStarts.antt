-- Which paths start alike, and which comes next.
use Rattle.std.proofs.Common.{◌≡◌, ℕ, ◌+◌, ◌*◌, ◌/◌, ◌%◌, ◌<◌, ◌≤◌, Bool, true, false, List, [], ◌∷◌, ◌++◌, length, map, take, refl, sym, ap, ap₂, ◌∙◌, subst, inl, inr, arith}
use Rattle.std.specs.Prelude.{slice_get, Option, Some, None, All, option_and_then, ◌==◌, ◌&&◌, ◌||◌}
use Rattle.std.specs.List.{AllByRecursion, list_any}
use Rattle.std.specs.Option.{option_map_or}
use Rattle.std.proofs.lemmas.Bool.{cases_Bool, cases_lt, eqb-true, eq-eqb, ne_eqb, true≢false}
use Rattle.std.proofs.lemmas.List.{take_all, take-append-le}
use Rattle.std.proofs.lemmas.List.Elements.{All-from_recursion, All-nil, recursion_from_All}
use Rattle.std.proofs.lemmas.Option.{none-some, slice_get_within}
use Rattle.heap_class.specs.declared.ObjRef.{ObjRef}
use Rattle.hprof_text.specs.Image.{Image, IsDumpable}
use Rattle.heap_questions.specs.Graph.{HasId, followed, IsFirstPath, IsPathTo, IsShortest, IsUnreached}
use Rattle.heap_questions.specs.Hops.{slots_of}
use Rattle.heap_questions.specs.PathsApart.{IsNextPath, IsNoLater, NoneIsLeft, Route, StartAlike, route_of}
use Rattle.heap_questions.specs.Search.{AreNodes, node_with, slot_span}
use Rattle.heap_questions.specs.Starts.{IsFirstFree, NoneIsFree, starts_at, starts_by, with_starts}
use Rattle.heap_questions.specs.declared.nodes.Node.{Node}
use Rattle.heap_questions.specs.declared.paths.Path.{Path}
use Rattle.heap_questions.proofs.LongerLists.{got_cases}
use Rattle.heap_questions.proofs.NodePlaces.{node_of_object}
use Rattle.heap_questions.proofs.Starting.{by_number, first_slot_below, path_of_start, start_of_path}

-- ---- starts that are told by a test

pub any_route : (test : Route → Bool) (paths : List Path) → list_any (λ p. test (route_of p)) paths ≡ list_any test (map route_of paths)
any_route test [] = refl
any_route test (p ∷ ps) = ap (λ b. test (route_of p) || b) (any_route test ps)

-- the test tells which paths start like p
abbrev pub Tells : (Route → Bool) → Route → Type 0
Tells test p = (e : Route) → (StartAlike e p → test e ≡ true) × (test e ≡ true → StartAlike e p)

none_alike : (test : Route → Bool) (p : Route) (earlier : List Route) → Tells test p → list_any test earlier ≡ false → AllByRecursion (λ e. ¬ StartAlike e p) earlier
none_alike test p [] told h = tt
none_alike test p (e ∷ es) told h = elim (cases_Bool (test e)) [
  | inl t ↦ absurd (true≢false (sym (ap (λ b. b || list_any test es) t) ∙ h))
  | inr f ↦ ((λ a. true≢false (sym ((told e).0 a) ∙ f)), none_alike test p es told (sym (ap (λ b. b || list_any test es) f) ∙ h))
]

not_used : (test : Route → Bool) (p : Route) (earlier : List Route) → Tells test p → AllByRecursion (λ e. ¬ StartAlike e p) earlier → list_any test earlier ≡ false
not_used test p [] told a = refl
not_used test p (e ∷ es) told a = elim (cases_Bool (test e)) [
  | inl t ↦ absurd (a.0 ((told e).1 t))
  | inr f ↦ ap (λ b. b || list_any test es) f ∙ not_used test p es told a.1
]

pub tells_by : (r s : ℕ) (slots : List ℕ) → Tells (starts_by r s) (record { register = r; slots = s ∷ slots })
tells_by r s slots e = (
  λ a. ap (λ b. b && option_map_or (λ n. n == s) (slice_get e.slots 0) false) (eq-eqb e.register r a.0) ∙ ap (λ o. option_map_or (λ n. n == s) o false) a.1 ∙ eq-eqb s s refl,
  λ h. elim (cases_Bool (e.register == r)) [
    | inl t ↦ (eqb-true e.register r t, first (slice_get e.slots 0) (sym (ap (λ b. b && option_map_or (λ n. n == s) (slice_get e.slots 0) false) t) ∙ h))
    | inr f ↦ absurd (true≢false (sym h ∙ ap (λ b. b && option_map_or (λ n. n == s) (slice_get e.slots 0) false) f))
  ],
)
  where
    first : (o : Option ℕ) → option_map_or (λ n. n == s) o false ≡ true → o ≡ Some s
    first None h = absurd (true≢false (sym h))
    first (Some n) h = ap Some (eqb-true n s h)

tells_at : (r : ℕ) → Tells (starts_at r) (record { register = r; slots = [] })
tells_at r e = (
  λ a. ap (λ b. b && (length e.slots == 0)) (eq-eqb e.register r a.0) ∙ none e.slots a.1,
  λ h. elim (cases_Bool (e.register == r)) [
    | inl t ↦ (eqb-true e.register r t, empty e.slots (sym (ap (λ b. b && (length e.slots == 0)) t) ∙ h))
    | inr f ↦ absurd (true≢false (sym h ∙ ap (λ b. b && (length e.slots == 0)) f))
  ],
)
  where
    none : (l : List ℕ) → slice_get l 0 ≡ None → (length l == 0) ≡ true
    none [] h = refl
    none (x ∷ xs) h = absurd (none-some x (sym h))

    empty : (l : List ℕ) → (length l == 0) ≡ true → slice_get l 0 ≡ None
    empty [] h = refl
    empty (x ∷ xs) h = absurd (true≢false (sym h ∙ ne_eqb (length (x ∷ xs)) 0 (λ e. absurd (omega (arith, e)))))

apart_by : (earlier : List Route) (r s : ℕ) (slots : List ℕ) → list_any (starts_by r s) earlier ≡ false → All (λ e. ¬ StartAlike e (record { register = r; slots = s ∷ slots })) earlier
apart_by earlier r s slots f =
    let p : Route = record { register = r; slots = s ∷ slots } in
    All-from_recursion (λ e. ¬ StartAlike e p) earlier (none_alike (starts_by r s) p earlier (tells_by r s slots) f)

free_by : (earlier : List Route) (r s : ℕ) (slots : List ℕ) → All (λ e. ¬ StartAlike e (record { register = r; slots = s ∷ slots })) earlier → list_any (starts_by r s) earlier ≡ false
free_by earlier r s slots a =
    let p : Route = record { register = r; slots = s ∷ slots } in
    not_used (starts_by r s) p earlier (tells_by r s slots) (recursion_from_All (λ e. ¬ StartAlike e p) earlier a)

apart_at : (earlier : List Route) (r : ℕ) → list_any (starts_at r) earlier ≡ false → All (λ e. ¬ StartAlike e (record { register = r; slots = [] })) earlier
apart_at earlier r f =
    let p : Route = record { register = r; slots = [] } in
    All-from_recursion (λ e. ¬ StartAlike e p) earlier (none_alike (starts_at r) p earlier (tells_at r) f)

free_at : (earlier : List Route) (r : ℕ) → All (λ e. ¬ StartAlike e (record { register = r; slots = [] })) earlier → list_any (starts_at r) earlier ≡ false
free_at earlier r a =
    let p : Route = record { register = r; slots = [] } in
    not_used (starts_at r) p earlier (tells_at r) (recursion_from_All (λ e. ¬ StartAlike e p) earlier a)

-- ---- a path of no slots

named_by_it : (image : Image) (r x : ℕ) → IsPathTo image r [] x → slice_get image.registers r ≡ Some x
named_by_it image r x p = go (slice_get image.registers r) p.leads
  where
    go : (o : Option ℕ) → option_and_then (λ y. followed image y []) o ≡ Some x → o ≡ Some x
    go None h = absurd (none-some x h)
    go (Some y) h = h

pub next_by_register : (image : Image) (earlier : List Route) (x r : ℕ) → HasId image x → IsFirstFree image.registers earlier x r → IsNextPath image earlier x (record { register = r; slots = [] })
next_by_register image earlier x r there f =
    record {
      apart = record { path = record { there = there; leads = ap (option_and_then (λ y. followed image y [])) f.names }; apart = apart_at earlier r f.free };
      first = λ q a. later q.register q.slots a.path a.apart;
    }
  where
    later : (q : ℕ) (others : List ℕ) → IsPathTo image q others x → All (λ e. ¬ StartAlike e (record { register = q; slots = others })) earlier → IsNoLater (record { register = r; slots = [] }) (record { register = q; slots = others })
    later q (s ∷ others) p a = inl (omega arith)
    later q [] p a = elim (cases_lt q r) [
      | inl l ↦ absurd (true≢false (sym (f.first q l (named_by_it image q x p)) ∙ free_at earlier q a))
      | inr l ↦ inr (refl, elim (cases_lt r q) [ inl m ↦ inl m | inr m ↦ inr (omega (arith, l, m), tt) ])
    ]

-- ---- a path by a slot

pub next_by_slot : (image : Image) (earlier : List Route) (x i : ℕ) (slots : List ℕ) → IsDumpable image → NoneIsFree image.registers earlier x → IsPathTo (with_starts image earlier) i slots x × IsShortest (with_starts image earlier) slots x × IsFirstPath (with_starts image earlier) i slots x
    → IsNextPath image earlier x (record { register = i / slot_span; slots = (i % slot_span) ∷ slots })
next_by_slot image earlier x i slots d none f =
    let p = path_of_start image earlier i slots x f.0 in
    record {
      apart = record { path = p.path; apart = apart_by earlier (i / slot_span) (i % slot_span) slots p.free };
      first = λ q a. later q.register q.slots a.path a.apart;
    }
  where
    later : (q : ℕ) (others : List ℕ) → IsPathTo image q others x → All (λ e. ¬ StartAlike e (record { register = q; slots = others })) earlier → IsNoLater (record { register = i / slot_span; slots = (i % slot_span) ∷ slots }) (record { register = q; slots = others })
    later q [] p a = absurd (true≢false (sym (none q (named_by_it image q x p)) ∙ free_at earlier q a))
    later q (t ∷ others) p a =
        let start = start_of_path image earlier q t others x d (free_by earlier q t others a) p in
        let least = f.1 (q * slot_span + t) others start in
        elim (cases_lt (length slots) (length others)) [
          | inl l ↦ inl (omega (arith, l))
          | inr l ↦
              let many : length others ≡ length slots = omega (arith, l, least) in
              inr (omega (arith, many), by_number i q t slots others (first_slot_below image q t others x d p) (f.2 (q * slot_span + t) others start many))
        ]

pub none_by_slot : (image : Image) (earlier : List Route) (x : ℕ) → IsDumpable image → NoneIsFree image.registers earlier x → IsUnreached (with_starts image earlier) x → NoneIsLeft image earlier x
none_by_slot image earlier x d none u q a = no q.register q.slots a.path a.apart
  where
    no : (q : ℕ) (others : List ℕ) → IsPathTo image q others x → ¬ All (λ e. ¬ StartAlike e (record { register = q; slots = others })) earlier
    no q [] p a = true≢false (sym (none q (named_by_it image q x p)) ∙ free_at earlier q a)
    no q (t ∷ others) p a = u (q * slot_span + t) others (start_of_path image earlier q t others x d (free_by earlier q t others a) p)

-- no object has the id
pub none_left_of_none : (image : Image) (places : List ObjRef) (nodes : List Node) (earlier : List Route) (x : ℕ) → AreNodes image places nodes → node_with nodes x ≡ None → NoneIsLeft image earlier x
none_left_of_none image places nodes earlier x n e q a = let j = node_of_object image places nodes x n a.path.there in none-some j.0 (sym e ∙ j.1)

-- ---- the first

none_apart : (p : Route) → All (λ e. ¬ StartAlike e p) []
none_apart p = All-nil (λ (e : Route). ¬ StartAlike e p)

pub first_is_shortest : (image : Image) (x : ℕ) (p : Route) → IsNextPath image [] x p → IsShortest image p.slots x
first_is_shortest image x p n r others path = elim (n.first (record { register = r; slots = others }) (record { path = path; apart = none_apart (record { register = r; slots = others }) })) [
  | inl l ↦ omega (arith, l)
  | inr l ↦ omega (arith, l.0)
]

pub first_is_first : (image : Image) (x : ℕ) (p : Route) → IsNextPath image [] x p → IsFirstPath image p.register p.slots x
first_is_first image x p n q others path many = elim (n.first (record { register = q; slots = others }) (record { path = path; apart = none_apart (record { register = q; slots = others }) })) [
  | inl l ↦ absurd (omega (arith, l, many))
  | inr l ↦ l.1
]

-- ---- register by register

-- at each register before r that names x an earlier path of no slots starts; so it is after r, if it doesn't name x or is used
pub none_free_more : (registers : List ℕ) (earlier : List Route) (x r : ℕ) → ((q : ℕ) → q < r → slice_get registers q ≡ Some x → list_any (starts_at q) earlier ≡ true) → (slice_get registers r ≡ Some x → list_any (starts_at r) earlier ≡ true)
    → (q : ℕ) → q < r + 1 → slice_get registers q ≡ Some x → list_any (starts_at q) earlier ≡ true
none_free_more registers earlier x r before here q l e = elim (cases_lt q r) [
  | inl lt ↦ before q lt e
  | inr ge ↦
      let same : q ≡ r = omega (arith, l, ge) in
      ap (λ k. list_any (starts_at k) earlier) same ∙ here (ap (slice_get registers) (sym same) ∙ e)
]

-- ---- path by path

-- a path with these parts
pub route_is : (p : Path) (r : ℕ) (slots : List ℕ) → p.register ≡ r → slots_of p.hops.items ≡ slots → route_of p ≡ record { register = r; slots = slots }
route_is p r slots a b = ap₂ (λ (n : ℕ) (l : List ℕ). let route : Route = record { register = n; slots = l } in route) a b

-- one more path
pub next_more : (image : Image) (x : ℕ) (paths new : List Route) (p : Route) → new ≡ paths ++ p ∷ [] → ((k : ℕ) (q : Route) → slice_get paths k ≡ Some q → IsNextPath image (take k paths) x q) → IsNextPath image paths x p
    → (k : ℕ) (q : Route) → slice_get new k ≡ Some q → IsNextPath image (take k new) x q
next_more image x paths new p e before here k q h = elim (got_cases paths p k q (ap (λ (l : List Route). slice_get l k) (sym e) ∙ h)) [
  | inl old ↦
      let within : k ≤ length paths = omega (arith, slice_get_within paths k q old) in
      let same : take k new ≡ take k paths = ap (take k) e ∙ take-append-le k paths (p ∷ []) within in
      subst (λ (l : List Route). IsNextPath image l x q) (sym same) (before k q old)
  | inr last ↦
      let same : take k new ≡ paths = ap (take k) e ∙ ap (λ n. take n (paths ++ p ∷ [])) last.0 ∙ take-append-le (length paths) paths (p ∷ []) (omega arith) ∙ take_all (length paths) paths (omega arith) in
      subst (λ (l : List Route). IsNextPath image l x q) (sym same) (subst (IsNextPath image paths x) (sym last.1) here)
]
