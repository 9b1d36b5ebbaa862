-- Ways that are found one after another.
use Rattle.std.proofs.Common.{◌≡◌, ℕ, ◌+◌, ◌<◌, ◌≤◌, Bool, true, false, ◌||◌, cond, List, [], ◌∷◌, ◌++◌, length, take, get_or, inl, inr, refl, sym, ap, subst, ◌∙◌, append_assoc, add-one, arith}
use Rattle.std.specs.Prelude.{fold, nat_eq}
use Rattle.std.specs.Cmp.{nat_eq_equiv}
use Rattle.std.specs.List.{AllByRecursion, Contains, IsDistinct, list_any}
use Rattle.std.proofs.lemmas.List.{append-nil, length-append, take-append-le, take_all, take_more}
use Rattle.std.proofs.lemmas.List.Elements.{Contains-append_left, Contains-get_or}
use Rattle.std.proofs.lemmas.List.Folds.{list_any-append}
use Rattle.std.proofs.lemmas.List.Sums.{fold-append}
use Rattle.std.proofs.lemmas.Map.Keys.{IsDistinct-push}
use Rattle.hprof_pair.specs.Dumps.{DumpTold}
use Rattle.hprof_pair.specs.Ways.{AreInTurn, AreWays, IsReached, IsWay, numbers_of, with_way, with_ways, ways_out}
use Rattle.hprof_pair.specs.declared.ways.Way.{Way}

-- ---- lists

each_for : {X : Type 0} {P Q : X → Type 0} → ((x : X) → P x → Q x) → (xs : List X) → AllByRecursion P xs → AllByRecursion Q xs
each_for f [] h = tt
each_for f (x ∷ xs) h = (f x h.0, each_for f xs h.1)

each_and : {X : Type 0} (P : X → Type 0) (xs : List X) (y : X) → AllByRecursion P xs → P y → AllByRecursion P (xs ++ y ∷ [])
each_and P [] y h p = (p, tt)
each_and P (x ∷ xs) y h p = (h.0, each_and P xs y h.1 p)

contains_next : {X : Type 0} (x : X) (xs : List X) (y : X) → Contains xs y → Contains (x ∷ xs) y
contains_next x xs y h = (h.0 + 1, omega (arith, h.1), ap (λ (k : ℕ). get_or (x ∷ xs) k y) (add-one h.0) ∙ h.2)

each_contained : {X : Type 0} {P : X → Type 0} (xs : List X) → ((x : X) → Contains xs x → P x) → AllByRecursion P xs
each_contained [] f = tt
each_contained (x ∷ xs) f = (f x (0, omega arith, refl), each_contained xs (λ y h. f y (contains_next x xs y h)))

-- ---- where ways lead

numbers_and : (ways : List Way) (w : Way) → numbers_of (ways ++ w ∷ []) ≡ numbers_of ways ++ w.number ∷ []
numbers_and [] w = refl
numbers_and (v ∷ ways) w = ap (λ (ns : List ℕ). v.number ∷ ns) (numbers_and ways w)

numbers_more : (ways more : List Way) → numbers_of (ways ++ more) ≡ numbers_of ways ++ numbers_of more
numbers_more [] more = refl
numbers_more (v ∷ ways) more = ap (λ (ns : List ℕ). v.number ∷ ns) (numbers_more ways more)

true_if_left : (a b : Bool) → a ≡ true → (a || b) ≡ true
true_if_left true b is = refl
true_if_left false b is = cc

true_if_right : (a b : Bool) → b ≡ true → (a || b) ≡ true
true_if_right true b is = refl
true_if_right false b is = is

number_is_itself : (n : ℕ) → nat_eq n n ≡ true
number_is_itself n = nat_eq_equiv.refl n

reached_with_more : (ways more : List Way) (w : Way) → IsReached ways w → IsReached (ways ++ more) w
reached_with_more ways more w is =
    ap (list_any (nat_eq w.number)) (numbers_more ways more) ∙ list_any-append (nat_eq w.number) (numbers_of ways) (numbers_of more)
    ∙ true_if_left (list_any (nat_eq w.number) (numbers_of ways)) (list_any (nat_eq w.number) (numbers_of more)) is

last_is_reached : (ways : List Way) (w : Way) → IsReached (ways ++ w ∷ []) w
last_is_reached ways w =
    ap (list_any (nat_eq w.number)) (numbers_and ways w) ∙ list_any-append (nat_eq w.number) (numbers_of ways) (w.number ∷ [])
    ∙ true_if_right (list_any (nat_eq w.number) (numbers_of ways)) (nat_eq w.number w.number || false) (true_if_left (nat_eq w.number w.number) false (number_is_itself w.number))

-- ---- ways in turn

way_with_more : (d : DumpTold) (roots before more : List Way) (w : Way) → IsWay d roots before w → IsWay d roots (before ++ more) w
way_with_more d roots before more w (inl root) = inl root
way_with_more d roots before more w (inr h) = inr (h.0, Contains-append_left before more h.0 h.1, h.2)

in_turn_and : (d : DumpTold) (roots before ways : List Way) (w : Way) → AreInTurn d roots before ways → IsWay d roots (before ++ ways) w → AreInTurn d roots before (ways ++ w ∷ [])
in_turn_and d roots before [] w h is = (subst (λ (vs : List Way). IsWay d roots vs w) (append-nil before) is, tt)
in_turn_and d roots before (v ∷ ways) w h is =
    (h.0, in_turn_and d roots (before ++ v ∷ []) ways w h.1 (subst (λ (vs : List Way). IsWay d roots vs w) (sym (append_assoc before (v ∷ []) ways)) is))

-- ---- further ways

-- the ways with further ones that begin as they must: those that lead elsewhere are added, and each leads where one of all leads
pub record IsGrown (d : DumpTold) (roots ways more grown : List Way) : Type 0 where
  pub added : List Way
  pub is : grown ≡ ways ++ added
  pub once : IsDistinct nat_eq (numbers_of grown)
  pub in_turn : AreInTurn d roots [] grown
  pub reached : AllByRecursion (IsReached grown) more

one_grown : (d : DumpTold) (roots ways : List Way) (w : Way) → IsWay d roots ways w → IsDistinct nat_eq (numbers_of ways) → AreInTurn d roots [] ways → IsGrown d roots ways (w ∷ []) (with_way ways w)
one_grown d roots ways w is once turn = go (list_any (nat_eq w.number) (numbers_of ways)) refl
  where
    go : (b : Bool) → list_any (nat_eq w.number) (numbers_of ways) ≡ b → IsGrown d roots ways (w ∷ []) (cond b ways (ways ++ w ∷ []))
    go true there = record { added = []; is = sym (append-nil ways); once = once; in_turn = turn; reached = (there, tt) }
    go false new = record {
      added = w ∷ [];
      is = refl;
      once = subst (IsDistinct nat_eq) (sym (numbers_and ways w)) (IsDistinct-push nat_eq_equiv (numbers_of ways) w.number once new);
      in_turn = in_turn_and d roots [] ways w turn is;
      reached = (last_is_reached ways w, tt);
    }

pub ways_grow : (d : DumpTold) (roots ways more : List Way) → AllByRecursion (IsWay d roots ways) more → IsDistinct nat_eq (numbers_of ways) → AreInTurn d roots [] ways → IsGrown d roots ways more (with_ways ways more)
unfolding with_ways
ways_grow d roots ways [] are once turn = record { added = []; is = sym (append-nil ways); once = once; in_turn = turn; reached = tt }
ways_grow d roots ways (w ∷ more) are once turn =
    let one = one_grown d roots ways w are.0 once turn in
    let kept : AllByRecursion (IsWay d roots (with_way ways w)) more =
    each_for (λ (v : Way) h. subst (λ (vs : List Way). IsWay d roots vs v) (sym one.is) (way_with_more d roots ways one.added v h)) more are.1 in
    let all = ways_grow d roots (with_way ways w) more kept one.once one.in_turn in
    record {
      added = one.added ++ all.added;
      is = all.is ∙ ap (λ (vs : List Way). vs ++ all.added) one.is ∙ append_assoc ways one.added all.added;
      once = all.once;
      in_turn = all.in_turn;
      reached = (subst (λ (vs : List Way). IsReached vs w) (sym all.is) (reached_with_more (with_way ways w) all.added w one.reached.0), all.reached);
    }

pub no_more_ways : (ways : List Way) → ways ≡ with_ways ways []
unfolding with_ways
no_more_ways ways = refl

pub one_more_way : (ways more : List Way) (i : ℕ) (d : Way) (now next : List Way) → i < length more → now ≡ with_ways ways (take i more) → next ≡ with_way now (get_or more i d) → next ≡ with_ways ways (take (i + 1) more)
unfolding with_ways
one_more_way ways more i d now next less so_far is =
    is ∙ ap (λ (ws : List Way). with_way ws (get_or more i d)) so_far
    ∙ sym (fold-append with_way ways (take i more) (get_or more i d ∷ [])) ∙ ap (fold with_way ways) (sym (take_more more i d less))

-- ---- a search

-- these ways lead to the roots, and by all slots of the objects to which the first k lead
pub record IsSearching (d : DumpTold) (roots ways : List Way) (k : ℕ) : Type 0 where
  pub once : IsDistinct nat_eq (numbers_of ways)
  pub in_turn : AreInTurn d roots [] ways
  pub to_roots : AllByRecursion (IsReached ways) roots
  pub onwards : AllByRecursion (λ (v : Way). AllByRecursion (IsReached ways) (ways_out d v.number)) (take k ways)
  pub few : k ≤ length ways

pub search_begins : (d : DumpTold) (roots : List Way) → IsSearching d roots (with_ways [] roots) 0
unfolding IsDistinct
search_begins d roots =
    let all = ways_grow d roots [] roots (each_contained roots (λ w h. inl h)) tt tt in
    record { once = all.once; in_turn = all.in_turn; to_roots = all.reached; onwards = tt; few = omega arith }

pub search_goes_on : (d : DumpTold) (roots ways : List Way) (k : ℕ) (v : Way) → k < length ways → v ≡ get_or ways k v → IsSearching d roots ways k → IsSearching d roots (with_ways ways (ways_out d v.number)) (k + 1)
search_goes_on d roots ways k v less is so_far =
    let next = ways_out d v.number in
    let there : Contains ways v = subst (Contains ways) (sym is) (Contains-get_or ways k v less) in
    let all = ways_grow d roots ways next (each_contained next (λ w h. inr (v, there, h))) so_far.once so_far.in_turn in
    let grown = with_ways ways next in
    let still : (w : Way) → IsReached ways w → IsReached grown w = λ w h. subst (λ (vs : List Way). IsReached vs w) (sym all.is) (reached_with_more ways all.added w h) in
    let first : take (k + 1) grown ≡ take k ways ++ v ∷ [] =
    ap (take (k + 1)) all.is ∙ take-append-le (k + 1) ways all.added (omega (arith, less)) ∙ take_more ways k v less ∙ ap (λ (w : Way). take k ways ++ w ∷ []) (sym is) in
    record {
      once = all.once;
      in_turn = all.in_turn;
      to_roots = each_for still roots so_far.to_roots;
      onwards =
          subst (AllByRecursion (λ (w : Way). AllByRecursion (IsReached grown) (ways_out d w.number))) (sym first)
          (each_and (λ (w : Way). AllByRecursion (IsReached grown) (ways_out d w.number)) (take k ways) v (each_for (λ (w : Way) h. each_for still (ways_out d w.number) h) (take k ways) so_far.onwards) all.reached);
      few = omega (arith, less, ap length all.is ∙ length-append ways all.added);
    }

pub search_ends : (d : DumpTold) (roots ways : List Way) (k : ℕ) → length ways ≤ k → IsSearching d roots ways k → AreWays d roots ways
search_ends d roots ways k past so_far = record {
  once = so_far.once;
  in_turn = so_far.in_turn;
  to_roots = so_far.to_roots;
  onwards = subst (AllByRecursion (λ (v : Way). AllByRecursion (IsReached ways) (ways_out d v.number))) (take_all k ways past) so_far.onwards;
}
