-- Whether a class has a name, by the name's place.
use Rattle.std.proofs.Common.{◌≡◌, ◌≢◌, ℕ, suc, ◌<◌, ◌==◌, false, ◌||◌, List, [], ◌∷◌, length, map, get_or, refl, sym, ap, ap₂, ◌∙◌, arith, ⊎_elim, true≢false}
use Rattle.std.specs.List.{IsDistinct, list_any}
use Rattle.std.specs.Str.{bytes_eq}
use Rattle.std.proofs.lemmas.Bool.{cases_eq, cases_lt, or_from, false_from_ne_true, eq-eqb, ne_eqb}
use Rattle.std.proofs.lemmas.List.Folds.{list_any_at}
use Rattle.std.proofs.lemmas.Map.Keys.{apart_from_distinct}
use Rattle.heap_class.specs.declared.class_table.ClassEntry.{ClassEntry}
use Rattle.heap_class.specs.Classes.{Class}
use Rattle.heap_class.specs.Entries.{class_of_entry}
use Rattle.heap_class.proofs.FirstUses.{bytes_self, bytes_flip}

-- the names of entries stand below n
abbrev pub AreBelow : ℕ → List ClassEntry → Type 0
AreBelow n es = (k : ℕ) (d : ClassEntry) → k < length es → (get_or es k d).name < n

other_entries_are_below : (n : ℕ) (e : ClassEntry) (es : List ClassEntry) → AreBelow n (e ∷ es) → AreBelow n es
other_entries_are_below n e es h k d l = h (suc k) d (omega arith)

first_entry_is_below : (n : ℕ) (e : ClassEntry) (es : List ClassEntry) → AreBelow n (e ∷ es) → e.name < n
first_entry_is_below n e es h = h 0 e (omega arith)

module _ (names : List (List ℕ)) (n : List ℕ) where
  -- a name that isn't there is that of no class
  pub named_nowhere : (es : List ClassEntry) → list_any (bytes_eq n) names ≡ false → AreBelow (length names) es → list_any (λ (d : Class). bytes_eq d.name n) (map (class_of_entry names) es) ≡ false
  named_nowhere [] h below = refl
  named_nowhere (e ∷ es) h below =
      or_from _ _ (bytes_flip (get_or names e.name []) n ∙ false_from_ne_true _ (λ same. true≢false (sym (list_any_at (bytes_eq n) names e.name [] (first_entry_is_below _ e es below) same) ∙ h)))
      (named_nowhere es h (other_entries_are_below _ e es below))

  module _ (place : ℕ) (distinct : IsDistinct bytes_eq names) (within : place < length names) (is : get_or names place [] ≡ n) where
    -- names at two places differ
    apart : (at : ℕ) → at < length names → at ≢ place → bytes_eq (get_or names at []) (get_or names place []) ≡ false
    apart at l other = ⊎_elim
        (λ less. apart_from_distinct bytes_eq names at place [] distinct less within)
        (λ more. let above : place < at = omega arith in bytes_flip (get_or names at []) (get_or names place []) ∙ apart_from_distinct bytes_eq names place at [] distinct above l)
        (cases_lt at place)

    same_place : (at : ℕ) → at < length names → bytes_eq (get_or names at []) n ≡ (at == place)
    same_place at l = ⊎_elim
        (λ e. ap (λ k. bytes_eq (get_or names k []) n) e ∙ ap (λ m. bytes_eq m n) is ∙ bytes_self n ∙ sym (eq-eqb at place e))
        (λ other. ap (bytes_eq (get_or names at [])) (sym is) ∙ apart at l other ∙ sym (ne_eqb at place other))
        (cases_eq at place)

    pub named_at_place : (es : List ClassEntry) → AreBelow (length names) es → list_any (λ (d : Class). bytes_eq d.name n) (map (class_of_entry names) es) ≡ list_any (λ (e : ClassEntry). e.name == place) es
    named_at_place [] below = refl
    named_at_place (e ∷ es) below = ap₂ (λ a b. a || b) (same_place e.name (first_entry_is_below _ e es below)) (named_at_place es (other_entries_are_below _ e es below))
