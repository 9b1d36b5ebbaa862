-- How many names there were before a class.
use Rattle.std.proofs.Common.{◌≡◌, ℕ, ◌+◌, ◌<◌, List, [], ◌∷◌, ◌++◌, length, map, get_or, take, drop, reverse, sym, ap, subst, ◌∙◌, arith, append_assoc}
use Rattle.std.specs.List.{All}
use Rattle.std.proofs.lemmas.List.{take-append-drop, take-map, drop_more, length-take, reverse-append, reverse-reverse}
use Rattle.heap_class.specs.declared.class_table.ClassEntry.{ClassEntry}
use Rattle.heap_class.specs.Classes.{Class, name_table}
use Rattle.heap_class.specs.Entries.{class_of_entry, IsEntryWithin, IsPlaced, IsEntryTable}
use Rattle.heap_class.proofs.Tables.{all_reversed, placed_entries_are_within, entry_within_more_names, classes_stay, names_of_placed}
use Rattle.std.proofs.lemmas.List.Elements.{All-weaker, All-tail}

all_of_reversed_list : {X : Type 0} (P : X → Type 0) (xs : List X) → All P xs → All P (reverse xs)
all_of_reversed_list P xs h = all_reversed P (reverse xs) (subst (All P) (sym (reverse-reverse xs)) h)

-- the older entries name places among the names that there were
older_within : (names : List (List ℕ)) (newer older : List ClassEntry) → IsPlaced names (newer ++ older) → All (IsEntryWithin (length names)) older
older_within names [] older h = placed_entries_are_within names older h
older_within names (e ∷ newer) older h =
    All-weaker (IsEntryWithin (length (take e.names_before names))) (IsEntryWithin (length names))
    (entry_within_more_names (length (take e.names_before names)) (length names) (omega (arith, length-take e.names_before names))) older
    (older_within (take e.names_before names) newer older h.3)

module _ (e : ClassEntry) (older : List ClassEntry) where
  -- the older classes by all names and by those that were there before a newer one
  older_stay : (names : List (List ℕ)) (n : ℕ) → All (IsEntryWithin (length (take n names))) older → map (class_of_entry names) (reverse older) ≡ map (class_of_entry (take n names)) (reverse older)
  older_stay names n h = classes_stay names n (reverse older) (all_of_reversed_list (IsEntryWithin (length (take n names))) older h)

  counted : (names : List (List ℕ)) (newer : List ClassEntry) → IsPlaced names (newer ++ e ∷ older) → length (name_table (map (class_of_entry names) (reverse older))) ≡ e.names_before
  counted names [] h =
      ap (λ l. length (name_table l)) (older_stay names e.names_before (placed_entries_are_within (take e.names_before names) older h.3))
      ∙ ap length (names_of_placed (take e.names_before names) older h.3)
      ∙ omega (arith, length-take e.names_before names, h.1)
  counted names (d ∷ newer) h =
      ap (λ l. length (name_table l)) (older_stay names d.names_before (All-tail (IsEntryWithin (length (take d.names_before names))) e older (older_within (take d.names_before names) newer (e ∷ older) h.3)))
      ∙ counted (take d.names_before names) newer h.3

module _ (names : List (List ℕ)) (es : List ClassEntry) (t : IsEntryTable names es) (v : List Class) (view_is : map (class_of_entry names) es ≡ v) (n : ℕ) (e : ClassEntry) (lt : n < length es) (is : e ≡ get_or es n e) where
  split : take n es ++ e ∷ drop (n + 1) es ≡ es
  split = ap (λ (d : ClassEntry). take n es ++ d ∷ drop (n + 1) es) is ∙ ap (λ l. take n es ++ l) (sym (drop_more es n e lt)) ∙ take-append-drop n es

  turned : reverse es ≡ reverse (drop (n + 1) es) ++ e ∷ reverse (take n es)
  turned =
      ap reverse (sym split)
      ∙ reverse-append (take n es) (e ∷ drop (n + 1) es)
      ∙ ap (λ l. l ++ reverse (take n es)) (reverse-append (e ∷ []) (drop (n + 1) es))
      ∙ append_assoc (reverse (drop (n + 1) es)) (e ∷ []) (reverse (take n es))

  -- the names of the first n classes are those before class n
  pub names_counted : e.names_before ≡ length (name_table (take n v))
  names_counted =
      sym (counted e (reverse (take n es)) names (reverse (drop (n + 1) es)) (subst (IsPlaced names) turned t.placed))
      ∙ ap (λ l. length (name_table (map (class_of_entry names) l))) (reverse-reverse (take n es))
      ∙ ap (λ l. length (name_table l)) (sym (take-map (class_of_entry names) n es) ∙ ap (take n) view_is)
