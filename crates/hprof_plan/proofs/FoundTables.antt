-- The tables of a walk, item by item.
use Rattle.std.proofs.Common.{◌≡◌, ℕ, ◌+◌, ◌≤◌, Bool, true, false, cond, List, [], ◌∷◌, ◌++◌, length, map, Option, Some, None, refl, sym, ap, subst, ◌∙◌, arith}
use Rattle.std.specs.Prelude.{nat_eq}
use Rattle.std.specs.Borrow.{Bor}
use Rattle.std.specs.List.{filter_map, cons_option}
use Rattle.std.specs.Option.{option_to_list, option_map}
use Rattle.std.proofs.lemmas.List.{length-append}
use Rattle.std.proofs.lemmas.List.Sums.{fold-append}
use Rattle.heap_class.specs.declared.IdSize.{IdSize}
use Rattle.indexmap.specs.IndexMap.{insert_entry, insert_all as insert_entries}
use Rattle.indexmap.specs.IndexSet.{insert_key, insert_all as insert_keys}
use Rattle.hprof_reader.specs.declared.class_dumps.ClassDump.{ClassDump}
use Rattle.hprof_reader.specs.declared.fault.Fault.{Fault}
use Rattle.hprof_reader.specs.SubRecords.{ClassTold, class_told}
use Rattle.hprof_session.specs.Surveys.{bytes_left, EndsAt}
use Rattle.hprof_session.specs.Walks.{Left, ItemTold, IsNext, IsAtEnd, AreNext}
use Rattle.hprof_session.proofs.Walked.{walk_end_leaves_no_bytes, is_at_end, items_next_with_one_more, next_item_leaves_fewer_bytes}
use Rattle.hprof_plan.specs.Items.{array_class_of, class_of, class_entry, load_of, name_of, object_of, root_of}
use Rattle.hprof_plan.specs.Tables.{classes_told, names_told}
use Rattle.hprof_plan.specs.Finds.{HasTables, Finds, IsEmptyFound, Notes}
use Rattle.hprof_plan.specs.declared.dump.Found.{Found}

-- ---- one entry more

module _ {X Y : Type 0} (h : X → Y) where
  abbrev seen : List (ℕ × X) → List (ℕ × Y)
  seen es = map (λ (e : ℕ × X). (e.0, h e.1)) es

  seen_insert : (es : List (ℕ × X)) (k : ℕ) (v : X) → seen (insert_entry nat_eq es k v) ≡ insert_entry nat_eq (seen es) k (h v)
  seen_insert [] k v = refl
  seen_insert (e ∷ es) k v = by (nat_eq k e.0) (seen_insert es k v)
    where
      by : (b : Bool) → seen (insert_entry nat_eq es k v) ≡ insert_entry nat_eq (seen es) k (h v)
          → seen (cond b ((e.0, v) ∷ es) (e ∷ insert_entry nat_eq es k v)) ≡ cond b ((e.0, h v) ∷ seen es) ((e.0, h e.1) ∷ insert_entry nat_eq (seen es) k (h v))
      by true rest = refl
      by false rest = ap (λ (t : List (ℕ × Y)). (e.0, h e.1) ∷ t) rest

pub name_noted : (old new : List (ℕ × Bor (List ℕ))) (k : ℕ) (v : Bor (List ℕ)) (o : Option (ℕ × List ℕ)) → new ≡ insert_entry nat_eq old k v → Some (k, v.now) ≡ o
    → names_told new ≡ insert_entries nat_eq (names_told old) (option_to_list o)
name_noted old new k v o e h =
    ap names_told e ∙ seen_insert (λ (b : Bor (List ℕ)). b.now) old k v
    ∙ ap (λ (o : Option (ℕ × List ℕ)). insert_entries nat_eq (names_told old) (option_to_list o)) h

pub load_noted : (old new : List (ℕ × ℕ)) (k v : ℕ) (o : Option (ℕ × ℕ)) → new ≡ insert_entry nat_eq old k v → Some (k, v) ≡ o → new ≡ insert_entries nat_eq old (option_to_list o)
load_noted old new k v o e h = e ∙ ap (λ (o : Option (ℕ × ℕ)). insert_entries nat_eq old (option_to_list o)) h

pub class_noted : (old new : List (ℕ × ClassDump)) (v : ClassDump) (i : ItemTold) → new ≡ insert_entry nat_eq old v.head.id v → Some (class_told v) ≡ class_of i
    → classes_told new ≡ insert_entries nat_eq (classes_told old) (option_to_list (class_entry i))
class_noted old new v i e h =
    ap classes_told e ∙ seen_insert class_told old v.head.id v
    ∙ ap (λ (o : Option ClassTold). insert_entries nat_eq (classes_told old) (option_to_list (option_map (λ (c : ClassTold). (c.head.id, c)) o))) h

pub key_noted : (old new : List ℕ) (k : ℕ) (o : Option ℕ) → new ≡ insert_key nat_eq old k → Some k ≡ o → new ≡ insert_keys nat_eq old (option_to_list o)
key_noted old new k o e h = e ∙ ap (λ (o : Option ℕ). insert_keys nat_eq old (option_to_list o)) h

-- ---- no entry more

pub no_entry : {V : Type 0} (old : List (ℕ × V)) (o : Option (ℕ × V)) → None ≡ o → old ≡ insert_entries nat_eq old (option_to_list o)
no_entry old o h = ap (λ o. insert_entries nat_eq old (option_to_list o)) h

pub no_class : (old : List (ℕ × ClassTold)) (i : ItemTold) → None ≡ class_of i → old ≡ insert_entries nat_eq old (option_to_list (class_entry i))
no_class old i h = ap (λ (o : Option ClassTold). insert_entries nat_eq old (option_to_list (option_map (λ (c : ClassTold). (c.head.id, c)) o))) h

pub no_key : (old : List ℕ) (o : Option ℕ) → None ≡ o → old ≡ insert_keys nat_eq old (option_to_list o)
no_key old o h = ap (λ o. insert_keys nat_eq old (option_to_list o)) h

-- ---- one item more

cons_to_nothing : {B : Type 0} (o : Option B) → cons_option o [] ≡ option_to_list o
cons_to_nothing None = refl
cons_to_nothing (Some x) = refl

cons_before_append : {B : Type 0} (o : Option B) (xs ys zs : List B) → xs ≡ ys ++ zs → cons_option o xs ≡ cons_option o ys ++ zs
cons_before_append None xs ys zs e = e
cons_before_append (Some x) xs ys zs e = ap (λ t. x ∷ t) e

told_and : {B : Type 0} (f : ItemTold → Option B) (list : List ItemTold) (i : ItemTold) → filter_map f (list ++ i ∷ []) ≡ filter_map f list ++ option_to_list (f i)
told_and f [] i = cons_to_nothing (f i)
told_and f (x ∷ list) i = cons_before_append (f x) _ _ _ (told_and f list i)

entries_and : {V : Type 0} (f : ItemTold → Option (ℕ × V)) (list : List ItemTold) (i : ItemTold) (old new : List (ℕ × V)) → old ≡ insert_entries nat_eq [] (filter_map f list)
    → new ≡ insert_entries nat_eq old (option_to_list (f i)) → new ≡ insert_entries nat_eq [] (filter_map f (list ++ i ∷ []))
entries_and {V} f list i old new so_far e =
    e ∙ ap (λ (es : List (ℕ × V)). insert_entries nat_eq es (option_to_list (f i))) so_far
    ∙ sym (fold-append (λ (done : List (ℕ × V)) (p : ℕ × V). insert_entry nat_eq done p.0 p.1) [] (filter_map f list) (option_to_list (f i)))
    ∙ ap (λ (es : List (ℕ × V)). insert_entries nat_eq [] es) (sym (told_and f list i))

keys_and : (f : ItemTold → Option ℕ) (list : List ItemTold) (i : ItemTold) (old new : List ℕ) → old ≡ insert_keys nat_eq [] (filter_map f list)
    → new ≡ insert_keys nat_eq old (option_to_list (f i)) → new ≡ insert_keys nat_eq [] (filter_map f (list ++ i ∷ []))
keys_and f list i old new so_far e =
    e ∙ ap (λ (ks : List ℕ). insert_keys nat_eq ks (option_to_list (f i))) so_far
    ∙ sym (fold-append (insert_key nat_eq) [] (filter_map f list) (option_to_list (f i)))
    ∙ ap (λ (ks : List ℕ). insert_keys nat_eq [] ks) (sym (told_and f list i))

tables_and : (ids : IdSize) (list : List ItemTold) (i : ItemTold) (old new : Found) → HasTables ids list old → Notes i old new → HasTables ids (list ++ i ∷ []) new
tables_and ids list i old new t n = record {
  ids = n.ids ∙ t.ids;
  names = entries_and (name_of ids) list i (names_told old.names.entries) (names_told new.names.entries) t.names
      (subst (λ (x : IdSize). names_told new.names.entries ≡ insert_entries nat_eq (names_told old.names.entries) (option_to_list (name_of x i))) t.ids n.names);
  loads = entries_and (load_of ids) list i old.loads.entries new.loads.entries t.loads
      (subst (λ (x : IdSize). new.loads.entries ≡ insert_entries nat_eq old.loads.entries (option_to_list (load_of x i))) t.ids n.loads);
  classes = entries_and class_entry list i (classes_told old.classes.entries) (classes_told new.classes.entries) t.classes n.classes;
  array_classes = keys_and array_class_of list i old.array_classes.keys new.array_classes.keys t.array_classes n.array_classes;
  objects = keys_and object_of list i old.objects.keys new.objects.keys t.objects n.objects;
  again = omega (arith, n.again, t.again, ap length (told_and object_of list i), length-append (filter_map object_of list) (option_to_list (object_of i)));
  roots = n.roots ∙ ap (λ l. l ++ option_to_list (root_of i)) t.roots ∙ sym (told_and root_of list i);
}

-- ---- a walk so far

-- after this number of turns the walk came here, and found this
pub record IsSoFar (w : Left) (turns : ℕ) (v : Left) (f : Found) : Type 0 where
  pub list : List ItemTold
  pub walked : AreNext w list v
  pub shrunk : bytes_left v + turns ≤ bytes_left w
  pub tables : HasTables w.ids list f
  pub few : f.again ≤ turns
  pub fault : f.fault ≡ None
  pub left : f.left ≡ 0

pub nothing_found_at_start : (w : Left) (f : Found) → IsEmptyFound w.ids f → IsSoFar w 0 w f
nothing_found_at_start w f none = record { list = []; walked = refl; shrunk = omega arith; tables = none.tables; few = omega (arith, none.again); fault = none.fault; left = none.left }

pub goes_on : (w : Left) (turns : ℕ) (u : Left) (old : Found) (i : ItemTold) (v : Left) (new : Found) → IsSoFar w turns u old → IsNext u i v → Notes i old new → IsSoFar w (turns + 1) v new
goes_on w turns u old i v new so_far next n = record {
  list = so_far.list ++ (i ∷ []);
  walked = items_next_with_one_more w so_far.list u i v so_far.walked next;
  shrunk = omega (arith, next_item_leaves_fewer_bytes u i v next, so_far.shrunk);
  tables = tables_and w.ids so_far.list i old new so_far.tables n;
  few = omega (arith, so_far.few, n.few);
  fault = n.fault ∙ so_far.fault;
  left = n.left ∙ so_far.left;
}

pub comes_to_end : (w : Left) (turns : ℕ) (v : Left) (f : Found) → IsSoFar w turns v f → IsAtEnd v → Finds w f
comes_to_end w turns v f so_far end = record {
  list = so_far.list;
  end = v;
  walked = so_far.walked;
  ended = subst (λ (o : Option Fault). EndsAt v o) (sym so_far.fault) end;
  left = so_far.left ∙ sym (walk_end_leaves_no_bytes v end);
  tables = so_far.tables;
}

pub runs_out : (w : Left) (turns : ℕ) (v : Left) (f : Found) → IsSoFar w turns v f → bytes_left w ≤ turns → Finds w f
runs_out w turns v f so_far all = comes_to_end w turns v f so_far (is_at_end v (omega (arith, so_far.shrunk, all)))

pub no_next_item_is_fault : (w : Left) (turns : ℕ) (v : Left) (f : Found) (fault : Fault) (n : ℕ) → IsSoFar w turns v f → n ≡ bytes_left v → (IsAtEnd v → ⊥) → ((i : ItemTold) (x : Left) → IsNext v i x → ⊥)
    → Finds w (record f { fault = Some fault; left = n })
no_next_item_is_fault w turns v f fault n so_far size more lacking = record {
  list = so_far.list;
  end = v;
  walked = so_far.walked;
  ended = (more, lacking);
  left = size;
  tables = record {
    ids = so_far.tables.ids;
    names = so_far.tables.names;
    loads = so_far.tables.loads;
    classes = so_far.tables.classes;
    array_classes = so_far.tables.array_classes;
    objects = so_far.tables.objects;
    again = so_far.tables.again;
    roots = so_far.tables.roots;
  };
}
