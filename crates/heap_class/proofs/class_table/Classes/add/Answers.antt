use Rattle.std.proofs.Common.{◌≡◌, arith, length, length-append, map, ◌∙◌, ◌∷◌, ◌++◌, [], List, ℕ, Option, Some, None, ap, sym, subst, refl}
use Rattle.std.proofs.lemmas.List.{length-map}
use Rattle.indexmap.specs.IndexMap.{keys, set_value_at}
use Rattle.heap_class.specs.declared.Field.{Field}
use Rattle.heap_class.specs.declared.class_table.ClassEntry.{ClassEntry}
use Rattle.heap_class.specs.Entries.{AreSizes, class_of_entry, IsNumberedTable}
use Rattle.heap_class.specs.Limits.{widest_classes}
use Rattle.heap_class.specs.Classes.{Class, class_refusal, names_in}
use Rattle.heap_class.proofs.Definitions.{not_refused_at_widest_limits, super_stands, slots_fit, defined_table, defined_view}
use Rattle.heap_class.proofs.ClassNumbers.{keys_stay, numbered_table_with_one_more}
use Rattle.heap_class.proofs.class_table.Classes.add.Goals as goal

pub slots_above-requires : goal.slots_above-requires
slots_above-requires c =
    let class : Class = record { name = c.args.name.now; sup = c.args.sup; fields = c.args.fields.now; is_array = c.args.is_array } in
    let accepted : class_refusal widest_classes c.args.self.now class ≡ None = not_refused_at_widest_limits c.args.limits c.args.self.now class c.requires.limits (sym (c.in_default.ensures c.args.is_array)) in
    super_stands c.args.self.now class accepted

pub slots_over-requires : goal.slots_over-requires
slots_over-requires c =
    let class : Class = record { name = c.args.name.now; sup = c.args.sup; fields = c.args.fields.now; is_array = c.args.is_array } in
    let accepted : class_refusal widest_classes c.args.self.now class ≡ None = not_refused_at_widest_limits c.args.limits c.args.self.now class c.requires.limits (sym (c.in_default.ensures c.args.is_array)) in
    slots_fit c.args.self.now class c.slots_above.result.now accepted c.slots_above.ensures.value

pub of-sizes-requires : goal.of-sizes-requires
of-sizes-requires c =
    let class : Class = record { name = c.args.name.now; sup = c.args.sup; fields = c.args.fields.now; is_array = c.args.is_array } in
    let accepted : class_refusal widest_classes c.args.self.now class ≡ None = not_refused_at_widest_limits c.args.limits c.args.self.now class c.requires.limits (sym (c.in_default.ensures c.args.is_array)) in
    omega (
      arith,
      slots_fit c.args.self.now class c.slots_above.result.now accepted c.slots_above.ensures.value,
      ap length (c.as_slice.ensures.value ∙ c.in_ok-slots.ensures),
      length-append (map (λ (f : Field). f.kind) c.args.fields.now) c.slots_above.result.now,
      length-map c.args.fields.now (λ (f : Field). f.kind),
    )

pub invariant_of-self-2 : goal.invariant_of-self-2
unfolding names_in
invariant_of-self-2 c =
    let class : Class = record { name = c.args.name.now; sup = c.args.sup; fields = c.args.fields.now; is_array = c.args.is_array } in
    let entry : ClassEntry = record { name = c.in_ok-name.name; sup = c.args.sup; fields = c.in_ok-name.fields; is_array = c.args.is_array; slots = c.in_ok-slots.slots; sizes = c.of-sizes.result; names_before = c.len-names_before.result } in
    let marked : c.len-names_before.result ≡ length (keys c.self.inside.names) = c.len-names_before.ensures.len ∙ sym (length-map c.self.inside.names.entries (λ (n : List ℕ × Option ℕ). n.0)) in
    let pushed : c.push_reserved.new.self.items ≡ c.self.inside.entries.items ++ entry ∷ [] = c.push_reserved.ensures.items ∙ ap (λ l. l ++ entry ∷ []) c.reserve.ensures.items in
    subst (IsNumberedTable (set_value_at c.place_names.new.names.entries c.in_ok-name.name (Some c.len-number.result))) (sym pushed)
    (numbered_table_with_one_more c.self.inside.names.entries c.place_names.new.names.entries c.self.inside.entries.items entry c.len-number.result c.self.invariant c.in_ok-name.ensures.more
    (defined_table (keys c.self.inside.names) c.self.inside.entries.items c.self.invariant.table c.args.self.now c.self.view_is class entry (keys c.place_names.new.names) (c.self.inside.entries.items ++ entry ∷ []) c.slots_above.result.now
    c.in_ok-name.ensures.keys refl (not_refused_at_widest_limits c.args.limits c.args.self.now class c.requires.limits (sym (c.in_default.ensures c.args.is_array))) c.requires.bare c.in_ok-name.ensures.placed refl refl marked c.in_ok-slots.ensures c.slots_above.ensures.value (subst (λ l. AreSizes l c.of-sizes.result) c.as_slice.ensures.value c.of-sizes.ensures))
    (omega (arith, c.len-number.ensures, ap length c.reserve.ensures.items, c.reserve.new.self.ok)))

pub returns : goal.returns
unfolding names_in
returns c =
    let class : Class = record { name = c.args.name.now; sup = c.args.sup; fields = c.args.fields.now; is_array = c.args.is_array } in
    let entry : ClassEntry = record { name = c.in_ok-name.name; sup = c.args.sup; fields = c.in_ok-name.fields; is_array = c.args.is_array; slots = c.in_ok-slots.slots; sizes = c.of-sizes.result; names_before = c.len-names_before.result } in
    let accepted : class_refusal widest_classes c.args.self.now class ≡ None = not_refused_at_widest_limits c.args.limits c.args.self.now class c.requires.limits (sym (c.in_default.ensures c.args.is_array)) in
    let marked : c.len-names_before.result ≡ length (keys c.self.inside.names) = c.len-names_before.ensures.len ∙ sym (length-map c.self.inside.names.entries (λ (n : List ℕ × Option ℕ). n.0)) in
    let pushed : c.push_reserved.new.self.items ≡ c.self.inside.entries.items ++ entry ∷ [] = c.push_reserved.ensures.items ∙ ap (λ l. l ++ entry ∷ []) c.reserve.ensures.items in
    record {
      answered = sym (c.in_default.ensures c.args.is_array);
      defined =
          ap (λ ks. map (class_of_entry ks) c.push_reserved.new.self.items) (keys_stay c.place_names.new.names.entries c.in_ok-name.name (Some c.len-number.result))
          ∙ defined_view (keys c.self.inside.names) c.self.inside.entries.items c.self.invariant.table c.args.self.now c.self.view_is class entry (keys c.place_names.new.names) c.push_reserved.new.self.items c.slots_above.result.now
          c.in_ok-name.ensures.keys pushed accepted c.requires.bare c.in_ok-name.ensures.placed refl refl marked c.in_ok-slots.ensures c.slots_above.ensures.value (subst (λ l. AreSizes l c.of-sizes.result) c.as_slice.ensures.value c.of-sizes.ensures);
      number = omega (arith, c.len-number.ensures, ap length c.reserve.ensures.items, ap length c.self.view_is, length-map c.self.inside.entries.items (class_of_entry (keys c.self.inside.names)));
      unchanged = tt;
    }
