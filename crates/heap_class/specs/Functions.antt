-- For proofs: all functions of this crate, opened at once, for facts by computation.
use Rattle.heap_class.specs.Classes.{slots_under, slot_table_after, slots_of, instance_size, names_in, first_uses, name_table, all_distinct, is_name_byte, slot_kinds_of, name_of, fields_of, sup_of, name_id, is_name, is_instance_class, is_array_class, class_refusal}
use Rattle.heap_class.specs.Refusals.{first_refusal}

-- nothing of its own: to unfold it is to unfold the functions above
unfoldable pub class_functions : Unit {0}
unfolding slots_under slot_table_after slots_of instance_size names_in first_uses name_table all_distinct is_name_byte slot_kinds_of name_of fields_of sup_of name_id is_name is_instance_class is_array_class class_refusal first_refusal
class_functions = tt
