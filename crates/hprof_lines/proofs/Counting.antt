-- What is left out, item by item.
use Rattle.std.proofs.Common.{◌≡◌, ℕ, List, [], length, refl, sym, ap, ◌∙◌}
use Rattle.std.specs.Prelude.{count_by}
use Rattle.hprof_session.specs.Walks.{Left, ItemTold}
use Rattle.hprof_plan.specs.declared.items.RootFound.{RootFound}
use Rattle.hprof_lines.specs.declared.left_out.LeftOut.{LeftOut}
use Rattle.hprof_lines.specs.LeftOut.{both_left_out, is_root_lost, left_out_from, left_out_in, left_out_of_dump, lost_fields, none_left_out}
use Rattle.hprof_lines.specs.Objects.{ObjectsTold}
use Rattle.hprof_lines.specs.Passes.{IsWhole, next_place}
use Rattle.hprof_lines.proofs.WholeWalks.{HasFirst}

pub record IsCounting (o : ObjectsTold) (so_far : LeftOut) (i : ℕ) (at : Left) (items : List ItemTold) : Type 0 where
  pub rest : List ItemTold
  pub whole : IsWhole at rest
  pub left : left_out_from o so_far i rest ≡ left_out_from o none_left_out 0 items

pub counting_none : (o : ObjectsTold) (w : Left) (items : List ItemTold) → IsWhole w items → IsCounting o none_left_out 0 w items
counting_none o w items whole = record { rest = items; whole = whole; left = refl }

pub counting_more : (o : ObjectsTold) (so_far next so_far' : LeftOut) (i i' : ℕ) (w v : Left) (it : ItemTold) (items : List ItemTold) (m : IsCounting o so_far i w items)
    → HasFirst m.rest it v → next ≡ left_out_in o i it → so_far' ≡ both_left_out so_far next → i' ≡ next_place o.objects i it → IsCounting o so_far' i' v items
unfolding left_out_from
counting_more o so_far next so_far' i i' w v it items m first more sum place = record {
  rest = first.others;
  whole = first.whole;
  left =
      ap (λ (s : LeftOut). left_out_from o s i' first.others) (sum ∙ ap (both_left_out so_far) more)
      ∙ ap (λ (k : ℕ). left_out_from o (both_left_out so_far (left_out_in o i it)) k first.others) place
      ∙ sym (ap (λ (its : List ItemTold). left_out_from o so_far i its) first.first)
      ∙ m.left;
}

pub counting_all : (o : ObjectsTold) (so_far : LeftOut) (i : ℕ) (w : Left) (items : List ItemTold) (m : IsCounting o so_far i w items)
    → m.rest ≡ [] → so_far ≡ left_out_from o none_left_out 0 items
unfolding left_out_from
counting_all o so_far i w items m none = sym (ap (λ (its : List ItemTold). left_out_from o so_far i its) none) ∙ m.left

-- what is left out of the objects, of the roots and of the classes is all that is left out
pub all_left_out : (o : ObjectsTold) (items : List ItemTold) (roots : List RootFound) (left : LeftOut) (n k : ℕ)
    → left ≡ left_out_from o none_left_out 0 items → n ≡ count_by (is_root_lost o) roots → k ≡ lost_fields o.plan (length o.plan.kinds.entries)
    → record { arrays = left.arrays; objects = left.objects; references = left.references; roots = n; fields = k } ≡ left_out_of_dump o items roots
all_left_out o items roots left n k first second third = rw (first, second, third) refl
