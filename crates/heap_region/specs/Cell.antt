-- For proofs: headers in eight bytes.
use Rattle.std.specs.Prelude.{ℕ, ◌+◌, ◌*◌, ◌/◌, ◌%◌, false, Option, Some, None, option_map}
use Rattle.heap_class.specs.declared.ObjKind.{ObjKind}
use Rattle.heap_class.specs.declared.ObjKind.TheVariants as Objects
use Rattle.heap_region.specs.declared.cell.Header.{Header}
use Rattle.heap_region.specs.declared.cell.Sort.{Sort}
use Rattle.heap_region.specs.declared.cell.Sort.TheVariants as Sorts
use Rattle.heap_region.specs.declared.cell.Cell.TheInside.{Inside}
use Rattle.heap_region.specs.KindNumbers.{kind_number, kind_numbered, sort_number, sort_numbered}

-- the kind of an object of this sort, with this number of its class or of its kind of values
abbrev pub kind_in : Sort → ℕ → Option ObjKind
kind_in Sorts.Free number = None
kind_in Sorts.Instance number = Some (Objects.Instance number)
kind_in Sorts.Array number = Some (Objects.Array number)
kind_in Sorts.Prim number = Some (Objects.Prim (kind_numbered number))

-- the header of the object in a cell
abbrev pub header_in : Inside → Option Header
header_in c =
    option_map (λ kind. record {
      kind = kind;
      len = c.slots_and_sort / 4;
      live = c.live;
      mark = c.mark;
    })
    (kind_in (sort_numbered (c.slots_and_sort % 4)) c.number)

-- the sort of an object of this kind
abbrev pub sort_of : ObjKind → Sort
sort_of (Objects.Instance class) = Sorts.Instance
sort_of (Objects.Array class) = Sorts.Array
sort_of (Objects.Prim kind) = Sorts.Prim

-- the number that a cell keeps of this kind: that of its class, or of its kind of values
abbrev pub number_kept : ObjKind → ℕ
number_kept (Objects.Instance class) = class
number_kept (Objects.Array class) = class
number_kept (Objects.Prim kind) = kind_number kind

-- the cell with this header
abbrev pub packed : Option Header → Inside
packed None = record { slots_and_sort = 0; number = 0; live = false; mark = false }
packed (Some h) =
    record {
      slots_and_sort = h.len * 4 + sort_number (sort_of h.kind);
      number = number_kept h.kind;
      live = h.live;
      mark = h.mark;
    }
