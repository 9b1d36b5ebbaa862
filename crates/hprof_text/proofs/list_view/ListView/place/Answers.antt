use Rattle.std.proofs.Common.{length, ap, sym, arith}
use Rattle.std.proofs.lemmas.List.{length-map}
use Rattle.hprof_text.specs.HeapLists.{dumped_object}
use Rattle.hprof_text.proofs.Places.{listed_place_at_number, listed_places_end_at_length}
use Rattle.hprof_text.proofs.list_view.ListView.place.Goals as goal

pub returns-then-index-len : goal.returns-then-index-len
returns-then-index-len c =
    let n = ap (λ v. length v.image.objects) c.self.view_is in
    let m = length-map c.self.inside.objects.items dumped_object in
    sym (listed_place_at_number 0 (length c.args.self.now.image.objects) c.args.index c.args.index (omega (arith, n, m, c.self.inside.objects.ok)) (omega arith))

pub returns-else-index-len : goal.returns-else-index-len
returns-else-index-len c =
    let n = ap (λ v. length v.image.objects) c.self.view_is in
    let m = length-map c.self.inside.objects.items dumped_object in
    sym (listed_places_end_at_length (length c.args.self.now.image.objects) c.args.index (omega (arith, n, m, c.self.inside.objects.ok)))
