-- The objects of an image, each with whether a register reaches it.
use Rattle.std.specs.Prelude.{◌≡◌, Bool, List, filter, length, map}
use Rattle.hprof_text.specs.Image.{DumpedObject, Image}
use Rattle.heap_questions.specs.declared.object_list.ListedObject.{ListedObject}
use Rattle.heap_questions.specs.declared.wanted.Wanted.{Wanted}
use Rattle.heap_questions.specs.Garbage.{TellsUnreached}
use Rattle.heap_questions.specs.Wanted.{is_wanted}

-- an object as a list has it, if the test tells whether no register reaches it
abbrev pub listed_object : (DumpedObject → Bool) → DumpedObject → ListedObject
listed_object test o =
    record { id = o.id; kind = o.kind; slots = length o.words; unreached = test o }

-- the list has each object of the image, in order, and tells of each whether no register reaches it
abbrev pub IsObjectList : Image → List ListedObject → Type 0
IsObjectList image all =
    (test : DumpedObject → Bool) × TellsUnreached image test
    × (all ≡ map (listed_object test) image.objects)

-- the objects of an image that are wanted
abbrev pub objects_wanted : Wanted → Image → List DumpedObject
objects_wanted wanted image = filter (λ o. is_wanted wanted o.kind o.words) image.objects

-- the list has each object of the image that is wanted, in order, and tells of each whether no register reaches it
abbrev pub AreObjectsWanted : Wanted → Image → List ListedObject → Type 0
AreObjectsWanted wanted image all =
    (test : DumpedObject → Bool) × TellsUnreached image test
    × (all ≡ map (listed_object test) (objects_wanted wanted image))
