use Rattle.std.proofs.Common.{◌∙◌}
use Rattle.question_grammar.proofs.PlaceNames.{found_takes_place, new_takes_place}
use Rattle.question_grammar.proofs.bookmarks.set_name.Goals as goal

pub returns-in-Some-clause-named : goal.returns-in-Some-clause-named
returns-in-Some-clause-named c =
    found_takes_place c.args.word c.as_bytes.result.now c.args.place c.args.names.now.items c.as_slice.result.now c.in-Some.index c.index_mut.result.now c.position_in.result c.as_bytes.ensures c.as_slice.ensures.value c.position_in.ensures.value c.in-Some.is c.index_mut.ensures.value

pub returns-in_ok-push-in-None-clause-named : goal.returns-in_ok-push-in-None-clause-named
returns-in_ok-push-in-None-clause-named c =
    c.in_ok-push-in-None.ensures.items
    ∙ new_takes_place c.args.word c.as_bytes.result.now c.args.place c.args.names.now.items c.as_slice.result.now c.position_in.result c.as_bytes.ensures c.as_slice.ensures.value c.position_in.ensures.value c.in-None.is
