use Rattle.question_rows.proofs.ChangedRows.{kinds_named, rows_named}
use Rattle.question_rows.proofs.growth.growth_answer.Goals as goal

pub named_changes-requires-clause-least : goal.named_changes-requires-clause-least
named_changes-requires-clause-least g c =
    rw (c.as_slice.ensures.value, c.in_ok-changes.ensures.changes)
    (kinds_named (g.V.View.ids c.args.older.now) (g.V.View.image c.args.older.now) c.in_ok-before.before c.in_ok-after.after c.in_ok-before.ensures.rows)

pub named_changes-requires-clause-most : goal.named_changes-requires-clause-most
named_changes-requires-clause-most g c =
    let older = g.V.View.image c.args.older.now in
    let newer = g.V.View.image c.args.newer.now in
    rw (c.as_slice.ensures.value, c.in_ok-changes.ensures.changes)
    (rows_named (g.V.View.ids c.args.older.now) (g.V.View.ids c.args.newer.now) older newer c.in_ok-before.before c.in_ok-after.after
    c.in_ok-before.ensures.rows c.in_ok-after.ensures.rows)
