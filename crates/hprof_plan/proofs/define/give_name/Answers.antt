use Rattle.std.proofs.Common.{arith}
use Rattle.hprof_plan.proofs.DefinedClasses.{given_as, goes_last}
use Rattle.hprof_plan.proofs.define.give_name.Goals as goal

pub returns-clause-name : goal.returns-clause-name
returns-clause-name c = given_as c.args.limits c.args.names.now.keys c.args.number c.args.name.now _ _ _ c.contains-is_given.ensures c.in_ok-wanted.ensures c.in_ok-given.ensures

pub returns-clause-names : goal.returns-clause-names
returns-clause-names c =
    goes_last c.args.limits c.args.number c.args.name.now _ _ c.args.names.now.keys _ (omega arith) c.requires
    (given_as c.args.limits c.args.names.now.keys c.args.number c.args.name.now _ _ _ c.contains-is_given.ensures c.in_ok-wanted.ensures c.in_ok-given.ensures)
    c.in_ok-copy.ensures c.in_ok-insert.ensures.keys
