use Rattle.std.proofs.Common.{refl}
use Rattle.heap_trail.specs.declared.Action.TheVariants.{Step, Rewind}
use Rattle.heap_trail.specs.declared.Reply.TheVariants.{Place, Refused}
use Rattle.heap_history.proofs.Plain.{answer_enters, fine_enters, refused_enters}
use Rattle.heap_history.proofs.acts.take_step.Goals as goal

pub returns-else-is_no_memory : goal.returns-else-is_no_memory
returns-else-is_no_memory c = refused_enters c.args.machine.now c.step.new.self c.args.action.now (Step c.in-Step.event) c.in-Err.refusal refl c.requires.place c.in-Step.is c.if-is_no_memory.ensures c.in-Err.ensures.refused

pub returns-in-Err-rewind : goal.returns-in-Err-rewind
returns-in-Err-rewind c = fine_enters c.args.machine.now c.rewind.new.self c.args.action.now (Rewind c.in-Rewind.n) (Refused c.in-Err-rewind.refusal) refl c.requires.place c.in-Rewind.is c.in-Err-rewind.ensures.refused

pub returns-in-Ok : goal.returns-in-Ok
returns-in-Ok c = answer_enters c.args.machine.now c.step.new.self c.args.action.now (Step c.in-Step.event) c.in-Ok.answer c.in-Step.is c.in-Ok.ensures.done

pub returns-in-Ok-rewind : goal.returns-in-Ok-rewind
returns-in-Ok-rewind c = fine_enters c.args.machine.now c.rewind.new.self c.args.action.now (Rewind c.in-Rewind.n) (Place c.in-Ok-rewind.place) refl c.requires.place c.in-Rewind.is c.in-Ok-rewind.ensures.done
