use Rattle.std.proofs.Common.{◌∙◌, ap, sym}
use Rattle.machine_dump.specs.LostCause.TheVariants.{Rewound, Memory, Closed}
use Rattle.dump_pump.specs.declared.transfer.Pumped.TheVariants.{Lost}
use Rattle.heap_save.specs.Saves.{last_line}
use Rattle.heap_save.proofs.Lines.{equal_bytes_written_alike}
use Rattle.heap_save.proofs.line.write_last.Goals as goal

pub returns-in-Rewound : goal.returns-in-Rewound
returns-in-Rewound g c = equal_bytes_written_alike (last_line (Lost Rewound c.in-Lost.bytes)) (last_line c.args.pumped) _ _ _ (sym (ap (λ r. last_line r) (c.in-Lost.is ∙ ap (λ k. Lost k c.in-Lost.bytes) c.in-Rewound.is))) c.write_line-in-Rewound.ensures

pub returns-in-Memory : goal.returns-in-Memory
returns-in-Memory g c = equal_bytes_written_alike (last_line (Lost Memory c.in-Lost.bytes)) (last_line c.args.pumped) _ _ _ (sym (ap (λ r. last_line r) (c.in-Lost.is ∙ ap (λ k. Lost k c.in-Lost.bytes) c.in-Memory.is))) c.write_line-in-Memory.ensures

pub returns-in-Closed : goal.returns-in-Closed
returns-in-Closed g c = equal_bytes_written_alike (last_line (Lost Closed c.in-Lost.bytes)) (last_line c.args.pumped) _ _ _ (sym (ap (λ r. last_line r) (c.in-Lost.is ∙ ap (λ k. Lost k c.in-Lost.bytes) c.in-Closed.is))) c.write_line-in-Closed.ensures
