use Rattle.heap_trail.proofs.ComputedExamples as example
use Rattle.heap_trail.proofs.examples.worked_examples.Goals as goal

pub returns-clause-limits_of_one_region : goal.returns-clause-limits_of_one_region
returns-clause-limits_of_one_region c = example.limits_of_one_region

pub returns-clause-lowest_region_first : goal.returns-clause-lowest_region_first
returns-clause-lowest_region_first c = example.lowest_region_first

pub returns-clause-rewind_gives_back_cells : goal.returns-clause-rewind_gives_back_cells
returns-clause-rewind_gives_back_cells c = example.rewind_gives_back_cells

pub returns-clause-keep_one : goal.returns-clause-keep_one
returns-clause-keep_one c = example.keep_one

pub returns-clause-rewind_too_far : goal.returns-clause-rewind_too_far
returns-clause-rewind_too_far c = example.computed_rewind_is_too_far

pub returns-clause-refusals_of_mutators : goal.returns-clause-refusals_of_mutators
returns-clause-refusals_of_mutators c = example.refusals_of_mutators

pub returns-clause-finish_refused_until_ready : goal.returns-clause-finish_refused_until_ready
returns-clause-finish_refused_until_ready c = example.finish_refused_until_ready

pub returns-clause-mark_and_drain_rewound : goal.returns-clause-mark_and_drain_rewound
returns-clause-mark_and_drain_rewound c = example.mark_and_drain_rewound

pub returns-clause-mark_undone_pushes_back : goal.returns-clause-mark_undone_pushes_back
returns-clause-mark_undone_pushes_back c = example.mark_undone_pushes_back

pub returns-clause-sweep_order_and_reuse : goal.returns-clause-sweep_order_and_reuse
returns-clause-sweep_order_and_reuse c = example.sweep_order_and_reuse

pub returns-clause-sweep_and_reuse_rewound : goal.returns-clause-sweep_and_reuse_rewound
returns-clause-sweep_and_reuse_rewound c = example.sweep_and_reuse_rewound

pub returns-clause-barrier_logs_old_values : goal.returns-clause-barrier_logs_old_values
returns-clause-barrier_logs_old_values c = example.barrier_logs_old_values
