use Rattle.std.proofs.Common.{◌∙◌, ap, codes, sym}
use Rattle.std.specs.Prelude.{option_map}
use Rattle.clap.specs.Words.{found_of, rows_of}
use Rattle.heapdbg_options.specs.CommandLine.{target_in}
use Rattle.heapdbg_options.specs.Refusals.{IsTargetMistake, said_of}
use Rattle.heapdbg_options.specs.declared.settings.Task.TheVariants.{Save}
use Rattle.heapdbg_options.proofs.GivenOptions.{two_options_given_as_rows, given_mistake}
use Rattle.heapdbg_options.proofs.Mistakes.{target_mistake_is_in_rows}
use Rattle.heapdbg_options.proofs.save_options.save_task.Goals as goal

pub returns-in-Ok : goal.returns-in-Ok
returns-in-Ok c =
    (ap (λ o. option_map (λ t. Save t) o) (sym (two_options_given_as_rows target_in (found_of c.args.options.now) (codes "out") (codes "to") c.get_str-path.result c.get_str-port.result c.get_str-path.ensures c.get_str-port.ensures) ∙ c.in-Ok.ensures.0), tt)

pub returns-in-Err : goal.returns-in-Err
returns-in-Err c =
    let found = found_of c.args.options.now in (
      tt,
      (
        ap (λ o. option_map (λ t. Save t) o) (sym (two_options_given_as_rows target_in found (codes "out") (codes "to") c.get_str-path.result c.get_str-port.result c.get_str-path.ensures c.get_str-port.ensures) ∙ c.in-Err.ensures.1.0),
        target_mistake_is_in_rows (said_of c.in-Err.mistake) (rows_of found)
            (given_mistake IsTargetMistake (said_of c.in-Err.mistake) found (codes "out") (codes "to") c.get_str-path.result c.get_str-port.result c.get_str-path.ensures c.get_str-port.ensures c.in-Err.ensures.1.1),
      ),
    )
