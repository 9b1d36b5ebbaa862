-- The task that a command's name asks for.
use Rattle.std.proofs.Common.{◌≡◌, ◌∙◌, Bool, Err, List, None, Ok, Option, Result, Some, ap, codes, cond, false, inl, subst, sym, true, ◌||◌}
use Rattle.std.specs.Prelude.{option_and_then, option_map}
use Rattle.std.specs.Str.{bytes_eq}
use Rattle.clap.specs.Words.{Row, Text}
use Rattle.heapdbg_options.specs.CommandLine.{ask_in, draw_in, explore_in, fetch_in, is_task, run_in, save_in, serve_in, settings_in, settings_under, task_in}
use Rattle.heapdbg_options.specs.Refusals.{IsMistake, IsReadOrMistake, IsValueOrMistake, said_of}
use Rattle.heapdbg_options.specs.declared.refusal.Mistake.{Mistake}
use Rattle.heapdbg_options.specs.declared.settings.Settings.{Settings}
use Rattle.heapdbg_options.specs.declared.settings.Task.{Task}

-- what is read, by what the name is
abbrev task_chosen_by_flags : Bool → Bool → Bool → Bool → Bool → Bool → Bool → List Row → Option Task
task_chosen_by_flags run explore draw save serve ask fetch rows =
    cond run (run_in rows)
    (cond explore (explore_in rows)
    (cond draw (draw_in rows)
    (cond save (save_in rows)
    (cond serve (serve_in rows)
    (cond ask (ask_in rows)
    (cond fetch (fetch_in rows) None))))))

-- whether the name is one of these
abbrev any_task_flag : Bool → Bool → Bool → Bool → Bool → Bool → Bool → Bool
any_task_flag run explore draw save serve ask fetch = run || (explore || (draw || (save || (serve || (ask || fetch)))))

-- what the options of a command give is what the name and the options give
pub command_task_by_name_and_rows : (read : List Row → Option Task) (name : Text) (rows : List Row) (result : Result Task Mistake) → task_in name rows ≡ read rows → IsReadOrMistake read rows result
    → IsValueOrMistake (task_in name rows) (λ said. IsMistake said (Some (name, rows))) result
command_task_by_name_and_rows read name rows (Ok task) e h = (e ∙ h.0, tt)
command_task_by_name_and_rows read name rows (Err m) e h = (tt, (e ∙ h.1.0, inl h.1.1))

pub run_name_names_run : (name : Text) (rows : List Row) → true ≡ bytes_eq name (codes "run") → task_in name rows ≡ run_in rows
run_name_names_run name rows run =
    λ i. task_chosen_by_flags (sym run i) (bytes_eq name (codes "explore")) (bytes_eq name (codes "draw")) (bytes_eq name (codes "save")) (bytes_eq name (codes "serve")) (bytes_eq name (codes "ask")) (bytes_eq name (codes "fetch")) rows

pub names_explore : (name : Text) (rows : List Row) → false ≡ bytes_eq name (codes "run") → true ≡ bytes_eq name (codes "explore") → task_in name rows ≡ explore_in rows
names_explore name rows run explore =
    λ i. task_chosen_by_flags (sym run i) (sym explore i) (bytes_eq name (codes "draw")) (bytes_eq name (codes "save")) (bytes_eq name (codes "serve")) (bytes_eq name (codes "ask")) (bytes_eq name (codes "fetch")) rows

pub names_draw : (name : Text) (rows : List Row) → false ≡ bytes_eq name (codes "run") → false ≡ bytes_eq name (codes "explore") → true ≡ bytes_eq name (codes "draw") → task_in name rows ≡ draw_in rows
names_draw name rows run explore draw =
    λ i. task_chosen_by_flags (sym run i) (sym explore i) (sym draw i) (bytes_eq name (codes "save")) (bytes_eq name (codes "serve")) (bytes_eq name (codes "ask")) (bytes_eq name (codes "fetch")) rows

pub names_save : (name : Text) (rows : List Row) → false ≡ bytes_eq name (codes "run") → false ≡ bytes_eq name (codes "explore") → false ≡ bytes_eq name (codes "draw") → true ≡ bytes_eq name (codes "save") → task_in name rows ≡ save_in rows
names_save name rows run explore draw save =
    λ i. task_chosen_by_flags (sym run i) (sym explore i) (sym draw i) (sym save i) (bytes_eq name (codes "serve")) (bytes_eq name (codes "ask")) (bytes_eq name (codes "fetch")) rows

-- the name is that of no command before `serve`
abbrev pub IsLate : Text → Type 0
IsLate name =
    (false ≡ bytes_eq name (codes "run")) × (false ≡ bytes_eq name (codes "explore"))
    × (false ≡ bytes_eq name (codes "draw")) × (false ≡ bytes_eq name (codes "save"))

pub names_serve : (name : Text) (rows : List Row) → IsLate name → true ≡ bytes_eq name (codes "serve") → task_in name rows ≡ serve_in rows
names_serve name rows late serve =
    λ i. task_chosen_by_flags (sym late.0 i) (sym late.1 i) (sym late.2 i) (sym late.3 i) (sym serve i) (bytes_eq name (codes "ask")) (bytes_eq name (codes "fetch")) rows

pub names_ask : (name : Text) (rows : List Row) → IsLate name → false ≡ bytes_eq name (codes "serve") → true ≡ bytes_eq name (codes "ask") → task_in name rows ≡ ask_in rows
names_ask name rows late serve ask =
    λ i. task_chosen_by_flags (sym late.0 i) (sym late.1 i) (sym late.2 i) (sym late.3 i) (sym serve i) (sym ask i) (bytes_eq name (codes "fetch")) rows

pub names_fetch : (name : Text) (rows : List Row) → IsLate name → false ≡ bytes_eq name (codes "serve") → false ≡ bytes_eq name (codes "ask") → true ≡ bytes_eq name (codes "fetch") → task_in name rows ≡ fetch_in rows
names_fetch name rows late serve ask fetch =
    λ i. task_chosen_by_flags (sym late.0 i) (sym late.1 i) (sym late.2 i) (sym late.3 i) (sym serve i) (sym ask i) (sym fetch i) rows

pub other_name_names_no_task : (name : Text) (rows : List Row) → IsLate name → false ≡ bytes_eq name (codes "serve") → false ≡ bytes_eq name (codes "ask") → false ≡ bytes_eq name (codes "fetch") → (task_in name rows ≡ None) × (is_task name ≡ false)
other_name_names_no_task name rows late serve ask fetch = (
  λ i. task_chosen_by_flags (sym late.0 i) (sym late.1 i) (sym late.2 i) (sym late.3 i) (sym serve i) (sym ask i) (sym fetch i) rows,
  λ i. any_task_flag (sym late.0 i) (sym late.1 i) (sym late.2 i) (sym late.3 i) (sym serve i) (sym ask i) (sym fetch i),
)

-- what was found, by its name and its rows
pub found_command_by_name_and_rows : {S : Type 0} (f : S → Text) (g : S → List Row) (o : Option S) (name : Text) (rows : List Row) → Some name ≡ option_map f o → Some rows ≡ option_map (λ (p : Text × List Row). p.1) (option_map {U = Text × List Row} (λ s. (f s, g s)) o)
    → option_map {U = Text × List Row} (λ s. (f s, g s)) o ≡ Some (name, rows)
found_command_by_name_and_rows f g None name rows e h = cc
found_command_by_name_and_rows f g (Some s) name rows e h = cc

-- the settings of the command that was found, or the mistake in it
pub settings_of_found_command : (found : Option (Text × List Row)) (name : Text) (rows : List Row) (task : Task) (result : Result Settings Mistake) → found ≡ Some (name, rows) → task_in name rows ≡ Some task
    → IsReadOrMistake (settings_in task) rows result → IsValueOrMistake (option_and_then settings_under found) (λ said. IsMistake said found) result
settings_of_found_command found name rows task (Ok settings) e named h =
    (ap (option_and_then settings_under) e ∙ ap (option_and_then (λ t. settings_in t rows)) named ∙ h.0, tt)
settings_of_found_command found name rows task (Err m) e named h = (
  tt,
  (
    ap (option_and_then settings_under) e ∙ ap (option_and_then (λ t. settings_in t rows)) named ∙ h.1.0,
    subst (λ f. IsMistake (said_of m) f) (sym e) (inl h.1.1),
  ),
)

-- no settings of the command that was found, whose options have a mistake
pub no_settings_of_mistaken_command : (found : Option (Text × List Row)) (name : Text) (rows : List Row) (said : Text) → found ≡ Some (name, rows) → (task_in name rows ≡ None) × IsMistake said (Some (name, rows))
    → (option_and_then settings_under found ≡ None) × IsMistake said found
no_settings_of_mistaken_command found name rows said e h = (
  ap (option_and_then settings_under) e ∙ ap (option_and_then (λ t. settings_in t rows)) h.0,
  subst (λ f. IsMistake said f) (sym e) h.1,
)
