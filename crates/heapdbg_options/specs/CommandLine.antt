-- The command line: the settings that a list of words asks for.
use Rattle.std.specs.Prelude.{◌≡◌, ◌≢◌, ◌≤◌, ◌==◌, ◌∷◌, ◌++◌, ◌*◌, ◌-◌, ◌/◌, [], take, ◌&&◌, ◌||◌, ℕ, List, Option, Some, None, Bool, ⊤, true, false, codes}
use Rattle.std.specs.Prelude.{is_some, length, map, nat_le, nat_lt, option_and_then, option_map, string_bytes, if◌then◌else◌}
use Rattle.std.specs.List.{list_all, list_any}
use Rattle.std.specs.Option.{option_map_or}
use Rattle.clap.specs.Lexer.{long_of}
use Rattle.std.specs.Borrow.{Bor}
use Rattle.std.specs.Char.{is_ascii_digit}
use Rattle.std.specs.Str.{bytes_eq}
use Rattle.std.specs.Str.Parse.{digits_value}
use Rattle.clap.specs.Words.{App, Row, Rule, Text, fault_of, first_of, new_app, new_rule, subcommand_of, with_rule, with_subcommand}
use Rattle.clap.specs.declared.builder.ArgAction.TheVariants.{Set}
use Rattle.heap_class.specs.declared.IdSize.{IdSize}
use Rattle.heap_class.specs.declared.IdSize.TheVariants.{Four, Eight}
use Rattle.heap_world.specs.Limits.{AreHeapSettings, AreNarrowSettings, narrow_keep, narrow_limits, wide_limits, with_area}
use Rattle.heap_world.specs.declared.Limits.{Limits}
use Rattle.heapdbg_options.specs.Numbers.{Numbers, flag_numbers, id_numbers, idle_numbers, most_kept, most_regions, mutator_numbers, port_limit, session_numbers, time_numbers}
use Rattle.heapdbg_options.specs.declared.settings.Origin.{Origin}
use Rattle.heapdbg_options.specs.declared.settings.Origin.TheVariants.{Fresh, Lines, Dump, Dumps}
use Rattle.heapdbg_options.specs.declared.settings.Service.{Service}
use Rattle.heapdbg_options.specs.declared.settings.Task.{Task}
use Rattle.heapdbg_options.specs.declared.settings.Task.TheVariants.{Run, Explore, Draw, Save, Serve, Ask, Fetch}
use Rattle.heapdbg_options.specs.declared.settings.Target.{Target}
use Rattle.heapdbg_options.specs.declared.settings.Target.TheVariants.{Out, To}
use Rattle.heapdbg_options.specs.declared.settings.Settings.{Settings}
use Rattle.heapdbg_options.specs.declared.settings.LineFault.{LineFault}
use Rattle.heapdbg_options.specs.declared.settings.LineFault.TheVariants.{Bad, CommandText, Memory, OptionText}

-- the texts that a list of words holds
abbrev pub texts : List (Bor Text) → List Text
texts = map (λ word. word.now)

-- an option `--NAME VALUE`
abbrev pub value_option : Text → Rule
value_option name = record (new_rule name) { long = Some name; action = Some Set; value_names = 1 }

-- the option, of which a use without a value is one with the value 1
abbrev pub flag_of : Rule → Rule
flag_of option =
    record option {
      range = Some (record { start_inclusive = 0; end_inclusive = 1 });
      missing = codes "1" ∷ [];
    }

-- an option `--NAME VALUE` or `--NAME`
abbrev pub flag_option : Text → Rule
flag_option name = flag_of (value_option name)

-- a command with the options of the heap and its history
abbrev pub heap_line : Text → App
heap_line name =
    with_rule
    (with_rule
    (with_rule
    (with_rule (with_rule (new_app name) (value_option (codes "regions")))
    (value_option (codes "mutators")))
    (value_option (codes "keep")))
    (flag_option (codes "wide")))
    (value_option (codes "area"))

-- the option `--quiet VALUE` or `--quiet`
abbrev pub quiet_option : Rule
quiet_option = flag_option (codes "quiet")

-- a command with the options of the heap, its history, its dumps and what is shown of them
abbrev pub session_line : Text → App
session_line name =
    with_rule
    (with_rule (with_rule (heap_line name) (value_option (codes "time")))
    (value_option (codes "ids")))
    quiet_option

-- the option `--port VALUE`, which has to be given
abbrev pub port_option : Rule
port_option = record (value_option (codes "port")) { required = true }

-- the option `--secret VALUE`
abbrev pub secret_option : Rule
secret_option = value_option (codes "secret")

-- the option `--hprof VALUE`
abbrev pub dump_option : Rule
dump_option = value_option (codes "hprof")

-- the command `run`
abbrev pub run_line : App
run_line =
    with_rule (with_rule (session_line (codes "run")) (flag_option (codes "questions"))) dump_option

-- the command `explore`
abbrev pub explore_line : App
explore_line =
    with_rule
    (with_rule
    (with_rule
    (with_rule
    (with_rule (with_rule (session_line (codes "explore")) (value_option (codes "from")))
    dump_option)
    (value_option (codes "then")))
    (value_option (codes "port")))
    (value_option (codes "page")))
    secret_option

-- the command `save`
abbrev pub save_line : App
save_line =
    with_rule
    (with_rule (with_rule (session_line (codes "save")) (value_option (codes "out")))
    (value_option (codes "to")))
    (flag_option (codes "questions"))

-- the command `serve` with its port, its sessions and its workers
abbrev pub staffed_line : App
staffed_line =
    with_rule
    (with_rule (with_rule (session_line (codes "serve")) port_option)
    (value_option (codes "sessions")))
    (flag_option (codes "workers"))

-- the command `serve` with its ports beside that of the sessions
abbrev pub ported_line : App
ported_line =
    with_rule (with_rule staffed_line (value_option (codes "dumps"))) (value_option (codes "page"))

-- the command `serve` with what it answers and forgets
abbrev pub answering_line : App
answering_line =
    with_rule (with_rule ported_line (flag_option (codes "questions")))
    (flag_option (codes "roll"))

-- the command `serve`
abbrev pub serve_line : App
serve_line =
    with_rule
    (with_rule
    (with_rule (with_rule answering_line (flag_option (codes "stay")))
    (value_option (codes "idle")))
    secret_option)
    dump_option

-- the command `ask`
abbrev pub ask_line : App
ask_line = with_rule (with_rule (new_app (codes "ask")) port_option) secret_option

-- the option `--out VALUE`, which has to be given
abbrev pub out_option : Rule
out_option = record (value_option (codes "out")) { required = true }

-- the command `draw`
abbrev pub draw_line : App
draw_line = with_rule (with_rule (session_line (codes "draw")) out_option) dump_option

-- the command `fetch`
abbrev pub fetch_line : App
fetch_line =
    with_rule
    (with_rule (with_rule (with_rule (new_app (codes "fetch")) port_option) out_option)
    secret_option)
    quiet_option

-- the program's name and `--version`, and a command that has to follow
abbrev pub named_line : App
named_line =
    let named = new_app (codes "heapdbg") in
    record named { top = record named.top { subcommand_required = true; has_version = true } }

-- all commands
abbrev pub heapdbg_line : App
heapdbg_line =
    let first = with_subcommand (with_subcommand named_line run_line.top) explore_line.top in
    let local = with_subcommand (with_subcommand first save_line.top) draw_line.top in
    let serving = with_subcommand local serve_line.top in
    with_subcommand (with_subcommand serving ask_line.top) fetch_line.top

-- the number that a text of digits alone writes, if it lies from least to most
abbrev pub number_in : ℕ → ℕ → Text → Option ℕ
number_in least most text =
    if nat_lt 0 (length text) && (list_all is_ascii_digit text
    && (nat_le least (digits_value 10 text) && nat_le (digits_value 10 text) most))
    then Some (digits_value 10 text) else None

-- the number that an option is given, and its default if it is not given
abbrev pub number_or : ℕ → ℕ → ℕ → Option Text → Option ℕ
number_or default least most None = Some default
number_or default least most (Some text) = number_in least most text

-- the value of the option of this name among the options given
abbrev pub option_value : Text → ℕ → ℕ → ℕ → List Row → Option ℕ
option_value name default least most rows = number_or default least most (first_of name rows)

-- the value among the options given of one that takes a number
abbrev pub value_in : Numbers → List Row → Option ℕ
value_in n rows = option_value n.name n.default n.least n.most rows

-- the text before this suffix, if it ends in it
abbrev pub text_before : Text → Text → Option Text
text_before suffix text =
    let front = take (length text - length suffix) text in
    if bytes_eq text (front ++ suffix) then Some front else None

-- this number of times a number, if that lies from least to most
abbrev pub times_in : ℕ → ℕ → ℕ → ℕ → Option ℕ
times_in least most times number =
    if nat_le least (number * times) && nat_le (number * times) most then Some (number * times)
    else None

-- this number of times the number that a text writes, if that lies from least to most
abbrev pub counted_in : ℕ → ℕ → ℕ → Text → Option ℕ
counted_in least most times text =
    option_and_then (times_in least most times) (number_in 0 most text)

-- the size that a text writes, if it lies from least to most, from what stands before a `k`, or before an `m`, at its end
abbrev pub size_with : ℕ → ℕ → Text → Option Text → Option Text → Option ℕ
size_with least most text (Some digits) before_m = counted_in least most 1024 digits
size_with least most text None (Some digits) = counted_in least most 1048576 digits
size_with least most text None None = number_in least most text

-- the size that a text writes, if it lies from least to most: a number, or 1,024 times the number before a `k`, or 1,048,576 times
-- the number before an `m`
abbrev pub size_in : ℕ → ℕ → Text → Option ℕ
size_in least most text =
    size_with least most text (text_before (codes "k") text) (text_before (codes "m") text)

-- the size that an option is given, and its default if it is not given
abbrev pub size_or : ℕ → ℕ → ℕ → Option Text → Option ℕ
size_or default least most None = Some default
size_or default least most (Some text) = size_in least most text

-- the size that the option of this name among the options is given
abbrev pub option_size : Text → ℕ → ℕ → ℕ → List Row → Option ℕ
option_size name default least most rows = size_or default least most (first_of name rows)

-- the size of an identifier of this number of bytes
abbrev pub id_size_of : ℕ → Option IdSize
id_size_of bytes = if bytes == 4 then Some Four else (if bytes == 8 then Some Eight else None)

-- the size of identifiers that the option is given, and its default if it is not given
abbrev pub id_size_in : List Row → Option IdSize
id_size_in rows = option_and_then id_size_of (value_in id_numbers rows)

-- the settings without an area, if each option has a value in its range
abbrev pub settings_with : Task → Bool → Bool → Option ℕ → Option ℕ → Option ℕ → Option ℕ
    → Option IdSize → Option Bool → Option Bool → Option Settings
settings_with task wide quiet (Some regions) (Some mutators) (Some keep) (Some time) (Some ids)
    (Some questions) (Some rolls) =
    Some (record {
      task = task;
      wide = wide;
      regions = regions;
      area = 0;
      mutators = mutators;
      keep = keep;
      time = time;
      ids = ids;
      questions = questions;
      rolls = rolls;
      quiet = quiet;
    })
settings_with task wide quiet _ _ _ _ _ _ _ = None

-- whether an option is given as 1: not, if it is not given
abbrev pub flag_in : Text → List Row → Option Bool
flag_in name rows = option_map (λ number. number == 1) (value_in (flag_numbers name) rows)

-- whether questions are answered
abbrev pub questions_in : List Row → Option Bool
questions_in rows = flag_in (codes "questions") rows

-- whether old entries of a chronicle are dropped in place of refusing new ones
abbrev pub rolls_in : List Row → Option Bool
rolls_in rows = flag_in (codes "roll") rows

-- whether no progress is shown
abbrev pub quiet_in : List Row → Option Bool
quiet_in rows = flag_in (codes "quiet") rows

-- a dump is given
abbrev pub has_dump : List Row → Bool
has_dump rows = is_some (first_of (codes "hprof") rows)

-- whether a heap is wide, 1 or 0, if the option is not given: that of a dump is
abbrev pub wide_default : Bool → ℕ
wide_default dump = if dump then 1 else 0

-- whether the heap is wide
abbrev pub wide_in : List Row → Option Bool
wide_in rows =
    option_map (λ number. number == 1)
    (option_value (codes "wide") (wide_default (has_dump rows)) 0 1 rows)

-- what is run before the session of a task
abbrev pub origin_of : Task → Origin
origin_of (Run origin) = origin
origin_of (Explore origin page) = origin
origin_of (Draw origin) = origin
origin_of (Serve service) = service.origin
origin_of _ = Fresh

-- the number of steps that can be undone in a heap of no dump, if the option is not given: of `explore` the most that there may be
abbrev pub usual_keep : Task → Bool → ℕ
usual_keep (Explore origin page) wide = most_kept wide
usual_keep _ wide = 1024

-- the number of steps that can be undone, if the option is not given: this many, but in the heap of a dump as many as in a heap
-- that isn't wide
abbrev pub keep_after : Origin → ℕ → ℕ
keep_after Fresh usual = usual
keep_after Lines usual = usual
keep_after Dump usual = narrow_keep
keep_after Dumps usual = narrow_keep

-- the number of a task's steps that can be undone, if the option is not given
abbrev pub keep_default : Task → Bool → ℕ
keep_default task wide = keep_after (origin_of task) (usual_keep task wide)

-- the number of regions, if the option is not given: for a dump the most that there may be
abbrev pub regions_after : Origin → Bool → ℕ
regions_after Fresh wide = 16
regions_after Lines wide = 16
regions_after Dump wide = most_regions wide
regions_after Dumps wide = most_regions wide

-- the number of a task's regions, if the option is not given
abbrev pub regions_default : Task → Bool → ℕ
regions_default task wide = regions_after (origin_of task) wide

-- the regions of a task's heap that is wide, or isn't
abbrev pub regions_in : Task → Bool → List Row → Option ℕ
regions_in task wide rows =
    option_size (codes "regions") (regions_default task wide) 1 (most_regions wide) rows

-- the steps of a task that can be undone in a heap that is wide, or isn't
abbrev pub keep_in : Task → Bool → List Row → Option ℕ
keep_in task wide rows =
    option_size (codes "keep") (keep_default task wide) 1 (most_kept wide) rows

-- the largest number of regions of the area of a heap with this many regions that is wide, or isn't
abbrev pub most_area : Bool → ℕ → ℕ
most_area wide regions = if wide then regions - 1 else 0

-- the regions of the area, if the option is not given: for a dump in a wide heap a quarter of all
abbrev pub area_after : Origin → Bool → ℕ → ℕ
area_after Fresh wide regions = 0
area_after Lines wide regions = 0
area_after Dump wide regions = if wide then regions / 4 else 0
area_after Dumps wide regions = if wide then regions / 4 else 0

-- the regions of the area of a task's heap, if the option is not given
abbrev pub area_default : Task → Bool → ℕ → ℕ
area_default task wide regions = area_after (origin_of task) wide regions

-- the area of a task's heap with this many regions that is wide, or isn't
abbrev pub area_in : Task → Bool → ℕ → List Row → Option ℕ
area_in task wide regions rows =
    option_size (codes "area") (area_default task wide regions) 0 (most_area wide regions) rows

-- the settings with the area that the options give
abbrev pub with_area_in : List Row → Settings → Option Settings
with_area_in rows s =
    option_map (λ regions. record s { area = regions }) (area_in s.task s.wide s.regions rows)

-- the settings of a task and its options, but the area, over a heap that is wide, or isn't, with progress shown or not
abbrev pub settings_over : Task → List Row → Bool → Bool → Option Settings
settings_over task rows wide quiet = settings_with task wide quiet (regions_in task wide rows)
    (value_in mutator_numbers rows) (keep_in task wide rows) (value_in time_numbers rows)
    (id_size_in rows) (questions_in rows) (rolls_in rows)

-- the settings of a task and its options
abbrev pub settings_in : Task → List Row → Option Settings
settings_in task rows =
    option_and_then (with_area_in rows)
    (option_and_then (λ wide. option_and_then (settings_over task rows wide) (quiet_in rows))
    (wide_in rows))

-- the port that is given
abbrev pub port_in : List Row → Option ℕ
port_in rows = option_and_then (number_in 1 port_limit) (first_of (codes "port") rows)

-- the number of sessions asked for, and 1 if the option is not given
abbrev pub sessions_in : List Row → Option ℕ
sessions_in rows = value_in session_numbers rows

-- the number of markers and of sweepers asked for, and none if the option is not given
abbrev pub workers_in : List Row → Option ℕ
workers_in rows = value_in (flag_numbers (codes "workers")) rows

-- the port of the page of a session's own heap: none, if the option is not given
abbrev pub own_page : Option Text → Option (Option ℕ)
own_page None = Some None
own_page (Some text) = option_map (λ page. Some page) (number_in 1 port_limit text)

-- the file of a secret is given
abbrev pub has_secret : List Row → Bool
has_secret rows = is_some (first_of (codes "secret") rows)

-- what is run first, if a file of lines is given or not, and a dump or not: one of them, or nothing
abbrev pub origin_in : Bool → Bool → Option Origin
origin_in false false = Some Fresh
origin_in true false = Some Lines
origin_in false true = Some Dump
origin_in true true = None

-- the task of a session over a heap of its own, where this may be run first, to which this page is given
abbrev pub own_task : Option Text → Option Origin → Option Task
own_task page first =
    option_and_then (λ origin. option_map (λ p. Explore origin p) (own_page page)) first

-- the task of `explore`, to which this file of lines or this dump, and this page are given, or this port, and a secret or none, or
-- none of them
abbrev pub explore_with : Option Text → Option Text → Option Text → Option Text → Bool → Option Task
explore_with from hprof page None false =
    own_task page (origin_in (is_some from) (is_some hprof))
explore_with from hprof page None true = None
explore_with None None None (Some text) secret =
    option_map (λ port. Ask port secret) (number_in 1 port_limit text)
explore_with (Some path) hprof page (Some text) secret = None
explore_with None (Some path) page (Some text) secret = None
explore_with None None (Some page) (Some text) secret = None

-- a second dump is given
abbrev pub has_second : List Row → Bool
has_second rows = is_some (first_of (codes "then") rows)

-- this task, but after the session of two dumps in place of that of one, if a second is given; none, if no dump is run first
abbrev pub second_task : Bool → Task → Option Task
second_task false task = Some task
second_task true (Explore Dump page) = Some (Explore Dumps page)
second_task true _ = None

-- the task of the options of `explore`
abbrev pub explore_in : List Row → Option Task
explore_in rows =
    option_and_then (second_task (has_second rows))
    (explore_with (first_of (codes "from") rows) (first_of (codes "hprof") rows)
    (first_of (codes "page") rows) (first_of (codes "port") rows) (has_secret rows))

-- the target of a dump: one of the two options is given, and a port has to be one
abbrev pub target_in : Option Text → Option Text → Option Target
target_in (Some path) None = Some Out
target_in None (Some text) = option_map (λ port. To port) (number_in 1 port_limit text)
target_in None None = None
target_in (Some path) (Some text) = None

-- the task of the options of `save`
abbrev pub save_in : List Row → Option Task
save_in rows =
    option_map (λ target. Save target)
    (target_in (first_of (codes "out") rows) (first_of (codes "to") rows))

-- a port for dumps, if it isn't that of the sessions
abbrev pub other_port : ℕ → ℕ → Option (Option ℕ)
other_port port dumps = if dumps == port then None else Some (Some dumps)

-- the port for dumps beside that of the sessions: none, if the option is not given
abbrev pub dumps_with : ℕ → Option Text → Option (Option ℕ)
dumps_with port None = Some None
dumps_with port (Some text) = option_and_then (other_port port) (number_in 1 port_limit text)

-- the port for dumps that is given, beside that of the sessions
abbrev pub dumps_in : List Row → Option (Option ℕ)
dumps_in rows =
    option_and_then (λ port. dumps_with port (first_of (codes "dumps") rows)) (port_in rows)

-- a port of the page, if it is neither that of the sessions nor that for dumps
abbrev pub third_port : ℕ → Option ℕ → ℕ → Option (Option ℕ)
third_port port dumps page =
    if (page == port) || option_map_or (λ d. page == d) dumps false then None else Some (Some page)

-- the port of the page beside these two: none, if the option is not given
abbrev pub page_with : ℕ → Option ℕ → Option Text → Option (Option ℕ)
page_with port dumps None = Some None
page_with port dumps (Some text) =
    option_and_then (third_port port dumps) (number_in 1 port_limit text)

-- the port of the page that is given, beside these two
abbrev pub page_beside : ℕ → Option ℕ → List Row → Option (Option ℕ)
page_beside port dumps rows = page_with port dumps (first_of (codes "page") rows)

-- the port of the page that is given, beside that of the sessions and that for dumps
abbrev pub page_in : List Row → Option (Option ℕ)
page_in rows =
    option_and_then (λ port. option_and_then (λ dumps. page_beside port dumps rows) (dumps_in rows))
    (port_in rows)

-- after how many seconds without input a session is ended, and 0 if the option is not given: none is
abbrev pub idle_in : List Row → Option ℕ
idle_in rows = value_in idle_numbers rows

-- whether the heap is served until it is ended from outside
abbrev pub stays_in : List Row → Option Bool
stays_in rows = flag_in (codes "stay") rows

-- what is run before a session, if a dump is given, or isn't
abbrev pub dump_origin : Bool → Origin
dump_origin dump = if dump then Dump else Fresh

-- a served heap, if each option has a value in its range
abbrev pub serve_with : Option ℕ → Option ℕ → Option ℕ → Option (Option ℕ) → Option (Option ℕ)
    → Option ℕ → Option Bool → Bool → Origin → Option Task
serve_with (Some port) (Some sessions) (Some workers) (Some dumps) (Some page) (Some idle)
    (Some stays) secret origin =
    Some (Serve (record {
      port = port;
      sessions = sessions;
      workers = workers;
      dumps = dumps;
      page = page;
      idle = idle;
      stays = stays;
      secret = secret;
      origin = origin;
    }))
serve_with _ _ _ _ _ _ _ _ _ = None

-- the task of the options of `serve`
abbrev pub serve_in : List Row → Option Task
serve_in rows =
    serve_with (port_in rows) (sessions_in rows) (workers_in rows) (dumps_in rows) (page_in rows)
    (idle_in rows) (stays_in rows) (has_secret rows) (dump_origin (has_dump rows))

-- the task of the options of `ask`
abbrev pub ask_in : List Row → Option Task
ask_in rows = option_map (λ port. Ask port (has_secret rows)) (port_in rows)

-- the task of the options of `fetch`
abbrev pub fetch_in : List Row → Option Task
fetch_in rows = option_map (λ port. Fetch port (has_secret rows)) (port_in rows)

-- a task has this name
abbrev pub is_task : Text → Bool
is_task name =
    bytes_eq name (codes "run")
    || (bytes_eq name (codes "explore")
    || (bytes_eq name (codes "draw")
    || (bytes_eq name (codes "save")
    || (bytes_eq name (codes "serve")
    || (bytes_eq name (codes "ask") || bytes_eq name (codes "fetch"))))))

-- the task of the options of `run`
abbrev pub run_in : List Row → Option Task
run_in rows = Some (Run (dump_origin (has_dump rows)))

-- the task of the options of `draw`
abbrev pub draw_in : List Row → Option Task
draw_in rows = Some (Draw (dump_origin (has_dump rows)))

-- the task of a command's name and options
abbrev pub task_in : Text → List Row → Option Task
task_in name rows =
    if bytes_eq name (codes "run") then run_in rows
    else (if bytes_eq name (codes "explore") then explore_in rows
    else (if bytes_eq name (codes "draw") then draw_in rows
    else (if bytes_eq name (codes "save") then save_in rows
    else (if bytes_eq name (codes "serve") then serve_in rows
    else (if bytes_eq name (codes "ask") then ask_in rows
    else (if bytes_eq name (codes "fetch") then fetch_in rows else None))))))

-- the settings of a command and its options
abbrev pub settings_under : Text × List Row → Option Settings
settings_under found = option_and_then (λ task. settings_in task found.1) (task_in found.0 found.1)

-- the settings that the words ask for, if they are a command line of the program
abbrev pub settings_of : List Text → Option Settings
settings_of words =
    if length (fault_of heapdbg_line words) == 0
    then option_and_then settings_under (subcommand_of heapdbg_line words) else None

-- the word is `--NAME` or `--NAME=VALUE`
abbrev pub names_option : Text → Text → Bool
names_option name word = option_map_or (λ found. bytes_eq found.0 name) (long_of word) false

-- a word names the option
abbrev pub is_given : Text → List Text → Bool
is_given name words = list_any (names_option name) words

-- the path that the words give to an option
abbrev pub path_of : Text → List Text → Option Text
path_of name words =
    option_and_then (λ found. first_of name found.1) (subcommand_of heapdbg_line words)

-- a port for dumps, if there is one, is within the limits, and isn't that of the sessions
abbrev pub IsOther : ℕ → Option ℕ → Type 0
IsOther port None = ⊤
IsOther port (Some dumps) = (1 ≤ dumps) × (dumps ≤ port_limit) × (dumps ≢ port)

-- a port of the page, if there is one, is within the limits, and neither that of the sessions nor that for dumps
abbrev pub IsThird : ℕ → Option ℕ → Option ℕ → Type 0
IsThird port dumps None = ⊤
IsThird port dumps (Some page) =
    (1 ≤ page) × (page ≤ port_limit) × (page ≢ port) × (dumps ≢ Some page)

-- the ports and numbers of a served heap are within their limits
abbrev pub IsService : Service → Type 0
IsService s =
    (1 ≤ s.port) × (s.port ≤ port_limit) × (1 ≤ s.sessions) × (s.sessions ≤ session_numbers.most)
    × (s.workers ≤ 1) × IsOther s.port s.dumps × IsThird s.port s.dumps s.page
    × (s.idle ≤ idle_numbers.most)

-- the ports and numbers of a task are within their limits
abbrev pub IsTask : Task → Type 0
IsTask (Run origin) = ⊤
IsTask (Explore origin None) = ⊤
IsTask (Explore origin (Some page)) = (1 ≤ page) × (page ≤ port_limit)
IsTask (Draw origin) = ⊤
IsTask (Save Out) = ⊤
IsTask (Save (To port)) = (1 ≤ port) × (port ≤ port_limit)
IsTask (Serve service) = IsService service
IsTask (Ask port secret) = (1 ≤ port) × (port ≤ port_limit)
IsTask (Fetch port secret) = (1 ≤ port) × (port ≤ port_limit)

-- what a heap without an area allows that is wide, or isn't
abbrev pub usual_limits : Bool → Limits
usual_limits wide = if wide then wide_limits else narrow_limits

-- what a heap allows that has an area of this many regions, or none if they are 0, and is else as one with these limits
abbrev pub limits_with : ℕ → Limits → Limits
limits_with area limits = if area == 0 then limits else with_area area limits

-- the limits that the heap's events keep to
abbrev pub limits_of : Settings → Limits
limits_of s = limits_with s.area (usual_limits s.wide)

-- a heap that is wide, or isn't, may have these numbers of regions, of mutators and of steps that can be undone
abbrev pub AreNumbersOf : Bool → ℕ → ℕ → ℕ → Type 0
AreNumbersOf true regions mutators keep = AreHeapSettings regions mutators keep
AreNumbersOf false regions mutators keep = AreNarrowSettings regions mutators keep

-- the settings of the heap and its history are within their limits
abbrev pub IsHeapWithin : Settings → Type 0
IsHeapWithin s =
    AreNumbersOf s.wide s.regions s.mutators s.keep × (s.area ≤ most_area s.wide s.regions)

-- the settings are within their limits
abbrev pub AreSettingsWithin : Settings → Type 0
AreSettingsWithin s = IsHeapWithin s × IsTask s.task

-- the number of sessions
abbrev pub sessions_of : Task → ℕ
sessions_of (Serve service) = service.sessions
sessions_of _ = 1

-- the number of markers, and of sweepers
abbrev pub workers_of : Task → ℕ
workers_of (Serve service) = service.workers
workers_of _ = 0

-- the port for dumps
abbrev pub dumps_of : Task → Option ℕ
dumps_of (Serve service) = service.dumps
dumps_of _ = None

-- the port of the page
abbrev pub page_of : Task → Option ℕ
page_of (Serve service) = service.page
page_of (Explore origin page) = page
page_of _ = None

-- after how many seconds without input a session is ended: 0, if none is
abbrev pub idle_of : Task → ℕ
idle_of (Serve service) = service.idle
idle_of _ = 0

-- the heap is served until it is ended from outside
abbrev pub stays_of : Task → Bool
stays_of (Serve service) = service.stays
stays_of _ = false

-- a secret is asked for, or sent
abbrev pub is_guarded : Task → Bool
is_guarded (Serve service) = service.secret
is_guarded (Ask port secret) = secret
is_guarded (Fetch port secret) = secret
is_guarded _ = false

-- these are the lines of a file
abbrev pub is_lines : Origin → Bool
is_lines Fresh = false
is_lines Lines = true
is_lines Dump = false
is_lines Dumps = false

-- this is the session of a dump, or of two
abbrev pub is_dump : Origin → Bool
is_dump Fresh = false
is_dump Lines = false
is_dump Dump = true
is_dump Dumps = true

-- this is the session of two dumps
abbrev pub is_pair : Origin → Bool
is_pair Fresh = false
is_pair Lines = false
is_pair Dump = false
is_pair Dumps = true

-- the lines of a file are run first
abbrev pub runs_lines : Task → Bool
runs_lines task = is_lines (origin_of task)

-- the session of a dump is run first, or of two
abbrev pub runs_dump : Task → Bool
runs_dump task = is_dump (origin_of task)

-- the session of two dumps is run first
abbrev pub runs_pair : Task → Bool
runs_pair task = is_pair (origin_of task)

-- an option that no word names has its default
pub record HasDefaults (words : List Text) (s : Settings) : Type 0 where
  pub regions : is_given (codes "regions") words ≡ false → s.regions ≡ regions_default s.task s.wide
  pub area : is_given (codes "area") words ≡ false → s.area ≡ area_default s.task s.wide s.regions
  pub mutators : is_given (codes "mutators") words ≡ false → s.mutators ≡ 2
  pub keep : is_given (codes "keep") words ≡ false → s.keep ≡ keep_default s.task s.wide
  pub time : is_given (codes "time") words ≡ false → s.time ≡ 0
  pub ids : is_given (codes "ids") words ≡ false → s.ids ≡ Eight
  pub questions : is_given (codes "questions") words ≡ false → s.questions ≡ false
  pub rolls : is_given (codes "roll") words ≡ false → s.rolls ≡ false
  pub quiet : is_given (codes "quiet") words ≡ false → s.quiet ≡ false
  pub wide : is_given (codes "wide") words ≡ false → is_given (codes "hprof") words ≡ false → s.wide ≡ false
  pub sessions : is_given (codes "sessions") words ≡ false → sessions_of s.task ≡ 1
  pub workers : is_given (codes "workers") words ≡ false → workers_of s.task ≡ 0
  pub from : is_given (codes "from") words ≡ false → runs_lines s.task ≡ false
  pub hprof : is_given (codes "hprof") words ≡ false → runs_dump s.task ≡ false
  pub second : is_given (codes "then") words ≡ false → runs_pair s.task ≡ false
  pub dumps : is_given (codes "dumps") words ≡ false → dumps_of s.task ≡ None
  pub page : is_given (codes "page") words ≡ false → page_of s.task ≡ None
  pub idle : is_given (codes "idle") words ≡ false → idle_of s.task ≡ 0
  pub stays : is_given (codes "stay") words ≡ false → stays_of s.task ≡ false
  pub secret : is_given (codes "secret") words ≡ false → is_guarded s.task ≡ false

-- the fault has this text, or memory ran out
abbrev pub IsBadWith : Text → LineFault → Type 0
IsBadWith text (Bad shown) = string_bytes shown ≡ text
IsBadWith text (OptionText shown) = ⊥
IsBadWith text (CommandText shown) = ⊥
IsBadWith text Memory = ⊤
