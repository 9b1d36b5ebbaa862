-- The numbers that options take.
use Rattle.std.specs.Prelude.{◌++◌, ◌∷◌, [], ℕ, Bool, List, Option, codes, decimal, false, find, if◌then◌else◌}
use Rattle.std.specs.Str.{bytes_eq}
use Rattle.clap.specs.Words.{Text}
use Rattle.heap_world.specs.RegionLimits.{region_limit}
use Rattle.heap_world.specs.Limits.{keep_limit, mutator_limit, narrow_keep, narrow_regions}
use Rattle.heapdbg_options.specs.declared.option_rows.OptionRow.{OptionRow}

-- an option that takes a number: its name, its value if it is not given, the least and the largest number that it takes, what
-- stands between these where they are told, and what is told behind them
pub record Numbers : Type 0 where
  pub name : Text
  pub default : ℕ
  pub least : ℕ
  pub joint : Text
  pub most : ℕ
  pub but : Text

-- what is said of a value that the option doesn't take
abbrev pub taken_text : Numbers → Text
taken_text n =
    codes "--"
    ++ (n.name ++ (codes " takes " ++ (decimal n.least ++ (n.joint ++ (decimal n.most ++ n.but)))))

-- an option of this name and this default that takes the numbers from least to most
abbrev pub from_to : Text → ℕ → ℕ → ℕ → Numbers
from_to name default least most =
    record {
      name = name;
      default = default;
      least = least;
      joint = codes " to ";
      most = most;
      but = codes "";
    }

-- an option that takes 0 or 1, and is 0 if it is not given
abbrev pub flag_numbers : Text → Numbers
flag_numbers name = record (from_to name 0 0 1) { joint = codes " or " }

-- the highest port
abbrev pub port_limit : ℕ
port_limit = 65535

-- an option that takes a port
abbrev pub port_numbers : Text → Numbers
port_numbers name = from_to name 0 1 port_limit

-- `--port`
abbrev pub served_port_numbers : Numbers
served_port_numbers = port_numbers (codes "port")

-- `--to`
abbrev pub target_numbers : Numbers
target_numbers = port_numbers (codes "to")

-- `--page` of `explore`
abbrev pub page_numbers : Numbers
page_numbers = port_numbers (codes "page")

-- `--page` of `serve`
abbrev pub served_page_numbers : Numbers
served_page_numbers = record page_numbers { but = codes ", and not the number of --port or --dumps" }

-- `--dumps`
abbrev pub dump_port_numbers : Numbers
dump_port_numbers =
    record (port_numbers (codes "dumps")) { but = codes ", and not the number of --port" }

-- `--mutators`
abbrev pub mutator_numbers : Numbers
mutator_numbers = from_to (codes "mutators") 2 1 mutator_limit

-- `--time`, of which the largest is the largest number of 64 bits
abbrev pub time_numbers : Numbers
time_numbers = from_to (codes "time") 0 0 18446744073709551615

-- `--ids`
abbrev pub id_numbers : Numbers
id_numbers = record (from_to (codes "ids") 8 4 8) { joint = codes " or " }

-- `--sessions`
abbrev pub session_numbers : Numbers
session_numbers = from_to (codes "sessions") 1 1 1000

-- `--idle`, which is 0 if no session is ended
abbrev pub idle_numbers : Numbers
idle_numbers = from_to (codes "idle") 0 1 86400

-- the options that take the same numbers whatever else is given
abbrev pub number_options : List Numbers
number_options =
    flag_numbers (codes "wide")
    ∷ mutator_numbers
    ∷ time_numbers
    ∷ id_numbers
    ∷ flag_numbers (codes "quiet")
    ∷ flag_numbers (codes "questions")
    ∷ session_numbers
    ∷ flag_numbers (codes "workers")
    ∷ flag_numbers (codes "roll")
    ∷ flag_numbers (codes "stay")
    ∷ idle_numbers
    ∷ target_numbers
    ∷ page_numbers
    ∷ served_port_numbers
    ∷ []

-- the largest number of regions of a heap that is wide, or isn't
abbrev pub most_regions : Bool → ℕ
most_regions wide = if wide then region_limit else narrow_regions

-- the largest number of steps that can be undone in a heap that is wide, or isn't
abbrev pub most_kept : Bool → ℕ
most_kept wide = if wide then keep_limit else narrow_keep

-- the options that take sizes, in a heap that is wide, or isn't: their defaults depend on other options
abbrev pub size_options : Bool → List Numbers
size_options wide =
    from_to (codes "regions") 0 1 (most_regions wide)
    ∷ from_to (codes "keep") 0 1 (most_kept wide)
    ∷ []

-- the numbers of the option of this name among some
abbrev pub option_named : Text → List Numbers → Option Numbers
option_named name options = find (λ n. bytes_eq n.name name) options

-- the numbers of a row, in a heap that is wide, or isn't
abbrev pub row_numbers_in : Bool → OptionRow → Numbers
row_numbers_in wide row =
    record {
      name = row.name.now;
      default = row.default;
      least = row.least;
      joint = row.joint.now;
      most = if wide then row.wide_most else row.most;
      but = row.but.now;
    }

-- the numbers of a row, in a heap that isn't wide
abbrev pub row_numbers : OptionRow → Numbers
row_numbers row = row_numbers_in false row
