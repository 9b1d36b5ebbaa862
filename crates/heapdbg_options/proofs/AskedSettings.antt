-- What the settings are that a command line asks for.
use Rattle.std.proofs.Common.{◌≡◌, ◌∙◌, ◌⊎◌, ◌<◌, ◌≤◌, ◌^◌, ◌*◌, ℕ, Bool, true, false, ◌&&◌, ◌||◌, cond, List, [], ◌∷◌, Option, Some, None, inl, inr, refl, sym, ap, subst, true≢false, arith, codes, rules}
use Rattle.std.specs.Prelude.{◌==◌, Err, is_some, not, find, drop, length, option_and_then, option_map, nat_le, nat_lt}
use Rattle.std.specs.List.{list_all}
use Rattle.std.specs.Option.{option_map_or}
use Rattle.std.specs.Char.{is_ascii_digit}
use Rattle.std.specs.Str.{bytes_eq}
use Rattle.std.specs.Str.Parse.{IsNumeral, digits_value, without_leading_plus}
use Rattle.std.proofs.lemmas.Str.Parse.{IsNumeralModel, numerals_by_value, parse_digits}
use Rattle.std.proofs.lemmas.Bool.{eqb-false, leb-true, ltb-true}
use Rattle.clap.specs.Simple.{Shape, argument_words, built, entered, label_of, names_of, rows_at}
use Rattle.clap.specs.Walk.{answers_to, stop_after}
use Rattle.clap.specs.Words.{Row, Text, first_of, subcommand_of}
use Rattle.heap_class.specs.declared.IdSize.{IdSize}
use Rattle.heap_class.specs.declared.IdSize.TheVariants.{Eight}
use Rattle.heapdbg_options.specs.CommandLine.{AreNumbersOf, AreSettingsWithin, HasDefaults, IsTask, ask_in, idle_in, idle_of, is_guarded, has_secret, stays_in, stays_of, area_after, area_default, area_in, draw_in, dump_origin, dumps_in, dumps_of, dumps_with, page_beside, page_in, page_of, page_with, explore_in, explore_with, is_dump, is_lines, is_pair, has_second, origin_in, origin_of, own_page, own_task, runs_dump, runs_lines, runs_pair, second_task, flag_in, fetch_in, heapdbg_line, id_size_in, id_size_of, is_given, is_task, IsOther, IsThird, keep_after, keep_default, keep_in, most_area, number_in, number_or, other_port, port_in, questions_in, quiet_in, regions_in, rolls_in, save_in, serve_in, serve_with, sessions_in, sessions_of, settings_in, settings_over, settings_under, settings_with, target_in, task_in, third_port, option_value, wide_in, workers_in, workers_of, counted_in, option_size, size_or, size_with, text_before, times_in, has_dump, regions_after, regions_default, run_in, usual_keep, wide_default, with_area_in, value_in}
use Rattle.heapdbg_options.specs.Numbers.{Numbers, flag_numbers, id_numbers, idle_numbers, most_kept, most_regions, mutator_numbers, port_limit, session_numbers, time_numbers}
use Rattle.heapdbg_options.specs.declared.settings.Settings.{Settings}
use Rattle.heapdbg_options.specs.declared.settings.Origin.{Origin}
use Rattle.heapdbg_options.specs.declared.settings.Origin.TheVariants.{Fresh, Lines, Dump, Dumps}
use Rattle.heapdbg_options.specs.declared.settings.Service.{Service}
use Rattle.heapdbg_options.specs.declared.settings.Task.{Task}
use Rattle.heapdbg_options.specs.declared.settings.Task.TheVariants.{Run, Explore, Draw, Save, Serve, Ask, Fetch}
use Rattle.heapdbg_options.specs.declared.settings.Target.{Target}
use Rattle.heapdbg_options.specs.declared.settings.Target.TheVariants.{Out, To}
use Rattle.heapdbg_options.proofs.Words.{IsPlainRules, IsTailFree, and_true_gives_both, found_item_passes_both_tests, is_plain_rule, unnamed_option_has_no_value, or_false_right_is_false, subcommand_tail_lacks_name}

-- ---- numbers

own_digits_are_numerals : IsNumeralModel (λ ds. list_all is_ascii_digit ds ≡ true) (digits_value 10)
own_digits_are_numerals = numerals_by_value _ (search rules)

-- digits that `parse` refuses are none, or more than the limit
pub refused_digits_none_or_large : (least most : ℕ) (text : List ℕ) → most < 2 ^ 64 → list_all is_ascii_digit text ≡ true
    → ((IsNumeral 10 (without_leading_plus text) × (digits_value 10 (without_leading_plus text) < 2 ^ 64)) → ⊥)
    → None ≡ number_in least most text
refused_digits_none_or_large least most text fits digits refused =
    go (nat_lt 0 (length text) && (list_all is_ascii_digit text && (nat_le least (digits_value 10 text) && nat_le (digits_value 10 text) most))) refl
  where
    go : (b : Bool) → (nat_lt 0 (length text) && (list_all is_ascii_digit text && (nat_le least (digits_value 10 text) && nat_le (digits_value 10 text) most))) ≡ b
        → None ≡ cond b (Some (digits_value 10 text)) None
    go false h = refl
    go true h =
        let all = and_true_gives_both _ _ h in
        let within = and_true_gives_both _ _ (and_true_gives_both _ _ all.1).1 in
        let some_digit : 0 < length text = ltb-true _ _ all.0 in
        let below : digits_value 10 text ≤ most = leb-true _ _ within.1 in
        absurd (parse_digits own_digits_are_numerals {E = ℕ} 64 text (Err 0) refused digits (some_digit, omega arith))

pub number_setting_within_bounds : (least most : ℕ) (text : Text) (n : ℕ) → number_in least most text ≡ Some n → (least ≤ n) × (n ≤ most)
number_setting_within_bounds least most text n e =
    go (nat_lt 0 (length text) && (list_all is_ascii_digit text && (nat_le least (digits_value 10 text) && nat_le (digits_value 10 text) most))) refl e
  where
    go : (b : Bool) → (nat_lt 0 (length text) && (list_all is_ascii_digit text && (nat_le least (digits_value 10 text) && nat_le (digits_value 10 text) most))) ≡ b
        → cond b (Some (digits_value 10 text)) None ≡ Some n → (least ≤ n) × (n ≤ most)
    go false h found = cc
    go true h found =
        let within = and_true_gives_both _ _ (and_true_gives_both _ _ (and_true_gives_both _ _ h).1).1 in
        let same : digits_value 10 text ≡ n = cc (found) in
        rw (← same) (leb-true _ _ within.0, leb-true _ _ within.1)

times_setting_within_bounds : (least most times k n : ℕ) → times_in least most times k ≡ Some n → (least ≤ n) × (n ≤ most)
times_setting_within_bounds least most times k n e = go (nat_le least (k * times) && nat_le (k * times) most) refl e
  where
    go : (b : Bool) → (nat_le least (k * times) && nat_le (k * times) most) ≡ b → cond b (Some (k * times)) None ≡ Some n → (least ≤ n) × (n ≤ most)
    go false h found = cc
    go true h found =
        let within = and_true_gives_both _ _ h in
        let same : k * times ≡ n = cc (found) in
        rw (← same) (leb-true _ _ within.0, leb-true _ _ within.1)

counted_setting_within_bounds : (least most times : ℕ) (text : Text) (n : ℕ) → counted_in least most times text ≡ Some n → (least ≤ n) × (n ≤ most)
counted_setting_within_bounds least most times text n e = go (number_in 0 most text) e
  where
    go : (o : Option ℕ) → option_and_then (times_in least most times) o ≡ Some n → (least ≤ n) × (n ≤ most)
    go None found = cc
    go (Some k) found = times_setting_within_bounds least most times k n found

size_setting_within_bounds : (least most : ℕ) (text : Text) (before_k before_m : Option Text) (n : ℕ) → size_with least most text before_k before_m ≡ Some n → (least ≤ n) × (n ≤ most)
size_setting_within_bounds least most text (Some digits) before_m n e = counted_setting_within_bounds least most 1024 digits n e
size_setting_within_bounds least most text None (Some digits) n e = counted_setting_within_bounds least most 1048576 digits n e
size_setting_within_bounds least most text None None n e = number_setting_within_bounds least most text n e

size_or_default_within_bounds : (default least most : ℕ) (given : Option Text) (n : ℕ) → least ≤ default → default ≤ most
    → size_or default least most given ≡ Some n → (least ≤ n) × (n ≤ most)
size_or_default_within_bounds default least most None n low high e = let same : default ≡ n = cc in rw (← same) (low, high)
size_or_default_within_bounds default least most (Some text) n low high e = size_setting_within_bounds least most text (text_before (codes "k") text) (text_before (codes "m") text) n e

value_within_bounds : (n : Numbers) (rows : List Row) (v : ℕ) → n.least ≤ n.default → n.default ≤ n.most → value_in n rows ≡ Some v → (n.least ≤ v) × (v ≤ n.most)
value_within_bounds n rows v low high e = go (first_of n.name rows) e
  where
    go : (given : Option Text) → number_or n.default n.least n.most given ≡ Some v → (n.least ≤ v) × (v ≤ n.most)
    go None found = let same : n.default ≡ v = cc in rw (← same) (low, high)
    go (Some text) found = number_setting_within_bounds n.least n.most text v found

-- ---- settings

-- the rows have the settings' values
pub record AreRead (rows : List Row) (s : Settings) : Type 0 where
  pub wide : wide_in rows ≡ Some s.wide
  pub regions : regions_in s.task s.wide rows ≡ Some s.regions
  pub area : area_in s.task s.wide s.regions rows ≡ Some s.area
  pub mutators : value_in mutator_numbers rows ≡ Some s.mutators
  pub keep : keep_in s.task s.wide rows ≡ Some s.keep
  pub time : value_in time_numbers rows ≡ Some s.time
  pub ids : id_size_in rows ≡ Some s.ids
  pub questions : questions_in rows ≡ Some s.questions
  pub rolls : rolls_in rows ≡ Some s.rolls
  pub quiet : quiet_in rows ≡ Some s.quiet

settings_keep_all_given : (task : Task) (w u : Bool) (r m k t : Option ℕ) (i : Option IdSize) (q o : Option Bool) (s : Settings) → settings_with task w u r m k t i q o ≡ Some s
    → (s.task ≡ task) × (w ≡ s.wide) × (u ≡ s.quiet) × (r ≡ Some s.regions) × (m ≡ Some s.mutators) × (k ≡ Some s.keep) × (t ≡ Some s.time) × (i ≡ Some s.ids) × (q ≡ Some s.questions) × (o ≡ Some s.rolls)
settings_keep_all_given task w u None m k t i q o s e = cc
settings_keep_all_given task w u (Some r) None k t i q o s e = cc
settings_keep_all_given task w u (Some r) (Some m) None t i q o s e = cc
settings_keep_all_given task w u (Some r) (Some m) (Some k) None i q o s e = cc
settings_keep_all_given task w u (Some r) (Some m) (Some k) (Some t) None q o s e = cc
settings_keep_all_given task w u (Some r) (Some m) (Some k) (Some t) (Some i) None o s e = cc
settings_keep_all_given task w u (Some r) (Some m) (Some k) (Some t) (Some i) (Some q) None s e = cc
settings_keep_all_given task w u (Some r) (Some m) (Some k) (Some t) (Some i) (Some q) (Some o) s e = (cc, cc, cc, cc, cc, cc, cc, cc, cc, cc)

-- the settings over a heap that is wide, or isn't, have what the rows tell
pub settings_have_what_rows_tell : (task : Task) (rows : List Row) (w u : Bool) (s : Settings) → settings_over task rows w u ≡ Some s
    → (s.task ≡ task) × (w ≡ s.wide) × (u ≡ s.quiet) × (regions_in task w rows ≡ Some s.regions) × (value_in mutator_numbers rows ≡ Some s.mutators) × (keep_in task w rows ≡ Some s.keep) × (value_in time_numbers rows ≡ Some s.time) × (id_size_in rows ≡ Some s.ids)
    × (questions_in rows ≡ Some s.questions) × (rolls_in rows ≡ Some s.rolls)
settings_have_what_rows_tell task rows w u s found = settings_keep_all_given task w u (regions_in task w rows) (value_in mutator_numbers rows) (keep_in task w rows) (value_in time_numbers rows) (id_size_in rows) (questions_in rows) (rolls_in rows) s found

-- the settings over a heap that is wide, or isn't, with the area that the rows tell, are those of the rows
settings_with_area_are_read : (task : Task) (rows : List Row) (w u : Bool) (s : Settings) (area : ℕ) → wide_in rows ≡ Some w → quiet_in rows ≡ Some u → settings_over task rows w u ≡ Some s → area_in s.task s.wide s.regions rows ≡ Some area
    → (s.task ≡ task) × AreRead rows (record s { area = area })
settings_with_area_are_read task rows w u s area wide quiet found told =
    let there = settings_have_what_rows_tell task rows w u s found in
    let same : w ≡ s.wide = there.1 in (
      there.0,
      record {
        wide = wide ∙ ap (λ b. Some b) same;
        regions = ap (λ t. regions_in t s.wide rows) there.0 ∙ (ap (λ b. regions_in task b rows) (sym same) ∙ there.3);
        area = told;
        mutators = there.4;
        keep = ap (λ t. keep_in t s.wide rows) there.0 ∙ (ap (λ b. keep_in task b rows) (sym same) ∙ there.5);
        time = there.6;
        ids = there.7;
        questions = there.8;
        rolls = there.9;
        quiet = quiet ∙ ap (λ b. Some b) there.2;
      },
    )

settings_are_read_from_rows : (task : Task) (rows : List Row) (w u : Bool) (base s : Settings) → wide_in rows ≡ Some w → quiet_in rows ≡ Some u → settings_over task rows w u ≡ Some base → with_area_in rows base ≡ Some s → (s.task ≡ task) × AreRead rows s
settings_are_read_from_rows task rows w u base s wide quiet found told = go (area_in base.task base.wide base.regions rows) refl told
  where
    go : (o : Option ℕ) → area_in base.task base.wide base.regions rows ≡ o → option_map (λ area. record base { area = area }) o ≡ Some s → (s.task ≡ task) × AreRead rows s
    go None is made = cc
    go (Some area) is made =
        let same : record base { area = area } ≡ s = cc in
        subst (λ (x : Settings). (x.task ≡ task) × AreRead rows x) same (settings_with_area_are_read task rows w u base area wide quiet found is)

-- the settings without an area tell what its limit hangs on
pub settings_tell_regions : (task : Task) (rows : List Row) (w u : Bool) (s : Settings) → wide_in rows ≡ Some w → settings_over task rows w u ≡ Some s → (wide_in rows ≡ Some s.wide) × (regions_in s.task s.wide rows ≡ Some s.regions)
settings_tell_regions task rows w u s wide found =
    let there = settings_have_what_rows_tell task rows w u s found in
    let same : w ≡ s.wide = there.1 in (
      wide ∙ ap (λ b. Some b) same,
      ap (λ t. regions_in t s.wide rows) there.0 ∙ (ap (λ b. regions_in task b rows) (sym same) ∙ there.3),
    )

abbrev task_by_flags_and_rows : Bool → Bool → Bool → Bool → Bool → Bool → Bool → List Row → Option Task
task_by_flags_and_rows runs explores draws saves serves asks fetches rows = cond runs (run_in rows) (cond explores (explore_in rows) (cond draws (draw_in rows) (cond saves (save_in rows) (cond serves (serve_in rows) (cond asks (ask_in rows) (cond fetches (fetch_in rows) None))))))

task_is_named_by_one : (runs explores draws saves serves asks fetches : Bool) (rows : List Row) (task : Task) → task_by_flags_and_rows runs explores draws saves serves asks fetches rows ≡ Some task → (runs || (explores || (draws || (saves || (serves || (asks || fetches)))))) ≡ true
task_is_named_by_one true explores draws saves serves asks fetches rows task e = refl
task_is_named_by_one false true draws saves serves asks fetches rows task e = refl
task_is_named_by_one false false true saves serves asks fetches rows task e = refl
task_is_named_by_one false false false true serves asks fetches rows task e = refl
task_is_named_by_one false false false false true asks fetches rows task e = refl
task_is_named_by_one false false false false false true fetches rows task e = refl
task_is_named_by_one false false false false false false true rows task e = refl
task_is_named_by_one false false false false false false false rows task e = cc

pub record AreAsked (o : Option (Text × List Row)) (s : Settings) : Type 0 where
  pub found : Text × List Row
  pub is : o ≡ Some found
  pub named : is_task found.0 ≡ true
  pub task : task_in found.0 found.1 ≡ Some s.task
  pub read : AreRead found.1 s

found_settings_are_asked : (o : Option (Text × List Row)) (s : Settings) → option_and_then settings_under o ≡ Some s → AreAsked o s
found_settings_are_asked None s e = cc
found_settings_are_asked (Some f) s e = go (task_in f.0 f.1) refl e
  where
    placed : (task : Task) (w u : Bool) (o : Option Settings) → wide_in f.1 ≡ Some w → quiet_in f.1 ≡ Some u → settings_over task f.1 w u ≡ o → option_and_then (with_area_in f.1) o ≡ Some s → (s.task ≡ task) × AreRead f.1 s
    placed task w u None wide quiet h found = cc
    placed task w u (Some base) wide quiet h found = settings_are_read_from_rows task f.1 w u base s wide quiet h found

    shown : (task : Task) (w : Bool) (b : Option Bool) → wide_in f.1 ≡ Some w → quiet_in f.1 ≡ b → option_and_then (with_area_in f.1) (option_and_then (settings_over task f.1 w) b) ≡ Some s → (s.task ≡ task) × AreRead f.1 s
    shown task w None wide h found = cc
    shown task w (Some u) wide h found = placed task w u (settings_over task f.1 w u) wide h refl found

    sized : (task : Task) (b : Option Bool) → wide_in f.1 ≡ b → option_and_then (with_area_in f.1) (option_and_then (λ wide. option_and_then (settings_over task f.1 wide) (quiet_in f.1)) b) ≡ Some s → (s.task ≡ task) × AreRead f.1 s
    sized task None h found = cc
    sized task (Some w) h found = shown task w (quiet_in f.1) h refl found

    go : (t : Option Task) → task_in f.0 f.1 ≡ t → option_and_then (λ task. settings_in task f.1) t ≡ Some s → AreAsked (Some f) s
    go None h found = cc
    go (Some task) h found =
        let there = sized task (wide_in f.1) refl found in
        record {
          found = f;
          is = refl;
          named = task_is_named_by_one (bytes_eq f.0 (codes "run")) (bytes_eq f.0 (codes "explore")) (bytes_eq f.0 (codes "draw")) (bytes_eq f.0 (codes "save")) (bytes_eq f.0 (codes "serve")) (bytes_eq f.0 (codes "ask")) (bytes_eq f.0 (codes "fetch")) f.1 task h;
          task = h ∙ ap (λ t. Some t) (sym there.0);
          read = there.1;
        }

-- as many steps as can be undone in a heap of no dump may be undone
usual_keep_within : (task : Task) (w : Bool) → (1 ≤ usual_keep task w) × (usual_keep task w ≤ most_kept w)
usual_keep_within (Explore origin page) false = (omega arith, omega arith)
usual_keep_within (Explore origin page) true = (omega arith, omega arith)
usual_keep_within (Run origin) false = (omega arith, omega arith)
usual_keep_within (Run origin) true = (omega arith, omega arith)
usual_keep_within (Draw origin) false = (omega arith, omega arith)
usual_keep_within (Draw origin) true = (omega arith, omega arith)
usual_keep_within (Save target) false = (omega arith, omega arith)
usual_keep_within (Save target) true = (omega arith, omega arith)
usual_keep_within (Serve service) false = (omega arith, omega arith)
usual_keep_within (Serve service) true = (omega arith, omega arith)
usual_keep_within (Ask port secret) false = (omega arith, omega arith)
usual_keep_within (Ask port secret) true = (omega arith, omega arith)
usual_keep_within (Fetch port secret) false = (omega arith, omega arith)
usual_keep_within (Fetch port secret) true = (omega arith, omega arith)

keep_after_within : (origin : Origin) (w : Bool) (usual : ℕ) → (1 ≤ usual) × (usual ≤ most_kept w) → (1 ≤ keep_after origin usual) × (keep_after origin usual ≤ most_kept w)
keep_after_within Fresh w usual within = within
keep_after_within Lines w usual within = within
keep_after_within Dump false usual within = (omega arith, omega arith)
keep_after_within Dump true usual within = (omega arith, omega arith)
keep_after_within Dumps false usual within = (omega arith, omega arith)
keep_after_within Dumps true usual within = (omega arith, omega arith)

-- as many steps as can be undone by default may be undone
default_within : (task : Task) (w : Bool) → (1 ≤ keep_default task w) × (keep_default task w ≤ most_kept w)
default_within task w = keep_after_within (origin_of task) w (usual_keep task w) (usual_keep_within task w)

regions_after_within : (origin : Origin) (w : Bool) → (1 ≤ regions_after origin w) × (regions_after origin w ≤ most_regions w)
regions_after_within Fresh false = (omega arith, omega arith)
regions_after_within Fresh true = (omega arith, omega arith)
regions_after_within Lines false = (omega arith, omega arith)
regions_after_within Lines true = (omega arith, omega arith)
regions_after_within Dump false = (omega arith, omega arith)
regions_after_within Dump true = (omega arith, omega arith)
regions_after_within Dumps false = (omega arith, omega arith)
regions_after_within Dumps true = (omega arith, omega arith)

-- as many regions as there are by default may be there
default_regions_within : (task : Task) (w : Bool) → (1 ≤ regions_default task w) × (regions_default task w ≤ most_regions w)
default_regions_within task w = regions_after_within (origin_of task) w

area_after_within : (origin : Origin) (w : Bool) (r : ℕ) → area_after origin w r ≤ most_area w r
area_after_within Fresh w r = omega arith
area_after_within Lines w r = omega arith
area_after_within Dump false r = omega arith
area_after_within Dump true r = omega arith
area_after_within Dumps false r = omega arith
area_after_within Dumps true r = omega arith

-- the area of a dump's heap may be there
default_area_within : (task : Task) (w : Bool) (r : ℕ) → area_default task w r ≤ most_area w r
default_area_within task w r = area_after_within (origin_of task) w r

area_within : (task : Task) (w : Bool) (rows : List Row) (r a : ℕ) → area_in task w r rows ≡ Some a → a ≤ most_area w r
area_within task w rows r a e = (size_or_default_within_bounds (area_default task w r) 0 (most_area w r) (first_of (codes "area") rows) a (omega arith) (default_area_within task w r) e).1

numbers_of_heap_within_bounds : (task : Task) (w : Bool) (rows : List Row) (r m k : ℕ) → regions_in task w rows ≡ Some r → value_in mutator_numbers rows ≡ Some m → keep_in task w rows ≡ Some k → AreNumbersOf w r m k
numbers_of_heap_within_bounds task false rows r m k regions mutators keep =
    record {
      regions_within = size_or_default_within_bounds (regions_default task false) 1 (most_regions false) (first_of (codes "regions") rows) r (default_regions_within task false).0 (default_regions_within task false).1 regions;
      mutators_within = value_within_bounds mutator_numbers rows m (omega arith) (omega arith) mutators;
      keep_within = size_or_default_within_bounds (keep_default task false) 1 (most_kept false) (first_of (codes "keep") rows) k (default_within task false).0 (default_within task false).1 keep;
    }
numbers_of_heap_within_bounds task true rows r m k regions mutators keep =
    record {
      regions_within = size_or_default_within_bounds (regions_default task true) 1 (most_regions true) (first_of (codes "regions") rows) r (default_regions_within task true).0 (default_regions_within task true).1 regions;
      mutators_within = value_within_bounds mutator_numbers rows m (omega arith) (omega arith) mutators;
      keep_within = size_or_default_within_bounds (keep_default task true) 1 (most_kept true) (first_of (codes "keep") rows) k (default_within task true).0 (default_within task true).1 keep;
    }

port_within : (given : Option Text) (port : ℕ) → option_and_then (number_in 1 port_limit) given ≡ Some port → (1 ≤ port) × (port ≤ port_limit)
port_within None port e = cc
port_within (Some text) port e = number_setting_within_bounds 1 port_limit text port e

other_port_is_legal : (port : ℕ) (n : Option ℕ) (dumps : Option ℕ) → ((d : ℕ) → n ≡ Some d → (1 ≤ d) × (d ≤ port_limit)) → option_and_then (other_port port) n ≡ Some dumps → IsOther port dumps
other_port_is_legal port None dumps within e = cc
other_port_is_legal port (Some d) dumps within e = go (d == port) refl e
  where
    go : (b : Bool) → (d == port) ≡ b → cond b None (Some (Some d)) ≡ Some dumps → IsOther port dumps
    go true h found = cc
    go false h found =
        let same : Some d ≡ dumps = cc in
        let limits = within d refl in
        subst (IsOther port) same (limits.0, limits.1, eqb-false d port h)

dumps_within : (port : ℕ) (given : Option Text) (dumps : Option ℕ) → dumps_with port given ≡ Some dumps → IsOther port dumps
dumps_within port None dumps e = let same : None ≡ dumps = cc in subst (IsOther port) same tt
dumps_within port (Some text) dumps e = other_port_is_legal port (number_in 1 port_limit text) dumps (λ d is. number_setting_within_bounds 1 port_limit text d is) e

third_port_is_legal : (port : ℕ) (dumps n page : Option ℕ) → ((g : ℕ) → n ≡ Some g → (1 ≤ g) × (g ≤ port_limit)) → option_and_then (third_port port dumps) n ≡ Some page → IsThird port dumps page
third_port_is_legal port dumps None page within e = cc
third_port_is_legal port dumps (Some g) page within e = go (g == port) (option_map_or (λ d. g == d) dumps false) refl refl e
  where
    no_dumps : (o : Option ℕ) → option_map_or (λ d. g == d) o false ≡ false → o ≡ Some g → ⊥
    no_dumps None h is = cc
    no_dumps (Some d) h is = eqb-false g d h (sym (some_is d g is))
      where
        some_is : (a b : ℕ) → Some a ≡ Some b → a ≡ b
        some_is a b e = cc

    go : (b k : Bool) → (g == port) ≡ b → option_map_or (λ d. g == d) dumps false ≡ k → cond (b || k) None (Some (Some g)) ≡ Some page → IsThird port dumps page
    go true k h t found = cc
    go false true h t found = cc
    go false false h t found =
        let same : Some g ≡ page = cc in
        let limits = within g refl in
        subst (IsThird port dumps) same (limits.0, limits.1, eqb-false g port h, no_dumps dumps t)

page_within : (port : ℕ) (dumps : Option ℕ) (given : Option Text) (page : Option ℕ) → page_with port dumps given ≡ Some page → IsThird port dumps page
page_within port dumps None page e = let same : None ≡ page = cc in subst (IsThird port dumps) same tt
page_within port dumps (Some text) page e = third_port_is_legal port dumps (number_in 1 port_limit text) page (λ g is. number_setting_within_bounds 1 port_limit text g is) e

-- seconds of an option whose default is none
idle_within : (given : Option Text) (n : ℕ) → number_or idle_numbers.default idle_numbers.least idle_numbers.most given ≡ Some n → n ≤ idle_numbers.most
idle_within None n e = let same : 0 ≡ n = cc in rw (← same) (omega arith)
idle_within (Some text) n e = (number_setting_within_bounds idle_numbers.least idle_numbers.most text n e).1

-- a served heap has what its options say
pub record IsServeOf (p n w : Option ℕ) (d g : Option (Option ℕ)) (i : Option ℕ) (y : Option Bool) (x : Bool) (o : Origin) (task : Task) : Type 0 where
  pub service : Service
  pub is : task ≡ Serve service
  pub port : p ≡ Some service.port
  pub sessions : n ≡ Some service.sessions
  pub workers : w ≡ Some service.workers
  pub dumps : d ≡ Some service.dumps
  pub page : g ≡ Some service.page
  pub idle : i ≡ Some service.idle
  pub stays : y ≡ Some service.stays
  pub secret : x ≡ service.secret
  pub origin : o ≡ service.origin

serve_settings_make_task : (p n w : Option ℕ) (d g : Option (Option ℕ)) (i : Option ℕ) (y : Option Bool) (x : Bool) (o : Origin) (task : Task) → serve_with p n w d g i y x o ≡ Some task → IsServeOf p n w d g i y x o task
serve_settings_make_task None n w d g i y x o task e = cc
serve_settings_make_task (Some port) None w d g i y x o task e = cc
serve_settings_make_task (Some port) (Some sessions) None d g i y x o task e = cc
serve_settings_make_task (Some port) (Some sessions) (Some workers) None g i y x o task e = cc
serve_settings_make_task (Some port) (Some sessions) (Some workers) (Some dumps) None i y x o task e = cc
serve_settings_make_task (Some port) (Some sessions) (Some workers) (Some dumps) (Some page) None y x o task e = cc
serve_settings_make_task (Some port) (Some sessions) (Some workers) (Some dumps) (Some page) (Some idle) None x o task e = cc
serve_settings_make_task (Some port) (Some sessions) (Some workers) (Some dumps) (Some page) (Some idle) (Some stays) x o task e =
    let made : Service =
    record {
      port = port;
      sessions = sessions;
      workers = workers;
      dumps = dumps;
      page = page;
      idle = idle;
      stays = stays;
      secret = x;
      origin = o;
    }
    in
    let same : Serve made ≡ task = cc in
    record { service = made; is = sym same; port = refl; sessions = refl; workers = refl; dumps = refl; page = refl; idle = refl; stays = refl; secret = refl; origin = refl }

-- what the rows say of a served heap
abbrev IsServedByRows : List Row → Task → Type 0
IsServedByRows rows task = IsServeOf (port_in rows) (sessions_in rows) (workers_in rows) (dumps_in rows) (page_in rows) (idle_in rows) (stays_in rows) (has_secret rows) (dump_origin (has_dump rows)) task

serve_rows_make_task : (rows : List Row) (task : Task) → serve_in rows ≡ Some task → IsServedByRows rows task
serve_rows_make_task rows task e = serve_settings_make_task (port_in rows) (sessions_in rows) (workers_in rows) (dumps_in rows) (page_in rows) (idle_in rows) (stays_in rows) (has_secret rows) (dump_origin (has_dump rows)) task e

-- the port for dumps is read beside the port that was read
dumps_port_beside_served_port : (rows : List Row) (task : Task) (served : IsServedByRows rows task) → dumps_with served.service.port (first_of (codes "dumps") rows) ≡ Some served.service.dumps
dumps_port_beside_served_port rows task served =
    sym (ap (option_and_then (λ port. dumps_with port (first_of (codes "dumps") rows))) served.port) ∙ served.dumps

-- the port of the page is read beside these two
page_port_beside_other_ports : (rows : List Row) (task : Task) (served : IsServedByRows rows task) → page_beside served.service.port served.service.dumps rows ≡ Some served.service.page
page_port_beside_other_ports rows task served =
    sym
    (ap (λ p. option_and_then (λ port. option_and_then (λ dumps. page_beside port dumps rows) (dumps_in rows)) p) served.port
    ∙ ap (λ d. option_and_then (λ dumps. page_beside served.service.port dumps rows) d) served.dumps)
    ∙ served.page

serve_within : (rows : List Row) (task : Task) → serve_in rows ≡ Some task → IsTask task
serve_within rows task e =
    let served = serve_rows_make_task rows task e in
    let service = served.service in
    let ports = port_within (first_of (codes "port") rows) service.port served.port in
    let counts = value_within_bounds session_numbers rows service.sessions (omega arith) (omega arith) served.sessions in
    let tended = value_within_bounds (flag_numbers (codes "workers")) rows service.workers (omega arith) (omega arith) served.workers in
    subst IsTask (sym served.is) (
      ports.0,
      ports.1,
      counts.0,
      counts.1,
      tended.1,
      dumps_within service.port (first_of (codes "dumps") rows) service.dumps (dumps_port_beside_served_port rows task served),
      page_within service.port service.dumps (first_of (codes "page") rows) service.page (page_port_beside_other_ports rows task served),
      idle_within (first_of (codes "idle") rows) service.idle served.idle,
    )

ask_within : (rows : List Row) (secret : Bool) (p : Option ℕ) (task : Task) → port_in rows ≡ p → option_map (λ port. Ask port secret) p ≡ Some task → IsTask task
ask_within rows secret None task at e = cc
ask_within rows secret (Some port) task at e =
    let same : Ask port secret ≡ task = cc in
    subst IsTask same (port_within (first_of (codes "port") rows) port at)

fetch_within : (rows : List Row) (secret : Bool) (p : Option ℕ) (task : Task) → port_in rows ≡ p → option_map (λ port. Fetch port secret) p ≡ Some task → IsTask task
fetch_within rows secret None task at e = cc
fetch_within rows secret (Some port) task at e =
    let same : Fetch port secret ≡ task = cc in
    subst IsTask same (port_within (first_of (codes "port") rows) port at)

save_within : (path port : Option Text) (task : Task) → option_map (λ target. Save target) (target_in path port) ≡ Some task → IsTask task
save_within (Some path) None task e =
    let same : Save Out ≡ task = cc in
    subst IsTask same tt
save_within (Some path) (Some text) task e = cc
save_within None None task e = cc
save_within None (Some text) task e = go (number_in 1 port_limit text) refl e
  where
    go : (n : Option ℕ) → number_in 1 port_limit text ≡ n → option_map (λ target. Save target) (option_map (λ port. To port) n) ≡ Some task → IsTask task
    go None at e = cc
    go (Some port) at e =
        let same : Save (To port) ≡ task = cc in
        subst IsTask same (number_setting_within_bounds 1 port_limit text port at)

own_page_task_is_legal : (origin : Origin) (page : Option Text) (task : Task) → option_map (λ p. Explore origin p) (own_page page) ≡ Some task → IsTask task
own_page_task_is_legal origin None task e = let same : Explore origin None ≡ task = cc in subst IsTask same tt
own_page_task_is_legal origin (Some text) task e = go (number_in 1 port_limit text) refl e
  where
    go : (n : Option ℕ) → number_in 1 port_limit text ≡ n → option_map (λ p. Explore origin p) (option_map (λ page. Some page) n) ≡ Some task → IsTask task
    go None at h = cc
    go (Some page) at h =
        let same : Explore origin (Some page) ≡ task = cc in
        subst IsTask same (number_setting_within_bounds 1 port_limit text page at)

own_task_is_legal : (first : Option Origin) (page : Option Text) (task : Task) → own_task page first ≡ Some task → IsTask task
own_task_is_legal None page task e = cc
own_task_is_legal (Some origin) page task e = own_page_task_is_legal origin page task e

-- what the task of `explore` has, and the same task after the session of two dumps, is what its task with a second dump or without
-- has
task_of_two_has : (P : Task → Type 0) (t task : Task) → ((page : Option ℕ) → t ≡ Explore Dump page → P (Explore Dumps page)) → second_task true t ≡ Some task → P task
task_of_two_has P (Explore Dump page) task two e = let same : Explore Dumps page ≡ task = cc in subst P same (two page refl)
task_of_two_has P (Explore Fresh page) task two e = cc
task_of_two_has P (Explore Lines page) task two e = cc
task_of_two_has P (Explore Dumps page) task two e = cc
task_of_two_has P (Run origin) task two e = cc
task_of_two_has P (Draw origin) task two e = cc
task_of_two_has P (Save target) task two e = cc
task_of_two_has P (Serve service) task two e = cc
task_of_two_has P (Ask port secret) task two e = cc
task_of_two_has P (Fetch port secret) task two e = cc

second_task_has : (P : Task → Type 0) (second : Bool) (o : Option Task) (task : Task) → ((t : Task) → o ≡ Some t → P t) → ((page : Option ℕ) → second ≡ true → o ≡ Some (Explore Dump page) → P (Explore Dumps page))
    → option_and_then (second_task second) o ≡ Some task → P task
second_task_has P second None task one two e = cc
second_task_has P false (Some t) task one two e = let same : t ≡ task = cc in subst P same (one t refl)
second_task_has P true (Some t) task one two e = task_of_two_has P t task (λ page is. two page refl (ap Some is)) e

dumps_as_dump : (page : Option ℕ) → IsTask (Explore Dump page) → IsTask (Explore Dumps page)
dumps_as_dump None legal = tt
dumps_as_dump (Some page) legal = legal

explore_within : (from hprof page port : Option Text) (secret : Bool) (task : Task) → explore_with from hprof page port secret ≡ Some task → IsTask task
explore_within from hprof page None false task e = own_task_is_legal (origin_in (is_some from) (is_some hprof)) page task e
explore_within from hprof page None true task e = cc
explore_within (Some path) hprof page (Some text) secret task e = cc
explore_within None (Some path) page (Some text) secret task e = cc
explore_within None None (Some shown) (Some text) secret task e = cc
explore_within None None None (Some text) secret task e = go (number_in 1 port_limit text) refl e
  where
    go : (n : Option ℕ) → number_in 1 port_limit text ≡ n → option_map (λ port. Ask port secret) n ≡ Some task → IsTask task
    go None at h = cc
    go (Some port) at h =
        let same : Ask port secret ≡ task = cc in
        subst IsTask same (number_setting_within_bounds 1 port_limit text port at)

task_within : (runs explores draws saves serves asks fetches : Bool) (rows : List Row) (task : Task) → task_by_flags_and_rows runs explores draws saves serves asks fetches rows ≡ Some task → IsTask task
task_within true explores draws saves serves asks fetches rows task e = let same : Run (dump_origin (has_dump rows)) ≡ task = cc in subst IsTask same tt
task_within false true draws saves serves asks fetches rows task e =
    second_task_has IsTask (has_second rows) (explore_with (first_of (codes "from") rows) (first_of (codes "hprof") rows) (first_of (codes "page") rows) (first_of (codes "port") rows) (has_secret rows)) task
    (λ t is. explore_within (first_of (codes "from") rows) (first_of (codes "hprof") rows) (first_of (codes "page") rows) (first_of (codes "port") rows) (has_secret rows) t is)
    (λ page second is. dumps_as_dump page (explore_within (first_of (codes "from") rows) (first_of (codes "hprof") rows) (first_of (codes "page") rows) (first_of (codes "port") rows) (has_secret rows) (Explore Dump page) is)) e
task_within false false true saves serves asks fetches rows task e = let same : Draw (dump_origin (has_dump rows)) ≡ task = cc in subst IsTask same tt
task_within false false false true serves asks fetches rows task e = save_within (first_of (codes "out") rows) (first_of (codes "to") rows) task e
task_within false false false false true asks fetches rows task e = serve_within rows task e
task_within false false false false false true fetches rows task e = ask_within rows (has_secret rows) (port_in rows) task refl e
task_within false false false false false false true rows task e = fetch_within rows (has_secret rows) (port_in rows) task refl e
task_within false false false false false false false rows task e = cc

pub settings_within : (o : Option (Text × List Row)) (s : Settings) → option_and_then settings_under o ≡ Some s → AreSettingsWithin s
settings_within o s e =
    let asked = found_settings_are_asked o s e in
    let name = asked.found.0 in (
      (
        numbers_of_heap_within_bounds s.task s.wide asked.found.1 s.regions s.mutators s.keep asked.read.regions asked.read.mutators asked.read.keep,
        area_within s.task s.wide asked.found.1 s.regions s.area asked.read.area,
      ),
      task_within (bytes_eq name (codes "run")) (bytes_eq name (codes "explore")) (bytes_eq name (codes "draw")) (bytes_eq name (codes "save")) (bytes_eq name (codes "serve")) (bytes_eq name (codes "ask")) (bytes_eq name (codes "fetch")) asked.found.1 s.task asked.task,
    )

-- ---- defaults

-- the command's rules leave the option alone if no word names it, or the command is no task
abbrev is_free_command : Text → Shape → Bool
is_free_command name s = not (is_task s.name) || list_all (is_plain_rule name) s.rules

free_command_rules_are_plain : (name : Text) (s : Shape) → is_free_command name s ≡ true → is_task s.name ≡ true → IsPlainRules name s.rules
free_command_rules_are_plain name s e named = go (is_task s.name) named e
  where
    go : (b : Bool) → b ≡ true → (not b || list_all (is_plain_rule name) s.rules) ≡ true → IsPlainRules name s.rules
    go true h all = all
    go false h all = cc

option_not_named_later : (name : Text) (words : List Text) → is_given name words ≡ false → is_given name (drop 1 words) ≡ false
option_not_named_later name [] e = refl
option_not_named_later name (word ∷ rest) e = or_false_right_is_false _ _ e

entered_command_lacks_option : (name : Text) (stop : Option (Text × List Text)) (f : Text × List Row) → list_all (is_free_command name) (built heapdbg_line).subs ≡ true
    → IsTailFree name stop → entered (built heapdbg_line) stop ≡ Some f → is_task f.0 ≡ true → first_of name f.1 ≡ None
entered_command_lacks_option name None f all tail e named = cc
entered_command_lacks_option name (Some p) f all tail e named = go (find (λ s. answers_to p.0 (label_of s)) (built heapdbg_line).subs) refl e
  where
    go : (o : Option Shape) → find (λ s. answers_to p.0 (label_of s)) (built heapdbg_line).subs ≡ o → option_map (λ s. rows_at s p.1) o ≡ Some f
        → first_of name f.1 ≡ None
    go None h found = cc
    go (Some s) h found =
        let free = (found_item_passes_both_tests (λ s. answers_to p.0 (label_of s)) (is_free_command name) (built heapdbg_line).subs s all h).0 in
        let same : rows_at s p.1 ≡ f = cc in
        let is_task : is_task s.name ≡ true = subst (λ (g : Text × List Row). is_task g.0 ≡ true) (sym same) named in
        subst (λ (g : Text × List Row). first_of name g.1 ≡ None) same (unnamed_option_has_no_value name s.rules p.1 (free_command_rules_are_plain name s free is_task) tail)

-- an option that no word names has no row
unnamed_option_has_no_row : (name : Text) (words : List Text) (f : Text × List Row) → list_all (is_free_command name) (built heapdbg_line).subs ≡ true → subcommand_of heapdbg_line words ≡ Some f → is_task f.0 ≡ true
    → is_given name words ≡ false → first_of name f.1 ≡ None
unnamed_option_has_no_row name words f all is named other =
    let after = subcommand_tail_lacks_name name (built heapdbg_line).top.rules (names_of (built heapdbg_line)) (argument_words heapdbg_line words) (option_not_named_later name words other) in
    entered_command_lacks_option name (stop_after (built heapdbg_line).top.rules (names_of (built heapdbg_line)) (argument_words heapdbg_line words)) f all after is named

ungiven_number_is_default : (n : Numbers) (words : List Text) (f : Text × List Row) (v : ℕ)
    → list_all (is_free_command n.name) (built heapdbg_line).subs ≡ true → subcommand_of heapdbg_line words ≡ Some f → is_task f.0 ≡ true
    → value_in n f.1 ≡ Some v → is_given n.name words ≡ false → v ≡ n.default
ungiven_number_is_default n words f v all is named read other =
    let none = unnamed_option_has_no_row n.name words f all is named other in
    let same : Some n.default ≡ Some v = subst (λ o. number_or n.default n.least n.most o ≡ Some v) none read in
    cc

ungiven_size_is_default : (name : Text) (default least most : ℕ) (words : List Text) (f : Text × List Row) (n : ℕ)
    → list_all (is_free_command name) (built heapdbg_line).subs ≡ true → subcommand_of heapdbg_line words ≡ Some f → is_task f.0 ≡ true
    → option_size name default least most f.1 ≡ Some n → is_given name words ≡ false → n ≡ default
ungiven_size_is_default name default least most words f n all is named read other =
    let none = unnamed_option_has_no_row name words f all is named other in
    let same : Some default ≡ Some n = subst (λ o. size_or default least most o ≡ Some n) none read in
    cc

-- what sessions with questions have, of a private heap and of a served one, is what the task of `explore` has
explore_has : (P : Task → Type 0) (from hprof page port : Option Text) (secret : Bool) (task : Task)
    → ((origin : Origin) (p : Option ℕ) → origin_in (is_some from) (is_some hprof) ≡ Some origin → own_page page ≡ Some p → P (Explore origin p)) → ((n : ℕ) → P (Ask n secret)) → explore_with from hprof page port secret ≡ Some task → P task
explore_has P from hprof page None true task one other e = cc
explore_has P from hprof page None false task one other e = go (origin_in (is_some from) (is_some hprof)) (own_page page) refl refl e
  where
    go : (first : Option Origin) (o : Option (Option ℕ)) → origin_in (is_some from) (is_some hprof) ≡ first → own_page page ≡ o → option_and_then (λ origin. option_map (λ p. Explore origin p) o) first ≡ Some task → P task
    go None o is at h = cc
    go (Some origin) None is at h = cc
    go (Some origin) (Some p) is at h = let same : Explore origin p ≡ task = cc in subst P same (one origin p is at)
explore_has P (Some path) hprof page (Some text) secret task one other e = cc
explore_has P None (Some path) page (Some text) secret task one other e = cc
explore_has P None None (Some shown) (Some text) secret task one other e = cc
explore_has P None None None (Some text) secret task one other e = go (number_in 1 port_limit text) e
  where
    go : (n : Option ℕ) → option_map (λ port. Ask port secret) n ≡ Some task → P task
    go None h = cc
    go (Some n) h = let same : Ask n secret ≡ task = cc in subst P same (other n)

-- a dump that is run first is given, and the page is the task's
dump_has_page : (from hprof page port : Option Text) (secret : Bool) (p : Option ℕ) → explore_with from hprof page port secret ≡ Some (Explore Dump p) → (is_some hprof ≡ true) × (own_page page ≡ Some p)
dump_has_page from hprof page port secret p e = explore_has (λ t. (q : Option ℕ) → t ≡ Explore Dump q → (is_some hprof ≡ true) × (own_page page ≡ Some q)) from hprof page port secret (Explore Dump p) one (λ n q is. cc) e p refl
  where
    given : (from hprof : Bool) → origin_in from hprof ≡ Some Dump → hprof ≡ true
    given from true is = refl
    given false false is = cc
    given true false is = cc

    one : (origin : Origin) (r : Option ℕ) → origin_in (is_some from) (is_some hprof) ≡ Some origin → own_page page ≡ Some r → (q : Option ℕ) → Explore origin r ≡ Explore Dump q → (is_some hprof ≡ true) × (own_page page ≡ Some q)
    one origin r is at q same = (given (is_some from) (is_some hprof) (let first : origin ≡ Dump = cc in is ∙ ap Some first), let last : r ≡ q = cc in at ∙ ap Some last)

-- what is run first in `explore`: what one of the two options says, or the session of two dumps, if both are given
abbrev IsExploreOrigin : List Row → Origin → Type 0
IsExploreOrigin rows origin =
    (origin_in (is_some (first_of (codes "from") rows)) (is_some (first_of (codes "hprof") rows)) ≡ Some origin)
    ⊎ ((origin ≡ Dumps) × (is_some (first_of (codes "hprof") rows) ≡ true) × (has_second rows ≡ true))

-- what a task of no served heap has, and what a served heap has, is what each task has
each_task_has_property : (P : Task → Type 0) (runs explores draws saves serves asks fetches : Bool) (rows : List Row) (task : Task) → P (Run (dump_origin (has_dump rows)))
    → ((origin : Origin) (p : Option ℕ) → IsExploreOrigin rows origin → own_page (first_of (codes "page") rows) ≡ Some p → P (Explore origin p)) → P (Draw (dump_origin (has_dump rows))) → ((target : Target) → P (Save target))
    → ((port : ℕ) → P (Ask port (has_secret rows))) → ((port : ℕ) → P (Fetch port (has_secret rows))) → (serve_in rows ≡ Some task → P task) → task_by_flags_and_rows runs explores draws saves serves asks fetches rows ≡ Some task → P task
each_task_has_property P true explores draws saves serves asks fetches rows task run explore draw save ask fetch serve e = let same : Run (dump_origin (has_dump rows)) ≡ task = cc in subst P same run
each_task_has_property P false true draws saves serves asks fetches rows task run explore draw save ask fetch serve e =
    let from = first_of (codes "from") rows in
    let hprof = first_of (codes "hprof") rows in
    let page = first_of (codes "page") rows in
    let port = first_of (codes "port") rows in
    second_task_has P (has_second rows) (explore_with from hprof page port (has_secret rows)) task
    (λ t is. explore_has P from hprof page port (has_secret rows) t (λ origin p first at. explore origin p (inl first) at) ask is)
    (λ p second is. let own = dump_has_page from hprof page port (has_secret rows) p is in explore Dumps p (inr (refl, own.0, second)) own.1) e
each_task_has_property P false false true saves serves asks fetches rows task run explore draw save ask fetch serve e = let same : Draw (dump_origin (has_dump rows)) ≡ task = cc in subst P same draw
each_task_has_property P false false false true serves asks fetches rows task run explore draw save ask fetch serve e = go (target_in (first_of (codes "out") rows) (first_of (codes "to") rows)) e
  where
    go : (t : Option Target) → option_map (λ target. Save target) t ≡ Some task → P task
    go None h = cc
    go (Some target) h = let same : Save target ≡ task = cc in subst P same (save target)
each_task_has_property P false false false false true asks fetches rows task run explore draw save ask fetch serve e = serve e
each_task_has_property P false false false false false true fetches rows task run explore draw save ask fetch serve e = go (port_in rows) e
  where
    go : (p : Option ℕ) → option_map (λ port. Ask port (has_secret rows)) p ≡ Some task → P task
    go None h = cc
    go (Some port) h = let same : Ask port (has_secret rows) ≡ task = cc in subst P same (ask port)
each_task_has_property P false false false false false false true rows task run explore draw save ask fetch serve e = go (port_in rows) e
  where
    go : (p : Option ℕ) → option_map (λ port. Fetch port (has_secret rows)) p ≡ Some task → P task
    go None h = cc
    go (Some port) h = let same : Fetch port (has_secret rows) ≡ task = cc in subst P same (fetch port)
each_task_has_property P false false false false false false false rows task run explore draw save ask fetch serve e = cc

-- what a served heap has, by its options
by_service : {A : Type 0} (of : Task → A) (rows : List Row) (task : Task) (served : IsServedByRows rows task) (x : A) → of (Serve served.service) ≡ x → of task ≡ x
by_service of rows task served x e = ap of served.is ∙ e

-- a port for dumps that no word tells is none
default_dumps : (rows : List Row) (task : Task) → first_of (codes "dumps") rows ≡ None → serve_in rows ≡ Some task → dumps_of task ≡ None
default_dumps rows task missing e =
    let served = serve_rows_make_task rows task e in
    let same : Some None ≡ Some served.service.dumps = sym (ap (dumps_with served.service.port) missing) ∙ dumps_port_beside_served_port rows task served in
    by_service dumps_of rows task served None cc

-- a port of the page that no word tells is none
default_page : (rows : List Row) (task : Task) → first_of (codes "page") rows ≡ None → serve_in rows ≡ Some task → page_of task ≡ None
default_page rows task missing e =
    let served = serve_rows_make_task rows task e in
    let same : Some None ≡ Some served.service.page = sym (ap (page_with served.service.port served.service.dumps) missing) ∙ page_port_beside_other_ports rows task served in
    by_service page_of rows task served None cc

-- a page of a session's own heap that no word tells is none
default_own : (given : Option Text) (p : Option ℕ) → given ≡ None → own_page given ≡ Some p → p ≡ None
default_own None p none e = cc
default_own (Some text) p none e = cc

-- where no file of lines is given, its lines are not run first
ungiven_lines_are_unread : (from hprof : Bool) (origin : Origin) → from ≡ false → origin_in from hprof ≡ Some origin → is_lines origin ≡ false
ungiven_lines_are_unread false false origin none e = let same : Fresh ≡ origin = cc in subst (λ o. is_lines o ≡ false) same refl
ungiven_lines_are_unread false true origin none e = let same : Dump ≡ origin = cc in subst (λ o. is_lines o ≡ false) same refl
ungiven_lines_are_unread true hprof origin none e = cc

-- where no dump is given, its session is not run first
ungiven_dump_is_unread : (from hprof : Bool) (origin : Origin) → hprof ≡ false → origin_in from hprof ≡ Some origin → is_dump origin ≡ false
ungiven_dump_is_unread false false origin none e = let same : Fresh ≡ origin = cc in subst (λ o. is_dump o ≡ false) same refl
ungiven_dump_is_unread true false origin none e = let same : Lines ≡ origin = cc in subst (λ o. is_dump o ≡ false) same refl
ungiven_dump_is_unread from true origin none e = cc

-- a file of lines that no word tells is none
ungiven_file_is_unread : (given : Option Text) → given ≡ None → is_some given ≡ false
ungiven_file_is_unread None none = refl
ungiven_file_is_unread (Some path) none = cc

-- so it is in `explore`
explored_lines_are_given : (rows : List Row) (origin : Origin) → is_some (first_of (codes "from") rows) ≡ false → IsExploreOrigin rows origin → is_lines origin ≡ false
explored_lines_are_given rows origin none (inl is) = ungiven_lines_are_unread (is_some (first_of (codes "from") rows)) (is_some (first_of (codes "hprof") rows)) origin none is
explored_lines_are_given rows origin none (inr h) = ap is_lines h.0

explored_dump_is_given : (rows : List Row) (origin : Origin) → is_some (first_of (codes "hprof") rows) ≡ false → IsExploreOrigin rows origin → is_dump origin ≡ false
explored_dump_is_given rows origin none (inl is) = ungiven_dump_is_unread (is_some (first_of (codes "from") rows)) (is_some (first_of (codes "hprof") rows)) origin none is
explored_dump_is_given rows origin none (inr h) = absurd (true≢false (sym h.1 ∙ none))

-- where no second dump is given, the session of two is not run first
one_dump_is_no_pair : (from hprof : Bool) (origin : Origin) → origin_in from hprof ≡ Some origin → is_pair origin ≡ false
one_dump_is_no_pair false false origin e = let same : Fresh ≡ origin = cc in subst (λ o. is_pair o ≡ false) same refl
one_dump_is_no_pair true false origin e = let same : Lines ≡ origin = cc in subst (λ o. is_pair o ≡ false) same refl
one_dump_is_no_pair false true origin e = let same : Dump ≡ origin = cc in subst (λ o. is_pair o ≡ false) same refl
one_dump_is_no_pair true true origin e = cc

explored_pair_is_given : (rows : List Row) (origin : Origin) → has_second rows ≡ false → IsExploreOrigin rows origin → is_pair origin ≡ false
explored_pair_is_given rows origin none (inl is) = one_dump_is_no_pair (is_some (first_of (codes "from") rows)) (is_some (first_of (codes "hprof") rows)) origin is
explored_pair_is_given rows origin none (inr h) = absurd (true≢false (sym h.2 ∙ none))

session_of_a_dump_is_no_pair : (dump : Bool) → is_pair (dump_origin dump) ≡ false
session_of_a_dump_is_no_pair false = refl
session_of_a_dump_is_no_pair true = refl

-- the session of a dump is no file of lines
dump_session_is_no_file : (dump : Bool) → is_lines (dump_origin dump) ≡ false
dump_session_is_no_file false = refl
dump_session_is_no_file true = refl

-- no session of a dump is run first where no word tells one
no_dump_given_none_run : (rows : List Row) → first_of (codes "hprof") rows ≡ None → is_dump (dump_origin (has_dump rows)) ≡ false
no_dump_given_none_run rows none = ap (λ b. is_dump (dump_origin b)) (ungiven_file_is_unread (first_of (codes "hprof") rows) none)

-- no secret is given where no word tells one
no_secret_given_unguarded : (rows : List Row) → first_of (codes "secret") rows ≡ None → has_secret rows ≡ false
no_secret_given_unguarded rows none = ungiven_file_is_unread (first_of (codes "secret") rows) none

-- identifiers of which no word tells the size have 8 bytes
default_size : (words : List Text) (f : Text × List Row) (x : IdSize) → subcommand_of heapdbg_line words ≡ Some f → is_task f.0 ≡ true
    → id_size_in f.1 ≡ Some x → is_given (codes "ids") words ≡ false → x ≡ Eight
default_size words f x is named read other = go (value_in id_numbers f.1) refl read
  where
    go : (o : Option ℕ) → value_in id_numbers f.1 ≡ o → option_and_then id_size_of o ≡ Some x → x ≡ Eight
    go None e sized = cc
    go (Some bytes) e sized =
        let eight : bytes ≡ 8 = ungiven_number_is_default id_numbers words f bytes refl is named e other in
        let same : Some Eight ≡ Some x = subst (λ n. id_size_of n ≡ Some x) eight sized in
        cc

-- an option that no word tells is not given as 1
default_flag : (flag : Text) (words : List Text) (f : Text × List Row) (x : Bool) → list_all (is_free_command flag) (built heapdbg_line).subs ≡ true → subcommand_of heapdbg_line words ≡ Some f → is_task f.0 ≡ true
    → flag_in flag f.1 ≡ Some x → is_given flag words ≡ false → x ≡ false
default_flag flag words f x free is named read other = go (value_in (flag_numbers flag) f.1) refl read
  where
    go : (o : Option ℕ) → value_in (flag_numbers flag) f.1 ≡ o → option_map (λ number. number == 1) o ≡ Some x → x ≡ false
    go None e h = cc
    go (Some n) e h =
        let zero_is : n ≡ 0 = ungiven_number_is_default (flag_numbers flag) words f n free is named e other in
        let same : Some false ≡ Some x = subst (λ k. option_map (λ number. number == 1) (Some k) ≡ Some x) zero_is h in
        cc

-- a heap of which no word tells that it is wide, or of which dump it is, isn't wide
default_wide : (words : List Text) (f : Text × List Row) (x : Bool) → subcommand_of heapdbg_line words ≡ Some f → is_task f.0 ≡ true
    → wide_in f.1 ≡ Some x → is_given (codes "wide") words ≡ false → is_given (codes "hprof") words ≡ false → x ≡ false
default_wide words f x is named read other undumped =
    let none : first_of (codes "hprof") f.1 ≡ None = unnamed_option_has_no_row (codes "hprof") words f refl is named undumped in
    default_flag (codes "wide") words f x refl is named (subst (λ (o : Option Text). option_map (λ number. number == 1) (option_value (codes "wide") (wide_default (is_some o)) 0 1 f.1) ≡ Some x) none read) other

pub defaults_of : (words : List Text) (s : Settings) → option_and_then settings_under (subcommand_of heapdbg_line words) ≡ Some s → HasDefaults words s
defaults_of words s e =
    let asked = found_settings_are_asked (subcommand_of heapdbg_line words) s e in
    let name = asked.found.0 in
    let rows = asked.found.1 in
    record {
      regions = ungiven_size_is_default (codes "regions") (regions_default s.task s.wide) 1 (most_regions s.wide) words asked.found s.regions refl asked.is asked.named asked.read.regions;
      area = ungiven_size_is_default (codes "area") (area_default s.task s.wide s.regions) 0 (most_area s.wide s.regions) words asked.found s.area refl asked.is asked.named asked.read.area;
      mutators = ungiven_number_is_default mutator_numbers words asked.found s.mutators refl asked.is asked.named asked.read.mutators;
      keep = ungiven_size_is_default (codes "keep") (keep_default s.task s.wide) 1 (most_kept s.wide) words asked.found s.keep refl asked.is asked.named asked.read.keep;
      time = ungiven_number_is_default time_numbers words asked.found s.time refl asked.is asked.named asked.read.time;
      ids = default_size words asked.found s.ids asked.is asked.named asked.read.ids;
      questions = default_flag (codes "questions") words asked.found s.questions refl asked.is asked.named asked.read.questions;
      rolls = default_flag (codes "roll") words asked.found s.rolls refl asked.is asked.named asked.read.rolls;
      quiet = default_flag (codes "quiet") words asked.found s.quiet refl asked.is asked.named asked.read.quiet;
      wide = λ other undumped. default_wide words asked.found s.wide asked.is asked.named asked.read.wide other undumped;
      sessions = λ other. each_task_has_property (λ t. sessions_of t ≡ 1) (bytes_eq name (codes "run")) (bytes_eq name (codes "explore")) (bytes_eq name (codes "draw")) (bytes_eq name (codes "save")) (bytes_eq name (codes "serve")) (bytes_eq name (codes "ask")) (bytes_eq name (codes "fetch")) rows s.task
          refl (λ origin p is at. refl) refl (λ target. refl) (λ port. refl) (λ port. refl)
          (λ is. let served = serve_rows_make_task rows s.task is in by_service sessions_of rows s.task served 1 (ungiven_number_is_default session_numbers words asked.found served.service.sessions refl asked.is asked.named served.sessions other)) asked.task;
      workers = λ other. each_task_has_property (λ t. workers_of t ≡ 0) (bytes_eq name (codes "run")) (bytes_eq name (codes "explore")) (bytes_eq name (codes "draw")) (bytes_eq name (codes "save")) (bytes_eq name (codes "serve")) (bytes_eq name (codes "ask")) (bytes_eq name (codes "fetch")) rows s.task
          refl (λ origin p is at. refl) refl (λ target. refl) (λ port. refl) (λ port. refl)
          (λ is. let served = serve_rows_make_task rows s.task is in by_service workers_of rows s.task served 0 (ungiven_number_is_default (flag_numbers (codes "workers")) words asked.found served.service.workers refl asked.is asked.named served.workers other)) asked.task;
      dumps = λ other. each_task_has_property (λ t. dumps_of t ≡ None) (bytes_eq name (codes "run")) (bytes_eq name (codes "explore")) (bytes_eq name (codes "draw")) (bytes_eq name (codes "save")) (bytes_eq name (codes "serve")) (bytes_eq name (codes "ask")) (bytes_eq name (codes "fetch")) rows s.task
          refl (λ origin p is at. refl) refl (λ target. refl) (λ port. refl) (λ port. refl)
          (λ is. default_dumps rows s.task (unnamed_option_has_no_row (codes "dumps") words asked.found refl asked.is asked.named other) is) asked.task;
      page = λ other. each_task_has_property (λ t. page_of t ≡ None) (bytes_eq name (codes "run")) (bytes_eq name (codes "explore")) (bytes_eq name (codes "draw")) (bytes_eq name (codes "save")) (bytes_eq name (codes "serve")) (bytes_eq name (codes "ask")) (bytes_eq name (codes "fetch")) rows s.task
          refl (λ origin p is at. default_own (first_of (codes "page") rows) p (unnamed_option_has_no_row (codes "page") words asked.found refl asked.is asked.named other) at) refl (λ target. refl) (λ port. refl) (λ port. refl)
          (λ is. default_page rows s.task (unnamed_option_has_no_row (codes "page") words asked.found refl asked.is asked.named other) is) asked.task;
      from = λ other. each_task_has_property (λ t. runs_lines t ≡ false) (bytes_eq name (codes "run")) (bytes_eq name (codes "explore")) (bytes_eq name (codes "draw")) (bytes_eq name (codes "save")) (bytes_eq name (codes "serve")) (bytes_eq name (codes "ask")) (bytes_eq name (codes "fetch")) rows s.task
          (dump_session_is_no_file (has_dump rows)) (λ origin p is at. explored_lines_are_given rows origin (ungiven_file_is_unread (first_of (codes "from") rows) (unnamed_option_has_no_row (codes "from") words asked.found refl asked.is asked.named other)) is) (dump_session_is_no_file (has_dump rows)) (λ target. refl) (λ port. refl) (λ port. refl)
          (λ is. let served = serve_rows_make_task rows s.task is in by_service runs_lines rows s.task served false (ap is_lines (sym served.origin) ∙ dump_session_is_no_file (has_dump rows))) asked.task;
      hprof = λ other. each_task_has_property (λ t. runs_dump t ≡ false) (bytes_eq name (codes "run")) (bytes_eq name (codes "explore")) (bytes_eq name (codes "draw")) (bytes_eq name (codes "save")) (bytes_eq name (codes "serve")) (bytes_eq name (codes "ask")) (bytes_eq name (codes "fetch")) rows s.task
          (no_dump_given_none_run rows (unnamed_option_has_no_row (codes "hprof") words asked.found refl asked.is asked.named other)) (λ origin p is at. explored_dump_is_given rows origin (ungiven_file_is_unread (first_of (codes "hprof") rows) (unnamed_option_has_no_row (codes "hprof") words asked.found refl asked.is asked.named other)) is) (no_dump_given_none_run rows (unnamed_option_has_no_row (codes "hprof") words asked.found refl asked.is asked.named other)) (λ target. refl) (λ port. refl) (λ port. refl)
          (λ is. let served = serve_rows_make_task rows s.task is in by_service runs_dump rows s.task served false (ap is_dump (sym served.origin) ∙ no_dump_given_none_run rows (unnamed_option_has_no_row (codes "hprof") words asked.found refl asked.is asked.named other))) asked.task;
      second = λ other. each_task_has_property (λ t. runs_pair t ≡ false) (bytes_eq name (codes "run")) (bytes_eq name (codes "explore")) (bytes_eq name (codes "draw")) (bytes_eq name (codes "save")) (bytes_eq name (codes "serve")) (bytes_eq name (codes "ask")) (bytes_eq name (codes "fetch")) rows s.task
          (session_of_a_dump_is_no_pair (has_dump rows)) (λ origin p is at. explored_pair_is_given rows origin (ungiven_file_is_unread (first_of (codes "then") rows) (unnamed_option_has_no_row (codes "then") words asked.found refl asked.is asked.named other)) is) (session_of_a_dump_is_no_pair (has_dump rows)) (λ target. refl) (λ port. refl) (λ port. refl)
          (λ is. let served = serve_rows_make_task rows s.task is in by_service runs_pair rows s.task served false (ap is_pair (sym served.origin) ∙ session_of_a_dump_is_no_pair (has_dump rows))) asked.task;
      idle = λ other. each_task_has_property (λ t. idle_of t ≡ 0) (bytes_eq name (codes "run")) (bytes_eq name (codes "explore")) (bytes_eq name (codes "draw")) (bytes_eq name (codes "save")) (bytes_eq name (codes "serve")) (bytes_eq name (codes "ask")) (bytes_eq name (codes "fetch")) rows s.task
          refl (λ origin p is at. refl) refl (λ target. refl) (λ port. refl) (λ port. refl)
          (λ is. let served = serve_rows_make_task rows s.task is in by_service idle_of rows s.task served 0 (ungiven_number_is_default idle_numbers words asked.found served.service.idle refl asked.is asked.named served.idle other)) asked.task;
      stays = λ other. each_task_has_property (λ t. stays_of t ≡ false) (bytes_eq name (codes "run")) (bytes_eq name (codes "explore")) (bytes_eq name (codes "draw")) (bytes_eq name (codes "save")) (bytes_eq name (codes "serve")) (bytes_eq name (codes "ask")) (bytes_eq name (codes "fetch")) rows s.task
          refl (λ origin p is at. refl) refl (λ target. refl) (λ port. refl) (λ port. refl)
          (λ is. let served = serve_rows_make_task rows s.task is in by_service stays_of rows s.task served false (default_flag (codes "stay") words asked.found served.service.stays refl asked.is asked.named served.stays other)) asked.task;
      secret = λ other. each_task_has_property (λ t. is_guarded t ≡ false) (bytes_eq name (codes "run")) (bytes_eq name (codes "explore")) (bytes_eq name (codes "draw")) (bytes_eq name (codes "save")) (bytes_eq name (codes "serve")) (bytes_eq name (codes "ask")) (bytes_eq name (codes "fetch")) rows s.task
          refl (λ origin p is at. refl) refl (λ target. refl) (λ port. no_secret_given_unguarded rows (unnamed_option_has_no_row (codes "secret") words asked.found refl asked.is asked.named other)) (λ port. no_secret_given_unguarded rows (unnamed_option_has_no_row (codes "secret") words asked.found refl asked.is asked.named other))
          (λ is. let served = serve_rows_make_task rows s.task is in by_service is_guarded rows s.task served false (sym served.secret ∙ no_secret_given_unguarded rows (unnamed_option_has_no_row (codes "secret") words asked.found refl asked.is asked.named other))) asked.task;
    }
