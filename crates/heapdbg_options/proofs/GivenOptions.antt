-- What the options tell, and the words.
use Rattle.std.proofs.Common.{◌≡◌, ℕ, Bool, false, refl, ap, sym, ◌∙◌, subst, true, List, Option, Some, None, Result, Ok, Err, IfOk, codes}
use Rattle.std.specs.Borrow.{Bor}
use Rattle.std.specs.Prelude.{IfSome, is_some, option_and_then, option_map}
use Rattle.clap.proofs.WalkLemmas.{first_value-rows}
use Rattle.clap.specs.Matches.{first_value}
use Rattle.clap.specs.Words.{App, FailsBy, HasMatchesOf, Row, Text, fault_of, first_of, is_simple, is_simple_and_free, rows_of, subcommand_of, subcommand_rows_of}
use Rattle.clap.specs.declared.error.Error.{Error}
use Rattle.clap.specs.declared.parser.matches.ArgMatches.{ArgMatches}
use Rattle.clap.specs.declared.parser.matches.Found.{Found}
use Rattle.heapdbg_options.specs.CommandLine.{explore_in, explore_with, has_second, has_secret, heapdbg_line, own_page, path_of, second_task}
use Rattle.heapdbg_options.specs.Refusals.{IsExploreOrMistake, IsReadOrMistake, IsValueOrMistake, said_of, second_rule}
use Rattle.heapdbg_options.specs.declared.refusal.Mistake.{Mistake}
use Rattle.heapdbg_options.specs.declared.settings.Origin.TheVariants.{Dump, Dumps}
use Rattle.heapdbg_options.specs.declared.settings.Task.{Task}
use Rattle.heapdbg_options.specs.declared.settings.Task.TheVariants.{Explore}
use Rattle.heapdbg_options.proofs.Mistakes.{explore_mistake_is_in_rows, second_mistake_is_in_rows}

-- ---- what is told of options

-- what the texts of two options give is what their rows give
pub two_options_given_as_rows : {A : Type 0} (F : Option Text → Option Text → A) (found : Found) (name second : Text) (one other : Option (Bor Text)) → option_map (λ s. s.now) one ≡ first_value found name → option_map (λ s. s.now) other ≡ first_value found second
    → F (option_map (λ s. s.now) one) (option_map (λ s. s.now) other) ≡ F (first_of name (rows_of found)) (first_of second (rows_of found))
two_options_given_as_rows F found name second one other e f = λ i. F ((e ∙ first_value-rows found name) i) ((f ∙ first_value-rows found second) i)

-- so is a mistake in them
pub given_mistake : (IsMade : Text → Option Text → Option Text → Type 0) (said : Text) (found : Found) (name second : Text) (one other : Option (Bor Text)) → option_map (λ s. s.now) one ≡ first_value found name → option_map (λ s. s.now) other ≡ first_value found second
    → IsMade said (option_map (λ s. s.now) one) (option_map (λ s. s.now) other) → IsMade said (first_of name (rows_of found)) (first_of second (rows_of found))
given_mistake IsMade said found name second one other e f h =
    subst (λ o. IsMade said o (first_of second (rows_of found))) (e ∙ first_value-rows found name)
    (subst (λ o. IsMade said (option_map (λ s. s.now) one) o) (f ∙ first_value-rows found second) h)

-- the text of an option is that of its row
pub text_of_row : (found : Found) (name : Text) (given : Option Text) → given ≡ first_value found name → first_of name (rows_of found) ≡ given
text_of_row found name given e = sym (first_value-rows found name) ∙ sym e

-- an option is given as its row is there
pub option_given_as_its_row : (found : Found) (name : Text) (given : Option (Bor Text)) → option_map (λ s. s.now) given ≡ first_value found name → is_some given ≡ is_some (first_of name (rows_of found))
option_given_as_its_row found name None e = ap is_some (e ∙ first_value-rows found name)
option_given_as_its_row found name (Some text) e = ap is_some (e ∙ first_value-rows found name)

-- the task of the options of `explore`, whether or not a second dump is given
abbrev pub first_task_in : List Row → Option Task
first_task_in rows =
    explore_with (first_of (codes "from") rows) (first_of (codes "hprof") rows) (first_of (codes "page") rows) (first_of (codes "port") rows) (has_secret rows)

-- where a second dump can't be given, no first is
no_second_where_no_first : (from hprof page port : Option Text) (secret : Bool) (task : Task) → explore_with from hprof page port secret ≡ Some task → second_task true task ≡ None → is_some hprof ≡ false
no_second_where_no_first from None page port secret task e none = refl
no_second_where_no_first None (Some path) page (Some text) secret task e none = cc
no_second_where_no_first (Some file) (Some path) page (Some text) secret task e none = cc
no_second_where_no_first from (Some path) page None true task e none = cc
no_second_where_no_first (Some file) (Some path) page None false task e none = cc
no_second_where_no_first None (Some path) page None false task e none = go (own_page page) e
  where
    two : (t : Task) (p : Option ℕ) → Explore Dump p ≡ t → second_task true t ≡ Some (Explore Dumps p)
    two t p same = ap (second_task true) (sym same)

    go : (o : Option (Option ℕ)) → option_map (λ p. Explore Dump p) o ≡ Some task → true ≡ false
    go None h = cc
    go (Some p) h = let same : Explore Dump p ≡ task = cc in let both : Some (Explore Dumps p) ≡ None = sym (two task p same) ∙ none in cc

-- the task after a second dump, or the mistake in that, is that of the rows
pub second_task_from_rows : (rows : List Row) (task : Task) (second : Bool) (result : Result Task Mistake) → first_task_in rows ≡ Some task → second ≡ has_second rows
    → IsValueOrMistake (second_task second task) (λ said. (said ≡ second_rule) × (second ≡ true)) result → IsReadOrMistake explore_in rows result
second_task_from_rows rows task second result first is h = go result (subst (λ b. IsValueOrMistake (second_task b task) (λ said. (said ≡ second_rule) × (b ≡ true)) result) is h)
  where
    read : explore_in rows ≡ second_task (has_second rows) task
    read = ap (option_and_then (second_task (has_second rows))) first

    none_for : (b : Bool) → b ≡ true → second_task b task ≡ None → second_task true task ≡ None
    none_for b is none = ap (λ (x : Bool). second_task x task) (sym is) ∙ none

    go : (r : Result Task Mistake) → IsValueOrMistake (second_task (has_second rows) task) (λ said. (said ≡ second_rule) × (has_second rows ≡ true)) r → IsReadOrMistake explore_in rows r
    go (Ok t) made = (read ∙ made.0, tt)
    go (Err m) made =
        (tt, (read ∙ made.1.0, second_mistake_is_in_rows (said_of m) rows made.1.1.0 made.1.1.1 (no_second_where_no_first (first_of (codes "from") rows) (first_of (codes "hprof") rows) (first_of (codes "page") rows) (first_of (codes "port") rows) (has_secret rows) task first (none_for (has_second rows) made.1.1.1 made.1.0))))

-- a mistake in the other options is one of the rows
pub first_mistake_is_in_rows : (rows : List Row) (m : Mistake) → IsReadOrMistake first_task_in rows (Err m) → IsReadOrMistake explore_in rows (Err m)
first_mistake_is_in_rows rows m made = (tt, (ap (option_and_then (second_task (has_second rows))) made.1.0, made.1.1))

-- the texts of the options of `explore` are those of their rows
abbrev pub AreExploreTexts : Found → Option Text → Option Text → Option Text → Option Text → Type 0
AreExploreTexts found from hprof page port =
    (from ≡ first_value found (codes "from")) × (hprof ≡ first_value found (codes "hprof")) × (page ≡ first_value found (codes "page")) × (port ≡ first_value found (codes "port"))

-- its task, or a mistake in them, is that of the rows
pub explore_task_from_rows : (found : Found) (from hprof page port : Option Text) (secret : Bool) (result : Result Task Mistake) → AreExploreTexts found from hprof page port → secret ≡ has_secret (rows_of found) → IsExploreOrMistake from hprof page port secret result
    → IsReadOrMistake first_task_in (rows_of found) result
explore_task_from_rows found from hprof page port secret result texts guarded h =
    of_rows result
    (subst (λ b. IsExploreOrMistake (first_of (codes "from") (rows_of found)) (first_of (codes "hprof") (rows_of found)) (first_of (codes "page") (rows_of found)) (first_of (codes "port") (rows_of found)) b result) guarded
    (subst (λ o. IsExploreOrMistake o (first_of (codes "hprof") (rows_of found)) (first_of (codes "page") (rows_of found)) (first_of (codes "port") (rows_of found)) secret result) (texts.0 ∙ first_value-rows found (codes "from"))
    (subst (λ o. IsExploreOrMistake from o (first_of (codes "page") (rows_of found)) (first_of (codes "port") (rows_of found)) secret result) (texts.1 ∙ first_value-rows found (codes "hprof"))
    (subst (λ o. IsExploreOrMistake from hprof o (first_of (codes "port") (rows_of found)) secret result) (texts.2 ∙ first_value-rows found (codes "page"))
    (subst (λ o. IsExploreOrMistake from hprof page o secret result) (texts.3 ∙ first_value-rows found (codes "port")) h)))))
  where
    of_rows : (r : Result Task Mistake) → IsExploreOrMistake (first_of (codes "from") (rows_of found)) (first_of (codes "hprof") (rows_of found)) (first_of (codes "page") (rows_of found)) (first_of (codes "port") (rows_of found)) (has_secret (rows_of found)) r
        → IsReadOrMistake first_task_in (rows_of found) r
    of_rows (Ok task) made = (made.0, tt)
    of_rows (Err m) made = (tt, (made.1.0, explore_mistake_is_in_rows (said_of m) (rows_of found) made.1.1))

-- ---- what is told of the words

heapdbg_line_is_simple : is_simple heapdbg_line ≡ true
heapdbg_line_is_simple = refl

heapdbg_line_is_simple_and_free : is_simple_and_free heapdbg_line ≡ true
heapdbg_line_is_simple_and_free = refl

pub matches_tell_subcommand_rows : {E : Type 0} (a : App) (r : Result ArgMatches E) (words : List Text) → a ≡ heapdbg_line → IfOk r (HasMatchesOf a words) → IfOk r (λ m. subcommand_rows_of m ≡ subcommand_of heapdbg_line words)
matches_tell_subcommand_rows a (Ok m) words is h = (subst (λ x. HasMatchesOf x words m) is h heapdbg_line_is_simple).1
matches_tell_subcommand_rows a (Err e) words is h = tt

pub simple_faults : {T : Type 0} (a : App) (r : Result T Error) (words : List Text) → a ≡ heapdbg_line → (is_simple_and_free a ≡ true → FailsBy (fault_of a words) r) → FailsBy (fault_of heapdbg_line words) r
simple_faults a r words is h = subst (λ x. is_simple_and_free x ≡ true → FailsBy (fault_of x words) r) is h heapdbg_line_is_simple_and_free

rows_alone : (name : Text) (o : Option (Text × List Row)) → option_and_then (λ f. first_of name f.1) o ≡ option_and_then (first_of name) (option_map (λ p. p.1) o)
rows_alone name None = refl
rows_alone name (Some f) = refl

-- the path is that of the words
pub path_option_of_words : (name : Text) (o : Option (Text × List Row)) (found : Found) (r : Option (Bor Text)) (words : List Text) → Some (rows_of found) ≡ option_map (λ p. p.1) o → o ≡ subcommand_of heapdbg_line words
    → option_map (λ s. s.now) r ≡ first_value found name → IfSome r (λ path. path_of name words ≡ Some path.now)
path_option_of_words name o found None words rows is text = tt
path_option_of_words name o found (Some path) words rows is text =
    ap (option_and_then (λ f. first_of name f.1)) (sym is) ∙ rows_alone name o ∙ ap (option_and_then (first_of name)) (sym rows) ∙ sym (first_value-rows found name) ∙ sym text
