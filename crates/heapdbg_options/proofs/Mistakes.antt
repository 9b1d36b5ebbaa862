-- What is said of a mistake is said of the options' rows.
use Rattle.std.proofs.Common.{◌≡◌, ◌∙◌, ℕ, Bool, Err, List, Ok, Option, Result, Some, None, ap, codes, false, inl, inr, is_some, refl, subst, sym, true}
use Rattle.std.specs.Prelude.{◌==◌, option_map}
use Rattle.std.specs.Result.{IsErrAnd}
use Rattle.clap.specs.Words.{Row, Text, first_of}
use Rattle.heapdbg_options.specs.CommandLine.{area_default, area_in, dumps_with, flag_in, has_second, has_secret, id_size_in, most_area, number_or, option_size, option_value, page_with, port_in, regions_in, size_or, value_in, wide_in, with_area_in}
use Rattle.heapdbg_options.specs.Numbers.{Numbers, dump_port_numbers, flag_numbers, id_numbers, option_named, number_options, served_page_numbers, served_port_numbers, size_options, taken_text}
use Rattle.heapdbg_options.specs.Refusals.{IsExploreMistake, IsMistakeIn, IsNoSize, IsOutside, IsTargetMistake, IsValueOrMistake, area_rule, said_of, second_rule}
use Rattle.heapdbg_options.specs.declared.refusal.Mistake.{Mistake}
use Rattle.heapdbg_options.specs.declared.settings.Settings.{Settings}

refused_number_is_outside : (default least most : ℕ) (given : Option Text) → number_or default least most given ≡ None → IsOutside least most given
refused_number_is_outside default least most None e = cc
refused_number_is_outside default least most (Some text) e = e

-- a number that an option doesn't take is a mistake
pub number_mistake_is_in_rows : (n : Numbers) (default : ℕ) (rows : List Row) → option_named n.name number_options ≡ Some n → option_value n.name default n.least n.most rows ≡ None → IsMistakeIn (taken_text n) rows
number_mistake_is_in_rows n default rows listed none = inl (n, listed, refl, refused_number_is_outside default n.least n.most (first_of n.name rows) none)

no_size_within_bounds : (default least most : ℕ) (given : Option Text) → size_or default least most given ≡ None → IsNoSize least most given
no_size_within_bounds default least most None e = cc
no_size_within_bounds default least most (Some text) e = e

-- so is a size, of which the row is known by its numbers
pub size_mistake_is_in_rows : (wide : Bool) (n told : Numbers) (default : ℕ) (rows : List Row) → told ≡ n → wide_in rows ≡ Some wide → option_named n.name (size_options wide) ≡ Some n → option_size told.name default told.least told.most rows ≡ None
    → (option_size n.name default n.least n.most rows ≡ None) × IsMistakeIn (taken_text told) rows
size_mistake_is_in_rows wide n told default rows same found listed none =
    let unread : option_size n.name default n.least n.most rows ≡ None = subst (λ (x : Numbers). option_size x.name default x.least x.most rows ≡ None) same none in (
      unread,
      subst (λ (x : Numbers). IsMistakeIn (taken_text x) rows) (sym same) (inr (inl (wide, n, found, listed, refl, no_size_within_bounds default n.least n.most (first_of n.name rows) unread))),
    )

-- an area that is out of its range leaves no settings, and is a mistake
pub area_mistake_is_in_rows : (s : Settings) (rows : List Row) → wide_in rows ≡ Some s.wide → regions_in s.task s.wide rows ≡ Some s.regions → area_in s.task s.wide s.regions rows ≡ None
    → (with_area_in rows s ≡ None) × IsMistakeIn (area_rule s.wide) rows
area_mistake_is_in_rows s rows wide regions e = (
  ap (option_map (λ n. record s { area = n })) e,
  inr (inr (inl (s.task, s.wide, s.regions, refl, wide, regions, no_size_within_bounds (area_default s.task s.wide s.regions) 0 (most_area s.wide s.regions) (first_of (codes "area") rows) e))),
)

-- a size of identifiers that there isn't is a mistake
pub id_mistake_is_in_rows : (rows : List Row) → id_size_in rows ≡ None → IsMistakeIn (taken_text id_numbers) rows
id_mistake_is_in_rows rows none = inr (inr (inr (inl (refl, none))))

-- a port that there isn't is a mistake
pub port_mistake_is_in_rows : (rows : List Row) → port_in rows ≡ None → IsMistakeIn (taken_text served_port_numbers) rows
port_mistake_is_in_rows rows none = inr (inr (inr (inr (inl (refl, none)))))

-- so is a port for dumps
pub dump_port_mistake_is_in_rows : (port : ℕ) (rows : List Row) → port_in rows ≡ Some port → dumps_with port (first_of (codes "dumps") rows) ≡ None → IsMistakeIn (taken_text dump_port_numbers) rows
dump_port_mistake_is_in_rows port rows served none = inr (inr (inr (inr (inr (inl (port, refl, served, none))))))

-- so is a port of the page
pub page_mistake_is_in_rows : (port : ℕ) (dumps : Option ℕ) (rows : List Row) → port_in rows ≡ Some port → dumps_with port (first_of (codes "dumps") rows) ≡ Some dumps → page_with port dumps (first_of (codes "page") rows) ≡ None → IsMistakeIn (taken_text served_page_numbers) rows
page_mistake_is_in_rows port dumps rows served other none = inr (inr (inr (inr (inr (inr (inl (port, dumps, refl, served, other, none)))))))

-- a mistake in the two places of a save is one of the options
pub target_mistake_is_in_rows : (said : Text) (rows : List Row) → IsTargetMistake said (first_of (codes "out") rows) (first_of (codes "to") rows) → IsMistakeIn said rows
target_mistake_is_in_rows said rows h = inr (inr (inr (inr (inr (inr (inr (inl h)))))))

-- so is one in the options of `explore`
pub explore_mistake_is_in_rows : (said : Text) (rows : List Row) → IsExploreMistake said (first_of (codes "from") rows) (first_of (codes "hprof") rows) (first_of (codes "page") rows) (first_of (codes "port") rows) (has_secret rows) → IsMistakeIn said rows
explore_mistake_is_in_rows said rows h = inr (inr (inr (inr (inr (inr (inr (inr (inl h))))))))

-- a second dump without a first is a mistake
pub second_mistake_is_in_rows : (said : Text) (rows : List Row) → said ≡ second_rule → has_second rows ≡ true → is_some (first_of (codes "hprof") rows) ≡ false → IsMistakeIn said rows
second_mistake_is_in_rows said rows rule second none = inr (inr (inr (inr (inr (inr (inr (inr (inr (rule, second, none)))))))))

-- ---- what a `?` hands on

-- a mistake in what is read of the options is one in what is read of it
pub mistake_is_handed_on : {A : Type 0} (read : Option A) (rows : List Row) (m : Mistake) (r : Result A Mistake) → IsErrAnd r (λ y. y ≡ m) → read ≡ None → IsMistakeIn (said_of m) rows → IsValueOrMistake read (λ said. IsMistakeIn said rows) r
mistake_is_handed_on read rows m (Ok x) out none is = absurd out
mistake_is_handed_on read rows m (Err y) out none is = (tt, (none, subst (λ x. IsMistakeIn (said_of x) rows) (sym out) is))

-- a flag without a number is no flag
pub unread_number_is_no_flag : (n : Numbers) (name : Text) (rows : List Row) → n ≡ flag_numbers name → value_in n rows ≡ None → flag_in name rows ≡ None
unread_number_is_no_flag n name rows is none = ap (λ f. option_map (λ number. number == 1) (value_in f rows)) (sym is) ∙ ap (option_map (λ number. number == 1)) none

-- nothing is made where one of its parts is unread
pub unread_part_leaves_nothing : {A M : Type 0} (made : Option M) (read : Option A) → ((x : M) → made ≡ Some x → (part : A) × (read ≡ Some part)) → read ≡ None → made ≡ None
unread_part_leaves_nothing None read tells none = refl
unread_part_leaves_nothing (Some x) read tells none =
    let told = tells x refl in
    let both : None ≡ Some told.0 = sym none ∙ told.1 in
    cc

-- so a mistake in that part is handed on
pub unread_part_is_handed_on : {A M : Type 0} (made : Option M) (read : Option A) (rows : List Row) (m : Mistake) (r : Result M Mistake) → ((x : M) → made ≡ Some x → (part : A) × (read ≡ Some part)) → IsErrAnd r (λ y. y ≡ m)
    → read ≡ None → IsMistakeIn (said_of m) rows → IsValueOrMistake made (λ said. IsMistakeIn said rows) r
unread_part_is_handed_on made read rows m r tells out none is = mistake_is_handed_on made rows m r out (unread_part_leaves_nothing made read tells none) is
