-- An option that no word names has no value among the matches.
use Rattle.std.proofs.Common.{◌≡◌, ◌∙◌, ℕ, zero, suc, Bool, true, false, ◌&&◌, ◌||◌, cond, List, [], ◌∷◌, ◌++◌, Option, Some, None, refl, sym, subst, arith}
use Rattle.std.specs.Prelude.{⊤, ◌==◌, nat_lt, not, is_some, find, fold, slice_get, length}
use Rattle.std.specs.List.{list_all}
use Rattle.std.specs.Str.{bytes_eq, chars}
use Rattle.std.proofs.lemmas.Slice.Eq.{bytes_eq-Decides}
use Rattle.std.proofs.lemmas.List.Folds.{list_any-append}
use Rattle.clap.specs.Lexer.{long_of, short_of}
use Rattle.std.specs.Option.{option_map_or}
use Rattle.clap.specs.declared.builder.value_parser.Reading.{Reading}
use Rattle.clap.specs.declared.parser.matches.ValueSource.{ValueSource}
use Rattle.clap.specs.Walk.{Held, has_long, has_short, is_empty, more_values, Row, Rule, Step, Text, Waiting, Walk}
use Rattle.clap.specs.Walk.{Outcome, done, waits, plain, refused, idle, option, positional, next, trailing, subcommand, value}
use Rattle.clap.specs.Walk.{Names, action_of, after_flag, after_step, bundle, default_rows, first_of, long_or_other, most_values, nothing_held, option_word, pending_count, plain_word, rows_after, short_or_plain, stop_after, to_positional, walk_from, walked, walked_from, with_default, word_met, attached_value, flag_met, long_met, option_met, pushed, reacted, settled_rows, short_met, started, used_by_id, arg_by_id, arg_by_index, arg_by_long, arg_by_short, at_row, bundle_met, bundle_step, has_row, reading_by, settled, used, used_as, with_values, without}
use Rattle.heapdbg_options.specs.CommandLine.{is_given, names_option}
use Rattle.clap.specs.declared.builder.action.ArgAction.{ArgAction}
use Rattle.clap.specs.declared.builder.action.ArgAction.TheVariants.{Set, Append, SetTrue, SetFalse, Count, Help, HelpShort, HelpLong, Version}

or_of_false_is_false : (x y : Bool) → x ≡ false → y ≡ false → (x || y) ≡ false
or_of_false_is_false x y e f = rw e f

or_false_left_is_false : (x y : Bool) → (x || y) ≡ false → x ≡ false
or_false_left_is_false true y e = e
or_false_left_is_false false y e = refl

pub or_false_right_is_false : (x y : Bool) → (x || y) ≡ false → y ≡ false
or_false_right_is_false true y e = cc
or_false_right_is_false false y e = e

-- a text that equals another is not named as that one isn't
equal_text_is_not_named : (a b name : Text) → bytes_eq a b ≡ true → bytes_eq b name ≡ false → bytes_eq a name ≡ false
equal_text_is_not_named a b name same other = rw ((bytes_eq-Decides a b).0 same) other

-- ---- rows

joined_rows_lack_name : (name : Text) (xs ys : List Row) → has_row name xs ≡ false → has_row name ys ≡ false → has_row name (xs ++ ys) ≡ false
joined_rows_lack_name name xs ys left right = list_any-append (λ r. bytes_eq r.id name) xs ys ∙ or_of_false_is_false _ _ left right

at_row_free : (name id : Text) (change : Row → List Row) (missing rows : List Row)
    → ((r : Row) → bytes_eq r.id id ≡ true → has_row name (change r) ≡ false)
    → has_row name missing ≡ false → has_row name rows ≡ false → has_row name (at_row id change missing rows) ≡ false
at_row_free name id change missing [] changes none free = none
at_row_free name id change missing (r ∷ rs) changes none free =
    go (at_row_free name id change missing rs changes none (or_false_right_is_false _ _ free)) (bytes_eq r.id id) refl
  where
    go : has_row name (at_row id change missing rs) ≡ false → (b : Bool) → bytes_eq r.id id ≡ b
        → has_row name (cond b (change r ++ rs) (r ∷ at_row id change missing rs)) ≡ false
    go kept true e = joined_rows_lack_name name (change r) rs (changes r e) (or_false_right_is_false _ _ free)
    go kept false e = or_of_false_is_false _ _ (or_false_left_is_false _ _ free) kept

row_removal_keeps_name_free : (name id : Text) (rows : List Row) → has_row name rows ≡ false → has_row name (without id rows) ≡ false
row_removal_keeps_name_free name id rows free = at_row_free name id (λ _. []) [] rows (λ r e. refl) refl free

with_values_free : (name id : Text) (how : Reading) (s : ValueSource) (values : List Text) (rows : List Row) → bytes_eq id name ≡ false
    → has_row name rows ≡ false → has_row name (with_values id how s values rows) ≡ false
with_values_free name id how s values rows other free = at_row_free name id (more_values s values) (record {
  id = id;
  values = values;
  count = None;
  source = Some s;
  reading = how;
} ∷ []) rows
    (λ r e. or_of_false_is_false _ _ (equal_text_is_not_named r.id id name e other) refl) (or_of_false_is_false _ _ other refl) free

-- the actions of the options of this program
abbrev pub is_value_or_help : ArgAction → Bool
is_value_or_help Set = true
is_value_or_help Help = true
is_value_or_help _ = false

used_as_free : (name : Text) (x : ArgAction) (id : Text) (how : Reading) (values : List Text) (rows : List Row) → is_value_or_help x ≡ true
    → bytes_eq id name ≡ false → has_row name rows ≡ false → has_row name (used_as x id how values rows) ≡ false
used_as_free name Set id how values rows is other free = with_values_free name id how _ values _ other (row_removal_keeps_name_free name id rows free)
used_as_free name Help id how values rows is other free = free
used_as_free name Append id how values rows is other free = cc
used_as_free name SetTrue id how values rows is other free = cc
used_as_free name SetFalse id how values rows is other free = cc
used_as_free name Count id how values rows is other free = cc
used_as_free name HelpShort id how values rows is other free = cc
used_as_free name HelpLong id how values rows is other free = cc
used_as_free name Version id how values rows is other free = cc

-- ---- rules

-- an option is named by its id, takes no place among positionals, and has neither a default nor, if its id is the name, a short
-- form
abbrev pub is_plain_rule : Text → Rule → Bool
is_plain_rule name r = option_map_or (λ s. bytes_eq s r.id) r.long false && (is_empty r.aliases
    && (not (is_some r.index) && (is_empty r.defaults && (is_value_or_help (action_of r)
    && (not (bytes_eq r.id name) || (not (is_some r.short) && is_empty r.short_aliases))))))

abbrev pub IsPlainRules : Text → List Rule → Type 0
IsPlainRules name c = list_all (is_plain_rule name) c ≡ true

pub and_true_gives_both : (x y : Bool) → (x && y) ≡ true → (x ≡ true) × (y ≡ true)
and_true_gives_both true y e = (refl, e)
and_true_gives_both false y e = cc

negation_true_means_false : (b : Bool) → not b ≡ true → b ≡ false
negation_true_means_false true e = cc
negation_true_means_false false e = refl

-- what a search finds passes what all pass, and its test
pub found_item_passes_both_tests : {X : Type 0} (p q : X → Bool) (c : List X) (a : X) → list_all q c ≡ true → find p c ≡ Some a → (q a ≡ true) × (p a ≡ true)
found_item_passes_both_tests p q [] a all e = cc
found_item_passes_both_tests p q (r ∷ rs) a all e = go (found_item_passes_both_tests p q rs a (and_true_gives_both _ _ all).1) (p r) refl e
  where
    go : (find p rs ≡ Some a → (q a ≡ true) × (p a ≡ true)) → (b : Bool) → p r ≡ b → cond b (Some r) (find p rs) ≡ Some a
        → (q a ≡ true) × (p a ≡ true)
    go later true h found =
        let same : r ≡ a = cc in
        subst (λ x. (q x ≡ true) × (p x ≡ true)) same ((and_true_gives_both _ _ all).0, h)
    go later false h found = later found

rule_search_finds_none : (p q : Rule → Bool) (c : List Rule) → ((r : Rule) → q r ≡ true → p r ≡ false) → list_all q c ≡ true → find p c ≡ None
rule_search_finds_none p q [] fails all = refl
rule_search_finds_none p q (r ∷ rs) fails all = rw (fails r (and_true_gives_both _ _ all).0) (rule_search_finds_none p q rs fails (and_true_gives_both _ _ all).1)

pub record IsPlainRule (name : Text) (r : Rule) : Type 0 where
  pub long : (n : Text) → has_long r n ≡ true → bytes_eq r.id n ≡ true
  pub index : r.index ≡ None
  pub defaults : r.defaults ≡ []
  pub action : is_value_or_help (action_of r) ≡ true
  pub short : (x : ℕ) → has_short r x ≡ true → bytes_eq r.id name ≡ false

empty_list_is_nil : {X : Type 0} (xs : List X) → is_empty xs ≡ true → xs ≡ []
empty_list_is_nil [] e = refl
empty_list_is_nil (x ∷ xs) e = grind (arith, e)

option_not_some_is_none : {X : Type 0} (o : Option X) → not (is_some o) ≡ true → o ≡ None
option_not_some_is_none None e = refl
option_not_some_is_none (Some x) e = cc

long_name_is_rule_name : (id n : Text) (o : Option Text) → option_map_or (λ s. bytes_eq s id) o false ≡ true → option_map_or (λ s. bytes_eq s n) o false ≡ true
    → bytes_eq id n ≡ true
long_name_is_rule_name id n None e h = cc
long_name_is_rule_name id n (Some s) e h = rw (← (bytes_eq-Decides s id).0 e) h

or_with_false_was_true : (b : Bool) → (b || false) ≡ true → b ≡ true
or_with_false_was_true true e = refl
or_with_false_was_true false e = e

not_and_short : (r : Rule) (x : ℕ) (b : Bool) → (not b || (not (is_some r.short) && is_empty r.short_aliases)) ≡ true → has_short r x ≡ true → b ≡ false
not_and_short r x false e h = refl
not_and_short r x true e h =
    let no_short : r.short ≡ None = option_not_some_is_none _ (and_true_gives_both _ _ e).0 in
    let no_alias : r.short_aliases ≡ [] = empty_list_is_nil _ (and_true_gives_both _ _ e).1 in
    let bad : false ≡ true = rw (no_short, no_alias) at h in
    cc (bad)

pub rule_tested_plain_is_plain : (name : Text) (r : Rule) → is_plain_rule name r ≡ true → IsPlainRule name r
rule_tested_plain_is_plain name r e =
    let a = and_true_gives_both _ _ e in
    let b = and_true_gives_both _ _ a.1 in
    let i = and_true_gives_both _ _ b.1 in
    let d = and_true_gives_both _ _ i.1 in
    let x = and_true_gives_both _ _ d.1 in
    let no_alias : r.aliases ≡ [] = empty_list_is_nil _ b.0 in
    record {
      long = λ n h. long_name_is_rule_name r.id n r.long a.0 (or_with_false_was_true _ (rw no_alias at h));
      index = option_not_some_is_none _ i.0;
      defaults = empty_list_is_nil _ d.0;
      action = x.0;
      short = λ y h. not_and_short r y _ x.1 h;
    }

-- ---- what is held between two words

-- the option whose values are read isn't the named one
abbrev pub IsPendingFree : Text → Option (Text × List Text) → Type 0
IsPendingFree name None = ⊤
IsPendingFree name (Some p) = bytes_eq p.0 name ≡ false

pub record IsFree (name : Text) (h : Held) : Type 0 where
  pub rows : has_row name h.rows ≡ false
  pub pending : IsPendingFree name h.pending

other_rule_used_keeps_free : (name : Text) (a : Rule) (values : List Text) (rows : List Row) → IsPlainRule name a → bytes_eq a.id name ≡ false
    → has_row name rows ≡ false → has_row name (used a values rows) ≡ false
other_rule_used_keeps_free name a values rows plain_a other free = used_as_free name (action_of a) a.id _ _ rows plain_a.action other free

settled_rows_free : (name : Text) (c : List Rule) (pending : Option (Text × List Text)) (rows : List Row) → IsPlainRules name c
    → IsPendingFree name pending → has_row name rows ≡ false → has_row name (settled_rows c pending rows) ≡ false
settled_rows_free name c None rows all pending_free free = free
settled_rows_free name c (Some p) rows all pending_free free = go (arg_by_id c p.0) refl
  where
    go : (o : Option Rule) → arg_by_id c p.0 ≡ o → has_row name (used_by_id o p.1 rows) ≡ false
    go None e = free
    go (Some a) e =
        let found = found_item_passes_both_tests (λ r. bytes_eq r.id p.0) (is_plain_rule name) c a all e in
        other_rule_used_keeps_free name a p.1 rows (rule_tested_plain_is_plain name a found.0) (equal_text_is_not_named a.id p.0 name found.1 pending_free) free

settled_free : (name : Text) (c : List Rule) (h : Held) → IsPlainRules name c → IsFree name h → has_row name (settled c h).rows ≡ false
settled_free name c h all free = settled_rows_free name c h.pending h.rows all free.pending free.rows

reacted_free : (name : Text) (c : List Rule) (a : Rule) (values : List Text) (h : Held) → IsPlainRules name c → IsPlainRule name a
    → bytes_eq a.id name ≡ false → IsFree name h → IsFree name (reacted c a values h)
reacted_free name c a values h all plain_a other free =
    record { rows = other_rule_used_keeps_free name a values _ plain_a other (settled_free name c h all free); pending = tt }

pushed_pending : (name id word : Text) (pending : Option (Text × List Text)) → bytes_eq id name ≡ false → IsPendingFree name pending
    → bytes_eq (started id pending).0 name ≡ false
pushed_pending name id word None other free = other
pushed_pending name id word (Some p) other free = free

pushed_word_keeps_name_free : (name id word : Text) (h : Held) → bytes_eq id name ≡ false → IsFree name h → IsFree name (pushed id word h)
pushed_word_keeps_name_free name id word h other free = record { rows = free.rows; pending = pushed_pending name id word h.pending other free.pending }

-- ---- one word

abbrev pub IsWaitingFree : Text → Waiting → Type 0
IsWaitingFree name idle = ⊤
IsWaitingFree name (option id) = bytes_eq id name ≡ false
IsWaitingFree name positional = ⊤

abbrev pub IsOutcomeFree : Text → Outcome → Type 0
IsOutcomeFree name (waits id) = bytes_eq id name ≡ false
IsOutcomeFree name done = ⊤
IsOutcomeFree name plain = ⊤
IsOutcomeFree name refused = ⊤

abbrev pub IsStepFree : Text → Step → Type 0
IsStepFree name (next waiting) = IsWaitingFree name waiting
IsStepFree name (trailing position) = ⊤
IsStepFree name (subcommand sub) = ⊥
IsStepFree name value = ⊤

abbrev pub IsWordFree : Text → Held × Step → Type 0
IsWordFree name met = IsFree name met.0 × IsStepFree name met.1

abbrev pub IsMetFree : Text → Held × Outcome → Type 0
IsMetFree name met = IsFree name met.0 × IsOutcomeFree name met.1

-- an option or a flag that isn't of this name
other_option_leaves_name_free : (name : Text) (c : List Rule) (a : Rule) (v : Option Text) (h : Held) (takes_value : Bool) → IsPlainRules name c → IsPlainRule name a
    → bytes_eq a.id name ≡ false → IsFree name h → IsMetFree name (cond takes_value (option_met c a v h) (flag_met c a v h))
other_option_leaves_name_free name c a (Some v) h true all plain_a other free = (reacted_free name c a (v ∷ []) h all plain_a other free, tt)
other_option_leaves_name_free name c a None h true all plain_a other free = (record { rows = settled_free name c h all free; pending = other }, other)
other_option_leaves_name_free name c a (Some v) h false all plain_a other free = (free, tt)
other_option_leaves_name_free name c a None h false all plain_a other free = (reacted_free name c a [] h all plain_a other free, tt)

long_met_free : (name n : Text) (c : List Rule) (v : Option Text) (h : Held) → IsPlainRules name c → bytes_eq n name ≡ false
    → IsFree name h → IsMetFree name (long_met c (arg_by_long c n) v h)
long_met_free name n c v h all other free = go (arg_by_long c n) refl
  where
    go : (o : Option Rule) → arg_by_long c n ≡ o → IsMetFree name (long_met c o v h)
    go None e = (free, tt)
    go (Some a) e =
        let found = found_item_passes_both_tests (λ r. not (is_some r.index) && has_long r n) (is_plain_rule name) c a all e in
        let plain_a = rule_tested_plain_is_plain name a found.0 in
        other_option_leaves_name_free name c a v h _ all plain_a (equal_text_is_not_named a.id n name (plain_a.long n (and_true_gives_both _ _ found.1).1) other) free

short_met_free : (name : Text) (x : ℕ) (c : List Rule) (rest : Text) (h : Held) (more : Held → Held × Outcome) → IsPlainRules name c
    → ((g : Held) → IsFree name g → IsMetFree name (more g)) → IsFree name h → IsMetFree name (short_met c (arg_by_short c x) rest h more)
short_met_free name x c rest h more all then free = go (arg_by_short c x) refl
  where
    by : (a : Rule) → IsPlainRule name a → bytes_eq a.id name ≡ false → (b : Bool)
        → IsMetFree name (cond b (option_met c a (attached_value rest) h) (more (reacted c a [] h)))
    by a plain_a not_a true = other_option_leaves_name_free name c a (attached_value rest) h true all plain_a not_a free
    by a plain_a not_a false = then _ (reacted_free name c a [] h all plain_a not_a free)

    go : (o : Option Rule) → arg_by_short c x ≡ o → IsMetFree name (short_met c o rest h more)
    go None e = (free, tt)
    go (Some a) e =
        let found = found_item_passes_both_tests (λ r. not (is_some r.index) && has_short r x) (is_plain_rule name) c a all e in
        let plain_a = rule_tested_plain_is_plain name a found.0 in
        by a plain_a (plain_a.short x (and_true_gives_both _ _ found.1).1) _

bundle_free : (name : Text) (c : List Rule) (k : ℕ) (flags : Text) (skip : ℕ) (so_far : Outcome) (h : Held) → IsPlainRules name c
    → IsOutcomeFree name so_far → IsFree name h → IsMetFree name (bundle_met c k flags skip so_far h)
unfolding bundle_met
bundle_free name c zero flags skip so_far h all so free = (free, so)
bundle_free name c (suc k) flags skip so_far h all so free =
    go (λ rest n out g so_out free_g. bundle_free name c k rest n out g all so_out free_g) (slice_get (chars flags) 0) skip
  where
    go : ((rest : Text) (n : ℕ) (out : Outcome) (g : Held) → IsOutcomeFree name out → IsFree name g → IsMetFree name (bundle_met c k rest n out g))
        → (o : Option ℕ) (n : ℕ) → IsMetFree name (bundle_step c o flags n so_far h (bundle_met c k))
    go later None n = (free, so)
    go later (Some x) zero = short_met_free name x c _ h _ all (λ g free_g. later _ 0 done g tt free_g) free
    go later (Some x) (suc n) = later _ n so_far h so free

after_flag_free : (name : Text) (c : List Rule) (waiting : Waiting) (word : Text) (h : Held) (out : Outcome) → IsFree name h → IsOutcomeFree name out
    → IsWordFree name (plain_word c waiting word h) → IsWordFree name (after_flag c waiting word h out)
after_flag_free name c waiting word h done free out other = (free, tt)
after_flag_free name c waiting word h (waits id) free out other = (free, out)
after_flag_free name c waiting word h plain free out other = other
after_flag_free name c waiting word h refused free out other = other

option_word_free : (name id word : Text) (c : List Rule) (h : Held) → bytes_eq id name ≡ false → IsFree name h
    → IsFree name (option_word (arg_by_id c id) id word h).0 × IsWaitingFree name (option_word (arg_by_id c id) id word h).1
option_word_free name id word c h other free = go (arg_by_id c id)
  where
    waits_on : (b : Bool) → IsWaitingFree name (cond b (option id) idle)
    waits_on true = other
    waits_on false = tt

    go : (o : Option Rule) → IsFree name (option_word o id word h).0 × IsWaitingFree name (option_word o id word h).1
    go None = (free, other)
    go (Some a) = (pushed_word_keeps_name_free name id word h other free, waits_on (nat_lt (pending_count a (pushed id word h).pending) (most_values a)))

plain_word_free : (name : Text) (c : List Rule) (waiting : Waiting) (word : Text) (h : Held) → IsWaitingFree name waiting → IsFree name h
    → IsWordFree name (plain_word c waiting word h)
plain_word_free name c idle word h other free = (free, tt)
plain_word_free name c positional word h other free = (free, tt)
plain_word_free name c (option id) word h other free = option_word_free name id word c h other free

long_or_other_free : (name : Text) (c : List Rule) (waiting : Waiting) (word : Text) (o : Option (Text × Option Text)) (h : Held) → IsPlainRules name c
    → option_map_or (λ p. bytes_eq p.0 name) o false ≡ false → IsWaitingFree name waiting → IsFree name h
    → IsWordFree name (long_or_other c waiting word o h)
long_or_other_free name c waiting word (Some p) h all other waits_free free =
    let met = long_met_free name p.0 c p.1 h all other free in
    after_flag_free name c waiting word _ (long_met c (arg_by_long c p.0) p.1 h).1 met.0 met.1
    (plain_word_free name c waiting word _ waits_free met.0)
long_or_other_free name c waiting word None h all other waits_free free = go (short_of word)
  where
    go : (o : Option Text) → IsWordFree name (short_or_plain c waiting word o h)
    go None = plain_word_free name c waiting word h waits_free free
    go (Some flags) =
        let begun : IsFree name (record h { skip = 0 }) = record { rows = free.rows; pending = free.pending } in
        let met = bundle_free name c (length flags) flags h.skip plain (record h { skip = 0 }) all tt begun in
        after_flag_free name c waiting word (bundle c flags h).0 (bundle c flags h).1 met.0 met.1
        (plain_word_free name c waiting word (bundle c flags h).0 waits_free met.0)

word_met_free : (name : Text) (c : List Rule) (is_trailing : Bool) (waiting : Waiting) (position : ℕ) (word : Text) (h : Held) → IsPlainRules name c
    → names_option name word ≡ false → IsWaitingFree name waiting → IsFree name h
    → IsWordFree name (word_met c [] is_trailing waiting position word h)
word_met_free name c true waiting position word h all other waits_free free = (free, tt)
word_met_free name c false waiting position word h all other waits_free free = by waiting waits_free
  where
    dashes : (w : Waiting) → IsWaitingFree name w → (b : Bool)
        → IsWordFree name (cond b (h, trailing position) (long_or_other c w word (long_of word) h))
    dashes w w_free true = (free, tt)
    dashes w w_free false = long_or_other_free name c w word (long_of word) h all other w_free free

    by : (w : Waiting) → IsWaitingFree name w → IsWordFree name (word_met c [] false w position word h)
    by idle w_free = dashes idle w_free (bytes_eq word (45 ∷ 45 ∷ []))
    by (option id) w_free = dashes (option id) w_free (bytes_eq word (45 ∷ 45 ∷ []))
    by positional w_free = dashes positional w_free (bytes_eq word (45 ∷ 45 ∷ []))

-- ---- the walk

pub record IsWalkFree (name : Text) (w : Walk) : Type 0 where
  pub held : IsFree name w.held
  pub waiting : IsWaitingFree name w.waiting
  pub going : w.stopped ≡ None

plain_rules_have_no_place : (name : Text) (c : List Rule) (i : ℕ) → IsPlainRules name c → arg_by_index c i ≡ None
plain_rules_have_no_place name c i all = rule_search_finds_none (λ a. option_map_or (λ k. k == i) a.index false) (is_plain_rule name) c
    (λ r e. let none : r.index ≡ None = (rule_tested_plain_is_plain name r e).index in rw none refl) all

after_step_free : (name : Text) (c : List Rule) (word : Text) (w : Walk) (h : Held) (s : Step) → IsPlainRules name c → IsWalkFree name w
    → IsFree name h → IsStepFree name s → IsWalkFree name (after_step c word w h s)
after_step_free name c word w h (next waiting) all walk_free free step_free =
    record { held = free; waiting = step_free; going = walk_free.going }
after_step_free name c word w h (trailing position) all walk_free free step_free =
    record { held = free; waiting = walk_free.waiting; going = walk_free.going }
after_step_free name c word w h (subcommand sub) all walk_free free step_free = absurd step_free
after_step_free name c word w h value all walk_free free step_free =
    rw (plain_rules_have_no_place name c w.position all) (record { held = free; waiting = walk_free.waiting; going = walk_free.going })

walked_free : (name : Text) (c : List Rule) (w : Walk) (word : Text) → IsPlainRules name c → names_option name word ≡ false → IsWalkFree name w
    → IsWalkFree name (walked c [] w word)
unfolding walked
walked_free name c w word all other walk_free =
    let met = word_met_free name c w.is_trailing w.waiting w.position word w.held all other walk_free.waiting walk_free.held in
    subst (λ (o : Option (Text × List Text)). IsWalkFree name (walked_from c [] o w word)) (sym walk_free.going)
    (after_step_free name c word w _ _ all walk_free met.0 met.1)

walk_stays_free : (name : Text) (c : List Rule) (w : Walk) (words : List Text) → IsPlainRules name c → is_given name words ≡ false → IsWalkFree name w
    → IsWalkFree name (fold (walked c []) w words)
walk_stays_free name c w [] all other walk_free = walk_free
walk_stays_free name c w (word ∷ rest) all other walk_free = walk_stays_free name c (walked c [] w word) rest all (or_false_right_is_false _ _ other)
    (walked_free name c w word all (or_false_left_is_false _ _ other) walk_free)

defaults_free : (name : Text) (rows : List Row) (c : List Rule) → IsPlainRules name c → has_row name rows ≡ false
    → has_row name (fold with_default rows c) ≡ false
defaults_free name rows [] all free = free
defaults_free name rows (a ∷ rest) all free = rw (same (has_row a.id rows)) (defaults_free name rows rest (and_true_gives_both _ _ all).1 free)
  where
    same : (b : Bool) → cond b rows (default_rows a.id (reading_by a) a.defaults rows) ≡ rows
    same true = refl
    same false =
        let none : a.defaults ≡ [] = (rule_tested_plain_is_plain name a (and_true_gives_both _ _ all).0).defaults in
        rw none refl

name_without_row_has_none : (name : Text) (rows : List Row) → has_row name rows ≡ false → first_of name rows ≡ None
name_without_row_has_none name [] free = refl
name_without_row_has_none name (r ∷ rest) free =
    let other : bytes_eq r.id name ≡ false = or_false_left_is_false _ _ free in
    rw other (name_without_row_has_none name rest (or_false_right_is_false _ _ free))

-- the words of a command give no value to an option that none of them names
pub unnamed_option_has_no_value : (name : Text) (c : List Rule) (words : List Text) → IsPlainRules name c → is_given name words ≡ false
    → first_of name (rows_after c [] words) ≡ None
unnamed_option_has_no_value name c words all other =
    let begun : IsWalkFree name (walk_from nothing_held) = record { held = record { rows = refl; pending = tt }; waiting = tt; going = refl } in
    let ended = walk_stays_free name c (walk_from nothing_held) words all other begun in
    name_without_row_has_none name _ (defaults_free name _ c all (settled_free name c _ all ended.held))

-- ---- the words before a subcommand

abbrev pub IsTailFree : Text → Option (Text × List Text) → Type 0
IsTailFree name None = ⊤
IsTailFree name (Some p) = is_given name p.1 ≡ false

stopped_tail : (name : Text) (c : List Rule) (word : Text) (w : Walk) (h : Held) (s : Step) → w.stopped ≡ None
    → IsTailFree name (after_step c word w h s).stopped
stopped_tail name c word w h (next waiting) none = rw none tt
stopped_tail name c word w h (trailing position) none = rw none tt
stopped_tail name c word w h (subcommand sub) none = refl
stopped_tail name c word w h value none = go (arg_by_index c w.position)
  where
    go : (o : Option Rule) → IsTailFree name (to_positional c o word w h).stopped
    go None = rw none tt
    go (Some a) = tt

walked_tail : (name : Text) (c : List Rule) (names : Names) (w : Walk) (word : Text) → names_option name word ≡ false → IsTailFree name w.stopped
    → IsTailFree name (walked c names w word).stopped
unfolding walked
walked_tail name c names w word other tail = go w.stopped refl tail
  where
    go : (o : Option (Text × List Text)) → w.stopped ≡ o → IsTailFree name o → IsTailFree name (walked_from c names o w word).stopped
    go None e tail_o = stopped_tail name c word w _ (word_met c names w.is_trailing w.waiting w.position word w.held).1 e
    go (Some p) e tail_o = list_any-append (names_option name) p.1 (word ∷ []) ∙ or_of_false_is_false _ _ tail_o (or_of_false_is_false _ _ other refl)

walk_tail : (name : Text) (c : List Rule) (names : Names) (w : Walk) (words : List Text) → is_given name words ≡ false → IsTailFree name w.stopped
    → IsTailFree name (fold (walked c names) w words).stopped
walk_tail name c names w [] other tail = tail
walk_tail name c names w (word ∷ rest) other tail = walk_tail name c names (walked c names w word) rest (or_false_right_is_false _ _ other)
    (walked_tail name c names w word (or_false_left_is_false _ _ other) tail)

-- what follows a subcommand names the option only if a word does
pub subcommand_tail_lacks_name : (name : Text) (c : List Rule) (names : Names) (words : List Text) → is_given name words ≡ false
    → IsTailFree name (stop_after c names words)
subcommand_tail_lacks_name name c names words other = walk_tail name c names (walk_from nothing_held) words other tt
