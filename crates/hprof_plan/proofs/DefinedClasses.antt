-- Classes of a session, one after another.
use Rattle.std.proofs.Common.{◌≡◌, ℕ, ◌+◌, ◌<◌, ◌≤◌, ◌^◌, Bool, false, not, ◌&&◌, cond, List, [], ◌∷◌, ◌++◌, length, Option, Some, None, refl, sym, ap, subst, ◌∙◌, arith, is_some}
use Rattle.std.specs.List.{list_any}
use Rattle.std.specs.Str.{bytes_eq}
use Rattle.std.proofs.lemmas.Bool.{cond-false}
use Rattle.std.proofs.lemmas.List.{length-append}
use Rattle.heap_class.specs.declared.ClassLimits.{ClassLimits}
use Rattle.heap_class.specs.Classes.{Class, class_refusal}
use Rattle.indexmap.specs.IndexSet.{insert_key}
use Rattle.session_lines.specs.EventLines.{line_of}
use Rattle.hprof_plan.specs.Accepted.{AreAccepted, class_event, class_lines, class_names, next_name}
use Rattle.hprof_plan.specs.Defined.{AreDefined}
use Rattle.hprof_plan.specs.Names.{AreGiven, given_name, is_clean, other_name}
use Rattle.hprof_plan.specs.declared.define.Defined.{Defined}
use Rattle.hprof_plan.proofs.ClassEvents.{accepted_more, lines_more}
use Rattle.hprof_plan.proofs.FieldLoops.{map_and}
use Rattle.hprof_plan.proofs.GivenNames.{given_name_is_new, one_given}

-- ---- names

abbrev name_in : Class → List ℕ
name_in c = c.name

-- a name that is given goes last
pub new_key_goes_last : (ks : List (List ℕ)) (k : List ℕ) → list_any (bytes_eq k) ks ≡ false → insert_key bytes_eq ks k ≡ ks ++ k ∷ []
new_key_goes_last ks k h = cond-false (list_any (bytes_eq k) ks) ks (ks ++ k ∷ []) h

pub goes_last : (limits : ClassLimits) (n : ℕ) (x given copy : List ℕ) (ks new : List (List ℕ)) → n < 2 ^ 64 → AreGiven limits n ks → given ≡ given_name limits ks n x → copy ≡ given
    → new ≡ insert_key bytes_eq ks copy → new ≡ ks ++ given ∷ []
goes_last limits n x given copy ks new long all is same e =
    e ∙ ap (insert_key bytes_eq ks) (same ∙ is)
    ∙ new_key_goes_last ks (given_name limits ks n x) (given_name_is_new limits n x ks long all)
    ∙ ap (λ (k : List ℕ). ks ++ k ∷ []) (sym is)

pub given_for : (limits : ClassLimits) (d : Defined) (n : ℕ) → AreDefined limits d → n ≡ length d.classes → AreGiven limits n d.names.keys
given_for limits d n def e =
    subst (λ (m : ℕ). AreGiven limits m d.names.keys) (sym e)
    (subst (λ (ks : List (List ℕ)). AreGiven limits (length d.classes) ks) (sym def.names) def.given)

pub next_is : (limits : ClassLimits) (d : Defined) (n : ℕ) (x given : List ℕ) → AreDefined limits d → n ≡ length d.classes → given ≡ given_name limits d.names.keys n x
    → given ≡ next_name limits d.classes x
next_is limits d n x given def e is =
    is ∙ ap (λ (ks : List (List ℕ)). given_name limits ks n x) def.names ∙ ap (λ (m : ℕ). given_name limits (class_names d.classes) m x) e

-- ---- one more class

pub one_longer : (cs : List Class) (c : Class) → length (cs ++ c ∷ []) ≡ length cs + 1
one_longer cs c = length-append cs (c ∷ [])

given_and : (limits : ClassLimits) (cs : List Class) (c : Class) (x : List ℕ) → AreGiven limits (length cs) (class_names cs) → c.name ≡ next_name limits cs x
    → AreGiven limits (length (cs ++ c ∷ [])) (class_names (cs ++ c ∷ []))
given_and limits cs c x all is =
    subst (λ (n : ℕ). AreGiven limits n (class_names (cs ++ c ∷ []))) (sym (one_longer cs c))
    (subst (λ (ks : List (List ℕ)). AreGiven limits (length cs + 1) ks) (sym (map_and name_in cs c))
    (subst (λ (k : List ℕ). AreGiven limits (length cs + 1) (class_names cs ++ k ∷ [])) (sym is) (one_given limits (length cs) x (class_names cs) all)))

pub defined_and : (limits : ClassLimits) (old new : Defined) (c : Class) (x : List ℕ) → AreDefined limits old → c.name ≡ next_name limits old.classes x
    → class_refusal limits old.classes c ≡ None → new.classes ≡ old.classes ++ c ∷ [] → new.lines ≡ old.lines ++ line_of (class_event c) → new.names.keys ≡ old.names.keys ++ c.name ∷ []
    → AreDefined limits new
defined_and limits old new c x def is taken classes lines names = record {
  accepted = subst (λ (cs : List Class). AreAccepted limits [] cs) (sym classes) (accepted_more limits [] old.classes c def.accepted taken);
  lines = lines ∙ ap (λ (t : List ℕ). t ++ line_of (class_event c)) def.lines ∙ sym (lines_more old.classes c) ∙ ap class_lines (sym classes);
  names = names ∙ ap (λ (ks : List (List ℕ)). ks ++ c.name ∷ []) def.names ∙ sym (map_and name_in old.classes c) ∙ ap class_names (sym classes);
  given = subst (λ (cs : List Class). AreGiven limits (length cs) (class_names cs)) (sym classes) (given_and limits old.classes c x def.given is);
}

-- ---- counts

pub counted_and : {V : Type 0} (kinds more : List (ℕ × V)) (classes new : List Class) (c : Class) (old : Option V) → length kinds ≡ length classes → new ≡ classes ++ c ∷ [] → old ≡ None
    → length more ≡ length kinds + cond (is_some old) 0 1 → length more ≡ length new
counted_and {V} kinds more classes new c old counted e none len =
    let one : length more ≡ length kinds + 1 = subst (λ (o : Option V). length more ≡ length kinds + cond (is_some o) 0 1) none len in
    omega (arith, one, counted, ap length e, one_longer classes c)

pub not_some_is_none : {V : Type 0} (o : Option V) → false ≡ is_some o → o ≡ None
not_some_is_none None h = refl
not_some_is_none (Some x) h = absurd cc

pub with_name : (make : List ℕ → Class) (old new : List Class) (given next : List ℕ) → given ≡ next → new ≡ old ++ make given ∷ [] → new ≡ old ++ make next ∷ []
with_name make old new given next is e = e ∙ ap (λ (n : List ℕ). old ++ make n ∷ []) is

pub given_as : (limits : ClassLimits) (ks : List (List ℕ)) (n : ℕ) (x given wanted : List ℕ) (b : Bool) → b ≡ list_any (bytes_eq wanted) ks → wanted ≡ x
    → given ≡ cond (is_clean limits x && not b) x (other_name limits n x) → given ≡ given_name limits ks n x
unfolding given_name
given_as limits ks n x given wanted b any same is =
    is ∙ ap (λ (v : Bool). cond (is_clean limits x && not v) x (other_name limits n x)) (any ∙ ap (λ (w : List ℕ). list_any (bytes_eq w) ks) same)

pub few_and : (classes new : List Class) (c : Class) (room : ℕ) → length classes < room → new ≡ classes ++ c ∷ [] → length new ≤ room
few_and classes new c room few e = omega (arith, few, ap length e, one_longer classes c)
