-- What holds in one case holds in the other form of it.
use Rattle.std.proofs.Common.{Bool, true, false}
use Rattle.std.specs.Prelude.{IfNone, MatchBool, Option, None, Some}

pub case_of_none_weakened : {X : Type 0} (r : Option X) (P Q : Type 0) → IfNone r P → (P → Q) → IfNone r Q
case_of_none_weakened None P Q h to = to h
case_of_none_weakened (Some x) P Q h to = tt

pub bool_cases_weakened : (b : Bool) (P Q P' Q' : Type 0) → MatchBool b P Q → (P → P') → (Q → Q') → MatchBool b P' Q'
bool_cases_weakened true P Q P' Q' h to other = to h
bool_cases_weakened false P Q P' Q' h to other = other h
