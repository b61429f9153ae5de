-- View of code: members and subscripts, one after another.
use Rattle.std.specs.Prelude.{List, [], ◌∷◌}
use Rattle.cyc_tree.specs.View.{OneSuffix}
use Rattle.source_typing.specs.Expressions.{judge}
use Rattle.source_typing.specs.Places.{arrow, indexed, member}
use Rattle.source_typing.specs.Scope.{Env, Value}
use Rattle.check_faults.specs.Verdicts.{Short, short_after, short_both, shortened}

-- what is answered of a suffix, by what is answered of what stands before it
abbrev pub short_suffix : Env → Short Value → OneSuffix → Short Value
short_suffix g s (OneSuffix.Index e) = short_both s (shortened (judge g e)) (λ a b. shortened (indexed g a b))
short_suffix g s (OneSuffix.Dot f) = short_after s (λ a. shortened (member g f a))
short_suffix g s (OneSuffix.Arrow f) = short_after s (λ a. shortened (arrow g f a))

abbrev pub short_suffixes : Env → Short Value → List OneSuffix → Short Value
short_suffixes g s [] = s
short_suffixes g s (x ∷ xs) = short_suffixes g (short_suffix g s x) xs
